-- Batches of policies for ports, and the policy in force. A list of batches has the newest first.
use Rattle.std.specs.Prelude.{◌≡◌, ◌<◌, ◌≤◌, ℕ, ◌+◌, min, Bool, true, false, ◌==◌, nat_lt, if◌then◌else◌}
use Rattle.std.specs.Prelude.{List, [], ◌∷◌, length, reverse}
use Rattle.std.specs.Prelude.{Option, Some, None, option_map, slice_get, slice_index_or}
use Rattle.std.specs.List.{find, filter_map, list_any}
use Rattle.std.specs.Option.{option_flatten, option_map_or}
use Rattle.std.specs.declared.sync.Arc.{Arc}
use Rattle.std.specs.declared.alloc.Global.{Global}
use Rattle.gw_frame.specs.Record.{IsRecord}
use Rattle.gw_ledger.specs.Ports.{has_port}
use Rattle.gw_policy.specs.Filter.{Filter, filter_passes, filter_steps}

-- a port, and the policy that is to be in force for it
pub record Pair : Type 0 where
  pub port : ℕ
  pub policy : Filter

abbrev pub pair_of : Option (ℕ × Arc Filter Global) → Option Pair
pair_of p = option_map (λ pair. record { port = pair.0; policy = pair.1.value }) p

-- the pairs of a batch in the order in which they joined
abbrev pub pairs_of : List (Option (ℕ × Arc Filter Global)) → List Pair
pairs_of items = filter_map pair_of items

abbrev pub names : ℕ → Pair → Bool
names port pair = pair.port == port

abbrev pub names_port : ℕ → List Pair → Bool
names_port port pairs = list_any (names port) pairs

-- the policy of the last pair that names the port, else the one before
abbrev pub policy_after : ℕ → List Pair → Option Filter → Option Filter
policy_after port pairs before = option_map_or (λ pair. Some pair.policy) (find (names port) (reverse pairs)) before

abbrev pub last_policy : ℕ → List (List Pair) → Option Filter
last_policy port [] = None
last_policy port (newest ∷ earlier) = policy_after port newest (last_policy port earlier)

-- the policy in force for a port after these batches: none is the opening block
abbrev pub in_force : ℕ → List (List Pair) → Option Filter
in_force port batches = if nat_lt port 16 then last_policy port batches else None

-- the opening block passes nothing and counts as one instruction
abbrev pub passes : Option Filter → List ℕ → ℕ → Bool
passes policy octets port = option_map_or (λ filter. filter_passes filter octets port) policy false

-- two policies that pass the same frames
abbrev pub PassAlike : Option Filter → Option Filter → Type 0
PassAlike one other =
    (octets : List ℕ) (port : ℕ) → IsRecord octets → port < 256 → passes one octets port ≡ passes other octets port

abbrev pub steps : Option Filter → List ℕ → ℕ → ℕ
steps policy octets port = option_map_or (λ filter. filter_steps filter octets port) policy 1

-- the policies in force, by port, and the number of batches that put them there
pub record PortPolicies : Type 0 where
  pub policies : List (Option Filter)
  pub front : ℕ

abbrev pub policy_at : ℕ → PortPolicies → Option Filter
policy_at port set = option_flatten (slice_get set.policies port)

-- the port is in the group that a port up to it leads
pub record IsInGroup (groups : List (List ℕ)) (leaders : List ℕ) (port : ℕ) : Type 0 where
  pub first : ℕ
  pub up_to : first ≤ port
  pub leads : has_port first leaders ≡ true
  pub has : has_port port (slice_index_or groups first []) ≡ true

-- by port, ports whose policies pass the frames that its own passes. Each port below a number is in a group.
pub record HasGroups (n : ℕ) (set : PortPolicies) (groups : List (List ℕ)) (leaders : List ℕ) : Type 0 where
  pub long : length groups ≡ 16
  pub alike : (first port : ℕ) → has_port port (slice_index_or groups first []) ≡ true
      → PassAlike (policy_at first set) (policy_at port set)
  pub all : (port : ℕ) → port < n → IsInGroup groups leaders port

abbrev pub AreGroups : PortPolicies → List (List ℕ) → List ℕ → Type 0
AreGroups = HasGroups 16

-- the policies in force after these batches
pub record StandsAfter (set : PortPolicies) (batches : List (List Pair)) : Type 0 where
  pub front : set.front ≡ min (length batches) 4294967295
  pub policies : (port : ℕ) → policy_at port set ≡ in_force port batches

-- one batch more: of the sixteen ports each that it names has the policy of the last pair that names it
pub record Absorbs (old : PortPolicies) (batch : List Pair) (new : PortPolicies) : Type 0 where
  pub front : new.front ≡ min (old.front + 1) 4294967295
  pub policies : (port : ℕ) → policy_at port new ≡ (if nat_lt port 16 then policy_after port batch (policy_at port old) else None)
