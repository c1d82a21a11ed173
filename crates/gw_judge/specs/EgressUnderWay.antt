-- How far what leaves of a log was written: `old` and `new` are what its writer took, before a call and after it.
use Rattle.std.specs.Prelude.{◌≡◌, ◌≤◌, ◌<◌, ℕ, ◌==◌, not, ◌&&◌, Bool, true, List, ◌++◌, length, reverse, slice_index_or}
use Rattle.std.specs.Prelude.{take, Option, Result, Ok, Err}
use Rattle.std.specs.List.{flat_map}
use Rattle.std.specs.Io.KnownBytes.{Appends, Consumes}
use Rattle.gw_io.specs.Written.{WritesPart}
use Rattle.gw_log.specs.LogLines.{Entry}
use Rattle.gw_claims.specs.Holders.{HoldsAfter}
use Rattle.gw_ledger.specs.Ports.{ports_below}
use Rattle.gw_policy.specs.Batches.{Pair, PortPolicies, passes, policy_at}
use Rattle.gw_judge.specs.declared.fault.JudgeFault.{JudgeFault}
use Rattle.gw_judge.specs.declared.fault.JudgeFault.TheVariants.{ReadFault, WriteFault, Refused}
use Rattle.gw_judge.specs.declared.interfaces.NamedInterface.{NamedInterface}
use Rattle.gw_judge.specs.declared.egress.Egress.{Egress}
use Rattle.gw_judge.specs.Egress.{egress_text, heard_at, lines_at, log_egress}
use Rattle.gw_judge.specs.Judged.{log_lines}
use Rattle.gw_judge.specs.LineParts.{IsEndless}

-- a frame that was taken at one port may leave at another, by the policies of a set
abbrev pub set_passes : PortPolicies → ℕ → List ℕ → ℕ → Bool
set_passes policies own octets port = not (port == own) && passes (policy_at port policies) octets own

-- the lines at the ports below a number at which a frame may leave
abbrev pub lines_below : List NamedInterface → PortPolicies → Entry → ℕ → ℕ → List ℕ
lines_below names policies entry own n =
    flat_map (lines_at names entry) (ports_below n (set_passes policies own entry.octets))

-- by port, the claims after the records that were heard there
abbrev pub HearPorts : List (List (Option ℕ)) → (ℕ → List (List ℕ)) → Type 0
HearPorts claims heard = (port : ℕ) (d : List (Option ℕ)) → port < 16 → HoldsAfter (slice_index_or claims port d) (heard port)

-- after these lines the text was written and the rest of what leaves is held
pub record HasEgress (names : List NamedInterface) (batches : List (List Pair)) (octets : List ℕ) (p : Egress) (text : List ℕ)
    : Type 0 where
  pub lines : List (List ℕ)
  pub rest : List ℕ
  pub split : (later : List ℕ) → log_lines (octets ++ later) ≡ reverse lines ++ log_lines (rest ++ later)
  pub endless : IsEndless rest
  pub kept : p.kept.items ≡ take 65537 rest
  pub written : text ++ p.gathered.held.items ≡ egress_text names batches lines
  pub heard : HearPorts p.claims (heard_at names lines)

-- this text stands in front of what leaves of a log
pub record BeginsEgress (names : List NamedInterface) (batches : List (List Pair)) (log text : List ℕ) : Type 0 where
  pub tail : List ℕ
  pub whole : log_egress names batches log ≡ text ++ tail

-- a write failed, and a beginning of what leaves was written
abbrev pub FailsEgress : List NamedInterface → List (List Pair) → List ℕ → List ℕ → Option (List ℕ) → Option (List ℕ) → Bool
    → JudgeFault → Type 0
FailsEgress names batches log text old new failed WriteFault =
    (failed ≡ true) × ((more : List ℕ) × WritesPart old new more × BeginsEgress names batches log (text ++ more))
FailsEgress names batches log text old new failed ReadFault = ⊥
FailsEgress names batches log text old new failed (Refused refused) = ⊥

-- these octets were taken; or whatever follows them, a write failed
abbrev pub ReachesEgress : {A : Type 0} → List NamedInterface → List (List Pair) → List ℕ → List ℕ → Option (List ℕ)
    → Option (List ℕ) → Bool → Result A JudgeFault → Egress → Type 0
ReachesEgress names batches octets text old new failed (Ok done) p =
    (more : List ℕ) × Appends old new more × HasEgress names batches octets p (text ++ more)
ReachesEgress names batches octets text old new failed (Err fault) p =
    (later : List ℕ) → FailsEgress names batches (octets ++ later) text old new failed fault

-- all that leaves was written
abbrev pub EndsEgress : {A : Type 0} → List NamedInterface → List (List Pair) → List ℕ → List ℕ → Option (List ℕ)
    → Option (List ℕ) → Bool → Result A JudgeFault → Type 0
EndsEgress names batches octets text old new failed (Ok done) =
    (more : List ℕ) × Appends old new more × (text ++ more ≡ log_egress names batches octets)
EndsEgress names batches octets text old new failed (Err fault) =
    FailsEgress names batches octets text old new failed fault

-- the reader gave octets and what is left of its last piece; of the octets the text was written
pub record IsEgressUnderWay (names : List NamedInterface) (batches : List (List Pair)) (before after old new : Option (List ℕ))
    (rest : List ℕ) (p : Egress) (parts : ℕ) : Type 0 where
  pub octets : List ℕ
  pub text : List ℕ
  pub consumed : Consumes before after (octets ++ rest)
  pub written : Appends old new text
  pub taken : HasEgress names batches octets p text
  pub some : parts ≤ length octets
