-- One pair or one batch more in a set of policies.
use Rattle.std.proofs.Common.{◌≡◌, ℕ, zero, suc, ◌<◌, ◌≤◌, ◌==◌, nat_lt, Bool, true, false, cond, if◌then◌else◌, List, [], ◌∷◌}
use Rattle.std.proofs.Common.{◌++◌, length, map, set, get_or, Option, Some, None, refl, ap, sym, ◌∙◌, arith, ◌⊎◌, inl, inr}
use Rattle.std.specs.Prelude.{reverse, slice_get, option_map}
use Rattle.std.specs.List.{AllZip, find}
use Rattle.std.specs.Option.{option_flatten, option_map_or}
use Rattle.std.specs.declared.sync.Arc.{Arc}
use Rattle.std.specs.declared.alloc.Global.{Global}
use Rattle.std.proofs.lemmas.List.{reverse-append}
use Rattle.std.proofs.lemmas.Bool.{le-ltb, lt-ltb}
use Rattle.std.proofs.lemmas.Bool.Decides.{leb_tells, nat_tests}
use Rattle.std.proofs.Math.ListN.{length-set}
use Rattle.std.proofs.lemmas.Option.{slice_get-map, slice_get_past}
use Rattle.gw_policy.specs.Filter.{Filter}
use Rattle.gw_policy.proofs.PairLists.{Held, pairs_push}
use Rattle.gw_policy.specs.Batches.{Pair, PortPolicies, pairs_of, names, policy_after, policy_at, in_force, StandsAfter, Absorbs}

found : (here : Bool) (pair : Pair) (later : Option Pair) (before : Option Filter)
    → option_map_or (λ p. Some p.policy) (cond here (Some pair) later) before
    ≡ (if here then Some pair.policy else option_map_or (λ p. Some p.policy) later before)
found true pair later before = refl
found false pair later before = refl

-- the last pair decides where it names the port
pub policy_after-more : (port : ℕ) (pairs : List Pair) (pair : Pair) (before : Option Filter)
    → policy_after port (pairs ++ pair ∷ []) before
    ≡ (if pair.port == port then Some pair.policy else policy_after port pairs before)
policy_after-more port pairs pair before =
    rw reverse-append (found (pair.port == port) pair (find (names port) (reverse pairs)) before)

-- what the set holds for a port
abbrev pub PortPolicy : Type 0
PortPolicy = Option (Arc Filter Global)

abbrev pub policy_of : PortPolicy → Option Filter
policy_of policy = option_map (λ policy. policy.value) policy

abbrev pub policy_in : List PortPolicy → ℕ → Option Filter
policy_in policies port = option_flatten (slice_get (map policy_of policies) port)

slice_get-set : (policies : List PortPolicy) (i : ℕ) (policy : PortPolicy) (j : ℕ) → i < length policies
    → slice_get (set policies i policy) j ≡ (if i == j then Some policy else slice_get policies j)
slice_get-set [] i policy j within = absurd (omega arith)
slice_get-set (x ∷ policies) zero policy zero within = refl
slice_get-set (x ∷ policies) zero policy (suc j) within = grind (arith, nat_tests)
slice_get-set (x ∷ policies) (suc i) policy zero within = grind (arith, nat_tests)
slice_get-set (x ∷ policies) (suc i) policy (suc j) within =
    let within' : i < length policies = omega arith in
    let same : (suc i == suc j) ≡ (i == j) = grind (arith, nat_tests) in
    rw same (slice_get-set policies i policy j within')

chosen : (here : Bool) (policy : PortPolicy) (before : Option PortPolicy)
    → option_flatten (option_map policy_of (if here then Some policy else before))
    ≡ (if here then policy_of policy else option_flatten (option_map policy_of before))
chosen true policy before = refl
chosen false policy before = refl

pub policy_in-set : (policies : List PortPolicy) (i : ℕ) (policy : PortPolicy) (port : ℕ) → i < length policies
    → policy_in (set policies i policy) port ≡ (if i == port then policy_of policy else policy_in policies port)
policy_in-set policies i policy port within =
    ap option_flatten (slice_get-map policy_of (set policies i policy) port
    ∙ ap (option_map policy_of) (slice_get-set policies i policy port within))
    ∙ chosen (i == port) policy (slice_get policies port)
    ∙ ap (λ before. if i == port then policy_of policy else option_flatten before) (sym (slice_get-map policy_of policies port))

-- no policy beyond the last port
pub policy_in-past : (policies : List PortPolicy) (port : ℕ) → length policies ≤ port → policy_in policies port ≡ None
policy_in-past policies port past =
    ap option_flatten (slice_get-map policy_of policies port ∙ ap (option_map policy_of) (slice_get_past policies port past))

order : (a b : ℕ) → (a < b) ⊎ (b ≤ a)
order a b = elim (leb_tells b a) [ inl t ↦ inr t.1 | inr t ↦ inl t.1 ]

-- what the sixteen ports have once a policy was put for a port, which may be none of theirs
abbrev pub sixteen_after : ℕ → Option Filter → ℕ → Option Filter → Option Filter
sixteen_after port policy other before = if nat_lt other 16 then (if port == other then policy else before) else None

pub put_within : (policies : List PortPolicy) (port : ℕ) (policy : PortPolicy) → length policies ≡ 16 → port < 16 → (other : ℕ)
    → policy_in (set policies port policy) other ≡ sixteen_after port (policy_of policy) other (policy_in policies other)
put_within policies port policy long within other =
    elim (order other 16) [
      | inl below ↦ (let e = lt-ltb other 16 below in rw e (policy_in-set policies port policy other (omega arith)))
      | inr past ↦ (let e = le-ltb other 16 past in
          rw e (policy_in-past (set policies port policy) other (omega (arith, length-set policies port policy))))
    ]

pub put_beyond : (policies : List PortPolicy) (port : ℕ) (policy : PortPolicy) → length policies ≡ 16 → 16 ≤ port → (other : ℕ)
    → policy_in policies other ≡ sixteen_after port (policy_of policy) other (policy_in policies other)
put_beyond policies port policy long beyond other =
    elim (order other 16) [
      | inl below ↦ (let e = lt-ltb other 16 below in let apart : (port == other) ≡ false = grind (arith, nat_tests) in
          rw (e, apart) refl)
      | inr past ↦ (let e = le-ltb other 16 past in rw e (policy_in-past policies other (omega arith)))
    ]

-- sets of which each policy is a clone of the other's hold the same
pub policies_copied : (R : PortPolicy → PortPolicy → Type 0) (policies copies : List PortPolicy)
    → ((x y : PortPolicy) → R x y → policy_of y ≡ policy_of x) → AllZip R policies copies
    → map policy_of copies ≡ map policy_of policies
policies_copied R [] [] same all = refl
policies_copied R [] (y ∷ copies) same all = absurd all
policies_copied R (x ∷ policies) [] same all = absurd all
policies_copied R (x ∷ policies) (y ∷ copies) same all =
    ap (λ policy. policy ∷ map policy_of copies) (same x y all.0)
    ∙ ap (λ rest. policy_of x ∷ rest) (policies_copied R policies copies same all.1)

-- ports for which no policy was put
pub empty_policies : (policies : List PortPolicy)
    → ((i : ℕ) (d : PortPolicy) → i < length policies → get_or policies i d ≡ None) → (port : ℕ)
    → policy_in policies port ≡ None
empty_policies [] empty port = refl
empty_policies (x ∷ policies) empty zero = ap policy_of (empty 0 None (omega arith))
empty_policies (x ∷ policies) empty (suc port) = empty_policies policies (λ i d within. empty (suc i) d (omega arith)) port

pub none_in_force : (port : ℕ) → let nothing : Option Filter = None in nothing ≡ in_force port []
none_in_force port =
    let nothing : Option Filter = None in
    elim (nat_lt port 16) as (λ b. nothing ≡ (if b then nothing else nothing)) [ true ↦ refl | false ↦ refl ]

in_force-more : (port : ℕ) (batch : List Pair) (batches : List (List Pair)) (before : Option Filter)
    → before ≡ in_force port batches
    → (if nat_lt port 16 then policy_after port batch before else None) ≡ in_force port (batch ∷ batches)
in_force-more port batch batches before same =
    elim (order port 16) [
      | inl below ↦ (let e = lt-ltb port 16 below in rw e (ap (policy_after port batch) (same ∙ (rw e refl))))
      | inr past ↦ (let e = le-ltb port 16 past in rw e refl)
    ]

-- a set that stands after some batches stands, with one absorbed more, after that one too
pub stands_after-more : (old new : PortPolicies) (batch : List Pair) (batches : List (List Pair)) → Absorbs old batch new
    → StandsAfter old batches
    → StandsAfter new (batch ∷ batches)
stands_after-more old new batch batches absorbed stands =
    record {
      front = omega (arith, absorbed.front, stands.front);
      policies = λ port. absorbed.policies port ∙ in_force-more port batch batches (policy_at port old) (stands.policies port);
    }

-- one pair more was put
pub policy_after-put : (port : ℕ) (done : List Held) (next : ℕ) (policy : Arc Filter Global) (first before after : Option Filter)
    → port < 16
    → after ≡ sixteen_after next (Some policy.value) port before → before ≡ policy_after port (pairs_of done) first
    → after ≡ policy_after port (pairs_of (done ++ Some (next, policy) ∷ [])) first
policy_after-put port done next policy first before after below put same =
    let e = lt-ltb port 16 below in
    put ∙ (rw e refl) ∙ ap (λ known. if next == port then Some policy.value else known) same
    ∙ sym (policy_after-more port (pairs_of done) (record { port = next; policy = policy.value }) first)
    ∙ ap (λ pairs. policy_after port pairs first) (sym (pairs_push done next policy))

-- what is known of the sixteen ports is known of all
pub sixteen_policies : (policies : List PortPolicy) (after : ℕ → Option Filter) → length policies ≡ 16
    → ((port : ℕ) → port < 16 → policy_in policies port ≡ after port) → (port : ℕ)
    → policy_in policies port ≡ (if nat_lt port 16 then after port else None)
sixteen_policies policies after long known port =
    elim (order port 16) [
      | inl below ↦ (let e = lt-ltb port 16 below in rw e (known port below))
      | inr past ↦ (let e = le-ltb port 16 past in rw e (policy_in-past policies port (omega arith)))
    ]
