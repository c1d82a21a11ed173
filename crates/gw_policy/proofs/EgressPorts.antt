-- The ports at which a frame may leave, by groups of ports whose policies pass the same frames.
use Rattle.std.proofs.Common.{◌≡◌, ℕ, suc, ◌+◌, ◌<◌, ◌≤◌, Bool, true, false, if◌then◌else◌, List, [], sym, ap, ◌∙◌}
use Rattle.std.proofs.Common.{subst, refl, arith, not, ◌==◌, ◌&&◌, ◌||◌, nat_lt}
use Rattle.std.proofs.Common.{inl, inr, slice_index_or, set, length, replicate, Option, zero, ◌∷◌}
use Rattle.std.proofs.lemmas.Bool.{and_from, and_parts, cases_eq, eq-eqb, false≢true, lt-ltb, ltb-true, ne_eqb, or_left, or_right}
use Rattle.std.proofs.lemmas.List.{get_or_default, get_or-set_other, get_or-set_same, length-set}
use Rattle.gw_ledger.specs.Ports.{has_port, ports_below}
use Rattle.gw_ledger.proofs.Callers.{has_port-ports_below, ports_within, same_ports}
use Rattle.gw_policy.specs.Filter.{Filter}
use Rattle.gw_policy.specs.Batches.{HasGroups, IsInGroup, PassAlike, PortPolicies, policy_at}

-- ---- tests

same_test : (a b : Bool) → (a ≡ true → b ≡ true) → (b ≡ true → a ≡ true) → a ≡ b
same_test true b there back = sym (there refl)
same_test false true there back = back refl
same_test false false there back = refl

-- ---- groups of ports

pub alike_itself : (policy : Option Filter) → PassAlike policy policy
alike_itself policy octets port is_record fits = refl

-- one port more is put into the group of one that passes the same frames
pub one_more_group : (n first : ℕ) (policies : PortPolicies) (groups : List (List ℕ)) (group absent leaders leading : List ℕ)
    → HasGroups n policies groups leaders → first ≤ n → n < 16 → PassAlike (policy_at first policies) (policy_at n policies)
    → ((port : ℕ) → has_port port group ≡ ((n == port) || has_port port (slice_index_or groups first absent)))
    → has_port first leading ≡ true → ((port : ℕ) → has_port port leaders ≡ true → has_port port leading ≡ true)
    → HasGroups (n + 1) policies (set groups first group) leading
one_more_group n first policies groups group absent leaders leading before up_to below alike more leads still = record {
  long = length-set groups first group ∙ before.long;
  alike = λ other port has. elim (cases_eq other first) [
    | inl same ↦ subst (λ k. PassAlike (policy_at k policies) (policy_at port policies)) (sym same)
        (own port (sym (members port) ∙ sym (ap (has_port port) here)
        ∙ sym (ap (λ k. has_port port (slice_index_or (set groups first group) k [])) same) ∙ has))
    | inr apart ↦ before.alike other port (sym (ap (has_port port) (get_or-set_other groups first other group [] apart)) ∙ has)
  ];
  all = λ port less. elim (cases_eq port n) [
    | inl same ↦ record {
      first = first;
      up_to = omega (arith, up_to, same);
      leads = leads;
      has = ap (has_port port) here ∙ members port
          ∙ or_left (n == port) (has_port port (slice_index_or groups first [])) (eq-eqb n port (sym same));
    }
    | inr apart ↦ kept port (before.all port (omega arith))
  ];
}
  where
    within : first < length groups
    within = omega (arith, before.long)

    here : slice_index_or (set groups first group) first [] ≡ group
    here = get_or-set_same groups first group [] within

    members : (port : ℕ) → has_port port group ≡ ((n == port) || has_port port (slice_index_or groups first []))
    members port =
        more port ∙ ap (λ old. (n == port) || has_port port old) (get_or_default groups first absent [] within)

    own : (port : ℕ) → ((n == port) || has_port port (slice_index_or groups first [])) ≡ true
        → PassAlike (policy_at first policies) (policy_at port policies)
    own port is = elim (cases_eq n port) [
      | inl same ↦ subst (λ k. PassAlike (policy_at first policies) (policy_at k policies)) same alike
      | inr apart ↦ before.alike first port
          (ap (λ b. b || has_port port (slice_index_or groups first [])) (sym (ne_eqb n port apart)) ∙ is)
    ]

    kept : (port : ℕ) → IsInGroup groups leaders port → IsInGroup (set groups first group) leading port
    kept port group_of = record {
      first = group_of.first;
      up_to = group_of.up_to;
      leads = still group_of.first group_of.leads;
      has = elim (cases_eq group_of.first first) [
        | inl same ↦ ap (λ k. has_port port (slice_index_or (set groups first group) k [])) same ∙ ap (has_port port) here
            ∙ members port ∙ or_right (n == port) (has_port port (slice_index_or groups first []))
            (ap (λ k. has_port port (slice_index_or groups k [])) (sym same) ∙ group_of.has)
        | inr apart ↦ ap (has_port port) (get_or-set_other groups first group_of.first group [] apart) ∙ group_of.has
      ];
    }

all_empty : (n k : ℕ) (empty : List ℕ) → empty ≡ [] → slice_index_or (replicate n empty) k [] ≡ []
all_empty zero k empty is = refl
all_empty (suc n) zero empty is = is
all_empty (suc n) (suc k) empty is = all_empty n k empty is

-- no port is in a group yet
pub no_groups : (policies : PortPolicies) (empty leaders : List ℕ) → empty ≡ []
    → HasGroups 0 policies (replicate 16 empty) leaders
no_groups policies empty leaders is = record {
  long = refl;
  alike = λ first port has. absurd (false≢true (sym (ap (has_port port) (all_empty 16 first empty is)) ∙ has));
  all = λ port less. absurd (omega arith);
}

-- ---- a frame's egress ports

-- what the groups give of the ports asked for, but those of the leaders that are left
pub record Gathered (left leaders : List ℕ) (groups : List (List ℕ)) (asked : List ℕ) (test : ℕ → Bool) (passing : List ℕ)
    : Type 0 where
  pub low : (port : ℕ) → has_port port left ≡ true → port < 16
  pub set : passing ≡ ports_below 16 (λ port. has_port port passing)
  pub sound : (port : ℕ) → has_port port passing ≡ true → (has_port port asked && test port) ≡ true
  pub whole : (first port : ℕ) → has_port first leaders ≡ true → has_port first left ≡ false → port < 16
      → has_port port (slice_index_or groups first []) ≡ true → (has_port port asked && test port) ≡ true
      → has_port port passing ≡ true

pub nothing_yet : (leaders : List ℕ) (leading : ℕ → Bool) (groups : List (List ℕ)) (asked passing : List ℕ) (test : ℕ → Bool)
    → leaders ≡ ports_below 16 leading → passing ≡ [] → Gathered leaders leaders groups asked test passing
unfolding ports_below
nothing_yet leaders leading groups asked passing test leaders_are is = record {
  low = λ port has. ltb-true port 16 (and_parts (nat_lt port 16) (leading port)
      (sym (ap (has_port port) leaders_are ∙ has_port-ports_below 16 port leading) ∙ has)).0;
  set = is ∙ sym (ap (λ l. ports_below 16 (λ port. has_port port l)) is);
  sound = λ port has. absurd (false≢true (ap (has_port port) (sym is) ∙ has));
  whole = λ first port leads gone. absurd (false≢true (sym gone ∙ leads));
}

-- the next leader is a port
pub next_low : (n : ℕ) (left rest leaders : List ℕ) (groups : List (List ℕ)) (asked passing : List ℕ) (test : ℕ → Bool)
    → Gathered left leaders groups asked test passing → left ≡ n ∷ rest → n < 16
next_low n left rest leaders groups asked passing test before next =
    before.low n (ap (has_port n) next ∙ or_left (n == n) (has_port n rest) (eq-eqb n n refl))

-- The group of one leader more gives all it has of those asked for, or none: as the leader's policy passes.
pub one_more_gathered : (n : ℕ) (left rest leaders : List ℕ) (groups : List (List ℕ)) (asked passing group part more : List ℕ)
    (test : ℕ → Bool) → Gathered left leaders groups asked test passing → left ≡ n ∷ rest
    → ((port : ℕ) → has_port port (slice_index_or groups n []) ≡ true → test n ≡ test port)
    → group ≡ ports_below 16 (λ port. has_port port (slice_index_or groups n []) && has_port port asked)
    → part ≡ (if test n then group else []) → more ≡ ports_below 16 (λ port. has_port port passing || has_port port part)
    → Gathered rest leaders groups asked test more
one_more_gathered n left rest leaders groups asked passing group part more test before next alike group_is part_is more_is =
    record {
      low = λ port has. before.low port (ap (has_port port) next ∙ or_right (n == port) (has_port port rest) has);
      set = more_is ∙ same_ports 16 (λ port. has_port port passing || has_port port part) (λ port. has_port port more)
          (λ port low. sym (in_more port low));
      sound = λ port has.
          let (low, either) = and_parts (nat_lt port 16) (has_port port passing || has_port port part)
          (sym (more_has port) ∙ has) in
          one_passes port (has_port port passing) (has_port port part) (before.sound port) (new port) either;
      whole = λ first port leads gone low has asks. in_more port low ∙ elim (cases_eq n first) [
        | inl this ↦ or_right (has_port port passing) (has_port port part)
            (given port low (ap (λ k. has_port port (slice_index_or groups k [])) this ∙ has) asks)
        | inr other ↦ or_left (has_port port passing) (has_port port part)
            (before.whole first port leads
            (ap (has_port first) next ∙ ap (λ b. b || has_port first rest) (ne_eqb n first other) ∙ gone) low has asks)
      ];
    }
  where
    more_has : (port : ℕ) → has_port port more ≡ (nat_lt port 16 && (has_port port passing || has_port port part))
    more_has port =
        ap (has_port port) more_is ∙ has_port-ports_below 16 port (λ port. has_port port passing || has_port port part)

    in_more : (port : ℕ) → port < 16 → has_port port more ≡ (has_port port passing || has_port port part)
    in_more port low = more_has port ∙ ap (λ b. b && (has_port port passing || has_port port part)) (lt-ltb port 16 low)

    group_has : (port : ℕ)
        → has_port port group ≡ (nat_lt port 16 && (has_port port (slice_index_or groups n []) && has_port port asked))
    group_has port =
        ap (has_port port) group_is
        ∙ has_port-ports_below 16 port (λ port. has_port port (slice_index_or groups n []) && has_port port asked)

    part_has : (port : ℕ) (b : Bool) → test n ≡ b → has_port port part ≡ (b && has_port port group)
    part_has port true is = ap (has_port port) (part_is ∙ ap (λ b. if b then group else []) is)
    part_has port false is = ap (has_port port) (part_is ∙ ap (λ b. if b then group else []) is)

    new : (port : ℕ) → has_port port part ≡ true → (has_port port asked && test port) ≡ true
    new port has =
        let (passes, inside) = and_parts (test n) (has_port port group) (sym (part_has port (test n) refl) ∙ has) in
        let (low, there) = and_parts (nat_lt port 16) (has_port port (slice_index_or groups n []) && has_port port asked)
        (sym (group_has port) ∙ inside) in
        let (own, asks) = and_parts (has_port port (slice_index_or groups n [])) (has_port port asked) there in
        and_from (has_port port asked) (test port) asks (sym (alike port own) ∙ passes)

    given : (port : ℕ) → port < 16 → has_port port (slice_index_or groups n []) ≡ true → (has_port port asked && test port) ≡ true
        → has_port port part ≡ true
    given port low own asks =
        let (is_asked, passes) = and_parts (has_port port asked) (test port) asks in
        part_has port (test n) refl
        ∙ and_from (test n) (has_port port group) (alike port own ∙ passes) (group_has port
        ∙ and_from (nat_lt port 16) (has_port port (slice_index_or groups n []) && has_port port asked) (lt-ltb port 16 low)
        (and_from (has_port port (slice_index_or groups n [])) (has_port port asked) own is_asked))

    one_passes : (port : ℕ) (a b : Bool) → (a ≡ true → (has_port port asked && test port) ≡ true)
        → (b ≡ true → (has_port port asked && test port) ≡ true) → (a || b) ≡ true → (has_port port asked && test port) ≡ true
    one_passes port true b old new is = old refl
    one_passes port false b old new is = new is

-- The groups of the leaders below a number give those of the ports asked for that pass.
pub all_gathered : (ports : ℕ) (below asked : List ℕ) (groups : List (List ℕ)) (leaders here none : List ℕ)
    (policies : PortPolicies) (egress : List ℕ) (passing : ℕ → Bool) → ports ≤ 16 → below ≡ ports_below ports (λ _. true)
    → ((port : ℕ) → has_port port asked ≡ true → port < ports) → HasGroups 16 policies groups leaders
    → here ≡ ports_below 16 (λ port. has_port port leaders && has_port port below) → none ≡ []
    → Gathered none here groups asked passing egress → egress ≡ ports_below 16 (λ port. has_port port asked && passing port)
all_gathered ports below asked groups leaders here none policies egress passing fits below_is within known here_is none_is all =
    all.set ∙ same_ports 16 (λ port. has_port port egress) (λ port. has_port port asked && passing port) agree
  where
    leads_here : (first : ℕ) → first < ports → has_port first leaders ≡ true → has_port first here ≡ true
    leads_here first less leads =
        let inside : has_port first below ≡ true = ap (has_port first) below_is ∙ has_port-ports_below ports first (λ _. true)
        ∙ ap (λ b. b && true) (lt-ltb first ports less) in
        ap (has_port first) here_is ∙ has_port-ports_below 16 first (λ port. has_port port leaders && has_port port below)
        ∙ and_from (nat_lt first 16) (has_port first leaders && has_port first below)
        (lt-ltb first 16 (omega (arith, less, fits))) (and_from (has_port first leaders) (has_port first below) leads inside)

    agree : (port : ℕ) → port < 16 → has_port port egress ≡ (has_port port asked && passing port)
    agree port low = same_test (has_port port egress) (has_port port asked && passing port) (λ has. all.sound port has)
        (λ passes.
        let (asks, rest) = and_parts (has_port port asked) (passing port) passes in
        let less = within port asks in
        let group = known.all port low in
        all.whole group.first port (leads_here group.first (omega (arith, group.up_to, less)) group.leads)
        (ap (has_port group.first) none_is) low group.has passes)

-- ---- the ports but the ingress port

without_own : (a b : Bool) → (a && (b && true)) ≡ (b && a)
without_own true true = refl
without_own true false = refl
without_own false true = refl
without_own false false = refl

-- those below a number, without one port
pub others_below : (ports from : ℕ) (below others : List ℕ) → ports ≤ 16 → below ≡ ports_below ports (λ _. true)
    → others ≡ ports_below 16 (λ other. not (other == from) && has_port other below)
    → others ≡ ports_below ports (λ port. not (port == from))
others_below ports from below others fits below_is others_is =
    others_is
    ∙ same_ports 16 (λ other. not (other == from) && has_port other below) (λ port. nat_lt port ports && not (port == from))
    (λ port low. ap (λ b. not (port == from) && b) (ap (has_port port) below_is ∙ has_port-ports_below ports port (λ _. true))
    ∙ without_own (not (port == from)) (nat_lt port ports))
    ∙ ports_within 16 ports (λ port. not (port == from)) fits

module _ (ports from : ℕ) (others : List ℕ) (others_is : others ≡ ports_below ports (λ port. not (port == from))) where
  has_other : (port : ℕ) → has_port port others ≡ (nat_lt port ports && not (port == from))
  has_other port = ap (has_port port) others_is ∙ has_port-ports_below ports port (λ port. not (port == from))

  pub others_within : (port : ℕ) → has_port port others ≡ true → port < ports
  others_within port has =
      ltb-true port ports (and_parts (nat_lt port ports) (not (port == from)) (sym (has_other port) ∙ has)).0

  turned : (a b p : Bool) → ((a && b) && p) ≡ (a && (b && p))
  turned true b p = refl
  turned false b p = refl

  -- those that pass are the egress ports
  pub sent_elsewhere : ports ≤ 16 → (egress : List ℕ) (passing : ℕ → Bool)
      → egress ≡ ports_below 16 (λ port. has_port port others && passing port)
      → egress ≡ ports_below ports (λ port. not (port == from) && passing port)
  sent_elsewhere fits egress passing egress_is =
      egress_is
      ∙ same_ports 16 (λ port. has_port port others && passing port)
      (λ port. nat_lt port ports && (not (port == from) && passing port))
      (λ port low. ap (λ b. b && passing port) (has_other port)
      ∙ turned (nat_lt port ports) (not (port == from)) (passing port))
      ∙ ports_within 16 ports (λ port. not (port == from) && passing port) fits
