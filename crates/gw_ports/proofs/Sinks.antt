-- What the threads of a run handed to sinks, and what they did, in lists.
use Rattle.std.proofs.Common.{◌≡◌, ◌∙◌, ℕ, List, [], ◌∷◌, ◌++◌, map, Vec, Global, Option, vec_capacity, sym, ap, subst, refl}
use Rattle.std.proofs.Common.{append-nil, append_assoc}
use Rattle.std.specs.List.{All}
use Rattle.gw_ledger.specs.declared.outcome.FrameCopy.{FrameCopy}
use Rattle.gw_ledger.specs.declared.outcome.Outcome.{Outcome}
use Rattle.gw_ports.specs.Running.{Drained, Fed, HasDrained, HasFed, HasTaken, IsDone, Pairwise, feeding_of}
use Rattle.gw_ports.specs.Sinks.{AllHanded, Appends, Handed}
use Rattle.gw_ports.specs.declared.running.feed.Done.{Done}
use Rattle.gw_ports.specs.declared.running.feed.Feed.{Feed}
use Rattle.gw_ports.specs.declared.running.drain.Drain.{Drain}
use Rattle.gw_ports.proofs.Runs.{all_tail}

-- one list behind another
pub handed_on : {K A : Type 0} (takes : K → A → K → Type 0) (old : K) (items more : List A) (now new : K)
    → Handed takes old items now → Handed takes now more new → Handed takes old (items ++ more) new
handed_on {K} takes old [] more now new same handed = subst (λ (k : K). Handed takes k more new) same handed
handed_on takes old (first ∷ items) more now new before handed =
    (before.0, before.1, handed_on takes before.0 items more now new before.2 handed)

-- one item more
pub handed_more : {K A : Type 0} (takes : K → A → K → Type 0) (old : K) (items : List A) (now : K) (item : A) (new : K)
    → Handed takes old items now → takes now item new → Handed takes old (items ++ item ∷ []) new
handed_more takes old items now item new handed took = handed_on takes old items (item ∷ []) now new handed (new, took, refl)

-- a list has what it was handed, in the same room

pub handed_list : {A : Type 0} (old : Vec A Global) (items : List A) (new : Vec A Global) → Handed Appends old items new
    → (new.items ≡ old.items ++ items) × (vec_capacity new ≡ vec_capacity old)
handed_list old [] new handed =
    (ap (λ v. v.items) handed ∙ sym (append-nil old.items), ap (λ v. vec_capacity v) handed)
handed_list {A} old (item ∷ items) new handed =
    let next = handed.1 in
    let rest = handed_list handed.0 items new handed.2 in (
      rest.0 ∙ ap (λ (l : List A). l ++ items) next.0 ∙ append_assoc old.items (item ∷ []) items,
      rest.1 ∙ next.1,
    )

pub handed_lists : {A : Type 0} (olds : List (Vec A Global)) (lists : List (List A)) (news : List (Vec A Global))
    → All (λ list. list.items ≡ []) olds → AllHanded Appends olds lists news
    → (map (λ list. list.items) news ≡ lists) × (map (λ list. vec_capacity list) news ≡ map (λ list. vec_capacity list) olds)
handed_lists [] [] [] empty handed = (refl, refl)
handed_lists [] [] (n ∷ news) empty handed = absurd handed
handed_lists [] (l ∷ lists) news empty handed = absurd handed
handed_lists (o ∷ olds) [] news empty handed = absurd handed
handed_lists (o ∷ olds) (l ∷ lists) [] empty handed = absurd handed
handed_lists {A} (o ∷ olds) (l ∷ lists) (n ∷ news) empty handed =
    let all = all_tail (λ (v : Vec A Global). v.items ≡ []) o olds empty in
    let here = handed_list o l n handed.0 in
    let rest = handed_lists olds lists news all.1 handed.1 in (
      ap (λ (x : List A). x ∷ map (λ (v : Vec A Global). v.items) news) (here.0 ∙ ap (λ (x : List A). x ++ l) all.0)
          ∙ ap (λ (m : List (List A)). l ∷ m) rest.0,
      ap (λ (c : ℕ). c ∷ map (λ (v : Vec A Global). vec_capacity v) news) here.1
          ∙ ap (λ (m : List ℕ). vec_capacity o ∷ m) rest.1,
    )

-- what the ingress threads did

module _ {S O : Type 0} (steps : S → Option (List ℕ) → S → Type 0) (takes : O → Outcome → O → Type 0) where
  abbrev pub feds : (feeds : List (Feed S O)) (done : List (Done S O)) → Pairwise (HasFed steps takes) feeds done → List (Fed S)
  feds [] [] pairs = []
  feds [] (one ∷ done) pairs = absurd pairs
  feds (feed ∷ feeds) [] pairs = absurd pairs
  feds (feed ∷ feeds) (one ∷ done) pairs =
      record { port = one.port; outcomes = pairs.0.outcomes; stop = one.stop; rest = one.input } ∷ feds feeds done pairs.1

  pub feds_are : (feeds : List (Feed S O)) (done : List (Done S O)) (pairs : Pairwise (HasFed steps takes) feeds done)
      → Pairwise (IsDone steps) (map feeding_of feeds) (feds feeds done pairs)
  feds_are [] [] pairs = tt
  feds_are [] (one ∷ done) pairs = absurd pairs
  feds_are (feed ∷ feeds) [] pairs = absurd pairs
  feds_are (feed ∷ feeds) (one ∷ done) pairs = (pairs.0.did, feds_are feeds done pairs.1)

  -- what a thread hands back is what it did
  pub feds_from : {B : Type 0} (of_fed : Fed S → B) (of_done : Done S O → B)
      → ((one : Done S O) (outcomes : List Outcome)
      → of_fed (record { port = one.port; outcomes = outcomes; stop = one.stop; rest = one.input }) ≡ of_done one)
      → (feeds : List (Feed S O)) (done : List (Done S O)) (pairs : Pairwise (HasFed steps takes) feeds done)
      → map of_done done ≡ map of_fed (feds feeds done pairs)
  feds_from of_fed of_done same [] [] pairs = refl
  feds_from of_fed of_done same [] (one ∷ done) pairs = absurd pairs
  feds_from of_fed of_done same (feed ∷ feeds) [] pairs = absurd pairs
  feds_from {B} of_fed of_done same (feed ∷ feeds) (one ∷ done) pairs =
      ap (λ (b : B). b ∷ map of_done done) (sym (same one pairs.0.outcomes))
      ∙ ap
      (λ (l : List B). of_fed (record { port = one.port; outcomes = pairs.0.outcomes; stop = one.stop; rest = one.input }) ∷ l)
      (feds_from of_fed of_done same feeds done pairs.1)

  pub feds_handed : (feeds : List (Feed S O)) (done : List (Done S O)) (pairs : Pairwise (HasFed steps takes) feeds done)
      → AllHanded takes (map (λ feed. feed.outcomes) feeds) (map (λ fed. fed.outcomes) (feds feeds done pairs))
      (map (λ one. one.outcomes) done)
  feds_handed [] [] pairs = tt
  feds_handed [] (one ∷ done) pairs = absurd pairs
  feds_handed (feed ∷ feeds) [] pairs = absurd pairs
  feds_handed (feed ∷ feeds) (one ∷ done) pairs = (pairs.0.handed, feds_handed feeds done pairs.1)

-- what the egress threads did

module _ {C : Type 0} (takes : C → FrameCopy → C → Type 0) where
  abbrev pub drained_by : (drains drained : List (Drain C)) → Pairwise (HasDrained takes) drains drained → List Drained
  drained_by [] [] pairs = []
  drained_by [] (one ∷ drained) pairs = absurd pairs
  drained_by (drain ∷ drains) [] pairs = absurd pairs
  drained_by (drain ∷ drains) (one ∷ drained) pairs =
      record { port = one.port; copies = pairs.0.copies } ∷ drained_by drains drained pairs.1

  pub drained_are : (drains drained : List (Drain C)) (pairs : Pairwise (HasDrained takes) drains drained)
      → Pairwise HasTaken (map (λ drain. drain.port) drains) (drained_by drains drained pairs)
  drained_are [] [] pairs = tt
  drained_are [] (one ∷ drained) pairs = absurd pairs
  drained_are (drain ∷ drains) [] pairs = absurd pairs
  drained_are (drain ∷ drains) (one ∷ drained) pairs = (pairs.0.took, drained_are drains drained pairs.1)

  pub drained_ports : (drains drained : List (Drain C)) (pairs : Pairwise (HasDrained takes) drains drained)
      → map (λ one. one.port) drained ≡ map (λ one. one.port) (drained_by drains drained pairs)
  drained_ports [] [] pairs = refl
  drained_ports [] (one ∷ drained) pairs = absurd pairs
  drained_ports (drain ∷ drains) [] pairs = absurd pairs
  drained_ports (drain ∷ drains) (one ∷ drained) pairs = ap (λ l. one.port ∷ l) (drained_ports drains drained pairs.1)

  pub drained_handed : (drains drained : List (Drain C)) (pairs : Pairwise (HasDrained takes) drains drained)
      → AllHanded takes (map (λ drain. drain.out) drains) (map (λ one. one.copies) (drained_by drains drained pairs))
      (map (λ one. one.out) drained)
  drained_handed [] [] pairs = tt
  drained_handed [] (one ∷ drained) pairs = absurd pairs
  drained_handed (drain ∷ drains) [] pairs = absurd pairs
  drained_handed (drain ∷ drains) (one ∷ drained) pairs = (pairs.0.handed, drained_handed drains drained pairs.1)
