-- A run on dealt frames is a run on the lists of the ports' shares.
use Rattle.std.proofs.Common.{◌≡◌, ◌∙◌, ◌⊎◌, inl, inr, ℕ, zero, suc, ◌<◌, false, List, [], ◌∷◌, ◌++◌, length, map}
use Rattle.std.proofs.Common.{Option, Some, None, slice_index_or, append-nil, append_assoc, ap, arith, refl, subst, sym, ⊎_elim}
use Rattle.std.specs.Iterator.{Yields}
use Rattle.gw_ports.specs.Running.{Fed, Feeding, Gives, IsDone, Pairwise}
use Rattle.gw_ports.specs.declared.refusals.OfferRefusal.{OfferRefusal}
use Rattle.gw_run.specs.Dealing.{HasPut}
use Rattle.gw_run.specs.Dealt.{Dealt, Putting, Puts, Taken, TakesItem}
use Rattle.gw_run.proofs.ListRuns.{AreLists, given}

-- ---- what an end gave

abbrev dealt : List (List ℕ) → List Dealt
dealt frames = map Some frames

-- frames that were taken, one after another
yielded : (frames : List (List ℕ)) (old new : Taken) → Yields TakesItem old frames new → old.is_over ≡ false
    → (new.items ≡ old.items ++ dealt frames) × (new.is_over ≡ false)
yielded [] old new same going = (
  ap (λ (end : Taken). end.items) (sym same) ∙ sym (append-nil old.items),
  subst (λ (end : Taken). end.is_over ≡ false) same going,
)
yielded (frame ∷ frames) old new step going =
    let later = yielded frames step.0 new step.2 (step.1.goes_on going) in (
      later.0 ∙ ap (λ (l : List Dealt). l ++ dealt frames) (step.1.taken going)
          ∙ append_assoc old.items (Some frame ∷ []) (dealt frames),
      later.1,
    )

same_ring : (frames : List (List ℕ)) (old new : Taken) → Yields TakesItem old frames new → new.ring ≡ old.ring
same_ring [] old new same = ap (λ (end : Taken). end.ring) (sym same)
same_ring (frame ∷ frames) old new step = same_ring frames step.0 new step.2 ∙ step.1.same

given_ring : (input : Taken) (frames : List (List ℕ)) (stop : Option OfferRefusal) (rest : Taken)
    → Gives TakesItem input frames stop rest → rest.ring ≡ input.ring
given_ring input frames None rest gave = gave.2.same ∙ same_ring frames input gave.0 gave.1
given_ring input frames (Some why) rest gave = same_ring (frames ++ gave.0 ∷ []) input rest gave.1

-- ---- two lists that begin alike

-- what is taken of frames is their front, whatever stands behind them
taken_front : (xs ys : List (List ℕ)) (more tail : List Dealt) → (tail ≡ []) ⊎ (tail ≡ None ∷ [])
    → dealt xs ++ more ≡ dealt ys ++ tail → (left : List (List ℕ)) × (ys ≡ xs ++ left)
taken_front [] ys more tail end same = (ys, refl)
taken_front (x ∷ xs) (y ∷ ys) more tail end same =
    let later = taken_front xs ys more tail end (rest_same same) in
    (later.0, ap (λ (f : List ℕ). f ∷ ys) (sym (first_same same)) ∙ ap (λ (l : List (List ℕ)). x ∷ l) later.1)
  where
    first_same : {p q : List Dealt} → Some x ∷ p ≡ Some y ∷ q → x ≡ y
    first_same e = cc

    rest_same : {p q : List Dealt} → Some x ∷ p ≡ Some y ∷ q → p ≡ q
    rest_same e = cc
taken_front (x ∷ xs) [] more tail (inl none) same = absurd (bad (same ∙ none))
  where
    bad : {p : List Dealt} → Some x ∷ p ≡ [] → ⊥
    bad e = cc
taken_front (x ∷ xs) [] more tail (inr end) same = absurd (bad (same ∙ end))
  where
    bad : {p : List Dealt} → Some x ∷ p ≡ None ∷ [] → ⊥
    bad e = cc

-- where their end was taken, all were
taken_all : (xs ys : List (List ℕ)) (more : List Dealt) → (dealt xs ++ None ∷ []) ++ more ≡ dealt ys ++ None ∷ [] → xs ≡ ys
taken_all [] [] more same = refl
taken_all [] (y ∷ ys) more same = absurd (bad same)
  where
    bad : {p q : List Dealt} → None ∷ p ≡ Some y ∷ q → ⊥
    bad e = cc
taken_all (x ∷ xs) [] more same = absurd (bad same)
  where
    bad : {p q : List Dealt} → Some x ∷ p ≡ None ∷ q → ⊥
    bad e = cc
taken_all (x ∷ xs) (y ∷ ys) more same =
    ap (λ (f : List ℕ). f ∷ xs) (first_same same) ∙ ap (λ (l : List (List ℕ)). y ∷ l) (taken_all xs ys more (rest_same same))
  where
    first_same : {p q : List Dealt} → Some x ∷ p ≡ Some y ∷ q → x ≡ y
    first_same e = cc

    rest_same : {p q : List Dealt} → Some x ∷ p ≡ Some y ∷ q → p ≡ q
    rest_same e = cc

-- an end that was not put is not taken
no_end : (xs ys : List (List ℕ)) (more : List Dealt) → (dealt xs ++ None ∷ []) ++ more ≡ dealt ys → ⊥
no_end [] [] more same = bad same
  where
    bad : {p : List Dealt} → None ∷ p ≡ [] → ⊥
    bad e = cc
no_end [] (y ∷ ys) more same = bad same
  where
    bad : {p q : List Dealt} → None ∷ p ≡ Some y ∷ q → ⊥
    bad e = cc
no_end (x ∷ xs) [] more same = bad same
  where
    bad : {p : List Dealt} → Some x ∷ p ≡ [] → ⊥
    bad e = cc
no_end (x ∷ xs) (y ∷ ys) more same = no_end xs ys more (rest_same same)
  where
    rest_same : {p q : List Dealt} → Some x ∷ p ≡ Some y ∷ q → p ≡ q
    rest_same e = cc

-- ---- a port

-- all that was put at a port's end, of which this was taken
pub record IsPortDealt (whole : List (List ℕ)) (input rest : Taken) : Type 0 where
  pub nothing : (input.items ≡ []) × (input.is_over ≡ false)
  pub dealt_to : Putting
  pub put : HasPut whole dealt_to
  pub ended : Putting
  pub end : Puts dealt_to None ended
  pub more : List Dealt
  pub taken : rest.items ++ more ≡ ended.put

-- what was put behind the frames: their end, where all of them were put, or nothing
module _ {whole : List (List ℕ)} {input rest : Taken} (is : IsPortDealt whole input rest) where
  behind : (tail : List Dealt) × ((tail ≡ []) ⊎ (tail ≡ None ∷ [])) × (is.ended.put ≡ dealt is.put.front ++ tail)
  behind =
      ⊎_elim (λ more. (None ∷ [], inr refl, more.0 ∙ ap (λ (l : List Dealt). l ++ None ∷ []) is.put.put))
      (λ same. ([], inl refl, same.0 ∙ is.put.put ∙ sym (append-nil (dealt is.put.front)))) is.end.put

  -- some of the frames were taken
  some_taken : (frames : List (List ℕ)) → rest.items ≡ dealt frames → (left : List (List ℕ)) × (whole ≡ frames ++ left)
  some_taken frames taken =
      let front = taken_front frames is.put.front is.more behind.0 behind.1
      (ap (λ (l : List Dealt). l ++ is.more) (sym taken) ∙ is.taken ∙ behind.2) in (
        front.0 ++ is.put.others,
        is.put.parts ∙ ap (λ (l : List (List ℕ)). l ++ is.put.others) front.1 ∙ append_assoc frames front.0 is.put.others,
      )

  -- all of them were, and their end
  all_taken : (frames : List (List ℕ)) → rest.items ≡ dealt frames ++ None ∷ [] → whole ≡ frames ++ []
  all_taken frames taken =
      ⊎_elim
      (λ more.
      is.put.parts ∙ ap (λ (l : List (List ℕ)). is.put.front ++ l) (is.put.whole more.1)
      ∙ ap (λ (l : List (List ℕ)). l ++ [])
      (sym (taken_all frames is.put.front is.more (so ∙ more.0 ∙ ap (λ (l : List Dealt). l ++ None ∷ []) is.put.put))))
      (λ same. absurd (no_end frames is.put.front is.more (so ∙ same.0 ∙ is.put.put))) is.end.put
    where
      so : (dealt frames ++ None ∷ []) ++ is.more ≡ is.ended.put
      so = ap (λ (l : List Dealt). l ++ is.more) (sym taken) ∙ is.taken

port_list : (whole : List (List ℕ)) (input rest : Taken) (frames : List (List ℕ)) (stop : Option OfferRefusal)
    (gave : Gives TakesItem input frames stop rest) → IsPortDealt whole input rest
    → (left : List (List ℕ)) × (whole ≡ given TakesItem input frames stop rest gave ++ left) × (stop ≡ None → left ≡ [])
port_list whole input rest frames None gave is =
    let items = yielded frames input gave.0 gave.1 is.nothing.1 in (
      [],
      all_taken is frames
          (gave.2.taken items.1 ∙ ap (λ (l : List Dealt). l ++ None ∷ [])
          (items.0 ∙ ap (λ (l : List Dealt). l ++ dealt frames) is.nothing.0)),
      λ ended. refl,
    )
port_list whole input rest frames (Some why) gave is =
    let items = yielded (frames ++ gave.0 ∷ []) input rest gave.1 is.nothing.1 in
    let some = some_taken is (frames ++ gave.0 ∷ [])
    (items.0 ∙ ap (λ (l : List Dealt). l ++ dealt (frames ++ gave.0 ∷ [])) is.nothing.0) in
    (some.0, some.1, λ ended. absurd (stopped ended))
  where
    stopped : Some why ≡ None → ⊥
    stopped e = cc

-- ---- all ports

abbrev inputs_of : List (Feeding Taken) → List Taken
inputs_of feeds = map (λ feed. feed.input) feeds

abbrev rests_of : List (Fed Taken) → List Taken
rests_of dones = map (λ one. one.rest) dones

pub dealt_lists : (feeds : List (Feeding Taken)) (dones : List (Fed Taken)) (done : Pairwise (IsDone TakesItem) feeds dones)
    (wholes : List (List (List ℕ))) → length wholes ≡ length feeds
    → ((k : ℕ) (w : List (List ℕ)) (i r : Taken) → k < length feeds
    → IsPortDealt (slice_index_or wholes k w) (slice_index_or (inputs_of feeds) k i) (slice_index_or (rests_of dones) k r))
    → (lefts : List (List (List ℕ))) × AreLists TakesItem feeds dones done wholes lefts
dealt_lists [] [] done [] many each = ([], tt)
dealt_lists (feed ∷ feeds) (one ∷ dones) both (whole ∷ wholes) many each =
    let first = port_list whole feed.input one.rest both.0.frames one.stop both.0.gave
    (each zero whole feed.input one.rest (omega arith)) in
    let others = dealt_lists feeds dones both.1 wholes (omega (arith, many))
    (λ k w i r below. each (suc k) w i r (omega (arith, below))) in
    (first.0 ∷ others.0, (first.1, first.2, others.1))
dealt_lists [] [] done (whole ∷ wholes) many each = absurd (omega (arith, many))
dealt_lists [] (one ∷ dones) both wholes many each = absurd both
dealt_lists (feed ∷ feeds) [] both wholes many each = absurd both
dealt_lists (feed ∷ feeds) (one ∷ dones) both [] many each = absurd (omega (arith, many))

pub same_many : (feeds : List (Feeding Taken)) (dones : List (Fed Taken)) → Pairwise (IsDone TakesItem) feeds dones
    → length feeds ≡ length dones
same_many [] [] both = refl
same_many (feed ∷ feeds) (one ∷ dones) both = ap (λ n. suc n) (same_many feeds dones both.1)
same_many [] (one ∷ dones) both = absurd both
same_many (feed ∷ feeds) [] both = absurd both

-- no end changed its ring
pub kept_rings : (feeds : List (Feeding Taken)) (dones : List (Fed Taken)) → Pairwise (IsDone TakesItem) feeds dones
    → (k : ℕ) (i r : Taken) → k < length feeds
    → (slice_index_or (rests_of dones) k r).ring ≡ (slice_index_or (inputs_of feeds) k i).ring
kept_rings [] [] done k i r below = absurd (omega (arith, below))
kept_rings (feed ∷ feeds) (one ∷ dones) both zero i r below =
    given_ring feed.input both.0.frames one.stop one.rest both.0.gave
kept_rings (feed ∷ feeds) (one ∷ dones) both (suc k) i r below =
    kept_rings feeds dones both.1 k i r (omega (arith, below))
kept_rings [] (one ∷ dones) both k i r below = absurd both
kept_rings (feed ∷ feeds) [] both k i r below = absurd both
