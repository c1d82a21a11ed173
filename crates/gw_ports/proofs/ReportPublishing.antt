-- The batches of a run's report: which were published, the front of each, and why no more were.
use Rattle.std.proofs.Common.{◌≡◌, ◌∙◌, ℕ, suc, ◌+◌, ◌<◌, ◌≤◌, false, List, [], ◌∷◌, ◌++◌, length, get_or, take, true≢false}
use Rattle.std.proofs.Common.{Option, Some, None, MatchOption, sym, ap, subst, arith, length-append}
use Rattle.std.proofs.lemmas.List.{ext_get_or, length-take-le, take_all}
use Rattle.std.proofs.lemmas.List.FromFn.{get_or-range_with_len, length-range_with_len}
use Rattle.std.specs.List.{range_with_len}
use Rattle.gw_board.specs.Ends.{Publishing, new_operator}
use Rattle.gw_board.specs.Refusals.{PortsBelow, Refuses}
use Rattle.gw_board.specs.declared.refusals.ReplaceRefusal.{ReplaceRefusal}
use Rattle.gw_board.specs.declared.refusals.ReplaceRefusal.TheVariants.{NoSuchPort, VersionsSpent, Stopped, OutOfMemory}
use Rattle.gw_ledger.specs.Bounds.{Bounds}
use Rattle.gw_policy.specs.Batches.{Pair}
use Rattle.gw_ports.specs.Running.{with_batches}
use Rattle.gw_ports.specs.Runs.{IsRun}
use Rattle.gw_ports.specs.Reports.{Ran, RefusesNext, batches_of}

-- what the operator has published at the end
published_after : (operator closing : Publishing) (first : List Pair) (batches : List (List Pair)) (fronts : List ℕ)
    (refused : Option ReplaceRefusal) → operator.published ≡ first ∷ []
    → MatchOption refused
    ((length fronts ≡ length batches) × (closing ≡ with_batches operator batches))
    (λ why. (length fronts < length batches)
    × Refuses (with_batches operator (take (length fronts) batches)) (get_or batches (length fronts) []) why closing)
    → closing.published ≡ first ∷ take (length fronts) batches
published_after operator closing first batches fronts None known all =
    let list : Publishing → List (List Pair) = λ o. o.published in
    ap list all.1 ∙ ap (λ (l : List (List Pair)). l ++ batches) known
    ∙ ap (λ (l : List (List Pair)). first ∷ l) (sym (take_all (length fronts) batches (let n = all.0 in omega arith)))
published_after operator closing first batches fronts (Some why) known some =
    stays why some.1 ∙ ap (λ (l : List (List Pair)). l ++ take (length fronts) batches) known
  where
    now : Publishing
    now = with_batches operator (take (length fronts) batches)

    stays : (cause : ReplaceRefusal) → Refuses now (get_or batches (length fronts) []) cause closing
        → closing.published ≡ now.published
    stays (NoSuchPort back) refuses = ap (λ (o : Publishing). o.published) refuses.0
    stays (VersionsSpent back) refuses = ap (λ (o : Publishing). o.published) refuses.0
    stays (Stopped back) refuses = ap (λ (o : Publishing). o.published) refuses.0
    stays (OutOfMemory (Some back)) refuses = ap (λ (o : Publishing). o.published) refuses.0
    stays (OutOfMemory None) refuses = ap (λ (o : Publishing). o.published) refuses.0

-- the operator of a run that has published so many batches is not stopped
refused_after : (limits : Bounds) (now closing : Publishing) (published : ℕ) (batch : List Pair) (why : ReplaceRefusal)
    → now.ports ≡ limits.ports → now.versions ≡ limits.versions → now.stopped ≡ false → length now.published ≡ published
    → Refuses now batch why closing → RefusesNext limits published batch why
refused_after limits now closing published batch (NoSuchPort back) ports versions runs many refuses =
    (refuses.1, subst (λ n. ¬ PortsBelow n batch) ports refuses.2)
refused_after limits now closing published batch (VersionsSpent back) ports versions runs many refuses =
    (refuses.1, subst (λ n. PortsBelow n batch) ports refuses.2, sym many ∙ refuses.3 ∙ versions)
refused_after limits now closing published batch (Stopped back) ports versions runs many refuses =
    absurd (true≢false (sym refuses.4 ∙ runs))
refused_after limits now closing published batch (OutOfMemory (Some back)) ports versions runs many refuses =
    let room = refuses.2.room in
    (refuses.1, subst (λ n. PortsBelow n batch) ports refuses.2.ports, omega arith)
refused_after limits now closing published batch (OutOfMemory None) ports versions runs many refuses =
    let room = refuses.1.room in
    (tt, subst (λ n. PortsBelow n batch) ports refuses.1.ports, omega arith)

published_why : (limits : Bounds) (operator closing : Publishing) (first : List Pair) (batches : List (List Pair))
    (fronts : List ℕ) (refused : Option ReplaceRefusal)
    → operator ≡ with_batches (new_operator operator.board limits) (first ∷ [])
    → MatchOption refused
    ((length fronts ≡ length batches) × (closing ≡ with_batches operator batches))
    (λ why. (length fronts < length batches)
    × Refuses (with_batches operator (take (length fronts) batches)) (get_or batches (length fronts) []) why closing)
    → MatchOption refused
    (length fronts ≡ length batches)
    (λ why. (length fronts < length batches) × RefusesNext limits (1 + length fronts) (get_or batches (length fronts) []) why)
published_why limits operator closing first batches fronts None is all = all.0
published_why limits operator closing first batches fronts (Some why) is some =
    let n = length fronts in
    let list : Publishing → List (List Pair) = λ o. o.published in
    let size : length (take n batches) ≡ n = length-take-le n batches (let l = some.0 in omega arith) in
    let before : length operator.published ≡ 1 = ap length (ap list is) in
    let all = length-append operator.published (take n batches) in (
      some.0,
      refused_after limits (with_batches operator (take n batches)) closing (1 + n) (get_or batches n []) why
          (ap (λ (o : Publishing). o.ports) is) (ap (λ (o : Publishing). o.versions) is) (ap (λ (o : Publishing). o.stopped) is)
          (omega arith) some.1,
    )

-- the fronts are the numbers from 2 on
fronts_from_2 : (fronts : List ℕ) (published : ℕ) → published ≡ 1
    → ((k : ℕ) → k < length fronts → get_or fronts k 0 ≡ published + k + 1) → fronts ≡ range_with_len 2 (length fronts)
fronts_from_2 fronts published one numbered =
    let size = length-range_with_len 2 (length fronts) in
    ext_get_or 0 fronts (range_with_len 2 (length fronts)) (sym size)
    (λ k below.
    let at = numbered k below in
    let other = get_or-range_with_len 2 (length fronts) k 0 below in
    omega arith)

module _ {S : Type 0} {steps : S → Option (List ℕ) → S → Type 0} {limits : Bounds} {first : List Pair} {inputs : List S}
    {batches : List (List Pair)} {rests : List S} {ran : Ran} (run : IsRun steps limits first inputs batches rests ran) where
  -- the operator's list at the close is that of the batches that have a front
  pub published_is : run.closing.published ≡ batches_of first batches ran
  published_is =
      published_after run.operator run.closing first batches ran.fronts ran.refused
      (ap (λ (o : Publishing). o.published) run.opened.published) run.published.published

  pub fronts_are : ran.fronts ≡ range_with_len 2 (length ran.fronts)
  fronts_are =
      fronts_from_2 ran.fronts (length run.operator.published)
      (ap (λ (o : Publishing). length o.published) run.opened.published) run.published.numbered

  -- all batches were published, or the next one was refused
  pub published_until : MatchOption ran.refused
      (length ran.fronts ≡ length batches)
      (λ why. (length ran.fronts < length batches)
      × RefusesNext limits (1 + length ran.fronts) (get_or batches (length ran.fronts) []) why)
  published_until =
      published_why limits run.operator run.closing first batches ran.fronts ran.refused run.opened.published
      run.published.published

  few_fronts : length ran.fronts ≤ length batches
  few_fronts = few ran.refused run.published.published
    where
      few : (refused : Option ReplaceRefusal) → MatchOption refused
          ((length ran.fronts ≡ length batches) × (run.closing ≡ with_batches run.operator batches))
          (λ why. (length ran.fronts < length batches)
          × Refuses (with_batches run.operator (take (length ran.fronts) batches))
          (get_or batches (length ran.fronts) []) why run.closing)
          → length ran.fronts ≤ length batches
      few None all = let n = all.0 in omega arith
      few (Some why) some = let n = some.0 in omega arith

  pub front_is : ran.report.front ≡ 1 + length ran.fronts
  front_is =
      let a : ran.report.front ≡ suc (length (take (length ran.fronts) batches)) =
      run.closed.front_is ∙ ap length published_is in
      let b = length-take-le (length ran.fronts) batches few_fronts in
      omega arith
