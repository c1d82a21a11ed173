use Rattle.std.proofs.Common.{◌≡◌, ◌+◌, ◌∙◌, ◌<◌, ◌==◌, ◌||◌, ℕ, length, slice_set, get_or, Option, None}
use Rattle.std.proofs.Common.{true, IsTrue, IsSome, MatchBool, sym, ap, subst, refl, arith}
use Rattle.std.proofs.lemmas.Bool.{eq-eqb, ne_eqb}
use Rattle.std.proofs.lemmas.List.{length-set, get_or_default}
use Rattle.gw_ledger.specs.Ports.{has_port}
use Rattle.gw_lanes.specs.Ends.{Inlet}
use Rattle.gw_ports.specs.Ends.{lane_at}
use Rattle.gw_ports.specs.Placing.{Appends, WasFull}
use Rattle.gw_ports.proofs.Placing.{AllBelow, Next, PlacesBelow, not_yet, one_more_all, one_more_lane}
use Rattle.gw_ports.proofs.enqueue.enqueue.Goals as goal
use Rattle.gw_ports.proofs.enqueue.enqueue.Goals.{then-enqueue_on, else-enqueue_on}

pub enqueue_on-requires : goal.enqueue_on-requires
enqueue_on-requires g c = λ is_allowed.
    let now = c.loop-index.lanes in
    let index = c.loop-index.index in
    let below : index < length now = let size = c.loop-index.auto.lanes in let test = c.loop-index-test.true in omega arith in
    let here : get_or now index c.index-lanes-index.result ≡ lane_at now index =
    get_or_default now index c.index-lanes-index.result None below in
    let first = (not_yet index c.args.allowed c.args.copy c.loop-index.placed c.args.lanes.now now c.loop-index.invariant.1).1 in
    subst (λ (l : Option Inlet). IsSome l) (sym (here ∙ first)) (c.requires.there index (sym c.has-is_allowed.ensures
    ∙ is_allowed))

pub loop-index-preserved : goal.loop-index-preserved
loop-index-preserved g c =
    let now = c.loop-index.lanes in
    let index = c.loop-index.index in
    let allowed = c.args.allowed in
    let copy = c.args.copy in
    let lane' = c.enqueue_on.new.lane in
    let lane = get_or now index c.index-lanes-index.result in
    let below : index < length now = let size = c.loop-index.auto.lanes in let test = c.loop-index-test.true in omega arith in
    let here : lane ≡ lane_at now index = get_or_default now index c.index-lanes-index.result None below in
    let free = (not_yet index allowed copy c.loop-index.placed c.args.lanes.now now c.loop-index.invariant.1).0 in
    let next : Next allowed copy index lane lane' c.enqueue_on.result =
    subst (λ b. MatchBool c.enqueue_on.result (IsTrue b × Appends lane copy lane') ((lane' ≡ lane) × (IsTrue b → WasFull lane)))
    c.has-is_allowed.ensures c.enqueue_on.ensures.placed in
    let go = one_more_lane index allowed copy c.loop-index.placed c.if-enqueue_on.placed c.args.lanes.now now
    (slice_set now index lane') lane lane' c.enqueue_on.result c.loop-index.invariant.1 below here refl next in
    let placed' = c.if-enqueue_on.placed in
    let all : has_port index placed' ≡ c.enqueue_on.result
    → ((other : ℕ) → (index ≡ other → ⊥) → has_port other placed' ≡ has_port other c.loop-index.placed)
    → g.F.FullLane.waits ≡ true → AllBelow (index + 1) allowed placed' =
    λ is others waits.
    one_more_all index allowed c.loop-index.placed placed' c.enqueue_on.result (c.loop-index.invariant.2 waits)
    (λ there. c.enqueue_on.ensures.all waits (c.has-is_allowed.ensures ∙ there)) is others in
    let both : PlacesBelow (index + 1) allowed copy placed' c.args.lanes.now (slice_set now index lane')
    × (g.F.FullLane.waits ≡ true → AllBelow (index + 1) allowed placed') =
    elim c.if-enqueue_on.branch [
      | then-enqueue_on w ↦
          let added : (other : ℕ) → has_port other c.if-enqueue_on.placed
          ≡ ((index == other) || has_port other c.loop-index.placed) = λ other. ap (λ l. has_port other l) w.placed-is
          ∙ w.add.ensures.members other in
          let is : has_port index placed' ≡ c.enqueue_on.result = added index
          ∙ ap (λ b. b || has_port index c.loop-index.placed) (eq-eqb index index refl) ∙ sym w.if-enqueue_on.true in
          let others : (other : ℕ) → (index ≡ other → ⊥) → has_port other placed' ≡ has_port other c.loop-index.placed =
          λ other apart. added other ∙ ap (λ b. b || has_port other c.loop-index.placed) (ne_eqb index other apart) in
          (go is others, all is others)
      | else-enqueue_on w ↦
          let is : has_port index placed' ≡ c.enqueue_on.result =
          ap (λ l. has_port index l) w.placed-is ∙ free ∙ sym w.if-enqueue_on.false in
          let others : (other : ℕ) → (index ≡ other → ⊥) → has_port other placed' ≡ has_port other c.loop-index.placed =
          λ other apart. ap (λ l. has_port other l) w.placed-is in
          (go is others, all is others)
    ] in
    (length-set now index lane' ∙ c.loop-index.invariant.0, both.0, both.1)
