-- One ingress port of a run: the frames that it asked for, that its outcomes are judged, and how it ended.
use Rattle.std.proofs.Common.{◌≡◌, ◌∙◌, ℕ, ◌+◌, ◌<◌, List, [], ◌∷◌, ◌++◌, length, get_or, Option, Some, None}
use Rattle.std.proofs.Common.{MatchOption, sym, ap, subst, refl, arith, length-append}
use Rattle.std.proofs.lemmas.List.{get_or-map, length-map}
use mathlib.Core.List.{IsPrefix}
use Rattle.gw_board.proofs.Callers.{prefix_self}
use Rattle.gw_ledger.specs.Bounds.{Bounds}
use Rattle.gw_ledger.specs.declared.ledger.InLedger.{InLedger}
use Rattle.gw_ledger.specs.declared.outcome.Outcome.{Outcome}
use Rattle.gw_policy.specs.Batches.{Pair}
use Rattle.gw_ports.specs.Ends.{Ingress, end_in}
use Rattle.gw_ports.specs.Making.{IsNewIngress}
use Rattle.gw_ports.specs.Running.{Fed, Feeding, Gives, IsDone, Offers}
use Rattle.gw_ports.specs.Runs.{IsRun}
use Rattle.gw_ports.specs.Reports.{AreJudged, AsksUpTo, EndsAt, LosesOnFullLanes, Ran, batches_of, frames_of, outcomes_of}
use Rattle.gw_ports.specs.Reports.{stop_of}
use Rattle.gw_ports.specs.declared.refusals.OfferRefusal.{OfferRefusal}
use Rattle.gw_ports.specs.declared.refusals.OfferRefusal.TheVariants.{FramesSpent, NoReading}
use Rattle.gw_ports.proofs.Elementwise.{Chosen, choose, there}
use Rattle.gw_ports.proofs.Judged.{are_judged, as_many_outcomes, frames_taken, judged_of_more}
use Rattle.gw_ports.proofs.Losing.{lost_when_full, new_holds}
use Rattle.gw_ports.proofs.ReportPublishing.{published_is}
use Rattle.gw_ports.proofs.Runs.{pairwise_length}

-- what a port offered of the frames that it asked for: all, or all but the last where it stopped
abbrev pub OffersOf : List (List ℕ) → List (List ℕ) → Option OfferRefusal → Type 0
OffersOf frames asked stop =
    IsPrefix frames asked × MatchOption stop (length asked ≡ length frames) (λ why. length asked ≡ length frames + 1)

pub record Did {S : Type 0} (steps : S → Option (List ℕ) → S → Type 0) (o : Feeding S) (one : Fed S) (asked : List (List ℕ))
    : Type 0 where
  pub asks : AsksUpTo steps o.input one.stop asked one.rest
  pub frames : List (List ℕ)
  pub whole : OffersOf frames asked one.stop
  pub same : end_in one.port ≡ end_in o.port
  pub done : Offers [] o.port frames one.outcomes one.port
  pub spent : one.stop ≡ Some FramesSpent → one.port.ledger.taken ≡ one.port.frames

asked_for : {S : Type 0} (steps : S → Option (List ℕ) → S → Type 0) (input : S) (frames : List (List ℕ))
    (stop : Option OfferRefusal) (rest : S) → Gives steps input frames stop rest
    → (asked : List (List ℕ)) × AsksUpTo steps input stop asked rest × OffersOf frames asked stop
asked_for steps input frames None rest gave = (frames, gave, (prefix_self frames, refl))
asked_for steps input frames (Some why) rest gave =
    (frames ++ gave.0 ∷ [], gave.1, ((gave.0 ∷ [], refl), length-append frames (gave.0 ∷ [])))

did_one : {S : Type 0} (steps : S → Option (List ℕ) → S → Type 0) (o : Feeding S) (one : Fed S)
    → IsDone steps o one → (asked : List (List ℕ)) × Did steps o one asked
did_one steps o one is =
    let asked = asked_for steps o.input is.frames one.stop one.rest is.gave in (
      asked.0,
      record { asks = asked.1; frames = is.frames; whole = asked.2; same = is.same; done = is.offers; spent = is.spent },
    )

-- how a port ended
ends_at : (limits : Bounds) (frames asked : List (List ℕ)) (outcomes : List Outcome) (stop : Option OfferRefusal)
    → OffersOf frames asked stop → length outcomes ≡ length frames
    → (stop ≡ Some FramesSpent → length outcomes ≡ limits.frames) → EndsAt limits asked outcomes stop
ends_at limits frames asked outcomes None whole many spent = let all = whole.1 in omega arith
ends_at limits frames asked outcomes (Some FramesSpent) whole many spent =
    let all = whole.1 in (omega arith, spent refl)
ends_at limits frames asked outcomes (Some NoReading) whole many spent = let all = whole.1 in omega arith

module _ {S : Type 0} {steps : S → Option (List ℕ) → S → Type 0} {limits : Bounds} {first : List Pair} {inputs : List S}
    {batches : List (List Pair)} {rests : List S} {ran : Ran} (run : IsRun steps limits first inputs batches rests ran) where
  -- there is an end for each port, before the run and after it
  pub many_ins : (length run.feeds ≡ limits.ports) × (length run.done ≡ limits.ports)
  many_ins =
      let ports = length-map run.feeds (λ (o : Feeding S). o.port) in
      let all = ap length run.ports_are in
      let ins = run.opened.ends.enough_ins in
      let done = pairwise_length (IsDone steps) run.feeds run.done run.offered in
      (omega arith, omega arith)

  chosen : (cs : List (List (List ℕ))) × (length cs ≡ length run.feeds) × Chosen (Did steps) run.feeds run.done cs
  chosen = choose (IsDone steps) (Did steps) run.feeds run.done (did_one steps) run.offered

  -- by port, the frames that were asked for
  pub asked_frames : List (List (List ℕ))
  asked_frames = chosen.0

  -- a port in, before the run and after it, and what it reports
  pub record PortInOf (port : ℕ) (asked : List (List ℕ)) : Type 0 where
    pub feed : Feeding S
    pub port_is : (d : Ingress) → get_or run.ins port d ≡ feed.port
    pub new : IsNewIngress limits.ports limits.frames limits.lane port feed.port
    pub one : Fed S
    pub one_is : (d : Fed S) → get_or run.done port d ≡ one
    pub did : Did steps feed one asked
    pub outcomes_are : outcomes_of ran port ≡ one.outcomes
    pub judged : AreJudged limits.ports port (batches_of first batches ran) asked (outcomes_of ran port)
    pub lost : LosesOnFullLanes limits.lane (outcomes_of ran port)
    pub stopped : EndsAt limits asked (outcomes_of ran port) (stop_of ran port)
    pub asks : (d : S) → AsksUpTo steps (get_or inputs port d) (stop_of ran port) asked (get_or rests port d)

  module _ (port : ℕ) (below : port < limits.ports) where
    o : (x : Feeding S) × ((d : Feeding S) → get_or run.feeds port d ≡ x)
    o = there run.feeds port (let n = many_ins.0 in omega arith)

    one_at : (x : Fed S) × ((d : Fed S) → get_or run.done port d ≡ x)
    one_at = there run.done port (let n = many_ins.1 in omega arith)

    asked : List (List ℕ)
    asked = frames_of asked_frames port

    did_at : Did steps o.0 one_at.0 asked
    unfolding asked asked_frames chosen
    did_at = chosen.2 port o.0 one_at.0 [] (let n = many_ins.0 in omega arith) o.1 one_at.1

    ingress_is : (d : Ingress) → get_or run.ins port d ≡ o.0.port
    ingress_is d =
        ap (λ (l : List Ingress). get_or l port d) (sym run.ports_are)
        ∙ get_or-map (λ (x : Feeding S). x.port) run.feeds port o.0 d (let n = many_ins.0 in omega arith)
        ∙ ap (λ (x : Feeding S). x.port) (o.1 o.0)

    input_is : (d : S) → get_or inputs port d ≡ o.0.input
    input_is d =
        ap (λ (l : List S). get_or l port d) (sym run.inputs_are)
        ∙ get_or-map (λ (x : Feeding S). x.input) run.feeds port o.0 d (let n = many_ins.0 in omega arith)
        ∙ ap (λ (x : Feeding S). x.input) (o.1 o.0)

    new_at : IsNewIngress limits.ports limits.frames limits.lane port o.0.port
    new_at =
        subst (λ (i : Ingress). IsNewIngress limits.ports limits.frames limits.lane port i) (ingress_is o.0.port)
        (run.opened.ends.ingress port o.0.port (let n = run.opened.ends.enough_ins in omega arith))

    knew : o.0.port.known ≡ first ∷ []
    knew =
        ap (λ (i : Ingress). i.known) (sym (ingress_is o.0.port))
        ∙ (run.opened.known port o.0.port (let n = run.opened.ends.enough_ins in omega arith)).1

    outcomes_at : outcomes_of ran port ≡ one_at.0.outcomes
    outcomes_at =
        ap (λ (l : List (List Outcome)). get_or l port []) run.outcomes_are
        ∙ get_or-map (λ (x : Fed S). x.outcomes) run.done port one_at.0 [] (let n = many_ins.1 in omega arith)
        ∙ ap (λ (x : Fed S). x.outcomes) (one_at.1 one_at.0)

    stop_is : stop_of ran port ≡ one_at.0.stop
    stop_is =
        ap (λ (l : List (Option OfferRefusal)). get_or l port None) run.stops_are
        ∙ get_or-map (λ (x : Fed S). x.stop) run.done port one_at.0 None (let n = many_ins.1 in omega arith)
        ∙ ap (λ (x : Fed S). x.stop) (one_at.1 one_at.0)

    begins : IsPrefix one_at.0.port.known (batches_of first batches ran)
    begins =
        subst (λ (l : List (List Pair)). IsPrefix one_at.0.port.known l) (published_is run)
        (subst (λ (i : Ingress). IsPrefix i.known run.closing.published)
        (get_or-map (λ (x : Fed S). x.port) run.done port one_at.0 one_at.0.port (let n = many_ins.1 in omega arith)
        ∙ ap (λ (x : Fed S). x.port) (one_at.1 one_at.0))
        (run.closed.known port one_at.0.port
        (let n = many_ins.1 in let m = length-map run.done (λ (x : Fed S). x.port) in omega arith)))

    judged_at : AreJudged limits.ports port (batches_of first batches ran) asked (outcomes_of ran port)
    judged_at =
        subst (λ (l : List Outcome). AreJudged limits.ports port (batches_of first batches ran) asked l) (sym outcomes_at)
        (judged_of_more limits.ports port (batches_of first batches ran) did_at.frames asked one_at.0.outcomes
        did_at.whole.0
        (are_judged limits.ports port (batches_of first batches ran) o.0.port did_at.frames one_at.0.outcomes
        one_at.0.port
        (record {
          own = new_at.number;
          lanes = new_at.lanes.0;
          number = ap (λ (l : InLedger). l.taken) new_at.ledger;
          knows = let n = ap length knew in omega arith;
        })
        did_at.done begins))

    lost_at : LosesOnFullLanes limits.lane (outcomes_of ran port)
    lost_at =
        subst (λ (l : List Outcome). LosesOnFullLanes limits.lane l) (sym outcomes_at) (λ k egress d below loses.
        let least =
        lost_when_full limits.lane egress 0 [] o.0.port did_at.frames one_at.0.outcomes one_at.0.port did_at.done
        (new_holds limits.lane o.0.port.lanes new_at.empty egress) k d below loses in
        omega arith)

    stopped_at : EndsAt limits asked (outcomes_of ran port) (stop_of ran port)
    stopped_at =
        let taken = frames_taken [] o.0.port did_at.frames one_at.0.outcomes one_at.0.port did_at.done in
        subst (λ (l : List Outcome). EndsAt limits asked l (stop_of ran port)) (sym outcomes_at)
        (subst (λ (s : Option OfferRefusal). EndsAt limits asked one_at.0.outcomes s) (sym stop_is)
        (ends_at limits did_at.frames asked one_at.0.outcomes one_at.0.stop did_at.whole
        (as_many_outcomes [] o.0.port did_at.frames one_at.0.outcomes one_at.0.port did_at.done)
        (λ is.
        let spent = did_at.spent is in
        let all = taken.0 in
        let most = taken.1 in
        let limit = new_at.most in
        let none = ap (λ (l : InLedger). l.taken) new_at.ledger in
        omega arith)))

    rest_is : (d : S) → get_or rests port d ≡ one_at.0.rest
    rest_is d =
        ap (λ (l : List S). get_or l port d) run.rests_are
        ∙ get_or-map (λ (x : Fed S). x.rest) run.done port one_at.0 d (let n = many_ins.1 in omega arith)
        ∙ ap (λ (x : Fed S). x.rest) (one_at.1 one_at.0)

    asks_at : (d : S) → AsksUpTo steps (get_or inputs port d) (stop_of ran port) asked (get_or rests port d)
    asks_at d =
        subst (λ (s : S). AsksUpTo steps s (stop_of ran port) asked (get_or rests port d)) (sym (input_is d))
        (subst (λ (x : Option OfferRefusal). AsksUpTo steps o.0.input x asked (get_or rests port d)) (sym stop_is)
        (subst (λ (s : S). AsksUpTo steps o.0.input one_at.0.stop asked s) (sym (rest_is d)) did_at.asks))

    pub port_in : PortInOf port (frames_of asked_frames port)
    unfolding asked
    port_in = record {
      feed = o.0;
      port_is = ingress_is;
      new = new_at;
      one = one_at.0;
      one_is = one_at.1;
      did = did_at;
      outcomes_are = outcomes_at;
      judged = judged_at;
      lost = lost_at;
      stopped = stopped_at;
      asks = asks_at;
    }
