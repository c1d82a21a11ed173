use Rattle.std.proofs.Common.{◌≡◌, ◌∙◌, ℕ, List, arith, ap, get_or, length, map, min, refl, subst, sym, vec_len}
use Rattle.std.specs.Iterator.{IsFinite, size}
use Rattle.std.proofs.lemmas.List.{get_or-map, length-map}
use Rattle.gw_ports.specs.Closing.{Closes}
use Rattle.gw_ports.specs.Ends.{Ingress, Egress, end_in, end_out}
use Rattle.gw_ports.specs.Reports.{Ran}
use Rattle.gw_ports.specs.Running.{Drained, Fed, Feeding, HasDrained, HasFed, HasRoomIn, HasRoomOut, HasTaken, Pairwise}
use Rattle.gw_ports.specs.Running.{feeding_of}
use Rattle.gw_ports.specs.Runs.{IsRun}
use Rattle.gw_ports.specs.Sinks.{AllHanded, HasRoomFor}
use Rattle.gw_ports.specs.declared.running.feed.Done.{Done}
use Rattle.gw_ports.specs.declared.running.feed.Feed.{Feed}
use Rattle.gw_ports.specs.declared.running.drain.Drain.{Drain}
use Rattle.gw_ports.proofs.Elementwise.{map_twice, there}
use Rattle.gw_ports.proofs.Placed.{none_lost}
use Rattle.gw_ports.proofs.Opening.{ends_after_offers, ends_after_takes, given_is, ready_ports, same_gateway}
use Rattle.gw_ports.proofs.Reports.{reported}
use Rattle.gw_ports.proofs.Runs.{pairwise_length}
use Rattle.gw_ports.proofs.Sinks.{drained_are, drained_by, drained_handed, drained_ports, feds, feds_are, feds_from, feds_handed}
use Rattle.gw_ports.proofs.running.run_opened.Goals as goal

pub prepare-requires-clause-ins : goal.prepare-requires-clause-ins
prepare-requires-clause-ins g c =
    let many = c.requires.opened.1.ends.enough_ins in
    let size = c.args.parts.ins.ok.0 in
    let inputs = c.requires.count.0 in
    let outcomes = c.requires.count.1 in
    (omega arith, omega arith)

pub prepare-requires-clause-outs : goal.prepare-requires-clause-outs
prepare-requires-clause-outs g c =
    let many = c.requires.opened.1.ends.enough_ins in
    let many' = c.requires.opened.1.ends.enough_outs in
    let size = c.args.parts.ins.ok.0 in
    let size' = c.args.parts.outs.ok.0 in
    let out = c.requires.count.2 in
    (omega arith, omega arith)

-- Each port has the input and the sink at its place, which have room for each other.
pub start_drains-requires-clause-ready : goal.start_drains-requires-clause-ready
start_drains-requires-clause-ready g c κs within =
    let S = g.row.I.Denot in
    let O = g.row.O.Denot in
    let fits : S → O → ℕ → Type 0 =
    λ s o frames. g.I.Iterator.can_next s × IsFinite (g.I.Iterator.remaining s)
    × HasRoomFor (g.O.Sink.room o) (min (size (g.I.Iterator.remaining s)) frames) in
    let parts = c.args.parts in
    let prepared = c.in-Ok.prepared in
    let made = c.in-Ok.ensures in
    let ends = c.requires.opened.1.ends in
    let feeds = prepared.feeds.items in
    let count = prepared.feeds.ok.0 in
    let ports = length-map feeds (λ (o : Feed S O). o.port) in
    let ins = ap length made.ports in
    let size' = parts.ins.ok.0 in
    let done = made.done.0.1 in
    let count' = prepared.drains.ok.0 in
    let ports' = length-map prepared.drains.items (λ (t : Drain g.row.C.Denot). t.port) in
    let outs = ap length made.outs in
    let ins_many = ends.enough_ins in
    let outs_many = ends.enough_outs in
    let drained = made.done.1.1 in
    let inputs = c.args.inputs.ok.0 in
    let as_many = c.requires.count.0 in
    record {
      feeds = record {
        each = λ k d below.
            let at = get_or feeds k d in
            let ready = ready_ports c.args.limits parts.ins.items parts.outs.items feeds ends made.ports k d below in
            let all : fits at.input at.outcomes at.port.frames =
            subst (λ s. fits s at.outcomes at.port.frames)
            (sym (given_is (λ (o : Feed S O). o.input) c.args.inputs.items feeds made.inputs k d below))
            (subst (λ o. fits (get_or c.args.inputs.items k d.input) o at.port.frames)
            (sym (given_is (λ (o : Feed S O). o.outcomes) c.args.outcomes.items feeds made.outcomes k d below))
            (subst (λ n. fits (get_or c.args.inputs.items k d.input) (get_or c.args.outcomes.items k d.outcomes) n) (sym ready.1)
            (c.requires.inputs k d.input d.outcomes (omega arith)))) in
            record { input = (all.0, all.1); room = all.2; new = ready.0 };
        gathered = (made.done.0.0, omega arith);
        fronts = made.fronts.0;
        enough = grind arith;
      };
      gathered = (made.done.1.0, omega arith);
    }

pub gather-ingress-requires : goal.gather-ingress-requires
gather-ingress-requires g c =
    let R : Feed g.row.I.Denot g.row.O.Denot → Done g.row.I.Denot g.row.O.Denot → Type 0 =
    HasFed g.I.Iterator.next_gives g.O.Sink.takes in
    let feeds = c.in-Ok.prepared.feeds.items in
    let many = pairwise_length R feeds c.in-Some.done.items c.in-Some.ensures.done in
    let count = c.in-Some.done.ok.0 in
    let ports = length-map feeds (λ (o : Feed g.row.I.Denot g.row.O.Denot). o.port) in
    let ins = ap length c.in-Ok.ensures.ports in
    let size = c.args.parts.ins.ok.0 in
    let same : vec_len c.args.parts.ins ≡ vec_len c.in-Some.done = omega arith in
    subst (λ n. HasRoomIn n c.in-Ok.prepared.ingress) same c.in-Ok.ensures.ingress

pub gather-egress-requires : goal.gather-egress-requires
gather-egress-requires g c =
    let R : Drain g.row.C.Denot → Drain g.row.C.Denot → Type 0 = HasDrained g.C.Sink.takes in
    let drains = c.in-Ok.prepared.drains.items in
    let many = pairwise_length R drains c.in-Some.drained.items c.in-Some.ensures.taken in
    let count = c.in-Some.drained.ok.0 in
    let ports = length-map drains (λ (t : Drain g.row.C.Denot). t.port) in
    let outs = ap length c.in-Ok.ensures.outs in
    let ins_many = c.requires.opened.1.ends.enough_ins in
    let outs_many = c.requires.opened.1.ends.enough_outs in
    let size = c.args.parts.ins.ok.0 in
    let same : vec_len c.args.parts.ins ≡ vec_len c.in-Some.drained = omega arith in
    subst (λ n. HasRoomOut n c.in-Ok.prepared.egress) same c.in-Ok.ensures.egress

-- The threads hand back the ends that they were given, so these are of one gateway still.
pub close_ends-requires : goal.close_ends-requires
close_ends-requires g c =
    let S = g.row.I.Denot in
    let O = g.row.O.Denot in
    let steps = g.I.Iterator.next_gives in
    let parts = c.args.parts in
    let feeds = c.in-Ok.prepared.feeds.items in
    let drains = c.in-Ok.prepared.drains.items in
    let made = c.in-Ok.ensures in
    let did = c.in-Some.ensures in
    let done = c.in-Some.done.items in
    let drained = c.in-Some.drained.items in
    let ends_in : List Ingress → _ = λ l. map end_in l in
    let ends_out : List Egress → _ = λ l. map end_out l in
    same_gateway parts.operator c.in-Some.published.operator parts.ins.items c.gather-ingress.result.ports.items parts.outs.items
    c.gather-egress.result.ports.items c.requires.opened.1.one did.published.same
    (ap ends_in (c.gather-ingress.ensures.ports
    ∙ feds_from steps g.O.Sink.takes (λ (x : Fed S). x.port) (λ (x : Done S O). x.port) (λ x l. refl) feeds done did.done)
    ∙ ends_after_offers steps (map feeding_of feeds) (feds steps g.O.Sink.takes feeds done did.done)
    (feds_are steps g.O.Sink.takes feeds done did.done)
    ∙ ap ends_in (map_twice feeding_of (λ (x : Feeding S). x.port) (λ (x : Feed S O). x.port) (λ x. refl) feeds ∙ made.ports))
    (ap ends_out (c.gather-egress.ensures.ports ∙ drained_ports g.C.Sink.takes drains drained did.taken)
    ∙ ends_after_takes (map (λ t. t.port) drains) (drained_by g.C.Sink.takes drains drained did.taken)
    (drained_are g.C.Sink.takes drains drained did.taken)
    ∙ ap ends_out made.outs)

pub returns-in-Ok-close_ends-clause-ran : goal.returns-in-Ok-close_ends-clause-ran
returns-in-Ok-close_ends-clause-ran g c = λ first opened.
    let S = g.row.I.Denot in
    let O = g.row.O.Denot in
    let C = g.row.C.Denot in
    let steps = g.I.Iterator.next_gives in
    let made = c.in-Ok.ensures in
    let did = c.in-Some.ensures in
    let feeds' = c.in-Ok.prepared.feeds.items in
    let drains = c.in-Ok.prepared.drains.items in
    let done = c.in-Some.done.items in
    let drained = c.in-Some.drained.items in
    let published = c.in-Some.published in
    let closing = published.operator in
    let report = c.in-Ok-close_ends.report in
    let ins = c.gather-ingress in
    let outs = c.gather-egress in
    let fed : List (Fed S) = feds steps g.O.Sink.takes feeds' done did.done in
    let fed_are : Pairwise _ (map feeding_of feeds') fed = feds_are steps g.O.Sink.takes feeds' done did.done in
    let left : List Drained = drained_by g.C.Sink.takes drains drained did.taken in
    let ran : Ran = record {
      outcomes = map (λ one. one.outcomes) fed;
      stops = map (λ one. one.stop) fed;
      fronts = published.fronts.items;
      refused = published.refused;
      out = map (λ one. one.copies) left;
      report = report;
    } in
    let run : IsRun steps c.args.limits first c.args.inputs.items c.args.batches.items ins.result.inputs.items ran = record {
      operator = c.args.parts.operator;
      ins = c.args.parts.ins.items;
      outs = c.args.parts.outs.items;
      opened = opened;
      feeds = map feeding_of feeds';
      ports_are = map_twice feeding_of (λ (x : Feeding S). x.port) (λ (x : Feed S O). x.port) (λ x. refl) feeds' ∙ made.ports;
      inputs_are = map_twice feeding_of (λ (x : Feeding S). x.input) (λ (x : Feed S O). x.input) (λ x. refl) feeds' ∙ made.inputs;
      done = fed;
      offered = fed_are;
      rests_are =
          ins.ensures.inputs
          ∙ feds_from steps g.O.Sink.takes (λ (x : Fed S). x.rest) (λ (x : Done S O). x.input) (λ x l. refl) feeds' done did.done;
      drained = left;
      took =
          subst (λ (l : List Egress). Pairwise HasTaken l left) made.outs (drained_are g.C.Sink.takes drains drained did.taken);
      closing = closing;
      published = did.published;
      outcomes_are = refl;
      stops_are = refl;
      out_is = refl;
      closed =
          subst (λ (l : List Ingress). Closes closing l (map (λ (x : Drained). x.port) left) report)
          (ins.ensures.ports
          ∙ feds_from steps g.O.Sink.takes (λ (x : Fed S). x.port) (λ (x : Done S O). x.port) (λ x l. refl) feeds' done did.done)
          (subst (λ (l : List Egress). Closes closing ins.result.ports.items l report)
          (outs.ensures.ports ∙ drained_ports g.C.Sink.takes drains drained did.taken) c.in-Ok-close_ends.ensures.closed);
    } in
    record {
      ran = ran;
      outcomes_are =
          subst (λ (l : List O). AllHanded g.O.Sink.takes l ran.outcomes ins.result.outcomes.items) made.outcomes
          (subst (λ (l : List O). AllHanded g.O.Sink.takes (map (λ (x : Feed S O). x.outcomes) feeds') ran.outcomes l)
          (sym ins.ensures.outcomes) (feds_handed steps g.O.Sink.takes feeds' done did.done));
      out_is =
          subst (λ (l : List C). AllHanded g.C.Sink.takes l ran.out outs.result.out.items) made.out
          (subst (λ (l : List C). AllHanded g.C.Sink.takes (map (λ (x : Drain C). x.out) drains) ran.out l)
          (sym outs.ensures.out) (drained_handed g.C.Sink.takes drains drained did.taken));
      told = (
        ins.ensures.stops
            ∙ feds_from steps g.O.Sink.takes (λ (x : Fed S). x.stop) (λ (x : Done S O). x.stop) (λ x l. refl) feeds' done
            did.done,
        refl,
        refl,
        refl,
      );
      is_run = run;
      reported = reported steps c.args.limits first c.args.inputs.items c.args.batches.items ins.result.inputs.items ran run;
      none_lost = λ waits.
          none_lost steps (map feeding_of feeds') fed c.waits_for_room-waits.result fed_are
          (λ k d below.
          let size = length-map feeds' feeding_of in
          let x = there feeds' k (omega arith) in
          ap (λ (f : Feeding S). f.waits) (get_or-map feeding_of feeds' k x.0 d (omega arith)) ∙ made.waits k x.0 (omega arith))
          (c.waits_for_room-waits.ensures ∙ waits);
    }
