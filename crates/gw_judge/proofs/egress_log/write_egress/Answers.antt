use Rattle.std.proofs.Common.{◌+◌, ◌-◌, ◌≤◌, ℕ, List, ◌++◌, inl, inr, refl, ◌∙◌, subst, arith}
use Rattle.std.proofs.lemmas.Result.{err_from_is_err_and}
use Rattle.gw_io.specs.Tries.{inner_of, has_failed}
use Rattle.gw_judge.specs.EgressUnderWay.{HasEgress, ReachesEgress}
use Rattle.gw_judge.proofs.Streams.{keeps_same, met_part, met_end}
use Rattle.gw_judge.proofs.EgressStreams.{starts_egress, goes_on_egress, writes_on_egress, stops_egress, stops_writing_egress}
use Rattle.gw_judge.proofs.EgressStreams.{stays_unread, ends_egress, ends_egress_partly}
use Rattle.gw_judge.proofs.egress_log.write_egress.Goals as goal

pub parts-init : goal.parts-init
parts-init g c = record {
  read = c.requires.reader;
  written = c.requires.writer;
  most = omega arith;
  way = λ batches begun stands opened.
      starts_egress c.args.gateway.now.names.now batches begun (g.R.Read.remaining (inner_of c.args.reader.now))
      (g.W.Write.contents (inner_of c.args.writer.now))
      c.args.first.now c.behind-parts.result.rest c.new-egress.result 0 opened c.behind-parts.ensures
      c.new-egress.ensures.kept c.new-egress.ensures.gathered c.new-egress.ensures.unheard refl;
}

pub returns-in_err-next-clause-part : goal.returns-in_err-next-clause-part
returns-in_err-next-clause-part g c batches begun stands opened =
    let fault = err_from_is_err_and c.from_residual.result c.from_residual.ensures.1 in
    rw (fault.1, fault.2) (stays_unread c.args.gateway.now.names.now batches
    begun (g.R.Read.remaining (inner_of c.parts.reader))
    (g.R.Read.remaining (inner_of c.next.new.reader)) (g.W.Write.contents (inner_of c.args.writer.now))
    (g.W.Write.contents (inner_of c.parts.writer)) c.parts.parts.rest c.parts.egress (18446744073709551615 - c.parts.left)
    (has_failed c.next.new.reader) (has_failed c.parts.writer) (c.parts.invariant.way batches begun stands opened)
    c.in_err-next.ensures.part.0 (λ log more. inl c.in_err-next.ensures.fault))

pub returns-then-not-branch-clause-written : goal.returns-then-not-branch-clause-written
returns-then-not-branch-clause-written g c batches begun stands opened =
    let before = g.R.Read.remaining (inner_of c.parts.reader) in
    let after = g.R.Read.remaining (inner_of c.next.new.reader) in
    ends_egress c.end.result c.args.gateway.now.names.now batches begun before after
    (g.W.Write.contents (inner_of c.args.writer.now)) (g.W.Write.contents (inner_of c.parts.writer))
    (g.W.Write.contents (inner_of c.end.new.writer)) (has_failed c.end.new.writer) c.parts.parts.rest c.parts.egress
    (18446744073709551615 - c.parts.left) (c.parts.invariant.way batches begun stands opened)
    (met_end before after c.parts.parts.rest c.next.new.self c.in_ok-next.field-0 c.if-not-branch.true c.in_ok-next.ensures.part)
    (λ octets text h. c.end.ensures.ended batches octets text stands h)

pub returns-then-not-branch-clause-part : goal.returns-then-not-branch-clause-part
returns-then-not-branch-clause-part g c batches begun stands opened =
    let before = g.R.Read.remaining (inner_of c.parts.reader) in
    let after = g.R.Read.remaining (inner_of c.next.new.reader) in
    ends_egress_partly c.end.result c.args.gateway.now.names.now batches
    begun before after
    (g.W.Write.contents (inner_of c.args.writer.now)) (g.W.Write.contents (inner_of c.parts.writer))
    (g.W.Write.contents (inner_of c.end.new.writer)) (has_failed c.next.new.reader) (has_failed c.end.new.writer)
    c.parts.parts.rest c.parts.egress (18446744073709551615 - c.parts.left) (c.parts.invariant.way batches begun stands opened)
    (met_end before after c.parts.parts.rest c.next.new.self c.in_ok-next.field-0 c.if-not-branch.true c.in_ok-next.ensures.part)
    (λ octets text h. c.end.ensures.ended batches octets text stands h)

pub parts-preserved : goal.parts-preserved
parts-preserved g c =
    let names = c.args.gateway.now.names.now in
    let before = g.R.Read.remaining (inner_of c.parts.reader) in
    let after = g.R.Read.remaining (inner_of c.next.new.reader) in
    let none = g.W.Write.contents (inner_of c.args.writer.now) in
    let old = g.W.Write.contents (inner_of c.parts.writer) in
    let new = g.W.Write.contents (inner_of c.take.new.writer) in
    let left = c.parts.left in
    let fewer : 18446744073709551615 - (left - 1) ≤ 18446744073709551615 - left + 1 = omega arith in
    record {
      read = c.in_ok-next.ensures.whole ∙ c.parts.invariant.read;
      written = c.in_ok-write_out.ensures.whole;
      most = let most = c.parts.invariant.most in omega arith;
      way = λ batches begun stands opened.
          let Taken : List ℕ → Type 0 = λ part. (octets text : List ℕ) → HasEgress names batches octets c.parts.egress text
          → ReachesEgress names batches (octets ++ part) text old new (has_failed c.take.new.writer) c.take.result
          c.take.new.self in
          let way = goes_on_egress c.take.result names batches begun before after none old new (has_failed c.take.new.writer)
          c.parts.parts.rest c.next.new.self c.parts.egress c.take.new.self (18446744073709551615 - left)
          (18446744073709551615 - (left - 1)) c.in_ok-take.field-0 c.in_ok-take.was fewer
          (c.parts.invariant.way batches begun stands opened)
          (met_part before after c.parts.parts.rest c.next.new.self c.in_ok-next.field-0 c.if-not-branch.false
          c.in_ok-next.ensures.part)
          (subst Taken c.part-part.ensures (λ octets text h. c.take.ensures.taken batches octets text stands h)) in
          writes_on_egress c.write_out.result names batches begun after none new
          (g.W.Write.contents (inner_of c.write_out.new.writer)) (has_failed c.write_out.new.writer) c.next.new.self.rest
          c.take.new.self c.write_out.new.self (18446744073709551615 - (left - 1)) c.in_ok-write_out.field-0
          c.in_ok-write_out.was way (λ octets text h. c.write_out.ensures.reached names batches octets text h);
    }

pub returns-in_err-take-clause-part : goal.returns-in_err-take-clause-part
returns-in_err-take-clause-part g c batches begun stands opened =
    let names = c.args.gateway.now.names.now in
    let before = g.R.Read.remaining (inner_of c.parts.reader) in
    let after = g.R.Read.remaining (inner_of c.next.new.reader) in
    let old = g.W.Write.contents (inner_of c.parts.writer) in
    let new = g.W.Write.contents (inner_of c.take.new.writer) in
    let Taken : List ℕ → Type 0 = λ part. (octets text : List ℕ) → HasEgress names batches octets c.parts.egress text
    → ReachesEgress names batches (octets ++ part) text old new (has_failed c.take.new.writer) c.take.result
    c.take.new.self in
    let fault = err_from_is_err_and c.from_residual-in_err-take.result c.from_residual-in_err-take.ensures.1 in
    rw (fault.1, fault.2) (stops_egress c.take.result names batches
    begun before after (g.W.Write.contents (inner_of c.args.writer.now)) old new
    (has_failed c.next.new.reader) (has_failed c.take.new.writer) c.parts.parts.rest c.next.new.self c.parts.egress
    c.take.new.self (18446744073709551615 - c.parts.left) c.in_err-take.field-0.0 c.in_err-take.was
    (c.parts.invariant.way batches begun stands opened)
    (met_part before after c.parts.parts.rest c.next.new.self c.in_ok-next.field-0 c.if-not-branch.false
    c.in_ok-next.ensures.part)
    (subst Taken c.part-part.ensures (λ octets text h. c.take.ensures.taken batches octets text stands h)))

pub returns-in_err-write_out-clause-part : goal.returns-in_err-write_out-clause-part
returns-in_err-write_out-clause-part g c batches begun stands opened =
    let names = c.args.gateway.now.names.now in
    let before = g.R.Read.remaining (inner_of c.parts.reader) in
    let after = g.R.Read.remaining (inner_of c.next.new.reader) in
    let none = g.W.Write.contents (inner_of c.args.writer.now) in
    let old = g.W.Write.contents (inner_of c.parts.writer) in
    let new = g.W.Write.contents (inner_of c.take.new.writer) in
    let Taken : List ℕ → Type 0 = λ part. (octets text : List ℕ) → HasEgress names batches octets c.parts.egress text
    → ReachesEgress names batches (octets ++ part) text old new (has_failed c.take.new.writer) c.take.result
    c.take.new.self in
    let left = c.parts.left in
    let fewer : 18446744073709551615 - (left - 1) ≤ 18446744073709551615 - left + 1 = omega arith in
    let way = goes_on_egress c.take.result names batches begun before after none old new (has_failed c.take.new.writer)
    c.parts.parts.rest c.next.new.self c.parts.egress c.take.new.self (18446744073709551615 - left)
    (18446744073709551615 - (left - 1)) c.in_ok-take.field-0 c.in_ok-take.was fewer
    (c.parts.invariant.way batches begun stands opened)
    (met_part before after c.parts.parts.rest c.next.new.self c.in_ok-next.field-0 c.if-not-branch.false
    c.in_ok-next.ensures.part)
    (subst Taken c.part-part.ensures (λ octets text h. c.take.ensures.taken batches octets text stands h)) in
    let fault = err_from_is_err_and c.from_residual-in_err-write_out.result c.from_residual-in_err-write_out.ensures.1 in
    rw (fault.1, fault.2) (stops_writing_egress c.write_out.result names batches begun after none new
    (g.W.Write.contents (inner_of c.write_out.new.writer)) (has_failed c.next.new.reader) (has_failed c.write_out.new.writer)
    c.next.new.self.rest c.take.new.self c.write_out.new.self (18446744073709551615 - (left - 1))
    c.in_err-write_out.field-0.0 c.in_err-write_out.was way
    (λ octets text h. c.write_out.ensures.reached names batches octets text h))

pub returns-clause-part : goal.returns-clause-part
returns-clause-part g c batches begun stands opened =
    let there = g.R.Read.remaining (inner_of c.parts.reader) in
    stays_unread c.args.gateway.now.names.now batches begun there there
    (g.W.Write.contents (inner_of c.args.writer.now)) (g.W.Write.contents (inner_of c.parts.writer)) c.parts.parts.rest
    c.parts.egress (18446744073709551615 - c.parts.left) (has_failed c.parts.reader) (has_failed c.parts.writer)
    (c.parts.invariant.way batches begun stands opened) (keeps_same there) (λ log more. inr (omega arith))
