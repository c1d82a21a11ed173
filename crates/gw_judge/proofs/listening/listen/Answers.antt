use Rattle.std.proofs.Common.{◌+◌, ◌-◌, ◌≤◌, ℕ, List, ◌++◌, refl, sym, ap, ◌∙◌, subst, arith}
use Rattle.std.specs.Prelude.{OnOk}
use Rattle.gw_io.specs.Tries.{inner_of, has_failed}
use Rattle.gw_judge.specs.Counting.{no_tally}
use Rattle.gw_judge.specs.HearingUnderWay.{HasHeard}
use Rattle.gw_judge.proofs.Hearing.{heard_none, listens, listens_on, taken_fine, part_unheard}
use Rattle.gw_judge.proofs.Streams.{met_part}
use Rattle.gw_judge.proofs.listening.listen.Goals as goal

pub parts-init : goal.parts-init
parts-init g c = record {
  read = c.requires.reader;
  most = omega arith;
  way = listens (g.L.Listener.has_heard c.args.listener.now) (g.R.Read.remaining (inner_of c.args.reader.now))
      c.behind-parts.result.rest c.new-listening.result 0 c.behind-parts.ensures
      (heard_none (g.L.Listener.has_heard c.args.listener.now) c.new-listening.result c.requires.silent
      c.new-listening.ensures.kept
      (c.new-listening.ensures.tally ∙ ap no_tally c.no_groups.ensures)) refl;
}

pub returns-then-is_err-clause-part : goal.returns-then-is_err-clause-part
returns-then-is_err-clause-part g c =
    let before = g.R.Read.remaining (inner_of c.parts.reader) in
    let after = g.R.Read.remaining (inner_of c.next.new.reader) in
    part_unheard (g.L.Listener.has_heard c.parts.listener) (g.R.Read.remaining (inner_of c.args.reader.now)) before after
    c.parts.parts.rest c.next.new.self c.parts.listening (18446744073709551615 - c.parts.left) (has_failed c.next.new.reader)
    c.parts.invariant.way
    (met_part before after c.parts.parts.rest c.next.new.self c.in_ok-next.field-0 c.if-not-branch.false
    c.in_ok-next.ensures.part)

pub parts-preserved : goal.parts-preserved
parts-preserved g c =
    let before = g.R.Read.remaining (inner_of c.parts.reader) in
    let after = g.R.Read.remaining (inner_of c.next.new.reader) in
    let Before = g.L.Listener.has_heard c.parts.listener in
    let After = g.L.Listener.has_heard c.take.new.listener in
    let left = c.parts.left in
    let most = c.parts.invariant.most in
    let fewer : 18446744073709551615 - (left - 1) ≤ 18446744073709551615 - left + 1 = omega arith in
    record {
      read = c.in_ok-next.ensures.whole ∙ c.parts.invariant.read;
      most = omega arith;
      way = listens_on Before After (g.R.Read.remaining (inner_of c.args.reader.now)) before after c.parts.parts.rest
          c.next.new.self c.parts.listening c.take.new.self (18446744073709551615 - left) (18446744073709551615 - (left - 1))
          fewer c.parts.invariant.way
          (met_part before after c.parts.parts.rest c.next.new.self c.in_ok-next.field-0 c.if-not-branch.false
          c.in_ok-next.ensures.part)
          (taken_fine c.take.result (λ octets. HasHeard Before octets c.parts.listening)
          (λ octets. HasHeard After (octets ++ c.next.new.self.part) c.take.new.self)
          (sym c.is_err.ensures.value ∙ c.if-is_err.false)
          (subst (λ (part : List ℕ). (octets : List ℕ) → HasHeard Before octets c.parts.listening
          → OnOk c.take.result (HasHeard After (octets ++ part) c.take.new.self)) c.part-part.ensures c.take.ensures));
    }
