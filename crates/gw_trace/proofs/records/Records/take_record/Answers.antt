use Rattle.std.proofs.Common.{◌+◌, ◌≤◌, ◌<◌, ◌++◌, [], min, length, take, ap, ◌∙◌, subst, arith}
use Rattle.gw_trace.specs.Recorded.{IsBegun, in_records}
use Rattle.gw_trace.specs.Traces.{captured_length}
use Rattle.gw_trace.proofs.Parting.{front_len, taken_within, record_read, part_read, split_again, rest_shorter, few_taken}
use Rattle.gw_trace.proofs.Parting.{some_wanted}
use Rattle.gw_trace.proofs.records.Records.take_record.Goals as goal

pub overflow_add-there : goal.overflow_add-there
overflow_add-there c =
    let few = few_taken c.wanted-wanted.result (length c.args.piece.now) (length c.split_at.result.0.now)
    (c.split_at.ensures.front_len ∙ c.min.ensures) in
    omega (arith, few, c.wanted-wanted.ensures.few)

pub whole_in-requires-clause-front : goal.whole_in-requires-clause-front
whole_in-requires-clause-front c =
    let begun = subst (λ s. IsBegun s c.self.inside.front c.self.inside.there)
    (ap (λ k. k.stage) c.self.view_is ∙ c.requires) c.self.invariant in
    front_len c.self.inside.front c.split_at.result.0.now c.joined-front.result c.self.inside.there c.joined-front.ensures begun.0

pub whole_in-requires-clause-within : goal.whole_in-requires-clause-within
whole_in-requires-clause-within c =
    let begun = subst (λ s. IsBegun s c.self.inside.front c.self.inside.there)
    (ap (λ k. k.stage) c.self.view_is ∙ c.requires) c.self.invariant in
    let few = few_taken c.wanted-wanted.result (length c.args.piece.now) (length c.split_at.result.0.now)
    (c.split_at.ensures.front_len ∙ c.min.ensures) in
    taken_within c.args.order c.self.inside.front c.split_at.result.0.now c.joined-front.result c.self.inside.there
    c.joined-front.ensures begun.0 (omega (arith, few, c.wanted-wanted.ensures.wanted)) begun.1

pub among-requires-in-None : goal.among-requires-in-None
among-requires-in-None c =
    let begun = subst (λ s. IsBegun s c.self.inside.front c.self.inside.there)
    (ap (λ k. k.stage) c.self.view_is ∙ c.requires) c.self.invariant in (
      front_len c.self.inside.front c.split_at.result.0.now c.joined-front.result c.self.inside.there c.joined-front.ensures
          begun.0,
      c.in-None.ensures.part,
    )

pub returns-in-Some-clause-taken : goal.returns-in-Some-clause-taken
returns-in-Some-clause-taken c = λ octets records h.
    let kept = c.args.self.now in
    let used = c.split_at.result.0.now in
    let begun = subst (λ s. IsBegun s c.self.inside.front c.self.inside.there)
    (ap (λ k. k.stage) c.self.view_is ∙ c.requires) c.self.invariant in
    record {
      used = used;
      split = split_again c.min.result c.args.piece.now used c.split_at.result.1.now c.split_at.ensures.front
          c.split_at.ensures.back;
      read = record_read kept _ c.args.order octets used c.joined-front.result records c.in-Some.said c.requires
          (c.joined-front.ensures ∙ ap (λ k. take 32 (k.front ++ used)) c.self.view_is)
          (λ xs front there. c.in-Some.ensures.whole xs front (ap (λ k. k.there + length used) c.self.view_is ∙ there))
          (c.self-in-Some.view_is ∙ c.among.ensures
          ∙ ap (λ f. in_records c.args.order f 0 c.saturating_add.result) c.new.ensures
          ∙ ap (in_records c.args.order [] 0)
          (c.saturating_add.ensures ∙ ap (λ k. min (k.count + 1) 18446744073709551615) c.self.view_is))
          h;
    }

pub returns-in-None-clause-taken : goal.returns-in-None-clause-taken
returns-in-None-clause-taken c = λ octets records h.
    let kept = c.args.self.now in
    let used = c.split_at.result.0.now in
    let begun = subst (λ s. IsBegun s c.self.inside.front c.self.inside.there)
    (ap (λ k. k.stage) c.self.view_is ∙ c.requires) c.self.invariant in
    record {
      used = used;
      split = split_again c.min.result c.args.piece.now used c.split_at.result.1.now c.split_at.ensures.front
          c.split_at.ensures.back;
      read = part_read kept _ c.args.order octets used c.joined-front.result records c.requires
          (c.joined-front.ensures ∙ ap (λ k. take 32 (k.front ++ used)) c.self.view_is)
          (subst (λ k. 16 ≤ k.there + length used
          → k.there + length used < 16 + captured_length c.args.order c.joined-front.result)
          c.self.view_is c.in-None.ensures.part)
          (c.self-in-None.view_is ∙ c.among-in-None.ensures
          ∙ ap (λ k. in_records c.args.order c.joined-front.result (k.there + length used) k.count) c.self.view_is)
          h;
    }

pub returns-in-Some-clause-shorter : goal.returns-in-Some-clause-shorter
returns-in-Some-clause-shorter c =
    let begun = subst (λ s. IsBegun s c.self.inside.front c.self.inside.there)
    (ap (λ k. k.stage) c.self.view_is ∙ c.requires) c.self.invariant in
    let some = some_wanted c.args.order c.self.inside.front c.self.inside.there begun.1 in
    rest_shorter c.wanted-wanted.result c.min.result c.args.piece.now c.split_at.result.1.now c.min.ensures
    c.split_at.ensures.back (omega (arith, some, c.wanted-wanted.ensures.wanted))

pub returns-in-None-clause-shorter : goal.returns-in-None-clause-shorter
returns-in-None-clause-shorter c =
    let begun = subst (λ s. IsBegun s c.self.inside.front c.self.inside.there)
    (ap (λ k. k.stage) c.self.view_is ∙ c.requires) c.self.invariant in
    let some = some_wanted c.args.order c.self.inside.front c.self.inside.there begun.1 in
    rest_shorter c.wanted-wanted.result c.min.result c.args.piece.now c.split_at.result.1.now c.min.ensures
    c.split_at.ensures.back (omega (arith, some, c.wanted-wanted.ensures.wanted))
