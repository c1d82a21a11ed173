use Rattle.std.proofs.Common.{◌≡◌, ◌-◌, ◌<◌, ◌++◌, length, take, sym, ap, ◌∙◌, arith}
use Rattle.gw_trace.specs.declared.stage.Stage.TheVariants.{Header}
use Rattle.gw_trace.specs.Recorded.{in_records}
use Rattle.gw_trace.proofs.Parting.{read_at, header_read, header_refused, split_again, few_taken}
use Rattle.gw_trace.proofs.records.Records.take_header.Goals as goal

pub returns-in-Ok-clause-taken : goal.returns-in-Ok-clause-taken
returns-in-Ok-clause-taken c = λ octets records h.
    let kept = c.args.self.now in
    let used = c.split_at.result.0.now in
    let read = read_at kept Header octets records c.requires h in
    let short : length kept.front < 24 = omega (arith, read.1, ap length read.0) in
    let front : c.octets.result.now ≡ kept.front = c.octets.ensures.octets ∙ ap (λ k. k.front) c.self.view_is in
    let taken = c.split_at.ensures.front_len ∙ c.min.ensures in
    let few = few_taken (24 - length c.octets.result.now) (length c.args.piece.now) (length used) taken in
    record {
      used = used;
      split = split_again c.min.result c.args.piece.now used c.split_at.result.1.now c.split_at.ensures.front
          c.split_at.ensures.back;
      read = header_read kept _ c.in-Ok.order octets used c.octets-3.result.now records c.requires
          (c.octets-3.ensures.octets ∙ c.joined-front.ensures ∙ ap (λ k. take 24 (k.front ++ used)) c.self.view_is)
          (omega (arith, c.if-octets-lt-HEADER.false, ap length (c.octets-2.ensures.octets ∙ sym c.octets-3.ensures.octets)))
          (omega (arith, few, short, ap length front))
          c.in-Ok.ensures
          (c.self-in-Ok.view_is ∙ c.among.ensures ∙ ap (λ f. in_records c.in-Ok.order f 0 0) c.new.ensures)
          h;
    }

pub returns-in-Err-clause-refused : goal.returns-in-Err-clause-refused
returns-in-Err-clause-refused c = λ octets records h.
    let kept = c.args.self.now in
    let used = c.split_at.result.0.now in
    let read = read_at kept Header octets records c.requires h in
    let short : length kept.front < 24 = omega (arith, read.1, ap length read.0) in
    let front : c.octets.result.now ≡ kept.front = c.octets.ensures.octets ∙ ap (λ k. k.front) c.self.view_is in
    let taken = c.split_at.ensures.front_len ∙ c.min.ensures in
    let few = few_taken (24 - length c.octets.result.now) (length c.args.piece.now) (length used) taken in
    header_refused kept _ c.in-Err.fault octets c.args.piece.now used c.split_at.result.1.now
    c.octets-3.result.now records c.requires
    (c.octets-3.ensures.octets ∙ c.joined-front.ensures ∙ ap (λ k. take 24 (k.front ++ used)) c.self.view_is)
    (omega (arith, c.if-octets-lt-HEADER.false, ap length (c.octets-2.ensures.octets ∙ sym c.octets-3.ensures.octets)))
    (omega (arith, few, short, ap length front))
    c.in-Err.ensures
    (c.self-in-Err.view_is ∙ c.failed.ensures)
    (split_again c.min.result c.args.piece.now used c.split_at.result.1.now c.split_at.ensures.front c.split_at.ensures.back)
    h
