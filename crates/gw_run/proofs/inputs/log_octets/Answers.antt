use Rattle.std.proofs.Common.{◌++◌, ◌∙◌, [], ap, append-nil, arith, sym}
use Rattle.gw_io.specs.Tries.{inner_of}
use Rattle.gw_io.proofs.Callers.{consumed_nothing}
use Rattle.gw_run.specs.Logs.{no_log}
use Rattle.gw_run.proofs.FirstOctets.{no_log_behind}
use Rattle.gw_run.proofs.inputs.log_octets.Goals as goal

pub returns-then-first-lt4-clause-octets : goal.returns-then-first-lt4-clause-octets
returns-then-first-lt4-clause-octets g c = record {
  more = [];
  after = g.R.Read.remaining (inner_of c.args.reader);
  octets_are =
      c.in_ok-extend_from_slice.ensures.items ∙ ap (λ l. l ++ c.args.first.now) c.new-octets.ensures.items
      ∙ sym (append-nil c.args.first.now);
  consumed = consumed_nothing (g.R.Read.remaining (inner_of c.args.reader));
  end = c.requires.all c.if-first-lt4.true;
}

pub returns-in-Ok-clause-octets : goal.returns-in-Ok-clause-octets
returns-in-Ok-clause-octets g c =
    let read = c.in-Ok.ensures.input in record {
      more = read.0;
      after = g.R.Read.remaining (inner_of c.read_rest.new.reader);
      octets_are =
          read.1 ∙ ap (λ l. l ++ read.0) (c.in_ok-extend_from_slice.ensures.items
          ∙ ap (λ l. l ++ c.args.first.now) c.new-octets.ensures.items);
      consumed = read.2.consumed;
      end = read.2.end;
    }

pub returns-in-Ok-clause-log : goal.returns-in-Ok-clause-log
returns-in-Ok-clause-log g c =
    let read = c.in-Ok.ensures.input in
    let short = c.if-first-lt4.false in
    ap no_log
    (read.1 ∙ ap (λ l. l ++ read.0) (c.in_ok-extend_from_slice.ensures.items
    ∙ ap (λ l. l ++ c.args.first.now) c.new-octets.ensures.items))
    ∙ no_log_behind c.args.first.now read.0 (omega arith) ∙ c.requires.log
