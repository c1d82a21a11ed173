use Rattle.std.proofs.Common.{length, sym, ap, ◌∙◌, arith, rules}
use Rattle.gw_ledger.specs.Ports.{has_port}
use Rattle.gw_input.proofs.PortLists.{text_with, text_without, text_before, none_before}
use Rattle.gw_input.proofs.line.Line.ports.Goals.{then-has, else-has}
use Rattle.gw_input.proofs.line.Line.ports.Goals as goal

pub loop-port-init : goal.loop-port-init
loop-port-init c = record {
  octets = text_before (λ q. has_port q c.args.ports) c.args.self;
  some = none_before (λ q. has_port q c.args.ports);
  len = search rules;
}

pub loop-port-preserved : goal.loop-port-preserved
loop-port-preserved c =
    elim c.if-has.branch [
      | then-has w ↦
          let more = text_with c.loop-port.port (λ q. has_port q c.args.ports) c.args.self c.loop-port.line c.if-has.line
          c.loop-port.some (sym c.has.ensures ∙ w.if-has.true)
          c.loop-port.invariant.octets c.loop-port.invariant.some (w.line-is ∙ w.member-line.ensures.octets) in
          record {
            octets = more.0;
            some = w.some-is ∙ more.1;
            len = let is = ap length w.line-is in let so_far =
                c.loop-port.invariant.len in let more = w.member-line.ensures.len in omega arith;
          }
      | else-has w ↦
          let same = text_without c.loop-port.port (λ q. has_port q c.args.ports) c.args.self c.loop-port.line c.loop-port.some
          (sym c.has.ensures ∙ w.if-has.false) c.loop-port.invariant.octets c.loop-port.invariant.some in
          record {
            octets = w.line-is ∙ same.0;
            some = w.some-is ∙ same.1;
            len = let is = ap length w.line-is in let so_far =
                c.loop-port.invariant.len in omega arith;
          }
    ]
