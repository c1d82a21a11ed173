use Rattle.std.proofs.Common.{arith, ◌≡◌, ◌+◌, ◌<◌, ◌^◌, sym, ap, ◌∙◌}
use Rattle.std.specs.Prelude.{if◌then◌else◌}
use Rattle.std.proofs.Math.Pow.{pow_mono}
use Rattle.gw_ledger.specs.Ports.{has_port, ports_below}
use Rattle.gw_c.specs.Offers.{mask_of}
use Rattle.gw_c.proofs.Masks.{mask_none, mask_next, mask_below}
use Rattle.gw_c.proofs.offering.mask_of.Goals as goal

pub loop-port-init : goal.loop-port-init
loop-port-init c = (sym (mask_none (λ port. has_port port c.args.ports)), omega arith)

pub overflow_add-mask : goal.overflow_add-mask
overflow_add-mask c =
    let port = c.loop-port.port in
    let next : c.loop-port.mask + c.bit_of-mask.result < 2 ^ (port + 1)
    = mask_below port c.loop-port.mask c.bit_of-mask.result c.has.result c.loop-port.invariant.1 c.bit_of-mask.ensures in
    omega (arith, next, pow_mono {i = port + 1} {j = 16} (omega (arith, c.loop-port-test.true)))

pub loop-port-preserved : goal.loop-port-preserved
loop-port-preserved c =
    let port = c.loop-port.port in let bit = c.bit_of-mask.result in (
      mask_next port c.loop-port.mask bit (λ other. has_port other c.args.ports) c.loop-port.invariant.0
          (c.bit_of-mask.ensures ∙ ap (λ there. if there then 2 ^ port else 0) c.has.ensures),
      mask_below port c.loop-port.mask bit c.has.result c.loop-port.invariant.1 c.bit_of-mask.ensures,
    )

pub returns : goal.returns
returns c =
    let all : c.loop-port.port ≡ 16 = omega (arith, c.loop-port.auto.port-end, c.loop-port-test.false) in
    c.loop-port.invariant.0
    ∙ ap (λ n. mask_of (ports_below n (λ port. has_port port c.args.ports))) all
    ∙ ap mask_of (sym c.len-count.ensures.set.in_order)
