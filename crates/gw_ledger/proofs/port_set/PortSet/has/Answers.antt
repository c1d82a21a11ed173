use Rattle.std.proofs.Common.{◌≡◌, ◌<◌, ◌≤◌, false, ◌==◌, ◌&&◌, nat_lt, sym, ap, ◌∙◌, arith}
use Rattle.std.specs.Int.{bit_at}
use Rattle.std.proofs.lemmas.Bool.{lt-ltb, le-ltb}
use Rattle.std.proofs.lemmas.Nat.Bits.{shr_and_one}
use Rattle.gw_ledger.specs.Ports.{has_port}
use Rattle.gw_ledger.proofs.PortLists.{has_port-ports_below}
use Rattle.gw_ledger.proofs.port_set.PortSet.has.Goals as goal

pub returns-then-from-lt-MAX_PORTS : goal.returns-then-from-lt-MAX_PORTS
returns-then-from-lt-MAX_PORTS c =
    let word = c.self.inside.word in
    let port = c.args.port in
    let below : port < 16 = omega (arith, c.from.ensures, c.if-from-lt-MAX_PORTS.true) in
    ap (λ b. b == 1) (shr_and_one word port)
    ∙ ap (λ b. b && (bit_at word port == 1)) (sym (lt-ltb port 16 below))
    ∙ sym (has_port-ports_below 16 port (λ other. bit_at word other == 1)) ∙ ap (has_port port) c.self.view_is

pub returns-else-from-lt-MAX_PORTS : goal.returns-else-from-lt-MAX_PORTS
returns-else-from-lt-MAX_PORTS c =
    let word = c.self.inside.word in
    let port = c.args.port in
    let above : 16 ≤ port = omega (arith, c.from.ensures, c.if-from-lt-MAX_PORTS.false) in
    let past : nat_lt port 16 ≡ false = le-ltb port 16 above in
    ap (λ n. nat_lt n 16) c.from.ensures ∙ past ∙ ap (λ b. b && (bit_at word port == 1)) (sym past)
    ∙ sym (has_port-ports_below 16 port (λ other. bit_at word other == 1)) ∙ ap (has_port port) c.self.view_is
