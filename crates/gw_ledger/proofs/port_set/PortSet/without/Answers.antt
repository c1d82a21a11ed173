use Rattle.std.proofs.Common.{ℕ, ◌<◌, ◌≤◌, ◌*◌, ◌%◌, ◌^◌, ◌==◌, ◌&&◌, not, w16, inl, inr, sym, ap, ◌∙◌, arith}
use Rattle.std.specs.Int.{bit_at, bit_not}
use Rattle.std.specs.Int.RustNames.{bit_and}
use Rattle.std.proofs.lemmas.Bool.{cases_eq, eq-eqb, ne_eqb}
use Rattle.std.proofs.lemmas.Nat.Bits.{bit_at_clear_same, bit_at_clear_other}
use Rattle.gw_ledger.specs.Ports.{has_port}
use Rattle.gw_ledger.proofs.PortLists.{same_ports}
use Rattle.gw_ledger.proofs.PortBits.{set_bit}
use Rattle.gw_ledger.proofs.port_set.PortSet.without.Goals as goal

pub returns-then-from-lt-MAX_PORTS : goal.returns-then-from-lt-MAX_PORTS
returns-then-from-lt-MAX_PORTS c =
    let word = c.self.inside.word in
    let port = c.args.port in
    let within : port < 16 = omega (arith, c.from.ensures, c.if-from-lt-MAX_PORTS.true) in
    let left : ℕ = bit_and word (bit_not w16 (1 * 2 ^ port % 2 ^ 16)) in
    same_ports 16 (λ other. bit_at left other == 1) (λ other. not (other == port) && has_port other c.args.self)
    (λ other low. elim (cases_eq other port) [
      | inl same ↦ ap (λ k. bit_at left k == 1) same ∙ ap (λ b. b == 1) (bit_at_clear_same w16 word port within)
          ∙ sym (ap (λ b. not b && has_port other c.args.self) (eq-eqb other port same))
      | inr apart ↦ ap (λ b. b == 1) (bit_at_clear_other w16 word port within other low apart)
          ∙ set_bit word c.args.self other c.self.view_is low
          ∙ sym (ap (λ b. not b && has_port other c.args.self) (ne_eqb other port apart))
    ])

pub returns-else-from-lt-MAX_PORTS : goal.returns-else-from-lt-MAX_PORTS
returns-else-from-lt-MAX_PORTS c =
    let word = c.self.inside.word in
    let port = c.args.port in
    let beyond : 16 ≤ port = omega (arith, c.from.ensures, c.if-from-lt-MAX_PORTS.false) in
    same_ports 16 (λ other. bit_at word other == 1) (λ other. not (other == port) && has_port other c.args.self)
    (λ other low. set_bit word c.args.self other c.self.view_is low
    ∙ sym (ap (λ b. not b && has_port other c.args.self) (ne_eqb other port (λ same. omega (arith, same)))))
