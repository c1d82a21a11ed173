-- The ports of a word, by its bits.
use Rattle.std.proofs.Common.{◌≡◌, ℕ, zero, suc, ◌+◌, ◌*◌, ◌%◌, ◌^◌, ◌<◌, ◌==◌, if◌then◌else◌, List, [], ◌∷◌, length, inl, inr}
use Rattle.std.proofs.Common.{min, max, true, nat_lt, not, w16, ◌-◌}
use Rattle.std.proofs.Common.{sym, ap, ◌∙◌, subst, arith, ◌&&◌, ◌||◌}
use Rattle.std.specs.Int.RustNames.{bit_and, bit_or}
use Rattle.std.specs.Int.{bit_at, bit_not}
use Rattle.std.specs.Int.Count.{ones}
use Rattle.std.proofs.Math.Nat.{mod-eq_of_lt, mod-one}
use Rattle.std.proofs.lemmas.Bool.{cases_lt, lt-ltb, le-ltb}
use Rattle.std.proofs.lemmas.List.{length-append}
use Rattle.std.proofs.lemmas.Nat.{ones_cat, mod-pow-add, mod_below, pow_pos}
use Rattle.std.proofs.lemmas.Nat.Bits.{bit_at-lt, bit_at_and, bit_at_not, bit_at_or, bit_at_ones, bit_at_ones_above}
use lib.Count.{ones-ones}
use Rattle.gw_ledger.specs.Ports.{has_port, ports_below}
use Rattle.gw_ledger.specs.PortWord.{ports_of_word}
use Rattle.gw_ledger.proofs.PortLists.{has_port-ports_below}

-- the port of a bit, if the bit is set
abbrev when_set : ℕ → ℕ → List ℕ
when_set bit port = if bit == 1 then port ∷ [] else []

-- a bit that is set is one port
length_of_bit : (bit port : ℕ) → bit < 2 → length (when_set bit port) ≡ ones bit
length_of_bit bit port below = elim (cases_lt bit 1) [
  | inl low ↦ is_bit 0 (omega arith) (sym (ones-ones 0))
  | inr high ↦ is_bit 1 (omega arith) (sym (ones-ones 1))
]
  where
    is_bit : (b : ℕ) → b ≡ bit → length (when_set b port) ≡ ones b → length (when_set bit port) ≡ ones bit
    is_bit b is = subst (λ b. length (when_set b port) ≡ ones b) is

-- a word has as many ports as bits that are set: of its low bits, and then of all
length_of_low : (word count : ℕ) → length (ports_below count (λ port. bit_at word port == 1)) ≡ ones (word % 2 ^ count)
unfolding ports_below
length_of_low word zero = sym (ap ones (mod-one word) ∙ ones-ones 0)
length_of_low word (suc n) =
    let next : 1 + n ≡ suc n = omega arith in
    let split = subst (λ k. word % 2 ^ k ≡ bit_at word n * 2 ^ n + word % 2 ^ n) next (mod-pow-add word 1 n) in
    let rest = length_of_low word n in
    let one = length_of_bit (bit_at word n) n (bit_at-lt word n) in
    let both = ones_cat n (bit_at word n) (word % 2 ^ n) (mod_below word (2 ^ n) (pow_pos n)) in
    let lengths = length-append (ports_below n (λ port. bit_at word port == 1)) (when_set (bit_at word n) n) in
    rw (split, both) (omega arith)

-- a word of 16 bits has as many ports as bits that are set
pub length-ports : (word : ℕ) → word < 2 ^ 16 → length (ports_below 16 (λ port. bit_at word port == 1)) ≡ ones word
length-ports word below = length_of_low word 16 ∙ ap ones (mod-eq_of_lt below)

-- a port is in a word's set where its bit is set
pub set_bit : (word : ℕ) (ports : List ℕ) (port : ℕ) → ports_of_word word ≡ ports → port < 16
    → (bit_at word port == 1) ≡ has_port port ports
set_bit word ports port is below =
    sym (ap (λ b. b && (bit_at word port == 1)) (lt-ltb port 16 below))
    ∙ sym (has_port-ports_below 16 port (λ other. bit_at word other == 1)) ∙ ap (has_port port) is

both_set : (one other bit : ℕ) → one < 2 → other < 2 → bit ≡ min one other → (bit == 1) ≡ ((one == 1) && (other == 1))
both_set zero other bit first second is = let off : bit ≡ 0 = omega (arith, is) in ap (λ b. b == 1) off
both_set (suc zero) zero bit first second is = let off : bit ≡ 0 = omega (arith, is) in ap (λ b. b == 1) off
both_set (suc zero) (suc zero) bit first second is = let on : bit ≡ 1 = omega (arith, is) in ap (λ b. b == 1) on
both_set (suc zero) (suc (suc n)) bit first second is = absurd (omega arith)
both_set (suc (suc n)) other bit first second is = absurd (omega arith)

one_set : (one other bit : ℕ) → one < 2 → other < 2 → bit ≡ max one other → (bit == 1) ≡ ((one == 1) || (other == 1))
one_set zero zero bit first second is = ap (λ b. b == 1) is
one_set zero (suc zero) bit first second is = ap (λ b. b == 1) is
one_set zero (suc (suc n)) bit first second is = absurd (omega arith)
one_set (suc zero) zero bit first second is = ap (λ b. b == 1) is
one_set (suc zero) (suc zero) bit first second is = ap (λ b. b == 1) is
one_set (suc zero) (suc (suc n)) bit first second is = absurd (omega arith)
one_set (suc (suc n)) other bit first second is = absurd (omega arith)

-- the bits of two words together
pub bit_of_both : (one other port : ℕ)
    → (bit_at (bit_and one other) port == 1) ≡ ((bit_at one port == 1) && (bit_at other port == 1))
bit_of_both one other port =
    both_set (bit_at one port) (bit_at other port) (bit_at (bit_and one other) port) (bit_at-lt one port) (bit_at-lt other port)
    (bit_at_and one other port)

pub bit_of_either : (one other port : ℕ)
    → (bit_at (bit_or one other) port == 1) ≡ ((bit_at one port == 1) || (bit_at other port == 1))
bit_of_either one other port =
    one_set (bit_at one port) (bit_at other port) (bit_at (bit_or one other) port) (bit_at-lt one port) (bit_at-lt other port)
    (bit_at_or one other port)

not_set : (bit other : ℕ) → bit < 2 → other ≡ 1 - bit → (other == 1) ≡ not (bit == 1)
not_set zero other below is = ap (λ b. b == 1) is
not_set (suc zero) other below is = ap (λ b. b == 1) is
not_set (suc (suc n)) other below is = absurd (omega arith)

-- the bits of one word that are not those of another
pub bit_of_rest : (one other port : ℕ) → other < 2 ^ 16 → port < 16
    → (bit_at (bit_and one (bit_not w16 other)) port == 1) ≡ ((bit_at one port == 1) && not (bit_at other port == 1))
bit_of_rest one other port fits below =
    bit_of_both one (bit_not w16 other) port
    ∙ ap (λ b. (bit_at one port == 1) && b)
    (not_set (bit_at other port) (bit_at (bit_not w16 other) port) (bit_at-lt other port) (bit_at_not w16 other port fits below))

-- the bits of the ports below a number
pub bit_below : (n port : ℕ) → (bit_at (2 ^ n - 1) port == 1) ≡ (nat_lt port n && true)
bit_below n port = elim (cases_lt port n) [
  | inl low ↦ ap (λ b. b == 1) (bit_at_ones n port low) ∙ sym (ap (λ b. b && true) (lt-ltb port n low))
  | inr high ↦ ap (λ b. b == 1) (bit_at_ones_above n port high) ∙ sym (ap (λ b. b && true) (le-ltb port n high))
]
