-- How a set of ports is kept: as a word of 16 bits, in which bit p is the port p.
use Rattle.std.specs.Prelude.{◌≡◌, ℕ, zero, suc, ◌+◌, ◌*◌, ◌%◌, ◌<◌, ◌^◌, ◌==◌, if◌then◌else◌, List, [], ◌∷◌, sum_by}
use Rattle.std.proofs.Common.{inl, inr, sym, ap, ◌∙◌, subst}
use Rattle.std.proofs.Math.Arith.{lt-one}
use Rattle.std.proofs.Math.Nat.{add_comm, le_antisymm, le_of_suc-le-suc, mod-eq_of_lt, mod-one, one-mul, zero-add, zero-mul}
use Rattle.std.proofs.Math.Numerals.{one-add}
use Rattle.std.proofs.lemmas.Bool.{cases_lt}
use Rattle.std.proofs.lemmas.List.Sums.{sum_by-append}
use Rattle.std.proofs.lemmas.Nat.{mod-pow-add}
use Rattle.std.proofs.lemmas.Nat.Bits.{bit_at-lt}
use Rattle.std.specs.Int.{bit_at}
use Rattle.gw_ledger.specs.Ports.{ports_below}
use Rattle.gw_ledger.specs.declared.port_set.PortSet.TheInside.{Inside}

abbrev pub ports_of_word : ℕ → List ℕ
ports_of_word word = ports_below 16 (λ port. bit_at word port == 1)

abbrev pub ports_of : Inside → List ℕ
ports_of set = ports_of_word set.word

pub record FitsWord (set : Inside) : Type 0 where
  pub below : set.word < 2 ^ 16

abbrev pub word_of : List ℕ → ℕ
word_of ports = sum_by (λ port. 2 ^ port) ports

abbrev pub inside_of : List ℕ → Inside
inside_of ports = record { word = word_of ports }

-- a bit and its port
word_of_bit : (bit port : ℕ) → bit < 2 → word_of (if bit == 1 then port ∷ [] else []) ≡ bit * 2 ^ port
word_of_bit bit port below =
    elim (cases_lt bit 1) [
      | inl low ↦ is_bit 0 (sym (lt-one low)) (sym (zero-mul (2 ^ port)))
      | inr high ↦ is_bit 1 (le_antisymm high (le_of_suc-le-suc below)) (zero-add (2 ^ port) ∙ sym (one-mul (2 ^ port)))
    ]
  where
    is_bit : (b : ℕ) → b ≡ bit → word_of (if b == 1 then port ∷ [] else []) ≡ b * 2 ^ port
        → word_of (if bit == 1 then port ∷ [] else []) ≡ bit * 2 ^ port
    is_bit b is = subst (λ b. word_of (if b == 1 then port ∷ [] else []) ≡ b * 2 ^ port) is

-- the ports of the low bits
word_of_low : (word count : ℕ) → word_of (ports_below count (λ port. bit_at word port == 1)) ≡ word % 2 ^ count
unfolding ports_below
word_of_low word zero = sym (mod-one word)
word_of_low word (suc n) =
    sum_by-append (λ port. 2 ^ port) (ports_below n (λ port. bit_at word port == 1)) (if bit_at word n == 1 then n ∷ [] else [])
    ∙ ap (λ low. low + word_of (if bit_at word n == 1 then n ∷ [] else [])) (word_of_low word n)
    ∙ ap (λ high. word % 2 ^ n + high) (word_of_bit (bit_at word n) n (bit_at-lt word n))
    ∙ add_comm (word % 2 ^ n) (bit_at word n * 2 ^ n)
    ∙ sym (mod-pow-add word 1 n)
    ∙ ap (λ count. word % 2 ^ count) (one-add n)

-- the word of the ports of a word
pub word_of-ports_of : (set : Inside) → FitsWord set → word_of (ports_of set) ≡ set.word
word_of-ports_of set fits = word_of_low set.word 16 ∙ mod-eq_of_lt fits.below

-- a set is known by its ports
pub inside_of-ports_of : (set : Inside) → FitsWord set → inside_of (ports_of set) ≡ set
inside_of-ports_of set fits =
    let word = word_of-ports_of set fits in
    λ i. record { word = word i }
