-- The parts of a text, and what they mean.
use Rattle.std.proofs.Common.{◌≡◌, ℕ, zero, suc, ◌+◌, ◌-◌, ◌<◌, ◌≤◌, ◌==◌, false, List, [], ◌∷◌, length}
use Rattle.std.proofs.Common.{take, drop, get_or, replicate, Option, Some, Ok, inl, inr, refl, sym, ap, ◌∙◌, arith}
use Rattle.std.specs.Prelude.{option_map, position}
use Rattle.std.proofs.lemmas.Bool.{cases_eq, ne_eqb, eq-eqb}
use Rattle.std.proofs.lemmas.List.{take_all, length-drop}
use Rattle.gw_log.specs.LogFrames.{parted, without_dots, has_flag, error, remote, remote_of, record_of}

abbrev pub parts_at : List ℕ → ℕ → List ℕ × List ℕ
parts_at text at = (take at text, drop (at + 1) text)

-- the parts as the code cuts them
pub parted_there : (octet : ℕ) (text : List ℕ) (at : ℕ) → Some at ≡ position (λ c. c == octet) text
    → Some (take at text, take (length text - (at + 1)) (drop (at + 1) text)) ≡ parted octet text
parted_there octet text at found =
    let few : length (drop (at + 1) text) ≤ length text - (at + 1) = omega (arith, length-drop (at + 1) text) in
    let all : take (length text - (at + 1)) (drop (at + 1) text) ≡ drop (at + 1) text = take_all _ _ few in
    ap (λ (rest : List ℕ). Some (take at text, rest)) all ∙ ap (option_map (parts_at text)) found

-- a digit more stands behind a position with a digit
pub more_digits : (text : List ℕ) (i : ℕ) → i < length text → (get_or text i 0 ≡ 46 → ⊥)
    → length (without_dots (take i text)) < length (without_dots text)
more_digits [] i within other = absurd (omega arith)
more_digits (c ∷ cs) zero within other = rw (ne_eqb c 46 other) (omega arith)
more_digits (c ∷ cs) (suc i) within other =
    let next = more_digits cs i (omega arith) other in
    elim (cases_eq c 46) [
      | inl dot ↦ rw (eq-eqb c 46 dot) next
      | inr digit ↦ rw (ne_eqb c 46 digit) (omega arith)
    ]

-- a remote frame by the length that was read
pub remote_there : (word len : ℕ) (found : Option ℕ) → Some len ≡ found → has_flag error word ≡ false
    → remote_of word found ≡ Ok (record_of (word + remote) (replicate len 0))
remote_there word len found same plain = ap (remote_of word) (sym same) ∙ rw plain refl
