-- Decimal digits, and the number at the front of a text.
use Rattle.std.proofs.Common.{ℕ, ◌≡◌, ◌+◌, ◌-◌, ◌*◌, ◌<◌, ◌≤◌, true, List, [], ◌∷◌, ◌++◌, length, take, drop, get_or, refl, ap}
use Rattle.std.proofs.Common.{subst, sym, ◌∙◌, arith, ⊎_elim}
use Rattle.std.specs.Prelude.{fold, All}
use Rattle.std.specs.Char.{IsAsciiDigit, is_ascii_digit}
use Rattle.std.specs.List.{prefix_len}
use Rattle.std.proofs.lemmas.List.Elements.{All-nil, All-cons, All-head, All-tail, All-take}
use Rattle.std.proofs.lemmas.List.{length-take, get_or-take, drop_all}
use Rattle.std.proofs.lemmas.List.Sums.{prefix_len_passes, prefix_len_stops}
use Rattle.std.proofs.lemmas.Bool.{cases_lt, false≢true}
use Rattle.std.proofs.lemmas.Bool.Decides.{nat_tests}
use Rattle.std.proofs.Math.Seq.{drop-cons}
use Rattle.std.proofs.lemmas.Str.Parse.{IsDigitsTest, FoldsDigits, IsNumeralModel, numerals_by_fold, digits_value_short}
use Rattle.gw_insn.specs.Listing.{decimal, StartsWithDigit, IsNumber, HasNumber}

all_digits : IsDigitsTest (All IsAsciiDigit)
all_digits = record {
  empty = All-nil IsAsciiDigit;
  parts = λ c cs h. (All-head IsAsciiDigit c cs h, All-tail IsAsciiDigit c cs h);
  more = λ c cs one rest. All-cons IsAsciiDigit c cs one rest;
}

-- the number after the digits, from the one before them
abbrev decimal_from : ℕ → List ℕ → ℕ
decimal_from n digits = fold (λ m d. 10 * m + (d - 48)) n digits

by_steps : FoldsDigits decimal_from
by_steps = record {
  empty = λ n. refl;
  more = λ n c cs h. ap (λ m. decimal_from m cs) (omega arith);
}

pub numerals : IsNumeralModel (All IsAsciiDigit) decimal
numerals = numerals_by_fold (All IsAsciiDigit) all_digits decimal_from by_steps

-- ten digits or fewer fit
pub decimal_small : (digits : List ℕ) (i : ℕ) → All IsAsciiDigit digits → length digits ≤ 10
    → decimal (take i digits) < 10000000000
decimal_small digits i ascii few =
    digits_value_short numerals (take i digits) 10 (All-take IsAsciiDigit i digits ascii) (omega (arith, length-take i digits))

-- where the digits end is determined
same_digits : (xs ys front back : List ℕ) → xs ++ front ≡ ys ++ back → All IsAsciiDigit xs → All IsAsciiDigit ys
    → (StartsWithDigit front → ⊥) → (StartsWithDigit back → ⊥) → (xs ≡ ys) × (front ≡ back)
same_digits [] [] front back e xs_are ys_are front_ends back_ends = (refl, e)
same_digits [] (y ∷ ys) front back e xs_are ys_are front_ends back_ends =
    absurd (front_ends (subst StartsWithDigit (sym e) (All-head IsAsciiDigit y ys ys_are)))
same_digits (x ∷ xs) [] front back e xs_are ys_are front_ends back_ends =
    absurd (back_ends (subst StartsWithDigit e (All-head IsAsciiDigit x xs xs_are)))
same_digits (x ∷ xs) (y ∷ ys) front back e xs_are ys_are front_ends back_ends =
    let tails : xs ++ front ≡ ys ++ back = cc in
    let same : (xs ≡ ys) × (front ≡ back) =
    same_digits xs ys front back tails (All-tail IsAsciiDigit x xs xs_are)
    (All-tail IsAsciiDigit y ys ys_are) front_ends back_ends in
    (cc, same.1)

-- the number that the digits at the front must spell
pub number_at : (text digits after : List ℕ) → text ≡ digits ++ after → All IsAsciiDigit digits → (StartsWithDigit after → ⊥)
    → (most n : ℕ) (rest : List ℕ) → HasNumber most text n rest → IsNumber most digits n
number_at text digits after whole ascii ends most n rest h =
    let same : (digits ≡ h.digits) × (after ≡ rest) =
    same_digits digits h.digits after rest (sym whole ∙ h.spelled) ascii h.number.ascii ends h.ends in
    subst (λ ds. IsNumber most ds n) (sym same.0) h.number

-- a text begins with one number, whatever the greatest
pub number_alone : {least most m n : ℕ} {text other front back : List ℕ} → text ≡ other → HasNumber least text m front
    → HasNumber most other n back → (m ≡ n) × (front ≡ back)
number_alone {front} {back} e a b =
    let same : (a.digits ≡ b.digits) × (front ≡ back) =
    same_digits a.digits b.digits front back (sym a.spelled ∙ e ∙ b.spelled) a.number.ascii b.number.ascii a.ends b.ends in
    (sym a.number.value ∙ ap decimal same.0 ∙ b.number.value, same.1)

-- the same with a mark after it
pub field_alone : {least most mark m n : ℕ} {text other front back : List ℕ} → text ≡ other
    → HasNumber least text m (mark ∷ front) → HasNumber most other n (mark ∷ back) → (m ≡ n) × (front ≡ back)
field_alone {least} {most} {mark} {m} {n} {text} {other} {front} {back} e a b =
    let same : (m ≡ n) × (mark ∷ front ≡ mark ∷ back) = number_alone e a b in
    let marked : mark ∷ front ≡ mark ∷ back = same.1 in
    (same.0, cc)

digit_from_test : (c : ℕ) → is_ascii_digit c ≡ true → IsAsciiDigit c
digit_from_test c e = grind (arith, nat_tests)

digit_to_test : (c : ℕ) → IsAsciiDigit c → is_ascii_digit c ≡ true
digit_to_test c h = grind (arith, nat_tests)

-- what is counted are digits
pub digits_passed : (text : List ℕ) → All IsAsciiDigit (take (prefix_len is_ascii_digit text) text)
digits_passed text = λ k d h.
    let n = prefix_len is_ascii_digit text in
    let below : k < n = omega (arith, length-take n text) in
    subst IsAsciiDigit (sym (get_or-take n text k d below))
    (digit_from_test (get_or text k d) (prefix_len_passes is_ascii_digit text k d below))

-- and no digit follows them
pub digits_end : (text : List ℕ) → StartsWithDigit (drop (prefix_len is_ascii_digit text) text) → ⊥
digits_end text h =
    let n = prefix_len is_ascii_digit text in
    ⊎_elim
    (λ below. false≢true (sym (prefix_len_stops is_ascii_digit text 0 below)
    ∙ digit_to_test (get_or text n 0) (subst StartsWithDigit (drop-cons text n 0 below) h)))
    (λ past. subst StartsWithDigit (drop_all n text past) h)
    (cases_lt n (length text))
