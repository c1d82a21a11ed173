-- Digits, read one by one.
use Rattle.std.proofs.Common.{◌≡◌, ℕ, ◌+◌, ◌*◌, ◌<◌, ◌≤◌, Bool, true, false, nat_le, nat_lt, if◌then◌else◌, List}
use Rattle.std.proofs.Common.{[], ◌∷◌, length, drop, None, get_or, refl, sym, ap, ◌∙◌, arith, lt-ltb}
use Rattle.std.specs.Char.{digit_value}
use Rattle.std.specs.Option.{option_and_then}
use Rattle.std.proofs.lemmas.Bool.Decides.{nat_tests}
use Rattle.std.proofs.lemmas.List.{drop_more}
use Rattle.gw_text.specs.AssemblerTokens.{digits_from, digits_in}
use Rattle.gw_text.specs.AssemblerForms.{within}

-- a value that is too great stays so
mul_le : (v b : ℕ) → 1 ≤ b → v ≤ v * b
mul_le v b one = grind (arith)

either_way : (base value most : ℕ) (ds : List ℕ) (b : Bool) → option_and_then (within 0 most) (digits_from base value ds) ≡ None
    → option_and_then (within 0 most) (if b then digits_from base value ds else None) ≡ None
either_way base value most ds true h = h
either_way base value most ds false h = refl

-- whatever digits follow
pub too_great : (base value most : ℕ) (ds : List ℕ) → 1 ≤ base → most < value
    → option_and_then (within 0 most) (digits_from base value ds) ≡ None
too_great base value most [] one big =
    let out : nat_le value most ≡ false = grind (arith, nat_tests) in
    let low : nat_le 0 value ≡ true = grind (arith, nat_tests) in
    rw (low, out)
too_great base value most (d ∷ ds) one big =
    let grows : value ≤ value * base = mul_le value base one in
    either_way base (value * base + digit_value d) most ds (nat_lt (digit_value d) base)
    (too_great base (value * base + digit_value d) most ds one (omega arith))

-- the digit at place i goes into the value
pub one_digit : (base value : ℕ) (ds : List ℕ) (i : ℕ) → i < length ds → nat_lt (digit_value (get_or ds i 0)) base ≡ true
    → digits_from base value (drop i ds) ≡ digits_from base (value * base + digit_value (get_or ds i 0)) (drop (i + 1) ds)
one_digit base value ds i lt is = ap (digits_from base value) (drop_more ds i 0 lt) ∙ rw is

-- a character that is no digit of the base gives no value
pub no_digit : (base value : ℕ) (ds : List ℕ) (i : ℕ) → i < length ds → nat_lt (digit_value (get_or ds i 0)) base ≡ false
    → digits_from base value (drop i ds) ≡ None
no_digit base value ds i lt is = ap (digits_from base value) (drop_more ds i 0 lt) ∙ rw is

in_from : (base : ℕ) (ds : List ℕ) → 0 < length ds → digits_in base ds ≡ digits_from base 0 ds
in_from base [] some = absurd (omega arith)
in_from base (d ∷ ds) some = refl

-- a value above 32 bits gives none, though digits are left
pub stops : (base value i : ℕ) (ds : List ℕ) → 1 ≤ base → i < length ds → digit_value (get_or ds i 0) < base
    → 0xffffffff < value * base + digit_value (get_or ds i 0)
    → digits_from base value (drop i ds) ≡ digits_from base 0 ds
    → None ≡ option_and_then (within 0 0xffffffff) (digits_in base ds)
stops base value i ds one lt is big so =
    let all : digits_in base ds ≡ digits_from base (value * base + digit_value (get_or ds i 0)) (drop (i + 1) ds) =
    in_from base ds (omega arith) ∙ sym so ∙ one_digit base value ds i lt (lt-ltb (digit_value (get_or ds i 0)) base is) in
    sym (ap (option_and_then (within 0 0xffffffff)) all ∙ too_great base (value * base + digit_value (get_or ds i 0)) 0xffffffff
    (drop (i + 1) ds) one big)
