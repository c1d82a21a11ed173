-- Printed numbers and labels are tokens, and read back.
use Rattle.std.proofs.Common.{◌≡◌, ℕ, ◌+◌, ◌*◌, ◌^◌, ◌<◌, ◌≤◌, Bool, true, false, ◌&&◌, not}
use Rattle.std.proofs.Common.{List, [], ◌∷◌, ◌++◌, length, get_or, ◌==◌, Some, refl, ap, ◌∙◌, arith}
use Rattle.std.proofs.Common.{lt-ltb, ⊎_elim}
use Rattle.std.specs.Char.{digit_value}
use Rattle.std.specs.List.{list_all}
use Rattle.std.specs.Fmt.{digits, decimal}
use Rattle.std.specs.Str.Parse.{AllDigits, IsNumeral, digits_value, digits_value_after}
use Rattle.std.proofs.lemmas.Fmt.{digits_is_IsNumeral, first_decimal, decimal_digit}
use Rattle.std.proofs.lemmas.Bool.Decides.{nat_tests}
use Rattle.std.proofs.lemmas.Bool.{cases_lt}
use Rattle.gw_text.specs.AssemblerTokens.{is_name_character, is_digit, starts_as}
use Rattle.gw_text.specs.AssemblerTokens.{tokens_of, add_character, extends_name, digits_from, digits_in, number_value}
use Rattle.gw_text.proofs.TokenLemmas.{name_no_separator}

-- a name before what does not go on with it is one token
names_end : (c : ℕ) (rest : List ℕ) → starts_as is_name_character rest ≡ false → extends_name c rest ≡ false
names_end c [] h = refl
names_end c (d ∷ ds) h = go (is_name_character c)
  where
    go : (b : Bool) → (b && is_name_character d) ≡ false
    go true = h
    go false = refl

-- a name that has a first character
pub name_token : (c : ℕ) (cs rest : List ℕ) → list_all is_name_character (c ∷ cs) ≡ true → starts_as is_name_character rest
    ≡ false
    → tokens_of ((c ∷ cs) ++ rest) ≡ (c ∷ cs) ∷ tokens_of rest
name_token c [] rest all ends =
    let name : is_name_character c ≡ true = grind (arith, nat_tests) in
    rw (name_no_separator c name, names_end c rest ends)
name_token c (d ∷ ds) rest all ends =
    let name : is_name_character c ≡ true = grind (arith, nat_tests) in
    let next : is_name_character d ≡ true = grind (arith, nat_tests) in
    let more : list_all is_name_character (d ∷ ds) ≡ true = grind (arith, nat_tests) in
    ap (add_character c (d ∷ ds ++ rest)) (name_token d ds rest more ends) ∙ rw (name_no_separator c name, name, next)

digit_is_name : (c : ℕ) → digit_value c < 16 → is_name_character c ≡ true
digit_is_name c h = grind (arith, nat_tests)

decimal_is_digit : (c : ℕ) → digit_value c < 10 → is_digit c ≡ true
decimal_is_digit c h = grind (arith, nat_tests)

-- digits of a base are read back
all_names : (ds : List ℕ) (base : ℕ) → base ≤ 16 → AllDigits base ds → list_all is_name_character ds ≡ true
all_names [] base le h = refl
all_names (d ∷ ds) base le h = rw (digit_is_name d (omega arith), all_names ds base le h.1)

read_from : (base value : ℕ) (ds : List ℕ) → AllDigits base ds → digits_from base value ds
    ≡ Some (digits_value_after base value ds)
read_from base value [] h = refl
read_from base value (d ∷ ds) h = rw (lt-ltb (digit_value d) base h.0) (read_from base (value * base + digit_value d) ds h.1)

read_in : (base : ℕ) (ds : List ℕ) → IsNumeral base ds → digits_in base ds ≡ Some (digits_value base ds)
read_in base [] h = absurd (omega arith)
read_in base (d ∷ ds) h = read_from base 0 (d ∷ ds) h.1

-- a printed number as a token
pub record IsPrinted (n : ℕ) (token : List ℕ) : Type 0 where
  pub first : ℕ
  pub more : List ℕ
  pub spelled : token ≡ first ∷ more
  pub digit : is_digit first ≡ true
  pub name : list_all is_name_character (first ∷ more) ≡ true
  pub value : number_value (first ∷ more) ≡ Some n

plain_value : (c : ℕ) (cs : List ℕ) → (0 < length cs → not (c == 48) ≡ true) → number_value (c ∷ cs) ≡ digits_in 10 (c ∷ cs)
plain_value c [] h = refl
plain_value c (d ∷ ds) h = rw (h (omega arith))

-- a hexadecimal number has name characters alone
pub hex_names : (n : ℕ) → n < 2 ^ 32 → list_all is_name_character (48 ∷ 120 ∷ digits 16 false n) ≡ true
hex_names n small = all_names (digits 16 false n) 16 (omega arith) (digits_is_IsNumeral 16 false (omega arith) (omega arith) n
    (omega arith)).0.1

-- a hexadecimal number is a number token of its value
pub printed_hex : (n : ℕ) → n < 2 ^ 32 → IsPrinted n (48 ∷ 120 ∷ digits 16 false n)
printed_hex n small =
    let is : IsNumeral 16 (digits 16 false n) × (digits_value 16 (digits 16 false n) ≡ n) =
    digits_is_IsNumeral 16 false (omega arith) (omega arith) n (omega arith) in
    record {
      first = 48;
      more = 120 ∷ digits 16 false n;
      spelled = refl;
      digit = refl;
      name = all_names (digits 16 false n) 16 (omega arith) is.0.1;
      value = read_in 16 (digits 16 false n) is.0 ∙ ap Some is.1;
    }

spelled_decimal : (n : ℕ) (ds : List ℕ) → decimal n ≡ ds → IsNumeral 10 ds → digits_value 10 ds ≡ n
    → (10 ≤ n → 48 < get_or ds 0 0) → (n < 10 → ds ≡ (48 + n) ∷ []) → IsPrinted n ds
spelled_decimal n [] e is value great small = absurd (omega arith)
spelled_decimal n (d ∷ ds) e is value great small = record {
  first = d;
  more = ds;
  spelled = refl;
  digit = decimal_is_digit d is.1.0;
  name = all_names (d ∷ ds) 10 (omega arith) is.1;
  value =
      plain_value d ds
      (λ some. ⊎_elim
      (λ lt. let one : d ∷ ds ≡ (48 + n) ∷ [] = small lt in absurd (let len : length (d ∷ ds) ≡ 1 = ap length one in omega arith))
      (λ ge. let first : 48 < d = great ge in grind (arith, nat_tests))
      (cases_lt n 10))
      ∙ read_in 10 (d ∷ ds) is ∙ ap Some value;
}

-- and so is a decimal one
pub printed_decimal : (n : ℕ) → n < 2 ^ 64 → IsPrinted n (decimal n)
printed_decimal n small =
    let is : IsNumeral 10 (decimal n) × (digits_value 10 (decimal n) ≡ n) =
    digits_is_IsNumeral 10 false (omega arith) (omega arith) n (omega arith) in
    spelled_decimal n (decimal n) refl is.0 is.1 (λ ge. first_decimal n (omega arith) small) (λ lt. decimal_digit n lt)
