-- The one spelling is a listing.
use Rattle.std.proofs.Common.{◌≡◌, ℕ, ◌-◌, ◌^◌, ◌<◌, ◌≤◌, ◌==◌, Bool, List, [], ◌∷◌, ◌++◌, All, length, flat_map, refl, inl}
use Rattle.std.proofs.Common.{arith, append_assoc}
use Rattle.std.proofs.lemmas.List.Elements.{All-nil, All-head, All-tail}
use Rattle.gw_insn.specs.declared.insn.Raw.{Raw}
use Rattle.gw_insn.specs.Listing.{comma, space, HasNumber, HasItem, HasItems, IsListing, IsWhite}
use Rattle.gw_insn.specs.Spelling.{decimal_digits, plain_item, plain_listing}
use Rattle.gw_insn.proofs.Digits.{decimal_digits-IsNumber}

-- the fields are in the ranges of their types
pub record FieldsFit (r : Raw) : Type 0 where
  pub code : r.code ≤ 65535
  pub jt : r.jt ≤ 255
  pub jf : r.jf ≤ 255
  pub k : r.k ≤ 4294967295

-- a number in decimal digits, and a space or a comma after it
number_before : (most n c : ℕ) (text rest : List ℕ) → n ≤ most → most < 10 ^ 10 → c < 48 → text ≡ decimal_digits n ++ c ∷ rest
    → HasNumber most text n (c ∷ rest)
number_before most n c text rest fits short sign spelled = record {
  digits = decimal_digits n;
  number = decimal_digits-IsNumber most n fits short;
  spelled = spelled;
  ends = λ digit. omega arith;
}

plain_item-HasItem : (is_last : Bool) (r : Raw) (rest : List ℕ) → FieldsFit r → HasItem is_last (plain_item r ++ rest) r rest
plain_item-HasItem is_last r rest fits =
    let after_jf : List ℕ = decimal_digits r.k ++ comma ∷ rest in
    let after_jt : List ℕ = decimal_digits r.jf ++ space ∷ after_jf in
    let after_code : List ℕ = decimal_digits r.jt ++ space ∷ after_jt in
    record {
      end = comma ∷ rest;
      instruction = record {
        after_code = after_code;
        after_jt = after_jt;
        after_jf = after_jf;
        code = number_before 65535 r.code space (plain_item r ++ rest) after_code fits.code (omega arith) (omega arith)
            (grind (arith, append_assoc));
        jt = number_before 255 r.jt space after_code after_jt fits.jt (omega arith) (omega arith) refl;
        jf = number_before 255 r.jf space after_jt after_jf fits.jf (omega arith) (omega arith) refl;
        k = number_before 4294967295 r.k comma after_jf rest fits.k (omega arith) (omega arith) refl;
      };
      closed = inl refl;
    }

plain_items-HasItems : (n : ℕ) (code : List Raw) → n ≡ length code → All FieldsFit code
    → HasItems n (flat_map plain_item code) code []
plain_items-HasItems n [] same fit = refl
plain_items-HasItems n (r ∷ rs) same fit = (
  flat_map plain_item rs,
  plain_item-HasItem (n == 1) r (flat_map plain_item rs) (All-head FieldsFit r rs fit),
  plain_items-HasItems (n - 1) rs (omega arith) (All-tail FieldsFit r rs fit),
)

-- what is written is a listing of the code
pub plain_listing-IsListing : (code : List Raw) → length code ≤ 65535 → All FieldsFit code → IsListing (plain_listing code) code
plain_listing-IsListing code few fit = record {
  body = flat_map plain_item code;
  after = [];
  count = number_before 65535 (length code) comma (plain_listing code) (flat_map plain_item code) few (omega arith)
      (omega arith) refl;
  items = plain_items-HasItems (length code) code refl fit;
  blank = All-nil IsWhite;
}
