-- The one spelling in which a listing is written (the line that Linux's bpf_asm prints, without its end): numbers
-- without leading zeros, a comma also after the last instruction, and nothing behind it.
use Rattle.std.specs.Prelude.{ℕ, false, List, [], ◌∷◌, ◌++◌, length, flat_map}
use Rattle.std.specs.Fmt.{digits}
use Rattle.gw_insn.specs.declared.insn.Raw.{Raw}
use Rattle.gw_insn.specs.Listing.{comma, space}

abbrev pub decimal_digits : ℕ → List ℕ
decimal_digits n = digits 10 false n

-- code, jt, jf and k, with one space between two of them, and a comma
abbrev pub plain_item : Raw → List ℕ
plain_item r =
    decimal_digits r.code ++ space ∷ decimal_digits r.jt ++ space ∷ decimal_digits r.jf ++ space ∷ decimal_digits r.k
    ++ comma ∷ []

-- the count, a comma, and the instructions
abbrev pub plain_listing : List Raw → List ℕ
plain_listing code = decimal_digits (length code) ++ comma ∷ flat_map plain_item code
