use Rattle.std.proofs.Common.{◌≡◌, ◌∷◌, ◌++◌, All, length, flat_map, take, string_bytes}
use Rattle.gw_insn.specs.Listing.{comma}
use Rattle.gw_insn.specs.Spelling.{decimal_digits, plain_item}
use Rattle.gw_insn.proofs.PlainListing.{FieldsFit}
use Rattle.gw_insn.proofs.writing.write_listing.Given as goal

-- the count and the instructions so far
abbrev pub invariant-loop-raw : goal.invariant-loop-raw
invariant-loop-raw l =
    (string_bytes l.text ≡ decimal_digits (length l.code) ++ comma ∷ flat_map plain_item (take l.raw-index l.code))
    × All FieldsFit (take l.raw-index l.code)
