-- Examples of the definitions of listings.
use Rattle.std.proofs.Common.{◌≡◌, refl}
use Rattle.std.specs.Prelude.{codes}
use Rattle.gw_insn.specs.Listing.{decimal}

decimal_value : decimal (codes "2054") ≡ 2054
decimal_value = refl

leading_zeros : decimal (codes "0000000012") ≡ 12
leading_zeros = refl

-- the greatest that ten digits spell, which is too great for any field
greatest : decimal (codes "9999999999") ≡ 9999999999
greatest = refl
