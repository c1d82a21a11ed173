-- Paths that leave a scratch word unset.
use Rattle.std.proofs.Common.{ℕ, Some}
use Rattle.gw_verify.specs.Flow.{Forms}
use Rattle.gw_verify.specs.declared.cause.Cause.{Cause}
use Rattle.gw_verify.specs.declared.cause.Cause.TheVariants.{UnsetWord}
use Rattle.gw_verify.specs.declared.path.Path.{Path}
use Rattle.gw_answers.specs.Texts.{IsPathFor}
use Rattle.gw_commands.specs.Checks.{IsUnset, LeavesUnset}

-- a path that is there leaves the word unset
pub leaves_unset : (why : Cause) (forms : Forms) (place : ℕ) (path : Path) → IsPathFor why forms place (Some path)
    → LeavesUnset why forms place path.places.items
leaves_unset (UnsetWord word) forms place path is = is
leaves_unset _ forms place path is = cc

-- and no other refusal has one
pub is_unset : (why : Cause) (forms : Forms) (place : ℕ) (path : Path) → IsPathFor why forms place (Some path) → IsUnset why
is_unset (UnsetWord word) forms place path is = tt
is_unset _ forms place path is = cc
