-- How a refusal is explained.
use Rattle.std.specs.Prelude.{◌≡◌, ℕ, Option, None, MatchOption}
use Rattle.gw_verify.specs.declared.cause.Cause.{Cause}
use Rattle.gw_verify.specs.declared.cause.Cause.TheVariants.{UnsetWord}
use Rattle.gw_verify.specs.declared.path.Path.{Path}
use Rattle.gw_verify.specs.Flow.{Forms, IsBarePathTo}

-- for an unset word a path to the place that leaves it unset, and nothing for any other cause
abbrev pub IsExplanation : Cause → Forms → ℕ → Option Path → Type 0
IsExplanation (UnsetWord word) forms place found =
    MatchOption found ⊥ (λ path. IsBarePathTo forms path.places.items place word)
IsExplanation _ forms place found = found ≡ None
