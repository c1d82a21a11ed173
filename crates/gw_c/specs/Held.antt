-- What a handle holds, by its kind.
use Rattle.std.specs.Prelude.{ℕ, List, Option, Some, None, IsSomeAnd}
use Rattle.gw_claims.specs.Holders.{HoldsAfter}
use Rattle.gw_policy.specs.Filter.{Filter}
use Rattle.gw_c.specs.declared.inner.Inner.{Inner}
use Rattle.gw_c.specs.declared.inner.Inner.TheVariants.{Policy, Claims}

-- the policy in a handle
abbrev pub policy_in : Option Inner → Option Filter
policy_in (Some (Policy shared)) = Some shared.value
policy_in _ = None

-- a policy of this property is in the handle
abbrev pub HoldsPolicy : (Filter → Type 0) → Option Inner → Type 0
HoldsPolicy Is held = IsSomeAnd (policy_in held) Is

-- the claims in a handle: at each address the NAME that holds it
abbrev pub claims_in : Option Inner → Option (List (Option ℕ))
claims_in (Some (Claims table)) = Some table
claims_in _ = None

-- claims are in the handle, of these records heard, newest first
abbrev pub HasHeard : List (List ℕ) → Option Inner → Type 0
HasHeard heard held = IsSomeAnd (claims_in held) (λ table. HoldsAfter table heard)
