-- What the thread of a run on dealt frames promises.
use Rattle.std.specs.Prelude.{◌≡◌, Bool, List}
use Rattle.gw_ledger.specs.Bounds.{Bounds}
use Rattle.gw_policy.specs.Batches.{Pair}
use Rattle.gw_run.specs.Dealt.{Taken}
use Rattle.gw_run.specs.declared.dealt_run.RunPromise.{RunPromise}

-- the promise is of this run
abbrev pub IsPromised : {R : Type 0} → Bounds → List Pair → List Taken → Bool → RunPromise R → Type 0
IsPromised limits first inputs waits promise =
    (promise.limits ≡ limits) × (promise.first.value ≡ first) × (promise.inputs.value.items ≡ inputs)
    × (promise.waits ≡ waits)
