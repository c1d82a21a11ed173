-- Why a policy does not join a batch.
use Rattle.std.specs.Prelude.{◌≡◌, ℕ, true, false, List, length}
use Rattle.gw_policy.specs.Filter.{Filter}
use Rattle.gw_policy.specs.Batches.{Pair, names_port}
use Rattle.gw_policy.specs.declared.batch.BatchRefusal.{BatchRefusal}
use Rattle.gw_policy.specs.declared.batch.BatchRefusal.TheVariants.{SamePortTwice, Full}

abbrev pub refusal_number : BatchRefusal → ℕ
refusal_number (SamePortTwice back) = 60
refusal_number (Full back) = 61

-- the first cause that holds, with the policy
abbrev pub IsBatchRefusal : ℕ → Filter → List Pair → BatchRefusal → Type 0
IsBatchRefusal port policy pairs (SamePortTwice back) = (names_port port pairs ≡ true) × (back.value ≡ policy)
IsBatchRefusal port policy pairs (Full back) = (names_port port pairs ≡ false) × (length pairs ≡ 16) × (back.value ≡ policy)
