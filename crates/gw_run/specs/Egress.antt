-- What the command `judge` writes of a log of several interfaces: `before` and `after` are what its reader has left, `old` and
-- `new` what its writer took.
use Rattle.std.specs.Prelude.{◌≡◌, ◌⊎◌, ℕ, Bool, true, false, List, [], ◌∷◌, Option}
use Rattle.gw_policy.specs.Batches.{Pair}
use Rattle.gw_judge.specs.declared.interfaces.NamedInterface.{NamedInterface}
use Rattle.gw_judge.specs.declared.fault.JudgeFault.{JudgeFault}
use Rattle.gw_judge.specs.Egress.{WritesEgress, WritesPartOfEgress}
use Rattle.gw_judge.specs.FirstOctets.{Opens, is_capture}
use Rattle.gw_answers.specs.declared.requests.Shown.TheVariants.{Each}
use Rattle.gw_answers.specs.declared.policies.PolicySource.{PolicySource}
use Rattle.gw_answers.specs.declared.refusal.Refusal.{Refusal}
use Rattle.gw_answers.specs.declared.refusal.Refusal.TheVariants.{OutOfMemory}
use Rattle.gw_answers.specs.Openings.{FailsToOpen, HasNoLines}
use Rattle.gw_answers.specs.Responses.{OnlyRefuses}
use Rattle.gw_run.specs.Forwarding.{IsFirst, RefusesNamed, RefusesSources}

-- what leaves of a log was written, with status 0; or a beginning of it, with status 1
abbrev pub EndsLogEgress : List NamedInterface → List (List Pair) → Option (List ℕ) → Option (List ℕ) → Bool → Option (List ℕ)
    → Option (List ℕ) → Bool → ℕ → Type 0
EndsLogEgress names batches before after read_failed old new failed status =
    (WritesEgress names batches before after old new × (read_failed ≡ false) × (failed ≡ false) × (status ≡ 0))
    ⊎ ((fault : JudgeFault) × WritesPartOfEgress names batches before after old new read_failed failed fault × (status ≡ 1))

-- a log; or a capture where these first octets are a magic number, and nothing is written
abbrev pub EndsOpenedEgress : Bool → List NamedInterface → List (List Pair) → Option (List ℕ) → Option (List ℕ)
    → Option (List ℕ) → Bool → Option (List ℕ) → Option (List ℕ) → Bool → ℕ → Type 0
EndsOpenedEgress true names batches before middle after read_failed old new failed status =
    HasNoLines middle after read_failed old new failed status
EndsOpenedEgress false names batches before middle after read_failed old new failed status =
    EndsLogEgress names batches before after read_failed old new failed status

-- the first octets tell a capture from a log
abbrev pub EndsEgress : List NamedInterface → List (List Pair) → Option (List ℕ) → Option (List ℕ) → Bool → Option (List ℕ)
    → Option (List ℕ) → Bool → ℕ → Type 0
EndsEgress names batches before after read_failed old new failed status =
    ((first : List ℕ) × (middle : Option (List ℕ)) × Opens before middle first
    × EndsOpenedEgress (is_capture first) names batches before middle after read_failed old new failed status)
    ⊎ FailsToOpen Each before after read_failed old new failed status

-- the same under the policies of one batch; or memory was wanting for them, and nothing was read
abbrev pub WritesEgressUnder : List NamedInterface → List Pair → Option (List ℕ) → Option (List ℕ) → Bool → Option (List ℕ)
    → Option (List ℕ) → Bool → ℕ → Type 0
WritesEgressUnder names first before after read_failed old new failed status =
    EndsEgress names (first ∷ []) before after read_failed old new failed status
    ⊎ OnlyRefuses OutOfMemory before after old new failed status

-- the same under the policies of the ports' sources; or one of them was refused, and nothing was read
abbrev pub WritesEgressOf : List NamedInterface → List PolicySource → List (List ℕ) → Option (List ℕ) → Option (List ℕ) → Bool
    → Option (List ℕ) → Option (List ℕ) → Bool → ℕ → Type 0
WritesEgressOf names sources texts before after read_failed old new failed status =
    ((first : List Pair) × IsFirst sources texts first
    × WritesEgressUnder names first before after read_failed old new failed status)
    ⊎ ((refusal : Refusal) × RefusesSources sources texts refusal × OnlyRefuses refusal before after old new failed status)

-- the same, whatever the files of the sources hold; or a file was refused, and nothing was read
abbrev pub WritesEgressNamed : List NamedInterface → List PolicySource → Option (List ℕ) → Option (List ℕ) → Bool
    → Option (List ℕ) → Option (List ℕ) → Bool → ℕ → Type 0
WritesEgressNamed names sources before after read_failed old new failed status =
    ((texts : List (List ℕ)) × WritesEgressOf names sources texts before after read_failed old new failed status)
    ⊎ ((refusal : Refusal) × RefusesNamed sources refusal × OnlyRefuses refusal before after old new failed status)
