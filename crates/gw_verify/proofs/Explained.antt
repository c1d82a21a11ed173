-- What a value of `Refused` says: its code is refused for its cause at its place.
use Rattle.std.proofs.Common.{◌≡◌, ℕ, ◌<◌, ◌≤◌, List, length, Option, Some, None, Result, Ok, Err, IfOk, IfSome, IfNone, subst}
use Rattle.std.proofs.Common.{arith}
use Rattle.std.proofs.Math.Logic.{∥∥₁_elim}
use Rattle.std.proofs.lemmas.Option.{slice_get_within}
use Rattle.std.specs.Coded.{×_prop, le_prop}
use Rattle.gw_insn.specs.declared.insn.Raw.{Raw}
use Rattle.gw_verify.specs.declared.cause.Cause.{Cause}
use Rattle.gw_verify.specs.declared.cause.Cause.TheVariants.{UnknownCode, DivideByZero, ShiftTooFar, NoSuchWord, JumpOut}
use Rattle.gw_verify.specs.declared.cause.Cause.TheVariants.{Ancillary, UnsetWord}
use Rattle.gw_verify.specs.declared.path.Path.{Path}
use Rattle.gw_verify.specs.Accepted.{IsRefusal}
use Rattle.gw_verify.specs.Cause.{rank}
use Rattle.gw_verify.specs.Explanation.{IsExplanation}
use Rattle.gw_verify.specs.Flow.{forms_of, IsBare, IsBarePathTo}
use Rattle.gw_verify.proofs.Decoding.{length_forms}
use Rattle.gw_verify.proofs.Refusals.{explainable}

-- what an instruction has by itself is told of an instruction of the code
pub own_place : (code : List Raw) (cause : Cause) (i : ℕ) → rank cause ≡ 2 → ∥ IsRefusal (forms_of code) cause i ∥₁
    → i < length code
own_place code cause i own refused =
    ∥∥₁_elim refused le_prop (λ refusal. subst (λ n. i < n) (length_forms code) (inside cause own refusal))
  where
    inside : (cause : Cause) → rank cause ≡ 2 → IsRefusal (forms_of code) cause i → i < length (forms_of code)
    inside UnknownCode own first = slice_get_within (forms_of code) i None first.fault
    inside DivideByZero own first = slice_get_within (forms_of code) i _ first.fault.here
    inside ShiftTooFar own first = slice_get_within (forms_of code) i _ first.fault.here
    inside NoSuchWord own first = slice_get_within (forms_of code) i _ first.fault.here
    inside JumpOut own first = slice_get_within (forms_of code) i _ first.fault.here
    inside Ancillary own first = slice_get_within (forms_of code) i _ first.fault.here
    inside _ own first = absurd (omega (arith, own))

-- an unset word is one of the 16, in code that is not too long
pub small : (code : List Raw) (word i : ℕ) → ∥ IsRefusal (forms_of code) (UnsetWord word) i ∥₁
    → (word < 16) × (length code ≤ 4096)
small code word i refused = ∥∥₁_elim refused (×_prop le_prop le_prop) (explainable code (UnsetWord word) i)

-- the place of an unset word is bare of it, so what is found of its paths explains it
pub explained : {E : Type 0} (code : List Raw) (word i : ℕ) (answer : Result (Option Path) E)
    → ∥ IsRefusal (forms_of code) (UnsetWord word) i ∥₁
    → IfOk answer (λ found. IfSome found (λ path. IsBarePathTo (forms_of code) path.places.items i word))
    → IfOk answer (λ found. IfNone found (¬ IsBare (forms_of code) i word))
    → IfOk answer (IsExplanation (UnsetWord word) (forms_of code) i)
explained code word i (Err e) refused some none = tt
explained code word i (Ok None) refused some none = ∥∥₁_elim refused (λ a b. absurd a) (λ first. none first.fault.1)
explained code word i (Ok (Some path)) refused some none = some
