-- What the command `check` answers, and how it explains a refusal.
use Rattle.std.specs.Prelude.{◌≡◌, ℕ, List, [], ◌∷◌, ◌++◌, length, codes, decimal, Some, None}
use Rattle.std.specs.List.{flat_map}
use Rattle.gw_insn.specs.declared.insn.Insn.{Insn}
use Rattle.gw_insn.specs.Listing.{IsListing}
use Rattle.gw_verify.specs.declared.cause.Cause.{Cause}
use Rattle.gw_verify.specs.declared.cause.Cause.TheVariants.{UnsetWord}
use Rattle.gw_verify.specs.declared.refused.Refused.{Refused}
use Rattle.gw_verify.specs.Flow.{Forms, forms_of, IsBarePathTo}
use Rattle.gw_verify.specs.Accepted.{IsRefusal}
use Rattle.gw_answers.specs.declared.answer.Answer.{Answer}
use Rattle.gw_answers.specs.declared.answer.Answer.TheVariants.{Accepted}
use Rattle.gw_answers.specs.declared.refusal.Refusal.{Refusal}
use Rattle.gw_answers.specs.declared.refusal.Refusal.TheVariants.{Program, Explained, OutOfMemory}
use Rattle.gw_input.specs.Programs.{NamesProgram}
use Rattle.gw_input.specs.Refused.{refused_line, cause_details}
use Rattle.gw_verify.specs.Cause.{cause_number}
use Rattle.gw_answers.specs.Texts.{IsProgramRefusal}

-- the number of instructions of the accepted program
abbrev pub AnswersCheck : List ℕ → Answer → Type 0
AnswersCheck input (Accepted count) = (program : List Insn) × NamesProgram input program × (count ≡ length program)
AnswersCheck input _ = ⊥

-- `path` and the places
abbrev pub path_line : List ℕ → List ℕ
path_line places = codes "path" ++ flat_map (λ n. 32 ∷ decimal n) places ++ 10 ∷ []

-- the line of a path stands before that of the refusal
abbrev pub explained_lines : Refused → List ℕ → List ℕ
explained_lines refused places =
    path_line places ++ refused_line (cause_number refused.why) (cause_details refused.why refused.place)

-- a scratch word that may be unset
abbrev pub IsUnset : Cause → Type 0
IsUnset (UnsetWord word) = Unit {0}
IsUnset _ = ⊥

-- the path leads to the place and leaves the word unset
abbrev pub LeavesUnset : Cause → Forms → ℕ → List ℕ → Type 0
LeavesUnset (UnsetWord word) forms place places = IsBarePathTo forms places place word
LeavesUnset _ forms place places = ⊥

-- the listing is that of code which is refused for this
abbrev pub Refuses : List ℕ → Refused → Type 0
Refuses input refused = IsListing input refused.code.items × IsRefusal (forms_of refused.code.items) refused.why refused.place

-- an unset word has a path, whose line stands before that of the refusal, and for that memory may be wanting; no other refusal
-- has one
abbrev pub RefusesCheck : List ℕ → Refusal → Type 0
RefusesCheck input (Explained refused path lines) =
    Refuses input refused × LeavesUnset refused.why (forms_of refused.code.items) refused.place path.places.items
    × (lines.items ≡ explained_lines refused path.places.items)
RefusesCheck input (Program refused (Some path)) = ⊥
RefusesCheck input (Program refused None) = Refuses input refused × (IsUnset refused.why → ⊥)
RefusesCheck input OutOfMemory = (refused : Refused) × Refuses input refused × IsUnset refused.why
RefusesCheck input refusal = IsProgramRefusal input refusal
