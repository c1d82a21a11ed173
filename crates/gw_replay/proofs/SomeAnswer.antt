-- Each script has a text of answers.
use Rattle.std.proofs.Common.{ℕ, Bool, ◌≡◌, ◌≢◌, List, [], ◌∷◌, reverse, map, Option, Some, None, Result, Ok, Err, refl, inl, inr}
use Rattle.gw_insn.specs.declared.insn.Raw.{Raw}
use Rattle.gw_insn.specs.declared.insn.Insn.{Insn}
use Rattle.gw_insn.specs.Listing.{IsListing}
use Rattle.gw_insn.specs.Table.{insn_of}
use Rattle.gw_verify.specs.declared.cause.Cause.{Cause}
use Rattle.gw_verify.specs.declared.cause.Cause.TheVariants.{UnknownCode, OutOfMemory}
use Rattle.gw_verify.specs.Flow.{forms_of}
use Rattle.gw_verify.specs.Accepted.{IsFirstFault, IsRefusal}
use Rattle.gw_policy.specs.Filter.{Filter}
use Rattle.gw_input.specs.Lines.{lines_of}
use Rattle.gw_replay.specs.Requests.{Request, limits_of, program_of, table_of, publish_all, take_at, step_at, send_to, ledger_of}
use Rattle.gw_replay.specs.Replies.{SessionState}
use Rattle.gw_replay.specs.Telling.{TellsProgram}
use Rattle.gw_replay.specs.Scripts.{Meaning, silent, wrong, asks, meaning_of, Told, Tells, Obeys, Answers, AreAnswers, IsAnswer}
use Rattle.gw_replay.proofs.SomeListing.{ListingOrNot, some_listing}
use Rattle.gw_replay.proofs.SomeCause.{AcceptedOrNot, some_cause, decodes}

-- what a script tells of a program's text
abbrev SomeProgram : List ℕ → Type 0
SomeProgram text = (read : Result Filter (List ℕ)) × TellsProgram text read

-- a first fault refuses its code, and is no want of memory
refuses : (code : List Raw) (why : Cause) (place : ℕ) → IsFirstFault (forms_of code) why place
    → IsRefusal (forms_of code) why place × (why ≢ OutOfMemory)
refuses code OutOfMemory place first = absurd first.fault
refuses code why place first = (first, λ e. cc)

listed : (text : List ℕ) (code : List Raw) → IsListing text code → AcceptedOrNot (forms_of code) → SomeProgram text
listed text code listing (inl accepted) =
    let decoded : (program : List Insn) × (map Some program ≡ map insn_of code) =
    decodes code (λ i unknown. accepted UnknownCode i unknown) in (
      Ok (record { code = decoded.0; table = None }),
      record {
        named = record { code = code; listed = listing; accepted = accepted; decoded = decoded.1 };
        plain = refl;
      },
    )
listed text code listing (inr refused) =
    let is = refuses code refused.0 refused.1 refused.2 in (
      Err _,
      inr (record {
        code = code;
        why = refused.0;
        place = refused.1;
        listed = listing;
        refusal = is.0;
        known = is.1;
        told = refl;
      }),
    )

some_program : (text : List ℕ) → SomeProgram text
some_program text = by (some_listing text)
  where
    by : ListingOrNot text → SomeProgram text
    by (inl found) = listed text found.0 found.1 (some_cause (forms_of found.0))
    by (inr none) = (Err _, inl (record { why = none.0; refusal = none.1; known = none.2; told = refl }))

-- a command has an answer
some_told : (s : SessionState) (request : Request) → (told : Told) × Tells s request told
some_told s (limits_of ports lane versions frames) = (_, refl)
some_told s (program_of port listing) = let read = some_program listing in (_, (read.0, read.1, refl))
some_told s (table_of port hex) = (_, refl)
some_told s publish_all = (_, refl)
some_told s (take_at port hex) = (_, refl)
some_told s (step_at port) = (_, refl)
some_told s (send_to to from) = (_, refl)
some_told s (ledger_of port) = (_, refl)

obeyed : (s : Option SessionState) (request : Request) → (told : Told) × Obeys s request told
obeyed None request = (_, refl)
obeyed (Some s) request = some_told s request

-- so has a line
answered : (s : Option SessionState) (meaning : Meaning) → (told : Told) × Answers s meaning told
answered s silent = (_, refl)
answered s (wrong fault) = (_, refl)
answered s (asks request) = obeyed s request

-- and so have lines, one after another
all_answered : (lines : List (List ℕ)) → (told : Told) × AreAnswers lines told
all_answered [] = (_, refl)
all_answered (line ∷ before) =
    let earlier = all_answered before in
    let one = answered earlier.0.session (meaning_of line) in
    (_, (earlier.0, one.0, earlier.1, one.1, refl))

-- a script has a text of answers
pub some_text : (script : List ℕ) → (text : List ℕ) × (refused : Bool) × IsAnswer script text refused
some_text script =
    let told = all_answered (reverse (lines_of script)) in
    (told.0.text, told.0.refused, record { session = told.0.session; answers = told.1 })
