-- The lines of refusals.
use Rattle.std.specs.Prelude.{ℕ, Option, Some, None, List, [], ◌∷◌}
use Rattle.gw_insn.specs.Listing as listing
use Rattle.gw_log.specs.LogFrames as log
use Rattle.gw_verify.specs.Cause.{cause_number}
use Rattle.gw_text.specs.Assembly as asm
use Rattle.gw_table.specs.TableText as table
use Rattle.gw_answers.specs.declared.refusal.Refusal.{Refusal}
use Rattle.gw_answers.specs.declared.refusal.Refusal.TheVariants as refusal
use Rattle.gw_answers.specs.declared.refusal.Refusal.TheVariants.{Record, RecordOnLine, Candump, Listing, Program}
use Rattle.gw_answers.specs.declared.refusal.Refusal.TheVariants.{Explained, Assembler, Table, ReadFault, TooMuchInput, NotUtf8}
use Rattle.gw_input.specs.Records.{record_number}
use Rattle.gw_input.specs.Refused.{listing_details, cause_details, table_details}
use Rattle.gw_input.specs.Refused.{refused_line}

abbrev pub number_of : Refusal → ℕ
number_of (Record fault) = record_number fault
number_of (RecordOnLine line fault) = record_number fault
number_of (Candump why) = log.refusal_number why
number_of (Listing why) = listing.refusal_number why
number_of (Program refused path) = cause_number refused.why
number_of (Explained refused path lines) = cause_number refused.why
number_of (Assembler why text) = asm.refusal_number why
number_of ReadFault = 96
number_of (Table why place) = table.refusal_number why
number_of TooMuchInput = 98
number_of NotUtf8 = 98
number_of refusal.OutOfMemory = 100

-- the line that a refusal names, if it names one
abbrev pub line_details : Option ℕ → List ℕ
line_details (Some line) = line ∷ []
line_details None = []

-- what a refusal names: the line, the instruction that is not there, the place, the place and the scratch word, the rule
abbrev pub details_of : Refusal → List ℕ
details_of (RecordOnLine line fault) = line ∷ []
details_of (Listing why) = listing_details why
details_of (Program refused path) = cause_details refused.why refused.place
details_of (Explained refused path lines) = cause_details refused.why refused.place
details_of (Assembler why text) = line_details (asm.refusal_line why)
details_of (Table why place) = table_details why
details_of _ = []

abbrev pub refusal_line : Refusal → List ℕ
refusal_line r = refused_line (number_of r) (details_of r)

-- the output for a refusal: its line, and before it that of the path that explains it
abbrev pub refusal_text : Refusal → List ℕ
refusal_text (Explained refused path lines) = lines.items
refusal_text r = refusal_line r
