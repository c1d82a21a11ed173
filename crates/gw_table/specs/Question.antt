-- What a table does to the frames of a box.
use Rattle.std.specs.Prelude.{◌≡◌, ℕ, ◌<◌, Bool, true, false, ◌&&◌, if◌then◌else◌, List, codes, Option, is_some, not}
use Rattle.std.specs.Option.{option_map_or}
use Rattle.gw_ident.specs.Identifier.{is_extended_data, parameter_group, source_address, destination_address}
use Rattle.gw_frame.specs.Record.{word_of}
use Rattle.gw_table.specs.declared.table.Span.{Span}
use Rattle.gw_table.specs.declared.question.Question.{Question}
use Rattle.gw_table.specs.declared.question.Sample.{Sample}
use Rattle.gw_table.specs.declared.question.Answer.{Answer}
use Rattle.gw_table.specs.declared.question.Answer.TheVariants.{AllPass, NonePass, SomePass, NoFrame}
use Rattle.gw_table.specs.declared.no_frame.WhyNoFrame.{WhyNoFrame}
use Rattle.gw_table.specs.declared.no_frame.WhyNoFrame.TheVariants.{NoGroup, NoSource, NoPort, NoDestination}
use Rattle.gw_table.specs.Table.{Meaning, Decides, table_passes, lies_in}
use Rattle.gw_table.specs.Difference.{IsCarried}

-- a range that is left out holds of every number
abbrev pub lies_in_given : ℕ → Option Span → Bool
lies_in_given n span = option_map_or (lies_in n) span true

-- a frame that is no extended data frame has no group, source or destination, so no range that is given holds of it
abbrev pub is_asked : Question → List ℕ → ℕ → Bool
is_asked question octets port =
    lies_in_given port question.from && (if is_extended_data (word_of octets)
    then lies_in_given (parameter_group (word_of octets)) question.pgn
    && lies_in_given (source_address (word_of octets)) question.source
    && lies_in_given (destination_address (word_of octets)) question.destination
    else not (is_some question.pgn) && not (is_some question.source) && not (is_some question.destination))

pub record IsAsked (question : Question) (octets : List ℕ) (port : ℕ) : Type 0 where
  pub carried : IsCarried octets
  pub port_fits : port < 16
  pub asked : is_asked question octets port ≡ true

-- a frame of the box that the table passes, or does not, and what decides it
pub record IsSample (table : Meaning) (question : Question) (passes : Bool) (sample : Sample) : Type 0 where
  pub asked : IsAsked question sample.frame sample.port
  pub decided : Decides table sample.frame sample.port sample.by
  pub passes_so : table_passes table sample.frame sample.port ≡ passes

abbrev pub AllAre : Meaning → Question → Bool → Type 0
AllAre table question passes =
    (octets : List ℕ) (port : ℕ) → IsAsked question octets port → table_passes table octets port ≡ passes

-- a range of groups is given, and no identifier's parameter group lies in it: one that is left out holds of every number
abbrev pub AsksNoGroup : Question → Type 0
AsksNoGroup question = (word : ℕ) → lies_in_given (parameter_group word) question.pgn ≡ false

-- a range of sources is given, and no octet lies in it
abbrev pub AsksNoSource : Question → Type 0
AsksNoSource question = (octet : ℕ) → octet < 256 → lies_in_given octet question.source ≡ false

-- a range of ports is given, and no port lies in it: ports are 0 to 15
abbrev pub AsksNoPort : Question → Type 0
AsksNoPort question = (port : ℕ) → port < 16 → lies_in_given port question.from ≡ false

-- no identifier whose parameter group is asked for has a destination that is
abbrev pub AsksNoDestination : Question → Type 0
AsksNoDestination question =
    (word : ℕ) → lies_in_given (parameter_group word) question.pgn ≡ true
    → lies_in_given (destination_address word) question.destination ≡ false

-- the first of these causes that holds, in this order
abbrev pub IsWhyNoFrame : Question → WhyNoFrame → Type 0
IsWhyNoFrame question NoGroup = AsksNoGroup question
IsWhyNoFrame question NoSource = (¬ AsksNoGroup question) × AsksNoSource question
IsWhyNoFrame question NoPort = (¬ AsksNoGroup question) × (¬ AsksNoSource question) × AsksNoPort question
IsWhyNoFrame question NoDestination =
    (¬ AsksNoGroup question) × (¬ AsksNoSource question) × (¬ AsksNoPort question) × AsksNoDestination question

-- a cause in words
abbrev pub why_text : WhyNoFrame → List ℕ
why_text NoGroup =
    codes
    "`pgn` has no parameter group: below PDU format 240 the last octet of a PGN is 0, and the destination is no part of it"
why_text NoSource = codes "`source` has no address: addresses are 0 to 255"
why_text NoPort = codes "`from` has no port: ports are 0 to 15"
why_text NoDestination =
    codes
    "`destination` has no address that these groups go to: addresses are 0 to 255, and PDU2 groups go to 255 alone"

abbrev pub IsAnswer : Meaning → Question → Answer → Type 0
IsAnswer table question (AllPass sample) = IsSample table question true sample × AllAre table question true
IsAnswer table question (NonePass sample) = IsSample table question false sample × AllAre table question false
IsAnswer table question (SomePass passing blocked) =
    IsSample table question true passing × IsSample table question false blocked
IsAnswer table question (NoFrame why) =
    ((octets : List ℕ) (port : ℕ) → ¬ IsAsked question octets port) × IsWhyNoFrame question why
