-- The frame that a word of the command line says: a record in hexadecimal digits, or candump's form of a frame.
use Rattle.std.specs.Prelude.{◌≡◌, ℕ, List, Ok, Err}
use Rattle.gw_log.specs.declared.refusal.LogRefusal.{LogRefusal}
use Rattle.gw_log.specs.LogFrames.{frame_of}
use Rattle.gw_input.specs.declared.records.RecordFault.{RecordFault}
use Rattle.gw_input.specs.Records.{NamesRecord, IsRecordFault}
use Rattle.gw_answers.specs.declared.frames.FrameWord.{FrameWord}
use Rattle.gw_answers.specs.declared.frames.FrameWord.TheVariants.{Record, Candump}
use Rattle.gw_answers.specs.declared.refusal.Refusal.{Refusal}
use Rattle.gw_answers.specs.declared.refusal.Refusal.TheVariants as refusal

abbrev pub MeansFrame : FrameWord → List ℕ → Type 0
MeansFrame (Record text) octets = NamesRecord text.now octets
MeansFrame (Candump text) octets = frame_of text.now ≡ Ok octets

-- what refuses the text of a record
abbrev pub RefusesRecord : List ℕ → Refusal → Type 0
RefusesRecord text why = (fault : RecordFault) × (why ≡ refusal.Record fault) × IsRecordFault text fault

-- what refuses a word: no record, or no frame in candump's form
abbrev pub RefusesFrame : FrameWord → Refusal → Type 0
RefusesFrame (Record text) why = RefusesRecord text.now why
RefusesFrame (Candump text) why = (first : LogRefusal) × (why ≡ refusal.Candump first) × (frame_of text.now ≡ Err first)
