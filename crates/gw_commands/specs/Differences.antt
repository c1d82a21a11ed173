-- What the command `diff` tells of an old table and a new one: `before` and `after` are what its writer took.
use Rattle.std.specs.Prelude.{◌≡◌, ◌⊎◌, ◌↔◌, ℕ, Bool, false, if◌then◌else◌, List, [], ◌∷◌, ◌++◌, codes, decimal, Option, Some}
use Rattle.std.specs.Prelude.{None, Err}
use Rattle.std.specs.Option.{option_map_or}
use Rattle.gw_log.specs.LogTexts.{text_of}
use Rattle.gw_table.specs.declared.difference.Difference.{Difference}
use Rattle.gw_table.specs.declared.question.Question.{Question}
use Rattle.gw_table.specs.declared.table.Part.{Part}
use Rattle.gw_table.specs.declared.table.Part.TheVariants.{Rule, Default, Other}
use Rattle.gw_table.specs.Table.{Meaning, table_passes}
use Rattle.gw_table.specs.Difference.{AreAlike, AreDifferences}
use Rattle.gw_table.specs.PairFrames.{AreClear, AsksForPair}
use Rattle.gw_input.specs.RuleLines.{rule_name}
use Rattle.gw_input.specs.Tables.{IsTable}
use Rattle.gw_answers.specs.declared.refusal.Refusal.{Refusal}
use Rattle.gw_answers.specs.declared.refusal.Refusal.TheVariants.{OutOfMemory}
use Rattle.gw_answers.specs.Responses.{Writes, WritesText}
use Rattle.gw_answers.specs.Policies.{RefusesFile}
use Rattle.gw_answers.specs.Texts.{RefusesText}
use Rattle.gw_commands.specs.declared.stated.StatedChange.{StatedChange}
use Rattle.gw_commands.specs.declared.stated.StatedTable.{StatedTable}
use Rattle.gw_commands.specs.Shown.{asked_line}
use Rattle.gw_commands.specs.Stated.{IsStated}

-- what decides a frame: a rule, `default` or `other`
abbrev pub part_name : StatedTable → Part → List ℕ
part_name stated (Rule number) = rule_name stated.lines.items number
part_name stated Default = codes "default"
part_name stated Other = codes "other"

-- what decides a frame in a table, and whether the table passes it
abbrev pub side_text : StatedTable → Part → Bool → List ℕ
side_text stated part passes = part_name stated part ++ (if passes then codes " passes" else codes " blocks")

-- a frame and its port, at the end of a line
abbrev pub place_text : List ℕ → ℕ → List ℕ
place_text frame port = text_of frame ++ codes " at port " ++ decimal port ++ codes "\n"

-- the old table's side, the new one's, the frame and its port
abbrev pub difference_line : StatedTable → StatedTable → Difference → List ℕ
difference_line old new d =
    side_text old d.old (table_passes old.table d.frame d.port) ++ codes ", "
    ++ side_text new d.new (table_passes new.table d.frame d.port) ++ codes ": " ++ place_text d.frame d.port

-- the line of the frames that the two parts decide, where a question asks for them
abbrev pub frames_line : Option Question → List ℕ
frames_line frames = option_map_or asked_line frames []

-- a question asks for exactly the frames of two parts; there is none only where a rule before them shares numbers with both
abbrev pub AreFrames : StatedTable → StatedTable → Difference → Option Question → Type 0
AreFrames old new d (Some question) = AsksForPair old.table d.old new.table d.new question
AreFrames old new d None = ¬ AreClear old.table d.old new.table d.new

-- what is told of a difference
pub record IsDifferenceLine (old new : StatedTable) (d : Difference) (text : List ℕ) : Type 0 where
  pub frames : Option Question
  pub are_frames : AreFrames old new d frames
  pub told : text ≡ difference_line old new d ++ frames_line frames

-- a text of this kind was put behind another
abbrev pub Appends : (List ℕ → Type 0) → List ℕ → List ℕ → Type 0
Appends IsText before after = (text : List ℕ) × IsText text × (after ≡ before ++ text)

-- the texts of the elements of a list, one behind the other
abbrev pub IsTextOf : {X : Type 0} → (X → List ℕ → Type 0) → List X → List ℕ → Type 0
IsTextOf IsText [] text = text ≡ []
IsTextOf IsText (x ∷ more) text =
    (first : List ℕ) × (rest : List ℕ) × IsText x first × IsTextOf IsText more rest × (text ≡ first ++ rest)

-- what is told of each difference, in their order; where there is none `alike`
abbrev pub IsDifferencesText : StatedTable → StatedTable → List Difference → List ℕ → Type 0
IsDifferencesText old new [] text = text ≡ codes "alike\n"
IsDifferencesText old new (d ∷ more) text = IsTextOf (IsDifferenceLine old new) (d ∷ more) text

-- the status tells whether there is one
abbrev pub found_status : {X : Type 0} → List X → ℕ
found_status [] = 0
found_status (x ∷ more) = 1

-- a text of this kind was written
abbrev pub WritesOne : (List ℕ → Type 0) → ℕ → ℕ → Option (List ℕ) → Option (List ℕ) → Bool → Type 0
WritesOne IsText done status before after failed =
    (text : List ℕ) × IsText text × WritesText text done status before after failed

-- each difference of two tables was told; the status is 0 where both pass the same frames at every port, and only there
pub record TellsEach (old new : StatedTable) (before after : Option (List ℕ)) (failed : Bool) (status : ℕ) : Type 0 where
  pub found : List Difference
  pub differences : AreDifferences old.table new.table found
  pub written : WritesOne (IsDifferencesText old new found) (found_status found) status before after failed
  pub alike : failed ≡ false → (status ≡ 0) ↔ AreAlike old.table new.table

-- the same; or memory was wanting for what is told
abbrev pub TellsDifferences : StatedTable → StatedTable → Option (List ℕ) → Option (List ℕ) → Bool → ℕ → Type 0
TellsDifferences old new before after failed status =
    TellsEach old new before after failed status ⊎ Writes (Err OutOfMemory) status before after failed

-- the first refusal of two texts: that of the old table's, or behind an old table that of the new one's
abbrev pub RefusesEither : List ℕ → List ℕ → Refusal → Type 0
RefusesEither old new refusal = RefusesText old refusal ⊎ ((table : Meaning) × IsTable old table × RefusesText new refusal)

-- the tables of two texts
pub record AreTablesOf (old_text new_text : List ℕ) (tables : StatedChange) : Type 0 where
  pub old : IsStated old_text tables.old
  pub new : IsStated new_text tables.new

-- the tables of two texts were compared; or a text was refused
abbrev pub ComparesTexts : List ℕ → List ℕ → Option (List ℕ) → Option (List ℕ) → Bool → ℕ → Type 0
ComparesTexts old_text new_text before after failed status =
    ((old : StatedTable) × (new : StatedTable) × IsStated old_text old × IsStated new_text new
    × TellsDifferences old new before after failed status)
    ⊎ ((refusal : Refusal) × RefusesEither old_text new_text refusal × Writes (Err refusal) status before after failed)

-- the same, whatever the files hold; or a file was refused
abbrev pub ComparesNamed : Option (List ℕ) → Option (List ℕ) → Bool → ℕ → Type 0
ComparesNamed before after failed status =
    ((old : List ℕ) × (new : List ℕ) × ComparesTexts old new before after failed status)
    ⊎ ((refusal : Refusal) × RefusesFile refusal × Writes (Err refusal) status before after failed)
