-- What the command `diff` tells of the tables of a gateway's ports: `before` and `after` are what its writer took.
use Rattle.std.specs.Prelude.{◌≡◌, ◌⊎◌, ◌↔◌, ℕ, Bool, false, List, [], ◌∷◌, ◌++◌, codes, decimal, take}
use Rattle.std.specs.Prelude.{slice_get, All, Option, Some, None, Err}
use Rattle.std.specs.List.{AllZip}
use Rattle.gw_table.specs.declared.crossing.Change.{Change}
use Rattle.gw_table.specs.declared.crossing.Crossing.{Crossing}
use Rattle.gw_table.specs.Crossings.{AreAlikeEverywhere, AreCrossings}
use Rattle.gw_answers.specs.declared.requests.PortFiles.{PortFiles}
use Rattle.gw_answers.specs.declared.refusal.Refusal.{Refusal}
use Rattle.gw_answers.specs.declared.refusal.Refusal.TheVariants.{OutOfMemory}
use Rattle.gw_answers.specs.Responses.{Writes}
use Rattle.gw_answers.specs.Policies.{RefusesFile}
use Rattle.gw_commands.specs.declared.diff_ports_command.PortTexts.{PortTexts}
use Rattle.gw_commands.specs.declared.stated.StatedChange.{StatedChange}
use Rattle.gw_commands.specs.Differences.{AreTablesOf, IsDifferenceLine, IsTextOf, RefusesEither, WritesOne, found_status}

-- the port at which a frame leaves, in front of what is told of it
abbrev pub port_text : ℕ → List ℕ
port_text egress = codes "to port " ++ decimal egress ++ codes ": "

-- what is told of a crossing: its egress port, and what the tables of this port differ in
pub record IsCrossingLine (stated : List StatedChange) (c : Crossing) (text : List ℕ) : Type 0 where
  pub change : StatedChange
  pub there : slice_get stated c.egress ≡ Some change
  pub difference : List ℕ
  pub is_difference : IsDifferenceLine change.old change.new c.difference difference
  pub told : text ≡ port_text c.egress ++ difference

-- what is told of each crossing, in their order; where there is none `alike`
abbrev pub IsCrossingsText : List StatedChange → List Crossing → List ℕ → Type 0
IsCrossingsText stated [] text = text ≡ codes "alike\n"
IsCrossingsText stated (c ∷ more) text = IsTextOf (IsCrossingLine stated) (c ∷ more) text

-- the tables of a port, and those of each port, as gw_table compares them
pub record IsChange (stated : StatedChange) (change : Change) : Type 0 where
  pub old : change.old.now ≡ stated.old.table
  pub new : change.new.now ≡ stated.new.table

abbrev pub AreChanges : List StatedChange → List Change → Type 0
AreChanges stated changes = AllZip IsChange stated changes

-- each crossing of the ports' tables was told; the status is 0 where the same frames leave at each port, and only there
pub record TellsEachCrossing (stated : List StatedChange) (before after : Option (List ℕ)) (failed : Bool) (status : ℕ)
    : Type 0 where
  pub changes : List Change
  pub tables : AreChanges stated changes
  pub found : List Crossing
  pub crossings : AreCrossings changes found
  pub written : WritesOne (IsCrossingsText stated found) (found_status found) status before after failed
  pub alike : failed ≡ false → (status ≡ 0) ↔ AreAlikeEverywhere changes

-- the same; or memory was wanting for what is told
abbrev pub TellsCrossings : List StatedChange → Option (List ℕ) → Option (List ℕ) → Bool → ℕ → Type 0
TellsCrossings stated before after failed status =
    TellsEachCrossing stated before after failed status ⊎ Writes (Err OutOfMemory) status before after failed

-- the tables of a port's texts
abbrev pub IsStatedChange : PortTexts → StatedChange → Type 0
IsStatedChange texts change = AreTablesOf texts.old.items texts.new.items change

abbrev pub RefusesEitherText : PortTexts → Refusal → Type 0
RefusesEitherText texts refusal = RefusesEither texts.old.items texts.new.items refusal

-- the tables of all ports' texts
abbrev pub AreStated : List PortTexts → List StatedChange → Type 0
AreStated texts stated = AllZip IsStatedChange texts stated

-- the first text that is refused, of this port: those of the ports before are of tables
pub record RefusesFirst (texts : List PortTexts) (refusal : Refusal) : Type 0 where
  pub port : ℕ
  pub own : PortTexts
  pub there : slice_get texts port ≡ Some own
  pub before : All (λ t. (stated : StatedChange) × IsStatedChange t stated) (take port texts)
  pub refused : RefusesEitherText own refusal

-- the tables of the ports' texts were compared; or a text was refused
abbrev pub ComparesPorts : List PortTexts → Option (List ℕ) → Option (List ℕ) → Bool → ℕ → Type 0
ComparesPorts texts before after failed status =
    ((stated : List StatedChange) × AreStated texts stated × TellsCrossings stated before after failed status)
    ⊎ ((refusal : Refusal) × RefusesFirst texts refusal × Writes (Err refusal) status before after failed)

-- a file that is not named has the empty text
abbrev pub IsPortText : {X : Type 0} → Option X → List ℕ → Type 0
IsPortText None text = text ≡ []
IsPortText (Some file) text = Unit {0}

-- a port's texts, whatever its files hold
pub record ArePortTexts (files : PortFiles) (texts : PortTexts) : Type 0 where
  pub old : IsPortText files.old texts.old.items
  pub new : IsPortText files.new texts.new.items

abbrev pub AreTexts : List PortFiles → List PortTexts → Type 0
AreTexts files texts = AllZip ArePortTexts files texts

-- the texts of the ports' files were compared, whatever these hold; or a file was refused
abbrev pub ComparesNamedPorts : List PortFiles → Option (List ℕ) → Option (List ℕ) → Bool → ℕ → Type 0
ComparesNamedPorts files before after failed status =
    ((texts : List PortTexts) × AreTexts files texts × ComparesPorts texts before after failed status)
    ⊎ ((refusal : Refusal) × RefusesFile refusal × Writes (Err refusal) status before after failed)
