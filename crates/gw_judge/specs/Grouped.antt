-- Groups of frames, and how many frames of each passed and were blocked.
use Rattle.std.specs.Prelude.{ℕ, if◌then◌else◌, List, replicate}
use Rattle.gw_ident.specs.Identifier.{is_extended_data, parameter_group, source_address}
use Rattle.gw_judge.specs.declared.groups.Grouping.{Grouping}
use Rattle.gw_judge.specs.declared.groups.Grouping.TheVariants.{Nothing, Pgn, Source}
use Rattle.gw_judge.specs.declared.groups.Verdicts.{Verdicts}

-- an extended data frame is of the group of its PGN or its source address
abbrev pub data_group : Grouping → ℕ → ℕ
data_group Nothing word = 0
data_group Pgn word = parameter_group word
data_group Source word = source_address word

-- all other frames are of one group, whose number is behind those
abbrev pub other_group : Grouping → ℕ
other_group Nothing = 0
other_group Pgn = 262144
other_group Source = 256

abbrev pub group_of : Grouping → ℕ → ℕ
group_of grouping word = if is_extended_data word then data_group grouping word else other_group grouping

-- how many groups are counted
abbrev pub group_count : Grouping → ℕ
group_count Nothing = 0
group_count Pgn = 262145
group_count Source = 257

abbrev pub no_verdicts : Verdicts
no_verdicts = record { passed = 0; blocked = 0 }

-- the verdicts on the frames of each group, by its number
pub record Grouped : Type 0 where
  pub grouping : Grouping
  pub verdicts : List Verdicts

-- the groups of no frame
abbrev pub no_groups : Grouping → Grouped
no_groups grouping = record { grouping = grouping; verdicts = replicate (group_count grouping) no_verdicts }
