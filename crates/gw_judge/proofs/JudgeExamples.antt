-- The definitions computed on a log: a line of each kind, CR LF, and a last line without its end.
use Rattle.std.proofs.Common.{◌≡◌, ℕ, List, [], ◌∷◌, ◌++◌, codes, map, refl, Some}
use Rattle.std.specs.Fmt.{digits}
use Rattle.gw_log.specs.LogFrames.{digit, frame_of}
use Rattle.gw_log.specs.LogLines.{is_blank, words_of, is_marked, line_of}
use Rattle.gw_log.specs.declared.refusal.LogRefusal.TheVariants.{NoFrame, NoDigit}
use Rattle.gw_table.specs.declared.table.Action.TheVariants.{Pass, Block}
use Rattle.gw_table.specs.declared.table.Span.{Span}
use Rattle.gw_table.specs.declared.table.Part.{Part}
use Rattle.gw_table.specs.declared.table.Part.TheVariants.{Rule, Default, Other}
use Rattle.gw_table.specs.Table.{Meaning}
use Rattle.gw_judge.specs.declared.fate.Decided.{Decided}
use Rattle.gw_judge.specs.declared.fate.Fate.{Fate}
use Rattle.gw_judge.specs.declared.fate.Fate.TheVariants as fates
use Rattle.gw_judge.specs.declared.report.Wanted.TheVariants.{Passed, Blocked, Each, Nothing}
use Rattle.gw_judge.specs.Fates.{table_fate, fate_of}
use Rattle.gw_judge.specs.declared.groups.Grouping.TheVariants.{Pgn, Source}
use Rattle.gw_judge.specs.Tallies.{count_of, first_of, counts_of, cause_of, verdicts_of}
use Rattle.gw_judge.specs.Judged.{log_lines, written_of, wanted_front}

abbrev log : List ℕ
log = codes "(1.0) can0 123#01\r\nhello\n(1.1) can0 18FEF100#01\n\n# end\n(1.2) can0 0CFEF121#\n(1.3) can1 123#0A"

-- a table that blocks source 33, and passes the other extended data frames
abbrev up_to : ℕ → Span
up_to most = record { low = 0; high = most }

abbrev not_33 : Meaning
not_33 = record {
  otherwise = Pass;
  other = Block;
  rules = record {
    action = Block;
    pgn = up_to 262143;
    source = record { low = 33; high = 33 };
    destination = up_to 255;
    from = up_to 255;
  } ∷ [];
}

abbrev by : Part → ℕ → Decided
by part word = record { part = Some part; word = word }

-- 123, 18FEF100 with the flag of an identifier of 29 bits, and 0CFEF121 with it
abbrev all_fates : List Fate
all_fates =
    fates.Blocked (by Other 291) ∷ fates.Refused NoFrame ∷ fates.Passed (by Default 2566844672) ∷ fates.Silent ∷ fates.Silent
    ∷ fates.Blocked (by (Rule 0) 2365518113) ∷ fates.Blocked (by Other 291) ∷ []

fates_are : map (fate_of (table_fate not_33 0)) (log_lines log) ≡ all_fates
unfolding fate_of log_lines line_of words_of is_blank is_marked frame_of digit
fates_are = refl

passed : written_of (fate_of (table_fate not_33 0)) (wanted_front [] Passed) (log_lines log) ≡ codes "(1.1) can0 18FEF100#01\n"
unfolding written_of fate_of log_lines line_of words_of is_blank is_marked frame_of digit
passed = refl

blocked : written_of (fate_of (table_fate not_33 0)) (wanted_front [] Blocked) (log_lines log)
    ≡ codes "(1.0) can0 123#01\r\n(1.2) can0 0CFEF121#\n(1.3) can1 123#0A"
unfolding written_of fate_of log_lines line_of words_of is_blank is_marked frame_of digit
blocked = refl

each : written_of (fate_of (table_fate not_33 0)) (wanted_front (12 ∷ []) Each) (log_lines log)
    ≡ codes "block other (1.0) can0 123#01\r\npass default (1.1) can0 18FEF100#01\nblock rule 0 (line 12) (1.2) "
    ++ codes "can0 0CFEF121#\n"
    ++ codes "block other (1.3) can1 123#0A"
unfolding written_of fate_of log_lines line_of words_of is_blank is_marked frame_of digit digits
each = refl

nothing : written_of (fate_of (table_fate not_33 0)) (wanted_front [] Nothing) (log_lines log) ≡ []
unfolding written_of fate_of log_lines line_of words_of is_blank is_marked frame_of digit
nothing = refl

counts : counts_of all_fates ≡ record { passed = 1; blocked = 3; refused = 1 }
unfolding count_of
counts = refl

no_frame : cause_of NoFrame all_fates ≡ record { count = 1; first = 2 }
unfolding count_of first_of
no_frame = refl

no_digit : cause_of NoDigit all_fates ≡ record { count = 0; first = 0 }
unfolding count_of first_of
no_digit = refl

-- PGN 65265 is FEF1, and source 33 is 21
pgn_65265 : verdicts_of Pgn 65265 all_fates ≡ record { passed = 1; blocked = 1 }
unfolding count_of
pgn_65265 = refl

no_pgn : verdicts_of Pgn 262144 all_fates ≡ record { passed = 0; blocked = 2 }
unfolding count_of
no_pgn = refl

source_33 : verdicts_of Source 33 all_fates ≡ record { passed = 0; blocked = 1 }
unfolding count_of
source_33 = refl
