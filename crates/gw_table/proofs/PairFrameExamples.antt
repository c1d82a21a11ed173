-- The frames of a pair, on the rules that are moved in DifferenceExamples.
use Rattle.std.proofs.Common.{◌≡◌, true, false, [], ◌∷◌, refl}
use Rattle.gw_table.specs.declared.table.Action.TheVariants.{Block}
use Rattle.gw_table.specs.declared.table.Rule.{Rule}
use Rattle.gw_table.specs.PairFrames.{meet, has_numbers, is_clear}
use Rattle.gw_table.proofs.DifferenceExamples.{tool, engine}

abbrev at_port_1 : Rule
at_port_1 = record tool { from = record { low = 1; high = 1 } }

abbrev at_port_2 : Rule
at_port_2 = record tool { from = record { low = 2; high = 3 } }

-- requests of 249 to 0
both_rules : meet tool engine
    ≡ record {
      action = Block;
      pgn = record { low = 59904; high = 59904 };
      source = record { low = 249; high = 249 };
      destination = record { low = 0; high = 0 };
      from = record { low = 0; high = 255 };
    }
both_rules = refl

-- no rule stands before either
first_pair : is_clear [] [] (meet tool engine) ≡ true
first_pair = refl

-- ranges of ports share no number
ports_apart : has_numbers (meet at_port_1 at_port_2) ≡ false
ports_apart = refl

-- a rule before `default` shares numbers with the frames
cut_by_a_rule : is_clear [] (tool ∷ []) engine ≡ false
cut_by_a_rule = refl
