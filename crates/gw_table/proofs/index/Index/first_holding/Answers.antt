use Rattle.std.proofs.Common.{◌≡◌, ℕ, Option, Some, None, sym, arith}
use Rattle.std.specs.Prelude.{IfSome, IfNone}
use Rattle.std.specs.List.{position}
use Rattle.gw_table.specs.RuleSets.{IsLowest}
use Rattle.gw_table.specs.Index.{shared}
use Rattle.gw_table.specs.PairFrames.{all_lie}
use Rattle.gw_table.proofs.Indexed.{group_set, source_set, destination_set, port_set, none_shared, first_shared}
use Rattle.gw_table.proofs.index.Index.first_holding.Goals as goal

pub lowest_shared-requires-clause-group : goal.lowest_shared-requires-clause-group
lowest_shared-requires-clause-group c =
    (group_set c.args.rules.now c.args.self.now c.requires.indexed c.args.pgn c.requires.group).within

pub lowest_shared-requires-clause-source : goal.lowest_shared-requires-clause-source
lowest_shared-requires-clause-source c =
    (source_set c.args.rules.now c.args.self.now c.requires.indexed c.args.source (omega arith)).within

pub lowest_shared-requires-clause-destination : goal.lowest_shared-requires-clause-destination
lowest_shared-requires-clause-destination c =
    (destination_set c.args.rules.now c.args.self.now c.requires.indexed c.args.destination (omega arith)).within

pub lowest_shared-requires-clause-from : goal.lowest_shared-requires-clause-from
lowest_shared-requires-clause-from c =
    (port_set c.args.rules.now c.args.self.now c.requires.indexed c.args.from (omega arith)).within

pub returns : goal.returns
returns c = by c.lowest_shared.result c.lowest_shared.ensures.first c.lowest_shared.ensures.none
  where
    common : ℕ → ℕ
    common = shared c.args.self.now c.args.pgn c.args.source c.args.destination c.args.from

    by : (found : Option ℕ) → IfSome found (IsLowest common) → IfNone found ((rule : ℕ) → common rule ≡ 0)
        → found ≡ position (all_lie c.args.pgn c.args.source c.args.destination c.args.from) c.args.rules.now
    by None first none =
        sym (none_shared c.args.rules.now c.args.self.now c.requires.indexed c.args.pgn c.args.source c.args.destination
        c.args.from c.requires.group (omega arith) (omega arith) (omega arith) none)
    by (Some rule) first none =
        sym (first_shared c.args.rules.now c.args.self.now c.requires.indexed c.args.pgn c.args.source c.args.destination
        c.args.from c.requires.group (omega arith) (omega arith) (omega arith) rule first)
