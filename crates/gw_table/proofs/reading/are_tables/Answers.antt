use Rattle.std.proofs.Common.{rules, tests}
use Rattle.std.proofs.lemmas.Iterator.{YieldsList-from_slice}
use Rattle.std.proofs.lemmas.Iterator.Search.{all_from_yields_List}
use Rattle.std.proofs.lemmas.List.Folds.{list_all-map}
use Rattle.toml.specs.View.{view}
use Rattle.gw_table.specs.TableText.{is_table}
use Rattle.gw_table.proofs.reading.are_tables.Goals as goal

pub returns : goal.returns
returns c =
    rw list_all-map (all_from_yields_List (λ value. is_table (view value)) _ _ _ c.all.ensures.ran
    (YieldsList-from_slice c.args.values.now cc) (λ x b q k. search (rules, tests)))
