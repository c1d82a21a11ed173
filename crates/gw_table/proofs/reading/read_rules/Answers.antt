use Rattle.std.proofs.Common.{rules, tests}
use Rattle.std.proofs.lemmas.Iterator.{YieldsList-from_slice}
use Rattle.std.proofs.lemmas.Iterator.Adapters.{items_from_extend}
use Rattle.std.proofs.lemmas.Iterator.Consumers.{YieldsList-from_filter_map}
use Rattle.toml.specs.View.{view}
use Rattle.gw_table.specs.TableText.{rule_in}
use Rattle.gw_table.proofs.Trees.{filter_map-map}
use Rattle.gw_table.proofs.reading.read_rules.Goals as goal

pub returns : goal.returns
returns c =
    let extended = items_from_extend c.extend.result c.extend.ensures.ran
    (YieldsList-from_filter_map _ (λ rule. rule_in (view rule)) (YieldsList-from_slice c.args.rules.now cc)
    c.filter_map.ensures.closure (λ x r q k. search (rules, tests))) in
    rw filter_map-map (search rules)
