use Rattle.std.proofs.Common.{map, arith}
use Rattle.std.proofs.lemmas.List.{length-map}
use Rattle.toml.specs.View.{view}
use Rattle.gw_table.specs.TableText.{rule_in}
use Rattle.gw_table.proofs.TreesFit.{rules-IsRule, length-filter_map}
use Rattle.gw_table.proofs.reading.from_document.Goals as goal

pub invariant_of-result : goal.invariant_of-result
invariant_of-result c =
    let written = c.in-Some.written.now in
    record {
      few = rw c.in-Ok.ensures (omega (arith, length-filter_map rule_in (map view written), length-map written view));
      ranges = rw c.in-Ok.ensures (rules-IsRule (map view written));
    }
