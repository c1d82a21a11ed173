use Rattle.std.proofs.Common.{◌∙◌, not, sym, ap, option_map, rules, tests, string_bytes, bytes_eq}
use Rattle.std.proofs.lemmas.Iterator.Consumers.{YieldsList-from_rest}
use Rattle.std.proofs.lemmas.Iterator.Search.{find_from_yields_List}
use Rattle.std.specs.BTreeMap.{keys}
use Rattle.std.specs.List.{list_any}
use Rattle.toml.proofs.Views.{view-Table}
use Rattle.gw_table.specs.TableText.{rule_keys}
use Rattle.gw_table.proofs.Trees.{option_map-map, first_but-view}
use Rattle.gw_table.proofs.faults.unknown_in_rule.Goals as goal

pub returns-in-Table : goal.returns-in-Table
returns-in-Table c =
    let members = c.in-Table.members in
    rw (c.in-Table.is, view-Table members) (
    option_map-map _ string_bytes c.find.result
    ∙ ap (option_map string_bytes) (find_from_yields_List (λ key. not (list_any (bytes_eq (string_bytes key)) rule_keys)) _ _
    c.find.result c.find.ensures.ran (YieldsList-from_rest (keys members) c.keys.ensures.rest)
    (λ x b q k. search (rules, tests)))
    ∙ sym (first_but-view rule_keys members.entries)
    )
