use Rattle.std.proofs.Common.{◌∙◌, not, sym, ap, option_map, rules, tests, string_bytes, bytes_eq}
use Rattle.std.proofs.lemmas.Iterator.Consumers.{YieldsList-from_rest}
use Rattle.std.proofs.lemmas.Iterator.Search.{find_from_yields_List}
use Rattle.std.specs.BTreeMap.{keys}
use Rattle.std.specs.List.{list_any}
use Rattle.gw_table.specs.TableText.{document_keys}
use Rattle.gw_table.proofs.Trees.{option_map-map, first_but-view}
use Rattle.gw_table.proofs.faults.unknown_at_top.Goals as goal

pub returns : goal.returns
returns c =
    let document = c.args.document.now in
    option_map-map _ string_bytes c.find.result
    ∙ ap (option_map string_bytes) (find_from_yields_List (λ key. not (list_any (bytes_eq (string_bytes key)) document_keys)) _ _
    c.find.result c.find.ensures.ran (YieldsList-from_rest (keys document) c.keys.ensures.rest)
    (λ x b q k. search (rules, tests)))
    ∙ sym (first_but-view document_keys document.entries)
