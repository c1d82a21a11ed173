use Rattle.std.proofs.lemmas.Map.Text.{btree_map_updates_str}
use Rattle.gw_text.proofs.places.add.Goals as goal

pub returns-clause-added : goal.returns-clause-added
returns-clause-added c = btree_map_updates_str c.args.label.name.now c.args.places.now c.insert.new.self _
    c.in_ok-insert.ensures.updates
