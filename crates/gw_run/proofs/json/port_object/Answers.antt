use Rattle.std.proofs.Common.{codes, decimal, ◌∙◌}
use Rattle.gw_run.proofs.Objects.{behind_none, nine_parts}
use Rattle.gw_run.proofs.json.port_object.Goals as goal

pub returns : goal.returns
returns c =
    let ledger = c.args.ledger.now in
    behind_none _ _ _ c.in_ok-write.ensures.bytes c.new-text.ensures.bytes
    ∙ nine_parts (codes "{\"port\":") (decimal c.args.port) (codes ",\"taken\":") (decimal ledger.taken) (codes ",\"local\":")
    (decimal ledger.local) (codes ",\"allowed\":") (decimal ledger.allowed) (codes "}")
