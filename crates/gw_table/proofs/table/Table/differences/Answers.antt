use Rattle.gw_table.proofs.Listing.{of_all_ports, none_where_alike_of}
use Rattle.gw_table.proofs.table.Table.differences.Goals as goal

pub returns-clause-differences : goal.returns-clause-differences
returns-clause-differences c =
    of_all_ports c.all.result c.all.ensures c.args.self.now c.args.other.now (λ list. list.items) c.differences_at.result
    c.differences_at.ensures

pub returns-clause-alike : goal.returns-clause-alike
returns-clause-alike c =
    none_where_alike_of c.args.self.now c.args.other.now (λ list. list.items) c.differences_at.result
    (returns-clause-differences c)
