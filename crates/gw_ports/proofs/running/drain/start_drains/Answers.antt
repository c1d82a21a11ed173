use Rattle.std.proofs.Common.{rules}
use Rattle.gw_ports.proofs.running.drain.start_drains.Goals as goal

-- That each type may be sent, or shared, is searched for one by one: for all at once the search gives up.
pub scoped-requires : goal.scoped-requires
scoped-requires g c =
    let is = c.type_bounds in
    record {
      at = λ a. (
        c.requires.ready,
        (
          search (rules, is.send-I),
          search (rules, is.send-O),
          search (rules, is.send-C),
          search (rules, is.sync-R),
          search (rules, is.sync-G),
        ),
      );
    }
