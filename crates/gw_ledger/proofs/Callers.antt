-- For whoever calls: sets of ports as lists.
pub use Rattle.gw_ledger.proofs.PortLists.{has_port-ports_below, length-part, ports_within, same_ports}
