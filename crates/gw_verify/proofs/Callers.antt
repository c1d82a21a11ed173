-- For whoever calls: where instructions lead, which places are bare, and which fault comes first.
pub use Rattle.gw_verify.proofs.FlowLaws.{leads_forward, leads_below, bare_start, bare_on}
pub use Rattle.gw_verify.proofs.Bare.{Reached, at_start, from, reached_from_bare, bare_inside}
pub use Rattle.gw_verify.proofs.Faults.{first_long, first_own, first_no_return, first_unset, accepted}
