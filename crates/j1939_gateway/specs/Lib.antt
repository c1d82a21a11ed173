-- what the contracts of these crates speak of
pub use Rattle.gw_board.specs.Ends as BoardEnds
pub use Rattle.gw_board.specs.Lists
pub use Rattle.gw_board.specs.Refusals as BoardRefusals
pub use Rattle.gw_claims.specs.Holders
pub use Rattle.gw_core.specs.Circle as CoreCircle
pub use Rattle.gw_core.specs.Events as CoreEvents
pub use Rattle.gw_core.specs.Forwarding as CoreForwarding
pub use Rattle.gw_core.specs.Headline
pub use Rattle.gw_core.specs.Renewing
pub use Rattle.gw_core.specs.Runs as CoreRuns
pub use Rattle.gw_core.specs.Safety
pub use Rattle.gw_core.specs.Start as CoreStart
pub use Rattle.gw_frame.specs.Record
pub use Rattle.gw_insn.specs.Listing
pub use Rattle.gw_insn.specs.Table as Instructions
pub use Rattle.gw_lanes.specs.Ends as LaneEnds
pub use Rattle.gw_ledger.specs.Bounds
pub use Rattle.gw_ledger.specs.Ledgers
pub use Rattle.gw_machine.specs.Answers
pub use Rattle.gw_machine.specs.Runs
pub use Rattle.gw_policy.specs.Batches
pub use Rattle.gw_policy.specs.Filter
pub use Rattle.gw_ports.specs.Closing
pub use Rattle.gw_ports.specs.Ends as PortEnds
pub use Rattle.gw_ports.specs.Making
pub use Rattle.gw_ports.specs.Offers
pub use Rattle.gw_ports.specs.Reports
pub use Rattle.gw_ports.specs.Running as PortRuns
pub use Rattle.gw_ports.specs.Sending
pub use Rattle.gw_table.specs.Emission
pub use Rattle.gw_table.specs.Table
pub use Rattle.gw_table.specs.TableText
pub use Rattle.gw_verify.specs.Accepted
pub use Rattle.gw_verify.specs.Flow
-- their types
pub use Rattle.gw_board.specs.declared.refusals.ReplaceRefusal
pub use Rattle.gw_insn.specs.declared.insn.Insn
pub use Rattle.gw_insn.specs.declared.insn.Raw
pub use Rattle.gw_ledger.specs.declared.ledger.InLedger
pub use Rattle.gw_ledger.specs.declared.outcome.FrameCopy
pub use Rattle.gw_ledger.specs.declared.outcome.Outcome
pub use Rattle.gw_ports.specs.declared.closing.LaneLeft
pub use Rattle.gw_ports.specs.declared.refusals.MakeRefusal
pub use Rattle.gw_ports.specs.declared.refusals.OfferRefusal
