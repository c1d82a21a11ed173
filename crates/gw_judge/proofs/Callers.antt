-- For whoever calls: the lines of a log with their ends.
pub use Rattle.gw_judge.proofs.Lines.{ended_more}
