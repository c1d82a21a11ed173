-- For whoever calls: which pair of a batch decides, and what examples judge.
pub use Rattle.gw_policy.proofs.PolicySets.{policy_after-more}
pub use Rattle.gw_policy.proofs.PolicyExamples.{engine_speed, returning}
