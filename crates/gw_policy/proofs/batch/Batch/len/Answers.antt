use Rattle.std.proofs.Common.{length, sym, ◌∙◌, ap}
use Rattle.gw_policy.proofs.PairLists.{pairs_length}
use Rattle.gw_policy.proofs.batch.Batch.len.Goals as goal

pub returns : goal.returns
returns c = c.len.ensures.value ∙ sym (pairs_length c.self.inside.pairs.items c.self.invariant) ∙ ap length c.self.view_is
