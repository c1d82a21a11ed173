use Rattle.std.proofs.lemmas.Slice.Eq.{slice_eq-Decides}
use Rattle.gw_policy.proofs.Programs.{equal_insns}
use Rattle.gw_policy.proofs.policy.is_same_code.Goals as goal

pub returns : goal.returns
returns c = (slice_eq-Decides equal_insns c.args.one.now c.args.other.now c.eq.result c.eq.ensures).0
