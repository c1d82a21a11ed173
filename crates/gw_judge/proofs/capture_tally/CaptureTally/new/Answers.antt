use Rattle.std.proofs.Common.{refl}
use Rattle.gw_judge.proofs.Captured.{nothing_told}
use Rattle.gw_judge.proofs.capture_tally.CaptureTally.new.Goals as goal

pub returns-clause-told : goal.returns-clause-told
returns-clause-told c = λ fate. nothing_told fate _ c.args.groups c.requires c.new.ensures refl refl
