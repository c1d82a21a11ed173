use Rattle.std.proofs.Common.{[], refl}
use Rattle.gw_judge.proofs.capture.CaptureJudging.new.Goals as goal

pub returns-clause-counted : goal.returns-clause-counted
returns-clause-counted c = λ fate strict. record {
  records = [];
  read = c.new.ensures;
  counted = c.new-2.ensures.told fate;
  fine = λ e. refl;
}
