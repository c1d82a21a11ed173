use Rattle.std.proofs.Common.{◌≡◌, ◌<◌, vec_len, ap, arith}
use Rattle.gw_verify.specs.Cause.{rank}
use Rattle.gw_verify.specs.declared.refused.Refused.{Refused}
use Rattle.gw_verify.proofs.Explained.{own_place}
use Rattle.gw_verify.proofs.refused.RefusedDisplay.fmt.Goals as goal

-- what an instruction has by itself is told of one that is there
is_there : (r : Refused) → rank r.why ≡ 2 → r.place < vec_len r.code
is_there r own = let inside = own_place r.code.items r.why r.place own r.of_the_code in omega (arith, r.code.ok.0, inside)

pub index-requires : goal.index-requires
index-requires g c = is_there c.args.self.now (ap rank c.in-UnknownCode.is)

pub index-requires-in-ShiftTooFar : goal.index-requires-in-ShiftTooFar
index-requires-in-ShiftTooFar g c = is_there c.args.self.now (ap rank c.in-ShiftTooFar.is)

pub index-requires-in-NoSuchWord : goal.index-requires-in-NoSuchWord
index-requires-in-NoSuchWord g c = is_there c.args.self.now (ap rank c.in-NoSuchWord.is)

pub index-requires-in-Ancillary : goal.index-requires-in-Ancillary
index-requires-in-Ancillary g c = is_there c.args.self.now (ap rank c.in-Ancillary.is)
