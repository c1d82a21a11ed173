use Rattle.gw_verify.specs.Flow.{forms_of}
use Rattle.gw_verify.proofs.Paths.{IsFront}
use Rattle.gw_verify.proofs.path.holds.Given as goal

abbrev pub invariant-loop-i : goal.invariant-loop-i
invariant-loop-i l = IsFront (forms_of l.code) l.word l.path.places.items l.i
