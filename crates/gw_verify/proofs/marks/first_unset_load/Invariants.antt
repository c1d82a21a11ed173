use Rattle.std.proofs.Common.{◌≡◌, length}
use Rattle.gw_verify.specs.Flow.{forms_of}
use Rattle.gw_verify.specs.UnsetLoad.{NoUnsetLoadBelow}
use Rattle.gw_verify.proofs.Masks.{AreMarks}
use Rattle.gw_verify.proofs.marks.first_unset_load.Given as goal

abbrev pub invariant-loop-place : goal.invariant-loop-place
invariant-loop-place l = record {
  long : length l.marks ≡ 4096;
  marks : AreMarks (forms_of l.code) l.place l.marks;
  none : NoUnsetLoadBelow (forms_of l.code) l.place;
}
