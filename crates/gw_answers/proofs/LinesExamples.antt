-- Lines of the worked examples.
use Rattle.std.proofs.Common.{◌≡◌, true, false, refl}
use Rattle.std.specs.Prelude.{codes}
use Rattle.std.specs.Fmt.{digits}
use Rattle.gw_answers.specs.Answers.{verdict_line, accepted_line, passes_line}

pass_7 : verdict_line 7 ≡ codes "pass 7\n"
unfolding digits
pass_7 = refl

block_on_0 : verdict_line 0 ≡ codes "block\n"
block_on_0 = refl

accepted_4096 : accepted_line 4096 ≡ codes "accepted 4096\n"
unfolding digits
accepted_4096 = refl

table_passes : passes_line true ≡ codes "pass\n"
table_passes = refl

table_blocks : passes_line false ≡ codes "block\n"
table_blocks = refl
