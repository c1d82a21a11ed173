use Rattle.std.proofs.Common.{◌≡◌, length}
use Rattle.gw_arguments.proofs.source_arguments.name_files.Given as goal

abbrev pub invariant-loop-value : goal.invariant-loop-value
invariant-loop-value l = length l.sources ≡ length l.initial.sources
