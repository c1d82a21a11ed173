use Rattle.std.proofs.Common.{◌≡◌, ◌++◌, length, map}
use Rattle.gw_text.specs.Assembly.{definitions, definitions_from, instructions, line_faults, lines_from}
use Rattle.gw_text.specs.Sources.{instruction_view, label_view}
use Rattle.gw_text.proofs.SourceLines.{rest_from}
use Rattle.gw_text.proofs.source.read.Given as goal

abbrev pub invariant-loop-index : goal.invariant-loop-index
invariant-loop-index l = record {
  faults : line_faults (rest_from l.index l.lines) ≡ line_faults (lines_from 1 (map (λ t. t.now) l.lines));
  labels :
      map label_view l.labels.items ++ definitions_from (length l.instructions.items) (rest_from l.index l.lines)
      ≡ definitions (lines_from 1 (map (λ t. t.now) l.lines));
  written :
      map instruction_view l.instructions.items ++ instructions (rest_from l.index l.lines)
      ≡ instructions (lines_from 1 (map (λ t. t.now) l.lines));
}
