use Rattle.std.proofs.Common.{string_bytes}
use Rattle.gw_commands.proofs.JsonTexts.{IsNext}
use Rattle.gw_commands.proofs.json_counts.push_groups.Given as goal

abbrev pub invariant-loop-group : goal.invariant-loop-group
invariant-loop-group l = IsNext l.key l.groups l.group (string_bytes l.fn.text) (string_bytes l.text) l.is_first
