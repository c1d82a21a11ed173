use Rattle.std.proofs.Common.{◌≡◌, ◌*◌, ◌≤◌, length}
use Rattle.gw_table.proofs.Rows.{IsMade}
use Rattle.gw_table.proofs.index.Index.new.Given as goal

abbrev pub invariant-loop-number : goal.invariant-loop-number
invariant-loop-number l = record {
  room : length l.rules ≤ 64 * l.sets.words;
  few : l.sets.words ≤ 4;
  all : length l.ranks ≡ 65;
  made : IsMade l.rules l.sets.words l.sets.bits.items l.ranks l.number l.rank;
}
