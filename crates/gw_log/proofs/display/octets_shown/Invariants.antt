-- the octets so far are words of two digits
use Rattle.std.proofs.Common.{◌≡◌, ◌≤◌, length, take, drop, true}
use Rattle.std.specs.List.{list_all, flat_map}
use Rattle.gw_log.specs.LogFrames.{pairs}
use Rattle.gw_log.specs.LogLines.{words_of, is_octet_word}
use Rattle.gw_log.proofs.display.octets_shown.Given as goal

abbrev pub invariant-loop-i : goal.invariant-loop-i
invariant-loop-i l = record {
  octets : l.octets.items ≡ flat_map pairs (take l.i (drop l.index (words_of l.text)));
  digits : list_all is_octet_word (take l.i (drop l.index (words_of l.text))) ≡ true;
  words : l.i ≤ length (drop l.index (words_of l.text));
  room : length l.octets.items ≡ l.i;
}
