-- the digits so far
use Rattle.std.proofs.Common.{◌≡◌, ◌+◌, ◌*◌, ◌++◌, length, take}
use Rattle.hex.specs.Hex.{encode_upper}
use Rattle.gw_log.proofs.writing.with_octets.Given as goal

abbrev pub invariant-loop-octet : goal.invariant-loop-octet
invariant-loop-octet l = record {
  octets : l.text.items ≡ l.fn.text.items ++ encode_upper (take l.octet-index l.octets);
  len : length l.text.items ≡ length l.fn.text.items + 2 * l.octet-index;
}
