use Rattle.std.proofs.Common.{◌≡◌, ◌++◌, map, drop, string_bytes}
use Rattle.gw_insn.specs.Table.{raw_of}
use Rattle.gw_text.specs.Disassembly.{disassembly}
use Rattle.gw_text.proofs.LinesWritten.{from_place}
use Rattle.gw_text.proofs.ReadBack.{FitBefore}
use Rattle.gw_text.proofs.disassembler.disassemble.Given as goal

abbrev pub invariant-loop-place : goal.invariant-loop-place
invariant-loop-place l = record {
  text : string_bytes l.text ++ from_place l.place (drop l.place l.insn-items) ≡ disassembly (map raw_of l.insn-items);
  fits : FitBefore l.place l.insn-items;
}
