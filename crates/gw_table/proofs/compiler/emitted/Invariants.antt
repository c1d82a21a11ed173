use Rattle.std.proofs.Common.{◌≡◌, ◌≤◌, [], ◌∷◌, ◌++◌, map, length}
use Rattle.std.specs.List.{flat_map}
use Rattle.gw_insn.specs.Table.{raw_of}
use Rattle.gw_table.specs.Emission.{return_of, groups_of, group_code, emission}
use Rattle.gw_table.proofs.compiler.emitted.Given as goal

abbrev pub invariant-loop-group : goal.invariant-loop-group
invariant-loop-group l = record {
  rest : l.code.items ++ map raw_of (flat_map group_code (groups_of l.group-iterator.rest.now) ++ return_of l.table.otherwise
      ∷ []) ≡ map raw_of (emission l.table);
  few : length l.group-iterator.rest.now ≤ 256;
}
