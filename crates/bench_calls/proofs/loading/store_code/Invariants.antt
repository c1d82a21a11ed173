use Rattle.std.proofs.Common.{◌≡◌, map, take, drop}
use Rattle.gw_insn.specs.Table.{raw_of}
use Rattle.bench_calls.specs.Calls.{fields_of}
use Rattle.bench_calls.proofs.loading.store_code.Given as goal

abbrev pub invariant-loop-i : goal.invariant-loop-i
invariant-loop-i l = record {
  stored : map fields_of (take l.i l.code) ≡ map raw_of (take l.i l.insns);
  behind : drop l.i l.code ≡ drop l.i l.initial.code;
}
