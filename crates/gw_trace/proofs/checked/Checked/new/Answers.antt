use Rattle.std.proofs.Common.{◌≡◌, ◌<◌, length, arith}
use Rattle.gw_trace.specs.Scans.{found}
use Rattle.std.proofs.lemmas.Bool.Decides.{nat_tests}
use Rattle.gw_trace.proofs.Verdicts.{header_cut, header_refused, record_refused, record_cut, is_whole}
use Rattle.gw_trace.proofs.checked.Checked.new.Goals as goal

pub returns-then-octets-lt-HEADER-clause-refused : goal.returns-then-octets-lt-HEADER-clause-refused
returns-then-octets-lt-HEADER-clause-refused c = header_cut c.args.octets.now (omega arith)

pub returns-in-Err-clause-refused : goal.returns-in-Err-clause-refused
returns-in-Err-clause-refused c =
    header_refused c.args.octets.now c.split_at.result.0.now c.in-Err.why (omega arith) c.split_at.ensures.front c.in-Err.ensures

pub returns-in-Some-clause-refused : goal.returns-in-Some-clause-refused
returns-in-Some-clause-refused c =
    record_refused c.args.octets.now c.split_at.result.0.now c.split_at.result.1.now c.in-Ok.order (found c.over-scan.result)
    c.in-Some.why c.len.result
    (omega arith) c.split_at.ensures.front c.split_at.ensures.back c.in-Ok.ensures c.over-scan.ensures c.in-Some.is
    c.len.ensures.len c.len.ensures.few

pub returns-then-is_empty-clause-frames : goal.returns-then-is_empty-clause-frames
returns-then-is_empty-clause-frames c =
    let none : length c.over-scan.result.rest.now ≡ 0 = grind (arith, nat_tests) in
    is_whole c.args.octets.now c.split_at.result.0.now c.split_at.result.1.now c.in-Ok.order (found c.over-scan.result)
    (omega arith) c.split_at.ensures.front c.split_at.ensures.back c.in-Ok.ensures c.over-scan.ensures c.in-None.is none

pub returns-else-is_empty-clause-refused : goal.returns-else-is_empty-clause-refused
returns-else-is_empty-clause-refused c =
    let some : 0 < length c.over-scan.result.rest.now = grind (arith, nat_tests) in
    record_cut c.args.octets.now c.split_at.result.0.now c.split_at.result.1.now c.in-Ok.order (found c.over-scan.result)
    (omega arith) c.split_at.ensures.front c.split_at.ensures.back c.in-Ok.ensures c.over-scan.ensures c.in-None.is some
