use Rattle.std.proofs.Common.{◌≡◌, ◌≤◌, length, take, arith}
use Rattle.std.proofs.lemmas.List.{length-take-le}
use Rattle.gw_judge.proofs.first_octets.FirstOctets.read.Goals as goal

pub returns-clause-opened : goal.returns-clause-opened
returns-clause-opened g c =
    let few = c.octets.invariant.few in
    let sized = c.octets.invariant.sized in
    let within : c.octets.len ≤ length c.octets.octets = omega arith in
    let len : length (take c.octets.len c.octets.octets) ≡ c.octets.len = length-take-le c.octets.len c.octets.octets within in
    let all = c.octets-test.false in
    record {
      consumed = c.octets.invariant.consumed;
      few = omega arith;
      all = λ short. absurd (omega arith);
    }
