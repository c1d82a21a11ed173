use Rattle.std.proofs.Common.{◌-◌, ◌^◌, ◌==◌, ◌&&◌, nat_lt, true, ap, ◌∙◌, arith}
use Rattle.std.specs.Int.{bit_at}
use Rattle.std.proofs.lemmas.Nat.{one_shl}
use Rattle.gw_ledger.specs.PortWord.{ports_of_word}
use Rattle.gw_ledger.proofs.PortLists.{same_ports, ports_within}
use Rattle.gw_ledger.proofs.PortBits.{bit_below}
use Rattle.gw_ledger.proofs.port_set.PortSet.below.Goals as goal

pub returns : goal.returns
returns c =
    ap (λ n. ports_of_word (n - 1)) (one_shl c.args.ports 32 (omega (arith, c.requires)))
    ∙ same_ports 16 (λ port. bit_at (2 ^ c.args.ports - 1) port == 1) (λ port. nat_lt port c.args.ports && true)
    (λ port low. bit_below c.args.ports port)
    ∙ ports_within 16 c.args.ports (λ _. true) c.requires
