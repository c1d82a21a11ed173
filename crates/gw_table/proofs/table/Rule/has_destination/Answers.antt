use Rattle.std.proofs.Common.{◌≡◌, arith}
use Rattle.std.proofs.lemmas.Bool.Decides.{nat_tests}
use Rattle.std.specs.Prelude.{nat_eq}
use Rattle.gw_table.proofs.NeverDecides.{matched, no_destination, some_destination, pdu1_destination}
use Rattle.gw_table.proofs.table.Rule.has_destination.Goals as goal

pub returns-then-self-eq-GREATEST_OCTET : goal.returns-then-self-eq-GREATEST_OCTET
returns-then-self-eq-GREATEST_OCTET c =
    let rule = c.args.self.now in
    let all : rule.destination.high ≡ 255 = omega arith in
    matched _ _ (nat_eq rule.destination.high 255)
    (λ is. some_destination rule c.requires.rule all c.requires.group.0 c.requires.group.1)
    (λ is. absurd (grind (arith, nat_tests)))

pub returns-else-self-eq-GREATEST_OCTET : goal.returns-else-self-eq-GREATEST_OCTET
returns-else-self-eq-GREATEST_OCTET c =
    let rule = c.args.self.now in
    matched _ _ c.has_pdu1_group.result (λ is.
    let found = rw is at c.has_pdu1_group.ensures in
    pdu1_destination rule c.requires.rule found.0 found.1 found.2)
    (λ is.
    let none = rw is at c.has_pdu1_group.ensures in
    no_destination rule c.requires.rule (omega arith) none)
