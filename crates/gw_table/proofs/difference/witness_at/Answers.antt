use Rattle.std.proofs.Common.{rules, ap, sym, ◌∙◌, ◌≡◌, length, nat_lt}
use Rattle.gw_table.proofs.PartsAt.{other_in_both}
use Rattle.gw_table.proofs.difference.witness_at.Goals as goal

pub returns-then-is_other-b : goal.returns-then-is_other-b
returns-then-is_other-b c octets port at taken =
    let same : nat_lt (length c.rules.result.now) c.args.a ≡ nat_lt (length c.rules-2.result.now) c.args.b =
    ap (λ list. nat_lt (length list) c.args.a) c.rules.ensures.rules
    ∙ other_in_both c.args.old.now c.args.a c.args.new.now c.args.b octets port taken
    ∙ ap (λ list. nat_lt (length list) c.args.b) (sym c.rules-2.ensures.rules) in
    let apart = c.if-is_other-b.true in
    search rules
