use Rattle.std.proofs.Common.{refl, [], ◌∷◌, ◌++◌, length, sym, ◌∙◌, ap, arith}
use Rattle.std.proofs.lemmas.Bool.{eqb-true}
use Rattle.std.proofs.lemmas.Bool.Decides.{nat_tests}
use Rattle.gw_policy.specs.Batches.{pairs_of}
use Rattle.gw_policy.proofs.PairLists.{pairs_length, pairs_push}
use Rattle.gw_policy.proofs.batch.Batch.add.Goals as goal

pub returns-then-is_full-clause-refused : goal.returns-then-is_full-clause-refused
returns-then-is_full-clause-refused c = (
  sym c.if-names.ensures,
  ap length (sym c.self.view_is) ∙ pairs_length c.self.inside.pairs.items c.self.invariant
      ∙ eqb-true _ _ (sym c.if-is_full.ensures.value),
  refl,
)

pub returns-clause-added : goal.returns-clause-added
returns-clause-added c =
    ap pairs_of c.push.ensures.items ∙ pairs_push c.self.inside.pairs.items c.args.port c.args.policy
    ∙ ap (λ pairs. pairs ++ record { port = c.args.port; policy = c.args.policy.value } ∷ []) c.self.view_is

pub returns-clause-room : goal.returns-clause-room
returns-clause-room c =
    let e = ap length (sym c.self.view_is) ∙ pairs_length c.self.inside.pairs.items c.self.invariant in
    grind (arith, nat_tests, e, c.if-is_full.ensures.value)
