use Rattle.std.proofs.Common.{◌≡◌, ℕ, List, [], ◌∷◌, ◌++◌, map, refl, rules, arith}
use Rattle.std.specs.Borrow.{Bor}
use Rattle.std.proofs.lemmas.List.{map-append}
use Rattle.gw_text.proofs.TokenLemmas.{name_added, mark_added}
use Rattle.gw_text.proofs.tokens.split.Goals as goal

abbrev seen : List (Bor (List ℕ)) → List (List ℕ)
seen = map (λ t. t.now)

pushed : (found new : List (Bor (List ℕ))) (piece : Bor (List ℕ)) (rest whole : List (List ℕ)) → new ≡ found ++ piece ∷ []
    → (seen found ++ piece.now ∷ []) ++ rest ≡ whole → seen new ++ rest ≡ whole
pushed found new piece rest whole e h = rw (e, map-append) h

pub loop-at-preserved-then-is_name : goal.loop-at-preserved-then-is_name
loop-at-preserved-then-is_name c = (
  c.name_end-end.ensures.within,
  pushed c.loop-at.found.items _ _ _ _ c.in_ok-push.ensures.items
      (name_added c.args.line.now (seen c.loop-at.found.items) c.loop-at.at c.name_end-end.result _ (search rules) (search rules)
      c.name_end-end.ensures.end refl c.loop-at.invariant.1),
)

pub loop-at-preserved : goal.loop-at-preserved
loop-at-preserved c = (
  omega arith,
  pushed c.loop-at.found.items _ _ _ _ c.in_ok-push-2.ensures.items
      (mark_added c.args.line.now (seen c.loop-at.found.items) c.loop-at.at _ (search rules) (search rules) (search rules)
      refl c.loop-at.invariant.1),
)
