use Rattle.std.proofs.Common.{◌≡◌, ℕ, List, [], ◌∷◌, ◌++◌, map, refl, rules, arith}
use Rattle.std.specs.Borrow.{Bor}
use Rattle.std.proofs.lemmas.List.{map-append}
use Rattle.gw_text.proofs.LineEnds.{next_line, last_line}
use Rattle.gw_text.proofs.lines.lines.Goals as goal

abbrev seen : List (Bor (List ℕ)) → List (List ℕ)
seen = map (λ t. t.now)

pushed : (found new : List (Bor (List ℕ))) (piece : Bor (List ℕ)) (rest whole : List (List ℕ)) → new ≡ found ++ piece ∷ []
    → (seen found ++ piece.now ∷ []) ++ rest ≡ whole → seen new ++ rest ≡ whole
pushed found new piece rest whole e h = rw (e, map-append) h

ended : (found new : List (Bor (List ℕ))) (piece : Bor (List ℕ)) (whole : List (List ℕ)) → new ≡ found ++ piece ∷ []
    → seen found ++ piece.now ∷ [] ≡ whole → seen new ≡ whole
ended found new piece whole e h = rw (e, map-append) h

pub loop-end-preserved : goal.loop-end-preserved
loop-end-preserved c = record {
  begins = omega arith;
  ends = c.line_end-end-in-loop-end.ensures.end;
  within = c.line_end-end-in-loop-end.ensures.within;
  found =
      pushed c.loop-end.lines.items _ _ _ _ c.in_ok-push.ensures.items
      (next_line c.args.text.now (seen c.loop-end.lines.items) c.loop-end.from c.loop-end.end _ _ c.loop-end.invariant.begins
      c.loop-end.invariant.ends
      (search rules) refl c.loop-end.invariant.found);
}

pub returns : goal.returns
returns c =
    ended c.loop-end.lines.items _ _ _ c.in_ok-push-2.ensures.items
    (last_line c.args.text.now (seen c.loop-end.lines.items) c.loop-end.from c.loop-end.end _ _ c.loop-end.invariant.begins
    c.loop-end.invariant.ends
    c.loop-end.invariant.within (search rules) refl c.loop-end.invariant.found)
