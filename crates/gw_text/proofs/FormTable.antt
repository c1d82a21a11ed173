-- Operands of another number than the pieces fit none.
use Rattle.std.proofs.Common.{◌≡◌, ◌≢◌, ◌≤◌, ℕ, Bool, true, false, ◌&&◌, List, [], ◌∷◌, length, take, drop, get_or, map, ◌-◌}
use Rattle.std.proofs.Common.{refl, sym, ap, ◌∙◌, arith}
use Rattle.std.specs.Borrow.{Bor}
use Rattle.std.proofs.lemmas.List.{length-map}
use Rattle.gw_text.specs.AssemblerForms.{Piece, fits, fits_piece}
use Rattle.gw_text.specs.FormViews.{piece_view}
use Rattle.gw_text.specs.declared.forms.Piece.{Piece as StaticPiece}

either_way : (b c : Bool) → c ≡ false → (b && c) ≡ false
either_way true c h = h
either_way false c h = refl

unlike_fits : (ps : List Piece) (ts : List (List ℕ)) → length ps ≢ length ts → fits ps ts ≡ false
unlike_fits [] [] ne = absurd (ne refl)
unlike_fits [] (t ∷ ts) ne = refl
unlike_fits (p ∷ ps) [] ne = refl
unlike_fits (p ∷ ps) (t ∷ ts) ne = either_way (fits_piece p t) (fits ps ts) (unlike_fits ps ts (λ e. ne (omega arith)))

-- the same of operands as the code has them
pub unlike_tokens : (ps : List StaticPiece) (ts : List (Bor (List ℕ))) → length ps ≢ length ts
    → false ≡ fits (map piece_view ps) (map (λ t. t.now) ts)
unlike_tokens ps ts ne =
    sym (unlike_fits (map piece_view ps) (map (λ t. t.now) ts)
    (λ e. ne (sym (length-map ps piece_view) ∙ e ∙ length-map ts (λ (t : Bor (List ℕ)). t.now))))

-- all of a list is the list
pub all_taken : {X : Type 0} (xs : List X) → take (length xs) xs ≡ xs
all_taken [] = refl
all_taken (x ∷ xs) = ap (λ ys. x ∷ ys) (all_taken xs)

-- the first of some tokens, and those behind it
pub first_token : (ts : List (Bor (List ℕ))) (d : Bor (List ℕ)) → 1 ≤ length ts
    → map (λ t. t.now) ts ≡ (get_or ts 0 d).now ∷ map (λ t. t.now) (take (length ts - 1) (drop 1 ts))
first_token [] d some = absurd (omega arith)
first_token (t ∷ ts) d some =
    let n : length (t ∷ ts) - 1 ≡ length ts = omega arith in
    ap (λ us. t.now ∷ map (λ (u : Bor (List ℕ)). u.now) us) (sym (ap (λ k. take k ts) n ∙ all_taken ts))
