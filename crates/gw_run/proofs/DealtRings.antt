-- The ends of the rings of a run on dealt frames.
use Rattle.std.proofs.Common.{◌≡◌, ◌∙◌, ℕ, ◌+◌, ◌<◌, List, [], ◌∷◌, ◌++◌, length, length-append}
use Rattle.std.proofs.Common.{slice_index_or, slice_set, arith, ap, refl, subst, sym, ⊎_elim}
use Rattle.std.proofs.lemmas.Bool.{cases_eq}
use Rattle.std.proofs.Math.ListN.{get_or-append}
use Rattle.std.proofs.Math.Seq.{get_or-append_seam, get_or-set_other, get_or-set_same}
use Rattle.gw_run.specs.Dealing.{AreNewRings}
use Rattle.gw_run.specs.Dealt.{IsNewRing, Putting, Taken}

-- the ends of one more
pub one_ring_more : (ports : ℕ) (ins : List Putting) (outs : List Taken) (one : Putting) (other : Taken)
    → AreNewRings ports ins outs → IsNewRing one other → AreNewRings (ports + 1) (ins ++ one ∷ []) (outs ++ other ∷ [])
one_ring_more ports ins outs one other so_far new =
    let long = so_far.enough in record {
      enough = (omega (arith, long.0, length-append ins (one ∷ [])), omega (arith, long.1, length-append outs (other ∷ [])));
      each = λ k d e below.
          ⊎_elim
          (λ last.
          subst (λ n. IsNewRing (slice_index_or (ins ++ one ∷ []) n d) (slice_index_or (outs ++ other ∷ []) n e)) (sym last)
          (subst (λ end. IsNewRing end (slice_index_or (outs ++ other ∷ []) ports e)) (sym (seam ins one d ports long.0))
          (subst (λ end. IsNewRing one end) (sym (seam outs other e ports long.1)) new)))
          (λ before.
          subst (λ end. IsNewRing end (slice_index_or (outs ++ other ∷ []) k e))
          (sym (get_or-append ins (one ∷ []) d k (omega (arith, long.0, before))))
          (subst (λ end. IsNewRing (slice_index_or ins k d) end)
          (sym (get_or-append outs (other ∷ []) e k (omega (arith, long.1, before))))
          (so_far.each k d e (omega (arith, before)))))
          (cases_eq k ports);
    }
  where
    seam : {A : Type 0} (xs : List A) (x d : A) (n : ℕ) → length xs ≡ n → slice_index_or (xs ++ x ∷ []) n d ≡ x
    seam xs x d n long =
        ap (λ m. slice_index_or (xs ++ x ∷ []) m d) (sym long) ∙ get_or-append_seam xs x [] d

pub no_rings : AreNewRings 0 [] []
no_rings = record { enough = (refl, refl); each = λ k d e below. absurd (omega (arith, below)) }

-- an end that is as it was
pub as_before : {A : Type 0} (ends : List A) (k : ℕ) (end : A) → k < length ends → ((d : A) → end ≡ slice_index_or ends k d)
    → (j : ℕ) (d : A) → slice_index_or (slice_set ends k end) j d ≡ slice_index_or ends j d
as_before ends k end inside same j d =
    ⊎_elim
    (λ here.
    ap (λ n. slice_index_or (slice_set ends k end) n d) here ∙ get_or-set_same ends k end d inside ∙ same d
    ∙ ap (λ n. slice_index_or ends n d) (sym here))
    (λ there. get_or-set_other ends k j end d there) (cases_eq j k)
