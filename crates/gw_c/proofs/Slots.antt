-- A `Slot` in the machine: a word for the pointer and one for the allocator's handle. Assumes `Logic`.
use Rattle.std.proofs.Common.{◌≡◌, ℕ, List, [], ◌∷◌, ◌++◌, refl, sym, subst}
use mathlib.Core.Bool.{Bool, true, false, ◌&&◌}
use lib.Dec.{T}
use seplogic.Ra.Ura.{Ura}
use mir.Raw.{raw as bare}
use mir.Syntax.{impl, tnil, dnil}
use mir.Val.{Val, vptr, vstruct, of_list, has_ty, WT}
use base.Logic.{never, fst∗}
use types.Logic.{Logic, sem}
use types.Kit.{Item, Goal, Seq, Step, step, ‵, ◌$◌, move, drop, fsplit, fjoin, fpick, fpack, rewrite, feq_i, feq_l}
use denote.RattleType.{RattleType, Valss}
use denote.Builtin.{RawPtr}
use denote.Memory.{lone}
use denote.RawPtr.{Ptr, block_ptr, null_ptr, ptr_val, in_a_block}
use denote.Steps.{nothing}
use denote.Param.{layout}
use denote.Struct.Struct.{within}
use denote.Struct.Owning.{shape, to}
use Rattle.core.proofs.alloc.Calls.{Al, handle_tells}
use Rattle.core.proofs.atomic.Steps.{Ptr-Good}
use Rattle.core.proofs.cell.Inside.{Good}
use Rattle.std.specs.contracts.alloc.Global as heap
use Rattle.std.proofs.alloc.Global.TheLaws as heap_laws
use Rattle.std_heap.specs.contracts.GlobalAllocator.TheImpl.{ghosts}
use Rattle.std_alloc.specs.Box.Ownership.{box_owns}
use Rattle.gw_loose.proofs.Callers.{both}
use Rattle.gw_c.specs.contracts.inner.Inner as inner
use Rattle.gw_c.specs.contracts.slot.Slot as slot
use Rattle.gw_c.specs.Boxes.{slot_owns}
use Rattle.std.specs.Prelude.{Option, Some, None, IsSome}

abbrev pub R : RattleType
R = inner.the_row

abbrev pub Z : RattleType
Z = heap.the_row

abbrev pub Slot : RattleType
Slot = slot.the_row

abbrev pub al : Al
al = record { row = Z; laws = heap_laws.the_row_laws; g = ghosts; d = impl [] tnil dnil; drops = impl [] tnil dnil }

pub some_of : {A : Type 0} (y : Option A) → IsSome y → (x : A) × (y ≡ Some x)
some_of (Some x) s = (x, refl)
some_of None s = absurd (subst T (sym s) tt)

both_hold : (x y : Bool) → T x → T y → T (x && (y && true))
both_hold true true s t = tt
both_hold true false s t = absurd t
both_hold false y s t = absurd s

-- a pointer beside a handle of the allocator's type has the struct's type
pub pointer_good : (p : Ptr) (h : Val) → Good (layout Z) h
    → T (has_ty (layout RawPtr) (ptr_val p) && (has_ty (layout Z) h && true)) × WT (both (ptr_val p) h)
pointer_good p h fits =
    (both_hold (has_ty (layout RawPtr) (ptr_val p)) (has_ty (layout Z) h) (Ptr-Good p).0 fits.0, ((Ptr-Good p).1, (fits.1, tt)))

module _ {M : Type 1} {𝓤 : Ura M} {𝓛 : Logic 𝓤} {K : Type 0} {Γ : List (Item 𝓤)} {G : Goal 𝓤 𝓛.H} where
  -- what is owned of a slot is its two words and what lies at the pointer
  pub words_out : K → (d : Slot.Denot) (vs : List Val)
      → ((h : Val) → vs ≡ both (ptr_val d.at) h ∷ [] → Good (layout Z) h
      → Seq K 𝓛 (‵ (slot_owns d.alloc d.at d.value) ∷ ‵ (Z.own_val d.alloc (h ∷ [])) ∷ Γ) G)
      → Seq K 𝓛 (‵ (Slot.own_val d vs) ∷ Γ) G
  words_out t d vs k =
      fsplit t $ fpick t (λ words. fsplit t $ feq_l t (λ whole. fsplit t $ feq_l t (λ first. fsplit t $
      handle_tells al t d.alloc words.1.0 (λ h second fits.
      move t (1 ∷ []) $ drop t $ move t (1 ∷ []) $
      let by_first : vs ≡ vstruct (of_list (ptr_val d.at ∷ (words.1.0 ++ []))) ∷ []
      = subst (λ (ps : List Val). vs ≡ vstruct (of_list (ps ++ (words.1.0 ++ []))) ∷ []) first whole in
      k h (subst (λ (ws : List Val). vs ≡ vstruct (of_list (ptr_val d.at ∷ (ws ++ []))) ∷ []) second by_first) fits))))

  pub words_in : K → (p : Ptr) (h : Val) (a : Z.Denot) (y : Option R.Denot)
      → Step K 𝓛 (‵ (Slot.own_val (record { at = p; alloc = a; value = y }) (both (ptr_val p) h ∷ [])) ∷ Γ) G
      (‵ (slot_owns a p y) ∷ ‵ (Z.own_val a (h ∷ [])) ∷ Γ) G
  words_in t p h a y = step (λ s.
      let whole : List Val = both (ptr_val p) h ∷ [] in let made : Slot.Denot = record { at = p; alloc = a; value = y } in
      nothing t $ move t (2 ∷ 0 ∷ []) $
      fjoin t $ feq_i t (List Val) (ptr_val p ∷ []) (ptr_val p ∷ []) refl $
      fjoin t $ feq_i t (List Val) whole whole refl $ fjoin t $
      fpack t (Valss (RawPtr ∷ Z ∷ [])) (within (shape slot.the_type) (to slot.the_type made) whole)
      (ptr_val p ∷ [], (h ∷ [], tt)) $
      fjoin t $ s)

  -- of a full slot the pointer leads to its box, in a block
  pub slot_out : K → (d : Slot.Denot) (x : R.Denot) → d.value ≡ Some x → (vs : List Val)
      → ((b o : ℕ) (h : Val) → vs ≡ both (vptr b o) h ∷ [] → Good (layout Z) h
      → Seq K 𝓛 (‵ (box_owns (ghosts.dealloc_token d.alloc) R (block_ptr b o) x) ∷ ‵ (Z.own_val d.alloc (h ∷ [])) ∷ Γ) G)
      → Seq K 𝓛 (‵ (Slot.own_val d vs) ∷ Γ) G
  slot_out t d x is vs k = words_out t d vs (λ h ws fits.
      rewrite t 0 (λ (y : Option R.Denot). ‵ (slot_owns d.alloc d.at y)) is refl $
      in_a_block t d.at (λ p. box_owns (ghosts.dealloc_token d.alloc) R p x)
      (fst∗ 𝓤 (never 𝓤) (sem 𝓛 (ghosts.dealloc_token d.alloc (bare (lone R.mir)) null_ptr))) (λ b o place.
      k b o h (subst (λ (p : Ptr). vs ≡ both (ptr_val p) h ∷ []) place ws) fits))
