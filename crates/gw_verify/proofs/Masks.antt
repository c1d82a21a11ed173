-- The masks of the pass over the code: a word's bit in the mask of a place says that the place is bare of it.
use Rattle.std.proofs.Common.{◌≡◌, ℕ, zero, suc, ◌+◌, ◌<◌, ◌≤◌, ◌⊎◌, ◌↔◌, inl, inr, List, length, get_or, set, max, replicate}
use Rattle.std.proofs.Common.{Some, None, refl, sym, ap, ◌∙◌, subst, arith, get_or-set_other, get_or-set_same, length-set}
use Rattle.std.specs.Prelude.{slice_get, slice_index, bit_or}
use Rattle.std.specs.Int.{bit_at}
use Rattle.std.proofs.lemmas.Nat.Bits.{bit_at_or, bit_at-lt, bit_at_ones, bit_at-zero}
use Rattle.std.proofs.lemmas.Bool.{cases_eq}
use Rattle.gw_insn.specs.Form.{Load, LoadIndexed, LoadLength, LoadConstant, LoadScratch, Store, LoadNibble, Alu, Negate, Jump}
use Rattle.gw_insn.specs.Form.{Branch, ReturnConstant, ReturnA, Tax, Txa, Form}
use Rattle.gw_verify.specs.Accepted.{At}
use Rattle.gw_verify.specs.Flow.{Forms, HasAt, LeadsTo, Loads, IsBare}
use Rattle.gw_verify.specs.Next.{next_of, at_next}
use Rattle.gw_verify.specs.Orderly.{IsOrderly, NamesWord, StaysBelow}
use Rattle.gw_verify.proofs.FlowLaws.{leads_below}
use Rattle.gw_verify.specs.UnsetLoad.{marked, IsLeft, IsUnsetLoad, NoUnsetLoadBelow}
use Rattle.gw_verify.proofs.Bare.{Reached, at_start, from, reached_more, reached_cases, bare_from_reached, reached_from_bare}
use Rattle.gw_verify.proofs.Bare.{step, step_leads, step_unset, no_step}
use Rattle.gw_verify.proofs.Decoding.{one_form, no_form}

-- the word's bit in the mask of place j is set
abbrev IsMarked : List ℕ → ℕ → ℕ → Type 0
IsMarked marks j word = bit_at (slice_index marks j) word ≡ 1

-- the masks after the places below n
abbrev pub AreMarks : Forms → ℕ → List ℕ → Type 0
AreMarks forms n marks = (j word : ℕ) → word < 16 → IsMarked marks j word ↔ Reached forms word n j

either : (a b : ℕ) → a < 2 → b < 2 → max a b ≡ 1 → (a ≡ 1) ⊎ (b ≡ 1)
either a b p q h = grind arith

at_most_one : (a b : ℕ) → a < 2 → b < 2 → (a ≡ 1) ⊎ (b ≡ 1) → max a b ≡ 1
at_most_one a b p q h = grind arith

-- the union of two masks has the words of both
bit_of_union : (a b word : ℕ) → (bit_at (bit_or a b) word ≡ 1) ↔ ((bit_at a word ≡ 1) ⊎ (bit_at b word ≡ 1))
bit_of_union a b word = (
  λ h. either _ _ (bit_at-lt a word) (bit_at-lt b word) (sym (bit_at_or a b word) ∙ h),
  λ h. bit_at_or a b word ∙ at_most_one _ _ (bit_at-lt a word) (bit_at-lt b word) h,
)

-- one place marked
IsMarked-marked : (marks : List ℕ) (mask i : ℕ) → i < length marks → (j word : ℕ)
    → IsMarked (marked mask i marks) j word ↔ (IsMarked marks j word ⊎ (bit_at mask word ≡ 1) × (j ≡ i))
IsMarked-marked marks mask i within j word = elim (cases_eq j i) [
  | inl e ↦
      let mine = get_or marks j 0 in
      let new : get_or (marked mask i marks) j 0 ≡ bit_or mine mask = rw e (rw get_or-set_same) in
      let union = bit_of_union mine mask word in (
        λ h. elim (union.0 (ap (λ n. bit_at n word) (sym new) ∙ h)) [ inl a ↦ inl a | inr b ↦ inr (b, e) ],
        λ h. ap (λ n. bit_at n word) new ∙ union.1 (elim h [ inl a ↦ inl a | inr b ↦ inr b.0 ]),
      )
  | inr ne ↦
      let same : get_or (marked mask i marks) j 0 ≡ get_or marks j 0 = rw get_or-set_other in (
        λ h. inl (ap (λ n. bit_at n word) (sym same) ∙ h),
        λ h. elim h [ inl a ↦ ap (λ n. bit_at n word) same ∙ a | inr b ↦ absurd (ne b.1) ],
      )
]

-- the new masks are the old ones, with the mask's words at each place that the instruction leads to
abbrev Carries : Form → ℕ → ℕ → List ℕ → List ℕ → Type 0
Carries insn i mask old new =
    (j word : ℕ) → IsMarked new j word ↔ (IsMarked old j word ⊎ (bit_at mask word ≡ 1) × LeadsTo insn i j)

carries : (insn : Form) (i mask : ℕ) (marks : List ℕ) → StaysBelow (length marks) i insn
    → Carries insn i mask marks (at_next (marked mask) i (next_of insn) marks)
carries insn i mask marks stays j word = go insn stays
  where
    none : IsMarked marks j word ↔ (IsMarked marks j word ⊎ (bit_at mask word ≡ 1) × ⊥)
    none = (λ h. inl h, λ h. elim h [ inl a ↦ a | inr b ↦ absurd b.1 ])

    two : (to other : ℕ) → to < length marks → other < length marks
        → IsMarked (marked mask other (marked mask to marks)) j word
        ↔ (IsMarked marks j word ⊎ (bit_at mask word ≡ 1) × ((j ≡ to) ⊎ (j ≡ other)))
    two to other l m =
        let m' : other < length (marked mask to marks) = simp length-set m in
        let first = IsMarked-marked marks mask to l j word in
        let second = IsMarked-marked (marked mask to marks) mask other m' j word in (
          λ h. elim (second.0 h) [
            | inl a ↦ elim (first.0 a) [ inl b ↦ inl b | inr b ↦ inr (b.0, inl b.1) ]
            | inr b ↦ inr (b.0, inr b.1)
          ],
          λ h. second.1 (elim h [
            | inl a ↦ inl (first.1 (inl a))
            | inr b ↦ elim b.1 [ inl e ↦ inl (first.1 (inr (b.0, e))) | inr e ↦ inr (b.0, e) ]
          ]),
        )

    go : (insn : Form) → StaysBelow (length marks) i insn
        → IsMarked (at_next (marked mask) i (next_of insn) marks) j word
        ↔ (IsMarked marks j word ⊎ (bit_at mask word ≡ 1) × LeadsTo insn i j)
    go (ReturnConstant k) s = none
    go ReturnA s = none
    go (Jump k) s = IsMarked-marked marks mask (i + 1 + k) s j word
    go (Branch c o jt jf) s = two (i + 1 + jt) (i + 1 + jf) s.0 s.1
    go _ s = IsMarked-marked marks mask (i + 1) s j word

-- an instruction that stays within the code stays below its greatest length
pub stays_short : (n i : ℕ) (insn : Form) → n ≤ 4096 → StaysBelow n i insn → StaysBelow 4096 i insn
stays_short n i (ReturnConstant k) h s = tt
stays_short n i ReturnA h s = tt
stays_short n i (Jump k) h s = omega arith
stays_short n i (Branch c o jt jf) h s = (omega (arith, s.0), omega (arith, s.1))
stays_short n i (Load w k) h s = omega arith
stays_short n i (LoadIndexed w k) h s = omega arith
stays_short n i (LoadLength r) h s = omega arith
stays_short n i (LoadConstant r k) h s = omega arith
stays_short n i (LoadScratch r k) h s = omega arith
stays_short n i (Store r k) h s = omega arith
stays_short n i (LoadNibble k) h s = omega arith
stays_short n i (Alu a b) h s = omega arith
stays_short n i Negate h s = omega arith
stays_short n i Tax h s = omega arith
stays_short n i Txa h s = omega arith

words_fit : (insn : Form) (word : ℕ) → NamesWord insn → Loads insn word → word < 16
words_fit (LoadScratch r k) word n l = omega arith
words_fit _ word n l = absurd l

-- past the end too
get_or-replicate_zero : (n j : ℕ) → get_or {A = ℕ} (replicate n 0) j 0 ≡ 0
get_or-replicate_zero zero j = refl
get_or-replicate_zero (suc n) zero = refl
get_or-replicate_zero (suc n) (suc j) = get_or-replicate_zero n j

-- before the first place is passed, only it is marked
pub marks_start : (forms : Forms) (n : ℕ) → AreMarks forms 0 (set (replicate (suc n) 0) 0 65535)
marks_start forms n zero word small = (λ m. at_start refl, λ r. bit_at_ones 16 word small)
marks_start forms n (suc j) word small = (λ m. absurd (unmarked m), λ r. absurd (unreached r))
  where
    unmarked : IsMarked (set (replicate (suc n) 0) 0 65535) (suc j) word → ⊥
    unmarked m =
        let no_mask : get_or {A = ℕ} (replicate n 0) j 0 ≡ 0 = get_or-replicate_zero n j in
        let is_one : bit_at 0 word ≡ 1 = ap (λ x. bit_at x word) (sym no_mask) ∙ m in
        omega (arith, bit_at-zero word, is_one)

    unreached : Reached forms word 0 (suc j) → ⊥
    unreached (at_start e) = omega arith
    unreached (from i l b p) = omega arith

module _ (forms : Forms) (i : ℕ) (unknown : slice_get forms i ≡ Some None) where
  -- a place whose code is unknown leads nowhere
  pub marks_skip : (marks : List ℕ) → AreMarks forms i marks → AreMarks forms (i + 1) marks
  marks_skip marks before j word small = (
    λ m. reached_more forms word i (i + 1) j (omega arith) ((before j word small).0 m),
    λ r. (before j word small).1 (elim (reached_cases forms word i j r) [
      | inl earlier ↦ earlier
      | inr last ↦ absurd (no_step forms word i j unknown last.1)
    ]),
  )

  -- and loads nothing
  pub unset_skip : NoUnsetLoadBelow forms i → NoUnsetLoadBelow forms (i + 1)
  unset_skip earlier word k l bad = elim (cases_eq k i) [
    | inl e ↦
        let here = subst (λ n. HasAt forms n bad.load.insn) e bad.load.here in
        absurd (no_form forms i bad.load.insn unknown here)
    | inr ne ↦ earlier word k (omega arith) bad
  ]

module _ (forms : Forms) (orderly : IsOrderly forms) (i : ℕ) (insn : Form) (here : HasAt forms i insn)
    (marks : List ℕ) (before : AreMarks forms i marks) where
  -- the mask of place i, which is passed next, tells of what it is bare
  bare_here : (word : ℕ) → word < 16 → IsMarked marks i word ↔ IsBare forms i word
  bare_here word small = (
    λ m. bare_from_reached forms word i i orderly.some ((before i word small).0 m),
    λ b. (before i word small).1 (reached_from_bare forms word i b),
  )

  -- the marks after it
  pub marks_more : (mask : ℕ) → length marks ≡ 4096 → IsLeft insn (get_or marks i 0) mask
      → AreMarks forms (i + 1) (at_next (marked mask) i (next_of insn) marks)
  marks_more mask long left j word small = (to, back)
    where
      marks_are : IsMarked (at_next (marked mask) i (next_of insn) marks) j word
          ↔ (IsMarked marks j word ⊎ (bit_at mask word ≡ 1) × LeadsTo insn i j)
      marks_are =
          let stays = stays_short (length forms) i insn orderly.short (orderly.stays i insn here) in
          carries insn i mask marks (rw long stays) j word

      to : IsMarked (at_next (marked mask) i (next_of insn) marks) j word → Reached forms word (i + 1) j
      to m = elim (marks_are.0 m) [
        | inl m' ↦ reached_more forms word i (i + 1) j (omega arith) ((before j word small).0 m')
        | inr p ↦
            let is_left = (left word small).0 p.0 in
            let inside = leads_below insn (length forms) i j (orderly.stays i insn here) p.1 in
            let passes = step forms word i j insn here p.1 inside is_left.1 in
            from i (omega arith) ((bare_here word small).0 is_left.0) passes
      ]

      back : Reached forms word (i + 1) j → IsMarked (at_next (marked mask) i (next_of insn) marks) j word
      back r = marks_are.1 (elim (reached_cases forms word i j r) [
        | inl earlier ↦ inl ((before j word small).1 earlier)
        | inr last ↦
            let unset = step_unset forms word i j insn here last.1 in
            let is_left = (left word small).1 ((bare_here word small).1 last.0, unset) in
            inr (is_left, step_leads forms word i j insn here last.1)
      ])

  -- a load of a marked word is a fault
  pub unset_found : (word : ℕ) → Loads insn word → IsMarked marks i word → IsUnsetLoad forms word i
  unset_found word loads m =
      let small = words_fit insn word (orderly.words i insn here) loads in record {
        load = record { insn = insn; here = here; holds = loads };
        bare = (bare_here word small).0 m;
      }

  -- one place more without such a load
  pub unset_more : ((word : ℕ) → Loads insn word → IsMarked marks i word → ⊥) → NoUnsetLoadBelow forms i
      → NoUnsetLoadBelow forms (i + 1)
  unset_more none earlier word k l bad = elim (cases_eq k i) [
    | inl e ↦
        let load = subst (λ n. At forms n (λ x. Loads x word)) e bad.load in
        let bare = subst (λ n. IsBare forms n word) e bad.bare in
        let same = one_form forms i load.insn insn load.here here in
        let loads = subst (λ x. Loads x word) same load.holds in
        let small = words_fit insn word (orderly.words i insn here) loads in
        absurd (none word loads ((bare_here word small).1 bare))
    | inr ne ↦ earlier word k (omega arith) bad
  ]
