-- Where comments end.
use Rattle.std.proofs.Common.{◌≡◌, ℕ, suc, zero, ◌+◌, ◌-◌, ◌<◌, ◌≤◌, Bool, true, false, ◌&&◌, ◌||◌, ◌==◌, nat_lt}
use Rattle.std.proofs.Common.{if◌then◌else◌, List, [], ◌∷◌, length, drop, refl, sym, ap, ◌∙◌, arith, get_or, subst, ⊎_elim}
use Rattle.std.proofs.Common.{◌++◌, append_assoc}
use Rattle.std.proofs.lemmas.Bool.{cases_lt, false≢true}
use Rattle.std.proofs.lemmas.Bool.Decides.{nat_tests}
use Rattle.std.proofs.lemmas.List.{drop_more, drop-drop, drop_all}
use Rattle.gw_text.specs.declared.comments.LexState.{LexState}
use Rattle.gw_text.specs.declared.comments.LexState.TheVariants.{Text, Opening}
use Rattle.gw_text.specs.AssemblerTokens.{has_end, is_next, next_state, shown, without_comments}

-- a `/*` that is closed begins a comment, and no other does
pub opens : (text : List ℕ) (c at closed : ℕ) → ((i : ℕ) → has_end (drop i text) ≡ nat_lt i closed) → (c == 59) ≡ false
    → (c == 47) ≡ true
    → is_next 42 (drop at text) ≡ true → (b : Bool) → nat_lt (at + 1) closed ≡ b → next_state Text c (drop at text)
    ≡ (if b then Opening else Text)
opens text c at closed ends semicolon slash star b lt =
    let behind : has_end (drop 1 (drop at text)) ≡ b = ap has_end (drop-drop 1 at text) ∙ ends (at + 1) ∙ lt in
    rw (semicolon, slash, star, behind)

-- an end that is behind an index is behind each earlier one
step : (text : List ℕ) (k : ℕ) → has_end (drop (k + 1) text) ≡ true → has_end (drop k text) ≡ true
step text k h = ⊎_elim
    (λ lt. let cut : drop k text ≡ get_or text k 0 ∷ drop (k + 1) text = drop_more text k 0 lt in
    rw (cut, h) (grind (arith, nat_tests)))
    (λ past. absurd (false≢true (sym (ap has_end (drop_all (k + 1) text (omega arith))) ∙ h)))
    (cases_lt k (length text))

earlier : (text : List ℕ) (i j : ℕ) → has_end (drop (i + j) text) ≡ true → has_end (drop i text) ≡ true
earlier text i zero h = subst (λ k. has_end (drop k text) ≡ true) (omega arith) h
earlier text i (suc j) h = earlier text i j (step text (i + j) (subst (λ k. has_end (drop k text) ≡ true) (omega arith) h))

no_true : (b : Bool) → (b ≡ true → ⊥) → b ≡ false
no_true true h = absurd (h refl)
no_true false h = refl

lt_true : (i n : ℕ) → i < n → nat_lt i n ≡ true
lt_true i n h = grind (arith, nat_tests)

lt_false : (i n : ℕ) → n ≤ i → nat_lt i n ≡ false
lt_false i n h = grind (arith, nat_tests)

-- the last end
pub last : (text : List ℕ) (end : ℕ) → has_end (drop end text) ≡ false → (0 < end → has_end (drop (end - 1) text) ≡ true)
    → (i : ℕ) → has_end (drop i text) ≡ nat_lt i end
last text end none some i = ⊎_elim
    (λ lt. earlier text i (end - 1 - i) (subst (λ k. has_end (drop k text) ≡ true) (omega arith) (some (omega arith)))
    ∙ sym (lt_true i end lt))
    (λ past. no_true (has_end (drop i text))
    (λ h. false≢true (sym none ∙ earlier text end (i - end) (subst (λ k. has_end (drop k text) ≡ true) (omega arith) h)))
    ∙ sym (lt_false i end past))
    (cases_lt i end)

-- one character earlier
pub one_earlier : (text : List ℕ) (end : ℕ) → 0 < end → end ≤ length text
    → has_end (drop (end - 1) text)
    ≡ ((is_next 42 (drop (end - 1) text) && is_next 47 (drop (end - 1 + 1) text)) || has_end (drop end text))
one_earlier text end some le =
    let back : end - 1 + 1 ≡ end = omega arith in
    let cut : drop (end - 1) text ≡ get_or text (end - 1) 0 ∷ drop (end - 1 + 1) text =
    drop_more text (end - 1) 0 (omega arith) in
    rw cut (rw back refl)

-- no `*/` begins there, and none behind it
pub none_earlier : (text : List ℕ) (end : ℕ) (b : Bool) → 0 < end → end ≤ length text
    → b ≡ (is_next 42 (drop (end - 1) text) && is_next 47 (drop (end - 1 + 1) text))
    → b ≡ false → has_end (drop end text) ≡ false → has_end (drop (end - 1) text) ≡ false
none_earlier text end b some le is off none = one_earlier text end some le ∙ rw (← is, off, none)

-- `*/` begins there
pub some_earlier : (text : List ℕ) (end : ℕ) (b : Bool) → 0 < end → end ≤ length text
    → b ≡ (is_next 42 (drop (end - 1) text) && is_next 47 (drop (end - 1 + 1) text))
    → b ≡ true → has_end (drop (end - 1) text) ≡ true
some_earlier text end b some le is on = one_earlier text end some le ∙ rw (← is, on)

-- none begins at the end of the text
pub none_at_end : (text : List ℕ) → has_end (drop (length text) text) ≡ false
none_at_end text = ap has_end (drop_all (length text) text (omega arith))

-- one character more
pub one_shown : (text shown_so_far : List ℕ) (state next : LexState) (at c : ℕ) (whole : List ℕ) → at < length text
    → c ≡ get_or text at 0
    → next ≡ next_state state c (drop (at + 1) text)
    → shown_so_far ++ without_comments state (drop at text) ≡ whole
    → (shown_so_far ++ shown state next c ∷ []) ++ without_comments next (drop (at + 1) text) ≡ whole
one_shown text so state next at c whole lt is goes h =
    let cut : drop at text ≡ get_or text at 0 ∷ drop (at + 1) text = drop_more text at 0 lt in
    append_assoc so (shown state next c ∷ []) (without_comments next (drop (at + 1) text))
    ∙ sym (ap (λ cs. so ++ without_comments state cs) cut ∙ rw (← is, ← goes) refl) ∙ h
