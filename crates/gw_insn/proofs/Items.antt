-- What stands at the front of a text is determined: an instruction, an item, items.
use Rattle.std.proofs.Common.{ℕ, ◌≡◌, ◌+◌, ◌-◌, ◌<◌, Bool, false, eqb, List, [], ◌∷◌, ◌++◌, length, refl, subst, sym, ◌∙◌, arith}
use Rattle.std.proofs.Common.{⊎_elim, inl, inr}
use Rattle.std.proofs.lemmas.Bool.{false≢true}
use Rattle.std.proofs.lemmas.Bool.Decides.{nat_tests}
use Rattle.gw_insn.specs.declared.insn.Raw.{Raw}
use Rattle.gw_insn.specs.Table.{fields}
use Rattle.gw_insn.specs.Listing.{comma, space, StartsWithComma, HasNumber, HasInstruction, HasComma, HasItem, HasItems}
use Rattle.gw_insn.proofs.Numbers.{number_alone, field_alone}

-- a field that is missing behind what was read
abbrev Lacks : ℕ → List ℕ → Type 0
Lacks most text = (n : ℕ) (after : List ℕ) → HasNumber most text n (space ∷ after) → ⊥

-- Each field begins where the one before ends, so a text that lacks one there has no instruction: jt, jf and k.
pub lacks_jt : {text rest : List ℕ} {code : ℕ} → HasNumber 65535 text code (space ∷ rest) → Lacks 255 rest
    → (r : Raw) (after : List ℕ) → HasInstruction text r after → ⊥
lacks_jt code none r after h =
    none r.jt h.after_jt (subst (λ t. HasNumber 255 t r.jt (space ∷ h.after_jt)) (sym (field_alone refl code h.code).1) h.jt)

pub lacks_jf : {text middle rest : List ℕ} {code jt : ℕ} → HasNumber 65535 text code (space ∷ middle)
    → HasNumber 255 middle jt (space ∷ rest) → Lacks 255 rest → (r : Raw) (after : List ℕ) → HasInstruction text r after → ⊥
lacks_jf code jt none r after h =
    let same_code = field_alone refl code h.code in
    none r.jf h.after_jf (subst (λ t. HasNumber 255 t r.jf (space ∷ h.after_jf)) (sym (field_alone same_code.1 jt h.jt).1) h.jf)

pub lacks_k : {text middle third rest : List ℕ} {code jt jf : ℕ} → HasNumber 65535 text code (space ∷ middle)
    → HasNumber 255 middle jt (space ∷ third) → HasNumber 255 third jf (space ∷ rest)
    → ((n : ℕ) (after : List ℕ) → HasNumber 4294967295 rest n after → ⊥) → (r : Raw) (after : List ℕ)
    → HasInstruction text r after → ⊥
lacks_k code jt jf none r after h =
    let same_code = field_alone refl code h.code in
    let same_jt = field_alone same_code.1 jt h.jt in
    none r.k after (subst (λ t. HasNumber 4294967295 t r.k after) (sym (field_alone same_jt.1 jf h.jf).1) h.k)

-- a text begins with one instruction
pub instruction_alone : {text other front back : List ℕ} {r s : Raw} → text ≡ other → HasInstruction text r front
    → HasInstruction other s back → (r ≡ s) × (front ≡ back)
instruction_alone {text} {other} {front} {back} {r} {s} e a b =
    let code : (r.code ≡ s.code) × (a.after_code ≡ b.after_code) = field_alone e a.code b.code in
    let jt : (r.jt ≡ s.jt) × (a.after_jt ≡ b.after_jt) = field_alone code.1 a.jt b.jt in
    let jf : (r.jf ≡ s.jf) × (a.after_jf ≡ b.after_jf) = field_alone jt.1 a.jf b.jf in
    let k : (r.k ≡ s.k) × (front ≡ back) = number_alone jf.1 a.k b.k in
    let same : fields r.code r.jt r.jf r.k ≡ fields s.code s.jt s.jf s.k = cc in
    (same, k.1)

-- whether there is a comma decides where an item ends
comma_alone : (is_last : Bool) {text other front back : List ℕ} → text ≡ other → HasComma is_last text front
    → HasComma is_last other back → front ≡ back
comma_alone is_last {text} {other} {front} {back} e (inl a) (inl b) = let both : comma ∷ front ≡ comma ∷ back = sym a ∙ e
    ∙ b in cc
comma_alone is_last e (inl a) (inr b) = absurd (b.2 (subst StartsWithComma (sym a ∙ e) refl))
comma_alone is_last e (inr a) (inl b) = absurd (a.2 (subst StartsWithComma (sym b ∙ sym e) refl))
comma_alone is_last e (inr a) (inr b) = sym a.1 ∙ e ∙ b.1

-- a text begins with one item
pub item_alone : {is_last : Bool} {text other front back : List ℕ} {r s : Raw} → text ≡ other → HasItem is_last text r front
    → HasItem is_last other s back → (r ≡ s) × (front ≡ back)
item_alone {is_last} e a b =
    let same = instruction_alone e a.instruction b.instruction in
    (same.0, comma_alone is_last same.1 a.closed b.closed)

-- an instruction that is not the last is no item without its comma
pub lacks_comma : {is_last : Bool} {text rest : List ℕ} {s : Raw} → is_last ≡ false → HasInstruction text s rest
    → ((after : List ℕ) → rest ≡ comma ∷ after → ⊥) → (r : Raw) (after : List ℕ) → HasItem is_last text r after → ⊥
lacks_comma not_last found none r after h =
    ⊎_elim
    (λ closed. none after ((instruction_alone refl found h.instruction).1 ∙ closed))
    (λ open'. false≢true (sym not_last ∙ open'.0))
    h.closed

-- one item more at the end
pub items_more : (n : ℕ) (text : List ℕ) (code : List Raw) (middle rest : List ℕ) (r : Raw) → length code < n
    → HasItems n text code middle → HasItem (eqb n (length code + 1)) middle r rest → HasItems n text (code ++ r ∷ []) rest
items_more n text [] middle rest r inside e item = (rest, subst (λ t. HasItem (eqb n 1) t r rest) (sym e) item, refl)
items_more n text (s ∷ code) middle rest r inside h item =
    let same : eqb n (length (s ∷ code) + 1) ≡ eqb (n - 1) (length code + 1) = grind (arith, nat_tests) in
    (h.0, h.1, items_more (n - 1) h.0 code middle rest r (omega arith) h.2 (subst (λ b. HasItem b middle r rest) same item))
