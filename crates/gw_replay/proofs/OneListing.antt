-- A text that is no listing meets one refusal.
use Rattle.std.proofs.Common.{ℕ, ◌≡◌, ◌≢◌, ◌+◌, ◌≤◌, eqb, List, length, refl, subst, sym, ap, arith, inl, inr}
use Rattle.std.proofs.lemmas.Bool.{cases_lt}
use Rattle.gw_insn.specs.declared.insn.Raw.{Raw}
use Rattle.gw_insn.specs.declared.reading.ListRefusal.{ListRefusal}
use Rattle.gw_insn.specs.declared.reading.ListRefusal.TheVariants.{BadCount, BadField, Trailing, OutOfMemory}
use Rattle.gw_insn.specs.Listing.{HasItem, HasItems, HasCount, LacksItem, HasMore, IsListRefusal}
use Rattle.gw_insn.proofs.Callers.{field_alone, next_item}

-- a text that lacks an item has no list of items that goes on behind it
no_longer : {text : List ℕ} {index : ℕ} → LacksItem text index → (n : ℕ) (body : List ℕ) (whole : List Raw) (back : List ℕ)
    → HasCount text n body → HasItems n body whole back → length whole ≤ n → length whole ≤ index
no_longer {text} {index} a n body whole back count items within =
    let same : (a.n ≡ n) × (a.body ≡ body) = field_alone refl a.count count in
    elim (cases_lt index (length whole)) [
      | inl longer ↦
          let next : (r : Raw) × (rest : List ℕ) × HasItem (eqb a.n (length a.code + 1)) a.after r rest =
          next_item a.n a.code whole a.body body a.after back same.1 (omega (arith, a.before)) (omega (arith, same.0)) a.items
          (subst (λ m. HasItems m body whole back) (sym same.0) items) in
          absurd
          (a.absent next.0 next.1 (subst (λ m. HasItem (eqb a.n (m + 1)) a.after next.0 next.1) a.before next.2))
      | inr le ↦ le
    ]

-- a text does not both lack an item and go on behind its last
lacks_or_more : {text : List ℕ} {index : ℕ} → LacksItem text index → HasMore text → ⊥
lacks_or_more {text} {index} a b =
    let same : (a.n ≡ length b.code) × (a.body ≡ b.body) = field_alone refl a.count b.count in
    let le : length b.code ≤ index = no_longer a (length b.code) b.body b.code b.after b.count b.items (omega arith) in
    omega (arith, a.inside, same.0)

-- a text lacks one item first
lacks_one : {text : List ℕ} {i j : ℕ} → LacksItem text i → LacksItem text j → i ≡ j
lacks_one {text} {i} {j} a b =
    let le : length b.code ≤ i =
    no_longer a b.n b.body b.code b.after b.count b.items (omega (arith, b.before, b.inside)) in
    let ge : length a.code ≤ j =
    no_longer b a.n a.body a.code a.after a.count a.items (omega (arith, a.before, a.inside)) in
    omega (arith, a.before, b.before)

-- a text that is no listing meets one refusal
pub list_refusal_alone : (text : List ℕ) (why other : ListRefusal) → IsListRefusal text why → IsListRefusal text other
    → why ≢ OutOfMemory → other ≢ OutOfMemory → why ≡ other
list_refusal_alone text OutOfMemory other h k known told = absurd (known refl)
list_refusal_alone text why OutOfMemory h k known told = absurd (told refl)
list_refusal_alone text BadCount BadCount h k known told = refl
list_refusal_alone text BadCount (BadField j) h k known told = absurd (h k.n k.body k.count)
list_refusal_alone text BadCount Trailing h k known told = absurd (h (length k.code) k.body k.count)
list_refusal_alone text (BadField i) BadCount h k known told = absurd (k h.n h.body h.count)
list_refusal_alone text (BadField i) (BadField j) h k known told = ap (λ n. BadField n) (lacks_one h k)
list_refusal_alone text (BadField i) Trailing h k known told = absurd (lacks_or_more h k)
list_refusal_alone text Trailing BadCount h k known told = absurd (k (length h.code) h.body h.count)
list_refusal_alone text Trailing (BadField j) h k known told = absurd (lacks_or_more k h)
list_refusal_alone text Trailing Trailing h k known told = refl
