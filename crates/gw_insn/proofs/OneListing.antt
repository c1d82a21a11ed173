-- A text is at most one list of instructions, and a listing is refused for want of memory alone.
use Rattle.std.proofs.Common.{ℕ, ◌≡◌, ◌+◌, ◌-◌, ◌<◌, ◌≤◌, eqb, List, [], ◌∷◌, length, refl, subst, sym, ◌∙◌, arith, Vec, Global}
use Rattle.std.proofs.Common.{Result, Ok, Err}
use Rattle.std.specs.Prelude.{All, IfOk, IfErr, MatchResult}
use Rattle.std.proofs.lemmas.Bool.Decides.{nat_tests}
use Rattle.gw_insn.specs.declared.insn.Raw.{Raw}
use Rattle.gw_insn.specs.declared.reading.ListRefusal.{ListRefusal}
use Rattle.gw_insn.specs.declared.reading.ListRefusal.TheVariants.{BadCount, BadField, Trailing, OutOfMemory}
use Rattle.gw_insn.specs.Listing.{IsWhite, HasItem, HasItems, IsListing, LacksItem, HasMore, IsListRefusal}
use Rattle.gw_insn.proofs.Numbers.{field_alone}
use Rattle.gw_insn.proofs.Items.{item_alone}

-- so many items are these
items_alone : (n : ℕ) (code whole : List Raw) {text other front back : List ℕ} → text ≡ other → HasItems n text code front
    → HasItems n other whole back → length code ≡ length whole → (code ≡ whole) × (front ≡ back)
items_alone n [] [] e a b same = (refl, sym a ∙ e ∙ b)
items_alone n [] (s ∷ whole) e a b same = absurd (omega arith)
items_alone n (r ∷ code) [] e a b same = absurd (omega arith)
items_alone n (r ∷ code) (s ∷ whole) {front} {back} e a b same =
    let first : (r ≡ s) × (a.0 ≡ b.0) = item_alone e a.1 b.1 in
    let others : (code ≡ whole) × (front ≡ back) = items_alone (n - 1) code whole first.1 a.2 b.2 (omega arith) in
    (cc, others.1)

-- behind the first items of a list stands its next one
pub next_item : (n : ℕ) (code whole : List Raw) (text other middle back : List ℕ) → text ≡ other → length code < length whole
    → length whole ≤ n → HasItems n text code middle → HasItems n other whole back
    → (r : Raw) × (rest : List ℕ) × HasItem (eqb n (length code + 1)) middle r rest
next_item n [] [] text other middle back e longer within a b = absurd (omega arith)
next_item n [] (s ∷ whole) text other middle back e longer within a b =
    (s, b.0, subst (λ t. HasItem (eqb n 1) t s b.0) (sym e ∙ a) b.1)
next_item n (r ∷ code) [] text other middle back e longer within a b = absurd (omega arith)
next_item n (r ∷ code) (s ∷ whole) text other middle back e longer within a b =
    let first : (r ≡ s) × (a.0 ≡ b.0) = item_alone e a.1 b.1 in
    let next : (q : Raw) × (rest : List ℕ) × HasItem (eqb (n - 1) (length code + 1)) middle q rest =
    next_item (n - 1) code whole a.0 b.0 middle back first.1 (omega arith) (omega arith) a.2 b.2 in
    let same : eqb (n - 1) (length code + 1) ≡ eqb n (length (r ∷ code) + 1) = grind (arith, nat_tests) in
    (next.0, next.1, subst (λ is_last. HasItem is_last middle next.0 next.1) same next.2)

-- a text lists one code
pub listing_alone : {text : List ℕ} {code whole : List Raw} → IsListing text code → IsListing text whole → code ≡ whole
listing_alone {text} {code} {whole} a b =
    let same : (length code ≡ length whole) × (a.body ≡ b.body) = field_alone refl a.count b.count in
    (items_alone (length code) code whole same.1 a.items
    (subst (λ n. HasItems n b.body whole b.after) (sym same.0) b.items) same.0).0

lacks_or_lists : {text : List ℕ} {index : ℕ} {whole : List Raw} → LacksItem text index → IsListing text whole → ⊥
lacks_or_lists {text} {index} {whole} a b =
    let same : (a.n ≡ length whole) × (a.body ≡ b.body) = field_alone refl a.count b.count in
    let next : (r : Raw) × (rest : List ℕ) × HasItem (eqb a.n (length a.code + 1)) a.after r rest =
    next_item a.n a.code whole a.body b.body a.after b.after same.1 (omega (arith, a.before, a.inside, same.0))
    (omega (arith, same.0)) a.items (subst (λ n. HasItems n b.body whole b.after) (sym same.0) b.items) in
    a.absent next.0 next.1 (subst (λ m. HasItem (eqb a.n (m + 1)) a.after next.0 next.1) a.before next.2)

more_or_lists : {text : List ℕ} {whole : List Raw} → HasMore text → IsListing text whole → ⊥
more_or_lists {text} {whole} a b =
    let same : (length a.code ≡ length whole) × (a.body ≡ b.body) = field_alone refl a.count b.count in
    let ends : (a.code ≡ whole) × (a.after ≡ b.after) =
    items_alone (length a.code) a.code whole same.1 a.items
    (subst (λ n. HasItems n b.body whole b.after) (sym same.0) b.items) same.0 in
    a.more (subst (All IsWhite) (sym ends.1) b.blank)

-- which refusal a listing may meet
pub only_memory : {text : List ℕ} {code : List Raw} (refusal : ListRefusal) → IsListRefusal text refusal → IsListing text code
    → refusal ≡ OutOfMemory
only_memory {code} BadCount h listing = absurd (h (length code) listing.body listing.count)
only_memory (BadField index) h listing = absurd (lacks_or_lists h listing)
only_memory Trailing h listing = absurd (more_or_lists h listing)
only_memory OutOfMemory h listing = refl

-- what a reading that tells the truth answers on a listing
pub only_this : {text : List ℕ} {code : List Raw} (answer : Result (Vec Raw Global) ListRefusal)
    → IfOk answer (λ v. IsListing text v.items) → IfErr answer (IsListRefusal text) → IsListing text code
    → MatchResult answer (λ v. v.items ≡ code) (λ e. e ≡ OutOfMemory)
only_this (Ok v) read refused listing = listing_alone read listing
only_this (Err e) read refused listing = only_memory e refused listing
