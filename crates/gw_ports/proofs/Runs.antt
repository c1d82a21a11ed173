-- The threads of a run, one step more.
use Rattle.std.proofs.Common.{◌≡◌, ◌∙◌, ℕ, List, [], ◌∷◌, ◌++◌, Option, Some, sym, ap, subst, refl}
use Rattle.std.proofs.Common.{suc, map, ◌+◌, ◌<◌, ◌≤◌, length, take, get_or, ⊎_elim, arith, append-nil, append_assoc}
use Rattle.std.proofs.Common.{length-append}
use Rattle.std.proofs.lemmas.Bool.{cases_lt}
use Rattle.std.proofs.lemmas.List.{map-append, get_or_append_left, get_or_at, get_or_push, length-map, nil_from_length, take_at}
use Rattle.std.specs.Iterator.{Yields}
use Rattle.std.specs.List.{All}
use Rattle.gw_board.specs.Ends.{Publishing}
use Rattle.gw_board.specs.Refusals.{Refuses}
use Rattle.gw_board.specs.declared.refusals.ReplaceRefusal.{ReplaceRefusal}
use Rattle.gw_policy.specs.Batches.{Pair}
use Rattle.gw_ledger.specs.declared.outcome.Outcome.{Outcome}
use Rattle.gw_ports.specs.Ends.{Ingress}
use Rattle.gw_ports.specs.Offers.{Offered}
use Rattle.gw_ports.specs.Running.{Offers, Pairwise, with_batches}

-- what was heard, newest first, after more frames
abbrev pub heard_after : List (List ℕ) → List (List ℕ) → List (List ℕ)
heard_after heard [] = heard
heard_after heard (octets ∷ frames) = heard_after (octets ∷ heard) frames

pub heard_more : (heard frames : List (List ℕ)) (octets : List ℕ)
    → heard_after heard (frames ++ octets ∷ []) ≡ octets ∷ heard_after heard frames
heard_more heard [] octets = refl
heard_more heard (first ∷ frames) octets = heard_more (first ∷ heard) frames octets

pub offers_more : (heard : List (List ℕ)) (old : Ingress) (frames : List (List ℕ)) (outcomes : List Outcome) (now : Ingress)
    (octets : List ℕ) (outcome : Outcome) (new : Ingress) → Offers heard old frames outcomes now
    → Offered (heard_after heard frames) now octets outcome new
    → Offers heard old (frames ++ octets ∷ []) (outcomes ++ outcome ∷ []) new
offers_more heard old [] [] now octets outcome new same offered =
    (new, subst (λ (a : Ingress). Offered heard a octets outcome new) same offered, refl)
offers_more heard old [] (o ∷ outcomes) now octets outcome new offers offered = absurd offers
offers_more heard old (f ∷ frames) [] now octets outcome new offers offered = absurd offers
offers_more heard old (f ∷ frames) (o ∷ outcomes) now octets outcome new offers offered =
    (offers.0, offers.1, offers_more (f ∷ heard) offers.0 frames outcomes now octets outcome new offers.2 offered)

pub yields_more : {S A : Type 0} (steps : S → Option A → S → Type 0) (s : S) (items : List A) (now : S) (item : A) (new : S)
    → Yields steps s items now → steps now (Some item) new → Yields steps s (items ++ item ∷ []) new
yields_more steps s [] now item new same step =
    (new, subst (λ m. steps m (Some item) new) (sym same) step, refl)
yields_more steps s (first ∷ items) now item new yields step =
    (yields.0, yields.1, yields_more steps yields.0 items now item new yields.2 step)

-- two lists behind two others
pub pairwise_append : {A B : Type 0} (R : A → B → Type 0) (xs xs' : List A) (ys ys' : List B) → Pairwise R xs ys
    → Pairwise R xs' ys' → Pairwise R (xs ++ xs') (ys ++ ys')
pairwise_append R [] xs' [] ys' pairs more = more
pairwise_append R [] xs' (y ∷ ys) ys' pairs more = absurd pairs
pairwise_append R (x ∷ xs) xs' [] ys' pairs more = absurd pairs
pairwise_append R (x ∷ xs) xs' (y ∷ ys) ys' pairs more = (pairs.0, pairwise_append R xs xs' ys ys' pairs.1 more)

-- elements that are related to themselves
pub pairwise_same : {A : Type 0} (R : A → A → Type 0) → ((x : A) → R x x) → (xs : List A) → Pairwise R xs xs
pairwise_same R same [] = tt
pairwise_same R same (x ∷ xs) = (same x, pairwise_same R same xs)

-- one step after another
pub pairwise_on : {A : Type 0} (R : A → A → Type 0) → ((x y z : A) → R x y → R y z → R x z) → (xs ys zs : List A)
    → Pairwise R xs ys → Pairwise R ys zs → Pairwise R xs zs
pairwise_on R on [] [] zs first next = next
pairwise_on R on [] (y ∷ ys) zs first next = absurd first
pairwise_on R on (x ∷ xs) [] zs first next = absurd first
pairwise_on R on (x ∷ xs) (y ∷ ys) [] first next = absurd next
pairwise_on R on (x ∷ xs) (y ∷ ys) (z ∷ zs) first next =
    (on x y z first.0 next.0, pairwise_on R on xs ys zs first.1 next.1)

-- one batch more was published
pub more_batches : (start now new : Publishing) (done : List (List Pair)) (batch : List Pair) → now ≡ with_batches start done
    → new ≡ with_batches now (batch ∷ []) → new ≡ with_batches start (done ++ batch ∷ [])
more_batches start now new done batch same is =
    let with_list : List (List Pair) → Publishing = λ l. record start { published = l } in
    is ∙ ap (λ o. with_batches o (batch ∷ [])) same ∙ ap with_list (append_assoc start.published done (batch ∷ []))

pub numbered_more : (fronts fronts' : List ℕ) (front base : ℕ) → fronts' ≡ fronts ++ front ∷ [] → front ≡ base + length fronts + 1
    → ((k : ℕ) → k < length fronts → get_or fronts k 0 ≡ base + k + 1)
    → (k : ℕ) → k < length fronts' → get_or fronts' k 0 ≡ base + k + 1
numbered_more fronts fronts' front base is next numbered k below =
    let size : length fronts' ≡ length fronts + 1 = ap length is ∙ length-append fronts (front ∷ []) in
    ap (λ l. get_or l k 0) is ∙ ⊎_elim
    (λ (before : k < length fronts). get_or_append_left fronts (front ∷ []) 0 k before ∙ numbered k before)
    (λ (last : length fronts ≤ k).
    let here : k ≡ length fronts = omega arith in
    get_or_push fronts front 0 k (sym here) ∙ next ∙ ap (λ n. base + n + 1) (sym here))
    (cases_lt k (length fronts))

pub refused_next : (old now new : Publishing) (done rest batches : List (List Pair)) (batch : List Pair) (why : ReplaceRefusal)
    (n : ℕ)
    → done ++ batch ∷ rest ≡ batches → n ≡ length done → now ≡ with_batches old done → Refuses now batch why new
    → (n < length batches) × Refuses (with_batches old (take n batches)) (get_or batches n []) why new
refused_next old now new done rest batches batch why n is count same refuses =
    let size = length-append done (batch ∷ rest) in
    let all = ap length is in (
      omega arith,
      subst (λ (o : Publishing). Refuses o (get_or batches n []) why new)
          (same ∙ ap (λ l. with_batches old l) (sym (ap (λ l. take n l) (sym is) ∙ take_at done (batch ∷ rest) n (sym count))))
          (subst (λ (b : List Pair). Refuses now b why new)
          (sym (ap (λ l. get_or l n []) (sym is) ∙ get_or_at done batch rest [] n (sym count))) refuses),
    )

pub pairwise_none : {A B : Type 0} (R : A → B → Type 0) (xs : List A) (ys : List B) → xs ≡ [] → ys ≡ [] → Pairwise R xs ys
pairwise_none R [] [] none none' = tt
pairwise_none R [] (y ∷ ys) none none' = absurd (cc none')
pairwise_none R (x ∷ xs) ys none none' = absurd (cc none)

pub pairwise_push : {A B : Type 0} (R : A → B → Type 0) (xs xs' : List A) (ys ys' : List B) (x : A) (y : B) → xs' ≡ xs ++ x ∷ []
    → ys' ≡ ys ++ y ∷ [] → Pairwise R xs ys → R x y → Pairwise R xs' ys'
pairwise_push {A} {B} R xs xs' ys ys' x y is is' pairs pair =
    subst (λ (l : List A). Pairwise R l ys') (sym is)
    (subst (λ (m : List B). Pairwise R (xs ++ x ∷ []) m) (sym is') (pairwise_append R xs (x ∷ []) ys (y ∷ []) pairs (pair, tt)))

pub pairwise_length : {A B : Type 0} (R : A → B → Type 0) (xs : List A) (ys : List B) → Pairwise R xs ys → length ys ≡ length xs
pairwise_length R [] [] pairs = refl
pairwise_length R [] (y ∷ ys) pairs = absurd pairs
pairwise_length R (x ∷ xs) [] pairs = absurd pairs
pairwise_length R (x ∷ xs) (y ∷ ys) pairs = ap suc (pairwise_length R xs ys pairs.1)

-- what holds of all holds of the last, and of those before it
pub all_last : {A : Type 0} (P : A → Type 0) (xs xs' : List A) (x : A) → xs' ≡ xs ++ x ∷ [] → All P xs' → All P xs × P x
all_last P xs xs' x is all =
    let size = ap length is ∙ length-append xs (x ∷ []) in (
      (λ k d below.
          subst P (ap (λ l. get_or l k d) is ∙ get_or_append_left xs (x ∷ []) d k below) (all k d (omega arith))),
      subst P (ap (λ l. get_or l (length xs) x) is ∙ get_or_push xs x x (length xs) refl) (all (length xs) x (omega arith)),
    )

-- one element more of a list, of which another list is made

pub list_push : {A B : Type 0} (f : A → B) (xs xs' : List A) (x : A) (rest rest' all : List B) → xs' ≡ xs ++ x ∷ []
    → rest ≡ f x ∷ rest' → map f xs ++ rest ≡ all → map f xs' ++ rest' ≡ all
list_push {A} {B} f xs xs' x rest rest' all is next so_far =
    ap (λ (l : List A). map f l ++ rest') is ∙ ap (λ (l : List B). l ++ rest') (map-append f xs (x ∷ []))
    ∙ append_assoc (map f xs) (f x ∷ []) rest' ∙ ap (λ (r : List B). map f xs ++ r) (sym next) ∙ so_far

pub each_push : {A : Type 0} (Q : ℕ → A → Type 0) (xs xs' : List A) (x : A) → xs' ≡ xs ++ x ∷ []
    → ((k : ℕ) (d : A) → k < length xs → Q k (get_or xs k d)) → Q (length xs) x
    → (k : ℕ) (d : A) → k < length xs' → Q k (get_or xs' k d)
each_push {A} Q xs xs' x is each here k d below =
    let size = ap length is ∙ length-append xs (x ∷ []) in
    ⊎_elim
    (λ (before : k < length xs).
    subst (Q k) (sym (ap (λ (l : List A). get_or l k d) is ∙ get_or_append_left xs (x ∷ []) d k before)) (each k d before))
    (λ (last : length xs ≤ k).
    let at : length xs ≡ k = omega arith in
    subst (Q k) (sym (ap (λ (l : List A). get_or l k d) is ∙ get_or_push xs x d k at)) (subst (λ n. Q n x) at here))
    (cases_lt k (length xs))

pub all_push : {A : Type 0} (P : A → Type 0) (xs xs' : List A) (x : A) → xs' ≡ xs ++ x ∷ [] → All P xs → P x → All P xs'
all_push P xs xs' x is all here = each_push (λ k. P) xs xs' x is all here

-- ---- a list that is made of another one, at its end

pub list_made : {A B : Type 0} (f : A → B) (xs : List A) (rest all : List B) → rest ≡ [] → map f xs ++ rest ≡ all → map f xs ≡ all
list_made {A} {B} f xs rest all none made =
    sym (append-nil (map f xs)) ∙ ap (λ (l : List B). map f xs ++ l) (sym none) ∙ made

-- a second one, which has as many elements
pub other_made : {A B C : Type 0} (f : A → B) (g : A → C) (xs : List A) (rest all : List B) (rest' all' : List C) → rest ≡ []
    → map f xs ++ rest ≡ all → map g xs ++ rest' ≡ all' → length all' ≡ length all → map g xs ≡ all'
other_made f g xs rest all rest' all' none made made' many =
    let first = ap length made in
    let second = ap length made' in
    let parts = length-append (map f xs) rest in
    let parts' = length-append (map g xs) rest' in
    let size = length-map xs f in
    let size' = length-map xs g in
    let ended = ap length none in
    list_made g xs rest' all' (nil_from_length rest' (omega arith)) made'

-- what holds of all holds of the first, and of those behind it
pub all_tail : {A : Type 0} (P : A → Type 0) (x : A) (xs : List A) → All P (x ∷ xs) → P x × All P xs
all_tail P x xs all = (all 0 x (omega arith), λ k d below. all (suc k) d (omega arith))
