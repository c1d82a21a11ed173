-- A batch's pairs behind the options that hold them, each of which is there.
use Rattle.std.proofs.Common.{◌≡◌, ℕ, zero, suc, Bool, ◌==◌, ◌||◌, true, false, List, [], ◌∷◌, ◌++◌, length, Option, Some, None}
use Rattle.std.proofs.Common.{refl, ap, sym, ◌∙◌, append_assoc}
use Rattle.std.proofs.lemmas.Bool.{false≢true}
use Rattle.std.proofs.lemmas.Option.{slice_get_past, slice_get_read}
use Rattle.std.specs.Prelude.{is_some, option_map, slice_get}
use Rattle.std.proofs.lemmas.List.{append-nil}
use Rattle.std.proofs.lemmas.List.Elements.{filter_map-append}
use Rattle.std.specs.List.{AllZip, ItemBy, cons_option, list_all, list_any}
use Rattle.std.specs.Option.{option_and_then, option_map_or}
use Rattle.std.specs.declared.sync.Arc.{Arc}
use Rattle.std.specs.declared.alloc.Global.{Global}
use Rattle.gw_policy.specs.Filter.{Filter}
use Rattle.gw_policy.specs.Batches.{Pair, pair_of, pairs_of, names_port}

abbrev pub Held : Type 0
Held = Option (ℕ × Arc Filter Global)

pub pairs_get : (items : List Held) → list_all is_some items ≡ true → (i : ℕ) → slice_get (pairs_of items) i
    ≡ option_and_then pair_of (slice_get items i)
pairs_get [] there i = refl
pairs_get (None ∷ items) there i = absurd (false≢true there)
pairs_get (Some p ∷ items) there zero = refl
pairs_get (Some p ∷ items) there (suc i) = pairs_get items there i

pub pairs_length : (items : List Held) → list_all is_some items ≡ true → length (pairs_of items) ≡ length items
pairs_length [] there = refl
pairs_length (None ∷ items) there = absurd (false≢true there)
pairs_length (Some p ∷ items) there = ap suc (pairs_length items there)

abbrev pub is_for : ℕ → Held → Bool
is_for port held = option_map_or (λ p. p.0 == port) held false

pub names_any : (port : ℕ) (items : List Held) → list_any (is_for port) items ≡ names_port port (pairs_of items)
names_any port [] = refl
names_any port (None ∷ items) = names_any port items
names_any port (Some p ∷ items) = ap (λ rest. (p.0 == port) || rest) (names_any port items)

pub pairs_push : (items : List Held) (port : ℕ) (policy : Arc Filter Global) → pairs_of (items ++ Some (port, policy) ∷ [])
    ≡ pairs_of items ++ record { port = port; policy = policy.value } ∷ []
pairs_push items port policy = filter_map-append pair_of items (Some (port, policy) ∷ [])

-- lists that hold the same pairs, each at its index
pub pairs_copied : (R : Held → Held → Type 0) (items copies : List Held) → ((x y : Held) → R x y → pair_of y ≡ pair_of x)
    → AllZip R items copies → pairs_of copies ≡ pairs_of items
pairs_copied R [] [] same all = refl
pairs_copied R [] (y ∷ copies) same all = absurd all
pairs_copied R (x ∷ items) [] same all = absurd all
pairs_copied R (x ∷ items) (y ∷ copies) same all =
    ap (λ pair. cons_option pair (pairs_of copies)) (same x y all.0)
    ∙ ap (cons_option (pair_of x)) (pairs_copied R items copies same all.1)

item_found : {R X : Type 0} (now : R → X) (xs : List X) (i : ℕ) (found : Option R) → ItemBy now xs i i found
    → option_map now found ≡ slice_get xs i
item_found now xs i None item = sym (slice_get_past xs i item.3)
item_found now xs i (Some r) item = sym (slice_get_read xs (length xs) i (now r) refl item.3.0 item.1)

-- the pair that a look-up by index finds
pub pair_found : {R : Type 0} (now : R → Held) (items : List Held) (pairs : List Pair) (i : ℕ) (found : Option R)
    → list_all is_some items ≡ true
    → pairs_of items ≡ pairs → ItemBy now items i i found → option_and_then pair_of (option_map now found) ≡ slice_get pairs i
pair_found now items pairs i found there same item =
    ap (option_and_then pair_of) (item_found now items i found item) ∙ sym (pairs_get items there i)
    ∙ ap (λ known. slice_get known i) same

-- the pairs of a batch stay the same as one is handed on after the other
pub handed_on : (done rest later : List Held) (held : Held) (pairs : List Pair) → rest ≡ held ∷ later
    → pairs_of (done ++ rest) ≡ pairs
    → pairs_of ((done ++ held ∷ []) ++ later) ≡ pairs
handed_on done rest later held pairs is same =
    ap pairs_of (append_assoc done (held ∷ []) later) ∙ ap (λ left. pairs_of (done ++ left)) (sym is) ∙ same

pub all_handed_on : (done rest : List Held) (pairs : List Pair) → rest ≡ [] → pairs_of (done ++ rest) ≡ pairs
    → pairs_of done ≡ pairs
all_handed_on done rest pairs is same =
    ap pairs_of (sym (append-nil done)) ∙ ap (λ left. pairs_of (done ++ left)) (sym is) ∙ same

pub nothing_more : (done : List Held) (held : Held) → held ≡ None → pairs_of done ≡ pairs_of (done ++ held ∷ [])
nothing_more done held is =
    sym (append-nil (pairs_of done)) ∙ sym (filter_map-append pair_of done (None ∷ []))
    ∙ ap (λ last. pairs_of (done ++ last ∷ [])) (sym is)
