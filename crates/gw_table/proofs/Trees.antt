-- What the tree of a document has, beside the values of the program that it stands for.
use Rattle.std.proofs.Common.{◌≡◌, ◌≢◌, ℕ, Bool, true, false, not, List, [], ◌∷◌, length, map, Option, Some, None, Err}
use Rattle.std.proofs.Common.{zero, suc, ◌<◌, arith, option_map, string_bytes, refl, sym, ap, ◌∙◌}
use Rattle.std.proofs.lemmas.Bool.{lt-ltb, le-ltb}
use Rattle.std.proofs.lemmas.List.{length-map}
use Rattle.std.proofs.lemmas.Option.{slice_get-map, slice_get-get_or}
use Rattle.std.specs.Prelude.{if◌then◌else◌, option_and_then, is_some, slice_get}
use Rattle.std.specs.List.{list_all, list_any, filter_map, cons_option, find, position, prefix_len, AllWithin, HoldsAt}
use Rattle.std.specs.List.{position_or_len}
use Rattle.std.specs.Map.{keys_of as entry_keys}
use Rattle.std.specs.Str.{bytes_eq}
use Rattle.toml.proofs.Views.{Entry}
use Rattle.toml.specs.declared.value.Value.{Value}
use Rattle.toml.specs.View.{view, members_view, items_view}
use Rattle.toml.specs.Data.{Data, array}
use Rattle.gw_table.specs.TableText.{keys_of, values_of, first_but, first_of, is_table, tables_in, span_in}
use Rattle.gw_table.specs.TableText.{FirstWrong, IsFirstWrong}
use Rattle.gw_table.specs.declared.refusal.RangeFault.TheVariants.{NoRange}

-- keys, and the first of them that is none of the known ones

keys_of-view : (es : List Entry) → keys_of (members_view es) ≡ map string_bytes (entry_keys es)
keys_of-view [] = refl
keys_of-view (e ∷ es) = ap (λ keys. string_bytes e.0 ∷ keys) (keys_of-view es)

found-map : {A B : Type 0} (f : A → B) (x : A) (here : Bool) (rest : Option B) (found : Option A) → rest ≡ option_map f found
    → (if here then Some (f x) else rest) ≡ option_map f (if here then Some x else found)
found-map f x true rest found same = refl
found-map f x false rest found same = same

find-map : {A B : Type 0} (test : B → Bool) (f : A → B) (xs : List A)
    → find test (map f xs) ≡ option_map f (find (λ x. test (f x)) xs)
find-map test f [] = refl
find-map test f (x ∷ xs) = found-map f x (test (f x)) _ _ (find-map test f xs)

pub first_but-view : (known : List (List ℕ)) (es : List Entry) → first_but known (members_view es)
    ≡ option_map string_bytes (find (λ key. not (list_any (bytes_eq (string_bytes key)) known)) (entry_keys es))
first_but-view known es =
    ap (find (λ key. not (list_any (bytes_eq key) known))) (keys_of-view es)
    ∙ find-map (λ key. not (list_any (bytes_eq key) known)) string_bytes (entry_keys es)

pub option_map-map : {A B C : Type 0} (f : A → B) (g : B → C) (found : Option A)
    → option_map (λ x. g (f x)) found ≡ option_map g (option_map f found)
option_map-map f g None = refl
option_map-map f g (Some x) = refl

-- arrays: their values, and whether these are tables

values_of-view : (values : List Value) → values_of (items_view values) ≡ map view values
values_of-view [] = refl
values_of-view (value ∷ values) = ap (λ seen. view value ∷ seen) (values_of-view values)

pub tables_in-view : (values : List Value) → tables_in (array (items_view values))
    ≡ (if list_all is_table (map view values) then Some (map view values) else None)
tables_in-view values = ap (λ seen. if list_all is_table seen then Some seen else None) (values_of-view values)

-- an array of fewer or of more than two is no range
pub span_in-other_array : (most : ℕ) (ends : List Value) → length ends ≢ 2
    → Err NoRange ≡ span_in most (array (items_view ends))
span_in-other_array most [] other = refl
span_in-other_array most (low ∷ []) other = refl
span_in-other_array most (low ∷ high ∷ []) other = absurd (other refl)
span_in-other_array most (low ∷ high ∷ third ∷ rest) other = refl

-- lists of values: what is kept of them, and the first of which something is wrong

pub filter_map-map : {A B C : Type 0} (h : B → Option C) (f : A → B) (xs : List A)
    → filter_map h (map f xs) ≡ filter_map (λ x. h (f x)) xs
filter_map-map h f [] = refl
filter_map-map h f (x ∷ xs) = ap (cons_option (h (f x))) (filter_map-map h f xs)

prefix_len-map : {A B : Type 0} (test : B → Bool) (f : A → B) (xs : List A)
    → prefix_len test (map f xs) ≡ prefix_len (λ x. test (f x)) xs
prefix_len-map test f [] = refl
prefix_len-map test f (x ∷ xs) = rw (prefix_len-map test f xs)

position-map : {A B : Type 0} (test : B → Bool) (f : A → B) (xs : List A)
    → position test (map f xs) ≡ position (λ x. test (f x)) xs
position-map test f xs = rw (prefix_len-map (λ x. not (test x)) f xs, length-map)

and_then-map : {A B C : Type 0} (g : B → Option C) (f : A → B) (found : Option A)
    → option_and_then g (option_map f found) ≡ option_and_then (λ x. g (f x)) found
and_then-map g f None = refl
and_then-map g f (Some x) = refl

-- the first of which something is wrong, where it was looked for by its number: none, or what is wrong with the value there

seen_at : {A : Type 0} (wrong : Data → Option A) (values : List Value) (number : ℕ)
    → option_and_then wrong (slice_get (map view values) number) ≡ option_and_then (λ value. wrong (view value))
    (slice_get values number)
seen_at wrong values number =
    ap (option_and_then wrong) (slice_get-map view values number) ∙ and_then-map wrong view (slice_get values number)

first_of-none : {A : Type 0} (wrong : Data → Option A) (values : List Value)
    → position (λ value. is_some (wrong (view value))) values ≡ None → None ≡ first_of wrong (map view values)
first_of-none wrong values none = rw (position-map (λ rule. is_some (wrong rule)) view values, none) refl

first_of-some : {A : Type 0} (wrong : Data → Option A) (values : List Value) (number : ℕ) (value : Value) (why : A)
    → position (λ value. is_some (wrong (view value))) values ≡ Some number → slice_get values number ≡ Some value
    → wrong (view value) ≡ Some why → Some (number, why) ≡ first_of wrong (map view values)
first_of-some wrong values number value why found at is =
    rw (position-map (λ rule. is_some (wrong rule)) view values, found, seen_at wrong values number, at, is) refl

-- the index of the first that passes, where no earlier one does, or the length
first_at : {X : Type 0} (test : X → Bool) (xs : List X) (number : ℕ) → number < length xs
    → AllWithin (λ x. test x ≡ false) xs 0 number → HoldsAt (λ x. test x ≡ true) xs number → position_or_len test xs ≡ number
first_at test [] number within before here = absurd (omega arith)
first_at test (x ∷ xs) zero within before here = let e = here x in rw e refl
first_at test (x ∷ xs) (suc number) within before here =
    let e = before 0 x (omega arith) (omega arith) in
    let later = first_at test xs number (omega arith) (λ k d low high. before (suc k) d (omega arith) (omega arith)) here in
    rw e (omega (arith, later))

none_at : {X : Type 0} (test : X → Bool) (xs : List X) → AllWithin (λ x. test x ≡ false) xs 0 (length xs)
    → position_or_len test xs ≡ length xs
none_at test [] none = refl
none_at test (x ∷ xs) none =
    let e = none 0 x (omega arith) (omega arith) in
    let later = none_at test xs (λ k d low high. none (suc k) d (omega arith) (omega arith)) in
    rw e (omega (arith, later))

-- a search that is told of each value what is wrong with it finds the first of which something is wrong
module _ {A B : Type 0} (gives : Value → Option A → Type 0) (wrong : Data → Option B) (seen : A → B)
    (told : (value : Value) (why : Option A) → gives value why → option_map seen why ≡ wrong (view value)) where
  abbrev is_wrong : Value → Bool
  is_wrong value = is_some (wrong (view value))

  first_of-search : (values : List Value) (found : Option (ℕ × A)) → FirstWrong gives values found
      → option_map (λ at. (at.0, seen at.1)) found ≡ first_of wrong (map view values)
  first_of-search values None all =
      let at = none_at is_wrong values (λ k d low high. sym (ap is_some (told _ None (all k d low high)))) in
      let past = le-ltb (length values) (length values) (omega arith) in
      first_of-none wrong values (rw (at, past) refl)
  first_of-search [] (Some found) is = absurd (omega (arith, is.0))
  first_of-search (value ∷ values) (Some found) is =
      let rules = value ∷ values in
      let at = first_at is_wrong rules found.0 is.0 (λ k d low high. sym (ap is_some (told _ None (is.2 k d low high))))
      (λ d. sym (ap is_some (told _ (Some found.1) (is.1 d)))) in
      let within = lt-ltb found.0 (length rules) is.0 in
      first_of-some wrong rules found.0 _ (seen found.1) (rw (at, within) refl) (slice_get-get_or rules found.0 value is.0)
      (sym (told _ (Some found.1) (is.1 value)))

pub first_of-told : {A B : Type 0} {gives : Value → Option A → Type 0} (wrong : Data → Option B) (seen : A → B)
    (values : List Value) (found : Option (ℕ × A)) → IsFirstWrong gives values found
    → ((value : Value) (why : Option A) → gives value why → option_map seen why ≡ wrong (view value))
    → option_map (λ at. (at.0, seen at.1)) found ≡ first_of wrong (map view values)
first_of-told {A} {B} {gives} wrong seen values found is told = first_of-search gives wrong seen told values found is.first

kept : {A : Type 0} (found : Option A) → option_map (λ x. x) found ≡ found
kept None = refl
kept (Some x) = refl

pub first_of-found : {A : Type 0} {gives : Value → Option A → Type 0} (wrong : Data → Option A) (values : List Value)
    (found : Option (ℕ × A)) → IsFirstWrong gives values found
    → ((value : Value) (why : Option A) → gives value why → why ≡ wrong (view value)) → found ≡ first_of wrong (map view values)
first_of-found {A} {gives} wrong values found is told =
    sym (kept found) ∙ first_of-search gives wrong (λ why. why) (λ value why k. kept why ∙ told value why k) values found is.first
