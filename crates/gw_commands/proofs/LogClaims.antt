-- The segments of a log, with one frame more.
use Rattle.std.proofs.Common.{◌≡◌, ◌≢◌, ℕ, ◌+◌, ◌<◌, zero, suc, Bool, true, false, true≢false, not, ◌||◌}
use Rattle.std.proofs.Common.{List, [], ◌∷◌, ◌++◌, length, map, reverse, flat_map, get_or, set, take, Some, None}
use Rattle.std.proofs.Common.{Result, Ok, Err, refl, sym, ap, ◌∙◌, subst, append-nil, arith, inl, inr}
use Rattle.std.specs.Prelude.{if◌then◌else◌, OnOk}
use Rattle.std.specs.List.{filter, list_any, position, position_or_len, range_with_len, AllByRecursion, IsDistinct}
use Rattle.std.specs.Str.{bytes_eq}
use Rattle.std.proofs.lemmas.Bool.{cases_lt, cases_eq, lt-ltb}
use Rattle.std.proofs.lemmas.List.{get_or-map, get_or-set_same, get_or-set_other, length-map, length-set, map-append}
use Rattle.std.proofs.lemmas.List.{reverse-append, take_more}
use Rattle.std.proofs.lemmas.List.Concat.{flat_map-append}
use Rattle.std.proofs.lemmas.List.Elements.{All-get_or, All-from_get_or, All-from_recursion, All-nil, All-push, filter-append}
use Rattle.std.proofs.lemmas.List.Folds.{list_any_at}
use Rattle.std.proofs.lemmas.List.Sums.{fails_before_first}
use Rattle.std.proofs.lemmas.List.Quantifiers.{position-Some}
use Rattle.std.proofs.lemmas.Map.Views.{any-filter_same}
use Rattle.std.proofs.lemmas.Slice.Eq.{bytes_eq-Decides}
use Rattle.std.proofs.Math.Seq.{map-set_same}
use Rattle.gw_claims.specs.Holders.{HoldsAfter}
use Rattle.gw_log.specs.LogLines.{Entry}
use Rattle.gw_commands.specs.LogClaims.{distinct, interfaces_of, records_at, Segment, AreSegments}
use Rattle.gw_commands.specs.LogClaims.{line_of, segment_lines, segments_lines}

-- ---- names

same : (name : List ℕ) → bytes_eq name name ≡ true
same name = (bytes_eq-Decides name name).1 refl

alike : (one other : List ℕ) → bytes_eq one other ≡ true → one ≡ other
alike one other = (bytes_eq-Decides one other).0

flips : (one other : List ℕ) → bytes_eq one other ≡ bytes_eq other one
flips one other = go (bytes_eq one other) (bytes_eq other one) refl refl
  where
    go : (a b : Bool) → bytes_eq one other ≡ a → bytes_eq other one ≡ b → a ≡ b
    go true true p q = refl
    go false false p q = refl
    go true false p q = absurd (true≢false (sym ((bytes_eq-Decides other one).1 (sym (alike one other p))) ∙ q))
    go false true p q = absurd (true≢false (sym ((bytes_eq-Decides one other).1 (sym (alike other one q))) ∙ p))

others : List ℕ → List (List ℕ) → List (List ℕ)
others name names = filter (λ other. not (bytes_eq name other)) names

any_others : (one name : List ℕ) (names : List (List ℕ)) → bytes_eq name one ≡ false
    → list_any (bytes_eq name) (others one names) ≡ list_any (bytes_eq name) names
unfolding others
any_others one name names other =
    any-filter_same (bytes_eq name) (λ next. not (bytes_eq one next)) true
    (λ next found. ap not (ap (bytes_eq one) (sym (alike name next found)) ∙ flips one name ∙ other)) names

-- a name more is one of those before, or comes behind them
distinct_more : (names : List (List ℕ)) (name : List ℕ) → distinct (names ++ name ∷ [])
    ≡ (if list_any (bytes_eq name) (distinct names) then distinct names else distinct names ++ name ∷ [])
unfolding others
distinct_more [] name = refl
distinct_more (one ∷ names) name =
    ap (λ (ds : List (List ℕ)). one ∷ others one ds) (distinct_more names name)
    ∙ go (bytes_eq name one) (list_any (bytes_eq name) (distinct names)) refl refl
  where
    front : List (List ℕ)
    front = one ∷ others one (distinct names)

    go : (a b : Bool) → bytes_eq name one ≡ a → list_any (bytes_eq name) (distinct names) ≡ b
        → one ∷ others one (if b then distinct names else distinct names ++ name ∷ [])
        ≡ (if list_any (bytes_eq name) front then front else front ++ name ∷ [])
    go true true p q = rw p refl
    go true false p q =
        rw p (ap (λ (ds : List (List ℕ)). one ∷ ds)
        (filter-append (λ other. not (bytes_eq one other)) (distinct names) (name ∷ [])
        ∙ (rw (flips one name ∙ p) (append-nil (others one (distinct names))))))
    go false true p q = rw (p, any_others one name (distinct names) p ∙ q) refl
    go false false p q =
        rw (p, any_others one name (distinct names) p ∙ q)
        (ap (λ (ds : List (List ℕ)). one ∷ ds) (filter-append (λ other. not (bytes_eq one other)) (distinct names) (name ∷ [])
        ∙ (rw (flips one name ∙ p) refl)))

-- no name comes twice
all_filter : (P : List ℕ → Type 0) (p : List ℕ → Bool) (names : List (List ℕ)) → AllByRecursion P names
    → AllByRecursion P (filter p names)
all_filter P p [] h = tt
all_filter P p (name ∷ names) h = go (p name) (all_filter P p names h.1)
  where
    go : (b : Bool) → AllByRecursion P (filter p names)
        → AllByRecursion P (if b then name ∷ filter p names else filter p names)
    go true rest = (h.0, rest)
    go false rest = rest

others_apart : (one : List ℕ) (names : List (List ℕ)) → AllByRecursion (λ name. bytes_eq one name ≡ false) (others one names)
unfolding others
others_apart one [] = tt
others_apart one (name ∷ names) = go (bytes_eq one name) refl (others_apart one names)
  where
    go : (b : Bool) → bytes_eq one name ≡ b → AllByRecursion (λ next. bytes_eq one next ≡ false) (others one names)
        → AllByRecursion (λ next. bytes_eq one next ≡ false) (if not b then name ∷ others one names else others one names)
    go true is rest = rest
    go false is rest = (is, rest)

distinct_filter : (p : List ℕ → Bool) (names : List (List ℕ)) → IsDistinct bytes_eq names → IsDistinct bytes_eq (filter p names)
unfolding IsDistinct
distinct_filter p [] h = tt
distinct_filter p (name ∷ names) h = go (p name) (distinct_filter p names h.1)
  where
    go : (b : Bool) → IsDistinct bytes_eq (filter p names)
        → IsDistinct bytes_eq (if b then name ∷ filter p names else filter p names)
    go true rest = (all_filter (λ next. bytes_eq name next ≡ false) p names h.0, rest)
    go false rest = rest

distinct_apart : (names : List (List ℕ)) → IsDistinct bytes_eq (distinct names)
unfolding others IsDistinct
distinct_apart [] = tt
distinct_apart (one ∷ names) = (
  others_apart one (distinct names),
  distinct_filter (λ other. not (bytes_eq one other)) (distinct names) (distinct_apart names),
)

apart_at : (names : List (List ℕ)) (j k : ℕ) (d : List ℕ) → IsDistinct bytes_eq names → j < length names → k < length names
    → j ≢ k → bytes_eq (get_or names k d) (get_or names j d) ≡ false
unfolding IsDistinct
apart_at [] j k d h below within other = absurd (omega (arith, below))
apart_at (one ∷ names) zero zero d h below within other = absurd (other refl)
apart_at (one ∷ names) zero (suc k) d h below within other =
    flips (get_or names k d) one
    ∙ All-get_or (λ name. bytes_eq one name ≡ false) names k d (omega (arith, within)) (All-from_recursion _ names h.0)
apart_at (one ∷ names) (suc j) zero d h below within other =
    All-get_or (λ name. bytes_eq one name ≡ false) names j d (omega (arith, below)) (All-from_recursion _ names h.0)
apart_at (one ∷ names) (suc j) (suc k) d h below within other =
    apart_at names j k d h.1 (omega (arith, below)) (omega (arith, within)) (λ e. other (ap suc e))

any_distinct : (name : List ℕ) (names : List (List ℕ))
    → list_any (bytes_eq name) (distinct names) ≡ list_any (bytes_eq name) names
unfolding others
any_distinct name [] = refl
any_distinct name (one ∷ names) = go (bytes_eq name one) refl (any_distinct name names)
  where
    go : (b : Bool) → bytes_eq name one ≡ b → list_any (bytes_eq name) (distinct names) ≡ list_any (bytes_eq name) names
        → (bytes_eq name one || list_any (bytes_eq name) (others one (distinct names)))
        ≡ (bytes_eq name one || list_any (bytes_eq name) names)
    go true is rest = rw is refl
    go false is rest = rw is (any_others one name (distinct names) is ∙ rest)

-- ---- the frames of an interface

interfaces_more : (entries : List Entry) (e : Entry) → interfaces_of (entries ++ e ∷ [])
    ≡ (if list_any (bytes_eq e.interface) (interfaces_of entries) then interfaces_of entries
    else interfaces_of entries ++ e.interface ∷ [])
unfolding interfaces_of
interfaces_more entries e =
    ap distinct (map-append (λ (said : Entry). said.interface) entries (e ∷ []))
    ∙ distinct_more (map (λ (said : Entry). said.interface) entries) e.interface

records_with : (name : List ℕ) (entries : List Entry) (e : Entry) → bytes_eq e.interface name ≡ true
    → records_at name (entries ++ e ∷ []) ≡ e.octets ∷ records_at name entries
unfolding records_at
records_with name entries e is =
    let test : Entry → Bool = λ said. bytes_eq said.interface name in
    let octets : Entry → List ℕ = λ said. said.octets in
    let last : filter test (e ∷ []) ≡ e ∷ [] = rw is refl in
    ap (λ (es : List Entry). reverse (map octets es))
    (filter-append test entries (e ∷ []) ∙ ap (λ (es : List Entry). filter test entries ++ es) last)
    ∙ ap reverse (map-append octets (filter test entries) (e ∷ []))
    ∙ reverse-append (map octets (filter test entries)) (e.octets ∷ [])

records_without : (name : List ℕ) (entries : List Entry) (e : Entry) → bytes_eq e.interface name ≡ false
    → records_at name (entries ++ e ∷ []) ≡ records_at name entries
unfolding records_at
records_without name entries e is =
    let test : Entry → Bool = λ said. bytes_eq said.interface name in
    let last : filter test (e ∷ []) ≡ [] = rw is refl in
    ap (λ (es : List Entry). reverse (map (λ (said : Entry). said.octets) es))
    (filter-append test entries (e ∷ []) ∙ ap (λ (es : List Entry). filter test entries ++ es) last
    ∙ append-nil (filter test entries))

filter_none : (name : List ℕ) (entries : List Entry)
    → list_any (bytes_eq name) (map (λ (said : Entry). said.interface) entries) ≡ false
    → filter (λ (said : Entry). bytes_eq said.interface name) entries ≡ []
filter_none name [] none = refl
filter_none name (e ∷ entries) none = go (bytes_eq name e.interface) refl none (filter_none name entries)
  where
    go : (b : Bool) → bytes_eq name e.interface ≡ b
        → (b || list_any (bytes_eq name) (map (λ (said : Entry). said.interface) entries)) ≡ false
        → (list_any (bytes_eq name) (map (λ (said : Entry). said.interface) entries) ≡ false
        → filter (λ (said : Entry). bytes_eq said.interface name) entries ≡ [])
        → filter (λ (said : Entry). bytes_eq said.interface name) (e ∷ entries) ≡ []
    go true is some rest = absurd (true≢false some)
    go false is none rest = rw (flips e.interface name ∙ is) (rest none)

records_none : (name : List ℕ) (entries : List Entry) → list_any (bytes_eq name) (interfaces_of entries) ≡ false
    → records_at name entries ≡ []
unfolding interfaces_of records_at
records_none name entries none =
    ap (λ (es : List Entry). reverse (map (λ (said : Entry). said.octets) es))
    (filter_none name entries (sym (any_distinct name (map (λ (said : Entry). said.interface) entries)) ∙ none))

-- ---- one frame more

-- at an interface that has a segment
pub heard_again : (entries : List Entry) (e : Entry) (segments : List Segment) (k : ℕ) (now d : Segment)
    → position (λ segment. bytes_eq e.interface segment.interface) segments ≡ Some k → AreSegments entries segments
    → now.interface ≡ (get_or segments k d).interface
    → ((records : List (List ℕ)) → HoldsAfter (get_or segments k d).table records
    → HoldsAfter now.table (e.octets ∷ records))
    → AreSegments (entries ++ e ∷ []) (set segments k now)
unfolding interfaces_of
heard_again entries e segments k now d first h kept heard =
    let name : Segment → List ℕ = λ segment. segment.interface in
    let found = position-Some (λ segment. bytes_eq e.interface segment.interface) segments k d first in
    let is : e.interface ≡ (get_or segments k d).interface = alike e.interface (get_or segments k d).interface found.1 in
    let within : k < length (map name segments) = omega (arith, found.0, length-map segments name) in
    let at : (j : ℕ) → j < length segments → get_or (map name segments) j [] ≡ (get_or segments j d).interface =
    λ j below. get_or-map name segments j d [] below in
    let there : list_any (bytes_eq e.interface) (interfaces_of entries) ≡ true =
    subst (λ (names : List (List ℕ)). list_any (bytes_eq e.interface) names ≡ true) h.interfaces
    (list_any_at (bytes_eq e.interface) (map name segments) k [] within
    (ap (bytes_eq e.interface) (at k found.0) ∙ found.1)) in
    let apart : IsDistinct bytes_eq (map name segments) =
    subst (IsDistinct bytes_eq) (sym h.interfaces) (distinct_apart (map (λ (said : Entry). said.interface) entries)) in
    let Holds : Segment → Type 0 =
    λ segment. HoldsAfter segment.table (records_at segment.interface (entries ++ e ∷ [])) in
    let this : Holds now =
    subst (HoldsAfter now.table)
    (ap (λ (records : List (List ℕ)). e.octets ∷ records) (ap (λ (i : List ℕ). records_at i entries) (sym kept))
    ∙ sym (records_with now.interface entries e (ap (bytes_eq e.interface) kept ∙ found.1)))
    (heard (records_at (get_or segments k d).interface entries)
    (All-get_or (λ (segment : Segment). HoldsAfter segment.table (records_at segment.interface entries)) segments k d found.0
    h.each)) in
    let other : (j : ℕ) → j < length segments → j ≢ k → Holds (get_or segments j d) =
    λ j below ne. subst (HoldsAfter (get_or segments j d).table)
    (sym (records_without (get_or segments j d).interface entries e
    (ap (λ (i : List ℕ). bytes_eq i (get_or segments j d).interface) (is ∙ sym (at k found.0))
    ∙ ap (bytes_eq (get_or (map name segments) k [])) (sym (at j below))
    ∙ apart_at (map name segments) j k [] apart (omega (arith, below, length-map segments name)) within ne)))
    (All-get_or (λ (segment : Segment). HoldsAfter segment.table (records_at segment.interface entries)) segments j d below
    h.each) in
    record {
      interfaces = map-set_same name segments k now d kept ∙ h.interfaces ∙ sym (interfaces_more entries e ∙ (rw there refl));
      each = All-from_get_or Holds (set segments k now) d (λ j below.
          let inside : j < length segments = omega (arith, below, length-set segments k now) in
          elim (cases_eq j k) [
            | inl e ↦
                subst Holds (sym (ap (λ n. get_or (set segments k now) n d) e ∙ get_or-set_same segments k now d found.0)) this
            | inr ne ↦ subst Holds (sym (get_or-set_other segments k j now d ne)) (other j inside ne)
          ]);
    }

-- at an interface that has none
fails_everywhere : {X : Type 0} (p : X → Bool) (xs : List X) (k : ℕ) (d : X) → k < length xs → position p xs ≡ None
    → p (get_or xs k d) ≡ false
fails_everywhere p xs k d within none =
    elim (cases_lt (position_or_len p xs) (length xs)) [
      | inl below ↦
          let some : position p xs ≡ Some (position_or_len p xs) = rw (lt-ltb (position_or_len p xs) (length xs) below) refl in
          absurd (cc)
      | inr above ↦ fails_before_first p xs k d (omega arith)
    ]

none_at : (name : List ℕ) (names : List (List ℕ))
    → ((k : ℕ) → k < length names → bytes_eq name (get_or names k []) ≡ false) → list_any (bytes_eq name) names ≡ false
none_at name [] none = refl
none_at name (one ∷ names) none =
    rw (none 0 (omega arith)) (none_at name names (λ k below. none (suc k) (omega (arith, below))))

on_added : {A E : Type 0} (r : Result A E) (now all : List Segment) (P : List Segment → Type 0) → OnOk r (now ≡ all) → P all
    → OnOk r (P now)
on_added (Ok done) now all P is h = subst P (sym is) h
on_added (Err e) now all P is h = tt

pub heard_first : {A E : Type 0} (r : Result A E) (entries : List Entry) (e : Entry) (segments now : List Segment)
    (fresh : Segment) → OnOk r (now ≡ segments ++ fresh ∷ [])
    → position (λ segment. bytes_eq e.interface segment.interface) segments ≡ None → AreSegments entries segments
    → fresh.interface ≡ e.interface → HoldsAfter fresh.table (e.octets ∷ [])
    → OnOk r (AreSegments (entries ++ e ∷ []) now)
heard_first r entries e segments now fresh added none h kept heard =
    let name : Segment → List ℕ = λ segment. segment.interface in
    let Holds : Segment → Type 0 =
    λ segment. HoldsAfter segment.table (records_at segment.interface (entries ++ e ∷ [])) in
    let other : (k : ℕ) → k < length segments → bytes_eq e.interface (get_or segments k fresh).interface ≡ false =
    λ k below. fails_everywhere (λ segment. bytes_eq e.interface segment.interface) segments k fresh below none in
    let new : list_any (bytes_eq e.interface) (interfaces_of entries) ≡ false =
    subst (λ (names : List (List ℕ)). list_any (bytes_eq e.interface) names ≡ false) h.interfaces
    (none_at e.interface (map name segments) (λ k below.
    let inside : k < length segments = omega (arith, below, length-map segments name) in
    ap (bytes_eq e.interface) (get_or-map name segments k fresh [] inside) ∙ other k inside)) in
    let this : Holds fresh =
    subst (HoldsAfter fresh.table)
    (sym (records_with fresh.interface entries e (ap (bytes_eq e.interface) kept ∙ same e.interface)
    ∙ ap (λ (records : List (List ℕ)). e.octets ∷ records)
    (ap (λ (i : List ℕ). records_at i entries) kept ∙ records_none e.interface entries new)))
    heard in
    on_added r now (segments ++ fresh ∷ []) (AreSegments (entries ++ e ∷ [])) added (record {
      interfaces = map-append name segments (fresh ∷ [])
          ∙ ap (λ (names : List (List ℕ)). names ++ fresh.interface ∷ []) h.interfaces
          ∙ ap (λ (i : List ℕ). interfaces_of entries ++ i ∷ []) kept ∙ sym (interfaces_more entries e ∙ (rw new refl));
      each = All-push Holds segments fresh (All-from_get_or Holds segments fresh (λ k below.
          subst (HoldsAfter (get_or segments k fresh).table)
          (sym (records_without (get_or segments k fresh).interface entries e (other k below)))
          (All-get_or (λ (segment : Segment). HoldsAfter segment.table (records_at segment.interface entries)) segments k fresh
          below h.each))) this;
    })

-- no frame
pub heard_no_frame : AreSegments [] []
unfolding interfaces_of
heard_no_frame = record { interfaces = refl; each = All-nil _ }

-- ---- lines

pub segment_done : (segment : Segment) (n : ℕ) (before text : List ℕ) → n ≡ 254
    → text ≡ before ++ flat_map (line_of segment) (range_with_len 0 n) → text ≡ before ++ segment_lines segment
unfolding segment_lines
segment_done segment n before text all so_far =
    so_far ∙ ap (λ m. before ++ flat_map (line_of segment) (range_with_len 0 m)) all

pub segments_none : [] ≡ segments_lines []
unfolding segments_lines
segments_none = refl

pub segments_more : (segments : List Segment) (k : ℕ) (next : Segment) (before text : List ℕ) → k < length segments
    → next ≡ get_or segments k next → before ≡ segments_lines (take k segments) → text ≡ before ++ segment_lines next
    → text ≡ segments_lines (take (k + 1) segments)
unfolding segments_lines
segments_more segments k next before text within is so_far more =
    more ∙ ap (λ t. t ++ segment_lines next) so_far
    ∙ ap (λ (last : List ℕ). flat_map segment_lines (take k segments) ++ last)
    (ap segment_lines is ∙ sym (append-nil (segment_lines (get_or segments k next))))
    ∙ sym (ap (flat_map segment_lines) (take_more segments k next within)
    ∙ flat_map-append segment_lines (take k segments) (get_or segments k next ∷ []))
