-- Each text is a listing, or meets a refusal other than want of memory.
use Rattle.std.proofs.Common.{ℕ, zero, suc, ◌≡◌, ◌≢◌, ◌+◌, ◌-◌, ◌<◌, ◌≤◌, ◌⊎◌, inl, inr, Bool, true, false, eqb, List, []}
use Rattle.std.proofs.Common.{◌∷◌, ◌++◌, length, take, drop, refl, subst, sym, ap, arith}
use Rattle.std.specs.Prelude.{All}
use Rattle.std.specs.Char.{IsAsciiDigit, is_ascii_digit}
use Rattle.std.specs.List.{prefix_len}
use Rattle.std.proofs.lemmas.Bool.{cases_lt, cases_eq}
use Rattle.std.proofs.lemmas.Bool.Decides.{nat_tests}
use Rattle.std.proofs.lemmas.List.{take-append-drop}
use Rattle.std.proofs.lemmas.List.Elements.{All-nil, All-cons, All-head, All-tail}
use Rattle.gw_insn.specs.declared.insn.Raw.{Raw}
use Rattle.gw_insn.specs.declared.reading.ListRefusal.{ListRefusal}
use Rattle.gw_insn.specs.declared.reading.ListRefusal.TheVariants.{BadCount, BadField, Trailing, OutOfMemory}
use Rattle.gw_insn.specs.Listing.{comma, space, decimal, IsWhite, StartsWithDigit, StartsWithComma, IsNumber, HasNumber}
use Rattle.gw_insn.specs.Listing.{HasInstruction, HasItem, HasItems, HasCount, IsListing, IsListRefusal}
use Rattle.gw_insn.proofs.Callers.{digits_passed, digits_end, number_at, number_alone, lacks_jt, lacks_jf, lacks_k, lacks_comma}

-- a fact holds or does not
abbrev pub Decided : Type 0 → Type 0
Decided P = P ⊎ (P → ⊥)

pub at_most : (m n : ℕ) → Decided (m ≤ n)
at_most m n = elim (cases_lt n m) [ inl less ↦ inr (λ le. omega (arith, less, le)) | inr le ↦ inl le ]

pub both : {P Q : Type 0} → Decided P → Decided Q → Decided (P × Q)
both (inl p) (inl q) = inl (p, q)
both (inl p) (inr q) = inr (λ h. q h.1)
both (inr p) d = inr (λ h. p h.0)

pub either : {P Q : Type 0} → Decided P → Decided Q → Decided (P ⊎ Q)
either (inl p) d = inl (inl p)
either (inr p) (inl q) = inl (inr q)
either {P} {Q} (inr p) (inr q) = inr neither
  where
    neither : P ⊎ Q → ⊥
    neither (inl h) = p h
    neither (inr h) = q h

-- so does a fact of all elements
all_or_not : (P : ℕ → Type 0) → ((c : ℕ) → Decided (P c)) → (xs : List ℕ) → Decided (All P xs)
all_or_not P known [] = inl (All-nil P)
all_or_not P known (x ∷ xs) = go (known x) (all_or_not P known xs)
  where
    go : Decided (P x) → Decided (All P xs) → Decided (All P (x ∷ xs))
    go (inl one) (inl rest) = inl (All-cons P x xs one rest)
    go (inl one) (inr none) = inr (λ h. none (All-tail P x xs h))
    go (inr none) rest = inr (λ h. none (All-head P x xs h))

white_or_not : (c : ℕ) → Decided (IsWhite c)
white_or_not c = either (cases_eq c 32) (either (cases_eq c 9) (either (cases_eq c 10) (cases_eq c 13)))

-- the digits at the front of a text
record Digits (text : List ℕ) : Type 0 where
  pub digits : List ℕ
  pub after : List ℕ
  pub spelled : text ≡ digits ++ after
  pub ascii : All IsAsciiDigit digits
  pub ends : StartsWithDigit after → ⊥

digits_of : (text : List ℕ) → Digits text
digits_of text = record {
  digits = take (prefix_len is_ascii_digit text) text;
  after = drop (prefix_len is_ascii_digit text) text;
  spelled = sym (take-append-drop (prefix_len is_ascii_digit text) text);
  ascii = digits_passed text;
  ends = digits_end text;
}

-- something stands at the front of a text with a rest behind it, or nothing does
abbrev Front : {A : Type 0} → (A → List ℕ → Type 0) → Type 0
Front {A} P = ((a : A) × (rest : List ℕ) × P a rest) ⊎ ((a : A) (rest : List ℕ) → P a rest → ⊥)

number_front : (most : ℕ) (text : List ℕ) → Front (HasNumber most text)
number_front most text =
    go (both (at_most 1 (length d.digits)) (both (at_most (length d.digits) 10) (at_most (decimal d.digits) most)))
  where
    d : Digits text
    d = digits_of text

    go : Decided ((1 ≤ length d.digits) × ((length d.digits ≤ 10) × (decimal d.digits ≤ most))) → Front (HasNumber most text)
    go (inl h) = inl (
      decimal d.digits,
      d.after,
      record {
        digits = d.digits;
        number = record { some = omega (arith, h.0); few = h.1.0; ascii = d.ascii; value = refl; fits = h.1.1 };
        spelled = d.spelled;
        ends = d.ends;
      },
    )
    go (inr none) = inr (λ n rest h.
        let number : IsNumber most d.digits n =
        number_at text d.digits d.after d.spelled d.ascii d.ends most n rest h in
        let some = number.some in
        let value = number.value in
        let fits = number.fits in
        none (omega (arith, some), (number.few, omega (arith, value, fits))))

-- the same of a number with a mark behind it
field_front : (most mark : ℕ) (text : List ℕ) → Front (λ n rest. HasNumber most text n (mark ∷ rest))
field_front most mark text = go (number_front most text)
  where
    marked : (n : ℕ) (rest : List ℕ) → HasNumber most text n rest → Front (λ m more. HasNumber most text m (mark ∷ more))
    marked n [] h = inr (λ m more k. let e : [] ≡ mark ∷ more = (number_alone refl h k).1 in cc)
    marked n (c ∷ rest) h = by (cases_eq c mark)
      where
        by : Decided (c ≡ mark) → Front (λ m more. HasNumber most text m (mark ∷ more))
        by (inl is) = inl (n, rest, subst (λ d. HasNumber most text n (d ∷ rest)) is h)
        by (inr other) = inr (λ m more k. let e : c ∷ rest ≡ mark ∷ more = (number_alone refl h k).1 in other cc)

    go : Front (HasNumber most text) → Front (λ n rest. HasNumber most text n (mark ∷ rest))
    go (inl found) = marked found.0 found.1 found.2
    go (inr none) = inr (λ n rest h. none n (mark ∷ rest) h)

-- an instruction stands there, or none does
instruction_front : (text : List ℕ) → Front (HasInstruction text)
instruction_front text = behind_text (field_front 65535 space text)
  where
    behind_jf : (code jt jf : ℕ) (after_code after_jt after_jf : List ℕ) → HasNumber 65535 text code (space ∷ after_code)
        → HasNumber 255 after_code jt (space ∷ after_jt) → HasNumber 255 after_jt jf (space ∷ after_jf)
        → Front (HasNumber 4294967295 after_jf) → Front (HasInstruction text)
    behind_jf code jt jf after_code after_jt after_jf a b c (inl k) = inl (
      record { code = code; jt = jt; jf = jf; k = k.0 },
      k.1,
      record { after_code = after_code; after_jt = after_jt; after_jf = after_jf; code = a; jt = b; jf = c; k = k.2 },
    )
    behind_jf code jt jf after_code after_jt after_jf a b c (inr none) = inr (lacks_k a b c none)

    behind_jt : (code jt : ℕ) (after_code after_jt : List ℕ) → HasNumber 65535 text code (space ∷ after_code)
        → HasNumber 255 after_code jt (space ∷ after_jt) → Front (λ n rest. HasNumber 255 after_jt n (space ∷ rest))
        → Front (HasInstruction text)
    behind_jt code jt after_code after_jt a b (inl jf) =
        behind_jf code jt jf.0 after_code after_jt jf.1 a b jf.2 (number_front 4294967295 jf.1)
    behind_jt code jt after_code after_jt a b (inr none) = inr (lacks_jf a b none)

    behind_code : (code : ℕ) (after_code : List ℕ) → HasNumber 65535 text code (space ∷ after_code)
        → Front (λ n rest. HasNumber 255 after_code n (space ∷ rest)) → Front (HasInstruction text)
    behind_code code after_code a (inl jt) =
        behind_jt code jt.0 after_code jt.1 a jt.2 (field_front 255 space jt.1)
    behind_code code after_code a (inr none) = inr (lacks_jt a none)

    behind_text : Front (λ n rest. HasNumber 65535 text n (space ∷ rest)) → Front (HasInstruction text)
    behind_text (inl code) = behind_code code.0 code.1 code.2 (field_front 255 space code.1)
    behind_text (inr none) = inr (λ r rest h. none r.code h.after_code h.code)

-- an item stands there, or none does
item_front : (is_last : Bool) (text : List ℕ) → Front (HasItem is_last text)
item_front is_last text = go (instruction_front text)
  where
    open_end : (last : Bool) (r : Raw) (end : List ℕ) → HasInstruction text r end → ((rest : List ℕ) → end ≡ comma ∷ rest → ⊥)
        → Front (HasItem last text)
    open_end true r end h none = inl (
      r,
      end,
      record { end = end; instruction = h; closed = inr (refl, refl, starts end none) },
    )
      where
        starts : (end : List ℕ) → ((rest : List ℕ) → end ≡ comma ∷ rest → ⊥) → StartsWithComma end → ⊥
        starts [] none is = is
        starts (c ∷ cs) none is = none cs (ap (λ d. d ∷ cs) is)
    open_end false r end h none = inr (lacks_comma refl h none)

    ended : (r : Raw) (end : List ℕ) → HasInstruction text r end → Front (HasItem is_last text)
    ended r [] h = open_end is_last r [] h (λ rest e. cc)
    ended r (c ∷ cs) h = by (cases_eq c comma)
      where
        by : Decided (c ≡ comma) → Front (HasItem is_last text)
        by (inl is) = inl (r, cs, record { end = c ∷ cs; instruction = h; closed = inl (ap (λ d. d ∷ cs) is) })
        by (inr other) = open_end is_last r (c ∷ cs) h (λ rest e. let both_are : c ∷ cs ≡ comma ∷ rest = e in other cc)

    go : Front (HasInstruction text) → Front (HasItem is_last text)
    go (inl found) = ended found.0 found.1 found.2
    go (inr none) = inr (λ r rest item. none r item.end item.instruction)

-- so many items stand at the front of a text, or after some of them none does
record AllItems (n : ℕ) (text : List ℕ) : Type 0 where
  pub code : List Raw
  pub rest : List ℕ
  pub items : HasItems n text code rest
  pub count : length code ≡ n

record SomeItems (n : ℕ) (text : List ℕ) : Type 0 where
  pub code : List Raw
  pub rest : List ℕ
  pub items : HasItems n text code rest
  pub fewer : length code < n
  pub absent : (r : Raw) (back : List ℕ) → HasItem (eqb n (length code + 1)) rest r back → ⊥

items_front : (n : ℕ) (text : List ℕ) → AllItems n text ⊎ SomeItems n text
items_front zero text = inl (record { code = []; rest = text; items = refl; count = refl })
items_front (suc n) text = go (λ next. items_front n next) (item_front (eqb (suc n) 1) text)
  where
    one_less : suc n - 1 ≡ n
    one_less = omega arith

    behind : (r : Raw) (next : List ℕ) → HasItem (eqb (suc n) 1) text r next → AllItems n next ⊎ SomeItems n next
        → AllItems (suc n) text ⊎ SomeItems (suc n) text
    behind r next first (inl all) = inl (record {
      code = r ∷ all.code;
      rest = all.rest;
      items = (next, first, subst (λ m. HasItems m next all.code all.rest) (sym one_less) all.items);
      count = omega (arith, all.count);
    })
    behind r next first (inr some) =
        let fewer = some.fewer in
        let same : eqb (suc n) (length (r ∷ some.code) + 1) ≡ eqb n (length some.code + 1) = grind (arith, nat_tests) in
        inr (record {
          code = r ∷ some.code;
          rest = some.rest;
          items = (next, first, subst (λ m. HasItems m next some.code some.rest) (sym one_less) some.items);
          fewer = omega (arith, fewer);
          absent = λ s back item. some.absent s back (subst (λ last. HasItem last some.rest s back) same item);
        })

    go : ((next : List ℕ) → AllItems n next ⊎ SomeItems n next) → Front (HasItem (eqb (suc n) 1) text)
        → AllItems (suc n) text ⊎ SomeItems (suc n) text
    go others (inl found) = behind found.0 found.1 found.2 (others found.1)
    go others (inr none) = inr (record { code = []; rest = text; items = refl; fewer = omega arith; absent = none })

-- a listing, or why a text is none
abbrev pub ListingOrNot : List ℕ → Type 0
ListingOrNot text =
    ((code : List Raw) × IsListing text code) ⊎ ((why : ListRefusal) × IsListRefusal text why × (why ≢ OutOfMemory))

-- each text has one of these
pub some_listing : (text : List ℕ) → ListingOrNot text
some_listing text = counted (field_front 65535 comma text)
  where
    behind : (n : ℕ) (body : List ℕ) → HasCount text n body → AllItems n body → ListingOrNot text
    behind n body count all = by (all_or_not IsWhite white_or_not all.rest)
      where
        counts : HasCount text (length all.code) body
        counts = subst (λ m. HasCount text m body) (sym all.count) count

        items : HasItems (length all.code) body all.code all.rest
        items = subst (λ m. HasItems m body all.code all.rest) (sym all.count) all.items

        by : Decided (All IsWhite all.rest) → ListingOrNot text
        by (inl blank) = inl (
          all.code,
          record { body = body; after = all.rest; count = counts; items = items; blank = blank },
        )
        by (inr more) = inr (
          Trailing,
          record { body = body; code = all.code; after = all.rest; count = counts; items = items; more = more },
          λ e. cc,
        )

    listed : (n : ℕ) (body : List ℕ) → HasCount text n body → AllItems n body ⊎ SomeItems n body → ListingOrNot text
    listed n body count (inl all) = behind n body count all
    listed n body count (inr some) = inr (
      BadField (length some.code),
      record {
        n = n;
        body = body;
        code = some.code;
        after = some.rest;
        count = count;
        inside = some.fewer;
        before = refl;
        items = some.items;
        absent = some.absent;
      },
      λ e. cc,
    )

    counted : Front (λ n rest. HasNumber 65535 text n (comma ∷ rest)) → ListingOrNot text
    counted (inl found) = listed found.0 found.1 found.2 (items_front found.0 found.1)
    counted (inr none) = inr (BadCount, none, λ e. cc)
