-- Where a part of a line ends.
use Rattle.std.proofs.Common.{◌≡◌, ℕ, ◌+◌, ◌-◌, ◌<◌, ◌≤◌, Bool, true, false, List, ◌++◌, length, take, drop, get_or}
use Rattle.std.proofs.Common.{Option, Ok, sym, ap, ap₂, ◌∙◌, subst, arith}
use Rattle.std.specs.List.{position_or_len}
use Rattle.std.proofs.lemmas.List.{length-take, get_or-take, take-take, drop-take, drop-drop, take-append-drop}
use Rattle.std.proofs.lemmas.List.Elements.{All-from_get_or, All-take}
use Rattle.std.proofs.lemmas.List.Sums.{fails_before_first}
use Rattle.gw_input.specs.Lines.{is_line_feed}
use Rattle.gw_judge.specs.LineParts.{IsEndless, IsLinePart, IsNextPart, Fills}

before_end : (text : List ℕ) (end : ℕ) → end ≡ position_or_len is_line_feed text → IsEndless (take end text)
before_end text end at =
    All-from_get_or (λ c. is_line_feed c ≡ false) (take end text) 0
    (λ k within. below k (omega (arith, length-take end text)))
  where
    below : (k : ℕ) → k < end → is_line_feed (get_or (take end text) k 0) ≡ false
    below k less = rw (get_or-take end text k 0 less) (fails_before_first is_line_feed text k 0 (subst (λ n. k < n) at less))

-- up to the first line feed, with it
pub ended_part : (text : List ℕ) (end : ℕ) → end ≡ position_or_len is_line_feed text → end < length text
    → IsLinePart (take (end + 1) text)
ended_part text end at within =
    let size : length (take (end + 1) text) - 1 ≡ end = omega (arith, length-take (end + 1) text) in
    let same : take (length (take (end + 1) text) - 1) (take (end + 1) text) ≡ take end text =
    ap (λ n. take n (take (end + 1) text)) size ∙ take-take end (end + 1) text (omega arith) in
    record {
      some = omega (arith, length-take (end + 1) text);
      front = subst IsEndless (sym same) (before_end text end at);
    }

-- all of a text without one
pub endless_part : (text : List ℕ) (end : ℕ) → end ≡ position_or_len is_line_feed text → 0 < length (take end text)
    → IsLinePart (take end text)
endless_part text end at some = record {
  some = some;
  front = All-take (λ c. is_line_feed c ≡ false) (length (take end text) - 1) (take end text) (before_end text end at);
}

-- the next part of what is left of a piece
pub next_part : (before after : Option (List ℕ)) (rest new octets : List ℕ) (end len n : ℕ) (more : Bool) → more ≡ true
    → Fills before after rest new (Ok more) → take (len - end) (drop end octets) ≡ new
    → IsLinePart (take n (take (len - end) (drop end octets))) → n ≤ length (take (len - end) (drop end octets))
    → IsNextPart before after rest (record {
      part = take (end + n - end) (drop end octets);
      rest = take (len - (end + n)) (drop (end + n) octets);
    })
next_part before after rest new octets end len n more some given is line bound =
    let left : List ℕ = take (len - end) (drop end octets) in
    let within : n ≤ len - end = omega (arith, length-take (len - end) (drop end octets)) in
    let same : n ≡ end + n - end = omega arith in
    let size : len - end ≡ n + (len - (end + n)) = omega arith in
    let front : take n left ≡ take (end + n - end) (drop end octets) =
    take-take n (len - end) (drop end octets) within ∙ ap (λ k. take k (drop end octets)) same in
    let back : drop n left ≡ take (len - (end + n)) (drop (end + n) octets) =
    ap (λ k. drop n (take k (drop end octets))) size ∙ drop-take n (len - (end + n)) (drop end octets)
    ∙ ap (λ (xs : List ℕ). take (len - (end + n)) xs) (drop-drop n end octets) in
    let fills = subst (λ m. Fills before after rest new (Ok m)) some given in
    record {
      got = fills.0;
      consumed = fills.1;
      cut = fills.2 ∙ sym is ∙ sym (take-append-drop n left) ∙ ap₂ (λ (a b : List ℕ). a ++ b) front back;
      line = subst IsLinePart front line;
    }
