-- How far a log was heard, with one part of a line more.
use Rattle.std.proofs.Common.{◌≡◌, ℕ, ◌+◌, ◌-◌, ◌<◌, ◌≤◌, Bool, true, false, true≢false, List, [], ◌∷◌, ◌++◌, length, take}
use Rattle.std.proofs.Common.{Option, Some, None, Result, Ok, Err, refl, sym, ap, ◌∙◌, subst, append_assoc, append-nil, arith}
use Rattle.std.proofs.Common.{length-append}
use Rattle.std.specs.Prelude.{OnOk, is_err}
use Rattle.std.specs.List.{cons_option}
use Rattle.std.specs.Io.KnownBytes.{Consumes}
use Rattle.std.proofs.lemmas.List.Elements.{All-append, All-nil, filter_map-append}
use Rattle.gw_io.proofs.Callers.{consumed_nothing}
use Rattle.gw_input.specs.Lines.{is_line_feed}
use Rattle.gw_log.specs.LogLines.{Entry, line_of}
use Rattle.gw_log.specs.declared.refusal.LogRefusal.{LogRefusal}
use Rattle.gw_judge.specs.declared.fate.Fate.TheVariants.{Silent, Refused}
use Rattle.gw_judge.specs.declared.listener.ListenFault.TheVariants.{OutOfMemory}
use Rattle.gw_judge.specs.declared.listening.Listening.{Listening}
use Rattle.gw_judge.specs.declared.tally.Tally.{Tally}
use Rattle.gw_judge.specs.Fates.{fate_of, said_fate}
use Rattle.gw_judge.specs.Grouped.{no_groups}
use Rattle.gw_judge.specs.Counting.{no_tally, tally_with}
use Rattle.gw_judge.specs.Heard.{said_entry, entry_on, entries_on, unjudged, IsPartlyHeard}
use Rattle.gw_judge.specs.HearingUnderWay.{AreHeard, HasHeard, IsListening}
use Rattle.gw_judge.specs.Judged.{log_lines}
use Rattle.gw_judge.specs.LineParts.{Ahead, IsLinePart, IsNextPart, ends_line}
use Rattle.gw_judge.specs.Tallies.{IsTally}
use Rattle.gw_judge.specs.declared.groups.Grouping.TheVariants.{Nothing}
use Rattle.gw_judge.proofs.Counting.{none_told}
use Rattle.gw_judge.proofs.Lines.{line_kept, part_endless}
use Rattle.gw_judge.proofs.JudgedLines.{tallied_more, tally_whole, kept_on, split_on, ended_first}
use Rattle.gw_judge.proofs.PartByPart.{lines_at_end, no_rest, some_rest}
use Rattle.gw_judge.proofs.Streams.{given_more}

-- ---- one line

-- a line that is read is not told
pub line_read : (line : List ℕ) (said : Option Entry) → line_of line ≡ Ok said → unjudged line ≡ Silent
unfolding fate_of
line_read line None is = ap (said_fate (λ octets. Silent)) is
line_read line (Some e) is = ap (said_fate (λ octets. Silent)) is

pub line_refused : (line : List ℕ) (why : LogRefusal) → line_of line ≡ Err why → unjudged line ≡ Refused why
unfolding fate_of
line_refused line why is = ap (said_fate (λ octets. Silent)) is

-- what it says
pub entry_read : (line : List ℕ) (said : Option Entry) → line_of line ≡ Ok said → entry_on line ≡ said
unfolding entry_on
entry_read line said is = ap said_entry is

pub entry_refused : (line : List ℕ) (why : LogRefusal) → line_of line ≡ Err why → entry_on line ≡ None
unfolding entry_on
entry_refused line why is = ap said_entry is

pub heard_nothing : (Heard : List Entry → Type 0) (line : List ℕ) (entries : List Entry) → entry_on line ≡ None → Heard entries
    → Heard (entries ++ entries_on (line ∷ []))
heard_nothing Heard line entries none h =
    subst (λ more. Heard (entries ++ cons_option more [])) (sym none) (subst Heard (sym (append-nil entries)) h)

pub heard_entry : {A E : Type 0} (r : Result A E) (Heard : List Entry → Type 0) (line : List ℕ) (entries : List Entry) (e : Entry)
    → entry_on line ≡ Some e → OnOk r (Heard (entries ++ e ∷ [])) → OnOk r (Heard (entries ++ entries_on (line ∷ [])))
heard_entry r Heard line entries e some h =
    subst (λ more. OnOk r (Heard (entries ++ cons_option more []))) (sym some) h

-- of a line that is too long as much was kept as says so
entries_kept : (line : List ℕ) → entries_on (take 65537 line ∷ []) ≡ entries_on (line ∷ [])
unfolding entry_on
entries_kept line = ap (λ read. cons_option (said_entry read) []) (line_kept line)

-- ---- one line more

-- what is heard of a line that was kept is heard behind all that was heard before
line_heard : (Before After : List Entry → Type 0) (lines : List (List ℕ)) (kept line : List ℕ) (t u : Tally)
    → kept ≡ take 65537 line → AreHeard Before lines t → u ≡ tally_with (unjudged kept) t
    → (Before (entries_on lines) → After (entries_on lines ++ entries_on (kept ∷ [])))
    → AreHeard After (lines ++ line ∷ []) u
line_heard Before After lines kept line t u there h one more = record {
  entries = subst After
      (ap (λ (l : List ℕ). entries_on lines ++ entries_on (l ∷ [])) there
      ∙ ap (λ (es : List Entry). entries_on lines ++ es) (entries_kept line)
      ∙ sym (filter_map-append entry_on lines (line ∷ [])))
      (more h.entries);
  tallied = tallied_more unjudged lines line t u h.tallied (tally_whole (λ octets. Silent) kept line t u there one);
}

-- nothing was read
pub heard_none : (Heard : List Entry → Type 0) (p : Listening) → Heard [] → p.kept.items ≡ []
    → p.tally ≡ no_tally (no_groups Nothing) → HasHeard Heard [] p
heard_none Heard p silent empty untold = record {
  lines = [];
  rest = [];
  split = λ later. refl;
  endless = All-nil (λ c. is_line_feed c ≡ false);
  kept = empty;
  heard = record {
    entries = silent;
    tallied = subst (IsTally []) (sym untold) (none_told (no_groups Nothing) refl);
  };
}

-- a part that no line feed ends
pub keeps_open : (Heard : List Entry → Type 0) (octets part : List ℕ) (p q : Listening) → HasHeard Heard octets p
    → IsLinePart part → ends_line part ≡ false
    → q.kept.items ≡ p.kept.items ++ take (65537 - length p.kept.items) part → q.tally ≡ p.tally
    → HasHeard Heard (octets ++ part) q
keeps_open Heard octets part p q h line other more tally = record {
  lines = h.lines;
  rest = h.rest ++ part;
  split = split_on octets part h.rest h.lines h.split;
  endless = All-append (λ c. is_line_feed c ≡ false) h.rest part h.endless (part_endless part line other);
  kept = kept_on p.kept.items q.kept.items h.rest part h.kept more;
  heard = subst (AreHeard Heard h.lines) (sym tally) h.heard;
}

-- a part that a line feed ends
pub hears_line : {A E : Type 0} (r : Result A E) (Before After : List Entry → Type 0) (octets part kept : List ℕ)
    (p q : Listening) → HasHeard Before octets p → IsLinePart part → ends_line part ≡ true
    → kept ≡ p.kept.items ++ take (65537 - length p.kept.items) part → q.kept.items ≡ []
    → q.tally ≡ tally_with (unjudged kept) p.tally
    → ((entries : List Entry) → Before entries → OnOk r (After (entries ++ entries_on (kept ∷ []))))
    → OnOk r (HasHeard After (octets ++ part) q)
hears_line (Ok done) Before After octets part kept p q h line ended more empty one heard =
    let whole : List ℕ = h.rest ++ part in
    let there : kept ≡ take 65537 whole = kept_on p.kept.items kept h.rest part h.kept more in
    record {
      lines = h.lines ++ whole ∷ [];
      rest = [];
      split = λ later. split_on octets part h.rest h.lines h.split later
          ∙ ap (λ (ls : List (List ℕ)). h.lines ++ ls) (ended_first h.rest part later h.endless line ended)
          ∙ sym (append_assoc h.lines (whole ∷ []) (log_lines later));
      endless = All-nil (λ c. is_line_feed c ≡ false);
      kept = empty;
      heard = line_heard Before After h.lines kept whole p.tally q.tally there h.heard one (heard (entries_on h.lines));
    }
hears_line (Err e) Before After octets part kept p q h line ended more empty one heard = tt

-- ---- the last line

-- there is none
pub ends_without : (Heard : List Entry → Type 0) (octets : List ℕ) (p : Listening) → HasHeard Heard octets p
    → length p.kept.items ≡ 0 → AreHeard Heard (log_lines octets) p.tally
ends_without Heard octets p h empty =
    let lines : log_lines octets ≡ h.lines =
    lines_at_end octets h.rest h.lines h.split h.endless
    ∙ ap (λ (last : List (List ℕ)). h.lines ++ last) (no_rest h.rest (sym (ap length h.kept) ∙ empty)) ∙ append-nil h.lines in
    subst (λ (ls : List (List ℕ)). AreHeard Heard ls p.tally) (sym lines) h.heard

-- it is heard
pub ends_with : (Before After : List Entry → Type 0) (octets : List ℕ) (p : Listening) (tally : Tally)
    → HasHeard Before octets p → 0 < length p.kept.items → tally ≡ tally_with (unjudged p.kept.items) p.tally
    → ((entries : List Entry) → Before entries → After (entries ++ entries_on (p.kept.items ∷ [])))
    → AreHeard After (log_lines octets) tally
ends_with Before After octets p tally h some one heard =
    let lines : log_lines octets ≡ h.lines ++ h.rest ∷ [] =
    lines_at_end octets h.rest h.lines h.split h.endless ∙ ap (λ (last : List (List ℕ)). h.lines ++ last)
    (some_rest h.rest (subst (λ (k : List ℕ). 0 < length k) h.kept some)) in
    subst (λ (ls : List (List ℕ)). AreHeard After ls tally) (sym lines)
    (line_heard Before After h.lines p.kept.items h.rest p.tally tally h.kept h.heard one (heard (entries_on h.lines)))

-- ---- part after part

pub listens : (Heard : List Entry → Type 0) (a : Option (List ℕ)) (rest : List ℕ) (p : Listening) (parts : ℕ)
    → rest ≡ [] → HasHeard Heard [] p → parts ≡ 0 → IsListening Heard a a rest p parts
listens Heard a rest p parts none h zero_parts = record {
  octets = [];
  consumed = subst (Consumes a a) (sym none) (consumed_nothing a);
  heard = h;
  some = omega arith;
}

pub listens_on : (Before After : List Entry → Type 0) (a b c : Option (List ℕ)) (rest : List ℕ) (now : Ahead) (p q : Listening)
    (parts more : ℕ) → more ≤ parts + 1 → (way : IsListening Before a b rest p parts) → IsNextPart b c rest now
    → ((octets : List ℕ) → HasHeard Before octets p → HasHeard After (octets ++ now.part) q)
    → IsListening After a c now.rest q more
listens_on Before After a b c rest now p q parts more fewer way next taken = record {
  octets = way.octets ++ now.part;
  consumed = given_more a b c way.octets rest now way.consumed next;
  heard = taken way.octets way.heard;
  some = let one = next.line.some in let so_far = way.some in omega (arith, length-append way.octets now.part);
}

-- where no memory was wanting, a part was heard
pub taken_fine : {A E : Type 0} (r : Result A E) (P : List ℕ → Type 0) (Q : List ℕ → Type 0) → is_err r ≡ false
    → ((octets : List ℕ) → P octets → OnOk r (Q octets)) → (octets : List ℕ) → P octets → Q octets
taken_fine (Ok done) P Q fine taken = taken
taken_fine (Err e) P Q failed taken = absurd (true≢false failed)

-- memory was wanting at a part
pub part_unheard : (Heard : List Entry → Type 0) (a b c : Option (List ℕ)) (rest : List ℕ) (now : Ahead) (p : Listening)
    (parts : ℕ) (read_failed : Bool) → IsListening Heard a b rest p parts → IsNextPart b c rest now
    → IsPartlyHeard a c read_failed OutOfMemory
part_unheard Heard a b c rest now p parts read_failed way next = record {
  log = (way.octets ++ now.part) ++ now.rest;
  consumed = given_more a b c way.octets rest now way.consumed next;
  fault = tt;
}
