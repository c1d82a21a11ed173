-- How far a log was judged, with one part of a line more.
use Rattle.std.proofs.Common.{◌≡◌, ℕ, ◌-◌, ◌<◌, ◌≤◌, ◌==◌, Bool, true, false, true≢false, List, [], ◌∷◌, ◌++◌, length, take}
use Rattle.std.proofs.Common.{map, Option, Result, Ok, Err, refl, sym, ap, ◌∙◌, subst}
use Rattle.std.proofs.Common.{append_assoc, append-nil, arith}
use Rattle.std.specs.Io.KnownBytes.{Appends}
use Rattle.std.proofs.lemmas.List.{take_all, length-take}
use Rattle.std.proofs.lemmas.List.Elements.{All-append, All-nil}
use Rattle.gw_input.specs.Lines.{is_line_feed}
use Rattle.gw_judge.specs.declared.fate.Fate.{Fate}
use Rattle.gw_judge.specs.declared.fault.JudgeFault.{JudgeFault}
use Rattle.gw_judge.specs.declared.fault.JudgeFault.TheVariants.{ReadFault, WriteFault, Refused}
use Rattle.gw_judge.specs.declared.judging.Judging.{Judging}
use Rattle.gw_judge.specs.Grouped.{Grouped, no_groups}
use Rattle.gw_judge.specs.Fates.{is_refused, fate_of}
use Rattle.gw_judge.specs.Tallies.{IsTally}
use Rattle.gw_judge.specs.Counting.{no_tally, tally_with}
use Rattle.gw_judge.specs.Judged.{log_lines, last_line, line_text, written_of}
use Rattle.gw_judge.specs.LineParts.{IsEndless, IsLinePart, ends_line}
use Rattle.gw_judge.specs.UnderWay.{Puts, Judges, AreJudged, HasJudged, Begins, Reaches, Closes}
use Rattle.gw_judge.proofs.Gathering.{appended_nothing}
use Rattle.gw_judge.proofs.Lines.{rest_alone, written_more, written_none}
use Rattle.gw_judge.proofs.Lines.{part_endless}
use Rattle.gw_judge.proofs.Counting.{none_told}
use Rattle.gw_judge.proofs.JudgedLines.{held_more, line_judged, line_fails, kept_on, split_on, ended_first, judged_whole}
use Rattle.gw_judge.proofs.JudgedLines.{tally_whole}

-- ---- one part more

-- nothing was read
pub judged_nothing : (fate : List ℕ → Fate) (front : Fate → Option (List ℕ)) (strict : Bool) (p : Judging) (groups : Grouped)
    → groups ≡ no_groups groups.grouping → p.kept.items ≡ [] → p.gathered.held.items ≡ [] → p.tally ≡ no_tally groups
    → HasJudged fate front strict [] p []
judged_nothing fate front strict p groups fresh empty none untold = record {
  lines = [];
  rest = [];
  split = λ later. refl;
  endless = All-nil (λ c. is_line_feed c ≡ false);
  kept = empty;
  judged = record {
    tallied = subst (IsTally []) (sym untold) (none_told groups fresh);
    written = none ∙ sym (written_none fate front);
    fine = λ strictly. All-nil (λ line. is_refused (fate line) ≡ false);
  };
}

-- what was written stands in front of whatever follows
pub begins : (fate : List ℕ → Fate) (front : Fate → Option (List ℕ)) (strict : Bool) (octets : List ℕ) (p : Judging)
    (text : List ℕ) → HasJudged fate front strict octets p text → (later : List ℕ) → Begins fate front (octets ++ later) text
begins fate front strict octets p text h later =
    let behind : List ℕ = written_of fate front (log_lines (h.rest ++ later)) in
    let held : List ℕ = p.gathered.held.items in
    record {
      tail = held ++ behind;
      whole = ap (written_of fate front) (h.split later) ∙ written_more fate front h.lines (log_lines (h.rest ++ later))
          ∙ ap (λ (xs : List ℕ). xs ++ behind) (sym h.judged.written) ∙ append_assoc text held behind;
    }

-- a part that no line feed ends
pub takes_open : (fate : List ℕ → Fate) (front : Fate → Option (List ℕ)) (strict : Bool)
    (octets part text : List ℕ) (w : Option (List ℕ)) (p q : Judging)
    → HasJudged fate front strict octets p text → IsLinePart part → ends_line part ≡ false
    → q.kept.items ≡ p.kept.items ++ take (65537 - length p.kept.items) part → q.gathered ≡ p.gathered → q.tally ≡ p.tally
    → (more : List ℕ) × Appends w w more × HasJudged fate front strict (octets ++ part) q (text ++ more)
takes_open fate front strict octets part text w p q h line other more gathered tally =
    let Done : List ℕ → Type 0 = λ said. AreJudged fate front strict h.lines q.tally said q.gathered.held.items in
    let same : AreJudged fate front strict h.lines q.tally text q.gathered.held.items =
    rw (gathered, tally) h.judged in (
      [],
      appended_nothing w,
      record {
        lines = h.lines;
        rest = h.rest ++ part;
        split = split_on octets part h.rest h.lines h.split;
        endless = All-append (λ c. is_line_feed c ≡ false) h.rest part h.endless (part_endless part line other);
        kept = kept_on p.kept.items q.kept.items h.rest part h.kept more;
        judged = subst Done (sym (append-nil text)) same;
      },
    )

-- a part that a line feed ends is a line by itself where nothing is kept

pub none_kept : (kept : List ℕ) → length kept ≡ 0 → kept ≡ []
none_kept [] none = refl
none_kept (c ∷ kept) none = absurd (omega (arith, none))

pub whole_part : (kept part : List ℕ) → length kept ≡ 0 → length part ≤ 65537
    → part ≡ kept ++ take (65537 - length kept) part
whole_part [] part none fits = sym (take_all 65537 part fits)
whole_part (c ∷ kept) part none fits = absurd (omega (arith, none))

-- a part that a line feed ends
pub takes_line : {A : Type 0} (r : Result A JudgeFault) (by : List ℕ → Fate) (front : Fate → Option (List ℕ)) (strict : Bool)
    (octets part text kept : List ℕ) (w x : Option (List ℕ)) (failed : Bool) (p q : Judging)
    → HasJudged (fate_of by) front strict octets p text → IsLinePart part → ends_line part ≡ true
    → kept ≡ p.kept.items ++ take (65537 - length p.kept.items) part → q.kept.items ≡ []
    → q.tally ≡ tally_with (fate_of by kept) p.tally
    → Judges (fate_of by kept) (line_text front (fate_of by kept) kept) strict q.tally.lines w x failed
    p.gathered.held.items r q.gathered.held.items
    → Reaches (fate_of by) front strict (octets ++ part) text w x failed r q
takes_line (Ok done) by front strict octets part text kept w x failed p q h line ended more empty one judged =
    let whole : List ℕ = h.rest ++ part in
    let there : kept ≡ take 65537 whole = kept_on p.kept.items kept h.rest part h.kept more in
    let reached = line_judged done (fate_of by) front strict h.lines whole p.tally q.tally text p.gathered.held.items
    q.gathered.held.items w x failed h.judged (tally_whole by kept whole p.tally q.tally there one)
    (judged_whole (Ok done) by front strict kept whole q.tally.lines w x failed p.gathered.held.items q.gathered.held.items
    there judged) in (
      reached.0,
      reached.1,
      record {
        lines = h.lines ++ whole ∷ [];
        rest = [];
        split = λ later. split_on octets part h.rest h.lines h.split later
            ∙ ap (λ (ls : List (List ℕ)). h.lines ++ ls) (ended_first h.rest part later h.endless line ended)
            ∙ sym (append_assoc h.lines (whole ∷ []) (log_lines later));
        endless = All-nil (λ c. is_line_feed c ≡ false);
        kept = empty;
        judged = reached.2;
      },
    )
takes_line {A} (Err fault) by front strict octets part text kept w x failed p q h line ended more empty one judged =
    let whole : List ℕ = h.rest ++ part in
    let there : kept ≡ take 65537 whole = kept_on p.kept.items kept h.rest part h.kept more in
    λ later. line_fails A fault (fate_of by) front strict h.lines whole p.tally q.tally text p.gathered.held.items
    q.gathered.held.items w x failed ((octets ++ part) ++ later) (log_lines later)
    (split_on octets part h.rest h.lines h.split later
    ∙ ap (λ (ls : List (List ℕ)). h.lines ++ ls) (ended_first h.rest part later h.endless line ended))
    h.judged (tally_whole by kept whole p.tally q.tally there one)
    (judged_whole {A = A} (Err fault) by front strict kept whole q.tally.lines w x failed p.gathered.held.items
    q.gathered.held.items there judged)

-- ---- what is held is written

pub flushes : {A : Type 0} (r : Result A JudgeFault) (fate : List ℕ → Fate) (front : Fate → Option (List ℕ)) (strict : Bool)
    (octets text : List ℕ) (w x : Option (List ℕ)) (failed : Bool) (p q : Judging)
    → HasJudged fate front strict octets p text → q.kept.items ≡ p.kept.items → q.tally ≡ p.tally
    → Puts w x failed p.gathered.held.items [] r q.gathered.held.items
    → Reaches fate front strict octets text w x failed r q
unfolding begins
flushes (Ok done) fate front strict octets text w x failed p q h kept tally put = (
  put.1.0,
  put.1.1,
  record {
    lines = h.lines;
    rest = h.rest;
    split = h.split;
    endless = h.endless;
    kept = kept ∙ h.kept;
    judged = record {
      tallied = subst (IsTally (map fate h.lines)) (sym tally) h.judged.tallied;
      written = held_more text p.gathered.held.items [] put.1.0 q.gathered.held.items (written_of fate front h.lines) put.1.2
          h.judged.written ∙ append-nil (written_of fate front h.lines);
      fine = h.judged.fine;
    };
  },
)
flushes (Err WriteFault) fate front strict octets text w x failed p q h kept tally put =
    let held : List ℕ = p.gathered.held.items in
    λ later. let b = begins fate front strict octets p text h later in
    let behind : List ℕ = written_of fate front (log_lines (h.rest ++ later)) in (
      put.0,
      (
        held ++ [],
        put.1,
        record {
          tail = behind;
          whole = b.whole ∙ sym (append_assoc text held behind)
              ∙ ap (λ (xs : List ℕ). (text ++ xs) ++ behind) (sym (append-nil held));
        },
      ),
    )
flushes (Err ReadFault) fate front strict octets text w x failed p q h kept tally put = absurd put
flushes (Err (Refused refused)) fate front strict octets text w x failed p q h kept tally put = absurd put

-- nothing is written
pub stays_judged : (fate : List ℕ → Fate) (front : Fate → Option (List ℕ)) (strict : Bool) (octets text : List ℕ)
    (w : Option (List ℕ)) (p : Judging) → HasJudged fate front strict octets p text
    → (more : List ℕ) × Appends w w more × HasJudged fate front strict octets p (text ++ more)
stays_judged fate front strict octets text w p h =
    ([], appended_nothing w, subst (HasJudged fate front strict octets p) (sym (append-nil text)) h)

-- ---- the last line

pub lines_at_end : (octets rest : List ℕ) (lines : List (List ℕ))
    → ((later : List ℕ) → log_lines (octets ++ later) ≡ lines ++ log_lines (rest ++ later)) → IsEndless rest
    → log_lines octets ≡ lines ++ last_line rest
lines_at_end octets rest lines split endless =
    ap log_lines (sym (append-nil octets)) ∙ split [] ∙ ap (λ (r : List ℕ). lines ++ log_lines r) (append-nil rest)
    ∙ ap (λ (last : List (List ℕ)). lines ++ last) (rest_alone rest endless)

pub no_rest : (rest : List ℕ) → length (take 65537 rest) ≡ 0 → last_line rest ≡ []
no_rest [] none = refl
no_rest (c ∷ cs) none = absurd (omega (arith, length-take 65537 (c ∷ cs)))

pub some_rest : (rest : List ℕ) → 0 < length (take 65537 rest) → last_line rest ≡ rest ∷ []
some_rest [] some = absurd (omega arith)
some_rest (c ∷ cs) some = refl

pub some_octets : (xs : List ℕ) → (length xs == 0) ≡ false → 0 < length xs
some_octets [] none = absurd (true≢false none)
some_octets (x ∷ xs) some = omega arith

-- there is none
pub closes_without : (fate : List ℕ → Fate) (front : Fate → Option (List ℕ)) (strict : Bool) (octets text : List ℕ)
    (w : Option (List ℕ)) (p : Judging) → HasJudged fate front strict octets p text → length p.kept.items ≡ 0
    → (more : List ℕ) × Appends w w more
    × AreJudged fate front strict (log_lines octets) p.tally (text ++ more) p.gathered.held.items
closes_without fate front strict octets text w p h empty =
    let held : List ℕ = p.gathered.held.items in
    let lines : log_lines octets ≡ h.lines =
    lines_at_end octets h.rest h.lines h.split h.endless
    ∙ ap (λ (last : List (List ℕ)). h.lines ++ last) (no_rest h.rest (sym (ap length h.kept) ∙ empty)) ∙ append-nil h.lines in (
      [],
      appended_nothing w,
      subst (λ (said : List ℕ). AreJudged fate front strict (log_lines octets) p.tally said held) (sym (append-nil text))
          (subst (λ (ls : List (List ℕ)). AreJudged fate front strict ls p.tally text held) (sym lines) h.judged),
    )

-- it is judged
pub closes_with : {A : Type 0} (r : Result A JudgeFault) (by : List ℕ → Fate) (front : Fate → Option (List ℕ)) (strict : Bool)
    (octets text : List ℕ) (w x : Option (List ℕ)) (failed : Bool) (p q : Judging)
    → HasJudged (fate_of by) front strict octets p text → 0 < length p.kept.items
    → q.tally ≡ tally_with (fate_of by p.kept.items) p.tally
    → Judges (fate_of by p.kept.items) (line_text front (fate_of by p.kept.items) p.kept.items) strict q.tally.lines w x failed
    p.gathered.held.items r q.gathered.held.items
    → Closes (fate_of by) front strict octets text w x failed r q
closes_with (Ok done) by front strict octets text w x failed p q h some one judged =
    let lines : log_lines octets ≡ h.lines ++ h.rest ∷ [] =
    lines_at_end octets h.rest h.lines h.split h.endless ∙ ap (λ (last : List (List ℕ)). h.lines ++ last)
    (some_rest h.rest (subst (λ (k : List ℕ). 0 < length k) h.kept some)) in
    let reached = line_judged done (fate_of by) front strict h.lines h.rest p.tally q.tally text p.gathered.held.items
    q.gathered.held.items w x failed h.judged (tally_whole by p.kept.items h.rest p.tally q.tally h.kept one)
    (judged_whole (Ok done) by front strict p.kept.items h.rest q.tally.lines w x failed p.gathered.held.items
    q.gathered.held.items h.kept judged) in (
      reached.0,
      reached.1,
      subst (λ (ls : List (List ℕ)). AreJudged (fate_of by) front strict ls q.tally (text ++ reached.0) q.gathered.held.items)
          (sym lines) reached.2,
    )
closes_with {A} (Err fault) by front strict octets text w x failed p q h some one judged =
    let lines : log_lines octets ≡ h.lines ++ h.rest ∷ [] =
    lines_at_end octets h.rest h.lines h.split h.endless ∙ ap (λ (last : List (List ℕ)). h.lines ++ last)
    (some_rest h.rest (subst (λ (k : List ℕ). 0 < length k) h.kept some)) in
    line_fails A fault (fate_of by) front strict h.lines h.rest p.tally q.tally text p.gathered.held.items
    q.gathered.held.items w x failed octets [] lines h.judged
    (tally_whole by p.kept.items h.rest p.tally q.tally h.kept one)
    (judged_whole {A = A} (Err fault) by front strict p.kept.items h.rest q.tally.lines w x failed p.gathered.held.items
    q.gathered.held.items h.kept judged)
