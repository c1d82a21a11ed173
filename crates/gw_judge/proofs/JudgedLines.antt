-- A log whose lines are judged, with one judged line more; and the line that is unfinished.
use Rattle.std.proofs.Common.{◌≡◌, ℕ, ◌-◌, Bool, true, false, List, [], ◌∷◌, ◌++◌, length, take}
use Rattle.std.proofs.Common.{zero, suc, map, Option, Result, Ok, Err, refl, sym, ap, ◌∙◌, subst}
use Rattle.std.proofs.Common.{append_assoc, append-nil}
use Rattle.std.specs.Io.KnownBytes.{Appends}
use Rattle.std.proofs.lemmas.List.{length-append, length-map, map_push}
use Rattle.std.proofs.lemmas.List.Elements.{All-append, All-push}
use native.Mathlib.Numerals.{unary_clauses}
use Rattle.gw_input.specs.Lines.{is_line_feed}
use Rattle.gw_judge.specs.declared.fate.Fate.{Fate}
use Rattle.gw_judge.specs.declared.tally.Tally.{Tally}
use Rattle.gw_judge.specs.declared.fault.JudgeFault.{JudgeFault}
use Rattle.gw_judge.specs.declared.fault.JudgeFault.TheVariants.{ReadFault, WriteFault, Refused}
use Rattle.gw_judge.specs.Fates.{is_refused, fate_of}
use Rattle.gw_judge.specs.Tallies.{up_to_most, IsTally}
use Rattle.gw_judge.specs.Counting.{tally_with}
use Rattle.gw_judge.specs.Judged.{log_lines, line_text, written_of}
use Rattle.gw_judge.specs.LineParts.{IsEndless, IsLinePart, ends_line}
use Rattle.gw_judge.specs.UnderWay.{Judges, AreJudged, Fails}
use Rattle.gw_judge.proofs.Lines.{ended_line_first, written_more, written_first, written_none, fate_kept, text_kept}
use Rattle.gw_judge.proofs.Lines.{part_ended}
use Rattle.gw_judge.proofs.Counting.{tally_more}

-- ---- one line more

-- what is written of lines is that of the first, and of the others
before_last : (fate : List ℕ → Fate) (front : Fate → Option (List ℕ)) (lines : List (List ℕ)) (line : List ℕ)
    (later : List (List ℕ)) → written_of fate front (lines ++ line ∷ later)
    ≡ written_of fate front lines ++ (line_text front (fate line) line ++ written_of fate front later)
before_last fate front lines line later =
    written_more fate front lines (line ∷ later)
    ∙ ap (λ (said : List ℕ). written_of fate front lines ++ said) (written_first fate front line later)

-- a text and what is held, with a text put behind them
pub held_more : (text held said more now written : List ℕ) → held ++ said ≡ more ++ now → text ++ held ≡ written
    → (text ++ more) ++ now ≡ written ++ said
held_more text held said more now written put before =
    append_assoc text more now ∙ ap (λ (xs : List ℕ). text ++ xs) (sym put) ∙ sym (append_assoc text held said)
    ∙ ap (λ (xs : List ℕ). xs ++ said) before

pub tallied_more : (fate : List ℕ → Fate) (lines : List (List ℕ)) (line : List ℕ) (t u : Tally) → IsTally (map fate lines) t
    → u ≡ tally_with (fate line) t → IsTally (map fate (lines ++ line ∷ [])) u
tallied_more fate lines line t u told one =
    subst (IsTally (map fate (lines ++ line ∷ []))) (sym one)
    (subst (λ told. IsTally told (tally_with (fate line) t)) (sym (map_push fate lines line))
    (tally_more (map fate lines) (fate line) t told))

pub line_judged : {A : Type 0} (done : A) (fate : List ℕ → Fate) (front : Fate → Option (List ℕ)) (strict : Bool)
    (lines : List (List ℕ)) (line : List ℕ) (t u : Tally) (text held now : List ℕ) (w x : Option (List ℕ)) (failed : Bool)
    → AreJudged fate front strict lines t text held → u ≡ tally_with (fate line) t
    → Judges (fate line) (line_text front (fate line) line) strict u.lines w x failed held (Ok done) now
    → (more : List ℕ) × Appends w x more × AreJudged fate front strict (lines ++ line ∷ []) u (text ++ more) now
line_judged done fate front strict lines line t u text held now w x failed h one judged =
    let said : List ℕ = line_text front (fate line) line in
    let more = judged.1.1.0 in (
      more,
      judged.1.1.1,
      record {
        tallied = tallied_more fate lines line t u h.tallied one;
        written = held_more text held said more now (written_of fate front lines) judged.1.1.2 h.written
            ∙ sym (before_last fate front lines line []
            ∙ ap (λ (xs : List ℕ). written_of fate front lines ++ xs)
            (ap (λ (xs : List ℕ). said ++ xs) (written_none fate front) ∙ append-nil said));
        fine = λ strictly. All-push (λ l. is_refused (fate l) ≡ false) lines line (h.fine strictly) (judged.0 strictly);
      },
    )

-- or judging ends at it, whatever lines follow
pub line_fails : (A : Type 0) (fault : JudgeFault) (fate : List ℕ → Fate) (front : Fate → Option (List ℕ)) (strict : Bool)
    (lines : List (List ℕ)) (line : List ℕ) (t u : Tally) (text held now : List ℕ) (w x : Option (List ℕ)) (failed : Bool)
    (log : List ℕ) (later : List (List ℕ)) → log_lines log ≡ lines ++ line ∷ later
    → AreJudged fate front strict lines t text held → u ≡ tally_with (fate line) t
    → Judges {A = A} (fate line) (line_text front (fate line) line) strict u.lines w x failed held (Err fault) now
    → Fails fate front strict log text w x failed fault
line_fails A WriteFault fate front strict lines line t u text held now w x failed log later split h one judged =
    let said : List ℕ = line_text front (fate line) line in
    let tail : List ℕ = written_of fate front later in (
      judged.0,
      (
        held ++ said,
        judged.1,
        record {
          tail = tail;
          whole = ap (written_of fate front) split ∙ before_last fate front lines line later
              ∙ ap (λ (xs : List ℕ). xs ++ (said ++ tail)) (sym h.written) ∙ append_assoc text held (said ++ tail)
              ∙ ap (λ (xs : List ℕ). text ++ xs) (sym (append_assoc held said tail))
              ∙ sym (append_assoc text (held ++ said) tail);
        },
      ),
    )
line_fails A ReadFault fate front strict lines line t u text held now w x failed log later split h one judged = absurd judged
line_fails A (Refused refused) fate front strict lines line t u text held now w x failed log later split h one judged = (
  judged.0,
  (
    held,
    judged.3,
    record {
      lines = lines;
      line = line;
      more = later;
      split = split;
      fine = h.fine judged.0;
      why = judged.1;
      number = judged.2 ∙ (tallied_more fate lines line t u h.tallied one).lines
          ∙ ap up_to_most (length-map (lines ++ line ∷ []) fate ∙ length-append lines (line ∷ []));
      written = h.written;
    },
  ),
)

-- ---- the unfinished line

-- what is kept with more octets behind it
kept_more : (n : ℕ) (rest part : List ℕ) → take n rest ++ take (n - length (take n rest)) part ≡ take n (rest ++ part)
kept_more zero rest part = refl
kept_more (suc n) [] part = simp unary_clauses refl
kept_more (suc n) (c ∷ rest) part = ap (λ (kept : List ℕ). c ∷ kept) (simp unary_clauses (kept_more n rest part))

pub kept_on : (before after rest part : List ℕ) → before ≡ take 65537 rest
    → after ≡ before ++ take (65537 - length before) part → after ≡ take 65537 (rest ++ part)
kept_on before after rest part kept more =
    more ∙ ap (λ (xs : List ℕ). xs ++ take (65537 - length xs) part) kept ∙ kept_more 65537 rest part

-- where the lines behind more octets begin
pub split_on : (octets part rest : List ℕ) (lines : List (List ℕ))
    → ((later : List ℕ) → log_lines (octets ++ later) ≡ lines ++ log_lines (rest ++ later))
    → (later : List ℕ) → log_lines ((octets ++ part) ++ later) ≡ lines ++ log_lines ((rest ++ part) ++ later)
split_on octets part rest lines split later =
    ap log_lines (append_assoc octets part later) ∙ split (part ++ later)
    ∙ ap (λ (text : List ℕ). lines ++ log_lines text) (sym (append_assoc rest part later))

-- a line that a part ends is the first of what follows
pub ended_first : (rest part later : List ℕ) → IsEndless rest → IsLinePart part → ends_line part ≡ true
    → log_lines ((rest ++ part) ++ later) ≡ (rest ++ part) ∷ log_lines later
ended_first rest part later endless line ended =
    let front = take (length part - 1) part in
    let whole : rest ++ part ≡ (rest ++ front) ++ 10 ∷ [] =
    ap (λ (xs : List ℕ). rest ++ xs) (part_ended part line.some ended) ∙ sym (append_assoc rest front (10 ∷ [])) in
    let all : IsEndless (rest ++ front) = All-append (λ c. is_line_feed c ≡ false) rest front endless line.front in
    subst (λ (l : List ℕ). log_lines (l ++ later) ≡ l ∷ log_lines later) (sym whole)
    (ended_line_first (rest ++ front) later all)

-- what is said of the octets that are kept is said of the line
pub judged_whole : {A : Type 0} (r : Result A JudgeFault) (by : List ℕ → Fate) (front : Fate → Option (List ℕ)) (strict : Bool)
    (kept line : List ℕ) (number : ℕ) (w x : Option (List ℕ)) (failed : Bool) (held now : List ℕ) → kept ≡ take 65537 line
    → Judges (fate_of by kept) (line_text front (fate_of by kept) kept) strict number w x failed held r now
    → Judges (fate_of by line) (line_text front (fate_of by line) line) strict number w x failed held r now
judged_whole r by front strict kept line number w x failed held now there judged =
    let fate_is = ap (fate_of by) there ∙ fate_kept by line in
    let text_is = ap (λ (l : List ℕ). line_text front (fate_of by l) l) there ∙ text_kept by front line in
    subst (λ f. Judges f (line_text front (fate_of by line) line) strict number w x failed held r now) fate_is
    (subst (λ (said : List ℕ). Judges (fate_of by kept) said strict number w x failed held r now) text_is judged)

pub tally_whole : (by : List ℕ → Fate) (kept line : List ℕ) (t u : Tally) → kept ≡ take 65537 line
    → u ≡ tally_with (fate_of by kept) t → u ≡ tally_with (fate_of by line) t
tally_whole by kept line t u there one = one ∙ ap (λ f. tally_with f t) (ap (fate_of by) there ∙ fate_kept by line)
