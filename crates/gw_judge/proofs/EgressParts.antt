-- How far what leaves of a log was written, with one part of a line more.
use Rattle.std.proofs.Common.{◌≡◌, ℕ, ◌-◌, ◌<◌, Bool, true, false, List, [], ◌∷◌, ◌++◌, length, reverse, take}
use Rattle.std.proofs.Common.{Option, Result, Ok, Err, refl, sym, ap, ◌∙◌, subst, append_assoc, append-nil}
use Rattle.std.specs.Io.KnownBytes.{Appends}
use Rattle.std.proofs.lemmas.List.{reverse-append, reverse-reverse}
use Rattle.std.proofs.lemmas.List.Elements.{All-append, All-nil}
use Rattle.gw_input.specs.Lines.{is_line_feed}
use Rattle.gw_log.specs.LogLines.{Reading, line_of}
use Rattle.gw_policy.specs.Batches.{Pair}
use Rattle.gw_judge.specs.declared.interfaces.NamedInterface.{NamedInterface}
use Rattle.gw_judge.specs.declared.fault.JudgeFault.{JudgeFault}
use Rattle.gw_judge.specs.declared.fault.JudgeFault.TheVariants.{ReadFault, WriteFault, Refused}
use Rattle.gw_judge.specs.declared.egress.Egress.{Egress}
use Rattle.gw_judge.specs.Judged.{log_lines, last_line}
use Rattle.gw_judge.specs.LineParts.{IsLinePart, ends_line}
use Rattle.gw_judge.specs.Interfaces.{port_named, taken}
use Rattle.gw_judge.specs.Egress.{egress_text, heard_at, log_egress, reading_lines}
use Rattle.gw_judge.specs.UnderWay.{Puts}
use Rattle.gw_judge.specs.EgressUnderWay.{HasEgress, HearPorts, ReachesEgress, EndsEgress}
use Rattle.gw_judge.proofs.Gathering.{appended_nothing, puts_both, puts_failed}
use Rattle.gw_judge.proofs.Lines.{line_kept, part_endless, rest_alone}
use Rattle.gw_judge.proofs.JudgedLines.{held_more, kept_on, split_on, ended_first}
use Rattle.gw_judge.proofs.PartByPart.{no_rest, some_rest}

-- ---- what leaves of more lines

text_newest : (names : List NamedInterface) (batches : List (List Pair)) (line : List ℕ) (lines : List (List ℕ))
    → egress_text names batches (line ∷ lines)
    ≡ egress_text names batches lines ++ reading_lines names batches lines (line_of line)
unfolding egress_text
text_newest names batches line lines = refl

text_none : (names : List NamedInterface) (batches : List (List Pair)) → egress_text names batches [] ≡ []
unfolding egress_text
text_none names batches = refl

-- it stands behind what leaves of the lines before them
text_behind : (names : List NamedInterface) (batches : List (List Pair)) (more lines : List (List ℕ))
    → (tail : List ℕ) × (egress_text names batches (more ++ lines) ≡ egress_text names batches lines ++ tail)
text_behind names batches [] lines = ([], sym (append-nil (egress_text names batches lines)))
text_behind names batches (line ∷ more) lines =
    let before = text_behind names batches more lines in
    let last : List ℕ = reading_lines names batches (more ++ lines) (line_of line) in (
      before.0 ++ last,
      text_newest names batches line (more ++ lines) ∙ ap (λ (front : List ℕ). front ++ last) before.1
          ∙ append_assoc (egress_text names batches lines) before.0 last,
    )

-- the lines of a log, the newest first
log_newest : (names : List NamedInterface) (batches : List (List Pair)) (log : List ℕ) (lines later : List (List ℕ))
    → log_lines log ≡ reverse lines ++ later
    → log_egress names batches log ≡ egress_text names batches (reverse later ++ lines)
log_newest names batches log lines later split =
    ap (λ (ls : List (List ℕ)). egress_text names batches (reverse ls)) split
    ∙ ap (egress_text names batches) (reverse-append (reverse lines) later
    ∙ ap (λ (ls : List (List ℕ)). reverse later ++ ls) (reverse-reverse lines))

-- ---- one part more

-- nothing was read
pub nothing_taken : (names : List NamedInterface) (batches : List (List Pair)) (p : Egress) → p.kept.items ≡ []
    → p.gathered.held.items ≡ [] → HearPorts p.claims (λ port. []) → HasEgress names batches [] p []
nothing_taken names batches p empty none unheard = record {
  lines = [];
  rest = [];
  split = λ later. refl;
  endless = All-nil (λ c. is_line_feed c ≡ false);
  kept = empty;
  written = none ∙ sym (text_none names batches);
  heard = unheard;
}

-- what was written stands in front of whatever follows
pub begins_egress : (names : List NamedInterface) (batches : List (List Pair)) (octets : List ℕ) (p : Egress) (text : List ℕ)
    → HasEgress names batches octets p text → (later : List ℕ)
    → (tail : List ℕ) × (log_egress names batches (octets ++ later) ≡ (text ++ p.gathered.held.items) ++ tail)
begins_egress names batches octets p text h later =
    let more : List (List ℕ) = log_lines (h.rest ++ later) in
    let behind = text_behind names batches (reverse more) h.lines in (
      behind.0,
      log_newest names batches (octets ++ later) h.lines more (h.split later) ∙ behind.1
          ∙ ap (λ (front : List ℕ). front ++ behind.0) (sym h.written),
    )

-- a part that no line feed ends
pub takes_open_part : (names : List NamedInterface) (batches : List (List Pair)) (octets part text : List ℕ)
    (w : Option (List ℕ)) (p q : Egress) → HasEgress names batches octets p text → IsLinePart part → ends_line part ≡ false
    → q.kept.items ≡ p.kept.items ++ take (65537 - length p.kept.items) part → q.gathered ≡ p.gathered → q.claims ≡ p.claims
    → (more : List ℕ) × Appends w w more × HasEgress names batches (octets ++ part) q (text ++ more)
takes_open_part names batches octets part text w p q h line other more gathered claims = (
  [],
  appended_nothing w,
  record {
    lines = h.lines;
    rest = h.rest ++ part;
    split = split_on octets part h.rest (reverse h.lines) h.split;
    endless = All-append (λ c. is_line_feed c ≡ false) h.rest part h.endless (part_endless part line other);
    kept = kept_on p.kept.items q.kept.items h.rest part h.kept more;
    written = ap (λ (front : List ℕ). front ++ q.gathered.held.items) (append-nil text)
        ∙ ap (λ g. text ++ g.held.items) gathered ∙ h.written;
    heard = subst (λ c. HearPorts c (heard_at names h.lines)) (sym claims) h.heard;
  },
)

-- the lines, with one that a part ends
ended_more : (octets part rest : List ℕ) (lines : List (List ℕ))
    → ((later : List ℕ) → log_lines ((octets ++ part) ++ later) ≡ reverse lines ++ (rest ++ part) ∷ log_lines later)
    → (later : List ℕ) → log_lines ((octets ++ part) ++ later) ≡ reverse ((rest ++ part) ∷ lines) ++ log_lines later
ended_more octets part rest lines split later =
    let whole : List ℕ = rest ++ part in
    split later ∙ sym (append_assoc (reverse lines) (whole ∷ []) (log_lines later))
    ∙ ap (λ (ls : List (List ℕ)). ls ++ log_lines later) (sym (reverse-append (whole ∷ []) lines))

-- a part that a line feed ends
pub takes_ended_part : {A : Type 0} (r : Result A JudgeFault) (names : List NamedInterface) (batches : List (List Pair))
    (octets part text kept : List ℕ) (w x : Option (List ℕ)) (failed : Bool) (p q : Egress)
    → HasEgress names batches octets p text → IsLinePart part → ends_line part ≡ true
    → kept ≡ p.kept.items ++ take (65537 - length p.kept.items) part → q.kept.items ≡ []
    → ((lines : List (List ℕ)) → HearPorts p.claims (heard_at names lines) → HearPorts q.claims (heard_at names (kept ∷ lines)))
    → ((lines : List (List ℕ)) → HearPorts p.claims (heard_at names lines)
    → Puts w x failed p.gathered.held.items (reading_lines names batches lines (line_of kept)) r q.gathered.held.items)
    → ReachesEgress names batches (octets ++ part) text w x failed r q
takes_ended_part {A} r names batches octets part text kept w x failed p q h line ended more empty hears puts =
    go r (puts h.lines h.heard)
  where
    whole : List ℕ
    whole = h.rest ++ part

    same : line_of kept ≡ line_of whole
    same = ap line_of (kept_on p.kept.items kept h.rest part h.kept more) ∙ line_kept whole

    said : List ℕ
    said = reading_lines names batches h.lines (line_of kept)

    split : (later : List ℕ) → log_lines ((octets ++ part) ++ later) ≡ reverse (whole ∷ h.lines) ++ log_lines later
    split = ended_more octets part h.rest h.lines (λ later. split_on octets part h.rest (reverse h.lines) h.split later
        ∙ ap (λ (ls : List (List ℕ)). reverse h.lines ++ ls) (ended_first h.rest part later h.endless line ended))

    newest : egress_text names batches (whole ∷ h.lines) ≡ egress_text names batches h.lines ++ said
    newest = text_newest names batches whole h.lines
        ∙ ap (λ (reading : Reading). egress_text names batches h.lines ++ reading_lines names batches h.lines reading) (sym same)

    go : (s : Result A JudgeFault) → Puts w x failed p.gathered.held.items said s q.gathered.held.items
        → ReachesEgress names batches (octets ++ part) text w x failed s q
    go (Ok done) put = (
      put.1.0,
      put.1.1,
      record {
        lines = whole ∷ h.lines;
        rest = [];
        split = split;
        endless = All-nil (λ c. is_line_feed c ≡ false);
        kept = empty;
        written = held_more text p.gathered.held.items said put.1.0 q.gathered.held.items (egress_text names batches h.lines)
            put.1.2 h.written ∙ sym newest;
        heard = subst (λ (reading : Reading). HearPorts q.claims
            (λ port. taken (port_named names) port reading ++ heard_at names h.lines port)) same (hears h.lines h.heard);
      },
    )
    go (Err WriteFault) put = λ later.
        let held : List ℕ = p.gathered.held.items in
        let behind = text_behind names batches (reverse (log_lines later)) (whole ∷ h.lines) in (
          put.0,
          (
            held ++ said,
            put.1,
            record {
              tail = behind.0;
              whole = log_newest names batches ((octets ++ part) ++ later) (whole ∷ h.lines) (log_lines later) (split later)
                  ∙ behind.1 ∙ ap (λ (front : List ℕ). front ++ behind.0) (newest
                  ∙ ap (λ (front : List ℕ). front ++ said) (sym h.written) ∙ append_assoc text held said);
            },
          ),
        )
    go (Err ReadFault) put = absurd put
    go (Err (Refused refused)) put = absurd put

-- ---- what is held is written

pub flushes_egress : {A : Type 0} (r : Result A JudgeFault) (names : List NamedInterface) (batches : List (List Pair))
    (octets text : List ℕ) (w x : Option (List ℕ)) (failed : Bool) (p q : Egress) → HasEgress names batches octets p text
    → q.kept.items ≡ p.kept.items → q.claims ≡ p.claims → Puts w x failed p.gathered.held.items [] r q.gathered.held.items
    → ReachesEgress names batches octets text w x failed r q
flushes_egress (Ok done) names batches octets text w x failed p q h kept claims put = (
  put.1.0,
  put.1.1,
  record {
    lines = h.lines;
    rest = h.rest;
    split = h.split;
    endless = h.endless;
    kept = kept ∙ h.kept;
    written = held_more text p.gathered.held.items [] put.1.0 q.gathered.held.items (egress_text names batches h.lines) put.1.2
        h.written ∙ append-nil (egress_text names batches h.lines);
    heard = subst (λ c. HearPorts c (heard_at names h.lines)) (sym claims) h.heard;
  },
)
flushes_egress (Err WriteFault) names batches octets text w x failed p q h kept claims put = λ later.
    let held : List ℕ = p.gathered.held.items in
    let behind = begins_egress names batches octets p text h later in (
      put.0,
      (
        held ++ [],
        put.1,
        record {
          tail = behind.0;
          whole = behind.1 ∙ ap (λ (xs : List ℕ). (text ++ xs) ++ behind.0) (sym (append-nil held));
        },
      ),
    )
flushes_egress (Err ReadFault) names batches octets text w x failed p q h kept claims put = absurd put
flushes_egress (Err (Refused refused)) names batches octets text w x failed p q h kept claims put = absurd put

-- nothing is written
pub stays_egress : (names : List NamedInterface) (batches : List (List Pair)) (octets text : List ℕ) (w : Option (List ℕ))
    (p : Egress) → HasEgress names batches octets p text
    → (more : List ℕ) × Appends w w more × HasEgress names batches octets p (text ++ more)
stays_egress names batches octets text w p h =
    ([], appended_nothing w, subst (HasEgress names batches octets p) (sym (append-nil text)) h)

-- ---- the last line

lines_at_end : (names : List NamedInterface) (batches : List (List Pair)) (octets : List ℕ) (p : Egress) (text : List ℕ)
    → (h : HasEgress names batches octets p text) → log_lines octets ≡ reverse h.lines ++ last_line h.rest
lines_at_end names batches octets p text h =
    ap log_lines (sym (append-nil octets)) ∙ h.split []
    ∙ ap (λ (rest : List ℕ). reverse h.lines ++ log_lines rest) (append-nil h.rest)
    ∙ ap (λ (last : List (List ℕ)). reverse h.lines ++ last) (rest_alone h.rest h.endless)

-- all of a text that is put last is written
ends_text : {A : Type 0} (r : Result A JudgeFault) (names : List NamedInterface) (batches : List (List Pair))
    (octets text held before said now : List ℕ) (w x : Option (List ℕ)) (failed : Bool) → text ++ held ≡ before
    → log_egress names batches octets ≡ before ++ said → Puts w x failed held said r now → now ≡ []
    → EndsEgress names batches octets text w x failed r
ends_text (Ok done) names batches octets text held before said now w x failed so_far all put empty = (
  put.1.0,
  put.1.1,
  ap (λ (xs : List ℕ). text ++ xs) (sym (append-nil put.1.0) ∙ ap (λ (xs : List ℕ). put.1.0 ++ xs) (sym empty)
      ∙ sym put.1.2) ∙ sym (append_assoc text held said) ∙ ap (λ (xs : List ℕ). xs ++ said) so_far ∙ sym all,
)
ends_text (Err WriteFault) names batches octets text held before said now w x failed so_far all put empty = (
  put.0,
  (
    held ++ said,
    put.1,
    record {
      tail = [];
      whole = all ∙ ap (λ (xs : List ℕ). xs ++ said) (sym so_far) ∙ append_assoc text held said
          ∙ sym (append-nil (text ++ (held ++ said)));
    },
  ),
)
ends_text (Err ReadFault) names batches octets text held before said now w x failed so_far all put empty = absurd put
ends_text (Err (Refused refused)) names batches octets text held before said now w x failed so_far all put empty = absurd put

-- there is none
pub ends_without : {A : Type 0} (r : Result A JudgeFault) (names : List NamedInterface) (batches : List (List Pair))
    (octets text now : List ℕ) (w x : Option (List ℕ)) (failed : Bool) (p : Egress) → HasEgress names batches octets p text
    → length p.kept.items ≡ 0 → Puts w x failed p.gathered.held.items [] r now → now ≡ []
    → EndsEgress names batches octets text w x failed r
ends_without r names batches octets text now w x failed p h none put empty =
    let last : last_line h.rest ≡ [] = no_rest h.rest (sym (ap length h.kept) ∙ none) in
    let before : List ℕ = egress_text names batches h.lines in
    ends_text r names batches octets text p.gathered.held.items before [] now w x failed h.written
    (log_newest names batches octets h.lines [] (lines_at_end names batches octets p text h
    ∙ ap (λ (ls : List (List ℕ)). reverse h.lines ++ ls) last) ∙ sym (append-nil before)) put empty

-- what leaves of it is put
ends_with : {A : Type 0} (r : Result A JudgeFault) (names : List NamedInterface) (batches : List (List Pair))
    (octets text now : List ℕ) (w x : Option (List ℕ)) (failed : Bool) (p : Egress)
    → (h : HasEgress names batches octets p text) → 0 < length p.kept.items
    → Puts w x failed p.gathered.held.items (reading_lines names batches h.lines (line_of p.kept.items)) r now → now ≡ []
    → EndsEgress names batches octets text w x failed r
ends_with r names batches octets text now w x failed p h some put empty =
    let last : last_line h.rest ≡ h.rest ∷ [] = some_rest h.rest (subst (λ (k : List ℕ). 0 < length k) h.kept some) in
    let before : List ℕ = egress_text names batches h.lines in
    let same : line_of p.kept.items ≡ line_of h.rest = ap line_of h.kept ∙ line_kept h.rest in
    ends_text r names batches octets text p.gathered.held.items before
    (reading_lines names batches h.lines (line_of p.kept.items)) now w x failed h.written
    (log_newest names batches octets h.lines (h.rest ∷ []) (lines_at_end names batches octets p text h
    ∙ ap (λ (ls : List (List ℕ)). reverse h.lines ++ ls) last) ∙ text_newest names batches h.rest h.lines
    ∙ ap (λ (reading : Reading). before ++ reading_lines names batches h.lines reading) (sym same)) put empty

-- what leaves of it is put, and then what is held is written
pub ends_flushed : {A B : Type 0} (r : Result B JudgeFault) (done : A) (names : List NamedInterface)
    (batches : List (List Pair)) (octets text mid now : List ℕ) (w x y : Option (List ℕ)) (failed then_failed : Bool)
    (p : Egress) → (h : HasEgress names batches octets p text) → 0 < length p.kept.items
    → Puts w x failed p.gathered.held.items (reading_lines names batches h.lines (line_of p.kept.items)) (Ok done) mid
    → Puts x y then_failed mid [] r now → now ≡ [] → EndsEgress names batches octets text w y then_failed r
ends_flushed r done names batches octets text mid now w x y failed then_failed p h some put flushed empty =
    let said : List ℕ = reading_lines names batches h.lines (line_of p.kept.items) in
    ends_with r names batches octets text now w y then_failed p h some
    (subst (λ (xs : List ℕ). Puts w y then_failed p.gathered.held.items xs r now) (append-nil said)
    (puts_both r done w x y failed then_failed p.gathered.held.items said [] mid now put flushed)) empty

-- or a write fails
pub ends_failed : {A : Type 0} (r : Result A JudgeFault) (fault : JudgeFault) (names : List NamedInterface)
    (batches : List (List Pair)) (octets text now : List ℕ) (w x : Option (List ℕ)) (failed : Bool) (p : Egress)
    → (h : HasEgress names batches octets p text) → 0 < length p.kept.items → r ≡ Err fault
    → Puts w x failed p.gathered.held.items (reading_lines names batches h.lines (line_of p.kept.items)) r now
    → EndsEgress {A = A} names batches octets text w x failed (Err fault)
ends_failed {A} r fault names batches octets text now w x failed p h some bad put =
    let said : List ℕ = reading_lines names batches h.lines (line_of p.kept.items) in
    ends_with {A = A} (Err fault) names batches octets text [] w x failed p h some
    (subst (λ (xs : List ℕ). Puts {A = A} w x failed p.gathered.held.items xs (Err fault) []) (append-nil said)
    (puts_failed r fault w x failed p.gathered.held.items said [] now [] bad put)) refl
