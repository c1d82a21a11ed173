-- How far a script was answered, with one more line or octet.
use Rattle.std.proofs.Common.{◌≡◌, ℕ, ◌+◌, ◌-◌, ◌<◌, Bool, true, false, List, [], ◌∷◌, ◌++◌, length, take, drop, Option, Some}
use Rattle.std.proofs.Common.{◌||◌}
use Rattle.std.proofs.Common.{None, Result, Ok, Err, refl, ap, sym, ◌∙◌, subst, append_assoc, append-nil, arith, map, reverse}
use Rattle.std.proofs.Common.{true≢false}
use Rattle.std.proofs.lemmas.Bool.{false≢true}
use Rattle.std.specs.Prelude.{option_copied, OnErr, OnOk, is_ok, is_err, if◌then◌else◌}
use Rattle.std.proofs.lemmas.List.Elements.{All-append, All-nil}
use Rattle.gw_input.specs.Lines.{is_line_feed, without_return, ended_line, lines_of}
use Rattle.gw_replay.specs.Replies.{SessionState}
use Rattle.gw_replay.specs.Scripts.{meaning_of, Told, Answers, AreAnswers, BeginsAnswer, IsAnswer, AnswersEnded}
use Rattle.gw_replay.specs.Standing.{StandsIn, IsAnswered}
use Rattle.gw_replay.specs.Reached.{joined, HasNoEnd, HasReached, AnswersKept, most_kept, Passes}
use Rattle.gw_replay.specs.Reached.{FeedsLine, FedSo}
use Rattle.std.specs.Borrow.{Bor}
use Rattle.std.specs.List.{position_or_len}
use Rattle.std.proofs.lemmas.List.{take_all}
use Rattle.gw_replay.specs.declared.script_reader.ScriptReader.{ScriptReader}
use Rattle.gw_replay.proofs.CutLines.{before_end, cut_at}
use Rattle.gw_replay.proofs.CutLines.{lines_behind, one_line, joined_more, whole_more, newest_first, last_first}
use Rattle.gw_replay.proofs.KeptLines.{kept_means, kept_more}

-- nothing was read
pub reached_nothing : (p : ScriptReader) → p.kept.items ≡ [] → p.script.session ≡ None → p.refused ≡ false → HasReached [] p []
reached_nothing p empty first fine = record {
  lines = [];
  rest = [];
  cut = refl;
  whole = All-nil HasNoEnd;
  endless = All-nil (λ c. is_line_feed c ≡ false);
  kept = empty;
  session = None;
  answers = ap (λ refused. record { text = []; session = None; refused = refused }) fine;
  stands = subst (λ state. StandsIn state None) (sym first) tt;
}

-- the answers stand in front of whatever follows
pub begins : (octets more text : List ℕ) (p : ScriptReader) → HasReached octets p text → BeginsAnswer (octets ++ more) text
begins octets more text p h = record {
  first = map without_return h.lines;
  later = lines_of (h.rest ++ more);
  lines = ap (λ front. lines_of (front ++ more)) h.cut ∙ ap lines_of (append_assoc (joined h.lines) h.rest more)
      ∙ lines_behind h.lines (h.rest ++ more) h.whole;
  session = h.session;
  refused = p.refused;
  answers = h.answers;
}

-- they are those of the lines that were ended
pub ended_of : (octets text : List ℕ) (p : ScriptReader) → HasReached octets p text → AnswersEnded octets text
ended_of octets text p h = record {
  ended = map without_return h.lines;
  unfinished = h.rest;
  lines = ap lines_of h.cut ∙ lines_behind h.lines h.rest h.whole ∙ ap (λ last. map without_return h.lines ++ last)
      (one_line h.rest h.endless);
  session = h.session;
  refused = p.refused;
  answers = h.answers;
}

-- whether a line was refused, by another name
still_answered : (lines : List (List ℕ)) (text : List ℕ) (s : Option SessionState) (before now : Bool) → now ≡ before
    → AreAnswers (reverse (map without_return lines)) (record { text = text; session = s; refused = before })
    → AreAnswers (reverse (map without_return lines)) (record { text = text; session = s; refused = now })
still_answered lines text s before now same answers =
    subst (λ refused. AreAnswers (reverse (map without_return lines)) (record { text = text; session = s; refused = refused }))
    (sym same) answers

-- the same state under other answers
pub reached_same : (octets text : List ℕ) (p q : ScriptReader) → HasReached octets p text → q.script ≡ p.script
    → q.kept.items ≡ p.kept.items → q.refused ≡ p.refused → HasReached octets q text
reached_same octets text p q h script kept refused = record {
  lines = h.lines;
  rest = h.rest;
  cut = h.cut;
  whole = h.whole;
  endless = h.endless;
  kept = kept ∙ h.kept;
  session = h.session;
  answers = still_answered h.lines text h.session p.refused q.refused refused h.answers;
  stands = subst (λ s. StandsIn s.session h.session) (sym script) h.stands;
}

-- more octets without a line feed
pub reached_part : (octets part text : List ℕ) (p q : ScriptReader) → HasReached octets p text → HasNoEnd part
    → q.kept.items ≡ p.kept.items ++ take (most_kept - length p.kept.items) part
    → q.script ≡ p.script → q.refused ≡ p.refused → HasReached (octets ++ part) q text
reached_part octets part text p q h ended kept script refused = record {
  lines = h.lines;
  rest = h.rest ++ part;
  cut = ap (λ front. front ++ part) h.cut ∙ append_assoc (joined h.lines) h.rest part;
  whole = h.whole;
  endless = All-append (λ c. is_line_feed c ≡ false) h.rest part h.endless ended;
  kept = kept ∙ ap (λ before. before ++ take (most_kept - length before) part) h.kept ∙ kept_more most_kept h.rest part;
  session = h.session;
  answers = still_answered h.lines text h.session p.refused q.refused refused h.answers;
  stands = subst (λ s. StandsIn s.session h.session) (sym script) h.stands;
}

-- the answer of what is kept is that of the line
pub kept_answers : (s : Option SessionState) (ended : Bool) (kept rest : List ℕ) (told : Told) → kept ≡ take most_kept rest
    → Answers s (meaning_of (ended_line ended kept)) told → Answers s (meaning_of (ended_line ended rest)) told
kept_answers s ended kept rest told is =
    subst (λ meaning. Answers s meaning told) (ap (λ line. meaning_of (ended_line ended line)) is ∙ kept_means ended rest)

-- one answer more
pub answers_more : (before : List (List ℕ)) (line text one : List ℕ) (s t : Option SessionState) (f g now : Bool)
    → AreAnswers before (record { text = text; session = s; refused = f })
    → Answers s (meaning_of line) (record { text = one; session = t; refused = g }) → now ≡ (f || g)
    → AreAnswers (line ∷ before) (record { text = text ++ one; session = t; refused = now })
answers_more before line text one s t f g now earlier answer same = (
  record { text = text; session = s; refused = f },
  record { text = one; session = t; refused = g },
  earlier,
  answer,
  ap (λ refused. record { text = text ++ one; session = t; refused = refused }) same,
)

-- a line feed ends the line that is kept
pub reached_line : (octets before : List ℕ) (p mid q : ScriptReader) → (h : HasReached octets p (before ++ p.answers.items))
    → AnswersKept h.session (ended_line true p.kept.items) p mid → q.script ≡ mid.script → q.answers.items ≡ mid.answers.items
    → q.kept.items ≡ [] → q.refused ≡ mid.refused
    → HasReached (octets ++ 10 ∷ []) q (before ++ q.answers.items)
reached_line octets before p mid q h a script answers empty same = record {
  lines = h.lines ++ h.rest ∷ [];
  rest = [];
  cut = ap (λ front. front ++ 10 ∷ []) h.cut ∙ append_assoc (joined h.lines) h.rest (10 ∷ [])
      ∙ sym (joined_more h.lines h.rest) ∙ sym (append-nil (joined (h.lines ++ h.rest ∷ [])));
  whole = whole_more h.lines h.rest h.whole h.endless;
  endless = All-nil (λ c. is_line_feed c ≡ false);
  kept = empty;
  session = a.session;
  answers =
      let told = answers_more (reverse (map without_return h.lines)) (without_return h.rest) (before ++ p.answers.items) a.text
      h.session a.session p.refused a.refused q.refused h.answers
      (kept_answers h.session true p.kept.items h.rest (record { text = a.text; session = a.session; refused = a.refused }) h.kept
      a.answers) (same ∙ a.told) in
      let all : (before ++ p.answers.items) ++ a.text ≡ before ++ q.answers.items =
      append_assoc before p.answers.items a.text ∙ ap (λ said. before ++ said) (sym (answers ∙ a.appended)) in
      subst (λ lines. AreAnswers lines (record { text = before ++ q.answers.items; session = a.session; refused = q.refused }))
      (sym (newest_first h.lines h.rest))
      (subst (λ said. AreAnswers (without_return h.rest ∷ reverse (map without_return h.lines))
      (record { text = said; session = a.session; refused = q.refused })) all told);
  stands = subst (λ s. StandsIn s.session a.session) (sym script) a.stands;
}

-- the script's end ends it
pub whole_answer : (octets before : List ℕ) (p mid : ScriptReader) → (h : HasReached octets p (before ++ p.answers.items))
    → AnswersKept h.session (ended_line false p.kept.items) p mid
    → IsAnswer octets (before ++ mid.answers.items) mid.refused
unfolding ended_of
whole_answer octets before p mid h a =
    let told = answers_more (reverse (map without_return h.lines)) h.rest (before ++ p.answers.items) a.text
    h.session a.session p.refused a.refused mid.refused h.answers
    (kept_answers h.session false p.kept.items h.rest (record { text = a.text; session = a.session; refused = a.refused }) h.kept
    a.answers) a.told in
    let all : (before ++ p.answers.items) ++ a.text ≡ before ++ mid.answers.items =
    append_assoc before p.answers.items a.text ∙ ap (λ said. before ++ said) (sym a.appended) in
    let lines : lines_of octets ≡ map without_return h.lines ++ h.rest ∷ [] =
    (ended_of octets (before ++ p.answers.items) p h).lines in
    record {
      session = a.session;
      answers =
          subst
          (λ known. AreAnswers known (record { text = before ++ mid.answers.items; session = a.session; refused = mid.refused }))
          (sym (ap reverse lines ∙ last_first (map without_return h.lines) h.rest))
          (subst (λ said. AreAnswers (h.rest ∷ reverse (map without_return h.lines))
          (record { text = said; session = a.session; refused = mid.refused })) all told);
    }

-- a whole answer is one of all lines
pub all_begin : (octets text : List ℕ) (refused : Bool) → IsAnswer octets text refused → BeginsAnswer octets text
all_begin octets text refused h = record {
  first = lines_of octets;
  later = [];
  lines = sym (append-nil (lines_of octets));
  session = h.session;
  refused = refused;
  answers = h.answers;
}

-- whether a line was refused, with a line more
pub not_refused : (before : Bool) → before ≡ (before || false)
not_refused true = refl
not_refused false = refl

pub now_refused : (before : Bool) → true ≡ (before || true)
now_refused true = refl
now_refused false = refl

-- a line was answered with a text, which stands behind the answers so far
pub kept_said : (s : Option SessionState) (line known text : List ℕ) (refused : Bool) (old new : ScriptReader) → line ≡ known
    → IsAnswered s line text refused new.script.session → new.refused ≡ (old.refused || refused)
    → new.answers.items ≡ old.answers.items ++ text → AnswersKept s known old new
kept_said s line known text refused old new is h told appended = record {
  text = text;
  session = h.session;
  refused = refused;
  answers = subst (λ l. Answers s (meaning_of l) (record { text = text; session = h.session; refused = refused })) is h.answers;
  stands = h.stands;
  told = told;
  appended = appended;
}

-- a text was appended, unless memory was refused
pub on_extended : {A E P : Type 0} (r : Result A E) (old more new : List ℕ) → new ≡ (if is_ok r then old ++ more else old)
    → (new ≡ old ++ more → P) → OnOk r P
on_extended (Ok done) old more new items follows = follows items
on_extended (Err e) old more new items follows = tt

-- an unfinished text was kept
pub part_kept : (octets text before : List ℕ) (end : ℕ) (p mid : ScriptReader) → HasReached octets p (before ++ p.answers.items)
    → end ≡ position_or_len is_line_feed text
    → mid.kept.items ≡ p.kept.items ++ take (most_kept - length p.kept.items) (take end text) → mid.script ≡ p.script
    → mid.answers ≡ p.answers → mid.refused ≡ p.refused
    → HasReached (octets ++ take end text) mid (before ++ mid.answers.items)
part_kept octets text before end p mid h at kept script answers refused =
    subst (λ vec. HasReached (octets ++ take end text) mid (before ++ vec.items)) (sym answers)
    (reached_part octets (take end text) (before ++ p.answers.items) p mid h (before_end text end at) kept script refused)

-- a text without a line feed was kept
pub text_kept : (octets text before : List ℕ) (end : ℕ) (p mid : ScriptReader) → HasReached octets p (before ++ p.answers.items)
    → end ≡ position_or_len is_line_feed text → end ≡ length text
    → mid.kept.items ≡ p.kept.items ++ take (most_kept - length p.kept.items) (take end text) → mid.script ≡ p.script
    → mid.answers ≡ p.answers → mid.refused ≡ p.refused
    → HasReached (octets ++ text) mid (before ++ mid.answers.items)
text_kept octets text before end p mid h at all kept script answers refused =
    subst (λ part. HasReached (octets ++ part) mid (before ++ mid.answers.items)) (take_all end text (omega arith))
    (part_kept octets text before end p mid h at kept script answers refused)

-- a text with a line feed was answered up to it
pub line_passed : (octets text before behind : List ℕ) (end : ℕ) (p mid last next : ScriptReader)
    → HasReached octets p (before ++ p.answers.items)
    → end ≡ position_or_len is_line_feed text → end < length text → behind ≡ drop (end + 1) text
    → mid.kept.items ≡ p.kept.items ++ take (most_kept - length p.kept.items) (take end text) → mid.script ≡ p.script
    → mid.answers ≡ p.answers → mid.refused ≡ p.refused
    → ((s : Option SessionState) → StandsIn mid.script.session s → AnswersKept s (ended_line true mid.kept.items) mid last)
    → next.script ≡ last.script → next.answers.items ≡ last.answers.items → next.kept.items ≡ [] → next.refused ≡ last.refused
    → Passes octets text before behind next
line_passed octets text before behind end p mid last next h at within follows kept script answers fine answered same said empty
    refused =
    let part = part_kept octets text before end p mid h at kept script answers fine in
    let line = reached_line (octets ++ take end text) before mid last next part (answered part.session part.stands) same said
    empty refused in
    record {
      head = take end text ++ 10 ∷ [];
      cut = cut_at text end at within ∙ ap (λ rest. (take end text ++ 10 ∷ []) ++ rest) (sym follows);
      reached =
          subst (λ known. HasReached known next (before ++ next.answers.items)) (append_assoc octets (take end text) (10 ∷ []))
          line;
    }

-- memory was refused for it
pub line_refused : (octets text before : List ℕ) (p new : ScriptReader) → HasReached octets p (before ++ p.answers.items)
    → new.answers.items ≡ p.answers.items → BeginsAnswer (octets ++ text) (before ++ new.answers.items)
line_refused octets text before p new h same =
    subst (λ said. BeginsAnswer (octets ++ text) (before ++ said)) (sym same)
    (begins octets text (before ++ p.answers.items) p h)

-- one line more of a piece
pub fed_more : (E : Type 0) (octets piece text t : List ℕ) (r : Option (Bor (List ℕ))) (mid new : ScriptReader)
    → FedSo octets piece text (Some t) mid
    → ((o b : List ℕ) → HasReached o mid (b ++ mid.answers.items) → FeedsLine {E = E} o t b (Ok r) new)
    → FedSo octets piece text (option_copied r) new
fed_more E octets piece text t None mid new so line =
    subst (λ known. HasReached known new (text ++ new.answers.items))
    (append_assoc octets so.0 t ∙ ap (λ known. octets ++ known) (sym so.1)) (line (octets ++ so.0) text so.2)
fed_more E octets piece text t (Some behind) mid new so line =
    let passed = line (octets ++ so.0) text so.2 in (
      so.0 ++ passed.head,
      so.1 ∙ ap (λ rest. so.0 ++ rest) passed.cut ∙ sym (append_assoc so.0 passed.head behind.now),
      subst (λ known. HasReached known new (text ++ new.answers.items)) (append_assoc octets so.0 passed.head) passed.reached,
    )

-- memory was refused for one
pub fed_no_more : (octets piece text t : List ℕ) (mid new : ScriptReader)
    → FedSo octets piece text (Some t) mid
    → ((o b : List ℕ) → HasReached o mid (b ++ mid.answers.items)
    → BeginsAnswer (o ++ t) (b ++ new.answers.items))
    → BeginsAnswer (octets ++ piece) (text ++ new.answers.items)
fed_no_more octets piece text t mid new so line =
    subst (λ known. BeginsAnswer known (text ++ new.answers.items))
    (append_assoc octets so.0 t ∙ ap (λ known. octets ++ known) (sym so.1)) (line (octets ++ so.0) text so.2)

-- nothing of a piece was read yet
pub fed_nothing : (octets piece text : List ℕ) (p : ScriptReader) → HasReached octets p (text ++ p.answers.items)
    → FedSo octets piece text (Some piece) p
fed_nothing octets piece text p h =
    ([], refl, subst (λ known. HasReached known p (text ++ p.answers.items)) (sym (append-nil octets)) h)

-- the last line was answered, or memory was refused for it
pub last_begins : {A E : Type 0} (r : Result A E) (octets text : List ℕ) (p mid : ScriptReader)
    → HasReached octets p (text ++ p.answers.items)
    → ((s : Option SessionState) → StandsIn p.script.session s → OnOk r (AnswersKept s (ended_line false p.kept.items) p mid))
    → OnErr r (mid.answers.items ≡ p.answers.items)
    → BeginsAnswer octets (text ++ mid.answers.items)
last_begins (Ok done) octets text p mid h answered same =
    all_begin octets (text ++ mid.answers.items) mid.refused (whole_answer octets text p mid h (answered h.session h.stands))
last_begins (Err e) octets text p mid h answered same =
    subst (λ known. BeginsAnswer known (text ++ mid.answers.items)) (append-nil octets)
    (line_refused octets [] text p mid h same)

-- what holds of an error, and of an answer
pub on_err : {A E P : Type 0} (r : Result A E) → is_err r ≡ true → OnErr r P → P
on_err (Ok done) e h = absurd (false≢true e)
on_err (Err why) e h = h

pub on_ok : {A E P : Type 0} (r : Result A E) → is_err r ≡ false → OnOk r P → P
on_ok (Ok done) e h = h
on_ok (Err why) e h = absurd (true≢false e)
