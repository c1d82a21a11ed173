-- A script has one text of answers, of which the answers of its first lines are the beginning.
use Rattle.std.proofs.Common.{ℕ, ◌≡◌, List, [], ◌∷◌, ◌++◌, reverse, codes, Option, Some, None, Result, Ok, Err, refl, subst, sym}
use Rattle.std.proofs.Common.{ap, ◌∙◌, append_assoc, Bool, ◌||◌}
use Rattle.std.proofs.lemmas.List.{append-nil, reverse-append}
use Rattle.gw_policy.specs.Filter.{Filter}
use Rattle.gw_replay.specs.declared.fault.Fault.{Fault}
use Rattle.gw_input.specs.declared.records.RecordFault.{RecordFault}
use Rattle.gw_input.specs.Lines.{lines_of}
use Rattle.gw_replay.specs.Requests.{Request, limits_of, program_of, table_of, publish_all, take_at, step_at, send_to, ledger_of}
use Rattle.gw_replay.specs.Replies.{SessionState, Reply, Replies, after_taking, after_joining, joined_line}
use Rattle.gw_replay.specs.Scripts.{Meaning, silent, wrong, asks, meaning_of, Told, told_of, told_joining, told_taking, Tells}
use Rattle.gw_replay.specs.Scripts.{Obeys, Answers, AreAnswers, IsAnswer, BeginsAnswer}
use Rattle.gw_replay.proofs.OneRead.{OneRefusal, told_policy, told_record, program_alone, program_tells, hex_told}
use Rattle.gw_replay.proofs.OneRead.{record_spelled}

-- the reply to a policy depends on what was read only as far as a script tells that
joins : (s : SessionState) (line : List ℕ) (port : ℕ) (read : Result Filter Fault)
    → told_of (after_joining s line port read) ≡ told_joining s line port (told_policy read)
joins s line port (Ok filter) = refl
joins s line port (Err why) = refl

-- and so does the reply to a record
takes : (s : SessionState) (port : ℕ) (read : Result (List ℕ) RecordFault)
    → told_of (after_taking s port read) ≡ told_taking s port (told_record read)
takes s port (Ok octets) = refl
takes s port (Err why) = refl

-- what a command replies is told
pub reply_told : (s : SessionState) (request : Request) (reply : Reply) → Replies s request reply
    → Tells s request (told_of reply)
reply_told s (limits_of ports lane versions frames) reply h = ap told_of h
reply_told s (program_of port listing) reply h = (
  told_policy h.0,
  program_tells listing h.0 h.1,
  ap told_of h.2 ∙ joins s (joined_line (codes "program ") port) port h.0,
)
reply_told s (table_of port hex) reply h =
    ap told_of h.2 ∙ joins s (joined_line (codes "table ") port) port h.0
    ∙ ap (told_joining s (joined_line (codes "table ") port) port) (hex_told hex h.0 h.1)
reply_told s publish_all reply h = ap told_of h
reply_told s (take_at port hex) reply h =
    ap told_of h.2 ∙ takes s port h.0 ∙ ap (told_taking s port) (record_spelled hex h.0 h.1)
reply_told s (step_at port) reply h = ap told_of h
reply_told s (send_to to from) reply h = ap told_of h
reply_told s (ledger_of port) reply h = ap told_of h

-- a command has one answer
tells_alone : OneRefusal → (s : SessionState) (request : Request) (a b : Told) → Tells s request a → Tells s request b → a ≡ b
tells_alone law s (limits_of ports lane versions frames) a b h k = h ∙ sym k
tells_alone law s (program_of port listing) a b h k =
    h.2 ∙ ap (told_joining s (joined_line (codes "program ") port) port) (program_alone law listing h.0 k.0 h.1 k.1) ∙ sym k.2
tells_alone law s (table_of port hex) a b h k = h ∙ sym k
tells_alone law s publish_all a b h k = h ∙ sym k
tells_alone law s (take_at port hex) a b h k = h ∙ sym k
tells_alone law s (step_at port) a b h k = h ∙ sym k
tells_alone law s (send_to to from) a b h k = h ∙ sym k
tells_alone law s (ledger_of port) a b h k = h ∙ sym k

-- a line has one answer
answers_alone : OneRefusal → (s : Option SessionState) (meaning : Meaning) (a b : Told) → Answers s meaning a
    → Answers s meaning b
    → a ≡ b
answers_alone law s silent a b h k = h ∙ sym k
answers_alone law s (wrong fault) a b h k = h ∙ sym k
answers_alone law s (asks request) a b h k = obeyed s h k
  where
    obeyed : (s : Option SessionState) → Obeys s request a → Obeys s request b → a ≡ b
    obeyed None h k = h ∙ sym k
    obeyed (Some s) h k = tells_alone law s request a b h k

-- what stands after one line more
abbrev after_one : Told → Told → Told
after_one earlier one = record {
  text = earlier.text ++ one.text;
  session = one.session;
  refused = earlier.refused || one.refused;
}

-- and so have all lines up to it
lines_alone : OneRefusal → (lines : List (List ℕ)) (a b : Told) → AreAnswers lines a → AreAnswers lines b → a ≡ b
lines_alone law [] a b h k = h ∙ sym k
lines_alone law (line ∷ before) a b h k =
    let earlier : h.0 ≡ k.0 = lines_alone law before h.0 k.0 h.2 k.2 in
    let moved : Answers k.0.session (meaning_of line) h.1 =
    subst (λ (e : Told). Answers e.session (meaning_of line) h.1) earlier h.3 in
    let one : h.1 ≡ k.1 = answers_alone law k.0.session (meaning_of line) h.1 k.1 moved k.3 in
    h.4 ∙ ap (λ (t : Told). after_one t h.1) earlier ∙ ap (after_one k.0) one ∙ sym k.4

-- a script has one text of answers, and a line of it is refused or none is
pub one_text : OneRefusal → (script text other : List ℕ) (f g : Bool) → IsAnswer script text f → IsAnswer script other g
    → (text ≡ other) × (f ≡ g)
one_text law script text other f g a b =
    let same = lines_alone law (reverse (lines_of script)) (record { text = text; session = a.session; refused = f })
    (record { text = other; session = b.session; refused = g }) a.answers b.answers in
    (ap (λ (t : Told). t.text) same, ap (λ (t : Told). t.refused) same)

-- the answers of more lines begin with those of the lines before them
lines_behind : (later lines : List (List ℕ)) (a : Told) → AreAnswers (later ++ lines) a
    → (earlier : Told) × AreAnswers lines earlier × ((rest : List ℕ) × (a.text ≡ earlier.text ++ rest))
lines_behind [] lines a h = (a, h, ([], sym (append-nil a.text)))
lines_behind (line ∷ later) lines a h =
    let found = lines_behind later lines h.0 h.2 in
    let rest = found.2.0 in (
      found.0,
      found.1,
      (
        rest ++ h.1.text,
        ap (λ (t : Told). t.text) h.4
            ∙ ap (λ (t : List ℕ). t ++ h.1.text) found.2.1
            ∙ append_assoc found.0.text rest h.1.text,
      ),
    )

-- what is answered to a script's first lines is the beginning of what is answered to it
pub begins_text : OneRefusal → (script text whole : List ℕ) (refused : Bool) → BeginsAnswer script text
    → IsAnswer script whole refused → (rest : List ℕ) × (whole ≡ text ++ rest)
begins_text law script text whole refused b a =
    let turned : reverse (lines_of script) ≡ reverse b.later ++ reverse b.first =
    ap (λ (ls : List (List ℕ)). reverse ls) b.lines ∙ reverse-append b.first b.later in
    let told : Told = record { text = whole; session = a.session; refused = refused } in
    let found = lines_behind (reverse b.later) (reverse b.first) told
    (subst (λ (ls : List (List ℕ)). AreAnswers ls told) turned a.answers) in
    let same = ap (λ (t : Told). t.text) (lines_alone law (reverse b.first) found.0
    (record { text = text; session = b.session; refused = b.refused }) found.1 b.answers) in
    (found.2.0, found.2.1 ∙ ap (λ (t : List ℕ). t ++ found.2.0) same)
