-- What was read and written, piece after piece.
use Rattle.std.proofs.Common.{◌≡◌, ℕ, ◌≤◌, ◌⊎◌, Bool, true, false, List, [], ◌∷◌, ◌++◌, length, Option}
use Rattle.std.proofs.Common.{Result, Ok, Err, refl, sym, ap, ◌∙◌, subst, append-nil, true≢false, arith}
use Rattle.std.specs.Prelude.{is_err, OnOk, IfErr}
use Rattle.std.specs.Io.KnownBytes.{Appends, Consumes, Keeps, IsAtEnd}
use Rattle.gw_replay.specs.declared.script_reader.ScriptReader.{ScriptReader}
use Rattle.gw_replay.specs.declared.whole.ReplayFault.{ReplayFault}
use Rattle.gw_replay.specs.declared.whole.ReplayFault.TheVariants.{ReadFault, WriteFault, OutOfMemory}
use Rattle.gw_replay.specs.Scripts.{BeginsAnswer, IsAnswer, AnswersEnded, AnswersMost}
use Rattle.gw_io.specs.Pieces.{IsNextPiece, GivesAtLeast, most_reads}
use Rattle.gw_io.specs.Written.{WritesPart}
use Rattle.gw_replay.specs.Written.{IsReplayed, IsPartlyRead, IsPartlyReplayed, IsBrokenOff, IsCutOff, IsHalted, IsReplayFault}
use Rattle.gw_replay.specs.Written.{HasReplayed}
use Rattle.gw_replay.specs.Reached.{HasReached, HasFed, EndsWith, IsEndFault, IsUnderWay}
use Rattle.gw_io.proofs.Callers.{consumed_more, consumed_kept, met_piece, met_end, appended_on, part_behind, whole_part}
use Rattle.gw_replay.proofs.Reaching.{begins, ended_of, reached_same}

-- what a feed wants
reached_on : {a b w x : Option (List ℕ)} {p : ScriptReader} → (h : IsUnderWay a b w x p)
    → HasReached h.octets p (h.text ++ p.answers.items)
reached_on {a} {b} {w} {x} {p} h =
    subst (HasReached h.octets p) (sym (ap (λ said. h.text ++ said) h.empty ∙ append-nil h.text)) h.reached

fed_whole : {A E : Type 0} (r : Result A E) (octets piece text : List ℕ) (q : ScriptReader) → is_err r ≡ false
    → HasFed octets piece text r q → HasReached (octets ++ piece) q (text ++ q.answers.items)
fed_whole (Ok done) octets piece text q fine h = h
fed_whole (Err e) octets piece text q fine h = absurd (true≢false fine)

all_of : (octets text : List ℕ) (q : ScriptReader) → HasReached octets q text → BeginsAnswer octets text
all_of octets text q h = subst (λ known. BeginsAnswer known text) (append-nil octets) (begins octets [] text q h)

fed_begins : {A E : Type 0} (r : Result A E) (octets piece text : List ℕ) (q : ScriptReader)
    → HasFed octets piece text r q → BeginsAnswer (octets ++ piece) (text ++ q.answers.items)
fed_begins (Ok done) octets piece text q h = all_of (octets ++ piece) (text ++ q.answers.items) q h
fed_begins (Err e) octets piece text q h = h

-- a piece was read and its answers were written
pub goes_on : {A E : Type 0} {a b c w x y : Option (List ℕ)} {p next : ScriptReader} (r : Result A E) (piece kept : List ℕ)
    (more : Bool) (q : ScriptReader) → IsUnderWay a b w x p → IsNextPiece b c kept (Ok more) → more ≡ true → piece ≡ kept
    → ((octets text : List ℕ) → HasReached octets p (text ++ p.answers.items) → HasFed octets piece text r q)
    → is_err r ≡ false → Appends x y q.answers.items → next.script ≡ q.script → next.kept ≡ q.kept → next.answers.items ≡ []
    → next.refused ≡ q.refused → IsUnderWay a c w y next
goes_on {a} {b} {c} {w} {x} {y} {next} r piece kept more q h read some same fed fine written script rest empty refused = record {
  octets = h.octets ++ piece;
  text = h.text ++ q.answers.items;
  consumed = consumed_more a b c h.octets piece h.consumed
      (subst (Consumes b c) (sym same) (met_piece b c kept more some read).0);
  written = appended_on w x y h.text q.answers.items h.written written;
  empty = empty;
  reached = reached_same (h.octets ++ piece) (h.text ++ q.answers.items) q next
      (fed_whole r h.octets piece h.text q fine (fed h.octets h.text (reached_on h)))
      script (ap (λ vec. vec.items) rest) refused;
}

-- the answers of the lines that were ended, and those of the piece behind them
most_answered : (front piece script early late : List ℕ) → AnswersEnded front early → script ≡ front ++ piece
    → length piece ≤ 65536 → BeginsAnswer script (early ++ late) → AnswersMost script (early ++ late)
most_answered front piece script early late ended cut short begins = record {
  front = front;
  piece = piece;
  cut = cut;
  short = short;
  early = early;
  late = late;
  ended = ended;
  whole = refl;
  begins = begins;
}

-- a piece was read, and it was answered in part at least
pub reads_on : {A E : Type 0} {a b c w x : Option (List ℕ)} {p : ScriptReader} (r : Result A E) (piece kept : List ℕ)
    (more : Bool) (q : ScriptReader) → (h : IsUnderWay a b w x p) → IsNextPiece b c kept (Ok more) → more ≡ true → piece ≡ kept
    → length kept ≤ 65536
    → ((octets text : List ℕ) → HasReached octets p (text ++ p.answers.items) → HasFed octets piece text r q)
    → IsPartlyRead a c (h.text ++ q.answers.items)
reads_on {a} {b} {c} {p} r piece kept more q h read some same short fed = record {
  script = h.octets ++ piece;
  consumed = consumed_more a b c h.octets piece h.consumed
      (subst (Consumes b c) (sym same) (met_piece b c kept more some read).0);
  answers = most_answered h.octets piece (h.octets ++ piece) h.text q.answers.items (ended_of h.octets h.text p h.reached) refl
      (subst (λ xs. length xs ≤ 65536) (sym same) short)
      (fed_begins r h.octets piece h.text q (fed h.octets h.text (reached_on h)));
}

-- a beginning of its answers was written
pub partly : {a c : Option (List ℕ)} (w x y : Option (List ℕ)) (text more : List ℕ) → Appends w x text
    → IsPartlyRead a c (text ++ more) → WritesPart x y more → IsPartlyReplayed a c w y
partly w x y text more before read part = record {
  text = text ++ more;
  read = read;
  written = part_behind w x y text more before part;
}

-- all of them were written
pub broken_off : {a c : Option (List ℕ)} (w x y : Option (List ℕ)) (text more : List ℕ) → Appends w x text
    → IsPartlyRead a c (text ++ more) → Appends x y more → IsBrokenOff a c w y
broken_off w x y text more before read written = record {
  text = text ++ more;
  read = read;
  written = appended_on w x y text more before written;
}

-- a read failed, or there were too many
pub stays : {a b c w x : Option (List ℕ)} {p : ScriptReader} (failed : Bool) → IsUnderWay a b w x p → Keeps b c
    → (failed ≡ true) ⊎ GivesAtLeast a c most_reads → IsCutOff failed a c w x
stays {a} {b} {c} {p} failed h kept unread = record {
  script = h.octets;
  consumed = consumed_kept a b c h.octets h.consumed kept;
  unread = unread;
  text = h.text;
  answers = ended_of h.octets h.text p h.reached;
  written = h.written;
}

-- whatever ended it, a beginning of the answers was written
part_of : (failed : Bool) (a c w x : Option (List ℕ)) (fault : ReplayFault) → IsHalted failed a c w x fault
    → IsPartlyReplayed a c w x
part_of failed a c w x ReadFault h = record {
  text = h.text;
  read = record {
    script = h.script;
    consumed = h.consumed;
    answers =
        subst (AnswersMost h.script) (append-nil h.text)
        (most_answered h.script [] h.script h.text [] h.answers (sym (append-nil h.script)) (omega arith)
        (subst (BeginsAnswer h.script) (sym (append-nil h.text))
        (record {
          first = h.answers.ended;
          later = h.answers.unfinished ∷ [];
          lines = h.answers.lines;
          session = h.answers.session;
          refused = h.answers.refused;
          answers = h.answers.answers;
        })));
  };
  written = whole_part w x h.text h.written;
}
part_of failed a c w x WriteFault h = h
part_of failed a c w x OutOfMemory h = record { text = h.text; read = h.read; written = whole_part w x h.text h.written }

-- what a fault answers
pub halts : (failed : Bool) (a c w x : Option (List ℕ)) (reads : ℕ) (unwritten : Bool) (fault : ReplayFault)
    → IsHalted failed a c w x fault → IsReplayFault failed reads unwritten fault → reads ≤ most_reads
    → HasReplayed a c w x failed reads unwritten (Err fault)
halts failed a c w x reads unwritten fault h why few = record {
  replayed = tt;
  part = part_of failed a c w x fault h;
  halted = h;
  fault = why;
  read = tt;
  written = tt;
  bounded = few;
}

-- the reader came to its end, and the last line was answered
ends_whole : {a b c w x y : Option (List ℕ)} {p : ScriptReader} (refused : Bool) → (h : IsUnderWay a b w x p) → Keeps b c
    → IsAtEnd c → (all : List ℕ) × IsAnswer h.octets (h.text ++ all) refused × Appends x y all → IsReplayed a c w y refused
ends_whole {a} {b} {c} {w} {x} {y} refused h kept end said = record {
  script = h.octets;
  consumed = consumed_kept a b c h.octets h.consumed kept;
  end = end;
  text = h.text ++ said.0;
  answers = said.1;
  written = appended_on w x y h.text said.0 h.written said.2;
}

-- or a beginning of the answers was made
ends_read : {a b c w x : Option (List ℕ)} {p : ScriptReader} → (h : IsUnderWay a b w x p) → Keeps b c → (all : List ℕ)
    → BeginsAnswer h.octets (h.text ++ all) → IsPartlyRead a c (h.text ++ all)
ends_read {a} {b} {c} {p} h kept all begins = record {
  script = h.octets;
  consumed = consumed_kept a b c h.octets h.consumed kept;
  answers = most_answered h.octets [] h.octets h.text all (ended_of h.octets h.text p h.reached) (sym (append-nil h.octets))
      (omega arith) begins;
}

-- what the end answers
pub ends : {a b w x : Option (List ℕ)} {p : ScriptReader} (c y : Option (List ℕ)) (kept : List ℕ) (more : Bool)
    (failed unwritten : Bool) (reads : ℕ) (r : Result Bool ReplayFault) → (h : IsUnderWay a b w x p)
    → IsNextPiece b c kept (Ok more) → more ≡ false
    → ((octets text : List ℕ) → HasReached octets p (text ++ p.answers.items) → EndsWith octets text x y r)
    → failed ≡ false → reads ≤ most_reads → OnOk r (unwritten ≡ false) → IfErr r (IsEndFault unwritten)
    → HasReplayed a c w y failed reads unwritten r
ends {b} {w} {x} c y kept more failed unwritten reads (Ok refused) h read none ended fine few whole fault =
    let end = met_end b c kept more none read in
    record {
      replayed = ends_whole refused h end.0 end.1 (ended h.octets h.text (reached_on h));
      part = tt;
      halted = tt;
      fault = tt;
      read = fine;
      written = whole;
      bounded = few;
    }
ends c y kept more failed unwritten reads (Err ReadFault) h read none ended fine few whole fault = absurd fault
ends {a} {b} {w} {x} c y kept more failed unwritten reads (Err WriteFault) h read none ended fine few whole fault =
    let end = met_end b c kept more none read in
    let said = ended h.octets h.text (reached_on h) in
    halts failed a c w y reads unwritten WriteFault
    (partly w x y h.text said.0 h.written (ends_read h end.0 said.0 said.1) said.2) fault few
ends {a} {b} {w} {x} c y kept more failed unwritten reads (Err OutOfMemory) h read none ended fine few whole fault =
    let end = met_end b c kept more none read in
    let said = ended h.octets h.text (reached_on h) in
    halts failed a c w y reads unwritten OutOfMemory
    (broken_off w x y h.text said.0 h.written (ends_read h end.0 said.0 said.1) said.2) tt few
