-- What was read and written, part after part.
use Rattle.std.proofs.Common.{◌≡◌, ◌⊎◌, ℕ, ◌+◌, ◌≤◌, Bool, true, false, List, [], ◌∷◌, ◌++◌, length}
use Rattle.std.proofs.Common.{Option, Some, None, Result, Ok, Err, refl, sym, ap, ◌∙◌, subst, append_assoc, append-nil, arith}
use Rattle.std.proofs.Common.{length-append}
use Rattle.std.specs.Prelude.{IfOk, IfErr}
use Rattle.std.specs.Io.KnownBytes.{Appends, Consumes, Keeps, IsAtEnd}
use Rattle.gw_io.specs.Written.{WritesPart}
use Rattle.gw_io.proofs.Callers.{consumed_more, consumed_kept, appended_on, part_behind, whole_part}
use Rattle.gw_judge.specs.declared.fate.Fate.{Fate}
use Rattle.gw_judge.specs.declared.tally.Tally.{Tally}
use Rattle.gw_judge.specs.declared.judging.Judging.{Judging}
use Rattle.gw_judge.specs.declared.fault.JudgeFault.{JudgeFault}
use Rattle.gw_judge.specs.declared.fault.JudgeFault.TheVariants.{ReadFault, WriteFault, Refused}
use Rattle.gw_judge.specs.Grouped.{Grouped, no_groups}
use Rattle.gw_judge.specs.Counting.{no_tally}
use Rattle.gw_judge.specs.Judged.{log_lines, written_of, IsJudged, IsPartlyJudged}
use Rattle.gw_judge.specs.LineParts.{Ahead, IsNextPart, GivesPart}
use Rattle.gw_judge.specs.UnderWay.{Puts, HasJudged, Fails, Reaches, Closes, Ends, IsUnderWay}
use Rattle.gw_judge.proofs.Gathering.{appended_nothing, front_part}
use Rattle.gw_judge.proofs.Lines.{written_more}
use Rattle.gw_judge.proofs.JudgedLines.{held_more}
use Rattle.gw_judge.proofs.PartByPart.{begins, judged_nothing}

-- ---- judging ends

-- the reader gave a log, and judging fails at it
pub fails_partly : (fault : JudgeFault) (fate : List ℕ → Fate) (front : Fate → Option (List ℕ)) (strict : Bool)
    (a c w x y : Option (List ℕ)) (log text : List ℕ) (read_failed failed : Bool) → Consumes a c log → Appends w x text
    → Fails fate front strict log text x y failed fault → IsPartlyJudged fate front strict a c w y read_failed failed fault
fails_partly WriteFault fate front strict a c w x y log text read_failed failed consumed written fails =
    let more = fails.1.0 in
    let begin = fails.1.2 in
    record {
      log = log;
      consumed = consumed;
      written = subst (WritesPart w y) (sym begin.whole)
          (front_part w y (text ++ more) begin.tail (part_behind w x y text more written fails.1.1));
      fault = fails.0;
    }
fails_partly ReadFault fate front strict a c w x y log text read_failed failed consumed written fails = absurd fails
fails_partly (Refused refused) fate front strict a c w x y log text read_failed failed consumed written fails =
    let more = fails.1.0 in
    let first = fails.1.2 in
    let all : Appends w y (text ++ more) = appended_on w x y text more written fails.1.1 in
    let whole : written_of fate front (log_lines log)
    ≡ (text ++ more) ++ written_of fate front (first.line ∷ first.more) =
    ap (written_of fate front) first.split ∙ written_more fate front first.lines (first.line ∷ first.more)
    ∙ ap (λ (xs : List ℕ). xs ++ written_of fate front (first.line ∷ first.more)) (sym first.written) in
    record {
      log = log;
      consumed = consumed;
      written = subst (WritesPart w y) (sym whole)
          (front_part w y (text ++ more) (written_of fate front (first.line ∷ first.more))
          (whole_part w y (text ++ more) all));
      fault = (fails.0, (text ++ more, all, first));
    }

-- ---- the end of the log

-- the last line was judged, and what is held is written
pub ends_written : {A B : Type 0} (done : A) (b : B) (fate : List ℕ → Fate) (front : Fate → Option (List ℕ)) (strict : Bool)
    (octets text : List ℕ) (w x y : Option (List ℕ)) (failed then_failed : Bool) (p : Judging) (now : List ℕ)
    → Closes fate front strict octets text w x failed (Ok done) p
    → Puts x y then_failed p.gathered.held.items [] (Ok b) now → now ≡ []
    → Ends fate front strict octets text w y then_failed (Ok p.tally)
ends_written done b fate front strict octets text w x y failed then_failed p now closes put none =
    let held : List ℕ = p.gathered.held.items in
    let more = closes.0 in
    let judged = closes.2 in
    let written : ((text ++ more) ++ put.1.0) ++ now ≡ written_of fate front (log_lines octets) =
    held_more (text ++ more) held [] put.1.0 now (written_of fate front (log_lines octets)) put.1.2 judged.written
    ∙ append-nil (written_of fate front (log_lines octets)) in (
      more ++ put.1.0,
      appended_on w x y more put.1.0 closes.1 put.1.1,
      record {
        tallied = judged.tallied;
        written = ap (λ (xs : List ℕ). xs ++ []) (sym (append_assoc text more put.1.0))
            ∙ ap (λ (xs : List ℕ). ((text ++ more) ++ put.1.0) ++ xs) (sym none) ∙ written;
        fine = judged.fine;
      },
    )

-- or it is not
pub ends_unwritten : {A B : Type 0} (done : A) (r : Result B JudgeFault) (fault : JudgeFault) (fate : List ℕ → Fate)
    (front : Fate → Option (List ℕ)) (strict : Bool) (octets text : List ℕ) (w x y : Option (List ℕ))
    (failed then_failed : Bool) (p : Judging) (now : List ℕ) → r ≡ Err fault
    → Closes fate front strict octets text w x failed (Ok done) p → Puts x y then_failed p.gathered.held.items [] r now
    → Ends fate front strict octets text w y then_failed (Err fault)
ends_unwritten {A} {B} done r fault fate front strict octets text w x y failed then_failed p now bad closes put =
    go fault (subst (λ (s : Result B JudgeFault). Puts x y then_failed p.gathered.held.items [] s now) bad put)
  where
    go : (e : JudgeFault) → Puts {A = B} x y then_failed p.gathered.held.items [] (Err e) now
        → Ends fate front strict octets text w y then_failed (Err e)
    go WriteFault q =
        let held : List ℕ = p.gathered.held.items in
        let more = closes.0 in (
          q.0,
          (
            more ++ (held ++ []),
            part_behind w x y more (held ++ []) closes.1 q.1,
            record {
              tail = [];
              whole = sym closes.2.written ∙ append_assoc text more held
                  ∙ ap (λ (xs : List ℕ). text ++ (more ++ xs)) (sym (append-nil held))
                  ∙ sym (append-nil (text ++ (more ++ (held ++ []))));
            },
          ),
        )
    go ReadFault q = absurd q
    go (Refused refused) q = absurd q

-- ---- part after part

-- what the reader gave, with a part more
pub given_more : (a b c : Option (List ℕ)) (octets rest : List ℕ) (now : Ahead) → Consumes a b (octets ++ rest)
    → (next : IsNextPart b c rest now) → Consumes a c ((octets ++ now.part) ++ now.rest)
given_more a b c octets rest now h next =
    subst (Consumes a c)
    (append_assoc octets rest next.got ∙ ap (λ (more : List ℕ). octets ++ more) next.cut
    ∙ sym (append_assoc octets now.part now.rest))
    (consumed_more a b c (octets ++ rest) next.got h next.consumed)

-- a part was judged
pub goes_on : {A : Type 0} (r : Result A JudgeFault) (fate : List ℕ → Fate) (front : Fate → Option (List ℕ)) (strict : Bool)
    (a b c w x y : Option (List ℕ)) (failed : Bool) (rest : List ℕ) (now : Ahead) (p q : Judging) (parts more : ℕ) (done : A)
    → r ≡ Ok done → more ≤ parts + 1 → IsUnderWay fate front strict a b w x rest p parts → IsNextPart b c rest now
    → ((octets text : List ℕ) → HasJudged fate front strict octets p text
    → Reaches fate front strict (octets ++ now.part) text x y failed r q)
    → IsUnderWay fate front strict a c w y now.rest q more
goes_on {A} r fate front strict a b c w x y failed rest now p q parts more done fine fewer way next taken =
    let judged = subst (λ (s : Result A JudgeFault). Reaches fate front strict (way.octets ++ now.part) way.text x y failed s q)
    fine (taken way.octets way.text way.judged) in
    record {
      octets = way.octets ++ now.part;
      text = way.text ++ judged.0;
      consumed = given_more a b c way.octets rest now way.consumed next;
      written = appended_on w x y way.text judged.0 way.written judged.1;
      judged = judged.2;
      some = let one = next.line.some in let so_far = way.some in omega (arith, length-append way.octets now.part);
    }

-- what is held was written
pub writes_on : {A : Type 0} (r : Result A JudgeFault) (fate : List ℕ → Fate) (front : Fate → Option (List ℕ)) (strict : Bool)
    (a b w x y : Option (List ℕ)) (failed : Bool) (rest : List ℕ) (p q : Judging) (parts : ℕ) (done : A) → r ≡ Ok done
    → IsUnderWay fate front strict a b w x rest p parts
    → ((octets text : List ℕ) → HasJudged fate front strict octets p text
    → Reaches fate front strict octets text x y failed r q)
    → IsUnderWay fate front strict a b w y rest q parts
writes_on {A} r fate front strict a b w x y failed rest p q parts done fine way taken =
    let judged = subst (λ (s : Result A JudgeFault). Reaches fate front strict way.octets way.text x y failed s q) fine
    (taken way.octets way.text way.judged) in
    record {
      octets = way.octets;
      text = way.text ++ judged.0;
      consumed = way.consumed;
      written = appended_on w x y way.text judged.0 way.written judged.1;
      judged = judged.2;
      some = way.some;
    }

-- judging ends at a part
pub stops : {A : Type 0} (r : Result A JudgeFault) (fate : List ℕ → Fate) (front : Fate → Option (List ℕ)) (strict : Bool)
    (a b c w x y : Option (List ℕ)) (read_failed failed : Bool) (rest : List ℕ) (now : Ahead) (p q : Judging) (parts : ℕ)
    (fault : JudgeFault) → r ≡ Err fault → IsUnderWay fate front strict a b w x rest p parts → IsNextPart b c rest now
    → ((octets text : List ℕ) → HasJudged fate front strict octets p text
    → Reaches fate front strict (octets ++ now.part) text x y failed r q)
    → IsPartlyJudged fate front strict a c w y read_failed failed fault
stops {A} r fate front strict a b c w x y read_failed failed rest now p q parts fault bad way next taken =
    let judged = subst (λ (s : Result A JudgeFault). Reaches fate front strict (way.octets ++ now.part) way.text x y failed s q)
    bad (taken way.octets way.text way.judged) in
    fails_partly fault fate front strict a c w x y ((way.octets ++ now.part) ++ now.rest) way.text read_failed failed
    (given_more a b c way.octets rest now way.consumed next) way.written (judged now.rest)

-- or where what is held is written
pub stops_writing : {A : Type 0} (r : Result A JudgeFault) (fate : List ℕ → Fate) (front : Fate → Option (List ℕ))
    (strict : Bool) (a b w x y : Option (List ℕ)) (read_failed failed : Bool) (rest : List ℕ) (p q : Judging) (parts : ℕ)
    (fault : JudgeFault) → r ≡ Err fault → IsUnderWay fate front strict a b w x rest p parts
    → ((octets text : List ℕ) → HasJudged fate front strict octets p text
    → Reaches fate front strict octets text x y failed r q)
    → IsPartlyJudged fate front strict a b w y read_failed failed fault
stops_writing {A} r fate front strict a b w x y read_failed failed rest p q parts fault bad way taken =
    let judged = subst (λ (s : Result A JudgeFault). Reaches fate front strict way.octets way.text x y failed s q) bad
    (taken way.octets way.text way.judged) in
    fails_partly fault fate front strict a b w x y (way.octets ++ rest) way.text read_failed failed way.consumed way.written
    (judged rest)

-- nothing more is read
pub stays : (fate : List ℕ → Fate) (front : Fate → Option (List ℕ)) (strict : Bool) (a b c w x : Option (List ℕ))
    (rest : List ℕ) (p : Judging) (parts : ℕ) (read_failed write_failed : Bool)
    → IsUnderWay fate front strict a b w x rest p parts → Keeps b c
    → ((log : List ℕ) → parts ≤ length log → (read_failed ≡ true) ⊎ (18446744073709551615 ≤ length log))
    → IsPartlyJudged fate front strict a c w x read_failed write_failed ReadFault
stays fate front strict a b c w x rest p parts read_failed write_failed way same fault =
    let begin = begins fate front strict way.octets p way.text way.judged rest in
    record {
      log = way.octets ++ rest;
      consumed = consumed_kept a b c (way.octets ++ rest) way.consumed same;
      written = subst (WritesPart w x) (sym begin.whole)
          (front_part w x way.text begin.tail (whole_part w x way.text way.written));
      fault = fault (way.octets ++ rest) (let so_far = way.some in omega (arith, length-append way.octets rest));
    }

-- the end came
pub all_read : (a b c : Option (List ℕ)) (octets rest : List ℕ) → Consumes a b (octets ++ rest) → Keeps b c → rest ≡ []
    → Consumes a c octets
all_read a b c octets rest consumed same none =
    subst (Consumes a c) (ap (λ (more : List ℕ). octets ++ more) none ∙ append-nil octets)
    (consumed_kept a b c (octets ++ rest) consumed same)

pub ends_whole : (r : Result Tally JudgeFault) (fate : List ℕ → Fate) (front : Fate → Option (List ℕ)) (strict : Bool)
    (a b c w x y : Option (List ℕ)) (failed : Bool) (rest : List ℕ) (p : Judging) (parts : ℕ)
    → IsUnderWay fate front strict a b w x rest p parts → Keeps b c × IsAtEnd c × (rest ≡ [])
    → ((octets text : List ℕ) → HasJudged fate front strict octets p text
    → Ends fate front strict octets text x y failed r)
    → IfOk r (IsJudged fate front strict a c w y)
ends_whole (Ok tally) fate front strict a b c w x y failed rest p parts way end ended =
    let said = ended way.octets way.text way.judged in
    record {
      log = way.octets;
      consumed = all_read a b c way.octets rest way.consumed end.0 end.2;
      end = end.1;
      written = subst (Appends w y) (sym (append-nil (way.text ++ said.0)) ∙ said.2.written)
          (appended_on w x y way.text said.0 way.written said.1);
      tallied = said.2.tallied;
      fine = said.2.fine;
    }
ends_whole (Err fault) fate front strict a b c w x y failed rest p parts way end ended = tt

pub ends_partly : (r : Result Tally JudgeFault) (fate : List ℕ → Fate) (front : Fate → Option (List ℕ)) (strict : Bool)
    (a b c w x y : Option (List ℕ)) (read_failed failed : Bool) (rest : List ℕ) (p : Judging) (parts : ℕ)
    → IsUnderWay fate front strict a b w x rest p parts → Keeps b c × IsAtEnd c × (rest ≡ [])
    → ((octets text : List ℕ) → HasJudged fate front strict octets p text
    → Ends fate front strict octets text x y failed r)
    → IfErr r (IsPartlyJudged fate front strict a c w y read_failed failed)
ends_partly (Ok tally) fate front strict a b c w x y read_failed failed rest p parts way end ended = tt
ends_partly (Err fault) fate front strict a b c w x y read_failed failed rest p parts way end ended =
    fails_partly fault fate front strict a c w x y way.octets way.text read_failed failed
    (all_read a b c way.octets rest way.consumed end.0 end.2) way.written (ended way.octets way.text way.judged)

-- ---- before and behind the parts

pub starts : (fate : List ℕ → Fate) (front : Fate → Option (List ℕ)) (strict : Bool) (a b w : Option (List ℕ))
    (first rest : List ℕ) (p : Judging) (parts : ℕ) (groups : Grouped) → Consumes a b first → groups ≡ no_groups groups.grouping
    → rest ≡ first → p.kept.items ≡ [] → p.gathered.held.items ≡ [] → p.tally ≡ no_tally groups → parts ≡ 0
    → IsUnderWay fate front strict a b w w rest p parts
starts fate front strict a b w first rest p parts groups opened fresh there empty unheld untold zero_parts = record {
  octets = [];
  text = [];
  consumed = subst (Consumes a b) (sym there) opened;
  written = appended_nothing w;
  judged = judged_nothing fate front strict p groups fresh empty unheld untold;
  some = omega arith;
}

pub keeps_same : (a : Option (List ℕ)) → Keeps a a
keeps_same None = tt
keeps_same (Some xs) = refl

pub met_part : (a b : Option (List ℕ)) (rest : List ℕ) (now : Ahead) (more : Bool) → more ≡ true
    → GivesPart a b rest now (Ok more) → IsNextPart a b rest now
met_part a b rest now more some given = subst (λ m. GivesPart a b rest now (Ok m)) some given

pub met_end : (a b : Option (List ℕ)) (rest : List ℕ) (now : Ahead) (more : Bool) → more ≡ false
    → GivesPart a b rest now (Ok more) → Keeps a b × IsAtEnd b × (rest ≡ [])
met_end a b rest now more none given = subst (λ m. GivesPart a b rest now (Ok m)) none given
