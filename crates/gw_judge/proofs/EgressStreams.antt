-- What was read of a log and written of what leaves, part after part.
use Rattle.std.proofs.Common.{◌≡◌, ◌⊎◌, ℕ, ◌+◌, ◌≤◌, Bool, true, List, [], ◌++◌, length}
use Rattle.std.proofs.Common.{Option, Result, Ok, Err, sym, ◌∙◌, subst, append_assoc, arith, length-append}
use Rattle.std.specs.Prelude.{IfErr, OnOk}
use Rattle.std.specs.Io.KnownBytes.{Appends, Consumes, Keeps, IsAtEnd}
use Rattle.gw_io.specs.Written.{WritesPart}
use Rattle.gw_io.proofs.Callers.{consumed_kept, appended_on, part_behind, whole_part}
use Rattle.gw_policy.specs.Batches.{Pair}
use Rattle.gw_judge.specs.declared.interfaces.NamedInterface.{NamedInterface}
use Rattle.gw_judge.specs.declared.egress.Egress.{Egress}
use Rattle.gw_judge.specs.declared.fault.JudgeFault.{JudgeFault}
use Rattle.gw_judge.specs.declared.fault.JudgeFault.TheVariants.{ReadFault, WriteFault, Refused}
use Rattle.gw_judge.specs.LineParts.{Ahead, IsNextPart}
use Rattle.gw_judge.specs.Egress.{log_egress, WritesEgress, WritesPartOfEgress}
use Rattle.gw_judge.specs.EgressUnderWay.{HasEgress, HearPorts, FailsEgress, ReachesEgress, EndsEgress, IsEgressUnderWay}
use Rattle.gw_judge.proofs.Gathering.{appended_nothing, front_part}
use Rattle.gw_judge.proofs.Streams.{given_more, all_read}
use Rattle.gw_judge.proofs.EgressParts.{begins_egress, nothing_taken}

-- the reader gave a log, and a write failed
fails_partly : (fault : JudgeFault) (names : List NamedInterface) (batches : List (List Pair)) (a c w x y : Option (List ℕ))
    (log text : List ℕ) (read_failed failed : Bool) → Consumes a c log → Appends w x text
    → FailsEgress names batches log text x y failed fault
    → WritesPartOfEgress names batches a c w y read_failed failed fault
fails_partly WriteFault names batches a c w x y log text read_failed failed consumed written fails =
    let more = fails.1.0 in
    let begin = fails.1.2 in
    record {
      log = log;
      consumed = consumed;
      written = subst (WritesPart w y) (sym begin.whole)
          (front_part w y (text ++ more) begin.tail (part_behind w x y text more written fails.1.1));
      fault = fails.0;
    }
fails_partly ReadFault names batches a c w x y log text read_failed failed consumed written fails = absurd fails
fails_partly (Refused refused) names batches a c w x y log text read_failed failed consumed written fails = absurd fails

-- ---- part after part

-- a part was taken
pub goes_on_egress : {A : Type 0} (r : Result A JudgeFault) (names : List NamedInterface) (batches : List (List Pair))
    (a b c w x y : Option (List ℕ)) (failed : Bool) (rest : List ℕ) (now : Ahead) (p q : Egress) (parts more : ℕ) (done : A)
    → r ≡ Ok done → more ≤ parts + 1 → IsEgressUnderWay names batches a b w x rest p parts → IsNextPart b c rest now
    → ((octets text : List ℕ) → HasEgress names batches octets p text
    → ReachesEgress names batches (octets ++ now.part) text x y failed r q)
    → IsEgressUnderWay names batches a c w y now.rest q more
goes_on_egress {A} r names batches a b c w x y failed rest now p q parts more done fine fewer way next taken =
    let Reaches : Result A JudgeFault → Type 0 = λ s.
    ReachesEgress names batches (way.octets ++ now.part) way.text x y failed s q in
    let reached = subst Reaches fine (taken way.octets way.text way.taken) in
    record {
      octets = way.octets ++ now.part;
      text = way.text ++ reached.0;
      consumed = given_more a b c way.octets rest now way.consumed next;
      written = appended_on w x y way.text reached.0 way.written reached.1;
      taken = reached.2;
      some = let one = next.line.some in let so_far = way.some in omega (arith, length-append way.octets now.part);
    }

-- what is held was written
pub writes_on_egress : {A : Type 0} (r : Result A JudgeFault) (names : List NamedInterface) (batches : List (List Pair))
    (a b w x y : Option (List ℕ)) (failed : Bool) (rest : List ℕ) (p q : Egress) (parts : ℕ) (done : A) → r ≡ Ok done
    → IsEgressUnderWay names batches a b w x rest p parts
    → ((octets text : List ℕ) → HasEgress names batches octets p text
    → ReachesEgress names batches octets text x y failed r q)
    → IsEgressUnderWay names batches a b w y rest q parts
writes_on_egress {A} r names batches a b w x y failed rest p q parts done fine way taken =
    let reached = subst (λ (s : Result A JudgeFault). ReachesEgress names batches way.octets way.text x y failed s q) fine
    (taken way.octets way.text way.taken) in
    record {
      octets = way.octets;
      text = way.text ++ reached.0;
      consumed = way.consumed;
      written = appended_on w x y way.text reached.0 way.written reached.1;
      taken = reached.2;
      some = way.some;
    }

-- it ends at a part
pub stops_egress : {A : Type 0} (r : Result A JudgeFault) (names : List NamedInterface) (batches : List (List Pair))
    (a b c w x y : Option (List ℕ)) (read_failed failed : Bool) (rest : List ℕ) (now : Ahead) (p q : Egress) (parts : ℕ)
    (fault : JudgeFault) → r ≡ Err fault → IsEgressUnderWay names batches a b w x rest p parts → IsNextPart b c rest now
    → ((octets text : List ℕ) → HasEgress names batches octets p text
    → ReachesEgress names batches (octets ++ now.part) text x y failed r q)
    → WritesPartOfEgress names batches a c w y read_failed failed fault
stops_egress {A} r names batches a b c w x y read_failed failed rest now p q parts fault bad way next taken =
    let Reaches : Result A JudgeFault → Type 0 = λ s.
    ReachesEgress names batches (way.octets ++ now.part) way.text x y failed s q in
    let reached = subst Reaches bad (taken way.octets way.text way.taken) in
    fails_partly fault names batches a c w x y ((way.octets ++ now.part) ++ now.rest) way.text read_failed failed
    (given_more a b c way.octets rest now way.consumed next) way.written (reached now.rest)

-- or where what is held is written
pub stops_writing_egress : {A : Type 0} (r : Result A JudgeFault) (names : List NamedInterface) (batches : List (List Pair))
    (a b w x y : Option (List ℕ)) (read_failed failed : Bool) (rest : List ℕ) (p q : Egress) (parts : ℕ) (fault : JudgeFault)
    → r ≡ Err fault → IsEgressUnderWay names batches a b w x rest p parts
    → ((octets text : List ℕ) → HasEgress names batches octets p text
    → ReachesEgress names batches octets text x y failed r q)
    → WritesPartOfEgress names batches a b w y read_failed failed fault
stops_writing_egress {A} r names batches a b w x y read_failed failed rest p q parts fault bad way taken =
    let reached = subst (λ (s : Result A JudgeFault). ReachesEgress names batches way.octets way.text x y failed s q) bad
    (taken way.octets way.text way.taken) in
    fails_partly fault names batches a b w x y (way.octets ++ rest) way.text read_failed failed way.consumed way.written
    (reached rest)

-- nothing more is read
pub stays_unread : (names : List NamedInterface) (batches : List (List Pair)) (a b c w x : Option (List ℕ))
    (rest : List ℕ) (p : Egress) (parts : ℕ) (read_failed write_failed : Bool)
    → IsEgressUnderWay names batches a b w x rest p parts → Keeps b c
    → ((log : List ℕ) → parts ≤ length log → (read_failed ≡ true) ⊎ (18446744073709551615 ≤ length log))
    → WritesPartOfEgress names batches a c w x read_failed write_failed ReadFault
stays_unread names batches a b c w x rest p parts read_failed write_failed way same fault =
    let begin = begins_egress names batches way.octets p way.text way.taken rest in
    let held : List ℕ = p.gathered.held.items in
    let whole : log_egress names batches (way.octets ++ rest) ≡ way.text ++ (held ++ begin.0) =
    begin.1 ∙ append_assoc way.text held begin.0 in
    record {
      log = way.octets ++ rest;
      consumed = consumed_kept a b c (way.octets ++ rest) way.consumed same;
      written = subst (WritesPart w x) (sym whole)
          (front_part w x way.text (held ++ begin.0) (whole_part w x way.text way.written));
      fault = fault (way.octets ++ rest) (let so_far = way.some in omega (arith, length-append way.octets rest));
    }

-- the end came
pub ends_egress : {A : Type 0} (r : Result A JudgeFault) (names : List NamedInterface) (batches : List (List Pair))
    (a b c w x y : Option (List ℕ)) (failed : Bool) (rest : List ℕ) (p : Egress) (parts : ℕ)
    → IsEgressUnderWay names batches a b w x rest p parts → Keeps b c × IsAtEnd c × (rest ≡ [])
    → ((octets text : List ℕ) → HasEgress names batches octets p text
    → EndsEgress names batches octets text x y failed r)
    → OnOk r (WritesEgress names batches a c w y)
ends_egress (Ok done) names batches a b c w x y failed rest p parts way end ended =
    let said = ended way.octets way.text way.taken in
    record {
      log = way.octets;
      consumed = all_read a b c way.octets rest way.consumed end.0 end.2;
      end = end.1;
      written = subst (Appends w y) said.2 (appended_on w x y way.text said.0 way.written said.1);
    }
ends_egress (Err fault) names batches a b c w x y failed rest p parts way end ended = tt

pub ends_egress_partly : {A : Type 0} (r : Result A JudgeFault) (names : List NamedInterface) (batches : List (List Pair))
    (a b c w x y : Option (List ℕ)) (read_failed failed : Bool) (rest : List ℕ) (p : Egress) (parts : ℕ)
    → IsEgressUnderWay names batches a b w x rest p parts → Keeps b c × IsAtEnd c × (rest ≡ [])
    → ((octets text : List ℕ) → HasEgress names batches octets p text
    → EndsEgress names batches octets text x y failed r)
    → IfErr r (WritesPartOfEgress names batches a c w y read_failed failed)
ends_egress_partly (Ok done) names batches a b c w x y read_failed failed rest p parts way end ended = tt
ends_egress_partly (Err fault) names batches a b c w x y read_failed failed rest p parts way end ended =
    fails_partly fault names batches a c w x y way.octets way.text read_failed failed
    (all_read a b c way.octets rest way.consumed end.0 end.2) way.written (ended way.octets way.text way.taken)

-- before the first part
pub starts_egress : (names : List NamedInterface) (batches : List (List Pair)) (a b w : Option (List ℕ)) (first rest : List ℕ)
    (p : Egress) (parts : ℕ) → Consumes a b first → rest ≡ first → p.kept.items ≡ [] → p.gathered.held.items ≡ []
    → HearPorts p.claims (λ port. []) → parts ≡ 0 → IsEgressUnderWay names batches a b w w rest p parts
starts_egress names batches a b w first rest p parts opened there empty unheld unheard zero_parts = record {
  octets = [];
  text = [];
  consumed = subst (Consumes a b) (sym there) opened;
  written = appended_nothing w;
  taken = nothing_taken names batches p empty unheld unheard;
  some = omega arith;
}
