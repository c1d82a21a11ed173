-- What threads do with the ends of a gateway of two ports.
use Rattle.std.proofs.Common.{◌≡◌, ◌∙◌, ℕ, ◌<◌, List, [], ◌∷◌, ◌++◌, Option, Result, Ok, Err, IsErr, IsErrAnd, IfErr, MatchResult}
use Rattle.std.proofs.Common.{sym, ap, subst, refl, arith, append_assoc}
use Rattle.std.specs.Option.{option_map_or}
use Rattle.std.specs.Result.{result_and}
use Rattle.j1939_gateway.specs.BoardEnds.{Publishing}
use Rattle.j1939_gateway.specs.BoardRefusals.{Refuses}
use Rattle.j1939_gateway.specs.FrameCopy.{FrameCopy}
use Rattle.j1939_gateway.specs.LaneEnds.{Outlet}
use Rattle.j1939_gateway.specs.PortEnds.{Egress}
use Rattle.j1939_gateway.specs.Sending.{Sends}
use Rattle.j1939_gateway.specs.OfferRefusal.{OfferRefusal}
use Rattle.j1939_gateway.specs.OfferRefusal.TheVariants.{FramesSpent, NoReading}
use Rattle.j1939_gateway.specs.Batches.{Pair}
use Rattle.example_calling.specs.declared.fault.Fault.{Fault}
use Rattle.example_calling.specs.declared.fault.Fault.TheVariants.{Record, Listing, Program, Table, OutOfMemory, NotMade}
use Rattle.example_calling.specs.declared.fault.Fault.TheVariants.{NotPublished, NotTaken, NotClosed, NoThread, WriteFailed}
use Rattle.example_calling.specs.declared.threads.Feed.{Feed}
use Rattle.example_calling.specs.Replacing.{IsNotPublished}
use Rattle.example_calling.specs.Threads.{operator_with, IsOfferFault, IsOpenFault, IsRunFault, RefusesNextOf, taken_out}

-- what `?` hands on is the fault that came
pub passed_on : {T E : Type 0} (P : E → Type 0) (e : E) (r : Result T E) → IsErr r × IsErrAnd r (λ f. f ≡ e) → P e → IfErr r P
passed_on P e (Ok x) gives holds = tt
passed_on P e (Err f) gives holds = subst P (sym gives.1) holds

-- what holds of a fault holds of it in other words
pub refused_so : {T E : Type 0} (P Q : E → Type 0) (r : Result T E) → ((e : E) → P e → Q e) → IfErr r P → IfErr r Q
refused_so P Q (Ok x) step holds = tt
refused_so P Q (Err e) step holds = step e holds

-- the first batch was refused
pub open_refuses : (first : List Pair) (operator : Publishing) (fault : Fault) → operator ≡ operator_with operator.board []
    → IsNotPublished operator first fault → IsOpenFault first fault
open_refuses first operator fault is refused =
    subst (λ (f : Fault). IsOpenFault first f) (sym refused.fault_is)
    (operator.board, refused.after, subst (λ (o : Publishing). Refuses o first refused.why refused.after) is refused.refuses)

-- a port refused the next frame of a list
pub refused_next : (why : OfferRefusal) (frames most taken : ℕ) → taken < frames → (why ≡ FramesSpent → taken ≡ most)
    → RefusesNextOf frames most why
refused_next FramesSpent frames most taken below spent = let all = spent refl in omega arith
refused_next NoReading frames most taken below spent = tt

-- one copy more was taken out
pub sent_more : (before copies copies' : List FrameCopy) (old new : Egress) (copy : FrameCopy)
    → taken_out old ≡ before ++ copies → Sends 0 old copy new → copies' ≡ copies ++ copy ∷ []
    → taken_out new ≡ before ++ copies'
sent_more before copies copies' old new copy so_far sends is =
    let taken : Option Outlet → List FrameCopy = λ lane. option_map_or (λ (o : Outlet). o.taken) lane [] in
    ap taken sends.lanes.lane.is
    ∙ ap (λ (l : List FrameCopy). l ++ copy ∷ []) (sym (ap taken sends.lanes.lane.was) ∙ so_far)
    ∙ append_assoc before copies (copy ∷ [])
    ∙ ap (λ (l : List FrameCopy). before ++ l) (sym is)

-- a frame was refused
offer_refuses : (operator : Publishing) (feed : Feed) (batch : List Pair) (fault : Fault) → IsOfferFault feed fault
    → IsRunFault operator feed batch fault
offer_refuses operator feed batch (Record why) refuses = absurd refuses
offer_refuses operator feed batch (Listing why) refuses = absurd refuses
offer_refuses operator feed batch (Program why place) refuses = absurd refuses
offer_refuses operator feed batch (Table why) refuses = absurd refuses
offer_refuses operator feed batch OutOfMemory refuses = absurd refuses
offer_refuses operator feed batch (NotMade why) refuses = absurd refuses
offer_refuses operator feed batch (NotPublished why) refuses = absurd refuses
offer_refuses operator feed batch (NotTaken why) refuses = refuses
offer_refuses operator feed batch (NotClosed why) refuses = absurd refuses
offer_refuses operator feed batch NoThread refuses = absurd refuses
offer_refuses operator feed batch WriteFailed refuses = absurd refuses

-- the batch or a frame was refused, and both threads kept their promises
pub run_refuses : {T : Type 0} (P : T → Type 0) (Q : Feed → Type 0) (operator operator' : Publishing) (feed feed' : Feed)
    (batch batch' : List Pair) (published : Result T Fault) (offered both : Result Feed Fault) (fault : Fault)
    → operator' ≡ operator → feed' ≡ feed → batch' ≡ batch
    → MatchResult published P (IsNotPublished operator' batch') → MatchResult offered Q (IsOfferFault feed')
    → both ≡ result_and published offered → both ≡ Err fault → IsRunFault operator feed batch fault
run_refuses P Q operator operator' feed feed' batch batch' (Err why) offered both fault same_o same_f
    same_b refused offers joined is =
    let it : why ≡ fault = cc in
    subst (λ (f : Fault). IsRunFault operator feed batch f) it
    (subst (λ (o : Publishing). IsRunFault o feed batch why) same_o
    (subst (λ (b : List Pair). IsRunFault operator' feed b why) same_b
    (subst (λ (f : Fault). IsRunFault operator' feed batch' f) (sym refused.fault_is) (refused.after, refused.refuses))))
run_refuses P Q operator operator' feed feed' batch batch' (Ok x) (Err why) both fault same_o same_f
    same_b published refused joined is =
    let it : why ≡ fault = cc in
    subst (λ (f : Fault). IsRunFault operator feed batch f) it
    (offer_refuses operator feed batch why (subst (λ (f : Feed). IsOfferFault f why) same_f refused))
run_refuses P Q operator operator' feed feed' batch batch' (Ok x) (Ok met) both fault same_o same_f
    same_b published offered joined is =
    absurd (cc (joined, is))
