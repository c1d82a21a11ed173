-- What the ports' files were found to hold, from what was taken of their inputs.
use Rattle.std.proofs.Common.{◌≡◌, ◌∙◌, ℕ, Bool, List, [], ◌∷◌, ◌++◌, Option, Some, None, Result, Ok, ap, append-nil}
use Rattle.std.proofs.Common.{append_assoc, inl, inr, map, refl, subst, sym}
use Rattle.std.specs.Borrow.{Bor}
use Rattle.std.specs.Iterator.{Yields}
use Rattle.std.specs.Vec.Iter.{into_iter_items}
use Rattle.gw_ledger.specs.Bounds.{Bounds}
use Rattle.gw_policy.specs.Batches.{Pair}
use Rattle.gw_ports.specs.Reports.{Ran}
use Rattle.gw_ports.specs.Running.{Fed, Feeding, Gives, IsDone, Pairwise}
use Rattle.gw_ports.specs.Runs.{IsRun}
use Rattle.gw_ports.specs.declared.refusals.OfferRefusal.{OfferRefusal}
use Rattle.gw_ports.specs.declared.running.RunEnd.{RunEnd}
use Rattle.gw_run.specs.Forwarding.{EndsRun, IsListRun, RefusesInputs}
use Rattle.gw_run.specs.declared.kept.NoCopies.{NoCopies}
use Rattle.gw_run.specs.declared.losses.Losses.{Losses}
use Rattle.gw_run.specs.Logs.{log_frames}
use Rattle.gw_run.specs.PortInputs.{AreFinished, AreFoundOf, AreFramesOf, AreKnown, AreNew, Found, GivesNext, HasGiven}
use Rattle.gw_run.specs.PortInputs.{IsFoundOf, IsSpent, Known, RefusesFiles, RefusesFilesRun}
use Rattle.gw_run.specs.PortInputs.{frames_of}
use Rattle.gw_run.specs.PortInputs.Found.{Held, NotNamed, Unread}
use Rattle.gw_run.specs.declared.port_input.PortInput.{PortInput}
use Rattle.gw_run.specs.declared.port_input.PortInput.TheVariants.{Listed, Streamed}
use Rattle.gw_run.specs.declared.refusal.ForwardRefusal.{ForwardRefusal}
use Rattle.gw_run.proofs.Forwards.{refuses_as}
use Rattle.gw_run.proofs.ListRuns.{AreLists, given, given_by, list_run}

-- ---- files of which nothing is known

any_found : (file : Option (Bor (List ℕ))) → (found : Found) × IsFoundOf file found
any_found None = (NotNamed, refl)
any_found (Some file) = (Unread, tt)

pub all_found : (files : List (Option (Bor (List ℕ)))) → (found : List Found) × AreFoundOf files found
all_found [] = ([], tt)
all_found (file ∷ files) =
    let one = any_found file in let others = all_found files in (one.0 ∷ others.0, (one.1, others.1))

-- ---- inputs of which no frame was taken yet

-- a file that holds octets, whichever these are
pub held_of : (file : Option (Bor (List ℕ))) (some others : List ℕ) → IsFoundOf file (Held some) → IsFoundOf file (Held others)
held_of None some others is = let other : ◌≡◌ {A = Found} (Held some) NotNamed = is in absurd cc
held_of (Some file) some others is = tt

begun : {R : Type 0} (remaining : R → Option (List ℕ)) (file : Option (Bor (List ℕ))) (input : PortInput R)
    → HasGiven remaining file [] input
    → (found : Found) × (frames : List (List ℕ)) × IsFoundOf file found × (frames_of found ≡ Ok frames)
begun remaining file (Listed frames) has = (has.0, into_iter_items frames, has.1, has.2)
begun remaining file (Streamed named frames) has = (Held [], log_frames [], held_of file has.1 [] has.2, refl)

pub all_begun : {R : Type 0} (remaining : R → Option (List ℕ)) (files : List (Option (Bor (List ℕ))))
    (inputs : List (PortInput R)) → AreNew remaining files inputs
    → (found : List Found) × (frames : List (List (List ℕ))) × AreFoundOf files found × AreFramesOf found frames
all_begun remaining [] [] new = ([], [], tt, refl)
all_begun remaining (file ∷ files) (input ∷ inputs) new =
    let one = begun remaining file input new.0 in
    let others = all_begun remaining files inputs new.1 in (
      one.0 ∷ others.0,
      one.1 ∷ others.1,
      (one.2, others.2),
      ap (λ first. first ∷ map frames_of others.0) one.3
          ∙ ap (λ (l : List (Result (List (List ℕ)) ForwardRefusal)). Ok one.1 ∷ l) others.3,
    )
all_begun remaining [] (input ∷ inputs) new = absurd new
all_begun remaining (file ∷ files) [] new = absurd new

-- ---- what a run took

along : {R : Type 0} (remaining : R → Option (List ℕ)) (file : Option (Bor (List ℕ))) (before frames : List (List ℕ))
    (old new : PortInput R) → HasGiven remaining file before old → Yields (GivesNext remaining) old frames new
    → HasGiven remaining file (before ++ frames) new
along remaining file before [] old new has same =
    subst (λ l. HasGiven remaining file l new) (sym (append-nil before)) (subst (HasGiven remaining file before) same has)
along remaining file before (frame ∷ frames) old new has step =
    subst (λ l. HasGiven remaining file l new) (append_assoc before (frame ∷ []) frames)
    (along remaining file (before ++ frame ∷ []) frames step.0 new (step.1.goes_on file before has) step.2)

taken : {R : Type 0} (remaining : R → Option (List ℕ)) (file : Option (Bor (List ℕ))) (input : PortInput R)
    (frames : List (List ℕ)) (stop : Option OfferRefusal) (rest : PortInput R)
    (gave : Gives (GivesNext remaining) input frames stop rest) → HasGiven remaining file [] input
    → HasGiven remaining file (given (GivesNext remaining) input frames stop rest gave) rest × (stop ≡ None → IsSpent rest)
taken remaining file input frames None rest gave has = (
  subst (λ l. HasGiven remaining file l rest) (append-nil frames)
      (gave.2.goes_on file frames (along remaining file [] frames input gave.0 has gave.1)),
  λ ended. gave.2.ends,
)
taken remaining file input frames (Some why) rest gave has = (
  along remaining file [] (frames ++ gave.0 ∷ []) input rest has gave.1,
  λ ended. absurd (stopped ended),
)
  where
    stopped : Some why ≡ None → ⊥
    stopped e = cc

-- what is known of the ports' files behind the run
abbrev pub known_after : {R : Type 0} (remaining : R → Option (List ℕ)) (files : List (Option (Bor (List ℕ))))
    (feeds : List (Feeding (PortInput R))) (dones : List (Fed (PortInput R)))
    → Pairwise (IsDone (GivesNext remaining)) feeds dones → List Known
known_after remaining (file ∷ files) (feed ∷ feeds) (done ∷ dones) both =
    record { file = file; given = given_by (GivesNext remaining) feed done both.0 }
    ∷ known_after remaining files feeds dones both.1
known_after remaining files feeds dones both = []

pub all_known : {R : Type 0} (remaining : R → Option (List ℕ)) (files : List (Option (Bor (List ℕ))))
    (feeds : List (Feeding (PortInput R))) (dones : List (Fed (PortInput R)))
    (done : Pairwise (IsDone (GivesNext remaining)) feeds dones) → AreNew remaining files (map (λ feed. feed.input) feeds)
    → AreKnown remaining (known_after remaining files feeds dones done) (map (λ one. one.rest) dones)
    × (map (λ one. one.file) (known_after remaining files feeds dones done) ≡ files)
all_known remaining [] [] [] done new = (tt, refl)
all_known remaining (file ∷ files) (feed ∷ feeds) (done ∷ dones) both new =
    let one = taken remaining file feed.input both.0.frames done.stop done.rest both.0.gave new.0 in
    let others = all_known remaining files feeds dones both.1 new.1 in
    ((one.0, others.0), ap (λ l. file ∷ l) others.1)
all_known remaining [] (feed ∷ feeds) dones both new = absurd new
all_known remaining (file ∷ files) [] dones both new = absurd new
all_known remaining files [] (done ∷ dones) both new = absurd both
all_known remaining files (feed ∷ feeds) [] both new = absurd both

-- ---- the end

-- all files have frames, of which the run took those in front
pub all_finished : {R : Type 0} (remaining : R → Option (List ℕ)) (files : List (Option (Bor (List ℕ))))
    (feeds : List (Feeding (PortInput R))) (dones : List (Fed (PortInput R)))
    (done : Pairwise (IsDone (GivesNext remaining)) feeds dones) → AreNew remaining files (map (λ feed. feed.input) feeds)
    → AreFinished (known_after remaining files feeds dones done) (map (λ one. one.rest) dones)
    → (found : List Found) × (wholes : List (List (List ℕ))) × (lefts : List (List (List ℕ))) × AreFoundOf files found
    × AreFramesOf found wholes × AreLists (GivesNext remaining) feeds dones done wholes lefts
all_finished remaining [] [] [] done new finished = ([], [], [], tt, refl, tt)
all_finished remaining (file ∷ files) (feed ∷ feeds) (done ∷ dones) both new finished =
    let one = finished.0 in
    let gave = given_by (GivesNext remaining) feed done both.0 in
    let spent = (taken remaining file feed.input both.0.frames done.stop done.rest both.0.gave new.0).1 in
    let others = all_finished remaining files feeds dones both.1 new.1 finished.1 in (
      one.found ∷ others.0,
      (gave ++ one.left) ∷ others.1,
      one.left ∷ others.2,
      (one.is_found, others.3),
      ap (λ first. first ∷ map frames_of others.0) one.frames
          ∙ ap (λ (l : List (Result (List (List ℕ)) ForwardRefusal)). Ok (gave ++ one.left) ∷ l) others.4,
      (refl, λ ended. one.spent (spent ended), others.5),
    )
all_finished remaining [] (feed ∷ feeds) dones both new finished = absurd new
all_finished remaining (file ∷ files) [] dones both new finished = absurd new
all_finished remaining files [] (done ∷ dones) both new finished = absurd both
all_finished remaining files (feed ∷ feeds) [] both new finished = absurd both

-- the run was one on the frames of the files
pub files_run : {R : Type 0} (remaining : R → Option (List ℕ)) (limits : Bounds) (first : List Pair)
    (files : List (Option (Bor (List ℕ)))) (inputs rests : List (PortInput R)) (ran : Ran)
    (run : IsRun (GivesNext remaining) limits first inputs [] rests ran) → AreNew remaining files inputs
    → AreFinished (known_after remaining files run.feeds run.done run.offered) rests
    → (found : List Found) × (frames : List (List (List ℕ))) × AreFoundOf files found × AreFramesOf found frames
    × IsListRun limits first frames ran
files_run remaining limits first files inputs rests ran run new finished =
    let ended = all_finished remaining files run.feeds run.done run.offered
    (subst (λ l. AreNew remaining files l) (sym run.inputs_are) new)
    (subst (λ l. AreFinished (known_after remaining files run.feeds run.done run.offered) l) run.rests_are finished) in (
      ended.0,
      ended.1,
      ended.3,
      ended.4,
      list_run (GivesNext remaining) limits first inputs rests ran run ended.1 ended.2 ended.5,
    )

pub files_known : {R : Type 0} (remaining : R → Option (List ℕ)) (limits : Bounds) (first : List Pair)
    (files : List (Option (Bor (List ℕ)))) (inputs rests : List (PortInput R)) (ran : Ran)
    (run : IsRun (GivesNext remaining) limits first inputs [] rests ran) → AreNew remaining files inputs
    → AreKnown remaining (known_after remaining files run.feeds run.done run.offered) rests
    × (map (λ one. one.file) (known_after remaining files run.feeds run.done run.offered) ≡ files)
files_known remaining limits first files inputs rests ran run new =
    let known = all_known remaining files run.feeds run.done run.offered
    (subst (λ l. AreNew remaining files l) (sym run.inputs_are) new) in (
      subst (λ l. AreKnown remaining (known_after remaining files run.feeds run.done run.offered) l) (sym run.rests_are) known.0,
      known.1,
    )

-- the run that ended so, once its inputs are finished
pub ended_run : {R : Type 0} (remaining : R → Option (List ℕ)) (limits : Bounds) (first : List Pair)
    (files : List (Option (Bor (List ℕ)))) (inputs : List (PortInput R)) (waits : Bool)
    (ended : RunEnd (PortInput R) Losses NoCopies) (is : EndsRun (GivesNext remaining) limits first inputs waits ended)
    → AreNew remaining files inputs
    → ((known : List Known) → AreKnown remaining known ended.inputs.items → AreFinished known ended.inputs.items)
    → (found : List Found) × (frames : List (List (List ℕ))) × AreFoundOf files found × AreFramesOf found frames
    × IsListRun limits first frames is.ran
ended_run remaining limits first files inputs waits ended is new finished =
    let run = is.is_run in
    files_run remaining limits first files inputs ended.inputs.items is.ran run new
    (finished (known_after remaining files run.feeds run.done run.offered)
    (files_known remaining limits first files inputs ended.inputs.items is.ran run new).0)

-- ---- what refuses the run

pub files_refused : (limits : Bounds) (first : List Pair) (files : List (Option (Bor (List ℕ)))) (refusal : ForwardRefusal)
    → RefusesFiles files refusal → RefusesFilesRun limits first files refusal
files_refused limits first files refusal (inl refused) = (refused.0, refused.1, inl refused.2)
files_refused limits first files refusal (inr memory) = let any = all_found files in (any.0, any.1, inr (inr memory))

-- no run began, whatever the traces hold
pub run_refused : {R : Type 0} (remaining : R → Option (List ℕ)) (limits : Bounds) (first : List Pair)
    (files : List (Option (Bor (List ℕ)))) (inputs : List (PortInput R)) (refusal : ForwardRefusal)
    → AreNew remaining files inputs → RefusesInputs (λ ran. ⊥) limits first refusal → RefusesFilesRun limits first files refusal
run_refused remaining limits first files inputs refusal new refused =
    let any = all_begun remaining files inputs new in (
      any.0,
      any.2,
      inr (inl (
        any.1,
        any.3,
        refuses_as (λ ran. ⊥) (IsListRun limits first any.1) limits first refusal (λ ran none. absurd none)
            refused,
      )),
    )
