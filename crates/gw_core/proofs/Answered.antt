-- What the laws say of an event that was done, and of the events of a run.
use Rattle.std.proofs.Common.{◌≡◌, ℕ, ◌+◌, List, [], ◌∷◌, ◌++◌, length, reverse, Option, Some, None, Result, refl, sym, ap, subst}
use Rattle.std.proofs.Common.{◌∙◌}
use Rattle.std.specs.Prelude.{All, slice_get}
use Rattle.std.proofs.lemmas.List.Elements.{All-tail}
use Rattle.gw_claims.specs.Claims.{is_local}
use Rattle.gw_ledger.specs.Bounds.{Bounds}
use Rattle.gw_ledger.specs.declared.outcome.FrameCopy.{FrameCopy}
use Rattle.gw_ledger.specs.declared.outcome.Outcome.{Outcome}
use Rattle.gw_core.specs.Start.{Start, Heard, begun}
use Rattle.gw_core.specs.PortHistory.{ever_heard}
use Rattle.gw_core.specs.PortHistory.{ingress_of, waiting, heard, batches}
use Rattle.gw_core.specs.Events.{history_of, all_batches, accepted, keep_accepted, refusal, reply, answer, first_waiting}
use Rattle.gw_core.specs.Events.{history_after}
use Rattle.gw_core.specs.Gateway.{Gateway}
use Rattle.gw_core.specs.Runs.{RunsTo, ForEachAnswer}
use Rattle.gw_core.specs.Headline.{IsEvent, Headline, Forwards}
use Rattle.gw_core.specs.Safety.{MakesNext, IsSafeStep, StepsInside}
use Rattle.gw_core.specs.declared.event.Event.{Event}
use Rattle.gw_core.specs.declared.event.Event.TheVariants.{Publish, Take, Step, Send}
use Rattle.gw_core.specs.declared.event.Answer.{Answer}
use Rattle.gw_core.specs.declared.event.Answer.TheVariants.{Published, Taken, Finished}
use Rattle.gw_core.specs.declared.event.EventRefusal.{EventRefusal}
use Rattle.gw_core.proofs.Forwarding.{said}
use Rattle.gw_core.proofs.Gateways.{same_some}
use Rattle.gw_core.proofs.Replies.{turned, are_replies}

-- the law of finished frames, and that of steps
abbrev pub FinishedLaw : Type 0
FinishedLaw = (start : Start) (history : List Event) (p : ℕ) (o : Outcome) → All IsEvent (accepted start history)
    → Headline start history p o

abbrev pub SafetyLaw : Type 0
SafetyLaw = (start : Start) (history : List Event) (p q n : ℕ) → All IsEvent (accepted start history)
    → MakesNext start (accepted start history) p q n → IsSafeStep start (accepted start history) p q n

-- no sending is answered by Finished
no_copy : (copies : List FrameCopy) (o : Outcome) → first_waiting copies ≡ Finished o → ⊥
no_copy [] o e = cc
no_copy (copy ∷ rest) o e = cc

-- the reply to an event tells of a finished frame only where it is a step
forwards : FinishedLaw → (start : Start) (history : List Event) (e : Event) (given : Result Answer EventRefusal)
    → All IsEvent (accepted start history) → given ≡ reply start history e → Forwards start history e given
forwards law start history (Publish batch) given events is o says =
    let done = accepted start history in
    let never : Published (length (all_batches done) + 1) ≡ Finished o =
    said (refusal start done (Publish batch)) (answer start done (Publish batch)) o (sym is ∙ says) in
    cc
forwards law start history (Take p frame) given events is o says =
    let done = accepted start history in
    let own = history_of start p done in
    let never : Taken (length (heard own)) (length (batches own)) (is_local (ever_heard own) frame) ≡ Finished o =
    said (refusal start done (Take p frame)) (answer start done (Take p frame)) o (sym is ∙ says) in
    cc
forwards law start history (Step p) given events is o says = (p, refl, law start history p o events (sym is ∙ says))
forwards law start history (Send to from) given events is o says =
    let done = accepted start history in
    absurd (no_copy (waiting (ingress_of start.limits from) to (history_of start from done)) o
    (said (refusal start done (Send to from)) (answer start done (Send to from)) o (sym is ∙ says)))

-- a step that makes an instruction makes a safe one
steps_inside : SafetyLaw → (start : Start) (history : List Event) (e : Event) → All IsEvent (accepted start history)
    → StepsInside start history e
steps_inside law start history e events p q n is next = law start history p q n events next

-- what is known of the accepted events of a longer history is known of those before
one_less : (start : Start) (history : List Event) (e : Event) → All IsEvent (accepted start (e ∷ history))
    → All IsEvent (accepted start history)
one_less start history e h = go (refusal start (accepted start history) e) h
  where
    go : (r : Option EventRefusal) → All IsEvent (keep_accepted r e (accepted start history))
        → All IsEvent (accepted start history)
    go None k = All-tail IsEvent e (accepted start history) k
    go (Some refused) k = k

before_all : (start : Start) (history events : List Event) → All IsEvent (accepted start (history_after history events))
    → All IsEvent (accepted start history)
before_all start history [] h = h
before_all start history (e ∷ events) h = one_less start history e (before_all start (e ∷ history) events h)

before_each : (start : Start) (history before rest : List Event)
    → All IsEvent (accepted start (history_after history (before ++ rest)))
    → All IsEvent (accepted start (reverse before ++ history))
before_each start history [] rest h = before_all start history rest h
before_each start history (x ∷ before) rest h =
    subst (λ (past : List Event). All IsEvent (accepted start past)) (sym (turned x before history))
    (before_each start (x ∷ history) before rest h)

-- what holds of the reply to each event holds of each answer of a run
for_each : (P : List Event → Event → Result Answer EventRefusal
    → Type 0) (old new : Gateway) (known : Heard) (history events : List Event)
    (given : List (Result Answer EventRefusal)) → new.limits ≡ old.limits → RunsTo old known history events given new
    → ((past : List Event) (e : Event) → All IsEvent (accepted (begun old.limits known) past)
    → P past e (reply (begun old.limits known) past e))
    → ForEachAnswer P history events given
for_each P old new known history events given limits ran holds before e after answer split at =
    let past = reverse before ++ history in
    let kept : All IsEvent (accepted (begun old.limits known) past) = before_each (begun old.limits known) history before
    (e ∷ after)
    (subst (λ (es : List Event). All IsEvent (accepted (begun old.limits known) (history_after history es))) split
    (subst (λ (l : Bounds). All IsEvent (accepted (begun l known) (history_after history events))) limits ran.stands.events)) in
    let is : answer ≡ reply (begun old.limits known) past e = same_some answer (reply (begun old.limits known) past e)
    (sym at ∙ ap (λ (g : List (Result Answer EventRefusal)). slice_get g (length before)) ran.answers
    ∙ (are_replies (begun old.limits known) history events).each before e after split) in
    subst (λ (r : Result Answer EventRefusal). P past e r) (sym is) (holds past e kept)

pub each_forwards : FinishedLaw → (old new : Gateway) (known : Heard) (history events : List Event) (given : List
    (Result Answer EventRefusal))
    → new.limits ≡ old.limits → RunsTo old known history events given new
    → ForEachAnswer (Forwards (begun old.limits known)) history events given
each_forwards law old new known history events given limits ran =
    for_each (Forwards (begun old.limits known)) old new known history events given limits ran
    (λ past e kept. forwards law (begun old.limits known) past e (reply (begun old.limits known) past e) kept refl)

pub each_inside : SafetyLaw → (old new : Gateway) (known : Heard) (history events : List Event) (given : List
    (Result Answer EventRefusal))
    → new.limits ≡ old.limits → RunsTo old known history events given new
    → ForEachAnswer (λ past e answer. StepsInside (begun old.limits known) past e) history events given
each_inside law old new known history events given limits ran =
    for_each (λ past e answer. StepsInside (begun old.limits known) past e) old new known history events given limits ran
    (λ past e kept. steps_inside law (begun old.limits known) past e kept)
