-- What a line is answered, with or without a gateway.
use Rattle.std.proofs.Common.{◌≡◌, ◌≢◌, ℕ, List, Option, Some, None, Result, Ok, Err, refl, ap, sym, ◌∙◌, subst, codes, inl, inr}
use Rattle.std.proofs.Common.{◌⊎◌, false}
use Rattle.std.specs.Prelude.{is_err}
use Rattle.gw_replay.specs.declared.fault.Fault.{Fault}
use Rattle.gw_replay.specs.declared.fault.Fault.TheVariants.{LongLine, NoAscii, NoCommand, NoLimits, SecondLimits, BadLimits}
use Rattle.gw_replay.specs.declared.fault.Fault.TheVariants.{Record}
use Rattle.gw_replay.specs.declared.fault.Fault.TheVariants.{Listing, Program, NoHex, NoUtf8, Table, SamePort, FullBatch}
use Rattle.gw_replay.specs.declared.fault.Fault.TheVariants.{OutOfMemory}
use Rattle.gw_replay.specs.declared.fault.Fault.TheVariants.{Event as EventFault}
use Rattle.gw_replay.specs.declared.session.Session.{Session}
use Rattle.gw_replay.specs.Faults.{UnlessMemory, line_of}
use Rattle.gw_replay.specs.Requests.{Request}
use Rattle.gw_replay.specs.Replies.{SessionState}
use Rattle.gw_replay.specs.Scripts.{asks, meaning_of, Answers}
use Rattle.gw_replay.specs.Standing.{HasState, IsDone, Done, Begins, StandsIn, IsObeyed, IsAnswered}
use Rattle.gw_replay.proofs.Sessions.{unless_map}
use Rattle.gw_replay.proofs.OneAnswer.{reply_told}

-- a command of a gateway
pub obeyed_on : (s : Option SessionState) (session : Option Session) (old new : Session) (request : Request)
    (said : Result (List ℕ) Fault) → session ≡ Some old → StandsIn session s
    → ((t : SessionState) → HasState old t → Done t request said new)
    → UnlessMemory said (λ kept. IsObeyed s request kept (Some new))
obeyed_on None session old new request said is stands done = absurd (subst (λ r. StandsIn r None) is stands)
obeyed_on (Some t) session old new request said is stands done =
    unless_map said (λ kept. IsDone t request kept new) (λ kept. IsObeyed (Some t) request kept (Some new))
    (done t (subst (λ r. StandsIn r (Some t)) is stands))
    (λ kept d. record {
      session = Some d.session;
      obeys = reply_told t request (record { said = kept; session = d.session }) d.replies;
      stands = d.stands;
    })

-- the first command
pub obeyed_first : (s : Option SessionState) (session : Option Session) (new : Session) (request : Request) (line : List ℕ)
    → session ≡ None → StandsIn session s → Begins request new → line ≡ codes "limits\n"
    → IsObeyed s request (Ok line) (Some new)
obeyed_first None session new request line is stands b text = record {
  session = Some b.session;
  obeys = ap (λ known. record { text = known; session = Some b.session; refused = false }) text ∙ sym b.told;
  stands = b.stands;
}
obeyed_first (Some t) session new request line is stands b text = absurd (subst (λ r. StandsIn r (Some t)) is stands)

-- the line of a command
pub answered_by : (s : Option SessionState) (line : List ℕ) (request : Request) (said : Result (List ℕ) Fault)
    (new : Option Session) → meaning_of line ≡ asks request → IsObeyed s request said new
    → IsAnswered s line (line_of said) (is_err said) new
answered_by s line request said new means h = record {
  session = h.session;
  answers =
      subst (λ meaning. Answers s meaning (record { text = line_of said; session = h.session; refused = is_err said }))
      (sym means) h.obeys;
  stands = h.stands;
}

-- what is said of a fault that is not want of memory
pub not_memory : (why : Fault) (P : Result (List ℕ) Fault → Type 0) → why ≢ OutOfMemory → UnlessMemory (Err why) P → P (Err why)
not_memory why P other known =
    elim (memory_or_not why) [
      | inl is ↦ absurd (other is)
      | inr then ↦ then P known
    ]
  where
    memory_or_not : (why : Fault)
        → (why ≡ OutOfMemory) ⊎ ((P : Result (List ℕ) Fault → Type 0) → UnlessMemory (Err why) P → P (Err why))
    memory_or_not OutOfMemory = inl refl
    memory_or_not LongLine = inr (λ P known. known)
    memory_or_not NoAscii = inr (λ P known. known)
    memory_or_not NoCommand = inr (λ P known. known)
    memory_or_not NoLimits = inr (λ P known. known)
    memory_or_not SecondLimits = inr (λ P known. known)
    memory_or_not BadLimits = inr (λ P known. known)
    memory_or_not (Record fault) = inr (λ P known. known)
    memory_or_not (Listing fault) = inr (λ P known. known)
    memory_or_not (Program refused) = inr (λ P known. known)
    memory_or_not NoHex = inr (λ P known. known)
    memory_or_not NoUtf8 = inr (λ P known. known)
    memory_or_not (Table fault) = inr (λ P known. known)
    memory_or_not (SamePort port) = inr (λ P known. known)
    memory_or_not FullBatch = inr (λ P known. known)
    memory_or_not (EventFault fault) = inr (λ P known. known)
