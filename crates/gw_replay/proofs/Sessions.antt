-- What is said of a command, unless memory was wanting.
use Rattle.std.proofs.Common.{◌≡◌, ℕ, List, [], ◌∷◌, ◌++◌, None, Result, Ok, Err, refl, ap, sym, ◌∙◌, subst}
use Rattle.gw_core.specs.Start.{unheard}
use Rattle.gw_core.specs.Gateway.{Stands}
use Rattle.gw_core.specs.declared.event.Event.{Event}
use Rattle.gw_core.specs.declared.event.Event.TheVariants as event
use Rattle.gw_policy.specs.Filter.{Filter}
use Rattle.gw_policy.specs.Batches.{Pair}
use Rattle.gw_replay.specs.declared.fault.Fault.{Fault}
use Rattle.gw_replay.specs.declared.fault.Fault.TheVariants.{LongLine, NoAscii, NoCommand, NoLimits, SecondLimits, BadLimits}
use Rattle.gw_replay.specs.declared.fault.Fault.TheVariants.{Record}
use Rattle.gw_replay.specs.declared.fault.Fault.TheVariants.{Listing, Program, NoHex, NoUtf8, Table, SamePort, FullBatch}
use Rattle.gw_replay.specs.declared.fault.Fault.TheVariants.{OutOfMemory}
use Rattle.gw_replay.specs.declared.fault.Fault.TheVariants.{Event as EventFault}
use Rattle.gw_replay.specs.declared.session.Session.{Session}
use Rattle.gw_replay.specs.Faults.{UnlessMemory}
use Rattle.gw_input.specs.Records.{IsRecordText}
use Rattle.gw_replay.specs.Requests.{Request, publish_all, take_at}
use Rattle.gw_replay.specs.Replies.{SessionState, Reply, Replies, after_event, after_joining}
use Rattle.gw_replay.specs.Replies.{join_fault, joined_line, pair_for}
use Rattle.gw_replay.specs.Standing.{HasState, Happened, IsDone, Done}

-- what holds anyhow holds unless memory was wanting
pub unless_memory : {A : Type 0} (said : Result A Fault) (P : Result A Fault → Type 0) → P said → UnlessMemory said P
unless_memory (Ok line) P holds = holds
unless_memory (Err OutOfMemory) P holds = tt
unless_memory (Err LongLine) P holds = holds
unless_memory (Err NoAscii) P holds = holds
unless_memory (Err NoCommand) P holds = holds
unless_memory (Err NoLimits) P holds = holds
unless_memory (Err SecondLimits) P holds = holds
unless_memory (Err BadLimits) P holds = holds
unless_memory (Err (Record fault)) P holds = holds
unless_memory (Err (Listing fault)) P holds = holds
unless_memory (Err (Program refused)) P holds = holds
unless_memory (Err NoHex) P holds = holds
unless_memory (Err NoUtf8) P holds = holds
unless_memory (Err (Table fault)) P holds = holds
unless_memory (Err (SamePort port)) P holds = holds
unless_memory (Err FullBatch) P holds = holds
unless_memory (Err (EventFault fault)) P holds = holds

-- what follows of a fault
pub unless_then : {A B : Type 0} (why : Fault) (P : Result A Fault → Type 0) (Q : Result B Fault → Type 0)
    → UnlessMemory (Err why) P → (P (Err why) → Q (Err why)) → UnlessMemory (Err why) Q
unless_then OutOfMemory P Q known then = tt
unless_then LongLine P Q known then = then known
unless_then NoAscii P Q known then = then known
unless_then NoCommand P Q known then = then known
unless_then NoLimits P Q known then = then known
unless_then SecondLimits P Q known then = then known
unless_then BadLimits P Q known then = then known
unless_then (Record fault) P Q known then = then known
unless_then (Listing fault) P Q known then = then known
unless_then (Program refused) P Q known then = then known
unless_then NoHex P Q known then = then known
unless_then NoUtf8 P Q known then = then known
unless_then (Table fault) P Q known then = then known
unless_then (SamePort port) P Q known then = then known
unless_then FullBatch P Q known then = then known
unless_then (EventFault fault) P Q known then = then known

-- the same of what was said
pub unless_map : {A : Type 0} (said : Result A Fault) (P Q : Result A Fault → Type 0) → UnlessMemory said P
    → ((r : Result A Fault) → P r → Q r) → UnlessMemory said Q
unless_map (Ok line) P Q known then = then (Ok line) known
unless_map (Err why) P Q known then = unless_then why P Q known (then (Err why))

-- a command that is one event
done_by : (s t : SessionState) (e : Event) (request : Request) (said : Result (List ℕ) Fault) (new : Session)
    → Happened t e said new
    → ((r : Reply) → r ≡ after_event t e → Replies s request r) → Done s request said new
done_by s t e request said new h replies =
    unless_memory said (λ kept. IsDone s request kept new)
    (record {
      session = (after_event t e).session;
      replies = replies (record { said = said; session = (after_event t e).session })
          (λ i. record { said = h.says i; session = (after_event t e).session });
      stands = h.stands;
    })

-- a frame that was taken
pub take_done : (s : SessionState) (port : ℕ) (hex octets : List ℕ) (said : Result (List ℕ) Fault) (new : Session)
    → IsRecordText hex (Ok octets) → Happened s (event.Take port octets) said new → Done s (take_at port hex) said new
take_done s port hex octets said new text h =
    done_by s s (event.Take port octets) (take_at port hex) said new h (λ r same. (Ok octets, text, same))

-- a batch that was published
pub publish_done : (s : SessionState) (batch : List Pair) (said : Result (List ℕ) Fault) (new : Session) → batch ≡ s.batch
    → Happened (record s { batch = [] }) (event.Publish batch) said new
    → Done s publish_all said new
publish_done s batch said new is h =
    done_by s (record s { batch = [] }) (event.Publish s.batch) publish_all said new
    (subst (λ pairs. Happened (record s { batch = [] }) (event.Publish pairs) said new) is h) (λ r same. same)

-- a policy that was read joins the batch
joined_text : (s : SessionState) (line : List ℕ) (port : ℕ) (filter : Filter) → join_fault port s.batch ≡ None
    → record { said = Ok line; session = record s { batch = s.batch ++ pair_for port filter ∷ [] } }
    ≡ after_joining s line port (Ok filter)
joined_text s line port filter free = rw free refl

state_with : (s : SessionState) (port : ℕ) (filter : Filter) (old new : Session) → HasState old s → new.limits ≡ old.limits
    → new.core ≡ old.core → new.batch ≡ old.batch ++ pair_for port filter ∷ []
    → HasState new (record s { batch = s.batch ++ pair_for port filter ∷ [] })
state_with s port filter old new state limits core batch = record {
  limits = limits ∙ state.limits;
  core = ap (λ core. core.limits) core ∙ state.core;
  batch = batch ∙ ap (λ before. before ++ pair_for port filter ∷ []) state.batch;
  stands = subst (λ core. Stands core unheard s.history) (sym core) state.stands;
}

-- a command whose policy was read and joined
pub policy_joined : (s : SessionState) (name : List ℕ) (port : ℕ) (filter : Filter) (request : Request) (line : List ℕ)
    (old new : Session) → HasState old s
    → ((r : Reply) → r ≡ after_joining s (joined_line name port) port (Ok filter) → Replies s request r)
    → join_fault port old.batch ≡ None → new.limits ≡ old.limits → new.core ≡ old.core
    → new.batch ≡ old.batch ++ pair_for port filter ∷ [] → line ≡ joined_line name port → Done s request (Ok line) new
policy_joined s name port filter request line old new state replies free limits core batch same = record {
  session = record s { batch = s.batch ++ pair_for port filter ∷ [] };
  replies = replies (record { said = Ok line; session = record s { batch = s.batch ++ pair_for port filter ∷ [] } })
      (ap (λ said. record { said = Ok said; session = record s { batch = s.batch ++ pair_for port filter ∷ [] } }) same
      ∙ joined_text s (joined_line name port) port filter (ap (join_fault port) (sym state.batch) ∙ free));
  stands = state_with s port filter old new state limits core batch;
}
