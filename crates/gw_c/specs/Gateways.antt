-- A gateway and a batch in a handle, and what calls of them answer. A history has the newest event first.
use Rattle.std.specs.Prelude.{◌≡◌, ◌≢◌, ℕ, ◌==◌, if◌then◌else◌, List, [], ◌∷◌, ◌++◌, length, replicate}
use Rattle.std.specs.Prelude.{Option, Some, None, IsSomeAnd, Result, Ok, Err}
use Rattle.gw_policy.specs.Filter.{Filter}
use Rattle.gw_policy.specs.Batches.{Pair, names_port}
use Rattle.gw_ledger.specs.Bounds.{Bounds}
use Rattle.gw_core.specs.Start.{Heard, begun, unheard}
use Rattle.gw_core.specs.Gateway.{Gateway, Stands}
use Rattle.gw_core.specs.Events.{reply}
use Rattle.gw_core.specs.Refusals.{refusal_number}
use Rattle.gw_core.specs.declared.event.Event.{Event}
use Rattle.gw_core.specs.declared.event.Event.TheVariants.{Publish}
use Rattle.gw_core.specs.declared.event.Answer.TheVariants.{Published}
use Rattle.gw_core.specs.declared.event.EventRefusal.{EventRefusal}
use Rattle.gw_c.specs.declared.inner.Inner.{Inner}
use Rattle.gw_c.specs.declared.inner.Inner.TheVariants as kind

-- the gateway in a handle
abbrev pub gateway_in : Option Inner → Option Gateway
gateway_in (Some (kind.Gateway core)) = Some core
gateway_in _ = None

-- the pairs of the batch in a handle, in the order in which they joined
abbrev pub batch_in : Option Inner → Option (List Pair)
batch_in (Some (kind.Batch pairs)) = Some pairs
batch_in _ = None

-- the gateway in a handle stands after a history
abbrev pub StandsIn : Heard → List Event → Option Inner → Type 0
StandsIn known history held = IsSomeAnd (gateway_in held) (λ gateway. Stands gateway known history)

-- a gateway is in the handle before and after a call, and they are so related
abbrev pub Changes : (Gateway → Gateway → Type 0) → Option Inner → Option Inner → Type 0
Changes Relates old new = IsSomeAnd (gateway_in old) (λ before. IsSomeAnd (gateway_in new) (Relates before))

-- 0, or the number of the event's refusal
abbrev pub number_of : {A : Type 0} → Result A EventRefusal → ℕ
number_of (Ok answer) = 0
number_of (Err why) = refusal_number why

-- the limits of these numbers, as C gives them
abbrev pub limits_of : ℕ → ℕ → ℕ → ℕ → Bounds
limits_of ports lane frames versions = record { ports = ports; lane = lane; versions = versions; frames = frames }

-- a gateway of these limits before any event: each port's circle begins at port 0
pub record IsOpened (bounds : Bounds) (gateway : Gateway) : Type 0 where
  pub limits : gateway.limits ≡ bounds
  pub stands : Stands gateway unheard []
  pub turns : gateway.turns ≡ replicate 16 0

-- what is answered where a policy is to join a batch for a port. 60: the batch has one for it; 61: it has sixteen pairs
abbrev pub joining_answer : ℕ → List Pair → ℕ
joining_answer port pairs = if names_port port pairs then 60 else if length pairs == 16 then 61 else 0

-- the batch with a policy for a port behind its pairs
abbrev pub joined : ℕ → Filter → List Pair → List Pair
joined port policy pairs = pairs ++ record { port = port; policy = policy } ∷ []

-- what is answered where a batch is to be published after a history: 121, a handle holds no batch or no gateway; 100, memory was
-- refused for the owners of its policies; else as the publishing is answered
abbrev pub AnswersPublish : Heard → List Event → Option (List Pair) → Option Gateway → ℕ → Type 0
AnswersPublish known history None gateway result = result ≡ 121
AnswersPublish known history (Some pairs) None result = result ≡ 121
AnswersPublish known history (Some pairs) (Some gateway) result =
    Stands gateway known history → result ≢ 100 → result ≡ number_of (reply (begun gateway.limits known) history (Publish pairs))

-- a batch was published after a history, as the last of so many
pub record IsPublished (known : Heard) (history : List Event) (pairs : List Pair) (front : ℕ) (old new : Gateway) : Type 0 where
  pub answer : reply (begun old.limits known) history (Publish pairs) ≡ Ok (Published front)
  pub stands : Stands new known (Publish pairs ∷ history)
  pub limits : new.limits ≡ old.limits
  pub turns : new.turns ≡ old.turns
