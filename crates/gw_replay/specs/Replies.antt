-- What a command answers after the commands before it.
use Rattle.std.specs.Prelude.{◌≡◌, ℕ, nat_le, if◌then◌else◌, List, [], ◌∷◌, ◌++◌, length, codes, decimal}
use Rattle.std.specs.Prelude.{Option, Some, None, Result, Ok, Err}
use Rattle.std.specs.Option.{option_map_or}
use Rattle.hex.specs.Hex.{encode_lower}
use Rattle.gw_policy.specs.Filter.{Filter}
use Rattle.gw_policy.specs.Batches.{Pair, names_port}
use Rattle.gw_ledger.specs.Bounds.{Bounds}
use Rattle.gw_ledger.specs.declared.ledger.InLedger.{InLedger}
use Rattle.gw_ledger.specs.declared.outcome.Outcome.{Outcome}
use Rattle.gw_ledger.specs.declared.outcome.FrameCopy.{FrameCopy}
use Rattle.gw_core.specs.Start.{fresh}
use Rattle.gw_core.specs.Events.{reply, accepted, ledger_after}
use Rattle.gw_core.specs.declared.event.Event.{Event}
use Rattle.gw_core.specs.declared.event.Event.TheVariants as event
use Rattle.gw_core.specs.declared.event.Answer.{Answer}
use Rattle.gw_core.specs.declared.event.Answer.TheVariants.{Published, Taken, Stepped, Placed, Lost, Finished, Sent, Empty}
use Rattle.gw_core.specs.declared.event.EventRefusal.{EventRefusal}
use Rattle.gw_core.specs.declared.event.EventRefusal.TheVariants.{NoSuchPort}
use Rattle.gw_replay.specs.declared.fault.Fault.{Fault}
use Rattle.gw_replay.specs.declared.fault.Fault.TheVariants as fault
use Rattle.gw_input.specs.declared.records.RecordFault.{RecordFault}
use Rattle.gw_input.specs.PortTexts.{ports_text}
use Rattle.gw_input.specs.Records.{IsRecordText}
use Rattle.gw_replay.specs.Policies.{IsProgramText, IsTableHex}
use Rattle.gw_replay.specs.Requests.{Request, limits_of, program_of, table_of, publish_all, take_at, step_at, send_to, ledger_of}

-- a gateway of a script: its limits, the pairs that joined the open batch, and the events so far, the newest first
pub record SessionState : Type 0 where
  pub limits : Bounds
  pub batch : List Pair
  pub history : List Event

-- what a command says, and what stands afterwards
pub record Reply : Type 0 where
  pub said : Result (List ℕ) Fault
  pub session : SessionState

-- the lines of a finished frame, and of a copy that was sent
abbrev pub outcome_line : Outcome → List ℕ
outcome_line o =
    codes "finished" ++ 32 ∷ decimal o.number ++ 32 ∷ decimal o.front ++ codes " " ++ ports_text o.allowed ++ codes " "
    ++ ports_text o.placed ++ 10 ∷ []

abbrev pub copy_line : FrameCopy → List ℕ
copy_line copy =
    codes "sent " ++ decimal copy.from ++ 32 ∷ decimal copy.number ++ codes " " ++ encode_lower copy.frame ++ 10 ∷ []

-- the line of what an event answers
abbrev pub answer_line : Answer → List ℕ
answer_line (Published front) = codes "published" ++ 32 ∷ decimal front ++ 10 ∷ []
answer_line (Taken number front local) =
    codes "taken" ++ 32 ∷ decimal number ++ 32 ∷ decimal front ++ (if local then codes " local" else codes "") ++ 10 ∷ []
answer_line Stepped = codes "stepped\n"
answer_line (Placed to) = codes "placed " ++ decimal to ++ 10 ∷ []
answer_line (Lost to) = codes "lost " ++ decimal to ++ 10 ∷ []
answer_line (Finished outcome) = outcome_line outcome
answer_line (Sent copy) = copy_line copy
answer_line Empty = codes "empty\n"

-- the line of what a port counts
abbrev pub ledger_line : InLedger → List ℕ
ledger_line l =
    codes "ledger" ++ 32 ∷ decimal l.taken ++ 32 ∷ decimal l.local ++ 32 ∷ decimal l.allowed ++ 32 ∷ decimal l.placed
    ++ 32 ∷ decimal l.lost ++ 10 ∷ []

-- an event after the session's history, which keeps it, also where it is refused
abbrev pub event_said : Result Answer EventRefusal → Result (List ℕ) Fault
event_said (Ok answer) = Ok (answer_line answer)
event_said (Err why) = Err (fault.Event why)

-- the reply to an event
abbrev pub after_event : SessionState → Event → Reply
after_event s e =
    record { said = event_said (reply (fresh s.limits) s.history e); session = record s { history = e ∷ s.history } }

-- what was read of a text, or why nothing was
abbrev pub after_taking : SessionState → ℕ → Result (List ℕ) RecordFault → Reply
after_taking s port (Ok octets) = after_event s (event.Take port octets)
after_taking s port (Err why) = record { said = Err (fault.Record why); session = s }

-- why no policy for the port joins the open batch: 60, else 61
abbrev pub join_fault : ℕ → List Pair → Option Fault
join_fault port batch =
    if names_port port batch then Some (fault.SamePort port) else if nat_le 16 (length batch) then Some fault.FullBatch else None

-- a policy for a port
abbrev pub pair_for : ℕ → Filter → Pair
pair_for port filter = record { port = port; policy = filter }

-- a policy that was read joins the open batch, and the line says so
abbrev pub after_joining : SessionState → List ℕ → ℕ → Result Filter Fault → Reply
after_joining s line port (Ok filter) =
    option_map_or (λ why. record { said = Err why; session = s }) (join_fault port s.batch)
    (record { said = Ok line; session = record s { batch = s.batch ++ pair_for port filter ∷ [] } })
after_joining s line port (Err why) = record { said = Err why; session = s }

-- `program` or `table`, and the port
abbrev pub joined_line : List ℕ → ℕ → List ℕ
joined_line name port = name ++ decimal port ++ 10 ∷ []

-- all that stands in the open batch is published, and the batch is empty afterwards, also where that is refused
abbrev pub after_publishing : SessionState → Reply
after_publishing s = after_event (record s { batch = [] }) (event.Publish s.batch)

-- what a port counts: 72 for one that is not there
abbrev pub ledger_said : SessionState → ℕ → Result (List ℕ) Fault
ledger_said s port =
    if nat_le s.limits.ports port then Err (fault.Event NoSuchPort)
    else Ok (ledger_line (ledger_after (fresh s.limits) port (accepted (fresh s.limits) s.history)))

-- the reply to a command once limits were accepted
abbrev pub Replies : SessionState → Request → Reply → Type 0
Replies s (limits_of ports lane versions frames) r = r ≡ record { said = Err fault.SecondLimits; session = s }
Replies s (program_of port listing) r =
    (read : Result Filter Fault) × IsProgramText listing read
    × (r ≡ after_joining s (joined_line (codes "program ") port) port read)
Replies s (table_of port hex) r =
    (read : Result Filter Fault) × IsTableHex hex read × (r ≡ after_joining s (joined_line (codes "table ") port) port read)
Replies s publish_all r = r ≡ after_publishing s
Replies s (take_at port hex) r = (read : Result (List ℕ) RecordFault) × IsRecordText hex read × (r ≡ after_taking s port read)
Replies s (step_at port) r = r ≡ after_event s (event.Step port)
Replies s (send_to to from) r = r ≡ after_event s (event.Send to from)
Replies s (ledger_of port) r = r ≡ record { said = ledger_said s port; session = s }
