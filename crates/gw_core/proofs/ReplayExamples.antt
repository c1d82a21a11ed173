-- Worked examples: what gateways answer to whole lists of events, the oldest first.
use Rattle.std.proofs.Common.{◌≡◌, ◌==◌, if◌then◌else◌, ℕ, true, false, List, [], ◌∷◌, replicate, None, Result, Ok, Err, refl}
use Rattle.std.proofs.Common.{sym, ap}
use Rattle.gw_insn.specs.declared.insn.Insn.TheVariants.{ReturnConstant}
use Rattle.gw_machine.specs.Answers.{answer_of, answer_within, steps_of}
use Rattle.gw_policy.specs.Batches.{Pair}
use Rattle.gw_policy.proofs.Callers.{engine_speed}
use Rattle.gw_core.specs.Start.{Start, begun, fresh}
use Rattle.gw_ledger.specs.Ports.{ports_below}
use Rattle.gw_core.specs.PortHistory.{ingress_of, taking, need, instruction, placing, work_left, steps_since}
use Rattle.gw_core.specs.Events.{history_of, accepted, keep_accepted, refusal, reply, reply_after, replies}
use Rattle.gw_core.specs.Renewing.{all_heard, policies_in_force}
use Rattle.gw_core.specs.declared.event.Event.{Event}
use Rattle.gw_core.specs.declared.event.Event.TheVariants.{Publish, Take, Step, Send}
use Rattle.gw_core.specs.declared.event.Answer.{Answer}
use Rattle.gw_core.specs.declared.event.Answer.TheVariants.{Published, Taken, Stepped, Placed, Lost, Finished, Sent, Empty}
use Rattle.gw_core.specs.declared.event.EventRefusal.{EventRefusal}
use Rattle.gw_core.specs.declared.event.EventRefusal.TheVariants.{NoSuchPort, Busy, Idle, VersionsSpent, FramesSpent}

-- the answers to events, where those accepted are carried on
abbrev answers_to : Start → List Event → List Event → List (Result Answer EventRefusal)
answers_to start done [] = []
answers_to start done (e ∷ events) =
    reply_after start done e ∷ answers_to start (keep_accepted (refusal start done e) e done) events

-- they are the replies
are_replies : (start : Start) (history events : List Event)
    → answers_to start (accepted start history) events ≡ replies start history events
are_replies start history [] = refl
are_replies start history (e ∷ events) =
    ap (λ (rest : List (Result Answer EventRefusal)). reply start history e ∷ rest) (are_replies start (e ∷ history) events)

-- the NAME 5 claims the address 128; proprietary A from 52 to 128
abbrev claim : List ℕ
claim = 0x98 ∷ 0xEE ∷ 0xFF ∷ 0x80 ∷ 8 ∷ 0 ∷ 0 ∷ 0 ∷ 5 ∷ 0 ∷ 0 ∷ 0 ∷ 0 ∷ 0 ∷ 0 ∷ 0 ∷ []

abbrev to_128 : List ℕ
to_128 = 0x98 ∷ 0xEF ∷ 0x80 ∷ 0x34 ∷ 8 ∷ 0 ∷ 0 ∷ 0 ∷ replicate 8 255

-- the policy `ret #answer` for a port
abbrev returning : ℕ → ℕ → Pair
returning port answer = record { port = port; policy = record { code = ReturnConstant answer ∷ []; table = None } }

-- a frame that is not local is finished; a copy of EEC1 is sent
abbrev finished : ℕ → ℕ → List ℕ → List ℕ → Result Answer EventRefusal
finished number front allowed placed =
    Ok (Finished (record { number = number; front = front; local = false; allowed = allowed; placed = placed }))

abbrev sent : ℕ → Result Answer EventRefusal
sent number = Ok (Sent (record { from = 0; number = number; frame = engine_speed }))

-- a lane of one copy is full for the second frame, and free again once the first copy was sent
abbrev small_lanes : Start
small_lanes = fresh (record { ports = 3; lane = 1; versions = 4; frames = 10 })

abbrev until_the_lane_is_full : List Event
until_the_lane_is_full =
    Publish (returning 1 1 ∷ []) ∷ Take 0 engine_speed ∷ Step 0 ∷ Step 0 ∷ Step 0
    ∷ Take 0 engine_speed ∷ Step 0 ∷ Step 0 ∷ Step 0 ∷ Send 1 0
    ∷ Take 0 engine_speed ∷ Step 0 ∷ Step 0 ∷ Step 0 ∷ Send 1 0 ∷ Send 1 0 ∷ Send 1 1 ∷ []

a_full_lane : replies small_lanes [] until_the_lane_is_full
    ≡ Ok (Published 1) ∷ Ok (Taken 0 1 false) ∷ Ok Stepped ∷ Ok (Placed 1) ∷ finished 0 1 (1 ∷ []) (1 ∷ [])
    ∷ Ok (Taken 1 1 false) ∷ Ok Stepped ∷ Ok (Lost 1) ∷ finished 1 1 (1 ∷ []) [] ∷ sent 0
    ∷ Ok (Taken 2 1 false) ∷ Ok Stepped ∷ Ok (Placed 1) ∷ finished 2 1 (1 ∷ []) (1 ∷ []) ∷ sent 2 ∷ Ok Empty ∷ Err NoSuchPort ∷ []
unfolding answer_of answer_within steps_of ports_below
a_full_lane = sym (are_replies small_lanes [] until_the_lane_is_full)

-- a frame is finished by the policies in force at its taking, though others are in force by then
abbrev two_versions : Start
two_versions = fresh (record { ports = 3; lane = 4; versions = 2; frames = 10 })

abbrev with_a_replacement : List Event
with_a_replacement =
    Publish (returning 1 1 ∷ returning 2 1 ∷ []) ∷ Take 0 engine_speed ∷ Step 0
    ∷ Publish (returning 1 0 ∷ returning 2 0 ∷ []) ∷ Step 0 ∷ Step 0 ∷ Step 0
    ∷ Take 0 engine_speed ∷ Step 0 ∷ Step 0 ∷ Publish [] ∷ Step 0 ∷ Take 5 engine_speed ∷ []

a_replacement : replies two_versions [] with_a_replacement
    ≡ Ok (Published 1) ∷ Ok (Taken 0 1 false) ∷ Ok Stepped
    ∷ Ok (Published 2) ∷ Ok (Placed 1) ∷ Ok Stepped ∷ finished 0 1 (1 ∷ 2 ∷ []) (1 ∷ 2 ∷ [])
    ∷ Ok (Taken 1 2 false) ∷ Ok Stepped ∷ finished 1 2 [] [] ∷ Err VersionsSpent ∷ Err Idle ∷ Err NoSuchPort ∷ []
unfolding answer_of answer_within steps_of ports_below
a_replacement = sym (are_replies two_versions [] with_a_replacement)

-- a frame to an address that is held on its own segment is finished at its taking; on another segment it is none
abbrev two_frames : Start
two_frames = fresh (record { ports = 2; lane = 4; versions = 4; frames = 2 })

abbrev with_a_local_frame : List Event
with_a_local_frame =
    Publish (returning 1 1 ∷ []) ∷ Take 0 claim ∷ Step 0 ∷ Step 0 ∷ Take 0 to_128 ∷ Step 0
    ∷ Take 1 to_128 ∷ Take 1 to_128 ∷ Step 1 ∷ Take 0 claim ∷ []

a_local_frame : replies two_frames [] with_a_local_frame
    ≡ Ok (Published 1) ∷ Ok (Taken 0 1 false) ∷ Ok Stepped ∷ finished 0 1 (1 ∷ []) (1 ∷ []) ∷ Ok (Taken 1 1 true) ∷ Err Idle
    ∷ Ok (Taken 0 1 false) ∷ Err Busy ∷ finished 0 1 [] [] ∷ Err FramesSpent ∷ []
unfolding answer_of answer_within steps_of ports_below
a_local_frame = sym (are_replies two_frames [] with_a_local_frame)

-- a claim that was heard before the gateway began counts there and on no other segment, and is no frame of it
abbrev after_a_claim : Start
after_a_claim = begun two_frames.limits (λ p. if p == 0 then claim ∷ [] else [])

a_known_claim : replies after_a_claim [] (Take 0 to_128 ∷ Take 1 to_128 ∷ [])
    ≡ Ok (Taken 0 0 true) ∷ Ok (Taken 0 0 false) ∷ []
unfolding answer_of answer_within steps_of ports_below
a_known_claim = sym (are_replies after_a_claim [] (Take 0 to_128 ∷ Take 1 to_128 ∷ []))

-- what a gateway that begins anew knows of port 0, the newest first, and its first batch: one pair for each policy in force
abbrev two_batches : List Event
two_batches = Publish (returning 2 0 ∷ returning 0 1 ∷ []) ∷ Take 0 claim ∷ Publish (returning 2 1 ∷ returning 1 1 ∷ []) ∷ []

what_is_known : all_heard after_a_claim two_batches 0 ≡ claim ∷ claim ∷ []
what_is_known = refl

policies_taken_along : policies_in_force small_lanes two_batches ≡ returning 0 1 ∷ returning 1 1 ∷ returning 2 0 ∷ []
policies_taken_along = refl

-- a frame offered to a port that passes it and to one that has the opening block needs three steps
abbrev taken : List Event
taken = Take 0 engine_speed ∷ Publish (returning 1 1 ∷ []) ∷ []

its_need : need (ingress_of small_lanes.limits 0) (taking engine_speed (history_of small_lanes 0 (Publish
    (returning 1 1 ∷ []) ∷ []))) ≡ 3
unfolding answer_of answer_within steps_of
its_need = refl

its_work : work_left (ingress_of small_lanes.limits 0) (history_of small_lanes 0 taken)
    ≡ instruction 1 0 ∷ placing 1 ∷ instruction 2 0 ∷ []
unfolding answer_of answer_within steps_of
its_work = refl

after_two_steps : work_left (ingress_of small_lanes.limits 0) (history_of small_lanes 0 (Step 0 ∷ Step 0 ∷ taken))
    ≡ instruction 2 0 ∷ []
unfolding answer_of answer_within steps_of
after_two_steps = refl

two_steps_since : steps_since (history_of small_lanes 0 (Step 0 ∷ Publish [] ∷ Send 1 0 ∷ Step 0 ∷ taken)) ≡ 2
two_steps_since = refl
