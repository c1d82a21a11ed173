-- The definitions of scripts, computed on the worked examples.
use Rattle.std.proofs.Common.{◌≡◌, [], ◌∷◌, ◌++◌, codes, refl, Some, None}
use Rattle.std.specs.Fmt.{digits}
use Rattle.gw_core.specs.declared.event.Event.TheVariants as event
use Rattle.gw_replay.specs.declared.fault.Fault.TheVariants.{NoCommand, NoAscii}
use Rattle.gw_replay.specs.Faults.{line_of}
use Rattle.gw_input.specs.Lines.{lines_of}
use Rattle.gw_replay.specs.Requests.{request_of, limits_of, program_of, table_of, publish_all, take_at, step_at, send_to}
use Rattle.gw_replay.specs.Requests.{ledger_of}
use Rattle.gw_replay.specs.Replies.{SessionState, after_event, ledger_said}
use Rattle.gw_replay.specs.Scripts.{meaning_of, silent, wrong, first_told, new_session}

-- lines, and what a carriage return belongs to
lines : lines_of (codes "step 0\r\n\n# x\nsend 1 0\r") ≡ codes "step 0" ∷ [] ∷ codes "# x" ∷ codes "send 1 0\r" ∷ []
lines = refl

ended : lines_of (codes "publish\n") ≡ codes "publish" ∷ [] ∷ []
ended = refl

-- the commands
limits : request_of (codes "limits 3 1 4 10") ≡ Some (limits_of 3 1 4 10)
limits = refl

program : request_of (codes "program 1 1,6 0 0 1,") ≡ Some (program_of 1 (codes "1,6 0 0 1,"))
program = refl

program_with_a_space : request_of (codes "program 1  1,") ≡ Some (program_of 1 (codes " 1,"))
program_with_a_space = refl

table : request_of (codes "table 1 20") ≡ Some (table_of 1 (codes "20"))
table = refl

publish : request_of (codes "publish") ≡ Some publish_all
publish = refl

take : request_of (codes "take 0 8CF0") ≡ Some (take_at 0 (codes "8CF0"))
take = refl

step : request_of (codes "step 255") ≡ Some (step_at 255)
step = refl

send : request_of (codes "send 1 0") ≡ Some (send_to 1 0)
send = refl

ledger : request_of (codes "ledger 0000000007") ≡ Some (ledger_of 7)
ledger = refl

-- no commands
publish_more : request_of (codes "publish ") ≡ None
publish_more = refl

step_alone : request_of (codes "step") ≡ None
step_alone = refl

step_too_far : request_of (codes "step 256") ≡ None
step_too_far = refl

eleven_digits : request_of (codes "limits 2 1 1 00000000001") ≡ None
eleven_digits = refl

two_spaces : request_of (codes "send 1  0") ≡ None
two_spaces = refl

no_listing : request_of (codes "program 1 ") ≡ None
no_listing = refl

two_records : request_of (codes "take 0 8C F0") ≡ None
two_records = refl

bogus : meaning_of (codes "bogus") ≡ wrong NoCommand
bogus = refl

comment : meaning_of (35 ∷ 255 ∷ []) ≡ silent
comment = refl

no_ascii : meaning_of (codes "step 0" ++ 255 ∷ []) ≡ wrong NoAscii
no_ascii = refl

-- before limits were accepted
first_step : (first_told (step_at 0)).text ≡ codes "refused 98\n"
unfolding digits
first_step = refl

no_limits : (first_told (limits_of 1 1 1 1)).text ≡ codes "refused 70\n"
unfolding digits
no_limits = refl

many_ports : (first_told (limits_of 256 1 1 1)).text ≡ codes "refused 70\n"
unfolding digits
many_ports = refl

accepted : (first_told (limits_of 2 1 1 1)).text ≡ codes "limits\n"
unfolding digits
accepted = refl

-- a gateway of two ports before any event
abbrev fresh : SessionState
fresh = new_session (record { ports = 2; lane = 1; versions = 1; frames = 1 })

first_taken : line_of (after_event fresh (event.Take 0 (140 ∷ 240 ∷ 4 ∷ 0 ∷ 0 ∷ 0 ∷ 0 ∷ 0 ∷ []))).said ≡ codes "taken 0 0\n"
unfolding digits
first_taken = refl

idle : line_of (after_event fresh (event.Step 0)).said ≡ codes "refused 74\n"
unfolding digits
idle = refl

nothing_waits : line_of (after_event fresh (event.Send 1 0)).said ≡ codes "empty\n"
unfolding digits
nothing_waits = refl

at_its_own_port : line_of (after_event fresh (event.Send 1 1)).said ≡ codes "refused 72\n"
unfolding digits
at_its_own_port = refl

counts : line_of (ledger_said fresh 0) ≡ codes "ledger 0 0 0 0 0\n"
unfolding digits
counts = refl

no_ledger : line_of (ledger_said fresh 2) ≡ codes "refused 72\n"
unfolding digits
no_ledger = refl
