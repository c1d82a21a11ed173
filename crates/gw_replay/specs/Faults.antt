-- The lines of refused lines.
use Rattle.std.specs.Prelude.{ℕ, List, [], Result, Ok, Err}
use Rattle.gw_insn.specs.Listing as listing
use Rattle.gw_verify.specs.Cause.{cause_number}
use Rattle.gw_table.specs.TableText as table
use Rattle.gw_ledger.specs.Bounds.{bad_limit_number}
use Rattle.gw_core.specs.Refusals as event
use Rattle.gw_input.specs.Records.{record_number}
use Rattle.gw_input.specs.Refused.{listing_details, cause_details, table_details, refused_line}
use Rattle.gw_replay.specs.declared.fault.Fault.{Fault}
use Rattle.gw_replay.specs.declared.fault.Fault.TheVariants.{LongLine, NoAscii, NoCommand, NoLimits, SecondLimits, BadLimits}
use Rattle.gw_replay.specs.declared.fault.Fault.TheVariants.{Record}
use Rattle.gw_replay.specs.declared.fault.Fault.TheVariants.{Listing, Program, NoHex, NoUtf8, Table, SamePort, FullBatch, Event}
use Rattle.gw_replay.specs.declared.fault.Fault.TheVariants.{OutOfMemory}

-- the number by which a fault is told
abbrev pub fault_number : Fault → ℕ
fault_number LongLine = 98
fault_number NoAscii = 98
fault_number NoCommand = 98
fault_number NoLimits = 98
fault_number SecondLimits = 98
fault_number BadLimits = bad_limit_number
fault_number (Record why) = record_number why
fault_number (Listing why) = listing.refusal_number why
fault_number (Program refused) = cause_number refused.why
fault_number NoHex = 97
fault_number NoUtf8 = 50
fault_number (Table why) = table.refusal_number why
fault_number (SamePort port) = 60
fault_number FullBatch = 61
fault_number (Event why) = event.refusal_number why
fault_number OutOfMemory = 100

-- what stands behind the number
abbrev pub fault_details : Fault → List ℕ
fault_details (Listing why) = listing_details why
fault_details (Program refused) = cause_details refused.why refused.place
fault_details (Table why) = table_details why
fault_details _ = []

-- the line of what a command said
abbrev pub line_of : Result (List ℕ) Fault → List ℕ
line_of (Ok line) = line
line_of (Err fault) = refused_line (fault_number fault) (fault_details fault)

-- of want of memory nothing is said
abbrev pub UnlessMemory : {A : Type 0} → Result A Fault → (Result A Fault → Type 0) → Type 0
UnlessMemory (Err OutOfMemory) P = Unit {0}
UnlessMemory result P = P result
