-- The numbers by which refusals of a trace are told.
use Rattle.std.specs.Prelude.{ℕ}
use Rattle.gw_trace.specs.declared.refusal.TraceRefusal.{TraceRefusal}
use Rattle.gw_trace.specs.declared.refusal.TraceRefusal.TheVariants.{BadMagic, BadVersion, BadLink, BadRecord, OutOfMemory, Cut}
use Rattle.gw_trace.specs.declared.refusal.TraceRefusal.TheVariants.{ReadFault}

abbrev pub refusal_number : TraceRefusal → ℕ
refusal_number BadMagic = 90
refusal_number BadVersion = 91
refusal_number BadLink = 92
refusal_number (BadRecord index why) = 93
refusal_number OutOfMemory = 94
refusal_number Cut = 95
refusal_number ReadFault = 96
