-- The faults of octets: those that a header has, and those that a header or a record has.
use Rattle.gw_trace.specs.declared.refusal.TraceRefusal.{TraceRefusal}
use Rattle.gw_trace.specs.declared.refusal.TraceRefusal.TheVariants.{BadMagic, BadVersion, BadLink, OutOfMemory, Cut, ReadFault}

abbrev pub IsHeaderFault : TraceRefusal → Type 0
IsHeaderFault BadMagic = Unit {0}
IsHeaderFault BadVersion = Unit {0}
IsHeaderFault BadLink = Unit {0}
IsHeaderFault _ = ⊥

abbrev pub IsFault : TraceRefusal → Type 0
IsFault OutOfMemory = ⊥
IsFault Cut = ⊥
IsFault ReadFault = ⊥
IsFault _ = Unit {0}
