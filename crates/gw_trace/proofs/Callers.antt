-- For whoever feeds a trace: which whole records octets have, and what is wrong with a header.
use Rattle.std.proofs.Common.{ℕ, List, Result, take, refl}
use Rattle.gw_frame.specs.declared.refusal.FrameRefusal.{FrameRefusal}
use Rattle.gw_trace.specs.declared.refusal.TraceRefusal.{TraceRefusal}
use Rattle.gw_trace.specs.FaultKinds.{IsHeaderFault}
use Rattle.gw_trace.specs.Recorded.{Begun, HasBadHeader, HasSoFar, IsReadTo}
use Rattle.gw_trace.specs.Traces.{header_of}
use Rattle.gw_trace.proofs.Parting.{so_far_read}
use Rattle.gw_trace.proofs.Faults.{header_faults}

pub so_far : (kept : Begun) (octets : List ℕ) (records : List (Result (List ℕ) FrameRefusal)) → IsReadTo kept octets records
    → HasSoFar octets records
so_far kept octets records h = so_far_read kept octets records h

pub bad_header_kind : (octets : List ℕ) (fault : TraceRefusal) → HasBadHeader octets fault → IsHeaderFault fault
bad_header_kind octets fault bad = header_faults (take 24 octets) (header_of (take 24 octets)) fault refl bad.header
