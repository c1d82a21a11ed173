-- public meaning: what a trace is, what a piece of it gives, all its records, and shares
pub mod Traces
pub mod Progress
pub mod TraceFrames
pub mod Recorded
pub mod Shares
pub mod Refusals
-- inside: what a checked trace keeps, what a scan and a piece find, and which faults are of octets
pub mod Wholes
pub mod Kept
pub mod Scans
pub mod DecodedPieces
pub mod FaultKinds
