-- public meaning: what acceptance, refusals and paths are
pub mod Cause
pub mod Flow
pub mod Accepted
pub mod Orderly
pub mod Explanation
-- inside: how the passes over the code find faults and paths
pub mod Next
pub mod OwnFault
pub mod UnsetLoad
pub mod Arrivals
