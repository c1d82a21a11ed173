-- public meaning: limits, sets of ports, and what ledgers count
pub mod Bounds
pub mod Ports
pub mod Ledgers
-- inside: how a set of ports is kept, with the lemmas that the type's model asks for
pub mod PortWord
