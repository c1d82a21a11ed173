-- public meaning: what becomes of a line, groups of frames, how lines are counted, and what judging a log writes
pub mod Fates
pub mod Grouped
pub mod Tallies
pub mod Judged
-- interfaces that are named for ports, and what leaves at them
pub mod Interfaces
pub mod Egress
-- the first octets of an input, and what judging a trace reads and counts
pub mod FirstOctets
pub mod Captures
-- what is heard of a log
pub mod Heard
-- the inside: a tally with a line more, parts of lines, and how far a log was judged
pub mod Counting
pub mod LineParts
pub mod UnderWay
pub mod EgressUnderWay
pub mod CapturesUnderWay
pub mod HearingUnderWay
