-- public meaning: what is known of a reader or a writer, what a reader gives piece by piece, and what was written
pub mod Tries
pub mod Calls
pub mod Pieces
pub mod Written
