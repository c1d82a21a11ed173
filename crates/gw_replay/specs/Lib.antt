-- public meaning: what a line asks for, what is answered, and what replaying writes
pub mod Requests
pub mod Faults
pub mod Telling
pub mod Replies
pub mod Scripts
pub mod Written
-- inside: what the code reads of texts and holds after lines
pub mod Policies
pub mod Commands
pub mod Joins
pub mod Said
pub mod Standing
pub mod Reached
