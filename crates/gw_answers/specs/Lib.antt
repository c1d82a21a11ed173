-- All of it is public meaning: what commands are asked, what they answer and what they refuse.
pub mod Answers
pub mod Frames
pub mod Inputs
pub mod Openings
pub mod Policies
pub mod Refusals
pub mod Requests
pub mod Responses
pub mod Texts
