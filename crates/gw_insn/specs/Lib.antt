-- public meaning: the instructions by groups, their four fields, and listings
pub mod Form
pub mod Table
pub mod Listing
pub mod Spelling
