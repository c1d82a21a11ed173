-- public meaning: who holds which address after the records heard, and the table that a value of `Claims` shows
pub mod Claims
pub mod Holders
