-- public meaning: bounds, lines and words, records, the programs of listings, tables, and the line of a refusal
pub mod Bounds
pub mod Lines
pub mod Words
pub mod RuleLines
pub mod Places
pub mod Records
pub mod Programs
pub mod Tables
pub mod PortTexts
pub mod Refused
