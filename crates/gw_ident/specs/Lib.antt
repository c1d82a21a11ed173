-- public meaning: the fields of identifiers and of NAMEs
pub mod Identifier
pub mod DeviceName
