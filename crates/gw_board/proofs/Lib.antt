pub mod Callers
pub mod Prefixes
pub mod Adding
pub mod Lists
pub mod Visits
