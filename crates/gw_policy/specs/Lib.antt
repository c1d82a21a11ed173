pub mod Filter
pub mod Batches
pub mod BatchRefusals
pub mod Allowed
pub mod Cached
