pub mod Batch
pub mod Call
pub mod Promises
