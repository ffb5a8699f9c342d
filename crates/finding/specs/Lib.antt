pub mod Row
pub mod Promises
