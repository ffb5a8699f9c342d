pub mod Reason
pub mod Told
pub mod Promises
pub mod Named
