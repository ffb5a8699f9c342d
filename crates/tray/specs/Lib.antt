pub mod Written
pub mod Turned
pub mod Promises
pub mod Laws
pub mod Worked
