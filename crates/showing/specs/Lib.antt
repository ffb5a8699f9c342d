pub mod Outcome
pub mod Shown
pub mod Laws
pub mod Worked
