pub mod Bounds
pub mod Planning
pub mod Running
pub mod Spots
pub mod Totals
pub mod Walking
pub mod BlockLaws
