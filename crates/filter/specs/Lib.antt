pub mod Seen
pub mod Axes
pub mod Filters
pub mod Windows
pub mod Work
pub mod Sums
pub mod Engine
pub mod Promises
