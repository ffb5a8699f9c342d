pub mod Span
pub mod Block
pub mod Grid
pub mod GridLaws
pub mod Scratch
pub mod Runs
