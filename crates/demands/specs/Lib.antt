-- The statements, each with the sentence it renders; proofs/Demands.antt names the proof of each.
pub mod Same
pub mod Untouched
pub mod Near
pub mod Reach
pub mod Exact
pub mod Work
pub mod Flip
pub mod Files
pub mod Lists
pub mod Why
pub mod Demands
