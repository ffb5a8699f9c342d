pub mod Sweeps
pub mod Bottom
