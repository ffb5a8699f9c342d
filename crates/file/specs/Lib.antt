pub mod Places
pub mod Reading
pub mod FileJob
pub mod Delivering
