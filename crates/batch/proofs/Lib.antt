pub mod Stores
pub mod Running
pub mod Laws
