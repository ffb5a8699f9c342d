pub mod Alone
pub mod Delivering
pub mod Running
pub mod Laws
