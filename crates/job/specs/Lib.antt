pub mod Order
pub mod Job
pub mod Finishing
pub mod Laws
