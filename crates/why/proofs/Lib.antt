mod Passes
mod Rows
mod Ordered
mod Naming
mod Telling
mod Searching
mod Gathering
mod Boxed
mod Asking
pub mod Laws
