mod Divisors
pub mod Signs
