-- What the proofs of several functions use.
mod Pens
mod Components
mod Tables
mod Numbers
pub mod Laws
pub mod Worked
