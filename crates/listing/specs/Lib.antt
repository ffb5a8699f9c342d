pub mod Listed
pub mod Numbers
