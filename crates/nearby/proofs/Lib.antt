-- What the proofs of several functions use.
mod Places
mod Stood
mod Rows
