-- To be read: Line, Number, Drift, Flip, Tables, Bresenham (definitions); and in proofs/ Worked (values) and Laws
-- (statements; their proofs stand in Laws/).
pub mod Line
pub mod Number
pub mod Drift
pub mod Flip
pub mod Tables
pub mod Bresenham
