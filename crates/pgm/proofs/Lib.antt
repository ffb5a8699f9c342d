pub mod Headers
pub mod Images
pub mod Readings
pub mod Scans
pub mod Told
