pub mod Cases
pub mod Files
pub mod Lists
pub mod Reasons
