pub mod Stand
pub mod Promises
pub mod Laws
