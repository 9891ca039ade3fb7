pub mod Serving
pub mod Again
pub mod Endings
pub mod ById
