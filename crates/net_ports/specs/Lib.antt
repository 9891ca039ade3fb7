pub mod Asking
pub mod Errors
pub mod Silence
