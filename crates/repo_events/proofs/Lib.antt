pub mod Accepted
pub mod Content
pub mod Decoded
pub mod Lengths
pub mod Names
pub mod Written
