pub mod Spelled
pub mod Decoded
pub mod Named
pub mod Within
pub mod Stays
pub mod Rows
