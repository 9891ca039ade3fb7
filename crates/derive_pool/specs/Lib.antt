pub mod Heads
pub mod Pages
pub mod Pool
