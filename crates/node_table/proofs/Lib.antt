pub mod Maps
pub mod Digests
pub mod Steps
pub mod Apart
pub mod Tables
