pub mod Derivation
pub mod Front
pub mod Landing
pub mod Reading
pub mod Sealed
