pub mod Chain
pub mod Stacking
