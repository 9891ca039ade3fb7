pub mod Both
pub mod Derivers
pub mod Lanes
pub mod Rules
pub mod Serving
