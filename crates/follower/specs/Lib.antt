pub mod Wanting
pub mod Receiving
pub mod Hearing
pub mod Making
pub mod Replaying
pub mod Following
pub mod Walking
pub mod Left
