pub mod Derivations
pub mod Links
pub mod Nodes
pub mod Decoded
pub mod Merging
pub mod Places
pub mod Deletions
pub mod Jobs
