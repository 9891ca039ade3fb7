pub mod View
pub mod Lineage
pub mod Placed
pub mod Lesser
pub mod Unresolved
