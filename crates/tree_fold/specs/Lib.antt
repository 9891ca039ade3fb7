pub mod View
pub mod Fold
pub mod Listing
