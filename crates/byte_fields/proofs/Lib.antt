pub mod Booleans
pub mod FieldLemmas
pub mod Lists
pub mod Places
pub mod Run
pub mod TextLemmas
