pub mod Paths
pub mod Rising
pub mod Texts
pub mod Spelling
pub mod Accepting
pub mod Places
