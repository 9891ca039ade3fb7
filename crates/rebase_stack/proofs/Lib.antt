pub mod Lengths
pub mod Rewriting
pub mod Rising
