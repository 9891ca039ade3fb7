pub mod Lengths
pub mod Callers
pub mod Judging
pub mod FirstThing
pub mod Seen
pub mod Answers
pub mod Holding
