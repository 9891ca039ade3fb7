pub mod Memory
pub mod Inside
pub mod Log
pub mod Tally
pub mod MemMeaning
pub mod MemSound
pub mod MemDisk
