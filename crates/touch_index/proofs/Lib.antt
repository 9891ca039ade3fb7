pub mod PathKeys
pub mod Rising
pub mod Staying
pub mod Asking
