pub mod Rules
pub mod Grammar
pub mod Codes
pub mod Examples
pub mod Held
