pub mod Walk
pub mod Meeting
pub mod Left
pub mod View
pub mod Cost
pub mod Table
