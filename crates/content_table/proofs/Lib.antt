pub mod Finding
