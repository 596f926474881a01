pub mod Finding
pub mod Turning
