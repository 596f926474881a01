pub mod Built
pub mod Outward
