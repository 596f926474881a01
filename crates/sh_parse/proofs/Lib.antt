pub mod Turning
pub mod Lines
pub mod Nuls
pub mod Plain
pub mod Decisions
pub mod Insides
pub mod Faults
pub mod Readings
