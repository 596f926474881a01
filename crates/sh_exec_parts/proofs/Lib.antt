pub mod Prepared
pub mod Restoring
