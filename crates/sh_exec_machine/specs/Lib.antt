pub mod Forking
pub mod Redirecting
pub mod Transfers
pub mod Undoing
pub mod Waits
