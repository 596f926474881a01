pub mod Asking
pub mod JobWaits
pub mod Sending
pub mod Waiting
pub mod Writing
