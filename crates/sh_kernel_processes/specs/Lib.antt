pub mod Changes
pub mod Delivery
pub mod Groups
pub mod Laws
pub mod Living
pub mod Processes
pub mod Sending
pub mod Sets
