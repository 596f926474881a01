pub mod Between
pub mod Finding
pub mod Prefixes
pub mod Leading
pub mod Names
pub mod Ones
pub mod Only
pub mod Ordered
pub mod Parts
pub mod Reaching
pub mod Scans
pub mod Sorting
mod Ends
mod Series
