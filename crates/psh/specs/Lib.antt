pub mod Report
pub mod Serving
