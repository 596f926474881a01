pub mod Assigning
pub mod Cases
pub mod Defining
pub mod Expanding
pub mod Reading
pub mod Redirects
pub mod Series
