pub mod Reading
pub mod Turns
pub mod Defined
pub mod Insides
