pub mod Twice
pub mod TwiceLaws
