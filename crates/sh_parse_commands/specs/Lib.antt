pub mod Documents
pub mod Levels
pub mod Judging
pub mod Replacing
pub mod Cuts
pub mod Programs
pub mod Defined
pub mod Rewriting
