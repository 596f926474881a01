pub mod Keys
pub mod Happenings
pub mod Terminal
