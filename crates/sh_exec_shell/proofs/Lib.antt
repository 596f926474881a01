pub mod Extending
pub mod Frames
