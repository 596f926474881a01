pub mod Events
pub mod Files
pub mod Joined
pub mod Others
pub mod Pipelines
pub mod Stages
pub mod Turns
