pub mod Schedules
pub mod Choices
pub mod Preference
pub mod Found
pub mod Refusals
pub mod Shell
pub use Rattle.sh_world.specs.World
