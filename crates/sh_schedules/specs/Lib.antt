pub mod Parting
pub mod Paths
pub mod Shards
pub mod Trying
pub mod Checkpoints
pub mod Merging
pub use Rattle.sh_schedules_outcomes.specs.Shell
pub use Rattle.sh_exec.specs.State
