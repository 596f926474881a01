pub mod Aliases
pub mod Commands
pub mod Invocations
pub mod Loops
pub mod Running
pub use Rattle.sh_builtin_asking.specs.BuiltIns
