pub mod Builtins
pub mod CommandWords
pub mod Invocations
pub mod Messages
pub mod Outcomes
pub mod Rests
pub use Rattle.sh_builtin_shell.specs.Functions
