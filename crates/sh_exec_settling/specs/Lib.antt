pub mod Builtins
pub mod Forms
pub use Rattle.sh_exec_signals.specs.Placed
pub use Rattle.sh_exec_signals.specs.Prompting
pub use Rattle.sh_exec_signals.specs.ReadLimit
pub use Rattle.sh_exec_signals.specs.Signals
