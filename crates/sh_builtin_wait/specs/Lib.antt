pub mod Waits
pub use Rattle.sh_builtin_jobs.specs.declared.run.KillAsk
