pub use Rattle.sh_exec_settling.proofs.Outward
