-- The line that tells how a process stands.
use Rattle.std.specs.Prelude.{List, [], ◌∷◌, ℕ, ◌++◌, codes, decimal}
use Rattle.sh_kernel_processes.specs.declared.process.Status.{Status}
use Rattle.sh_kernel_processes.specs.declared.process.Status.TheVariants.{Running, Stopped, Exited, Signaled}

abbrev pub words_of : Status → List ℕ
words_of Running = codes "running"
words_of (Stopped signal) = codes "stopped " ++ decimal signal
words_of (Exited status) = codes "exited " ++ decimal status
words_of (Signaled signal) = codes "signaled " ++ decimal signal

abbrev pub process_line : ℕ → Status → List ℕ
process_line pid status = codes "process " ++ decimal pid ++ 32 ∷ words_of status ++ 10 ∷ []
