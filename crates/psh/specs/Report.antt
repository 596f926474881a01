-- What `--report` tells behind the terminal's bytes: a newline, a line for each process in the order of their numbers, the lines of the first
-- shell's jobs as `jobs -l` writes them, and the image of the files.
use Rattle.std.specs.Prelude.{ℕ, ◌+◌, List, [], ◌∷◌, ◌++◌, Bool, true, false, take}
use Rattle.sh_exec.specs.State.{State, files_of, job_lines_of, terminal_of}
use Rattle.sh_exec.specs.Tasks.{first_pid}
use Rattle.sh_files.specs.Writing.{image_text}
use Rattle.sh_kernel_processes.specs.declared.process.Process.{Process}
use Rattle.psh_common.specs.Processes.{process_line}

-- ---- all processes, in the order of their numbers, from this one on
abbrev pub process_lines : ℕ → List Process → List ℕ
process_lines pid [] = []
process_lines pid (p ∷ ps) = process_line pid p.status ++ process_lines (pid + 1) ps

-- no process has a number above 2147483647
abbrev pub shown_processes : List Process → List Process
shown_processes ps = take 2147483548 ps

-- ---- all of it
abbrev pub report_of : {S : Type 0} → State S → List ℕ
report_of s = 10 ∷ process_lines first_pid (shown_processes s.machine.machine.processes) ++ job_lines_of s ++ image_text (files_of s)

-- what is written of a state
abbrev pub shown_text : {S : Type 0} → (report : Bool) → State S → List ℕ
shown_text false s = terminal_of s
shown_text true s = terminal_of s ++ report_of s
