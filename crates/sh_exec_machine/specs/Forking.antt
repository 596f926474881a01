-- The processes that a shell makes (2.9.2, 2.13, 2.6.3). While a pipe is laid, its ends have the numbers 10
-- and 11, which no script can name. A process that reads from the pipe before gets that end as 0; a process
-- that writes to the new pipe gets its end as 1.
use Rattle.std.specs.Prelude.{◌≡◌, ℕ, List, Bool, true, false, Option, Some, None, Result, Ok, Err, codes}
use Rattle.sh_kernel.specs.State.{KernelKept, KernelState, StandsAt}
use Rattle.sh_exec_parts.specs.Redirections.{to_read}
use Rattle.sh_kernel.specs.Calls.{close_call, dup_call, fork_call, open_call, pipe_call, put_back_call, set_aside_call}
use Rattle.sh_kernel_descriptors.specs.declared.descriptor.DescriptorRef.TheVariants.{Number, Aside}
use Rattle.sh_kernel_descriptors.specs.declared.fault.KernelFault.{KernelFault}

unfoldable pub after_close : KernelState → ℕ → ℕ → KernelState
after_close s pid number = (close_call s pid (Number number)).after

unfoldable pub after_duplication : KernelState → ℕ → ℕ → ℕ → KernelState
after_duplication s pid from to = (dup_call s pid (Number from) to).after

-- a descriptor moves from one number to another
unfoldable pub after_move : KernelState → ℕ → ℕ → ℕ → KernelState
after_move s pid from to = after_close (after_duplication s pid from to) pid from

-- the end of a pipe that is set aside in the shell, if one is
pub record Laid : Type 0 where
  pub aside : Option ℕ
  pub after : KernelState

abbrev pub set_by : Result ℕ KernelFault → KernelState → Laid
set_by (Ok aside) s = record { aside = Some aside; after = s }
set_by (Err fault) s = record { aside = None; after = s }

unfoldable pub after_pipe : KernelState → ℕ → KernelState
after_pipe s pid = (pipe_call s pid 10 11).after

unfoldable pub set_aside : KernelState → ℕ → Laid
set_aside s pid = let d = set_aside_call s pid 10 in set_by d.answer d.after

-- a new pipe, whose end to read from is set aside, where the new process writes to one
unfoldable pub laid : Bool → KernelState → ℕ → Laid
laid false s pid = record { aside = None; after = s }
laid true s pid = set_aside (after_pipe s pid) pid

-- the end of the pipe before, as number 10
unfoldable pub taken_up : Option ℕ → KernelState → ℕ → KernelState
taken_up None s pid = s
taken_up (Some aside) s pid = (put_back_call s pid aside 10).after

-- what a new process has as 0 and 1
unfoldable pub with_pipe_ends : (reads writes : Bool) → KernelState → ℕ → KernelState
with_pipe_ends false false s pid = s
with_pipe_ends true false s pid = after_move s pid 10 0
with_pipe_ends false true s pid = after_move s pid 11 1
with_pipe_ends true true s pid = after_move (after_move s pid 10 0) pid 11 1

-- the shell closes what only the new process is to have
unfoldable pub let_go : KernelState → ℕ → KernelState
let_go s pid = after_close (after_close s pid 10) pid 11

unfoldable pub without_aside : Option ℕ → KernelState → ℕ → KernelState
without_aside None s pid = s
without_aside (Some aside) s pid = (close_call s pid (Aside aside)).after

-- the new process, if there could be one, and the end of a pipe that is kept for the next
pub record Forked : Type 0 where
  pub child : Option ℕ
  pub aside : Option ℕ
  pub after : KernelState

abbrev pub reads_from : Option ℕ → Bool
reads_from None = false
reads_from (Some aside) = true

-- the process is made
unfoldable pub with_child : ℕ → (reads writes : Bool) → Option ℕ → (child : ℕ) → KernelState → Forked
with_child pid reads writes aside child s = record { child = Some child; aside = aside; after = let_go (with_pipe_ends reads writes s child) pid }

-- none can be made (XSH fork, EAGAIN), and no end of a pipe is kept
unfoldable pub without_child : ℕ → Option ℕ → KernelState → Forked
without_child pid aside s = record { child = None; aside = None; after = without_aside aside (let_go s pid) pid }

abbrev pub forked_by : ℕ → (reads writes : Bool) → Option ℕ → Result ℕ KernelFault → KernelState → Forked
forked_by pid reads writes aside (Ok child) s = with_child pid reads writes aside child s
forked_by pid reads writes aside (Err fault) s = without_child pid aside s

unfoldable pub fork_between : KernelState → ℕ → (reads writes : Bool) → Option ℕ → Forked
fork_between s pid reads writes aside = let d = fork_call s pid in forked_by pid reads writes aside d.answer d.after

-- a new process, which reads from the end that is set aside, if one is, and writes to a new pipe, where it is to
unfoldable pub fork_of : KernelState → ℕ → (before : Option ℕ) → (writes : Bool) → Forked
fork_of s pid before writes =
    let l = laid writes s pid in
    fork_between (taken_up before l.after pid) pid (reads_from before) writes l.aside

-- the kernel stands at the state after a pipe is laid, and this end is set aside
pub record HasLaid (kernel : KernelKept) (end : Option ℕ) (l : Laid) : Type 0 where
  pub state : StandsAt kernel l.after
  pub aside : end ≡ l.aside

-- the kernel stands at the state after a fork, and this is told of it
pub record HasForked (kernel : KernelKept) (pid end : Option ℕ) (f : Forked) : Type 0 where
  pub state : StandsAt kernel f.after
  pub child : pid ≡ f.child
  pub aside : end ≡ f.aside

-- ---- the standard input of an asynchronous list where there is no job control (2.9.3.1): /dev/null, which is set aside in the shell until
-- the process is made. The path is absolute, so the directory is of no account
unfoldable pub after_null : List ℕ → KernelState → ℕ → KernelState
after_null directory s pid = (open_call s pid directory (codes "/dev/null") to_read false 10).after

unfoldable pub null_laid : List ℕ → KernelState → ℕ → Laid
null_laid directory s pid = set_aside (after_null directory s pid) pid
