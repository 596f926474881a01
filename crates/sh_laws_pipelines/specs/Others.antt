-- What other processes leave of a process that runs a stage.
use Rattle.std.specs.Prelude.{◌≡◌, ℕ, ◌<◌, List, Bool, true, false}
use Rattle.sh_kernel.specs.Reaching.{is_end, is_file, reaches}
use Rattle.sh_kernel_descriptors.specs.Machine.{MachineState}
use Rattle.sh_kernel_processes.specs.Processes.{has_ended, next_pid}
use Rattle.sh_pipe.specs.Pipe.{PipeState}
use Rattle.sh_laws_pipelines.specs.Joined.{ReadsFile, ReadsPipe, WritesPipe}

-- only these processes have descriptors that lead to an end of the pipe
abbrev pub OnlyReach : (owners : ℕ → Bool) → MachineState → (pipe : ℕ) → Type 0
OnlyReach owners m pipe = (q : ℕ) → owners q ≡ false → reaches m.descriptors q (is_end m.descriptions pipe) ≡ false

-- none of these processes has ended
abbrev pub AllGoOn : (owners : ℕ → Bool) → MachineState → Type 0
AllGoOn owners m = (q : ℕ) → owners q ≡ true → has_ended m.processes q ≡ false

-- the process is none of these; they were there before what it did, and none of them has ended then
pub record IsBeside (owners : ℕ → Bool) (other : ℕ) (old new : MachineState) : Type 0 where
  pub apart : owners other ≡ false
  pub there : (q : ℕ) → owners q ≡ true → q < next_pid old.processes
  pub alive : AllGoOn owners new

-- the process still reads from this pipe, in which the same is
pub record StillReads (owners : ℕ → Bool) (m : MachineState) (pid : ℕ) (given : List ℕ) (complete : Bool) (read : List ℕ) (pipe : ℕ) (state : PipeState) : Type 0 where
  pub reads : ReadsPipe m pid given complete read
  pub same_pipe : reads.pipe ≡ pipe
  pub same_state : reads.state ≡ state
  pub alone : OnlyReach owners m pipe

pub record StillWrites (owners : ℕ → Bool) (m : MachineState) (pid pipe : ℕ) (state : PipeState) : Type 0 where
  pub writes : WritesPipe m pid pipe state
  pub alone : OnlyReach owners m pipe

-- only these processes have descriptors that lead to the file
abbrev pub OnlyReachFile : (owners : ℕ → Bool) → MachineState → (number : ℕ) → Type 0
OnlyReachFile owners m number = (q : ℕ) → owners q ≡ false → reaches m.descriptors q (is_file m.descriptions number) ≡ false

-- the process still reads from this file
pub record StillReadsFile (m : MachineState) (pid : ℕ) (given : List ℕ) (complete : Bool) (read : List ℕ) (number : ℕ) : Type 0 where
  pub reads : ReadsFile m pid given complete read
  pub same_file : reads.number ≡ number
