-- Turns of processes that run stages of a pipeline, as steps of the stages.
use Rattle.std.specs.Prelude.{◌≡◌, ℕ, ◌≤◌, ◌+◌, List, [], ◌++◌, length, Bool, true, false, Err}
use Rattle.sh_exec.specs.Actions.{action_of}
use Rattle.sh_exec.specs.Turns.{Turned}
use Rattle.sh_exec.specs.declared.task.Task.{Task}
use Rattle.sh_exec.specs.declared.task.Task.TheVariants.{Asks}
use Rattle.sh_kernel.specs.State.{KernelState}
use Rattle.sh_kernel.specs.Turns.{can_do}
use Rattle.sh_kernel_descriptors.specs.Descriptors.{has_writer}
use Rattle.sh_pipe.specs.Pipe.{PipeState, write_result}
use Rattle.sh_pipe.specs.declared.PipeFault.TheVariants.{WouldWait}
use Rattle.sh_laws_pipelines.specs.Joined.{ReadsFile, ReadsPipe, WritesFile, with_content, with_offset, with_pipe}
use Rattle.sh_laws_pipelines.specs.Pipelines.{Stage, StageStep, course_of, written_by}
use Rattle.sh_stock.specs.Asking.{Meaning}
use Rattle.sh_stock.specs.Filtering.{Begins}
use Rattle.sh_stock.specs.declared.asking.Ask.{Ask}
use Rattle.sh_stock.specs.declared.asking.Ask.TheVariants.{Write}

-- what is left of an ask where this much has gone of its write: all, or the rest of the write, which isn't empty
pub data IsLeft (ask : Ask) (gone : List ℕ) (left : Ask) : Type 0 where
  Whole : gone ≡ [] → left ≡ ask → IsLeft ask gone left
  Part : (rest : List ℕ) → 1 ≤ length rest → ask ≡ Write (gone ++ rest) → left ≡ Write rest → IsLeft ask gone left

-- the process runs the stage's program, and stands where the stage is on its way
pub record Runs {S : Type 0} (m : Meaning S) (pid : ℕ) (stage : Stage S) (task : Task S) : Type 0 where
  pub left : Ask
  pub is_left : IsLeft (course_of m stage).ask stage.gone left
  pub same : task ≡ Asks pid left (course_of m stage).program

-- the stage took a step, by which it read and wrote this, and the process stands where the stage is now
pub record Stepped {S : Type 0} (m : Meaning S) (pid : ℕ) (given : List ℕ) (complete : Bool) (stage : Stage S) (read written : List ℕ) (next : Task S) : Type 0 where
  pub later : Stage S
  pub step : StageStep m given complete stage later
  pub runs : Runs m pid later next
  pub reads : (course_of m later).read ≡ (course_of m stage).read ++ read
  pub writes : written_by m later ≡ written_by m stage ++ written

-- a read from a pipe: the process can't take its turn, as the pipe is empty and has a writer, and nothing changes; or it has taken what came first in
-- the pipe
pub data ReadFromPipe {S : Type 0} (m : Meaning S) (s : KernelState) (pid : ℕ) (given : List ℕ) (complete : Bool) (stage : Stage S) (task : Task S) (r : ReadsPipe s.machine pid given complete (course_of m stage).read) (t : Turned S) : Type 0 where
  WaitsForBytes : can_do s pid (action_of s task) ≡ false → r.state.bytes ≡ [] → has_writer s.machine.descriptors s.machine.descriptions r.pipe ≡ true → t.machine ≡ s → t.task ≡ task → ReadFromPipe m s pid given complete stage task r t
  Took : (taken rest : List ℕ) → taken ++ rest ≡ r.state.bytes → t.machine ≡ with_pipe s r.pipe (record r.state { bytes = rest }) → Stepped m pid given complete stage taken [] t.task → ReadFromPipe m s pid given complete stage task r t

-- a read from a file: what was taken comes next in the file, and the offset goes on by it
pub record ReadFromFile {S : Type 0} (m : Meaning S) (s : KernelState) (pid : ℕ) (given : List ℕ) (complete : Bool) (stage : Stage S) (r : ReadsFile s.machine pid given complete (course_of m stage).read) (t : Turned S) : Type 0 where
  pub taken : List ℕ
  pub begun : Begins ((course_of m stage).read ++ taken) given
  pub machine : t.machine ≡ with_offset s r.opened.place r.opened.description (r.opened.description.offset + length taken)
  pub stepped : Stepped m pid given complete stage taken [] t.task

-- a write to a pipe: the process can't take its turn, as what is left of the write finds no room (XSH write), and nothing changes; or what went is behind what was in
-- the pipe
pub data WrittenToPipe {S : Type 0} (m : Meaning S) (s : KernelState) (pid : ℕ) (given : List ℕ) (complete : Bool) (stage : Stage S) (task : Task S) (pipe : ℕ) (state : PipeState) (t : Turned S) : Type 0 where
  WaitsForRoom : can_do s pid (action_of s task) ≡ false → (rest : List ℕ) → task ≡ Asks pid (Write rest) (course_of m stage).program → write_result state rest true ≡ Err WouldWait → t.machine ≡ s → t.task ≡ task → WrittenToPipe m s pid given complete stage task pipe state t
  Went : (bytes : List ℕ) → t.machine ≡ with_pipe s pipe (record state { bytes = state.bytes ++ bytes }) → Stepped m pid given complete stage [] bytes t.task → WrittenToPipe m s pid given complete stage task pipe state t

-- a write to a file: it is behind what the file held
pub record WrittenToFile {S : Type 0} (m : Meaning S) (s : KernelState) (pid : ℕ) (given : List ℕ) (complete : Bool) (stage : Stage S) (number : ℕ) (w : WritesFile s.machine pid number (written_by m stage)) (t : Turned S) : Type 0 where
  pub bytes : List ℕ
  pub machine : t.machine ≡ with_content s w.opened.place w.opened.description number w.file (written_by m stage ++ bytes)
  pub stepped : Stepped m pid given complete stage [] bytes t.task
