-- Pipelines as processes (2.9.2): each stage is run by a process, and is joined to the next by a pipe.
use Rattle.std.specs.Prelude.{◌≡◌, ◌≢◌, ℕ, zero, suc, ◌==◌, ◌||◌, List, [], ◌∷◌, ◌++◌, ◌<◌, ◌≤◌, map, length, Bool, true, false, slice_get, ◌⊎◌, Option, Some, None}
use Rattle.std.specs.List.{list_any}
use Rattle.sh_exec.specs.Actions.{action_of}
use Rattle.sh_exec.specs.declared.task.Task.{Task}
use Rattle.sh_files_image.specs.Contents.{Regular}
use Rattle.sh_files_image.specs.declared.node.Node.TheVariants as node
use Rattle.sh_kernel.specs.State.{KernelState}
use Rattle.sh_kernel.specs.Turns.{can_do}
use Rattle.sh_kernel_descriptors.specs.Machine.{MachineState}
use Rattle.sh_kernel_processes.specs.Processes as processes
use Rattle.sh_kernel_processes.specs.Sending.{pids_of}
use Rattle.sh_pipe.specs.Pipe.{PipeState}
use Rattle.sh_laws_pipelines.specs.Others.{OnlyReach}
use Rattle.sh_laws_pipelines.specs.Joined.{ReadsFile, ReadsPipe, WritesFile, WritesPipe}
use Rattle.sh_laws_pipelines.specs.Turns.{Runs}
use Rattle.sh_laws_pipelines.specs.Pipelines.{Stage, Step, course_of, has_ended, written_by}
use Rattle.sh_stock.specs.Asking.{Meaning}
use Rattle.sh_stock.specs.declared.asking.Ask.TheVariants.{End, Write}

-- a stage, the process that runs it, and the number of the pipe to which it writes, or, of the last stage, of the file
pub record StageProcess (S : Type 0) : Type 0 where
  pub pid : ℕ
  pub stage : Stage S
  pub task : Task S
  pub to : ℕ

-- what the first stage reads from
pub data Source : Type 0 where
  FromPipe : (pipe : ℕ) → Source
  FromFile : (number : ℕ) → Source

-- the writer of a pipe, if it has one, and its reader
abbrev pub is_at_end : Option ℕ → ℕ → ℕ → Bool
is_at_end None pid q = q == pid
is_at_end (Some before) pid q = (q == before) || (q == pid)

-- the process reads from this pipe, which only it and the stage before reach
pub record FedByPipe (s : MachineState) (before : Option ℕ) (pipe : ℕ) (given : List ℕ) (complete : Bool) (pid : ℕ) (read : List ℕ) : Type 0 where
  pub reads : ReadsPipe s pid given complete read
  pub same_pipe : reads.pipe ≡ pipe
  pub alone : OnlyReach (is_at_end before pid) s pipe

pub record FedByFile (s : MachineState) (number : ℕ) (given : List ℕ) (complete : Bool) (pid : ℕ) (read : List ℕ) : Type 0 where
  pub reads : ReadsFile s pid given complete read
  pub same_file : reads.number ≡ number

abbrev pub IsFed : MachineState → (before : Option ℕ) → Source → (given : List ℕ) → (complete : Bool) → (pid : ℕ) → (read : List ℕ) → Type 0
IsFed s before (FromPipe pipe) given complete pid read = FedByPipe s before pipe given complete pid read
IsFed s before (FromFile number) given complete pid read = FedByFile s number given complete pid read

-- the stages from one on: each is run by its process and is fed, what it writes goes to the pipe from which the next one reads, and what the last
-- one writes to a file. The first has been given these bytes so far, and no more are to come where `complete` is true; the pipe from which it reads
-- may have the process `before` for a writer
abbrev pub Stands : {S : Type 0} → Meaning S → MachineState → (before : Option ℕ) → Source → (given : List ℕ) → (complete : Bool) → List (StageProcess S) → Type 0
Stands m s before source given complete [] = Unit {0}
Stands m s before source given complete (j ∷ []) = Runs m j.pid j.stage j.task × IsFed s before source given complete j.pid (course_of m j.stage).read × WritesFile s j.pid j.to (written_by m j.stage)
Stands m s before source given complete (j ∷ k ∷ js) =
    Runs m j.pid j.stage j.task × IsFed s before source given complete j.pid (course_of m j.stage).read × ((state : PipeState) × WritesPipe s j.pid j.to state)
    × Stands m s (Some j.pid) (FromPipe j.to) (written_by m j.stage) (has_ended j.stage) (k ∷ js)

abbrev pub stages_of : {S : Type 0} → List (StageProcess S) → List (Stage S)
stages_of {S} js = map (λ (j : StageProcess S). j.stage) js

-- ---- what is asked of a pipeline
-- no two stages are run by one process
abbrev pub IsNot : Option ℕ → ℕ → Type 0
IsNot None pid = Unit {0}
IsNot (Some before) pid = pid ≢ before

abbrev pub NotAmong : {S : Type 0} → ℕ → List (StageProcess S) → Type 0
NotAmong pid [] = Unit {0}
NotAmong pid (j ∷ js) = (pid ≢ j.pid) × NotAmong pid js

abbrev pub AreDistinct : {S : Type 0} → List (StageProcess S) → Type 0
AreDistinct [] = Unit {0}
AreDistinct (j ∷ js) = NotAmong j.pid js × AreDistinct js

abbrev pub NotBefore : {S : Type 0} → Option ℕ → List (StageProcess S) → Type 0
NotBefore None js = Unit {0}
NotBefore (Some before) js = NotAmong before js

-- the file that is read isn't the one that is written
abbrev pub IsNotLast : {S : Type 0} → Option ℕ → List (StageProcess S) → Type 0
IsNotLast number [] = Unit {0}
IsNotLast number (j ∷ []) = number ≢ Some j.to
IsNotLast number (j ∷ k ∷ js) = IsNotLast number (k ∷ js)

abbrev pub ReadsOther : {S : Type 0} → Source → List (StageProcess S) → Type 0
ReadsOther (FromPipe pipe) js = Unit {0}
ReadsOther (FromFile number) js = IsNotLast (Some number) js

-- none of the processes has ended
abbrev pub IsAlive : MachineState → Option ℕ → Type 0
IsAlive s None = Unit {0}
IsAlive s (Some pid) = processes.has_ended s.processes pid ≡ false

abbrev pub AreAlive : {S : Type 0} → MachineState → List (StageProcess S) → Type 0
AreAlive s [] = Unit {0}
AreAlive s (j ∷ js) = (processes.has_ended s.processes j.pid ≡ false) × AreAlive s js

-- a stage that doesn't end in its next turn, and one whose write the file has room for
abbrev pub NotEnding : {S : Type 0} → Meaning S → StageProcess S → Type 0
NotEnding m j = (status : ℕ) → (course_of m j.stage).ask ≡ End status → ⊥

abbrev pub HasRoom : {S : Type 0} → Meaning S → StageProcess S → Type 0
HasRoom m j = (bytes : List ℕ) → (course_of m j.stage).ask ≡ Write bytes → length ((course_of m j.stage).written ++ bytes) ≤ 1073741824

-- ---- another process
-- it runs none of the stages, whose processes were there before what it did
abbrev pub IsElsewhere : {S : Type 0} → ℕ → MachineState → List (StageProcess S) → Type 0
IsElsewhere other s [] = Unit {0}
IsElsewhere other s (j ∷ js) = (j.pid ≢ other) × (j.pid < processes.next_pid s.processes) × IsElsewhere other s js

abbrev pub IsElsewhereBefore : ℕ → (old new : MachineState) → Option ℕ → Type 0
IsElsewhereBefore other old new None = Unit {0}
IsElsewhereBefore other old new (Some before) = (before ≢ other) × (before < processes.next_pid old.processes) × (processes.has_ended new.processes before ≡ false)

-- it neither reaches nor opens the file that is read, nor the one that is written
abbrev pub LeavesSource : (number : ℕ → Type 0) → Source → Type 0
LeavesSource leaves (FromPipe pipe) = Unit {0}
LeavesSource leaves (FromFile number) = leaves number

abbrev pub LeavesLast : {S : Type 0} → (number : ℕ → Type 0) → List (StageProcess S) → Type 0
LeavesLast leaves [] = Unit {0}
LeavesLast leaves (j ∷ []) = leaves j.to
LeavesLast leaves (j ∷ k ∷ js) = LeavesLast leaves (k ∷ js)

-- ---- a turn
-- one of them is on its way to this stage, and its process to this task
abbrev pub with_turn : {S : Type 0} → ℕ → Stage S → Task S → List (StageProcess S) → List (StageProcess S)
with_turn n stage task [] = []
with_turn zero stage task (j ∷ js) = record j { stage = stage; task = task } ∷ js
with_turn (suc n) stage task (j ∷ js) = j ∷ with_turn n stage task js

-- after a turn of the process of one of them all stand, and that one took a step; or its process couldn't take its turn, and none took one
pub record GoesOn {S : Type 0} (m : Meaning S) (s : KernelState) (before : Option ℕ) (source : Source) (given : List ℕ) (complete : Bool) (js : List (StageProcess S)) (n : ℕ) (j : StageProcess S) (t : MachineState) (next : Task S) : Type 0 where
  pub later : Stage S
  pub stands : Stands m t before source given complete (with_turn n later next js)
  pub steps : ((can_do s j.pid (action_of s j.task) ≡ false) × (stages_of (with_turn n later next js) ≡ stages_of js)) ⊎ Step m given complete (stages_of js) (stages_of (with_turn n later next js))

-- the stages behind one
abbrev pub behind : {S : Type 0} → ℕ → List (StageProcess S) → List (StageProcess S)
behind n [] = []
behind zero (j ∷ js) = js
behind (suc n) (j ∷ js) = behind n js

-- the process, a member of a group, has ended by its turn
pub record Ends (old new : KernelState) (pid : ℕ) : Type 0 where
  pub member : list_any (λ q. q == pid) (pids_of old.members) ≡ true
  pub ended : processes.has_ended new.machine.processes pid ≡ true

-- the file holds these bytes
pub record Holds (s : MachineState) (number : ℕ) (bytes : List ℕ) : Type 0 where
  pub file : Regular
  pub there : slice_get s.files.nodes number ≡ Some (node.File file)
  pub content : file.bytes ≡ bytes
