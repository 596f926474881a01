-- The changes of a machine of which each request is made.
use Rattle.std.proofs.Common.{◌≡◌, ℕ, ◌+◌, List, length, Bool, true, false, not, cond, ◌&&◌, Option, Some, None, slice_set, refl, sym, Result, Ok, Err}
use Rattle.sh_files.specs.Nodes.{FileMap, nameless, opened, write_at}
use Rattle.sh_files.specs.declared.fault.FileFault.{FileFault}
use Rattle.sh_files.specs.declared.opening.Opening.{Opening}
use Rattle.sh_pipe.specs.Pipe.{PipeState}
use Rattle.sh_kernel_descriptors.specs.Outcomes.{success, refusal}
use Rattle.sh_kernel_descriptors.specs.Machine.{MachineState, after_close, after_fork}
use Rattle.sh_kernel_descriptors.specs.Descriptors.{description_number}
use Rattle.std.specs.List.{list_any}
use Rattle.std.specs.Option.{option_map_or}
use Rattle.sh_kernel_processes.specs.Processes.{has_ended, is_ended, is_living, lives, may_fork, next_pid, process_at}
use Rattle.sh_kernel_descriptors.specs.Reading.{with_offset}
use Rattle.sh_kernel_descriptors.specs.Naming.{aside_found, back_found, close_found, dup_found, is_allowed, is_description, put_back, after_renaming, with_number, with_pipe}
use Rattle.sh_kernel_descriptors.specs.Opening.{for_reading, open_result, with_node}
use Rattle.sh_kernel_descriptors.specs.Terminals.{reads_terminal, writes_terminal}
use Rattle.sh_kernel_descriptors.specs.declared.descriptor.Closing.{Closing}
use Rattle.sh_kernel_descriptors.specs.declared.descriptor.Closing.TheVariants.{Named, Asides}
use Rattle.sh_kernel_descriptors.specs.declared.descriptor.DescriptorRef.{DescriptorRef}
use Rattle.sh_kernel_descriptors.specs.declared.descriptor.DescriptorRef.TheVariants.{Number, Aside}
use Rattle.sh_kernel_processes.specs.declared.process.Process as process
use Rattle.sh_kernel_processes.specs.Laws.{OnlyStatuses}
use Rattle.sh_kernel_processes.specs.Sending.{after_end, after_send, pids_of, reaches}
use Rattle.sh_kernel_processes.specs.declared.target.SignalTarget.{SignalTarget}
use Rattle.sh_kernel_processes.specs.declared.target.SignalTarget.TheVariants as target
use Rattle.sh_kernel_processes.proofs.Statuses.{ends_change, signals_change}
use Rattle.sh_signal.specs.declared.signal.Signal.{Signal}
use Rattle.sh_signal.specs.declared.signal.Signal.TheVariants.{Pipe, TerminalInput}
use Rattle.sh_kernel_descriptors.specs.declared.fault.KernelFault.TheVariants.{NoProcess, TooManyProcesses, TooManyDescriptors}
use Rattle.sh_tty.specs.Happenings.{entries_of}
use Rattle.sh_tty.specs.Keys.{read_of}
use Rattle.sh_kernel.specs.State.{KernelState}
use Rattle.sh_kernel.specs.Access.{is_raising}
use Rattle.sh_kernel.specs.declared.access.Access.{Access}
use Rattle.sh_kernel.specs.declared.access.Access.TheVariants.{Granted, Raises, Refused}
use Rattle.sh_kernel.specs.Calls.{access, broken_pipe, is_broken, on_machine, read_by, read_terminal, with_new_process, with_program, write_terminal}
use Rattle.sh_kernel.specs.Laws.{sends}
use Rattle.sh_kernel_machine.specs.Signals.{with_processes}
use Rattle.sh_kernel.specs.Signals.{after_exit, after_signal, table_of}
use Rattle.sh_kernel.specs.Requests.{Request, Read, Write, Close, Duplicate, MakePipe, Open, Here, SetAside, PutBack, Fork, StartProgram, End, Kill, SetAction, TakeSignal, SetGroup, SetForeground, after_request}
use Rattle.sh_kernel_descriptors.specs.Reading as reading
use Rattle.sh_kernel_descriptors.specs.Writing as writing
use Rattle.sh_kernel.specs.Reaching.{is_end, is_file}
use Rattle.sh_kernel.proofs.Cases.{IsHeld, ReadChanges, WriteChanges, found_held, read_by_cases, write_by_cases}

-- what has to be shown of each change, so that it holds after each request
pub record Changes (m : MachineState) (pid : ℕ) (sent : Bool) (r : Request) (P : MachineState → Type 0) : Type 0 where
  pub same : P m
  pub goes_on : (k offset : ℕ) → IsHeld m.descriptors pid k → P (record m { descriptions = with_offset m.descriptions k offset })
  pub pipe : (k pipe : ℕ) (slot : Option PipeState) → IsHeld m.descriptors pid k → is_end m.descriptions pipe k ≡ true → P (record m { pipes = slice_set m.pipes pipe slot })
  pub file : (k node start end : ℕ) (bytes : List ℕ) (files : FileMap) → IsHeld m.descriptors pid k → is_file m.descriptions node k ≡ true → write_at m.files node start bytes ≡ Ok files → P (record m { files = files; descriptions = with_offset m.descriptions k end })
  pub closes : (closing : Closing) → P (after_close m pid closing)
  pub signals : (ps : List process.Process) (pids : List ℕ) → OnlyStatuses m.processes ps → sent ≡ true → P (with_processes m ps pids)
  pub numbers : (number k : ℕ) → IsHeld m.descriptors pid k → P (with_number m pid number k)
  pub renames : (name : DescriptorRef) (number : Option ℕ) → P (record m { descriptors = after_renaming m.descriptors pid name number })
  pub back : (k number : ℕ) → P (put_back m pid k number)
  pub forks : P (after_fork m pid)
  pub makes_pipe : (from to : ℕ) → P (with_number (with_number (with_pipe m) pid from (length m.descriptions)) pid to (length m.descriptions + 1))
  pub opens : (directory path : List ℕ) (how : Opening) (append : Bool) (number : ℕ) (o : ℕ × FileMap) → r ≡ Open directory path how append number → opened m.files directory path how ≡ Ok o → P (with_number (with_node m how append o.0 o.1) pid number (length m.descriptions))
  pub heres : (bytes : List ℕ) (number : ℕ) (o : ℕ × FileMap) → r ≡ Here bytes number → nameless m.files bytes ≡ Ok o → P (with_number (with_node m for_reading false o.0 o.1) pid number (length m.descriptions))

-- what lives hasn't ended
living : (ps : List process.Process) (pid : ℕ) → lives ps pid ≡ true → has_ended ps pid ≡ false
living ps pid h = of_process (process_at ps pid) h
  where
    of_status : (b : Bool) → b ≡ true → not b ≡ false
    of_status true h = refl
    of_status false h = absurd (cc)

    of_process : (o : Option process.Process) → option_map_or is_living o false ≡ true → is_ended o ≡ false
    of_process None h = refl
    of_process (Some p) h = of_status (is_living p) h

module _ (m : MachineState) (pid : ℕ) (sent : Bool) (r : Request) (P : MachineState → Type 0) (c : Changes m pid sent r P) where
  close_cases : (name : DescriptorRef) (o : Option ℕ) → P (close_found m pid name o).after
  close_cases name None = c.same
  close_cases name (Some k) = c.closes (Named name)

  dup_cases : (to : ℕ) (name : DescriptorRef) (o : Option ℕ) → description_number m.descriptors pid name ≡ o → P (dup_found m pid to o).after
  dup_cases to name None is = c.same
  dup_cases to name (Some k) is = of_tests (is_allowed to) (is_description k (description_number m.descriptors pid (Number to)))
    where
      of_tests : (a b : Bool) → P (cond a (success {A = Unit {0}} tt (cond b m (with_number m pid to k))) (refusal m TooManyDescriptors)).after
      of_tests true true = c.same
      of_tests true false = c.numbers to k (found_held m.descriptors pid name k is)
      of_tests false b = c.same

  pipe_cases : (from to : ℕ) (a b : Bool) → P (cond a (cond b (success {A = Unit {0}} tt (with_number (with_number (with_pipe m) pid from (length m.descriptions)) pid to (length m.descriptions + 1))) (refusal m TooManyDescriptors)) (refusal m NoProcess)).after
  pipe_cases from to true true = c.makes_pipe from to
  pipe_cases from to true false = c.same
  pipe_cases from to false b = c.same

  open_cases : (directory path : List ℕ) (how : Opening) (append : Bool) (number : ℕ) → r ≡ Open directory path how append number → (o : Result (ℕ × FileMap) FileFault) → opened m.files directory path how ≡ o → P (open_result m pid how append number o).after
  open_cases directory path how append number is (Err fault) e = c.same
  open_cases directory path how append number is (Ok o) e = c.opens directory path how append number o is e

  open_tests : (directory path : List ℕ) (how : Opening) (append : Bool) (number : ℕ) → r ≡ Open directory path how append number → (a b : Bool) → P (cond a (cond b (open_result m pid how append number (opened m.files directory path how)) (refusal m TooManyDescriptors)) (refusal m NoProcess)).after
  open_tests directory path how append number is true true = open_cases directory path how append number is (opened m.files directory path how) refl
  open_tests directory path how append number is true false = c.same
  open_tests directory path how append number is false b = c.same

  here_cases : (bytes : List ℕ) (number : ℕ) → r ≡ Here bytes number → (o : Result (ℕ × FileMap) FileFault) → nameless m.files bytes ≡ o → P (open_result m pid for_reading false number o).after
  here_cases bytes number is (Err fault) e = c.same
  here_cases bytes number is (Ok o) e = c.heres bytes number o is e

  here_tests : (bytes : List ℕ) (number : ℕ) → r ≡ Here bytes number → (a b : Bool) → P (cond a (cond b (open_result m pid for_reading false number (nameless m.files bytes)) (refusal m TooManyDescriptors)) (refusal m NoProcess)).after
  here_tests bytes number is true true = here_cases bytes number is (nameless m.files bytes) refl
  here_tests bytes number is true false = c.same
  here_tests bytes number is false b = c.same

  aside_cases : (number : ℕ) (o : Option ℕ) → P (aside_found m pid number o).after
  aside_cases number None = c.same
  aside_cases number (Some k) = c.renames (Number number) None

  back_cases : (k number : ℕ) (o : Option ℕ) → P (back_found m pid k number o).after
  back_cases k number None = c.same
  back_cases k number (Some j) =
      elim (is_allowed number) as (λ b. P (cond b (success {A = Unit {0}} tt (put_back m pid k number)) (refusal m TooManyDescriptors)).after) [ true ↦ c.back k number | false ↦ c.same ]

  fork_cases : (s : KernelState) (a b : Bool) → P (cond a (cond b (success (next_pid m.processes) (with_new_process (record s { machine = m }) pid)) (refusal (record s { machine = m }) TooManyProcesses)) (refusal (record s { machine = m }) NoProcess)).after.machine
  fork_cases s true true = c.forks
  fork_cases s true false = c.same
  fork_cases s false b = c.same

  start_cases : (s : KernelState) (a : Bool) → P (cond a (success {A = Unit {0}} tt (with_program (record s { machine = m }) pid)) (refusal (record s { machine = m }) NoProcess)).after.machine
  start_cases s true = c.closes Asides
  start_cases s false = c.same

  end_cases : (s : KernelState) (status : ℕ) → true ≡ sent → (a : Bool) → lives m.processes pid ≡ a → P (cond a (success {A = Unit {0}} tt (after_exit (record s { machine = m }) pid status)) (refusal (record s { machine = m }) NoProcess)).after.machine
  end_cases s status e true is =
      let t = table_of (record s { machine = m }) in c.signals (after_end t pid status).processes (pids_of s.members) (ends_change t pid status (living m.processes pid is)) (sym e)
  end_cases s status e false is = c.same

  signalled : (s : KernelState) (to : SignalTarget) (signal : Signal) → sent ≡ true → P (after_signal (record s { machine = m }) to signal).machine
  signalled s to signal e = let t = table_of (record s { machine = m }) in c.signals (after_send t to signal).processes (pids_of s.members) (signals_change t to signal) e

  kill_cases : (s : KernelState) (to : SignalTarget) (signal : Signal) → true ≡ sent → (a : Bool) → P (cond a (success {A = Unit {0}} tt (after_signal (record s { machine = m }) to signal)) (refusal (record s { machine = m }) NoProcess)).after.machine
  kill_cases s to signal e true = signalled s to signal (sym e)
  kill_cases s to signal e false = c.same

  reads : ReadChanges m pid P
  reads = record { same = c.same; goes_on = c.goes_on; pipe = c.pipe }

  writes : WriteChanges m pid P
  writes = record { same = c.same; file = c.file; pipe = c.pipe }

  terminal_read_cases : (s : KernelState) (count : ℕ) (o : Option (List ℕ)) → P (read_terminal (record s { machine = m }) count o).after.machine
  terminal_read_cases s count None = c.same
  terminal_read_cases s count (Some bytes) = c.same

  read_cases : (s : KernelState) (name : DescriptorRef) (count : ℕ) (a : Bool) (x : Access) → (a && is_raising x) ≡ sent
      → P (cond a (read_by (record s { machine = m }) count x) (on_machine (record s { machine = m }) (reading.read_call m pid name count))).after.machine
  read_cases s name count true Granted e = terminal_read_cases s count (read_of count (entries_of s.terminal))
  read_cases s name count true (Raises group) e = signalled s (target.Group group) TerminalInput (sym e)
  read_cases s name count true Refused e = c.same
  read_cases s name count false x e = read_by_cases m pid P name count reads

  write_cases : (s : KernelState) (number : ℕ) (bytes : List ℕ) (a b : Bool)
      → is_broken (cond a (write_terminal (record s { machine = m }) bytes) (cond b (broken_pipe (record s { machine = m }) pid) (on_machine (record s { machine = m }) (writing.write_call m pid number bytes)))).answer ≡ sent
      → P (cond a (write_terminal (record s { machine = m }) bytes) (cond b (broken_pipe (record s { machine = m }) pid) (on_machine (record s { machine = m }) (writing.write_call m pid number bytes)))).after.machine
  write_cases s number bytes true b e = c.same
  write_cases s number bytes false true e = signalled s (target.Process pid) Pipe (sym e)
  write_cases s number bytes false false e = write_by_cases m pid P number bytes writes

  pub machine_by_cases : (r' : Request) → r ≡ r' → (s : KernelState) → sends (record s { machine = m }) pid r' ≡ sent → P (after_request (record s { machine = m }) pid r').machine
  machine_by_cases (Read name count) is s e = read_cases s name count (reads_terminal m pid name) (access (record s { machine = m }) pid) e
  machine_by_cases (Write number bytes) is s e = write_cases s number bytes (writes_terminal m pid (Number number)) (is_broken (writing.write_call m pid number bytes).answer) e
  machine_by_cases (Close name) is s e = close_cases name (description_number m.descriptors pid name)
  machine_by_cases (Duplicate name to) is s e = dup_cases to name (description_number m.descriptors pid name) refl
  machine_by_cases (MakePipe from to) is s e = pipe_cases from to (lives m.processes pid) (is_allowed from && is_allowed to)
  machine_by_cases (Open directory path how append number) is s e = open_tests directory path how append number is (lives m.processes pid) (is_allowed number)
  machine_by_cases (Here bytes number) is s e = here_tests bytes number is (lives m.processes pid) (is_allowed number)
  machine_by_cases (SetAside number) is s e = aside_cases number (description_number m.descriptors pid (Number number))
  machine_by_cases (PutBack aside number) is s e = back_cases aside number (description_number m.descriptors pid (Aside aside))
  machine_by_cases Fork is s e = fork_cases s (lives m.processes pid) (may_fork m.processes)
  machine_by_cases StartProgram is s e = start_cases s (lives m.processes pid)
  machine_by_cases (End status) is s e = end_cases s status e (lives m.processes pid) refl
  machine_by_cases (Kill to signal) is s e = kill_cases s to signal e (list_any (reaches to) s.members)
  machine_by_cases (SetAction signal action) is s e = c.same
  machine_by_cases TakeSignal is s e = c.same
  machine_by_cases (SetGroup member group) is s e = c.same
  machine_by_cases (SetForeground group) is s e = c.same

-- what holds of each change holds after each request
pub by_cases : (s : KernelState) (pid : ℕ) (r : Request) (P : MachineState → Type 0) → Changes s.machine pid (sends s pid r) r P → P (after_request s pid r).machine
by_cases s pid r P c = machine_by_cases s.machine pid (sends s pid r) r P c r refl s refl
