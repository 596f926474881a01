-- The terminal has part in a request only where the process reaches it.
use Rattle.std.proofs.Common.{List, sym, ◌≡◌, ℕ, Bool, false, cond, ◌&&◌, Option, Some, None, slice_get, refl, ap, option_and_then, [], ◌++◌, append-nil, true, ◌∙◌}
use Rattle.std.specs.List.{list_any}
use Rattle.std.specs.Option.{option_map_or}
use Rattle.sh_kernel_descriptors.specs.Descriptors.{description_number}
use Rattle.sh_kernel_descriptors.specs.Machine.{MachineState}
use Rattle.sh_kernel_descriptors.specs.Terminals.{is_of_terminal, reads_terminal, writes_terminal}
use Rattle.sh_kernel_descriptors.specs.declared.descriptor.DescriptorRef.{DescriptorRef}
use Rattle.sh_kernel_descriptors.specs.declared.descriptor.DescriptorRef.TheVariants.{Number}
use Rattle.sh_kernel_descriptors.specs.declared.description.Description.{Description}
use Rattle.sh_kernel_descriptors.specs.Reading as reading
use Rattle.sh_kernel_descriptors.specs.Writing as writing
use Rattle.sh_tty.specs.Happenings as tty
use Rattle.sh_tty.proofs.Showing.{key_shows}
use Rattle.sh_tty.specs.Happenings.{Happening, bytes_of, entries_of, line_of}
use Rattle.sh_tty.specs.Keys.{echo, key_of, read_of, signal_of}
use Rattle.sh_signal.specs.declared.signal.Signal.{Signal}
use Rattle.sh_kernel_descriptors.specs.Outcomes.{refusal, success}
use Rattle.sh_kernel_processes.specs.Processes.{lives, may_fork, next_pid}
use Rattle.sh_kernel_descriptors.specs.declared.fault.KernelFault.TheVariants.{NoProcess, TooManyProcesses}
use Rattle.sh_kernel_processes.specs.Sending.{reaches as reached}
use Rattle.sh_kernel.specs.declared.access.Access.{Access}
use Rattle.sh_kernel.specs.declared.access.Access.TheVariants.{Granted, Raises, Refused}
use Rattle.sh_kernel.specs.Calls.{access, after_raising, broken_pipe, is_broken, on_machine, read_by, read_terminal, with_new_process, with_program, write_machine, write_terminal}
use Rattle.sh_kernel.specs.Signals.{after_exit, after_signal}
use Rattle.sh_kernel.specs.Laws.{KeysOnlyGrowTheTerminal, TerminalIsReached, TerminalOnlyGrows}
use Rattle.sh_kernel.specs.Reaching.{is_screen, reaches}
use Rattle.sh_kernel.specs.Requests.{Read, Write, Close, Duplicate, MakePipe, Open, Here, SetAside, PutBack, Fork, StartProgram, End, Kill, SetAction, TakeSignal, SetGroup, SetForeground}
use Rattle.sh_kernel.specs.State.{KernelState}
use Rattle.sh_kernel.proofs.Cases.{found_held}

fails_here : (m : MachineState) (pid : ℕ) (name : DescriptorRef) (allowed : Description → Bool) → reaches m.descriptors pid (is_screen m.descriptions) ≡ false → (o : Option ℕ) → description_number m.descriptors pid name ≡ o → option_map_or (λ (e : Description). is_of_terminal e && allowed e) (option_and_then (λ k. slice_get m.descriptions k) o) false ≡ false
fails_here m pid name allowed h None is = refl
fails_here m pid name allowed h (Some k) is = of_entry (slice_get m.descriptions k) ((found_held m.descriptors pid name k is).fails (is_screen m.descriptions) h)
  where
    of_entry : (o : Option Description) → option_map_or is_of_terminal o false ≡ false → option_map_or (λ (e : Description). is_of_terminal e && allowed e) o false ≡ false
    of_entry None t = refl
    of_entry (Some e) t = ap (λ (b : Bool). b && allowed e) t

machine_stays : (s : KernelState) (pid number : ℕ) (bytes : List ℕ) (b : Bool) → (cond b (broken_pipe s pid) (on_machine s (writing.write_call s.machine pid number bytes))).after.terminal ≡ s.terminal
machine_stays s pid number bytes true = refl
machine_stays s pid number bytes false = refl

fork_stays : (s : KernelState) (pid : ℕ) (a b : Bool) → (cond a (cond b (success (next_pid s.machine.processes) (with_new_process s pid)) (refusal s TooManyProcesses)) (refusal s NoProcess)).after.terminal ≡ s.terminal
fork_stays s pid true true = refl
fork_stays s pid true false = refl
fork_stays s pid false b = refl

success_stays : (s t : KernelState) → t.terminal ≡ s.terminal → (b : Bool) → (cond b (success {A = Unit {0}} tt t) (refusal s NoProcess)).after.terminal ≡ s.terminal
success_stays s t h true = h
success_stays s t h false = refl

pub terminal_stays : TerminalIsReached
terminal_stays s pid (Read name count) h =
    let m = s.machine in
    let off : reads_terminal m pid name ≡ false = fails_here m pid name (λ e. e.readable) h (description_number m.descriptors pid name) refl in
    ap (λ (b : Bool). (cond b (read_by s count (access s pid)) (on_machine s (reading.read_call m pid name count))).after.terminal) off
terminal_stays s pid (Write number bytes) h =
    let m = s.machine in
    let off : writes_terminal m pid (Number number) ≡ false = fails_here m pid (Number number) (λ e. e.writable) h (description_number m.descriptors pid (Number number)) refl in
    ap (λ (b : Bool). (cond b (write_terminal s bytes) (write_machine s pid (writing.write_call m pid number bytes))).after.terminal) off
    ∙ machine_stays s pid number bytes (is_broken (writing.write_call m pid number bytes).answer)
terminal_stays s pid (Close name) h = refl
terminal_stays s pid (Duplicate name to) h = refl
terminal_stays s pid (MakePipe from to) h = refl
terminal_stays s pid (Open directory path how append number) h = refl
terminal_stays s pid (Here bytes number) h = refl
terminal_stays s pid (SetAside number) h = refl
terminal_stays s pid (PutBack aside number) h = refl
terminal_stays s pid Fork h = fork_stays s pid (lives s.machine.processes pid) (may_fork s.machine.processes)
terminal_stays s pid StartProgram h = success_stays s (with_program s pid) refl (lives s.machine.processes pid)
terminal_stays s pid (End status) h = success_stays s (after_exit s pid status) refl (lives s.machine.processes pid)
terminal_stays s pid (Kill to signal) h = success_stays s (after_signal s to signal) refl (list_any (reached to) s.members)
terminal_stays s pid (SetAction signal action) h = refl
terminal_stays s pid TakeSignal h = refl
terminal_stays s pid (SetGroup member group) h = refl
terminal_stays s pid (SetForeground group) h = refl

-- ---- what it shows
shows_same : (s : KernelState) (hs : List Happening) → hs ≡ s.terminal → (more : List ℕ) × (bytes_of hs ≡ bytes_of s.terminal ++ more)
shows_same s hs h = ([], ap (λ (xs : List Happening). bytes_of xs) h ∙ sym (append-nil _))

read_shows : (s : KernelState) (count : ℕ) (o : Option (List ℕ)) → bytes_of (read_terminal s count o).after.terminal ≡ bytes_of s.terminal ++ []
read_shows s count None = sym (append-nil _)
read_shows s count (Some bytes) = sym (append-nil _)

access_shows : (s : KernelState) (count : ℕ) (x : Access) → bytes_of (read_by s count x).after.terminal ≡ bytes_of s.terminal ++ []
access_shows s count Granted = read_shows s count (read_of count (entries_of s.terminal))
access_shows s count (Raises group) = sym (append-nil _)
access_shows s count Refused = sym (append-nil _)

pub terminal_grows : TerminalOnlyGrows
terminal_grows s pid (Read name count) = (
  [],
  elim (reads_terminal s.machine pid name) as (λ b. bytes_of (cond b (read_by s count (access s pid)) (on_machine s (reading.read_call s.machine pid name count))).after.terminal ≡ bytes_of s.terminal ++ []) [
    | true ↦ access_shows s count (access s pid)
    | false ↦ sym (append-nil _)
  ],
)
terminal_grows s pid (Write number bytes) =
    elim (writes_terminal s.machine pid (Number number)) as (λ b. (more : List ℕ) × (bytes_of (cond b (write_terminal s bytes) (write_machine s pid (writing.write_call s.machine pid number bytes))).after.terminal ≡ bytes_of s.terminal ++ more)) [
      | true ↦ (bytes, refl)
      | false ↦ shows_same s _ (machine_stays s pid number bytes (is_broken (writing.write_call s.machine pid number bytes).answer))
    ]
terminal_grows s pid (Close name) = ([], sym (append-nil _))
terminal_grows s pid (Duplicate name to) = ([], sym (append-nil _))
terminal_grows s pid (MakePipe from to) = ([], sym (append-nil _))
terminal_grows s pid (Open directory path how append number) = ([], sym (append-nil _))
terminal_grows s pid (Here bytes number) = ([], sym (append-nil _))
terminal_grows s pid (SetAside number) = ([], sym (append-nil _))
terminal_grows s pid (PutBack aside number) = ([], sym (append-nil _))
terminal_grows s pid Fork = shows_same s _ (fork_stays s pid (lives s.machine.processes pid) (may_fork s.machine.processes))
terminal_grows s pid StartProgram = shows_same s _ (success_stays s (with_program s pid) refl (lives s.machine.processes pid))
terminal_grows s pid (End status) = shows_same s _ (success_stays s (after_exit s pid status) refl (lives s.machine.processes pid))
terminal_grows s pid (Kill to signal) = shows_same s _ (success_stays s (after_signal s to signal) refl (list_any (reached to) s.members))
terminal_grows s pid (SetAction signal action) = ([], sym (append-nil _))
terminal_grows s pid TakeSignal = ([], sym (append-nil _))
terminal_grows s pid (SetGroup member group) = ([], sym (append-nil _))
terminal_grows s pid (SetForeground group) = ([], sym (append-nil _))

-- ---- a key
raising_stays : (s : KernelState) (raised : Option Signal) → (after_raising s raised).terminal ≡ s.terminal
raising_stays s None = refl
raising_stays s (Some signal) = refl

pub keys_show : KeysOnlyGrowTheTerminal
keys_show s byte =
    let typed = record s { terminal = tty.after_key byte s.terminal } in (
      echo (key_of byte) (line_of s.terminal),
      ap (λ (hs : List Happening). bytes_of hs) (raising_stays typed (signal_of (key_of byte))) ∙ key_shows byte s.terminal,
    )
