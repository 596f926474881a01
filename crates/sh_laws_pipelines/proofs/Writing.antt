-- Writes of processes that run stages.
use Rattle.std.proofs.Common.{◌≡◌, ℕ, ◌≤◌, ◌<◌, ◌&&◌, List, [], ◌∷◌, ◌++◌, length, take, Bool, true, false, cond, nat_lt, Option, Some, Err, slice_get, refl, sym, ap, ◌∙◌, subst, append-nil, ltb-false, ltb-true, take_all, option_and_then}
use Rattle.std.specs.Option.{option_map_or}
use Rattle.sh_exec_machine.specs.Transfers.{Giving, give_bytes, given_by}
use Rattle.sh_exec_machine.specs.declared.transfer.WriteOutcome.TheVariants as given
use Rattle.sh_files.specs.Nodes.{is_empty}
use Rattle.sh_kernel.specs.Calls.{write_call, write_machine, write_terminal}
use Rattle.sh_kernel.specs.State.{KernelState}
use Rattle.sh_kernel_descriptors.specs.Closings.{Pipes}
use Rattle.sh_kernel_descriptors.specs.Machine.{MachineState}
use Rattle.sh_kernel_descriptors.specs.Outcomes.{Done, refusal, success}
use Rattle.sh_kernel_descriptors.specs.Reading.{at_place, on_pipes}
use Rattle.sh_kernel_descriptors.specs.Terminals.{is_terminal_target, writes_it}
use Rattle.sh_kernel_descriptors.specs.Writing.{write_described, write_found, write_pipe, write_pipe_of, write_slot, write_target}
use Rattle.sh_kernel_descriptors.specs.declared.description.Description.{Description}
use Rattle.sh_kernel_descriptors.specs.declared.description.Target.{Target}
use Rattle.sh_kernel_descriptors.specs.declared.description.Target.TheVariants.{WriteEnd}
use Rattle.sh_kernel_descriptors.specs.declared.fault.KernelFault.TheVariants.{BadDescriptor, BrokenPipe}
use Rattle.sh_pipe.specs.Pipe.{PipeState, write_result}
use Rattle.sh_pipe.specs.declared.PipeFault.TheVariants as fault
use Rattle.sh_laws_pipelines.proofs.Slots.{Go, MustWait, SlotWrite, set_same, slot_write}
use Rattle.sh_laws_pipelines.specs.Joined.{Opened, WritesPipe, with_pipe}

-- a write by a descriptor whose description is known
pub write_opened : (s : KernelState) (pid number : ℕ) (bytes : List ℕ) (target : Target) (o : Opened s.machine pid number target)
    → write_call s pid number bytes
    ≡ cond (is_terminal_target target && o.description.writable) (write_terminal s bytes)
    (write_machine s pid (cond o.description.writable (cond (is_empty bytes) (success 0 s.machine) (write_target s.machine bytes o.place o.description target)) (refusal s.machine BadDescriptor)))
write_opened s pid number bytes target o =
    ap (λ (k : Option ℕ). cond (option_map_or writes_it (option_and_then (λ j. slice_get s.machine.descriptions j) k) false) (write_terminal s bytes) (write_machine s pid (write_found s.machine bytes k))) o.refers
    ∙ ap (λ (e : Option Description). cond (option_map_or writes_it e false) (write_terminal s bytes) (write_machine s pid (write_described s.machine bytes o.place e))) o.described
    ∙ ap (λ (t : Target). cond (is_terminal_target t && o.description.writable) (write_terminal s bytes)
    (write_machine s pid (cond o.description.writable (cond (is_empty bytes) (success 0 s.machine) (write_target s.machine bytes o.place o.description t)) (refusal s.machine BadDescriptor)))) o.leads

-- ---- to a pipe
abbrev pub pipe_done : MachineState → (pipe : ℕ) → Done (Option PipeState) ℕ → Done MachineState ℕ
pipe_done m pipe d = on_pipes m (at_place m.pipes pipe d)

abbrev with_pipes : KernelState → Pipes → KernelState
with_pipes s pipes = record s { machine = record s.machine { pipes = pipes } }

abbrev pub giving : ℕ → Done KernelState ℕ → Giving
giving total d = record { told = given_by total d.answer; after = d.after }

pub pipe_call : (s : KernelState) (pid pipe : ℕ) (state : PipeState) (byte : ℕ) (bytes : List ℕ) (w : WritesPipe s.machine pid pipe state)
    → write_call s pid 1 (byte ∷ bytes) ≡ write_machine s pid (pipe_done s.machine pipe (write_slot (byte ∷ bytes) (Some state)))
pipe_call s pid pipe state byte bytes w =
    let e = w.opened.description in
    write_opened s pid 1 (byte ∷ bytes) (WriteEnd pipe) w.opened
    ∙ ap (λ (writable : Bool). write_machine s pid (cond writable (write_target s.machine (byte ∷ bytes) w.opened.place e (WriteEnd pipe)) (refusal s.machine BadDescriptor))) w.writable
    ∙ ap (λ (reader : Bool). write_machine s pid (cond reader (on_pipes s.machine (write_pipe s.machine.pipes pipe (byte ∷ bytes))) (refusal s.machine BrokenPipe))) w.reader
    ∙ ap (λ (slot : Option (Option PipeState)). write_machine s pid (on_pipes s.machine (write_pipe_of s.machine.pipes pipe (byte ∷ bytes) slot))) w.slot

-- it waits, or some of the bytes go, or all
pub data PipeGiven (s : KernelState) (pipe : ℕ) (state : PipeState) (bytes : List ℕ) (g : Giving) : Type 0 where
  StaysFull : write_result state bytes true ≡ Err fault.WouldWait → g ≡ record { told = given.Wait; after = s } → PipeGiven s pipe state bytes g
  GaveSome : (count : ℕ) → count < length bytes → g ≡ record { told = given.Part count; after = with_pipe s pipe (record state { bytes = state.bytes ++ take count bytes }) } → PipeGiven s pipe state bytes g
  GaveAll : g ≡ record { told = given.Whole; after = with_pipe s pipe (record state { bytes = state.bytes ++ bytes }) } → PipeGiven s pipe state bytes g

by_count : (s : KernelState) (pipe : ℕ) (state : PipeState) (bytes : List ℕ) (count : ℕ) (less : Bool) → count ≤ length bytes → nat_lt count (length bytes) ≡ less
    → PipeGiven s pipe state bytes (record { told = cond less (given.Part count) given.Whole; after = with_pipe s pipe (record state { bytes = state.bytes ++ take count bytes }) })
by_count s pipe state bytes count true most h = GaveSome count (ltb-true count (length bytes) h) refl
by_count s pipe state bytes count false most h =
    GaveAll (ap (λ (bs : List ℕ). let g : Giving = record { told = given.Whole; after = with_pipe s pipe (record state { bytes = state.bytes ++ bs }) } in g) (take_all count bytes (ltb-false count (length bytes) h)))

of_slot : (s : KernelState) (pid pipe : ℕ) (state : PipeState) (bytes : List ℕ) (d : Done (Option PipeState) ℕ) → slice_get s.machine.pipes pipe ≡ Some (Some state) → SlotWrite state bytes d
    → PipeGiven s pipe state bytes (giving (length bytes) (write_machine s pid (pipe_done s.machine pipe d)))
of_slot s pid pipe state bytes d slot (MustWait full h) =
    StaysFull full (ap (λ (e : Done (Option PipeState) ℕ). giving (length bytes) (write_machine s pid (pipe_done s.machine pipe e))) h
    ∙ ap (λ (pipes : Pipes). let g : Giving = record { told = given.Wait; after = with_pipes s pipes } in g) (set_same s.machine.pipes pipe (Some state) slot))
of_slot s pid pipe state bytes d slot (Go count most h) =
    subst (λ (g : Giving). PipeGiven s pipe state bytes g) (sym (ap (λ (e : Done (Option PipeState) ℕ). giving (length bytes) (write_machine s pid (pipe_done s.machine pipe e))) h))
    (by_count s pipe state bytes count (nat_lt count (length bytes)) most refl)

nothing : (s : KernelState) (pid pipe : ℕ) (state : PipeState) (w : WritesPipe s.machine pid pipe state) → write_call s pid 1 [] ≡ success 0 s
nothing s pid pipe state w =
    write_opened s pid 1 [] (WriteEnd pipe) w.opened
    ∙ ap (λ (writable : Bool). write_machine s pid (cond writable (success 0 s.machine) (refusal s.machine BadDescriptor))) w.writable

pub pipe_given : (s : KernelState) (pid pipe : ℕ) (state : PipeState) (bytes : List ℕ) (w : WritesPipe s.machine pid pipe state) → PipeGiven s pipe state bytes (give_bytes s pid 1 bytes)
unfolding give_bytes
pipe_given s pid pipe state [] w =
    GaveAll (ap (λ (d : Done KernelState ℕ). giving 0 d) (nothing s pid pipe state w)
    ∙ (ap (λ (pipes : Pipes). let g : Giving = record { told = given.Whole; after = with_pipes s pipes } in g) (sym (set_same s.machine.pipes pipe (Some state) w.slot))
    ∙ ap (λ (bs : List ℕ). let g : Giving = record { told = given.Whole; after = with_pipe s pipe (record state { bytes = bs }) } in g) (sym (append-nil state.bytes))))
pipe_given s pid pipe state (byte ∷ bytes) w =
    subst (λ (d : Done KernelState ℕ). PipeGiven s pipe state (byte ∷ bytes) (giving (length (byte ∷ bytes)) d)) (sym (pipe_call s pid pipe state byte bytes w))
    (of_slot s pid pipe state (byte ∷ bytes) (write_slot (byte ∷ bytes) (Some state)) w.slot (slot_write state (byte ∷ bytes)))
