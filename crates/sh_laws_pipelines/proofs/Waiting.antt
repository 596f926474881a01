-- Processes that run stages, and can't take their turns.
use Rattle.std.proofs.Common.{◌≡◌, ℕ, suc, ◌-◌, ◌&&◌, ◌==◌, min, List, [], ◌∷◌, ◌++◌, length, take, replicate, Bool, true, false, cond, not, Option, Some, Result, Ok, Err, slice_get, refl, sym, ap, ◌∙◌, le-leb, zero-le, option_and_then}
use Rattle.std.proofs.lemmas.List.{length-replicate}
use Rattle.std.specs.Option.{option_map_or}
use Rattle.sh_exec.specs.Actions.{action_of}
use Rattle.sh_exec.specs.declared.task.Task.TheVariants.{Asks}
use Rattle.sh_kernel.specs.Access.{is_raising}
use Rattle.sh_kernel.specs.Calls.{access, raises_input, read_call, write_call, write_machine}
use Rattle.sh_kernel.specs.State.{KernelState}
use Rattle.sh_kernel.specs.Turns.{can_do}
use Rattle.sh_kernel_descriptors.specs.Descriptors.{has_writer}
use Rattle.sh_kernel_descriptors.specs.Outcomes.{Done}
use Rattle.sh_kernel_descriptors.specs.Reading.{pipe_bytes}
use Rattle.sh_kernel_descriptors.specs.Terminals.{is_terminal_target, reads_it}
use Rattle.sh_kernel_descriptors.specs.Waiting.{waits}
use Rattle.sh_kernel_descriptors.specs.Writing.{pipe_count}
use Rattle.sh_kernel_descriptors.specs.declared.descriptor.DescriptorRef.TheVariants.{Number}
use Rattle.sh_kernel_descriptors.specs.declared.description.Description.{Description}
use Rattle.sh_kernel_descriptors.specs.declared.description.Target.{Target}
use Rattle.sh_kernel_processes.specs.Processes.{is_running, status_at}
use Rattle.sh_pipe.specs.Pipe.{PipeState, count_of, write_count, write_result}
use Rattle.sh_pipe.specs.declared.PipeFault.{PipeFault}
use Rattle.sh_pipe.specs.declared.PipeFault.TheVariants as fault
use Rattle.sh_laws_pipelines.proofs.Reading as reading
use Rattle.sh_laws_pipelines.proofs.Writing as writing
use Rattle.sh_laws_pipelines.specs.Joined.{ReadsPipe, WritesPipe}
use Rattle.sh_stock.specs.declared.asking.Ask.TheVariants.{Read, Write}

no_turn : (running : Bool) (waiting : Bool) → waiting ≡ true → (running && not waiting) ≡ false
no_turn true waiting h = ap not h
no_turn false waiting h = refl

-- a pipe is no terminal
quiet : (s : KernelState) (pid : ℕ) (given : List ℕ) (all : Bool) (read : List ℕ) (r : ReadsPipe s.machine pid given all read) → raises_input s pid (Number 0) ≡ false
quiet s pid given all read r =
    ap (λ (k : Option ℕ). option_map_or reads_it (option_and_then (λ j. slice_get s.machine.descriptions j) k) false && is_raising (access s pid)) r.opened.refers
    ∙ ap (λ (e : Option Description). option_map_or reads_it e false && is_raising (access s pid)) r.opened.described
    ∙ ap (λ (t : Target). (is_terminal_target t && r.opened.description.readable) && is_raising (access s pid)) r.opened.leads

empty_waits : (s : KernelState) (pid : ℕ) (given : List ℕ) (all : Bool) (read : List ℕ) (r : ReadsPipe s.machine pid given all read) → r.state.bytes ≡ [] → has_writer s.machine.descriptors s.machine.descriptions r.pipe ≡ true → waits (read_call s pid (Number 0) 1).answer ≡ true
empty_waits s pid given all read r empty written_to =
    let writer = has_writer s.machine.descriptors s.machine.descriptions r.pipe in
    ap (λ (d : Done KernelState (List ℕ)). waits d.answer) (reading.pipe_call s pid 1 given all read r)
    ∙ ap (λ (bytes : List ℕ). waits (pipe_bytes r.state (cond (length bytes == 0) (cond writer (Err fault.WouldWait) (Ok 0)) (Ok (min 1 (length bytes)))))) empty
    ∙ ap (λ (w : Bool). waits (pipe_bytes r.state (cond w (Err fault.WouldWait) (Ok 0)))) written_to

pub reads_wait : {S : Type 0} (s : KernelState) (pid count : ℕ) (program : S) (given : List ℕ) (all : Bool) (read : List ℕ) (r : ReadsPipe s.machine pid given all read) → r.state.bytes ≡ [] → has_writer s.machine.descriptors s.machine.descriptions r.pipe ≡ true
    → can_do s pid (action_of s (Asks pid (Read count) program)) ≡ false
unfolding can_do
reads_wait s pid count program given all read r empty written_to =
    no_turn (is_running (status_at s.machine.processes pid)) (waits (read_call s pid (Number 0) 1).answer && not (raises_input s pid (Number 0)))
    (ap (λ (b : Bool). b && not (raises_input s pid (Number 0))) (empty_waits s pid given all read r empty written_to) ∙ ap not (quiet s pid given all read r))

-- whether a write finds room is a matter of how many bytes it has
full_waits : (s : KernelState) (pid pipe : ℕ) (state : PipeState) (count : ℕ) → WritesPipe s.machine pid pipe state → write_count (suc count) (state.capacity - length state.bytes) ≡ Err fault.WouldWait → waits (write_call s pid 1 (0 ∷ replicate count 0)).answer ≡ true
full_waits s pid pipe state count w full =
    let bytes = 0 ∷ replicate {A = ℕ} count 0 in
    let same : write_result state bytes true ≡ Err fault.WouldWait = ap (λ (n : ℕ). write_count (suc n) (state.capacity - length state.bytes)) (length-replicate {A = ℕ} count 0) ∙ full in
    ap (λ (d : Done KernelState ℕ). waits d.answer) (writing.pipe_call s pid pipe state 0 (replicate {A = ℕ} count 0) w)
    ∙ ap (λ (r : Result ℕ PipeFault). let d : Done (Option PipeState) ℕ = record { answer = pipe_count r; after = Some (record state { bytes = state.bytes ++ take (count_of r) bytes }) } in
    waits (write_machine s pid (writing.pipe_done s.machine pipe d)).answer) same

pub writes_wait : {S : Type 0} (s : KernelState) (pid pipe : ℕ) (state : PipeState) (rest : List ℕ) (program : S) → WritesPipe s.machine pid pipe state → write_result state rest true ≡ Err fault.WouldWait → can_do s pid (action_of s (Asks pid (Write rest) program)) ≡ false
unfolding can_do
writes_wait s pid pipe state [] program w full =
    let fits : write_result state [] true ≡ Ok 0 = ap (λ (b : Bool). cond b (Ok 0) (Err fault.WouldWait)) (le-leb 0 (state.capacity - length state.bytes) zero-le) in
    let both : Ok 0 ≡ Err fault.WouldWait = sym fits ∙ full in absurd (cc)
writes_wait s pid pipe state (byte ∷ rest) program w full =
    no_turn (is_running (status_at s.machine.processes pid)) (waits (write_call s pid 1 (replicate (length (byte ∷ rest)) 0)).answer) (full_waits s pid pipe state (length rest) w full)
