-- Reads of processes that run stages.
use Rattle.std.proofs.Common.{◌≡◌, ℕ, ◌≤◌, ◌+◌, ◌&&◌, List, [], ◌∷◌, ◌++◌, length, take, drop, Bool, true, false, cond, Option, Some, slice_get, sym, ap, ◌∙◌, subst, option_and_then}
use Rattle.std.specs.Option.{option_map_or}
use Rattle.sh_exec_machine.specs.Transfers.{Taking, take_bytes, taken_by}
use Rattle.sh_exec_machine.specs.declared.transfer.ReadOutcome.TheVariants as taken
use Rattle.sh_kernel.specs.Calls.{access, on_machine, read_by, read_call}
use Rattle.sh_kernel.specs.State.{KernelState}
use Rattle.sh_kernel_descriptors.specs.Closings.{Pipes}
use Rattle.sh_kernel_descriptors.specs.Descriptors.{has_writer}
use Rattle.sh_kernel_descriptors.specs.Outcomes.{Done, refusal}
use Rattle.sh_kernel_descriptors.specs.Reading.{at_place, content_read, moved_of, on_descriptions, on_pipes, read_described, read_found, read_pipe_of, read_slot, read_target}
use Rattle.sh_kernel_descriptors.specs.Terminals.{is_terminal_target, reads_it}
use Rattle.sh_kernel_descriptors.specs.declared.descriptor.DescriptorRef.TheVariants.{Number}
use Rattle.sh_kernel_descriptors.specs.declared.description.Description.{Description}
use Rattle.sh_kernel_descriptors.specs.declared.description.Target.{Target}
use Rattle.sh_kernel_descriptors.specs.declared.description.Target.TheVariants.{File, ReadEnd}
use Rattle.sh_kernel_descriptors.specs.declared.fault.KernelFault.TheVariants.{BadDescriptor}
use Rattle.sh_files.specs.Nodes.{content_of}
use Rattle.sh_files_image.specs.declared.node.Node.{Node}
use Rattle.sh_files_image.specs.declared.node.Node.TheVariants as node
use Rattle.sh_pipe.specs.Pipe.{PipeState}
use Rattle.sh_laws_pipelines.proofs.Slots.{IsAtEnd, SlotRead, Takes, Waits, set_same, slot_read}
use Rattle.sh_laws_pipelines.specs.Joined.{Opened, ReadsFile, ReadsPipe, with_offset, with_pipe}

-- a read by a descriptor whose description is known
read_opened : (s : KernelState) (pid number count : ℕ) (target : Target) (o : Opened s.machine pid number target)
    → read_call s pid (Number number) count
    ≡ cond (is_terminal_target target && o.description.readable) (read_by s count (access s pid)) (on_machine s (cond o.description.readable (read_target s.machine count o.place o.description.offset target) (refusal s.machine BadDescriptor)))
read_opened s pid number count target o =
    ap (λ (k : Option ℕ). cond (option_map_or reads_it (option_and_then (λ j. slice_get s.machine.descriptions j) k) false) (read_by s count (access s pid)) (on_machine s (read_found s.machine count k))) o.refers
    ∙ ap (λ (e : Option Description). cond (option_map_or reads_it e false) (read_by s count (access s pid)) (on_machine s (read_described s.machine count o.place e))) o.described
    ∙ ap (λ (t : Target). cond (is_terminal_target t && o.description.readable) (read_by s count (access s pid)) (on_machine s (cond o.description.readable (read_target s.machine count o.place o.description.offset t) (refusal s.machine BadDescriptor)))) o.leads

-- ---- from a pipe
abbrev pipe_done : KernelState → (pipe : ℕ) → Done (Option PipeState) (List ℕ) → Done KernelState (List ℕ)
pipe_done s pipe d = on_machine s (on_pipes s.machine (at_place s.machine.pipes pipe d))

pub pipe_call : (s : KernelState) (pid count : ℕ) (given : List ℕ) (all : Bool) (read : List ℕ) (r : ReadsPipe s.machine pid given all read)
    → read_call s pid (Number 0) count ≡ pipe_done s r.pipe (read_slot (has_writer s.machine.descriptors s.machine.descriptions r.pipe) count (Some r.state))
pipe_call s pid count given all read r =
    let e = r.opened.description in
    let writer = has_writer s.machine.descriptors s.machine.descriptions r.pipe in
    read_opened s pid 0 count (ReadEnd r.pipe) r.opened
    ∙ ap (λ (readable : Bool). on_machine s (cond readable (read_target s.machine count r.opened.place e.offset (ReadEnd r.pipe)) (refusal s.machine BadDescriptor))) r.readable
    ∙ ap (λ (slot : Option (Option PipeState)). on_machine s (on_pipes s.machine (read_pipe_of s.machine.pipes r.pipe writer count slot))) r.slot

-- it waits, comes to the end of file, or takes some of what is in the pipe
pub data PipeTaken (s : KernelState) (pipe : ℕ) (state : PipeState) (writer : Bool) (count : ℕ) (t : Taking) : Type 0 where
  StaysEmpty : state.bytes ≡ [] → writer ≡ true → t ≡ record { told = taken.Wait; after = s } → PipeTaken s pipe state writer count t
  Ended : state.bytes ≡ [] → writer ≡ false → t ≡ record { told = taken.Bytes []; after = s } → PipeTaken s pipe state writer count t
  TookSome : (byte : ℕ) (others rest : List ℕ) → (byte ∷ others) ++ rest ≡ state.bytes → length (byte ∷ others) ≤ count → t ≡ record { told = taken.Bytes (byte ∷ others); after = with_pipe s pipe (record state { bytes = rest }) }
      → PipeTaken s pipe state writer count t

abbrev taking : Done KernelState (List ℕ) → Taking
taking d = record { told = taken_by d.answer; after = d.after }

abbrev with_pipes : KernelState → Pipes → KernelState
with_pipes s pipes = record s { machine = record s.machine { pipes = pipes } }

of_slot : (s : KernelState) (pipe : ℕ) (state : PipeState) (writer : Bool) (count : ℕ) (d : Done (Option PipeState) (List ℕ)) → slice_get s.machine.pipes pipe ≡ Some (Some state)
    → SlotRead state writer count d → PipeTaken s pipe state writer count (taking (pipe_done s pipe d))
of_slot s pipe state writer count d slot (Waits none written_to h) =
    StaysEmpty none written_to (ap (λ (e : Done (Option PipeState) (List ℕ)). taking (pipe_done s pipe e)) h
    ∙ ap (λ (pipes : Pipes). let t : Taking = record { told = taken.Wait; after = with_pipes s pipes } in t) (set_same s.machine.pipes pipe (Some state) slot))
of_slot s pipe state writer count d slot (IsAtEnd none end h) =
    Ended none end (ap (λ (e : Done (Option PipeState) (List ℕ)). taking (pipe_done s pipe e)) h
    ∙ ap (λ (pipes : Pipes). let t : Taking = record { told = taken.Bytes []; after = with_pipes s pipes } in t) (set_same s.machine.pipes pipe (Some state) slot))
of_slot s pipe state writer count d slot (Takes byte others rest split few h) =
    TookSome byte others rest split few (ap (λ (e : Done (Option PipeState) (List ℕ)). taking (pipe_done s pipe e)) h)

pub pipe_taken : (s : KernelState) (pid count : ℕ) (given : List ℕ) (all : Bool) (read : List ℕ) (r : ReadsPipe s.machine pid given all read) → 1 ≤ count
    → PipeTaken s r.pipe r.state (has_writer s.machine.descriptors s.machine.descriptions r.pipe) count (take_bytes s pid (Number 0) count)
unfolding take_bytes
pipe_taken s pid count given all read r least =
    let writer = has_writer s.machine.descriptors s.machine.descriptions r.pipe in
    subst (λ (d : Done KernelState (List ℕ)). PipeTaken s r.pipe r.state writer count (taking d)) (sym (pipe_call s pid count given all read r))
    (of_slot s r.pipe r.state writer count (read_slot writer count (Some r.state)) r.slot (slot_read r.state.bytes r.state.capacity writer count least))

-- ---- from a file: what is there from the offset on
abbrev pub file_taken : KernelState → (place : ℕ) → Description → (bytes : List ℕ) → Taking
file_taken s place description bytes = record { told = taken.Bytes bytes; after = with_offset s place description (description.offset + length bytes) }

abbrev file_done : KernelState → (place offset count : ℕ) → Option Description → Option Node → Done KernelState (List ℕ)
file_done s place offset count e node =
    let d = content_read offset (content_of node offset count) in
    on_machine s (on_descriptions s.machine (record { answer = d.answer; after = moved_of s.machine.descriptions place d.after e }))

pub file_taken_by : (s : KernelState) (pid count : ℕ) (given : List ℕ) (all : Bool) (read : List ℕ) (r : ReadsFile s.machine pid given all read)
    → take_bytes s pid (Number 0) count ≡ file_taken s r.opened.place r.opened.description (take count (drop r.opened.description.offset r.file.bytes))
unfolding take_bytes
file_taken_by s pid count given all read r =
    let e = r.opened.description in
    ap taking
    (read_opened s pid 0 count (File r.number) r.opened
    ∙ ap (λ (readable : Bool). on_machine s (cond readable (read_target s.machine count r.opened.place e.offset (File r.number)) (refusal s.machine BadDescriptor))) r.readable
    ∙ ap (λ (n : Option Node). file_done s r.opened.place e.offset count (slice_get s.machine.descriptions r.opened.place) n) r.holds
    ∙ ap (λ (o : Option Description). file_done s r.opened.place e.offset count o (Some (node.File r.file))) r.opened.described)
