-- An independent request doesn't change whether a process can take its turn.
use Rattle.std.proofs.Common.{◌≡◌, ℕ, ◌+◌, ◌-◌, List, [], ◌∷◌, length, replicate, Bool, true, false, not, cond, ◌&&◌, Option, Some, None, slice_get, refl, sym, ap, ◌∙◌, Result, Ok, Err, eq-eqb, option_and_then}
use Rattle.std.specs.Option.{option_map_or}
use Rattle.sh_files.specs.Nodes.{is_empty, write_fits, FileMap}
use Rattle.sh_files.specs.Nodes as nodes
use Rattle.sh_files.specs.declared.fault.FileFault.{FileFault}
use Rattle.sh_files.specs.declared.fault.FileFault.TheVariants.{NoEntry, NoAccess, IsDirectory, NotDirectory, Exists, BadNumber, TooLarge, NoMemory}
use Rattle.sh_files_image.specs.declared.node.Node.{Node}
use Rattle.sh_pipe.specs.Pipe.{PipeState}
use Rattle.sh_kernel_processes.specs.Processes.{is_running, status_at}
use Rattle.sh_kernel_processes.specs.declared.process.Process.{Process}
use Rattle.sh_kernel_descriptors.specs.Descriptors.{description_number, has_reader}
use Rattle.sh_kernel_descriptors.specs.Outcomes.{Done, refusal}
use Rattle.sh_kernel_descriptors.specs.Reading.{on_pipes}
use Rattle.sh_kernel_descriptors.specs.Terminals.{reads_it, reads_terminal}
use Rattle.sh_kernel_descriptors.specs.Waiting.{waits}
use Rattle.sh_kernel_descriptors.specs.Writing.{write_pipe, write_pipe_of}
use Rattle.sh_kernel_descriptors.specs.declared.descriptor.DescriptorRef.{DescriptorRef}
use Rattle.sh_kernel_descriptors.specs.declared.descriptor.DescriptorRef.TheVariants.{Number}
use Rattle.sh_kernel_descriptors.specs.declared.description.Description.{Description}
use Rattle.sh_kernel_descriptors.specs.declared.description.Target.{Target}
use Rattle.sh_kernel_descriptors.specs.declared.description.Target.TheVariants.{File, Terminal, Null, ReadEnd, WriteEnd}
use Rattle.sh_kernel_descriptors.specs.declared.fault.KernelFault.TheVariants.{BrokenPipe}
use Rattle.sh_kernel.specs.Access.{is_raising}
use Rattle.sh_kernel.specs.Calls.{access, is_broken, raises_input, read_call, write_call, write_machine}
use Rattle.sh_kernel.specs.Requests.{Read, Request, Write, after_request}
use Rattle.sh_kernel.specs.State.{KernelState}
use Rattle.sh_kernel.specs.Turns.{ReadsBy, WritesBy, action_waits, can_do}
use Rattle.sh_laws_independence.specs.Parts.{own, used, used_by}
use Rattle.sh_laws_independence.specs.Independence.{AreIndependent}
use Rattle.sh_laws_independence.proofs.Keeping.{Keeps}
use Rattle.sh_laws_independence.proofs.Reading.{access_stays, names_stay}
use Rattle.sh_laws_independence.proofs.Commuting.{keeps_after, read_answered, write_answered}
use Rattle.sh_laws_independence.proofs.Writing.{file_done, files_done, has_one, limited, limits, node_write, slot_write, slots, start_of, unbroken_count, written_at, written_by, written_there}

pub flipped : (s : KernelState) (p q : ℕ) (r r' : Request) → AreIndependent s p r q r' → AreIndependent s q r' p r
flipped s p q r r' i = record {
  processes = λ e. i.processes (sym e);
  first_sends = i.second_sends;
  second_sends = i.first_sends;
  first_changes = i.second_changes;
  second_changes = i.first_changes;
}

-- no process starts, stops, goes on or ends
pub processes_stay : (s : KernelState) (p q : ℕ) (r r' : Request) → AreIndependent s p r q r' → (after_request s p r).machine.processes ≡ s.machine.processes
processes_stay s p q r r' i = (keeps_after s q p r' r (flipped s p q r r' i)).processes

-- ---- reads
found_reads : (s t : KernelState) (pid : ℕ) (o : Option ℕ) → Keeps s t (option_map_or (used s.machine.descriptions pid) o (own pid))
    → option_map_or reads_it (option_and_then (λ k. slice_get t.machine.descriptions k) o) false ≡ option_map_or reads_it (option_and_then (λ k. slice_get s.machine.descriptions k) o) false
found_reads s t pid None kept = refl
found_reads s t pid (Some k) kept = ap (λ (o : Option Description). option_map_or reads_it o false) (kept.descriptions k (eq-eqb k k refl))

raises_stays : (s t : KernelState) (pid : ℕ) (name : DescriptorRef) → Keeps s t (used_by s.machine pid name) → raises_input t pid name ≡ raises_input s pid name
raises_stays s t pid name kept =
    ap (λ (o : Option ℕ). option_map_or reads_it (option_and_then (λ k. slice_get t.machine.descriptions k) o) false && is_raising (access t pid)) (names_stay s t pid name name kept)
    ∙ ap (λ (b : Bool). b && is_raising (access t pid)) (found_reads s t pid (description_number s.machine.descriptors pid name) kept)
    ∙ ap (λ x. reads_terminal s.machine pid name && is_raising x) (access_stays s t (used_by s.machine pid name) pid kept)

pub reads_as_before : (s : KernelState) (p q : ℕ) (r : Request) (name : DescriptorRef) (count : ℕ) → AreIndependent s p r q (Read name count) → can_do (after_request s p r) q (ReadsBy name) ≡ can_do s q (ReadsBy name)
unfolding can_do
reads_as_before s p q r name count i =
    let i' : AreIndependent s q (Read name 1) p r = record { processes = λ e. i.processes (sym e); first_sends = i.second_sends; second_sends = i.first_sends; first_changes = i.second_changes; second_changes = i.first_changes } in
    let t = after_request s p r in
    let kept = keeps_after s q p (Read name 1) r i' in
    ap (λ (ps : List Process). is_running (status_at ps q) && not (action_waits t q (ReadsBy name))) kept.processes
    ∙ ap (λ (x : Result (List ℕ) _). is_running (status_at s.machine.processes q) && not (waits x && not (raises_input t q name))) (read_answered s q p name 1 r i')
    ∙ ap (λ (b : Bool). is_running (status_at s.machine.processes q) && not (waits (read_call s q name 1).answer && not b)) (raises_stays s t q name kept)

-- ---- writes: whether one is broken depends on the bytes only in that there are some
node_answers : (k node end count : ℕ) (r : Result Node FileFault) → is_broken (node_write k node end count r).answer ≡ false
node_answers k node end count (Ok x) = refl
node_answers k node end count (Err NoEntry) = refl
node_answers k node end count (Err NoAccess) = refl
node_answers k node end count (Err IsDirectory) = refl
node_answers k node end count (Err NotDirectory) = refl
node_answers k node end count (Err Exists) = refl
node_answers k node end count (Err BadNumber) = refl
node_answers k node end count (Err TooLarge) = refl
node_answers k node end count (Err (NoMemory lack)) = refl

file_quiet : (s : KernelState) (pid k node end start : ℕ) (bytes : List ℕ) (o : Option Node) → is_broken (files_done s pid k end (length bytes) (cond (write_fits start bytes) (nodes.write_node s.machine.files node start bytes o) (Err TooLarge))).answer ≡ false
file_quiet s pid k node end start bytes o =
    ap (λ (r : Result FileMap FileFault). is_broken (files_done s pid k end (length bytes) r).answer) (limits s.machine.files node start bytes (write_fits start bytes) o)
    ∙ ap (λ (d : Done KernelState ℕ). is_broken d.answer) (file_done s pid k node end (length bytes) (limited start bytes o))
    ∙ node_answers k node end (length bytes) (limited start bytes o)

slot_answers : (pipe : ℕ) (bytes : List ℕ) (o : Option (Option PipeState)) → is_broken (slot_write pipe bytes o).answer ≡ false
slot_answers pipe bytes None = refl
slot_answers pipe bytes (Some None) = refl
slot_answers pipe bytes (Some (Some p)) = unbroken_count (length bytes) (p.capacity - length p.bytes)

slot_quiet : (s : KernelState) (pid pipe : ℕ) (bytes : List ℕ) (o : Option (Option PipeState)) → is_broken (write_machine s pid (on_pipes s.machine (write_pipe_of s.machine.pipes pipe bytes o))).answer ≡ false
slot_quiet s pid pipe bytes o = ap (λ (d : Done KernelState ℕ). is_broken d.answer) (slots s pid pipe bytes o) ∙ slot_answers pipe bytes o

quiet_there : (s : KernelState) (pid k : ℕ) (e : Description) (bytes bytes' : List ℕ) (target : Target) (empty writable : Bool) → is_broken (written_there s pid k e bytes empty writable target).answer ≡ false → is_broken (written_there s pid k e bytes' empty writable target).answer ≡ false
quiet_there s pid k e bytes bytes' (File node) false true quiet =
    let o = slice_get s.machine.files.nodes node in
    let start = start_of e.append e.offset o in
    file_quiet s pid k node (start + length bytes') start bytes' o
quiet_there s pid k e bytes bytes' (File node) true true quiet = refl
quiet_there s pid k e bytes bytes' (File node) empty false quiet = refl
quiet_there s pid k e bytes bytes' Terminal empty true quiet = refl
quiet_there s pid k e bytes bytes' Terminal empty false quiet = refl
quiet_there s pid k e bytes bytes' Null false true quiet = refl
quiet_there s pid k e bytes bytes' Null true true quiet = refl
quiet_there s pid k e bytes bytes' Null empty false quiet = refl
quiet_there s pid k e bytes bytes' (ReadEnd pipe) false true quiet = refl
quiet_there s pid k e bytes bytes' (ReadEnd pipe) true true quiet = refl
quiet_there s pid k e bytes bytes' (ReadEnd pipe) empty false quiet = refl
quiet_there s pid k e bytes bytes' (WriteEnd pipe) false true quiet =
    ap (λ (b : Bool). is_broken (write_machine s pid (cond b (on_pipes s.machine (write_pipe s.machine.pipes pipe bytes')) (refusal s.machine BrokenPipe))).answer)
    (has_one s pid pipe bytes (has_reader s.machine.descriptors s.machine.descriptions pipe) quiet)
    ∙ slot_quiet s pid pipe bytes' (slice_get s.machine.pipes pipe)
quiet_there s pid k e bytes bytes' (WriteEnd pipe) true true quiet = refl
quiet_there s pid k e bytes bytes' (WriteEnd pipe) empty false quiet = refl

quiet_at : (s : KernelState) (pid k : ℕ) (bytes bytes' : List ℕ) → is_empty bytes' ≡ is_empty bytes → (o : Option Description) → is_broken (written_at s pid k bytes o).answer ≡ false → is_broken (written_at s pid k bytes' o).answer ≡ false
quiet_at s pid k bytes bytes' same None quiet = refl
quiet_at s pid k bytes bytes' same (Some e) quiet =
    ap (λ (b : Bool). is_broken (written_there s pid k e bytes' b e.writable e.target).answer) same ∙ quiet_there s pid k e bytes bytes' e.target (is_empty bytes) e.writable quiet

quiet_by : (s : KernelState) (pid : ℕ) (bytes bytes' : List ℕ) → is_empty bytes' ≡ is_empty bytes → (o : Option ℕ) → is_broken (written_by s pid bytes o).answer ≡ false → is_broken (written_by s pid bytes' o).answer ≡ false
quiet_by s pid bytes bytes' same None quiet = refl
quiet_by s pid bytes bytes' same (Some k) quiet = quiet_at s pid k bytes bytes' same (slice_get s.machine.descriptions k) quiet

zeros_empty : (bytes : List ℕ) → is_empty (replicate (length bytes) 0) ≡ is_empty bytes
zeros_empty [] = refl
zeros_empty (b ∷ bytes) = refl

pub writes_as_before : (s : KernelState) (p q : ℕ) (r : Request) (number : ℕ) (bytes : List ℕ) → AreIndependent s p r q (Write number bytes) → can_do (after_request s p r) q (WritesBy number (length bytes)) ≡ can_do s q (WritesBy number (length bytes))
unfolding can_do
writes_as_before s p q r number bytes i =
    let zeros = replicate (length bytes) 0 in
    let quiet : is_broken (write_call s q number zeros).answer ≡ false = quiet_by s q bytes zeros (zeros_empty bytes) (description_number s.machine.descriptors q (Number number)) i.second_sends in
    let i' : AreIndependent s q (Write number zeros) p r = record { processes = λ e. i.processes (sym e); first_sends = quiet; second_sends = i.first_sends; first_changes = i.second_changes; second_changes = i.first_changes } in
    let t = after_request s p r in
    let kept = keeps_after s q p (Write number zeros) r i' in
    ap (λ (ps : List Process). is_running (status_at ps q) && not (action_waits t q (WritesBy number (length bytes)))) kept.processes
    ∙ ap (λ (x : Result ℕ _). is_running (status_at s.machine.processes q) && not (waits x)) (write_answered s q p number zeros r i')
