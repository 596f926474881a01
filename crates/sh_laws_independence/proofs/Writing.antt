-- A write is one step, and what it uses decides which.
use Rattle.std.proofs.Common.{◌≡◌, ℕ, ◌+◌, ◌-◌, List, ◌∷◌, length, Bool, true, false, cond, ◌&&◌, ◌||◌, Option, Some, None, slice_get, refl, ap, ◌∙◌, Result, Ok, Err, eq-eqb, option_and_then, nat_le, nat_lt, min}
use Rattle.std.specs.Option.{option_map_or}
use Rattle.sh_files.specs.Nodes as nodes
use Rattle.sh_files.specs.Nodes.{FileMap, is_empty, write_fits}
use Rattle.sh_files.specs.declared.fault.FileFault.{FileFault}
use Rattle.sh_files.specs.declared.fault.FileFault.TheVariants.{NoEntry, NoAccess, IsDirectory, NotDirectory, Exists, BadNumber, TooLarge, NoMemory}
use Rattle.sh_files_image.specs.declared.node.Node.{Node}
use Rattle.sh_pipe.specs.Pipe.{PipeState, write_count}
use Rattle.sh_pipe.specs.declared.PipeFault.TheVariants as pipe_fault
use Rattle.sh_tty.specs.Happenings.{Happening, Wrote}
use Rattle.sh_kernel_descriptors.specs.Outcomes.{Done, fault_of_file, refusal, success}
use Rattle.sh_kernel_descriptors.specs.Descriptors.{description_number, has_reader, reads_from, writes_to}
use Rattle.sh_kernel_descriptors.specs.Reading.{at_place, on_pipes}
use Rattle.sh_kernel_descriptors.specs.Writing.{content_written, on_files, pipe_count, size_of, write_described, write_found, write_pipe, write_pipe_of, write_slot, write_target}
use Rattle.sh_kernel_descriptors.specs.Terminals.{is_terminal_target, writes_it}
use Rattle.sh_kernel_descriptors.specs.declared.descriptor.DescriptorRef.TheVariants.{Number}
use Rattle.sh_kernel_descriptors.specs.declared.description.Description.{Description}
use Rattle.sh_kernel_descriptors.specs.declared.description.Target.{Target}
use Rattle.sh_kernel_descriptors.specs.declared.description.Target.TheVariants.{File, Terminal, Null, ReadEnd, WriteEnd}
use Rattle.sh_kernel_descriptors.specs.declared.fault.KernelFault.TheVariants.{BadDescriptor, BrokenPipe}
use Rattle.sh_kernel.specs.Calls.{broken_pipe, is_broken, on_machine, write_call, write_machine, write_terminal}
use Rattle.sh_kernel.specs.Reaching.{is_node}
use Rattle.sh_kernel.specs.State.{KernelState}
use Rattle.sh_laws_independence.specs.Parts.{Parts, changed_at, changed_by_write, own, nothing, used, used_by}
use Rattle.sh_laws_independence.proofs.Steps.{IsWithin, Plan, done, no_step, nowhere, plain}
use Rattle.sh_laws_independence.proofs.Keeping.{Keeps}
use Rattle.sh_laws_independence.proofs.Leading.{AllowsWrite, end_at, file_at, node_own, screen_at, used_allows, write_allows, writes_own}
use Rattle.sh_laws_independence.proofs.Reading.{names_stay}

-- ---- the plan of a write
abbrev pub written : (start : ℕ) → List ℕ → Option Node → Result Node FileFault
written start bytes None = Err BadNumber
written start bytes (Some node) = nodes.node_written start bytes node

abbrev pub limited : (start : ℕ) → List ℕ → Option Node → Result Node FileFault
limited start bytes o = cond (write_fits start bytes) (written start bytes o) (Err TooLarge)

abbrev pub node_write : (k node end count : ℕ) → Result Node FileFault → Plan ℕ
node_write k node end count (Ok x) =
    record { answer = Ok count; step = record no_step { offset = Some (record { place = k; value = end }); node = Some (record { place = node; value = x }) } }
node_write k node end count (Err fault) = plain (Err (fault_of_file fault))

abbrev pub start_of : (append : Bool) → (offset : ℕ) → Option Node → ℕ
start_of append offset o = cond append (size_of o) offset

abbrev pub file_write : (k node : ℕ) → (append : Bool) → (offset : ℕ) → List ℕ → Option Node → Plan ℕ
file_write k node append offset bytes o =
    node_write k node (start_of append offset o + length bytes) (length bytes) (limited (start_of append offset o) bytes o)

abbrev pub slot_write : (pipe : ℕ) → List ℕ → Option (Option PipeState) → Plan ℕ
slot_write pipe bytes None = plain (Err BadDescriptor)
slot_write pipe bytes (Some slot) =
    let d = write_slot bytes slot in
    record { answer = d.answer; step = record no_step { pipe = Some (record { place = pipe; value = d.after }) } }

abbrev pub screen_write : List ℕ → List Happening → Plan ℕ
screen_write bytes hs = record { answer = Ok (length bytes); step = record no_step { terminal = Some (Wrote bytes ∷ hs) } }

abbrev pub target_write : KernelState → (k : ℕ) → Description → List ℕ → (empty : Bool) → Target → Plan ℕ
target_write s k e bytes empty (File node) = cond empty (plain (Ok 0)) (file_write k node e.append e.offset bytes (slice_get s.machine.files.nodes node))
target_write s k e bytes empty Terminal = screen_write bytes s.terminal
target_write s k e bytes empty Null = cond empty (plain (Ok 0)) (plain (Ok (length bytes)))
target_write s k e bytes empty (ReadEnd pipe) = cond empty (plain (Ok 0)) (plain (Err BadDescriptor))
target_write s k e bytes empty (WriteEnd pipe) = cond empty (plain (Ok 0)) (slot_write pipe bytes (slice_get s.machine.pipes pipe))

abbrev pub described_write : KernelState → (k : ℕ) → List ℕ → Option Description → Plan ℕ
described_write s k bytes None = plain (Err BadDescriptor)
described_write s k bytes (Some e) = cond e.writable (target_write s k e bytes (is_empty bytes) e.target) (plain (Err BadDescriptor))

abbrev pub found_write : KernelState → List ℕ → Option ℕ → Plan ℕ
found_write s bytes None = plain (Err BadDescriptor)
found_write s bytes (Some k) = described_write s k bytes (slice_get s.machine.descriptions k)

abbrev pub write_plan : KernelState → (pid number : ℕ) → List ℕ → Plan ℕ
write_plan s pid number bytes = found_write s bytes (description_number s.machine.descriptors pid (Number number))

-- ---- a write in a state that keeps what it uses
-- a file
pub limits : (files : FileMap) (node start : ℕ) (bytes : List ℕ) (fits : Bool) (o : Option Node) → cond fits (nodes.write_node files node start bytes o) (Err TooLarge) ≡ nodes.with_node files node (cond fits (written start bytes o) (Err TooLarge))
limits files node start bytes true None = refl
limits files node start bytes true (Some x) = refl
limits files node start bytes false o = refl

abbrev pub files_done : KernelState → (pid k end count : ℕ) → Result FileMap FileFault → Done KernelState ℕ
files_done t pid k end count r = let d = content_written t.machine.files end r in write_machine t pid (on_files t.machine k count d.after d.answer)

pub file_done : (t : KernelState) (pid k node end count : ℕ) (r : Result Node FileFault) → files_done t pid k end count (nodes.with_node t.machine.files node r) ≡ done t (node_write k node end count r)
file_done t pid k node end count (Ok x) = refl
file_done t pid k node end count (Err NoEntry) = refl
file_done t pid k node end count (Err NoAccess) = refl
file_done t pid k node end count (Err IsDirectory) = refl
file_done t pid k node end count (Err NotDirectory) = refl
file_done t pid k node end count (Err Exists) = refl
file_done t pid k node end count (Err BadNumber) = refl
file_done t pid k node end count (Err TooLarge) = refl
file_done t pid k node end count (Err (NoMemory lack)) = refl

-- a pipe that has a reader
pub unbroken_count : (len free : ℕ) → is_broken (pipe_count (write_count len free)) ≡ false
unbroken_count len free = of_tests (nat_le len 512) (nat_le len free) (nat_lt 0 free)
  where
    of_tests : (a b c : Bool) → is_broken (pipe_count (cond a (cond b (Ok len) (Err pipe_fault.WouldWait)) (cond c (Ok (min free len)) (Err pipe_fault.WouldWait)))) ≡ false
    of_tests true true c = refl
    of_tests true false c = refl
    of_tests false b true = refl
    of_tests false b false = refl

pub slots : (t : KernelState) (pid pipe : ℕ) (bytes : List ℕ) (o : Option (Option PipeState)) → write_machine t pid (on_pipes t.machine (write_pipe_of t.machine.pipes pipe bytes o)) ≡ done t (slot_write pipe bytes o)
slots t pid pipe bytes None = refl
slots t pid pipe bytes (Some None) = refl
slots t pid pipe bytes (Some (Some p)) =
    ap (λ (b : Bool). cond b (broken_pipe t pid) (on_machine t (on_pipes t.machine (at_place t.machine.pipes pipe (write_slot bytes (Some p)))))) (unbroken_count (length bytes) (p.capacity - length p.bytes))

pub has_one : (s : KernelState) (pid pipe : ℕ) (bytes : List ℕ) (b : Bool) → is_broken (write_machine s pid (cond b (on_pipes s.machine (write_pipe s.machine.pipes pipe bytes)) (refusal s.machine BrokenPipe))).answer ≡ false → b ≡ true
has_one s pid pipe bytes true quiet = refl
has_one s pid pipe bytes false quiet = absurd (cc)

-- what a write does where the description leads
abbrev pub written_there : KernelState → (pid k : ℕ) → Description → List ℕ → (empty writable : Bool) → Target → Done KernelState ℕ
written_there t pid k e bytes empty writable target =
    cond (is_terminal_target target && writable)
    (write_terminal t bytes)
    (write_machine t pid (cond writable (cond empty (success 0 t.machine) (write_target t.machine bytes k e target)) (refusal t.machine BadDescriptor)))

module _ (s t : KernelState) (pid k : ℕ) (bytes : List ℕ) (e : Description) (there : slice_get s.machine.descriptions k ≡ Some e) (kept : Keeps s t (used s.machine.descriptions pid k)) where
  targets : (target : Target) → e.target ≡ target → (empty writable : Bool) → is_broken (written_there s pid k e bytes empty writable target).answer ≡ false
      → written_there t pid k e bytes empty writable target ≡ done t (cond writable (target_write s k e bytes empty target) (plain (Err BadDescriptor)))
  targets (File node) is false true quiet =
      let of_file : is_node node e.target ≡ true = rw is (node_own node) in
      let o = slice_get t.machine.files.nodes node in
      let start = start_of e.append e.offset o in
      ap (λ (r : Result FileMap FileFault). files_done t pid k (start + length bytes) (length bytes) r) (limits t.machine.files node start bytes (write_fits start bytes) o)
      ∙ file_done t pid k node (start + length bytes) (length bytes) (limited start bytes o)
      ∙ ap (λ (x : Option Node). done t (file_write k node e.append e.offset bytes x)) (kept.files node (file_at s.machine.descriptions k node e there of_file))
  targets (File node) is true true quiet = refl
  targets (File node) is empty false quiet = refl
  targets Terminal is empty true quiet =
      let here : is_terminal_target e.target ≡ true = rw is in
      ap (λ (hs : List Happening). done t (screen_write bytes hs)) (kept.terminal (screen_at s.machine.descriptions k e there here))
  targets Terminal is empty false quiet = refl
  targets Null is true true quiet = refl
  targets Null is false true quiet = refl
  targets Null is empty false quiet = refl
  targets (ReadEnd pipe) is true true quiet = refl
  targets (ReadEnd pipe) is false true quiet = refl
  targets (ReadEnd pipe) is empty false quiet = refl
  targets (WriteEnd pipe) is false true quiet =
      let ends : (reads_from pipe e.target || writes_to pipe e.target) ≡ true = rw is (writes_own pipe) in
      let here = end_at s.machine.descriptions k pipe e there ends in
      ap (λ (b : Bool). write_machine t pid (cond b (on_pipes t.machine (write_pipe t.machine.pipes pipe bytes)) (refusal t.machine BrokenPipe)))
      (kept.readers pipe here ∙ has_one s pid pipe bytes (has_reader s.machine.descriptors s.machine.descriptions pipe) quiet)
      ∙ slots t pid pipe bytes (slice_get t.machine.pipes pipe)
      ∙ ap (λ (o : Option (Option PipeState)). done t (slot_write pipe bytes o)) (kept.pipes pipe here)
  targets (WriteEnd pipe) is true true quiet = refl
  targets (WriteEnd pipe) is empty false quiet = refl

abbrev pub written_at : KernelState → (pid k : ℕ) → List ℕ → Option Description → Done KernelState ℕ
written_at t pid k bytes o = cond (option_map_or writes_it o false) (write_terminal t bytes) (write_machine t pid (write_described t.machine bytes k o))

describes : (s t : KernelState) (pid k : ℕ) (bytes : List ℕ) (o : Option Description) → slice_get s.machine.descriptions k ≡ o → Keeps s t (used s.machine.descriptions pid k) → is_broken (written_at s pid k bytes o).answer ≡ false
    → written_at t pid k bytes o ≡ done t (described_write s k bytes o)
describes s t pid k bytes None there kept quiet = refl
describes s t pid k bytes (Some e) there kept quiet = targets s t pid k bytes e there kept e.target refl (is_empty bytes) e.writable quiet

abbrev pub written_by : KernelState → (pid : ℕ) → List ℕ → Option ℕ → Done KernelState ℕ
written_by t pid bytes o =
    cond (option_map_or writes_it (option_and_then (λ k. slice_get t.machine.descriptions k) o) false) (write_terminal t bytes) (write_machine t pid (write_found t.machine bytes o))

finds : (s t : KernelState) (pid : ℕ) (bytes : List ℕ) (o : Option ℕ) → Keeps s t (option_map_or (used s.machine.descriptions pid) o (own pid)) → is_broken (written_by s pid bytes o).answer ≡ false → written_by t pid bytes o ≡ done t (found_write s bytes o)
finds s t pid bytes None kept quiet = refl
finds s t pid bytes (Some k) kept quiet =
    ap (λ (o : Option Description). written_at t pid k bytes o) (kept.descriptions k (eq-eqb k k refl))
    ∙ describes s t pid k bytes (slice_get s.machine.descriptions k) refl kept quiet

pub writes_again : (s t : KernelState) (pid number : ℕ) (bytes : List ℕ) → Keeps s t (used_by s.machine pid (Number number)) → is_broken (write_call s pid number bytes).answer ≡ false → write_call t pid number bytes ≡ done t (write_plan s pid number bytes)
writes_again s t pid number bytes kept quiet =
    ap (λ (o : Option ℕ). written_by t pid bytes o) (names_stay s t pid (Number number) (Number number) kept)
    ∙ finds s t pid bytes (description_number s.machine.descriptors pid (Number number)) kept quiet

-- ---- what the step changes
node_within : (u : Parts) (k node end count : ℕ) (r : Result Node FileFault) → u.descriptions k ≡ true → u.files node ≡ true → IsWithin (node_write k node end count r).step u
node_within u k node end count (Ok x) h h' = record { offset = h; pipe = tt; node = h'; terminal = tt }
node_within u k node end count (Err fault) h h' = nowhere u

slot_within : (u : Parts) (pipe : ℕ) (bytes : List ℕ) (o : Option (Option PipeState)) → u.pipes pipe ≡ true → IsWithin (slot_write pipe bytes o).step u
slot_within u pipe bytes None h = nowhere u
slot_within u pipe bytes (Some slot) h = record { offset = tt; pipe = h; node = tt; terminal = tt }

target_within : (u : Parts) (s : KernelState) (k : ℕ) (e : Description) (bytes : List ℕ) (empty : Bool) (target : Target) → AllowsWrite u k target → IsWithin (target_write s k e bytes empty target).step u
target_within u s k e bytes false (File node) a =
    let o = slice_get s.machine.files.nodes node in
    let start = start_of e.append e.offset o in
    node_within u k node (start + length bytes) (length bytes) (limited start bytes o) (a.read.offset refl) (a.node node (node_own node))
target_within u s k e bytes true (File node) a = nowhere u
target_within u s k e bytes empty Terminal a = record { offset = tt; pipe = tt; node = tt; terminal = a.read.terminal refl }
target_within u s k e bytes false Null a = nowhere u
target_within u s k e bytes true Null a = nowhere u
target_within u s k e bytes false (ReadEnd pipe) a = nowhere u
target_within u s k e bytes true (ReadEnd pipe) a = nowhere u
target_within u s k e bytes false (WriteEnd pipe) a = slot_within u pipe bytes (slice_get s.machine.pipes pipe) (a.read.pipe pipe (writes_own pipe))
target_within u s k e bytes true (WriteEnd pipe) a = nowhere u

described_within : (u : Parts) (s : KernelState) (k : ℕ) (bytes : List ℕ) (o : Option Description) → ((e : Description) → o ≡ Some e → AllowsWrite u k e.target) → IsWithin (described_write s k bytes o).step u
described_within u s k bytes None a = nowhere u
described_within u s k bytes (Some e) a = of_test e.writable
  where
    of_test : (b : Bool) → IsWithin (cond b (target_write s k e bytes (is_empty bytes) e.target) (plain (Err BadDescriptor))).step u
    of_test true = target_within u s k e bytes (is_empty bytes) e.target (a e refl)
    of_test false = nowhere u

found_uses : (s : KernelState) (pid : ℕ) (bytes : List ℕ) (o : Option ℕ) → IsWithin (found_write s bytes o).step (option_map_or (used s.machine.descriptions pid) o (own pid))
found_uses s pid bytes None = nowhere (own pid)
found_uses s pid bytes (Some k) =
    described_within (used s.machine.descriptions pid k) s k bytes (slice_get s.machine.descriptions k) (λ e there. used_allows s.machine.descriptions pid k e there)

found_changes : (s : KernelState) (bytes : List ℕ) (o : Option ℕ) → IsWithin (found_write s bytes o).step (option_map_or (changed_by_write s.machine.descriptions) o nothing)
found_changes s bytes None = nowhere nothing
found_changes s bytes (Some k) =
    described_within (changed_by_write s.machine.descriptions k) s k bytes (slice_get s.machine.descriptions k) (λ e there. write_allows s.machine.descriptions k e there)

pub write_in_used : (s : KernelState) (pid number : ℕ) (bytes : List ℕ) → IsWithin (write_plan s pid number bytes).step (used_by s.machine pid (Number number))
write_in_used s pid number bytes = found_uses s pid bytes (description_number s.machine.descriptors pid (Number number))

pub write_in_changed : (s : KernelState) (pid number : ℕ) (bytes : List ℕ) → IsWithin (write_plan s pid number bytes).step (changed_at changed_by_write s.machine pid (Number number))
write_in_changed s pid number bytes = found_changes s bytes (description_number s.machine.descriptors pid (Number number))
