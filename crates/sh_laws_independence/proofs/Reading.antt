-- A read is one step, and what it uses decides which.
use Rattle.std.proofs.Common.{◌≡◌, ℕ, List, [], Bool, true, false, cond, ◌&&◌, ◌||◌, Option, Some, None, slice_get, refl, ap, ◌∙◌, Ok, Err, arith, eq-eqb, option_and_then}
use Rattle.std.specs.Option.{option_map_or}
use Rattle.sh_files.specs.Nodes.{content_of}
use Rattle.sh_files_image.specs.declared.node.Node.{Node}
use Rattle.sh_pipe.specs.Pipe.{PipeState}
use Rattle.sh_kernel_processes.specs.declared.process.Process.{Process}
use Rattle.sh_kernel_descriptors.specs.Outcomes.{Done, refusal}
use Rattle.sh_kernel_descriptors.specs.Descriptors.{description_number, has_writer, reads_from, writes_to}
use Rattle.sh_kernel_descriptors.specs.Reading.{content_read, on_pipes, read_described, read_found, read_pipe_of, read_slot, read_target}
use Rattle.sh_kernel_descriptors.specs.Terminals.{is_terminal_target, reads_it}
use Rattle.sh_kernel_descriptors.specs.declared.descriptor.DescriptorRef.{DescriptorRef}
use Rattle.sh_kernel_descriptors.specs.declared.description.Description.{Description}
use Rattle.sh_kernel_descriptors.specs.declared.description.Target.{Target}
use Rattle.sh_kernel_descriptors.specs.declared.description.Target.TheVariants.{File, Terminal, Null, ReadEnd, WriteEnd}
use Rattle.sh_kernel_descriptors.specs.declared.fault.KernelFault.TheVariants.{BadDescriptor}
use Rattle.sh_kernel_processes.specs.declared.member.Member.{Member}
use Rattle.sh_kernel.specs.Access.{access_of, is_raising}
use Rattle.sh_kernel.specs.Calls.{access, on_machine, raises_input, read_by, read_call}
use Rattle.sh_kernel.specs.Reaching.{is_node}
use Rattle.sh_kernel.specs.State.{KernelState}
use Rattle.sh_laws_independence.specs.Parts.{Parts, changed_at, changed_by_read, own, nothing, used, used_by}
use Rattle.sh_laws_independence.proofs.Steps.{IsWithin, Plan, done, no_step, nowhere, plain}
use Rattle.sh_laws_independence.proofs.Keeping.{Keeps}
use Rattle.sh_laws_independence.proofs.Leading.{AllowsRead, end_at, file_at, node_own, read_allows, reads_own, screen_at, used_allows}

-- ---- the plan of a read
abbrev pub file_read : (k offset count : ℕ) → Option Node → Plan (List ℕ)
file_read k offset count o =
    let d = content_read offset (content_of o offset count) in
    record { answer = d.answer; step = record no_step { offset = Some (record { place = k; value = d.after }) } }

abbrev pub slot_read : (pipe : ℕ) → (writer : Bool) → (count : ℕ) → Option (Option PipeState) → Plan (List ℕ)
slot_read pipe writer count None = plain (Err BadDescriptor)
slot_read pipe writer count (Some slot) =
    let d = read_slot writer count slot in
    record { answer = d.answer; step = record no_step { pipe = Some (record { place = pipe; value = d.after }) } }

-- the terminal gives what it gives in this state
abbrev pub screen_plan : Done KernelState (List ℕ) → Plan (List ℕ)
screen_plan d = record { answer = d.answer; step = record no_step { terminal = Some d.after.terminal } }

abbrev pub target_read : KernelState → (pid k offset count : ℕ) → Target → Plan (List ℕ)
target_read s pid k offset count (File node) = file_read k offset count (slice_get s.machine.files.nodes node)
target_read s pid k offset count Terminal = screen_plan (read_by s count (access s pid))
target_read s pid k offset count Null = plain (Ok [])
target_read s pid k offset count (ReadEnd pipe) = slot_read pipe (has_writer s.machine.descriptors s.machine.descriptions pipe) count (slice_get s.machine.pipes pipe)
target_read s pid k offset count (WriteEnd pipe) = plain (Err BadDescriptor)

abbrev pub described_read : KernelState → (pid k count : ℕ) → Option Description → Plan (List ℕ)
described_read s pid k count None = plain (Err BadDescriptor)
described_read s pid k count (Some e) = cond e.readable (target_read s pid k e.offset count e.target) (plain (Err BadDescriptor))

abbrev pub found_read : KernelState → (pid count : ℕ) → Option ℕ → Plan (List ℕ)
found_read s pid count None = plain (Err BadDescriptor)
found_read s pid count (Some k) = described_read s pid k count (slice_get s.machine.descriptions k)

abbrev pub read_plan : KernelState → (pid : ℕ) → DescriptorRef → (count : ℕ) → Plan (List ℕ)
read_plan s pid name count = found_read s pid count (description_number s.machine.descriptors pid name)

-- ---- a read in a state that keeps what it uses
pub access_stays : (s t : KernelState) (u : Parts) (pid : ℕ) → Keeps s t u → access t pid ≡ access s pid
access_stays s t u pid kept =
    ap (λ (ps : List Process). access_of (record { processes = ps; members = t.members }) t.foreground pid) kept.processes
    ∙ ap (λ (ms : List Member). access_of (record { processes = s.machine.processes; members = ms }) t.foreground pid) kept.members
    ∙ ap (λ (foreground : ℕ). access_of (record { processes = s.machine.processes; members = s.members }) foreground pid) kept.foreground

slots : (t : KernelState) (pipe : ℕ) (writer : Bool) (count : ℕ) (o : Option (Option PipeState)) → on_machine t (on_pipes t.machine (read_pipe_of t.machine.pipes pipe writer count o)) ≡ done t (slot_read pipe writer count o)
slots t pipe writer count None = refl
slots t pipe writer count (Some slot) = refl

-- the terminal alone, and who reads, decide what a read of it gives
screens : (s t : KernelState) (pid count : ℕ) → t.terminal ≡ s.terminal → is_raising (access s pid) ≡ false → read_by t count (access s pid) ≡ done t (screen_plan (read_by s count (access s pid)))
screens s t pid count same quiet = grind arith

module _ (s t : KernelState) (pid k count : ℕ) (e : Description) (there : slice_get s.machine.descriptions k ≡ Some e) (kept : Keeps s t (used s.machine.descriptions pid k)) where
  targets : (target : Target) → e.target ≡ target → (readable : Bool) → ((is_terminal_target target && readable) && is_raising (access s pid)) ≡ false
      → cond (is_terminal_target target && readable) (read_by t count (access t pid)) (on_machine t (cond readable (read_target t.machine count k e.offset target) (refusal t.machine BadDescriptor)))
      ≡ done t (cond readable (target_read s pid k e.offset count target) (plain (Err BadDescriptor)))
  targets (File node) is true quiet =
      let here : is_node node e.target ≡ true = rw is (node_own node) in
      ap (λ (o : Option Node). done t (file_read k e.offset count o)) (kept.files node (file_at s.machine.descriptions k node e there here))
  targets (File node) is false quiet = refl
  targets Terminal is true quiet =
      let here : is_terminal_target e.target ≡ true = rw is in
      ap (λ x. read_by t count x) (access_stays s t (used s.machine.descriptions pid k) pid kept)
      ∙ screens s t pid count (kept.terminal (screen_at s.machine.descriptions k e there here)) quiet
  targets Terminal is false quiet = refl
  targets Null is true quiet = refl
  targets Null is false quiet = refl
  targets (ReadEnd pipe) is true quiet =
      let ends : (reads_from pipe e.target || writes_to pipe e.target) ≡ true = rw is (reads_own pipe) in
      let here = end_at s.machine.descriptions k pipe e there ends in
      slots t pipe (has_writer t.machine.descriptors t.machine.descriptions pipe) count (slice_get t.machine.pipes pipe)
      ∙ ap (λ (writer : Bool). done t (slot_read pipe writer count (slice_get t.machine.pipes pipe))) (kept.writers pipe here)
      ∙ ap (λ (o : Option (Option PipeState)). done t (slot_read pipe (has_writer s.machine.descriptors s.machine.descriptions pipe) count o)) (kept.pipes pipe here)
  targets (ReadEnd pipe) is false quiet = refl
  targets (WriteEnd pipe) is true quiet = refl
  targets (WriteEnd pipe) is false quiet = refl

describes : (s t : KernelState) (pid k count : ℕ) (o : Option Description) → slice_get s.machine.descriptions k ≡ o → Keeps s t (used s.machine.descriptions pid k) → (option_map_or reads_it o false && is_raising (access s pid)) ≡ false
    → cond (option_map_or reads_it o false) (read_by t count (access t pid)) (on_machine t (read_described t.machine count k o)) ≡ done t (described_read s pid k count o)
describes s t pid k count None there kept quiet = refl
describes s t pid k count (Some e) there kept quiet = targets s t pid k count e there kept e.target refl e.readable quiet

finds : (s t : KernelState) (pid count : ℕ) (o : Option ℕ) → Keeps s t (option_map_or (used s.machine.descriptions pid) o (own pid))
    → (option_map_or reads_it (option_and_then (λ k. slice_get s.machine.descriptions k) o) false && is_raising (access s pid)) ≡ false
    → cond (option_map_or reads_it (option_and_then (λ k. slice_get t.machine.descriptions k) o) false) (read_by t count (access t pid)) (on_machine t (read_found t.machine count o)) ≡ done t (found_read s pid count o)
finds s t pid count None kept quiet = refl
finds s t pid count (Some k) kept quiet =
    ap (λ (o : Option Description). cond (option_map_or reads_it o false) (read_by t count (access t pid)) (on_machine t (read_described t.machine count k o))) (kept.descriptions k (eq-eqb k k refl))
    ∙ describes s t pid k count (slice_get s.machine.descriptions k) refl kept quiet

own_is_used : (es : List Description) (pid : ℕ) (o : Option ℕ) → (option_map_or (used es pid) o (own pid)).descriptors pid ≡ true
own_is_used es pid None = eq-eqb pid pid refl
own_is_used es pid (Some k) = eq-eqb pid pid refl

pub names_stay : (s t : KernelState) (pid : ℕ) (name name' : DescriptorRef) → Keeps s t (used_by s.machine pid name) → description_number t.machine.descriptors pid name' ≡ description_number s.machine.descriptors pid name'
names_stay s t pid name name' kept = kept.names pid name' (own_is_used s.machine.descriptions pid (description_number s.machine.descriptors pid name))

pub reads_again : (s t : KernelState) (pid : ℕ) (name : DescriptorRef) (count : ℕ) → Keeps s t (used_by s.machine pid name) → raises_input s pid name ≡ false → read_call t pid name count ≡ done t (read_plan s pid name count)
reads_again s t pid name count kept quiet =
    ap (λ (o : Option ℕ). cond (option_map_or reads_it (option_and_then (λ k. slice_get t.machine.descriptions k) o) false) (read_by t count (access t pid)) (on_machine t (read_found t.machine count o))) (names_stay s t pid name name kept)
    ∙ finds s t pid count (description_number s.machine.descriptors pid name) kept quiet

-- ---- what the step changes
slot_within : (u : Parts) (pipe : ℕ) (writer : Bool) (count : ℕ) (o : Option (Option PipeState)) → u.pipes pipe ≡ true → IsWithin (slot_read pipe writer count o).step u
slot_within u pipe writer count None h = nowhere u
slot_within u pipe writer count (Some slot) h = record { offset = tt; pipe = h; node = tt; terminal = tt }

target_within : (u : Parts) (s : KernelState) (pid k offset count : ℕ) (target : Target) → AllowsRead u k target → IsWithin (target_read s pid k offset count target).step u
target_within u s pid k offset count (File node) a = record { offset = a.offset refl; pipe = tt; node = tt; terminal = tt }
target_within u s pid k offset count Terminal a = record { offset = tt; pipe = tt; node = tt; terminal = a.terminal refl }
target_within u s pid k offset count Null a = nowhere u
target_within u s pid k offset count (ReadEnd pipe) a =
    slot_within u pipe (has_writer s.machine.descriptors s.machine.descriptions pipe) count (slice_get s.machine.pipes pipe) (a.pipe pipe (reads_own pipe))
target_within u s pid k offset count (WriteEnd pipe) a = nowhere u

described_within : (u : Parts) (s : KernelState) (pid k count : ℕ) (o : Option Description) → ((e : Description) → o ≡ Some e → AllowsRead u k e.target) → IsWithin (described_read s pid k count o).step u
described_within u s pid k count None a = nowhere u
described_within u s pid k count (Some e) a = of_test e.readable
  where
    of_test : (b : Bool) → IsWithin (cond b (target_read s pid k e.offset count e.target) (plain (Err BadDescriptor))).step u
    of_test true = target_within u s pid k e.offset count e.target (a e refl)
    of_test false = nowhere u

found_uses : (s : KernelState) (pid count : ℕ) (o : Option ℕ) → IsWithin (found_read s pid count o).step (option_map_or (used s.machine.descriptions pid) o (own pid))
found_uses s pid count None = nowhere (own pid)
found_uses s pid count (Some k) =
    described_within (used s.machine.descriptions pid k) s pid k count (slice_get s.machine.descriptions k) (λ e there. (used_allows s.machine.descriptions pid k e there).read)

found_changes : (s : KernelState) (pid count : ℕ) (o : Option ℕ) → IsWithin (found_read s pid count o).step (option_map_or (changed_by_read s.machine.descriptions) o nothing)
found_changes s pid count None = nowhere nothing
found_changes s pid count (Some k) =
    described_within (changed_by_read s.machine.descriptions k) s pid k count (slice_get s.machine.descriptions k) (λ e there. read_allows s.machine.descriptions k e there)

pub read_in_used : (s : KernelState) (pid : ℕ) (name : DescriptorRef) (count : ℕ) → IsWithin (read_plan s pid name count).step (used_by s.machine pid name)
read_in_used s pid name count = found_uses s pid count (description_number s.machine.descriptors pid name)

pub read_in_changed : (s : KernelState) (pid : ℕ) (name : DescriptorRef) (count : ℕ) → IsWithin (read_plan s pid name count).step (changed_at changed_by_read s.machine pid name)
read_in_changed s pid name count = found_changes s pid count (description_number s.machine.descriptors pid name)
