-- What is kept after a signal, and after the end of a process, is that of the state then.
use Rattle.std.proofs.Common.{◌≡◌, ℕ, List, map, filter, false, Option, sym, ap, subst, ◌∙◌}
use Rattle.sh_kernel_descriptors.specs.Machine.{MachineState}
use Rattle.sh_kernel_processes.specs.declared.process.Process.{Process}
use Rattle.sh_kernel_processes.specs.declared.process.Status.{Status}
use Rattle.sh_kernel_machine.specs.Machine as kept
use Rattle.sh_kernel_machine.specs.Signals.{with_processes}
use Rattle.sh_kernel_processes.specs.Groups.{ProcessTable}
use Rattle.sh_kernel_processes.specs.Sending.{after_end, pids_of}
use Rattle.sh_kernel_processes.specs.declared.member.Member.{Member}
use Rattle.sh_kernel.specs.Changes.{Changes, changed, is_stopped_at, numbered_status}
use Rattle.sh_kernel.specs.Signals.{with_table}
use Rattle.sh_kernel.specs.State.{KernelKept, KernelState, StandsAt}
use Rattle.sh_kernel.proofs.Endings.{endings}
use Rattle.sh_kernel.proofs.Ends.{end_changes_stopped}

pub stands_after : (k : KernelKept) (machine : kept.MachineKept) (left : List Member) (changes : Changes) (s : KernelState) (t : List Member → ProcessTable) → StandsAt k s
    → kept.StandsAt machine (with_processes s.machine (t k.members).processes (pids_of k.members)) → left ≡ (t k.members).members → changes ≡ changed k.changes s.machine.processes machine.processes (pids_of k.members)
    → StandsAt (record { machine = machine; members = left; terminal = k.terminal; changes = changes; watch = k.watch; is_current = false }) (with_table s (t s.members))
stands_after k machine left changes s t st m l c =
    let m' : kept.StandsAt machine (with_processes s.machine (t s.members).processes (pids_of s.members)) = subst (λ (ms : List Member). kept.StandsAt machine (with_processes s.machine (t ms).processes (pids_of ms))) st.members m in
    let ps : machine.processes ≡ (t s.members).processes = m'.processes ∙ (endings s.machine (t s.members).processes (pids_of s.members)).processes in
    record {
      machine = m';
      members = l ∙ ap (λ (ms : List Member). (t ms).members) st.members;
      terminal = st.terminal;
      foreground = st.foreground;
      changes =
          c
          ∙ ap (λ (x : Changes). changed x s.machine.processes machine.processes (pids_of k.members)) st.changes
          ∙ ap (λ (x : List Process). changed s.changes s.machine.processes x (pids_of k.members)) ps
          ∙ ap (λ (ms : List Member). changed s.changes s.machine.processes (t s.members).processes (pids_of ms)) st.members;
    }

-- ---- which statuses were found out before
pub of_all : (ps qs : List Process) (members : List Member) (pids : List ℕ) (before : List (ℕ × Option Status)) → qs ≡ ps → pids ≡ pids_of members → before ≡ map (numbered_status qs) pids → before ≡ map (numbered_status ps) (pids_of members)
of_all ps qs members pids before same all b = b ∙ ap (λ (x : List Process). map (numbered_status x) pids) same ∙ ap (λ (x : List ℕ). map (numbered_status ps) x) all

pub of_stopped : (ps qs : List Process) (ms members : List Member) (found before : List (ℕ × Option Status)) → qs ≡ ps → ms ≡ members → found ≡ map (numbered_status qs) (filter (is_stopped_at qs) (pids_of ms)) → before ≡ found
    → before ≡ map (numbered_status ps) (filter (is_stopped_at ps) (pids_of members))
of_stopped ps qs ms members found before same all f b =
    b ∙ f ∙ ap (λ (x : List Process). map (numbered_status x) (filter (is_stopped_at x) (pids_of ms))) same ∙ ap (λ (x : List Member). map (numbered_status ps) (filter (is_stopped_at ps) (pids_of x))) all

-- the others haven't changed
pub noted_of_stopped : (c : Changes) (machine : kept.MachineKept) (m : MachineState) (members : List Member) (pid status : ℕ) (changes : Changes)
    → kept.StandsAt machine (with_processes m (after_end (record { processes = m.processes; members = members }) pid status).processes (pids_of members))
    → changes ≡ changed c m.processes machine.processes (filter (is_stopped_at m.processes) (pids_of members)) → changes ≡ changed c m.processes machine.processes (pids_of members)
noted_of_stopped c machine m members pid status changes st e =
    let t : ProcessTable = record { processes = m.processes; members = members } in
    let ps : machine.processes ≡ (after_end t pid status).processes = st.processes ∙ (endings m (after_end t pid status).processes (pids_of members)).processes in
    e
    ∙ ap (λ (x : List Process). changed c m.processes x (filter (is_stopped_at m.processes) (pids_of members))) ps
    ∙ end_changes_stopped c t pid status
    ∙ ap (λ (x : List Process). changed c m.processes x (pids_of members)) (sym ps)
