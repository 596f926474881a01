-- Links of a pipeline stay where the process of another stage takes its turn.
use Rattle.std.proofs.Common.{◌≡◌, ◌≢◌, ℕ, ◌==◌, ◌||◌, List, Bool, true, false, Option, Some, None, slice_get, slice_set, refl, sym, ap, ◌∙◌, subst, eq-eqb, eqb-true}
use Rattle.sh_kernel.specs.Reaching.{is_end, reaches}
use Rattle.sh_kernel.specs.State.{KernelState}
use Rattle.sh_kernel_descriptors.specs.Descriptors.{reads_from, writes_to}
use Rattle.sh_kernel_descriptors.specs.Machine.{MachineState}
use Rattle.sh_kernel_descriptors.specs.declared.descriptor.DescriptorRef.TheVariants.{Number}
use Rattle.sh_kernel_descriptors.specs.declared.description.Target.{Target}
use Rattle.sh_kernel_descriptors.specs.declared.description.Target.TheVariants.{ReadEnd, WriteEnd}
use Rattle.sh_kernel_machine.proofs.Lists.{false_of, other_place, same_place}
use Rattle.sh_kernel_processes.specs.Processes.{has_ended}
use Rattle.sh_pipe.specs.Pipe.{PipeState}
use Rattle.sh_laws_pipelines.proofs.Beside.{Leaves, leads_at, or_back, or_front, still_reads, still_writes}
use Rattle.sh_laws_pipelines.proofs.LeavingFiles.{reads_there, writes_there}
use Rattle.sh_laws_pipelines.proofs.Leaving.{found_reaches}
use Rattle.sh_laws_pipelines.specs.Others.{AllGoOn, OnlyReach}
use Rattle.sh_laws_pipelines.proofs.Changes.{Calm, Changed, PipeChange, Piped}
use Rattle.sh_laws_pipelines.specs.Stages.{FedByFile, FedByPipe, FromFile, FromPipe, IsFed, Source, is_at_end}
use Rattle.sh_laws_pipelines.specs.Joined.{Opened, WritesFile, WritesPipe, with_pipe}

-- ---- the processes of a link
pub reader_is_at_end : (before : Option ℕ) (pid : ℕ) → is_at_end before pid pid ≡ true
reader_is_at_end None pid = eq-eqb pid pid refl
reader_is_at_end (Some b) pid = or_back (pid == b) (pid == pid) (eq-eqb pid pid refl)

pub writer_is_at_end : (before pid : ℕ) → is_at_end (Some before) pid before ≡ true
writer_is_at_end before pid = or_front (before == before) (before == pid) (eq-eqb before before refl)

-- a process that is neither
pub not_same : (a b : ℕ) → a ≢ b → (a == b) ≡ false
not_same a b n = false_of (a == b) (λ h. n (eqb-true a b h))

abbrev pub IsOutside : Option ℕ → ℕ → ℕ → Type 0
IsOutside None pid q = q ≢ pid
IsOutside (Some before) pid q = (q ≢ before) × (q ≢ pid)

pub outside_ends : (before : Option ℕ) (pid q : ℕ) → IsOutside before pid q → is_at_end before pid q ≡ false
outside_ends None pid q n = not_same q pid n
outside_ends (Some before) pid q n = ap (λ (b : Bool). b || (q == pid)) (not_same q before n.0) ∙ not_same q pid n.1

-- both go on
abbrev pub GoOn : Option ℕ → ℕ → MachineState → Type 0
GoOn None pid t = has_ended t.processes pid ≡ false
GoOn (Some before) pid t = (has_ended t.processes before ≡ false) × (has_ended t.processes pid ≡ false)

pub ends_go_on : (before : Option ℕ) (pid : ℕ) (t : MachineState) → GoOn before pid t → AllGoOn (is_at_end before pid) t
ends_go_on None pid t alive q h = ap (λ (n : ℕ). has_ended t.processes n) (eqb-true q pid h) ∙ alive
ends_go_on (Some before) pid t alive q h = of_test (q == before) refl h
  where
    of_test : (b : Bool) → (q == before) ≡ b → (b || (q == pid)) ≡ true → has_ended t.processes q ≡ false
    of_test true is h = ap (λ (n : ℕ). has_ended t.processes n) (eqb-true q before is) ∙ alive.0
    of_test false is h = ap (λ (n : ℕ). has_ended t.processes n) (eqb-true q pid h) ∙ alive.1

-- a process that reaches a pipe is one of those that alone do
pub reached_elsewhere : (m : MachineState) (owners : ℕ → Bool) (pipe other actor : ℕ) → OnlyReach owners m other → owners actor ≡ false → reaches m.descriptors actor (is_end m.descriptions pipe) ≡ true → pipe ≢ other
reached_elsewhere m owners pipe other actor alone outside has h =
    let both : true ≡ false = sym has ∙ (ap (λ (n : ℕ). reaches m.descriptors actor (is_end m.descriptions n)) h ∙ alone actor outside) in cc

pub writer_has : (m : MachineState) (pid pipe : ℕ) (state : PipeState) → WritesPipe m pid pipe state → reaches m.descriptors pid (is_end m.descriptions pipe) ≡ true
writer_has m pid pipe state w =
    let own : (reads_from pipe w.opened.description.target || writes_to pipe w.opened.description.target) ≡ true =
    ap (λ (t : Target). reads_from pipe t || writes_to pipe t) w.opened.leads ∙ eq-eqb pipe pipe refl in
    found_reaches m.descriptors pid (Number 1) w.opened.place (is_end m.descriptions pipe) w.opened.refers
    (leads_at (λ t. reads_from pipe t || writes_to pipe t) m.descriptions w.opened.place w.opened.description w.opened.described own)

-- ---- what is written to
-- what a process has open isn't what is in a pipe
abbrev pub opened_piped : (s : KernelState) (pid number : ℕ) (target : Target) (pipe : ℕ) (new : PipeState) → Opened s.machine pid number target → Opened (with_pipe s pipe new).machine pid number target
opened_piped s pid number target pipe new o = record { place = o.place; description = o.description; refers = o.refers; described = o.described; leads = o.leads }

-- the pipe holds something, and is still written to
sink_piped : (s : KernelState) (pid to : ℕ) (state : PipeState) (pipe : ℕ) (old new : PipeState) → slice_get s.machine.pipes pipe ≡ Some (Some old) → WritesPipe s.machine pid to state → (b : Bool) → (pipe == to) ≡ b
    → (after : PipeState) × WritesPipe (with_pipe s pipe new).machine pid to after
sink_piped s pid to state pipe old new slot w true is =
    (new, record { opened = opened_piped s pid 1 (WriteEnd to) pipe new w.opened; writable = w.writable; slot = ap (λ (n : ℕ). slice_get (slice_set s.machine.pipes pipe (Some new)) n) (sym (eqb-true pipe to is)) ∙ same_place s.machine.pipes pipe (Some new) (Some old) slot; reader = w.reader })
sink_piped s pid to state pipe old new slot w false is =
    (state, record { opened = opened_piped s pid 1 (WriteEnd to) pipe new w.opened; writable = w.writable; slot = other_place s.machine.pipes pipe to (Some new) (λ h. let both : true ≡ false = sym (eq-eqb pipe to h) ∙ is in cc) ∙ w.slot; reader = w.reader })

pub sink_stays : (actor : ℕ) (s t : KernelState) (owners : ℕ → Bool) (pid to : ℕ) (state : PipeState) → PipeChange actor s t → owners pid ≡ true → AllGoOn owners t.machine → OnlyReach owners s.machine to → WritesPipe s.machine pid to state
    → (after : PipeState) × WritesPipe t.machine pid to after
sink_stays actor s t owners pid to state (Piped pipe old new slot has same) owner alive alone w =
    subst (λ (u : KernelState). (after : PipeState) × WritesPipe u.machine pid to after) (sym same) (sink_piped s pid to state pipe old new slot w (pipe == to) refl)
sink_stays actor s t owners pid to state (Calm leaves) owner alive alone w =
    let l = still_writes owners s.machine t.machine (leaves owners alive) pid to state owner w alone in (state, l.writes)

-- ---- what is read from
pub fed_piped : (s : KernelState) (before : Option ℕ) (pipe : ℕ) (given : List ℕ) (all : Bool) (pid : ℕ) (read : List ℕ) (other : ℕ) (new : PipeState) → other ≢ pipe → FedByPipe s.machine before pipe given all pid read
    → FedByPipe (with_pipe s other new).machine before pipe given all pid read
fed_piped s before pipe given all pid read other new n f =
    record {
      reads = record {
        pipe = f.reads.pipe;
        opened = opened_piped s pid 0 (ReadEnd f.reads.pipe) other new f.reads.opened;
        readable = f.reads.readable;
        state = f.reads.state;
        slot = other_place s.machine.pipes other f.reads.pipe (Some new) (λ h. n (h ∙ f.same_pipe)) ∙ f.reads.slot;
        bytes = f.reads.bytes;
        end = f.reads.end;
      };
      same_pipe = f.same_pipe;
      alone = f.alone;
    }

pub fed_calm : (s t : KernelState) (before : Option ℕ) (pipe : ℕ) (given : List ℕ) (all : Bool) (pid : ℕ) (read : List ℕ) → Leaves (is_at_end before pid) s.machine t.machine → FedByPipe s.machine before pipe given all pid read
    → FedByPipe t.machine before pipe given all pid read
fed_calm s t before pipe given all pid read l f =
    let alone = subst (λ (n : ℕ). OnlyReach (is_at_end before pid) s.machine n) (sym f.same_pipe) f.alone in
    let r = still_reads (is_at_end before pid) s.machine t.machine l pid given all read (reader_is_at_end before pid) f.reads alone in
    record { reads = r.reads; same_pipe = r.same_pipe ∙ f.same_pipe; alone = subst (λ (n : ℕ). OnlyReach (is_at_end before pid) t.machine n) f.same_pipe r.alone }

pub fed_by_pipe_stays : (actor : ℕ) (s t : KernelState) (before : Option ℕ) (pipe : ℕ) (given : List ℕ) (all : Bool) (pid : ℕ) (read : List ℕ) → PipeChange actor s t → GoOn before pid t.machine
    → ((other : ℕ) → reaches s.machine.descriptors actor (is_end s.machine.descriptions other) ≡ true → other ≢ pipe) → FedByPipe s.machine before pipe given all pid read → FedByPipe t.machine before pipe given all pid read
fed_by_pipe_stays actor s t before pipe given all pid read (Piped other old new slot has same) alive elsewhere f =
    subst (λ (u : KernelState). FedByPipe u.machine before pipe given all pid read) (sym same) (fed_piped s before pipe given all pid read other new (elsewhere other has) f)
fed_by_pipe_stays actor s t before pipe given all pid read (Calm leaves) alive elsewhere f =
    fed_calm s t before pipe given all pid read (leaves (is_at_end before pid) (ends_go_on before pid t.machine alive)) f

-- a file that wasn't touched
pub fed_by_file_stays : (actor : ℕ) (touched : Option ℕ) (s t : KernelState) (number : ℕ) (given : List ℕ) (all : Bool) (pid : ℕ) (read : List ℕ) → Changed actor touched s t → has_ended t.machine.processes pid ≡ false → touched ≢ Some number
    → FedByFile s.machine number given all pid read → FedByFile t.machine number given all pid read
fed_by_file_stays actor touched s t number given all pid read c alive n f =
    let r = f.reads in
    let there = reads_there s.machine t.machine pid given all read r
    (c.files pid r.number r.opened.place r.opened.description r.opened.described r.opened.leads (λ h. n (h ∙ ap (λ (k : ℕ). Some k) f.same_file)) alive) in
    record { reads = there.reads; same_file = there.same_file ∙ f.same_file }

pub writes_file_stays : (actor : ℕ) (touched : Option ℕ) (s t : KernelState) (pid number : ℕ) (written : List ℕ) → Changed actor touched s t → has_ended t.machine.processes pid ≡ false → touched ≢ Some number → WritesFile s.machine pid number written → WritesFile t.machine pid number written
writes_file_stays actor touched s t pid number written c alive n w =
    writes_there s.machine t.machine pid number written w (c.files pid number w.opened.place w.opened.description w.opened.described w.opened.leads n alive)

-- ---- a stage whose process isn't the one that took its turn
abbrev pub FromOther : Option ℕ → Source → Type 0
FromOther touched (FromPipe pipe) = Unit {0}
FromOther touched (FromFile number) = touched ≢ Some number

pub fed_stays : (actor : ℕ) (touched : Option ℕ) (s t : KernelState) (before : Option ℕ) (source : Source) (given : List ℕ) (all : Bool) (pid : ℕ) (read : List ℕ) → Changed actor touched s t → GoOn before pid t.machine → IsOutside before pid actor
    → FromOther touched source → IsFed s.machine before source given all pid read → IsFed t.machine before source given all pid read
fed_stays actor touched s t before (FromPipe pipe) given all pid read c alive outside other f =
    fed_by_pipe_stays actor s t before pipe given all pid read c.pipes alive (λ q has. reached_elsewhere s.machine (is_at_end before pid) q pipe actor f.alone (outside_ends before pid actor outside) has) f
fed_stays actor touched s t None (FromFile number) given all pid read c alive outside other f = fed_by_file_stays actor touched s t number given all pid read c alive other f
fed_stays actor touched s t (Some before) (FromFile number) given all pid read c alive outside other f = fed_by_file_stays actor touched s t number given all pid read c alive.1 other f
