-- Requests of other processes, and keys, leave the files at both ends of a pipeline.
use Rattle.std.proofs.Common.{◌≡◌, ◌≢◌, ℕ, ◌==◌, List, Bool, true, false, Option, Some, None, slice_get, refl, sym, ap, ◌∙◌, eq-eqb, eqb-true}
use Rattle.std.proofs.lemmas.Option.{slice_get_within}
use Rattle.std.specs.List.{filter}
use Rattle.sh_files_image.specs.declared.node.Node.{Node}
use Rattle.sh_kernel.proofs.Endings.{Endings, endings}
use Rattle.sh_kernel.specs.Calls.{after_key, after_raising}
use Rattle.sh_kernel.specs.Reaching.{is_file, is_node}
use Rattle.sh_kernel.specs.Signals.{after_signal, table_of}
use Rattle.sh_kernel.specs.State.{KernelState}
use Rattle.sh_kernel_descriptors.specs.Machine.{MachineState}
use Rattle.sh_kernel_descriptors.specs.declared.descriptor.Descriptor.{Descriptor}
use Rattle.sh_kernel_descriptors.specs.declared.descriptor.DescriptorRef.TheVariants.{Number}
use Rattle.sh_kernel_descriptors.specs.declared.description.Description.{Description}
use Rattle.sh_kernel_descriptors.specs.declared.description.Target.{Target}
use Rattle.sh_kernel_descriptors.specs.declared.description.Target.TheVariants.{File}
use Rattle.sh_kernel_processes.specs.Processes.{has_ended}
use Rattle.sh_kernel_processes.specs.declared.process.Process.{Process}
use Rattle.sh_kernel_processes.specs.Sending.{after_send, pids_of}
use Rattle.sh_kernel_processes.specs.declared.target.SignalTarget.TheVariants.{Group}
use Rattle.sh_laws.specs.Requests.{ChangesByRequests, opens_by}
use Rattle.sh_laws_pipelines.proofs.Beside.{Follows, leads_at, nothing_ends, reaches_less, same_number}
use Rattle.sh_laws_pipelines.specs.Joined.{Opened, ReadsFile, WritesFile}
use Rattle.sh_laws_pipelines.specs.Others.{IsBeside, OnlyReachFile, StillReadsFile}
use Rattle.sh_signal.specs.declared.signal.Signal.{Signal}
use Rattle.sh_tty.specs.Happenings as tty
use Rattle.sh_tty.specs.Keys.{key_of, signal_of}

-- what a process has open of a file, and what the file holds, stays
pub record LeavesFile (pid number place : ℕ) (old new : MachineState) : Type 0 where
  pub own : filter (λ (d : Descriptor). d.pid == pid) new.descriptors ≡ filter (λ (d : Descriptor). d.pid == pid) old.descriptors
  pub description : slice_get new.descriptions place ≡ slice_get old.descriptions place
  pub node : slice_get new.files.nodes number ≡ slice_get old.files.nodes number

opened_there : (pid number place descriptor : ℕ) (old new : MachineState) (o : Opened old pid descriptor (File number)) → o.place ≡ place → LeavesFile pid number place old new → Opened new pid descriptor (File number)
opened_there pid number place descriptor old new o same l =
    record {
      place = o.place;
      description = o.description;
      refers = same_number old.descriptors new.descriptors pid (Number descriptor) l.own ∙ o.refers;
      described = ap (λ (k : ℕ). slice_get new.descriptions k) same ∙ l.description ∙ ap (λ (k : ℕ). slice_get old.descriptions k) (sym same) ∙ o.described;
      leads = o.leads;
    }

pub reads_there : (old new : MachineState) (pid : ℕ) (given : List ℕ) (all : Bool) (read : List ℕ) (r : ReadsFile old pid given all read) → LeavesFile pid r.number r.opened.place old new → StillReadsFile new pid given all read r.number
unfolding opened_there
reads_there old new pid given all read r l =
    record {
      reads = record {
        number = r.number;
        opened = opened_there pid r.number r.opened.place 0 old new r.opened refl l;
        readable = r.readable;
        file = r.file;
        holds = l.node ∙ r.holds;
        content = r.content;
        begun = r.begun;
        offset = r.offset;
        whole = r.whole;
      };
      same_file = refl;
    }

pub writes_there : (old new : MachineState) (pid number : ℕ) (written : List ℕ) (w : WritesFile old pid number written) → LeavesFile pid number w.opened.place old new → WritesFile new pid number written
unfolding opened_there
writes_there old new pid number written w l =
    record {
      opened = opened_there pid number w.opened.place 1 old new w.opened refl l;
      writable = w.writable;
      file = w.file;
      holds = l.node ∙ w.holds;
      content = w.content;
      offset = w.offset;
    }

-- ---- requests of another process
module _ (s t : KernelState) (other : ℕ) (made : Option ℕ) (directory : List ℕ) (owners : ℕ → Bool) (c : ChangesByRequests other made directory s t) (beside : IsBeside owners other s.machine t.machine) where
  elsewhere : (q : ℕ) → owners q ≡ true → q ≢ other
  elsewhere q h e = let both : true ≡ false = sym h ∙ ap owners e ∙ beside.apart in cc

  leaves_file : (pid number place : ℕ) (e : Description) (x : Node) → owners pid ≡ true → slice_get s.machine.descriptions place ≡ Some e → e.target ≡ File number → slice_get s.machine.files.nodes number ≡ Some x
      → OnlyReachFile owners s.machine number → opens_by s c.requests number ≡ false → LeavesFile pid number place s.machine t.machine
  leaves_file pid number place e x owner there leads holds alone unopened =
      let is : is_file s.machine.descriptions number place ≡ true = leads_at (is_node number) s.machine.descriptions place e there (ap (λ (target : Target). is_node number target) leads ∙ eq-eqb number number refl) in
      let follows : Follows (λ j. j == place) (is_file s.machine.descriptions number) = λ j h. ap (λ (n : ℕ). is_file s.machine.descriptions number n) (eqb-true j place h) ∙ is in
      record {
        own = c.changes.descriptors pid (elsewhere pid owner) (beside.there pid owner) (λ sent. beside.alive pid owner);
        description = c.changes.descriptions place (slice_get_within s.machine.descriptions place e there) (reaches_less s.machine.descriptors other (λ j. j == place) (is_file s.machine.descriptions number) follows (alone other beside.apart));
        node = c.changes.files number (slice_get_within s.machine.files.nodes number x holds) (alone other beside.apart) unopened;
      }

  pub others_still_read : (pid : ℕ) (given : List ℕ) (all : Bool) (read : List ℕ) → owners pid ≡ true → (r : ReadsFile s.machine pid given all read) → OnlyReachFile owners s.machine r.number → opens_by s c.requests r.number ≡ false
      → StillReadsFile t.machine pid given all read r.number
  others_still_read pid given all read owner r alone unopened =
      reads_there s.machine t.machine pid given all read r (leaves_file pid r.number r.opened.place r.opened.description _ owner r.opened.described r.opened.leads r.holds alone unopened)

  pub others_still_write : (pid number : ℕ) (written : List ℕ) → owners pid ≡ true → WritesFile s.machine pid number written → OnlyReachFile owners s.machine number → opens_by s c.requests number ≡ false → WritesFile t.machine pid number written
  others_still_write pid number written owner w alone unopened =
      writes_there s.machine t.machine pid number written w (leaves_file pid number w.opened.place w.opened.description _ owner w.opened.described w.opened.leads w.holds alone unopened)

-- ---- keys
pub endings_leave_file : (pid number place : ℕ) (m : MachineState) (ps : List Process) (m' : MachineState) → Endings m ps m' → has_ended m'.processes pid ≡ false → LeavesFile pid number place m m'
endings_leave_file pid number place m ps m' e alive =
    record {
      own = e.descriptors pid (ap (λ (xs : List Process). has_ended xs pid) (sym e.processes) ∙ alive);
      description = ap (λ (es : List Description). slice_get es place) e.descriptions;
      node = ap (λ files. slice_get files.nodes number) e.files;
    }

raised_leaves_file : (pid number place : ℕ) (s : KernelState) (signal : Option Signal) → has_ended (after_raising s signal).machine.processes pid ≡ false → LeavesFile pid number place s.machine (after_raising s signal).machine
raised_leaves_file pid number place s None alive = endings_leave_file pid number place s.machine s.machine.processes s.machine (nothing_ends s.machine) alive
raised_leaves_file pid number place s (Some signal) alive =
    let ps = (after_send (table_of s) (Group s.foreground) signal).processes in
    endings_leave_file pid number place s.machine ps (after_signal s (Group s.foreground) signal).machine (endings s.machine ps (pids_of s.members)) alive

pub key_leaves_file : (pid number place : ℕ) (s : KernelState) (byte : ℕ) → has_ended (after_key s byte).machine.processes pid ≡ false → LeavesFile pid number place s.machine (after_key s byte).machine
key_leaves_file pid number place s byte alive = raised_leaves_file pid number place (record s { terminal = tty.after_key byte s.terminal }) (signal_of (key_of byte)) alive

pub keys_still_read : (s : KernelState) (byte pid : ℕ) (given : List ℕ) (all : Bool) (read : List ℕ) → has_ended (after_key s byte).machine.processes pid ≡ false → (r : ReadsFile s.machine pid given all read) → StillReadsFile (after_key s byte).machine pid given all read r.number
keys_still_read s byte pid given all read alive r = reads_there s.machine (after_key s byte).machine pid given all read r (key_leaves_file pid r.number r.opened.place s byte alive)

pub keys_still_write : (s : KernelState) (byte pid number : ℕ) (written : List ℕ) → has_ended (after_key s byte).machine.processes pid ≡ false → WritesFile s.machine pid number written → WritesFile (after_key s byte).machine pid number written
keys_still_write s byte pid number written alive w = writes_there s.machine (after_key s byte).machine pid number written w (key_leaves_file pid number w.opened.place s byte alive)
