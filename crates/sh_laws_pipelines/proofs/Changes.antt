-- What a turn of a stage's process changes, for the processes of other stages.
use Rattle.std.proofs.Common.{◌≡◌, ◌≢◌, ℕ, zero, suc, ◌==◌, ◌&&◌, ◌||◌, List, [], ◌∷◌, length, Bool, true, false, cond, Option, Some, None, slice_get, slice_set, refl, sym, ap, ◌∙◌, eq-eqb, eqb-true}
use Rattle.std.specs.List.{list_any}
use Rattle.std.specs.Option.{option_map_or}
use Rattle.sh_files.specs.Nodes.{FileMap}
use Rattle.sh_files_image.specs.Contents.{Regular}
use Rattle.sh_files_image.specs.declared.node.Node.{Node}
use Rattle.sh_files_image.specs.declared.node.Node.TheVariants as node
use Rattle.sh_kernel.proofs.Endings.{endings}
use Rattle.sh_kernel.specs.Calls.{kill_call}
use Rattle.sh_kernel.specs.Reaching.{is_end, reaches}
use Rattle.sh_kernel.specs.Signals.{after_signal, table_of}
use Rattle.sh_kernel.specs.State.{KernelState}
use Rattle.sh_kernel_descriptors.specs.Descriptors.{reads_from, writes_to}
use Rattle.sh_kernel_descriptors.specs.Machine.{MachineState}
use Rattle.sh_kernel_descriptors.specs.Outcomes.{refusal, success}
use Rattle.sh_kernel_descriptors.specs.declared.descriptor.Descriptor.{Descriptor}
use Rattle.sh_kernel_descriptors.specs.declared.description.Description.{Description}
use Rattle.sh_kernel_descriptors.specs.declared.description.Target.{Target}
use Rattle.sh_kernel_descriptors.specs.declared.description.Target.TheVariants.{File}
use Rattle.sh_kernel_descriptors.specs.declared.fault.KernelFault.TheVariants.{NoProcess}
use Rattle.sh_kernel_machine.proofs.Lists.{other_place}
use Rattle.sh_kernel_processes.specs.Processes.{has_ended}
use Rattle.sh_kernel_processes.specs.Sending as sending
use Rattle.sh_kernel_processes.specs.Sending.{after_send, pids_of}
use Rattle.sh_kernel_processes.specs.declared.target.SignalTarget.{SignalTarget}
use Rattle.sh_pipe.specs.Pipe.{PipeState}
use Rattle.sh_laws_pipelines.proofs.Beside.{Leaves, leads, signals_leave}
use Rattle.sh_laws_pipelines.proofs.LeavingFiles.{LeavesFile, endings_leave_file}
use Rattle.sh_laws_pipelines.specs.Others.{AllGoOn}
use Rattle.sh_laws_pipelines.specs.Joined.{with_content, with_offset, with_pipe}
use Rattle.sh_signal.specs.declared.signal.Signal.{Signal}

-- a pipe that the process reaches holds something else; or the pipes are left as they are
pub data PipeChange (actor : ℕ) (s t : KernelState) : Type 0 where
  Piped : (pipe : ℕ) (old new : PipeState) → slice_get s.machine.pipes pipe ≡ Some (Some old) → reaches s.machine.descriptors actor (is_end s.machine.descriptions pipe) ≡ true → t ≡ with_pipe s pipe new → PipeChange actor s t
  Calm : ((owners : ℕ → Bool) → AllGoOn owners t.machine → Leaves owners s.machine t.machine) → PipeChange actor s t

-- and files are left as they are, but for one that it touched
pub record Changed (actor : ℕ) (touched : Option ℕ) (s t : KernelState) : Type 0 where
  pub pipes : PipeChange actor s t
  pub files : (pid number place : ℕ) (e : Description) → slice_get s.machine.descriptions place ≡ Some e → e.target ≡ File number → touched ≢ Some number → has_ended t.machine.processes pid ≡ false → LeavesFile pid number place s.machine t.machine

-- ---- nothing changes
pub leaves_same : (owners : ℕ → Bool) (m : MachineState) → Leaves owners m m
leaves_same owners m = record { own = λ q h. refl; pipes = λ pipe inside alone. refl; alone = λ pipe inside alone. alone; descriptions = λ k pipe inside ends alone. refl; targets = λ f k h. h }

abbrev pub changed_nothing : (actor : ℕ) (s : KernelState) → Changed actor None s s
changed_nothing actor s = record { pipes = Calm (λ owners alive. leaves_same owners s.machine); files = λ pid number place e there leads untouched alive. record { own = refl; description = refl; node = refl } }

-- ---- a pipe
abbrev pub changed_pipe : (actor : ℕ) (s : KernelState) (pipe : ℕ) (old new : PipeState) → slice_get s.machine.pipes pipe ≡ Some (Some old) → reaches s.machine.descriptors actor (is_end s.machine.descriptions pipe) ≡ true → Changed actor None s (with_pipe s pipe new)
changed_pipe actor s pipe old new slot has =
    record { pipes = Piped pipe old new slot has refl; files = λ pid number place e there leads untouched alive. record { own = refl; description = refl; node = refl } }

-- ---- the offset of a description, and a file
leads_set : (f : Target → Bool) (es : List Description) (place : ℕ) (x : Description) (k : ℕ) (e : Description) → slice_get es place ≡ Some e → x.target ≡ e.target → leads f (slice_set es place x) k ≡ leads f es k
leads_set f [] place x k e there same = refl
leads_set f (y ∷ es) zero x zero e there same = let first : y ≡ e = cc in ap f same ∙ ap (λ (z : Description). f z.target) (sym first)
leads_set f (y ∷ es) zero x (suc k) e there same = refl
leads_set f (y ∷ es) (suc place) x zero e there same = refl
leads_set f (y ∷ es) (suc place) x (suc k) e there same = leads_set f es place x k e there same

reaches_alike : (ds : List Descriptor) (pid : ℕ) (f g : ℕ → Bool) → ((k : ℕ) → f k ≡ g k) → reaches ds pid f ≡ reaches ds pid g
reaches_alike [] pid f g same = refl
reaches_alike (d ∷ ds) pid f g same =
    ap (λ (b : Bool). ((d.pid == pid) && b) || reaches ds pid f) (same d.description) ∙ ap (λ (b : Bool). ((d.pid == pid) && g d.description) || b) (reaches_alike ds pid f g same)

-- a description of a file is no end of a pipe
no_end : (es : List Description) (pipe place number : ℕ) (e : Description) → slice_get es place ≡ Some e → e.target ≡ File number → is_end es pipe place ≡ false
no_end es pipe place number e there leads =
    ap (λ (o : Option Description). option_map_or (λ (z : Description). reads_from pipe z.target || writes_to pipe z.target) o false) there ∙ ap (λ (t : Target). reads_from pipe t || writes_to pipe t) leads

module _ (m : MachineState) (files : FileMap) (place number offset : ℕ) (e : Description) (there : slice_get m.descriptions place ≡ Some e) (is_of : e.target ≡ File number) where
  abbrev pub moved : Description
  moved = record e { offset = offset }

  abbrev pub after : MachineState
  after = record m { files = files; descriptions = slice_set m.descriptions place moved }

  end_stays : (k pipe : ℕ) → is_end m.descriptions pipe k ≡ true → (b : Bool) → (place == k) ≡ b → slice_get (slice_set m.descriptions place moved) k ≡ slice_get m.descriptions k
  end_stays k pipe ends true is =
      let both : true ≡ false = sym ends ∙ (ap (λ (n : ℕ). is_end m.descriptions pipe n) (sym (eqb-true place k is)) ∙ no_end m.descriptions pipe place number e there is_of) in absurd (cc)
  end_stays k pipe ends false is = other_place m.descriptions place k moved (λ h. let both : true ≡ false = sym (eq-eqb place k h) ∙ is in cc)

  pub leaves_moved : (owners : ℕ → Bool) → Leaves owners m after
  leaves_moved owners =
      record {
        own = λ q h. refl;
        pipes = λ pipe inside alone. refl;
        alone = λ pipe inside alone q h.
            reaches_alike m.descriptors q (is_end (slice_set m.descriptions place moved) pipe) (is_end m.descriptions pipe) (λ k. leads_set (λ t. reads_from pipe t || writes_to pipe t) m.descriptions place moved k e there refl) ∙ alone q h;
        descriptions = λ k pipe inside ends alone. end_stays k pipe ends (place == k) refl;
        targets = λ f k h. leads_set f m.descriptions place moved k e there refl ∙ h;
      }

  -- another file's description is another one
  pub other_description : (place' number' : ℕ) (e' : Description) → slice_get m.descriptions place' ≡ Some e' → e'.target ≡ File number' → number ≢ number' → slice_get (slice_set m.descriptions place moved) place' ≡ slice_get m.descriptions place'
  other_description place' number' e' there' is' other =
      other_place m.descriptions place place' moved (λ h.
      let one : Some e ≡ Some e' = sym there ∙ (ap (λ (n : ℕ). slice_get m.descriptions n) h ∙ there') in
      let two : e ≡ e' = cc in
      let three : File number ≡ File number' = sym is_of ∙ (ap (λ (z : Description). z.target) two ∙ is') in
      other (cc))

pub untouched : (number number' : ℕ) → Some number ≢ Some number' → number ≢ number'
untouched number number' h e = h (ap (λ (n : ℕ). Some n) e)

abbrev pub changed_offset : (actor : ℕ) (s : KernelState) (place number offset : ℕ) (e : Description) → slice_get s.machine.descriptions place ≡ Some e → e.target ≡ File number → Changed actor (Some number) s (with_offset s place e offset)
changed_offset actor s place number offset e there is_of =
    record {
      pipes = Calm (λ owners alive. leaves_moved s.machine s.machine.files place number offset e there is_of owners);
      files = λ pid number' place' e' there' is' h alive.
          record { own = refl; description = other_description s.machine s.machine.files place number offset e there is_of place' number' e' there' is' (untouched number number' h); node = refl };
    }

abbrev pub changed_content : (actor : ℕ) (s : KernelState) (place number : ℕ) (e : Description) (file : Regular) (bytes : List ℕ) → slice_get s.machine.descriptions place ≡ Some e → e.target ≡ File number → Changed actor (Some number) s (with_content s place e number file bytes)
changed_content actor s place number e file bytes there is_of =
    let x : Node = node.File (record file { bytes = bytes }) in
    let files : FileMap = record s.machine.files { nodes = slice_set s.machine.files.nodes number x } in
    record {
      pipes = Calm (λ owners alive. leaves_moved s.machine files place number (length bytes) e there is_of owners);
      files = λ pid number' place' e' there' is' h alive.
          record {
            own = refl;
            description = other_description s.machine files place number (length bytes) e there is_of place' number' e' there' is' (untouched number number' h);
            node = other_place s.machine.files.nodes number number' x (untouched number number' h);
          };
    }

-- ---- a signal
after_signal_files : (s : KernelState) (to : SignalTarget) (signal : Signal) (pid number place : ℕ) → has_ended (after_signal s to signal).machine.processes pid ≡ false → LeavesFile pid number place s.machine (after_signal s to signal).machine
after_signal_files s to signal pid number place alive =
    let ps = (after_send (table_of s) to signal).processes in
    endings_leave_file pid number place s.machine ps (after_signal s to signal).machine (endings s.machine ps (pids_of s.members)) alive

pub kill_leaves : (s : KernelState) (to : SignalTarget) (signal : Signal) (owners : ℕ → Bool) → AllGoOn owners (kill_call s to signal).after.machine → Leaves owners s.machine (kill_call s to signal).after.machine
kill_leaves s to signal owners alive = of_test (list_any (sending.reaches to) s.members) alive
  where
    of_test : (b : Bool) → let t = (cond b (success {A = Unit {0}} tt (after_signal s to signal)) (refusal s NoProcess)).after in AllGoOn owners t.machine → Leaves owners s.machine t.machine
    of_test true alive = signals_leave owners s to signal alive
    of_test false alive = leaves_same owners s.machine

pub kill_leaves_file : (s : KernelState) (to : SignalTarget) (signal : Signal) (pid number place : ℕ) → has_ended (kill_call s to signal).after.machine.processes pid ≡ false → LeavesFile pid number place s.machine (kill_call s to signal).after.machine
kill_leaves_file s to signal pid number place alive = of_test (list_any (sending.reaches to) s.members) alive
  where
    of_test : (b : Bool) → let t = (cond b (success {A = Unit {0}} tt (after_signal s to signal)) (refusal s NoProcess)).after in has_ended t.machine.processes pid ≡ false → LeavesFile pid number place s.machine t.machine
    of_test true alive = after_signal_files s to signal pid number place alive
    of_test false alive = record { own = refl; description = refl; node = refl }

abbrev pub changed_signal : (actor : ℕ) (s : KernelState) (to : SignalTarget) (signal : Signal) → Changed actor None s (kill_call s to signal).after
changed_signal actor s to signal =
    record { pipes = Calm (kill_leaves s to signal); files = λ pid number place e there leads untouched alive. kill_leaves_file s to signal pid number place alive }
