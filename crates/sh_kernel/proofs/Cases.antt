-- The changes of a machine of which a read and a write are made.
use Rattle.std.proofs.Common.{◌≡◌, ℕ, ◌+◌, List, [], ◌∷◌, length, Bool, true, false, cond, ◌&&◌, ◌||◌, ◌==◌, Option, Some, None, slice_get, slice_set, find, option_map, refl, sym, ap, ◌∙◌, Result, Ok, Err, eq-eqb}
use Rattle.std.specs.Option.{option_map_or}
use Rattle.sh_files.specs.Nodes.{FileMap, write_at, write_fits, is_empty}
use Rattle.sh_files.specs.declared.fault.FileFault.{FileFault}
use Rattle.sh_files.specs.declared.fault.FileFault.TheVariants.{TooLarge}
use Rattle.sh_pipe.specs.Pipe.{PipeState}
use Rattle.sh_kernel_descriptors.specs.Outcomes.{success, refusal}
use Rattle.sh_kernel_descriptors.specs.Machine.{MachineState}
use Rattle.sh_kernel_descriptors.specs.Descriptors.{description_number, has_reader, has_writer, is_called, is_named, reads_from, writes_to}
use Rattle.sh_kernel_descriptors.specs.Reading.{with_offset, read_described, read_found, read_node, read_pipe_of, read_slot, read_target, read_call}
use Rattle.sh_kernel_descriptors.specs.Writing.{content_written, on_files, write_call, write_described, write_found, write_pipe_of, write_slot, write_start, write_target}
use Rattle.sh_kernel_descriptors.specs.Writing as writing
use Rattle.sh_kernel_descriptors.specs.Reading as reading
use Rattle.sh_kernel_descriptors.specs.declared.descriptor.Descriptor.{Descriptor}
use Rattle.sh_kernel_descriptors.specs.declared.descriptor.DescriptorRef.{DescriptorRef}
use Rattle.sh_kernel_descriptors.specs.declared.descriptor.DescriptorRef.TheVariants.{Number}
use Rattle.sh_kernel_descriptors.specs.declared.description.Description.{Description}
use Rattle.sh_kernel_descriptors.specs.declared.description.Target.{Target}
use Rattle.sh_kernel_descriptors.specs.declared.description.Target.TheVariants.{File, Terminal, Null, ReadEnd, WriteEnd}
use Rattle.sh_kernel_descriptors.specs.declared.fault.KernelFault.TheVariants.{BadDescriptor, BrokenPipe}
use Rattle.sh_kernel.specs.Reaching.{reaches, is_end, is_file, is_node}
use Rattle.sh_kernel_machine.proofs.Lists.{or_left, or_right}

-- a description that passes wherever the process reaches one that passes
pub record IsHeld (ds : List Descriptor) (pid k : ℕ) : Type 0 where
  pub fails : (test : ℕ → Bool) → reaches ds pid test ≡ false → test k ≡ false

one_fails : (a b : Bool) (j k : ℕ) (test : ℕ → Bool) (rest : Option Descriptor) (d : Descriptor) (r : Bool) → d.description ≡ j → option_map (λ (x : Descriptor). x.description) (cond (a && b) (Some d) rest) ≡ Some k → ((a && test j) || r) ≡ false → (option_map (λ (x : Descriptor). x.description) rest ≡ Some k → r ≡ false → test k ≡ false) → test k ≡ false
one_fails true true j k test rest d r e h f more = let same : d.description ≡ k = cc in ap test (sym same ∙ e) ∙ or_left (test j) r f
one_fails true false j k test rest d r e h f more = more h (or_right (test j) r f)
one_fails false b j k test rest d r e h f more = more h f

found_fails : (ds : List Descriptor) (pid : ℕ) (name : DescriptorRef) (k : ℕ) (test : ℕ → Bool) → description_number ds pid name ≡ Some k → reaches ds pid test ≡ false → test k ≡ false
found_fails [] pid name k test h r = absurd (cc)
found_fails (d ∷ ds) pid name k test h r =
    one_fails (d.pid == pid) (is_called name d) d.description k test (find (is_named pid name) ds) d (reaches ds pid test) refl h r (λ h' r'. found_fails ds pid name k test h' r')

pub found_held : (ds : List Descriptor) (pid : ℕ) (name : DescriptorRef) (k : ℕ) → description_number ds pid name ≡ Some k → IsHeld ds pid k
found_held ds pid name k h = record { fails = λ test r. found_fails ds pid name k test h r }

-- what a description is of
end_of_target : (es : List Description) (k pipe : ℕ) (e : Description) → slice_get es k ≡ Some e → (reads_from pipe e.target || writes_to pipe e.target) ≡ true → is_end es pipe k ≡ true
end_of_target es k pipe e there h = ap (λ (o : Option Description). option_map_or (λ (x : Description). reads_from pipe x.target || writes_to pipe x.target) o false) there ∙ h

file_of_target : (es : List Description) (k node : ℕ) (e : Description) → slice_get es k ≡ Some e → is_node node e.target ≡ true → is_file es node k ≡ true
file_of_target es k node e there h = ap (λ (o : Option Description). option_map_or (λ (x : Description). is_node node x.target) o false) there ∙ h

module _ (m : MachineState) (pid : ℕ) (P : MachineState → Type 0) where
  pub record ReadChanges : Type 0 where
    pub same : P m
    pub goes_on : (k offset : ℕ) → IsHeld m.descriptors pid k → P (record m { descriptions = with_offset m.descriptions k offset })
    pub pipe : (k pipe : ℕ) (slot : Option PipeState) → IsHeld m.descriptors pid k → is_end m.descriptions pipe k ≡ true → P (record m { pipes = slice_set m.pipes pipe slot })

  pub record WriteChanges : Type 0 where
    pub same : P m
    pub file : (k node start end : ℕ) (bytes : List ℕ) (files : FileMap) → IsHeld m.descriptors pid k → is_file m.descriptions node k ≡ true → write_at m.files node start bytes ≡ Ok files → P (record m { files = files; descriptions = with_offset m.descriptions k end })
    pub pipe : (k pipe : ℕ) (slot : Option PipeState) → IsHeld m.descriptors pid k → is_end m.descriptions pipe k ≡ true → P (record m { pipes = slice_set m.pipes pipe slot })

  read_slots : (k pipe n : ℕ) (w : Bool) → ReadChanges → IsHeld m.descriptors pid k → is_end m.descriptions pipe k ≡ true → (o : Option (Option PipeState)) → P (record m { pipes = (read_pipe_of m.pipes pipe w n o).after })
  read_slots k pipe n w c held end None = c.same
  read_slots k pipe n w c held end (Some slot) = c.pipe k pipe (read_slot w n slot).after held end

  read_targets : (k n : ℕ) (e : Description) → ReadChanges → IsHeld m.descriptors pid k → slice_get m.descriptions k ≡ Some e → (t : Target) → e.target ≡ t → P (read_target m n k e.offset t).after
  read_targets k n e c held there (File node) is = c.goes_on k (read_node m.files node e.offset n).after held
  read_targets k n e c held there Terminal is = c.same
  read_targets k n e c held there Null is = c.same
  read_targets k n e c held there (ReadEnd pipe) is =
      let ends : (reads_from pipe e.target || writes_to pipe e.target) ≡ true = rw is (ap (λ b. b || false) (eq-eqb pipe pipe refl)) in
      read_slots k pipe n (has_writer m.descriptors m.descriptions pipe) c held (end_of_target m.descriptions k pipe e there ends) (slice_get m.pipes pipe)
  read_targets k n e c held there (WriteEnd pipe) is = c.same

  read_describes : (k n : ℕ) → ReadChanges → IsHeld m.descriptors pid k → (o : Option Description) → slice_get m.descriptions k ≡ o → P (read_described m n k o).after
  read_describes k n c held None is = c.same
  read_describes k n c held (Some e) is =
      elim e.readable as (λ b. P (cond b (read_target m n k e.offset e.target) (refusal m BadDescriptor)).after) [
        | true ↦ read_targets k n e c held is e.target refl
        | false ↦ c.same
      ]

  read_finds : (name : DescriptorRef) (n : ℕ) → ReadChanges → (o : Option ℕ) → description_number m.descriptors pid name ≡ o → P (read_found m n o).after
  read_finds name n c None is = c.same
  read_finds name n c (Some k) is = read_describes k n c (found_held m.descriptors pid name k is) (slice_get m.descriptions k) refl

  pub read_by_cases : (name : DescriptorRef) (n : ℕ) → ReadChanges → P (read_call m pid name n).after
  read_by_cases name n c = read_finds name n c (description_number m.descriptors pid name) refl

  write_files : (k node start end count : ℕ) (bytes : List ℕ) → WriteChanges → IsHeld m.descriptors pid k → is_file m.descriptions node k ≡ true → (r : Result FileMap FileFault) → write_at m.files node start bytes ≡ r → P (on_files m k count (content_written m.files end r).after (content_written m.files end r).answer).after
  write_files k node start end count bytes c held file (Ok files) is = c.file k node start end bytes files held file is
  write_files k node start end count bytes c held file (Err fault) is = c.same

  write_limits : (k node start end count : ℕ) (bytes : List ℕ) → WriteChanges → IsHeld m.descriptors pid k → is_file m.descriptions node k ≡ true → (b : Bool) → P (on_files m k count (content_written m.files end (cond b (write_at m.files node start bytes) (Err TooLarge))).after (content_written m.files end (cond b (write_at m.files node start bytes) (Err TooLarge))).answer).after
  write_limits k node start end count bytes c held file true = write_files k node start end count bytes c held file (write_at m.files node start bytes) refl
  write_limits k node start end count bytes c held file false = c.same

  write_slots : (k pipe : ℕ) (bytes : List ℕ) → WriteChanges → IsHeld m.descriptors pid k → is_end m.descriptions pipe k ≡ true → (o : Option (Option PipeState)) → P (record m { pipes = (write_pipe_of m.pipes pipe bytes o).after })
  write_slots k pipe bytes c held end None = c.same
  write_slots k pipe bytes c held end (Some slot) = c.pipe k pipe (write_slot bytes slot).after held end

  write_targets : (k : ℕ) (bytes : List ℕ) (e : Description) → WriteChanges → IsHeld m.descriptors pid k → slice_get m.descriptions k ≡ Some e → (t : Target) → e.target ≡ t → P (write_target m bytes k e t).after
  write_targets k bytes e c held there (File node) is =
      let of_file : is_node node e.target ≡ true = rw is (eq-eqb node node refl) in
      let start = write_start m.files node e.append e.offset in
      write_limits k node start (start + length bytes) (length bytes) bytes c held (file_of_target m.descriptions k node e there of_file) (write_fits start bytes)
  write_targets k bytes e c held there Terminal is = c.same
  write_targets k bytes e c held there Null is = c.same
  write_targets k bytes e c held there (ReadEnd pipe) is = c.same
  write_targets k bytes e c held there (WriteEnd pipe) is =
      let ends : (reads_from pipe e.target || writes_to pipe e.target) ≡ true = rw is (eq-eqb pipe pipe refl) in
      elim (has_reader m.descriptors m.descriptions pipe) as (λ b. P (cond b (reading.on_pipes m (writing.write_pipe m.pipes pipe bytes)) (refusal m BrokenPipe)).after) [
        | true ↦ write_slots k pipe bytes c held (end_of_target m.descriptions k pipe e there ends) (slice_get m.pipes pipe)
        | false ↦ c.same
      ]

  write_describes : (k : ℕ) (bytes : List ℕ) → WriteChanges → IsHeld m.descriptors pid k → (o : Option Description) → slice_get m.descriptions k ≡ o → P (write_described m bytes k o).after
  write_describes k bytes c held None is = c.same
  write_describes k bytes c held (Some e) is = of_tests e.writable (is_empty bytes)
    where
      of_tests : (a b : Bool) → P (cond a (cond b (success 0 m) (write_target m bytes k e e.target)) (refusal m BadDescriptor)).after
      of_tests true true = c.same
      of_tests true false = write_targets k bytes e c held is e.target refl
      of_tests false b = c.same

  write_finds : (number : ℕ) (bytes : List ℕ) → WriteChanges → (o : Option ℕ) → description_number m.descriptors pid (Number number) ≡ o → P (write_found m bytes o).after
  write_finds number bytes c None is = c.same
  write_finds number bytes c (Some k) is = write_describes k bytes c (found_held m.descriptors pid (Number number) k is) (slice_get m.descriptions k) refl

  pub write_by_cases : (number : ℕ) (bytes : List ℕ) → WriteChanges → P (write_call m pid number bytes).after
  write_by_cases number bytes c = write_finds number bytes c (description_number m.descriptors pid (Number number)) refl
