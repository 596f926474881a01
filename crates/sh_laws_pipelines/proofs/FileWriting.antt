-- Writes to a file at its end.
use Rattle.std.proofs.Common.{◌≡◌, ℕ, ◌+◌, ◌-◌, List, [], ◌∷◌, ◌++◌, length, take, drop, replicate, Bool, true, false, cond, Option, Some, Result, Ok, Err, slice_get, slice_set, refl, sym, ap, ◌∙◌, arith, append-nil, length-append, drop_of_length-le, take_all, le_of_eq, le_refl, le-ltb}
use Rattle.std.proofs.lemmas.List.{take-append-le}
use Rattle.sh_exec_machine.specs.Transfers.{Giving, give_bytes}
use Rattle.sh_exec_machine.specs.declared.transfer.WriteOutcome.TheVariants as given
use Rattle.sh_files.specs.Nodes as files
use Rattle.sh_files.specs.Nodes.{FileMap, node_written, with_node, write_fits}
use Rattle.sh_files.specs.declared.fault.FileFault.{FileFault}
use Rattle.sh_files.specs.declared.fault.FileFault.TheVariants.{TooLarge}
use Rattle.sh_files_image.specs.Contents.{content_after_write}
use Rattle.sh_files_image.specs.declared.node.Node.{Node}
use Rattle.sh_files_image.specs.declared.node.Node.TheVariants as node
use Rattle.sh_kernel.specs.Calls.{write_call, write_machine}
use Rattle.sh_kernel.specs.State.{KernelState}
use Rattle.sh_kernel_descriptors.specs.Outcomes.{Done, refusal, success}
use Rattle.sh_kernel_descriptors.specs.Reading.{moved_of}
use Rattle.sh_kernel_descriptors.specs.Writing.{content_written, size_of, write_file, write_node, write_target}
use Rattle.sh_kernel_descriptors.specs.declared.description.Description.{Description}
use Rattle.sh_kernel_descriptors.specs.declared.description.Target.TheVariants.{File}
use Rattle.sh_kernel_descriptors.specs.declared.fault.KernelFault.TheVariants.{BadDescriptor}
use Rattle.sh_laws_pipelines.proofs.Writing.{giving, write_opened}
use Rattle.sh_laws_pipelines.specs.Joined.{WritesFile, with_content}

-- what is written at the end of a content comes behind it
at_end : (content : List ℕ) (offset byte : ℕ) (bytes : List ℕ) → offset ≡ length content → content_after_write content offset (byte ∷ bytes) ≡ content ++ byte ∷ bytes
at_end content offset byte bytes h =
    let end : ℕ = offset + length (byte ∷ bytes) in
    let pad : List ℕ = replicate {A = ℕ} (end - length content) 0 in
    let full : take offset (content ++ pad) ≡ content = take-append-le offset content pad (le_of_eq h) ∙ take_all offset content (le_of_eq (sym h)) in
    let none : drop end content ≡ [] = drop_of_length-le content (omega (arith, h)) in
    ap (λ (front : List ℕ). (front ++ (byte ∷ bytes)) ++ drop end content) full
    ∙ ap (λ (back : List ℕ). (content ++ (byte ∷ bytes)) ++ back) none
    ∙ append-nil (content ++ byte ∷ bytes)

module _ (s : KernelState) (pid number : ℕ) (byte : ℕ) (bytes : List ℕ) (written : List ℕ) (w : WritesFile s.machine pid number written) where
  abbrev place : ℕ
  place = w.opened.place

  -- a write that begins here, as the files come of it
  abbrev done : (start : ℕ) → Result FileMap FileFault → Done KernelState ℕ
  done start r = write_machine s pid (write_file s.machine place number (byte ∷ bytes) (content_written s.machine.files (start + length (byte ∷ bytes)) r))

  abbrev target_done : (start : ℕ) → Done KernelState ℕ
  target_done start = write_machine s pid (write_file s.machine place number (byte ∷ bytes) (write_node s.machine.files number start (byte ∷ bytes)))

  starts : (append : Bool) → (append ≡ false → w.opened.description.offset ≡ length written) → cond append (size_of (slice_get s.machine.files.nodes number)) w.opened.description.offset ≡ length written
  starts true h = ap size_of w.holds ∙ ap length w.content
  starts false h = h refl

  -- the bytes come behind what the file holds
  abbrev contents : Result FileMap FileFault
  contents = with_node s.machine.files number (Ok (node.File (record w.file { bytes = content_after_write w.file.bytes (length written) (byte ∷ bytes) })))

  limited : write_fits (length written) (byte ∷ bytes) ≡ true → target_done (length written) ≡ done (length written) contents
  limited fits =
      ap (λ (f : Bool). done (length written) (cond f (files.write_at s.machine.files number (length written) (byte ∷ bytes)) (Err TooLarge))) fits
      ∙ ap (λ (n : Option Node). done (length written) (files.write_node s.machine.files number (length written) (byte ∷ bytes) n)) w.holds
      ∙ ap (λ (f : Bool). done (length written) (with_node s.machine.files number (cond f (Ok (node.File (record w.file { bytes = content_after_write w.file.bytes (length written) (byte ∷ bytes) }))) (Err TooLarge)))) fits

  abbrev left : Option Description → (content : List ℕ) → (offset : ℕ) → Done KernelState ℕ
  left e content offset =
      success (length (byte ∷ bytes)) (record s {
        machine = record s.machine {
          files = record s.machine.files { nodes = slice_set s.machine.files.nodes number (node.File (record w.file { bytes = content })) };
          descriptions = moved_of s.machine.descriptions place offset e;
        };
      })

  behind : content_after_write w.file.bytes (length written) (byte ∷ bytes) ≡ written ++ byte ∷ bytes
  behind = at_end w.file.bytes (length written) byte bytes (sym (ap length w.content)) ∙ ap (λ (c : List ℕ). c ++ byte ∷ bytes) w.content

  call : write_fits (length written) (byte ∷ bytes) ≡ true
      → write_call s pid 1 (byte ∷ bytes) ≡ success (length (byte ∷ bytes)) (with_content s place w.opened.description number w.file (written ++ byte ∷ bytes))
  call fits =
      let e = w.opened.description in
      write_opened s pid 1 (byte ∷ bytes) (File number) w.opened
      ∙ ap (λ (writable : Bool). write_machine s pid (cond writable (write_target s.machine (byte ∷ bytes) place e (File number)) (refusal s.machine BadDescriptor))) w.writable
      ∙ ap target_done (starts e.append w.offset)
      ∙ limited fits
      ∙ ap (λ (o : Option Description). left o (content_after_write w.file.bytes (length written) (byte ∷ bytes)) (length written + length (byte ∷ bytes))) w.opened.described
      ∙ ap (λ (content : List ℕ). left (Some e) content (length written + length (byte ∷ bytes))) behind
      ∙ ap (λ (offset : ℕ). left (Some e) (written ++ byte ∷ bytes) offset) (sym (length-append written (byte ∷ bytes)))

  pub file_given : write_fits (length written) (byte ∷ bytes) ≡ true
      → give_bytes s pid 1 (byte ∷ bytes) ≡ record { told = given.Whole; after = with_content s place w.opened.description number w.file (written ++ byte ∷ bytes) }
  unfolding give_bytes
  file_given fits =
      ap (giving (length (byte ∷ bytes))) (call fits)
      ∙ ap (λ (less : Bool). let g : Giving = record { told = cond less (given.Part (length (byte ∷ bytes))) given.Whole; after = with_content s place w.opened.description number w.file (written ++ byte ∷ bytes) } in g)
      (le-ltb (length (byte ∷ bytes)) (length (byte ∷ bytes)) (le_refl (length (byte ∷ bytes))))
