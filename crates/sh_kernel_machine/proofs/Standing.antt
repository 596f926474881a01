-- What is kept agrees with the state after each change of it.
use Rattle.std.proofs.Common.{◌≡◌, ℕ, ◌+◌, List, [], ◌∷◌, ◌++◌, length, Bool, true, false, not, cond, is_none, ◌&&◌, ◌==◌, Option, Some, None, slice_get, Result, Ok, refl, sym, ap, ◌∙◌, arith, subst}
use Rattle.std.specs.Prelude.{IfNone, IfSome}
use Rattle.std.specs.Option.{option_map}
use Rattle.slab.specs.Slab.{Slab}
use Rattle.sh_files.specs.Nodes.{FileMap}
use Rattle.sh_files.specs.declared.opening.Opening.{Opening}
use Rattle.sh_pipe.specs.Pipe.{PipeState}
use Rattle.sh_kernel_descriptors.specs.Closings.{Pipes, descriptors_left, pipe_of, pipes_left}
use Rattle.sh_kernel_descriptors.specs.Counts as counts
use Rattle.sh_kernel_descriptors.specs.Counts.{ends_listed, ends_pipes, with_ends, with_new}
use Rattle.sh_kernel_descriptors.specs.Descriptors as names
use Rattle.sh_kernel_descriptors.specs.Kept.{Among, IsCounted, IsPaired, Linked, PipesAgree, listed}
use Rattle.sh_kernel_descriptors.specs.Machine.{MachineState, after_close, after_fork}
use Rattle.sh_kernel_descriptors.specs.Naming.{after_renaming, is_description, with_number, with_pipe}
use Rattle.sh_kernel_descriptors.specs.Copies.{copies}
use Rattle.sh_kernel_processes.specs.Processes.{next_pid}
use Rattle.sh_kernel_processes.specs.declared.process.Process.{Process}
use Rattle.sh_kernel_processes.specs.declared.process.Status.TheVariants.{Running}
use Rattle.std.specs.Prelude.{find}
use Rattle.std.proofs.lemmas.Bool.{eqb-true}
use Rattle.sh_kernel_descriptors.specs.Opening.{description_of, open_result, target_of, with_node}
use Rattle.sh_kernel_descriptors.specs.Outcomes.{GivesTo}
use Rattle.sh_files.specs.declared.fault.FileFault.{FileFault}
use Rattle.sh_files_image.specs.declared.node.Node.{Node}
use Rattle.sh_files_image.specs.declared.node.Node.TheVariants as node
use Rattle.sh_kernel_descriptors.specs.declared.descriptor.Closing.{Closing}
use Rattle.sh_kernel_descriptors.specs.declared.descriptor.Closing.TheVariants.{Named}
use Rattle.sh_kernel_descriptors.specs.declared.descriptor.DescriptorRef.{DescriptorRef}
use Rattle.sh_kernel_descriptors.specs.declared.descriptor.DescriptorRef.TheVariants.{Aside, Number}
use Rattle.sh_kernel_descriptors.specs.declared.description.Description.{Description}
use Rattle.sh_kernel_descriptors.specs.declared.kept.Entry.{Entry}
use Rattle.sh_kernel_descriptors.specs.declared.kept.Held.{Held}
use Rattle.sh_kernel_descriptors.proofs.Finding.{found_among, found_number}
use Rattle.sh_kernel_machine.specs.Machine.{MachineKept, StandsAt}
use Rattle.sh_kernel_machine.specs.Tables.{Changes, SameTables, own}
use Rattle.sh_kernel_machine.proofs.Owning.{ends_changed, forked_changed, left_changed, renamed_changed, number_same, pipes_same, with_changed, with_given, with_same}
use Rattle.sh_kernel_machine.proofs.Closing.{pipes_left_length}

-- ---- what is found
number_of : (m : MachineKept) (s : MachineState) (pid : ℕ) (name : DescriptorRef) → StandsAt m s → option_map (λ h. h.descriptor.description) (counts.find m.held pid name) ≡ names.description_number s.descriptors pid name
number_of m s pid name st = found_number m.held pid name ∙ number_same pid name (listed m.held) s.descriptors (st.descriptors pid)

pub looked_none : (m : MachineKept) (s : MachineState) (pid : ℕ) (name : DescriptorRef) (o : Option Held) → o ≡ counts.find m.held pid name → StandsAt m s → IfNone o (names.description_number s.descriptors pid name ≡ None)
looked_none m s pid name None e st = sym (number_of m s pid name st) ∙ ap (λ x. option_map (λ (h : Held). h.descriptor.description) x) (sym e)
looked_none m s pid name (Some h) e st = tt

pub looked_some : (m : MachineKept) (s : MachineState) (pid : ℕ) (name : DescriptorRef) (o : Option Held) → o ≡ counts.find m.held pid name → StandsAt m s → IfSome o (λ h. names.description_number s.descriptors pid name ≡ Some h.descriptor.description)
looked_some m s pid name None e st = tt
looked_some m s pid name (Some h) e st = sym (number_of m s pid name st) ∙ ap (λ x. option_map (λ (h : Held). h.descriptor.description) x) (sym e)

pub looked_among : (hs : List Held) (pid : ℕ) (name : DescriptorRef) (o : Option Held) → o ≡ counts.find hs pid name → IfSome o (λ h. Among h hs)
looked_among hs pid name None e = tt
looked_among hs pid name (Some h) e = found_among hs pid name h (sym e)

-- ---- closing
pub closes : (m : MachineKept) (hs : List Held) (entries : Slab Entry) (pipes : List (ℕ × PipeState)) (s : MachineState) (pid : ℕ) (closing : Closing) → StandsAt m s → IsCounted m.entries m.held
    → Changes pid m.held hs (descriptors_left pid closing (own pid (listed m.held)))
    → ((es : List Description) → IsCounted m.entries m.held → Linked m.held m.entries es → Linked hs entries es)
    → ((es : List Description) (ps : Pipes) → Linked m.held m.entries es → PipesAgree m.pipes ps → PipesAgree pipes (pipes_left pid closing (listed m.held) es ps))
    → StandsAt (record m { held = hs; entries = entries; pipes = pipes }) (after_close s pid closing)
closes m hs entries pipes s pid closing st c e l p = record {
  processes = st.processes;
  descriptors = left_changed pid closing m.held hs s.descriptors e st.descriptors;
  descriptions = l s.descriptions c st.descriptions;
  described = st.described;
  pipes = λ q. p s.descriptions s.pipes st.descriptions st.pipes q ∙ pipes_same pid closing (listed m.held) s.descriptors s.descriptions s.pipes s.pipes q st.descriptors refl;
  piped = st.piped ∙ sym (pipes_left_length pid closing s.descriptors s.descriptions s.pipes);
  files = st.files;
}

-- ---- one more descriptor
pub refers : (m : MachineKept) (hs : List Held) (entries : Slab Entry) (pipes : List (ℕ × PipeState)) (s : MachineState) (pid number k : ℕ) → StandsAt m s
    → Changes pid m.held hs (with_given pid number k (own pid (listed m.held)))
    → ((es : List Description) → Linked m.held m.entries es → Linked hs entries es)
    → ((es : List Description) (ps : Pipes) → Linked m.held m.entries es → PipesAgree m.pipes ps → PipesAgree pipes (pipes_left pid (Named (Number number)) (listed m.held) es ps))
    → StandsAt (record m { held = hs; entries = entries; pipes = pipes }) (with_number s pid number k)
refers m hs entries pipes s pid number k st e l p = record {
  processes = st.processes;
  descriptors = with_changed pid number k m.held hs s.descriptors e st.descriptors;
  descriptions = l s.descriptions st.descriptions;
  described = st.described;
  pipes = λ q. p s.descriptions s.pipes st.descriptions st.pipes q ∙ pipes_same pid (Named (Number number)) (listed m.held) s.descriptors s.descriptions s.pipes s.pipes q st.descriptors refl;
  piped = st.piped ∙ sym (pipes_left_length pid (Named (Number number)) s.descriptors s.descriptions s.pipes);
  files = st.files;
}

-- ---- a new description
one_longer : {X : Type 0} (xs : List X) (x : X) → length (xs ++ x ∷ []) ≡ length xs + 1
one_longer [] x = omega arith
one_longer (y ∷ xs) x = omega (arith, one_longer xs x)

two_longer : {X : Type 0} (xs : List X) (x y : X) → length (xs ++ x ∷ y ∷ []) ≡ length xs + 2
two_longer [] x y = omega arith
two_longer (z ∷ xs) x y = omega (arith, two_longer xs x y)

pub opens : (m : MachineKept) (hs : List Held) (entries : Slab Entry) (pipes : List (ℕ × PipeState)) (files : FileMap) (described : ℕ) (s : MachineState) (pid number node : ℕ) (how : Opening) (append : Bool) (d : Description) → described ≡ m.described + 1 → d ≡ description_of (target_of node (slice_get files.nodes node)) how append → StandsAt m s → IsCounted m.entries m.held
    → Changes pid m.held hs (with_given pid number m.described (own pid (listed m.held)))
    → ((es : List Description) → m.described ≡ length es → IsCounted m.entries m.held → Linked m.held m.entries es → Linked hs entries (es ++ d ∷ []))
    → ((es : List Description) (ps : Pipes) → m.described ≡ length es → IsCounted m.entries m.held → Linked m.held m.entries es → PipesAgree m.pipes ps → PipesAgree pipes (pipes_left pid (Named (Number number)) (listed m.held) (es ++ d ∷ []) ps))
    → StandsAt (record m { held = hs; entries = entries; pipes = pipes; described = described; files = files }) (with_number (with_node s how append node files) pid number (length s.descriptions))
opens m hs entries pipes files described s pid number node how append d more is st c e l p =
    subst (λ x. StandsAt (record m { held = hs; entries = entries; pipes = pipes; described = described; files = files }) (with_number (record s { files = files; descriptions = s.descriptions ++ x ∷ [] }) pid number (length s.descriptions))) is
    (record {
      processes = st.processes;
      descriptors = subst (λ k. SameTables (listed hs) (with_given pid number k s.descriptors)) st.described (with_changed pid number m.described m.held hs s.descriptors e st.descriptors);
      descriptions = l s.descriptions st.described c st.descriptions;
      described = more ∙ ap (λ k. k + 1) st.described ∙ sym (one_longer s.descriptions d);
      pipes = λ q. p s.descriptions s.pipes st.described c st.descriptions st.pipes q ∙ pipes_same pid (Named (Number number)) (listed m.held) s.descriptors (s.descriptions ++ d ∷ []) s.pipes s.pipes q st.descriptors refl;
      piped = st.piped ∙ sym (pipes_left_length pid (Named (Number number)) s.descriptors (s.descriptions ++ d ∷ []) s.pipes);
      files = refl;
    })

-- the call of a file that was opened
pub opened_call : (m : MachineKept) (files : FileMap) (s : MachineState) (pid number node : ℕ) (how : Opening) (append : Bool) (r : Result (ℕ × FileMap) FileFault) → r ≡ Ok (node, files) → StandsAt m (with_number (with_node s how append node files) pid number (length s.descriptions)) → GivesTo (StandsAt m) (Ok tt) (open_result s pid how append number r)
opened_call m files s pid number node how append r e st = subst (λ x. GivesTo (StandsAt m) (Ok tt) (open_result s pid how append number x)) (sym e) (refl, st)

-- ---- more room
pub with_room : (m : MachineKept) (hs : List Held) (entries : Slab Entry) (s : MachineState) → hs ≡ m.held → entries ≡ record m.entries { capacity = entries.capacity } → StandsAt m s → StandsAt (record m { held = hs; entries = entries }) s
with_room m hs entries s e f st =
    subst (λ xs. StandsAt (record m { held = xs; entries = entries }) s) (sym e)
    (subst (λ slab. StandsAt (record m { entries = slab }) s) (sym f)
    (record {
      processes = st.processes;
      descriptors = st.descriptors;
      descriptions = record { descriptions = st.descriptions.descriptions; keys = st.descriptions.keys };
      described = st.described;
      pipes = st.pipes;
      piped = st.piped;
      files = st.files;
    }))

pub counted_room : (hs hs' : List Held) (entries entries' : Slab Entry) → hs' ≡ hs → entries' ≡ record entries { capacity = entries'.capacity } → IsCounted entries hs → IsCounted entries' hs'
counted_room hs hs' entries entries' e f c =
    subst (λ xs. IsCounted entries' xs) (sym e) (subst (λ slab. IsCounted slab hs) (sym f) c)

pub with_numbers : (m : MachineKept) (described piped : ℕ) (s : MachineState) → described ≡ m.described → piped ≡ m.piped → StandsAt m s → StandsAt (record m { described = described; piped = piped }) s
with_numbers m described piped s d p st = record {
  processes = st.processes;
  descriptors = st.descriptors;
  descriptions = st.descriptions;
  described = d ∙ st.described;
  pipes = st.pipes;
  piped = p ∙ st.piped;
  files = st.files;
}

-- ---- a new pipe
pub pipes : (m : MachineKept) (hs : List Held) (entries : Slab Entry) (left : List (ℕ × PipeState)) (described piped : ℕ) (s : MachineState) (pid from to : ℕ) → described ≡ m.described + 2 → piped ≡ m.piped + 1 → StandsAt m s → IsCounted m.entries m.held
    → Changes pid m.held hs (ends_listed pid from to m.described (own pid (listed m.held)))
    → ((es : List Description) → m.described ≡ length es → IsCounted m.entries m.held → Linked m.held m.entries es → Linked hs entries (with_ends m.piped es))
    → ((es : List Description) (ps : Pipes) → m.described ≡ length es → m.piped ≡ length ps → IsCounted m.entries m.held → Linked m.held m.entries es → PipesAgree m.pipes ps → PipesAgree left (ends_pipes pid from to m.described (listed m.held) (with_ends m.piped es) (with_new ps)))
    → StandsAt (record m { held = hs; entries = entries; pipes = left; described = described; piped = piped }) (with_number (with_number (with_pipe s) pid from (length s.descriptions)) pid to (length s.descriptions + 1))
pipes m hs entries left described piped s pid from to two one st c e l p =
    let more = with_ends (length s.pipes) s.descriptions in
    record {
      processes = st.processes;
      descriptors = subst (λ k. SameTables (listed hs) (ends_listed pid from to k s.descriptors)) st.described (ends_changed pid from to m.described m.held hs s.descriptors e st.descriptors);
      descriptions = subst (λ n. Linked hs entries (with_ends n s.descriptions)) st.piped (l s.descriptions st.described c st.descriptions);
      described = two ∙ ap (λ k. k + 2) st.described ∙ sym (two_longer s.descriptions _ _);
      pipes = subst (λ k. PipesAgree left (ends_pipes pid from to k s.descriptors more (with_new s.pipes))) st.described (λ q.
          subst (λ n. PipesAgree left (ends_pipes pid from to m.described (listed m.held) (with_ends n s.descriptions) (with_new s.pipes))) st.piped (p s.descriptions s.pipes st.described st.piped c st.descriptions st.pipes) q
          ∙ pipes_same pid (Named (Number to)) (with_given pid from m.described (listed m.held)) (with_given pid from m.described s.descriptors) more _ _ q (with_same pid from m.described (listed m.held) s.descriptors st.descriptors)
          (pipes_same pid (Named (Number from)) (listed m.held) s.descriptors more (with_new s.pipes) (with_new s.pipes) q st.descriptors refl));
      piped = one ∙ ap (λ k. k + 1) st.piped ∙ sym (one_longer s.pipes (Some (record { bytes = []; capacity = 4096 })))
          ∙ sym (pipes_left_length pid (Named (Number from)) s.descriptors more (with_new s.pipes))
          ∙ sym (pipes_left_length pid (Named (Number to)) (with_number (with_pipe s) pid from (length s.descriptions)).descriptors more (pipes_left pid (Named (Number from)) s.descriptors more (with_new s.pipes)));
      files = st.files;
    }

pub paired_room : (made : ℕ) (entries entries' : Slab Entry) → entries' ≡ record entries { capacity = entries'.capacity } → IsPaired made entries → IsPaired made entries'
paired_room made entries entries' f p =
    subst (λ slab. IsPaired made slab) (sym f) (record { keys = p.keys; reads = p.reads; writes = p.writes; numbers = p.numbers })

-- what is opened by a path is no end of a pipe
pub no_end : (n : ℕ) (o : Option Node) → pipe_of (target_of n o) ≡ None
no_end n None = refl
no_end n (Some node.Directory) = refl
no_end n (Some (node.File file)) = refl
no_end n (Some node.Null) = refl
no_end n (Some node.Terminal) = refl

-- ---- a descriptor gets another number
pub renames : (m : MachineKept) (hs : List Held) (s : MachineState) (pid : ℕ) (name : DescriptorRef) (number : Option ℕ) → StandsAt m s → Changes pid m.held hs (after_renaming (own pid (listed m.held)) pid name number) → ((es : List Description) → Linked m.held m.entries es → Linked hs m.entries es)
    → StandsAt (record m { held = hs }) (record s { descriptors = after_renaming s.descriptors pid name number })
renames m hs s pid name number st e l = record {
  processes = st.processes;
  descriptors = renamed_changed pid name number m.held hs s.descriptors e st.descriptors;
  descriptions = l s.descriptions st.descriptions;
  described = st.described;
  pipes = st.pipes;
  piped = st.piped;
  files = st.files;
}

-- ---- a fork
pub forks : (m : MachineKept) (hs : List Held) (entries : Slab Entry) (ps : List Process) (s : MachineState) (pid child : ℕ) → ps ≡ m.processes ++ record { maker = pid; status = Running } ∷ [] → child ≡ next_pid m.processes → StandsAt m s
    → Changes child m.held hs (own child (listed m.held) ++ copies (own pid (listed m.held)) pid child) → ((es : List Description) → Linked m.held m.entries es → Linked hs entries es)
    → StandsAt (record m { processes = ps; held = hs; entries = entries }) (after_fork s pid)
forks m hs entries ps s pid child more number st e l = record {
  processes = more ∙ ap (λ all. all ++ record { maker = pid; status = Running } ∷ []) st.processes;
  descriptors = subst (λ k. SameTables (listed hs) (s.descriptors ++ copies s.descriptors pid k)) (number ∙ ap (λ all. next_pid all) st.processes) (forked_changed pid child m.held hs s.descriptors e st.descriptors);
  descriptions = l s.descriptions st.descriptions;
  described = st.described;
  pipes = st.pipes;
  piped = st.piped;
  files = st.files;
}

-- ---- a descriptor that is found isn't closed by a number that refers to another description
passes : (pid : ℕ) (name : DescriptorRef) (hs : List Held) (h : Held) → counts.find hs pid name ≡ Some h → counts.is_of_name pid name h ≡ true
passes pid name [] h e = absurd (cc)
passes pid name (g ∷ hs) h e = of_test (counts.is_of_name pid name g) refl (passes pid name hs h) e
  where
    of_test : (b : Bool) → counts.is_of_name pid name g ≡ b → (counts.find hs pid name ≡ Some h → counts.is_of_name pid name h ≡ true) → option_map (λ (x : Held). x) (cond b (Some g) (find (counts.is_of_name pid name) hs)) ≡ Some h → counts.is_of_name pid name h ≡ true
    of_test true t f s = let u : g ≡ h = cc in ap (λ x. counts.is_of_name pid name x) (sym u) ∙ t
    of_test false t f s = f s

second : (a b : Bool) → (a && b) ≡ true → b ≡ true
second true b e = e
second false b e = absurd (cc)

pub stays_found : (pid : ℕ) (name : DescriptorRef) (to : ℕ) (hs : List Held) (h : Held) → counts.find hs pid name ≡ Some h → is_description h.descriptor.description (option_map (λ (x : Held). x.descriptor.description) (counts.find hs pid (Number to))) ≡ false
    → counts.stays pid (Named (Number to)) h ≡ true
stays_found pid name to hs h e other = of_goes (names.is_named pid (Number to) h.descriptor) refl
  where
    same : (number : Option ℕ) (k : DescriptorRef) → h.descriptor.number ≡ number → counts.find hs pid k ≡ Some h → (k ≡ name) → names.is_called k h.descriptor ≡ true → names.is_number to number ≡ true → ⊥
    same None (Number n) i f s t u = absurd (cc)
    same (Some m) (Number n) i f s t u =
        let v : names.is_number n (Some m) ≡ true = ap (λ o. names.is_number n o) (sym i) ∙ t in
        let w : n ≡ to = sym (eqb-true m n v) ∙ eqb-true m to u in
        let found : counts.find hs pid (Number to) ≡ Some h = ap (λ j. counts.find hs pid (Number j)) (sym w) ∙ f in
        let yes : true ≡ false = (let r : (h.descriptor.description == h.descriptor.description) ≡ true = grind arith in sym r) ∙ sym (ap (λ o. is_description h.descriptor.description (option_map (λ (x : Held). x.descriptor.description) o)) found) ∙ other in absurd (cc)
    same None (Aside d) i f s t u = absurd (cc)
    same (Some m) (Aside d) i f s t u =
        let v : (is_none (Some m) && (h.descriptor.description == d)) ≡ true = ap (λ (o : Option ℕ). is_none o && (h.descriptor.description == d)) (sym i) ∙ t in absurd (cc)

    of_goes : (b : Bool) → names.is_named pid (Number to) h.descriptor ≡ b → not b ≡ true
    of_goes false t = refl
    of_goes true t = absurd (same h.descriptor.number name refl e refl (second (h.descriptor.pid == pid) (names.is_called name h.descriptor) (passes pid name hs h e)) (second (h.descriptor.pid == pid) (names.is_number to h.descriptor.number) t))
