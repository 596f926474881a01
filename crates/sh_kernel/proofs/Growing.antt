-- Numbers only grow, and targets stay.
use Rattle.std.proofs.Common.{◌≡◌, ℕ, zero, suc, ◌+◌, ◌<◌, ◌≤◌, List, [], ◌∷◌, ◌++◌, length, Bool, true, false, cond, Option, Some, None, slice_get, slice_set, refl, sym, ap, ◌∙◌, arith, Result, Ok, Err, length-append, not, option_map}
use Rattle.sh_files.specs.Nodes.{FileMap, opened, write_at}
use Rattle.sh_files.specs.declared.fault.FileFault.{FileFault}
use Rattle.sh_files.specs.declared.fault.FileFault.TheVariants.{NoEntry, NoAccess}
use Rattle.std.specs.FinMap.{get, get-insert}
use Rattle.std.specs.Ordering.{nat_cmp, is_eq}
use Rattle.std.specs.Cmp.Lexicographic.{slice_cmp}
use Rattle.std.specs.declared.cmp.Ordering.{Ordering}
use Rattle.std.specs.declared.cmp.Ordering.TheVariants.{Less, Equal, Greater}
use Rattle.std.proofs.lemmas.Cmp.{nat_list_cmp_total}
use Rattle.std.proofs.lemmas.Map.Lookups.{exact_bytes}
use Rattle.sh_files_image.specs.Paths.{PathMap}
use Rattle.sh_files.specs.declared.opening.Opening.{Opening}
use Rattle.sh_files.specs.Nodes as nodes
use Rattle.sh_files_image.specs.declared.node.Node.{Node}
use Rattle.sh_pipe.specs.Pipe.{PipeState}
use Rattle.sh_kernel_descriptors.specs.Machine.{MachineState, after_close, after_fork}
use Rattle.sh_kernel_descriptors.specs.Naming.{put_back, after_renaming, with_number, with_pipe}
use Rattle.sh_kernel_descriptors.specs.Opening.{for_reading, with_node}
use Rattle.sh_kernel_processes.specs.declared.process.Process.{Process}
use Rattle.sh_kernel_descriptors.specs.declared.descriptor.DescriptorRef.{DescriptorRef}
use Rattle.sh_kernel_descriptors.specs.declared.descriptor.DescriptorRef.TheVariants.{Number}
use Rattle.sh_kernel_descriptors.specs.declared.descriptor.Closing.TheVariants.{Named}
use Rattle.sh_kernel_descriptors.specs.Closings.{pipes_left}
use Rattle.sh_kernel_descriptors.specs.Reading.{with_offset, moved_of}
use Rattle.sh_kernel_descriptors.specs.declared.descriptor.Closing.{Closing}
use Rattle.sh_kernel_descriptors.specs.declared.description.Description.{Description}
use Rattle.sh_kernel.specs.Laws.{KeysOnlyGrow, OnlyGrows, RequestsOnlyGrow, target_at}
use Rattle.sh_kernel_processes.proofs.Statuses.{signals_change}
use Rattle.sh_kernel_processes.specs.Laws.{OnlyStatuses}
use Rattle.sh_kernel_processes.specs.Sending.{after_send, pids_of}
use Rattle.sh_kernel_processes.specs.declared.target.SignalTarget.{SignalTarget}
use Rattle.sh_kernel_processes.specs.declared.target.SignalTarget.TheVariants.{Group}
use Rattle.sh_signal.specs.declared.signal.Signal.{Signal}
use Rattle.sh_tty.specs.Happenings as tty
use Rattle.sh_tty.specs.Keys.{key_of, signal_of}
use Rattle.sh_kernel.specs.Calls.{after_raising}
use Rattle.sh_kernel_machine.specs.Signals.{with_processes}
use Rattle.sh_kernel.specs.Signals.{after_signal, table_of}
use Rattle.sh_kernel.specs.State.{KernelState}
use Rattle.sh_kernel_machine.proofs.Closing.{pipes_left_length}
use Rattle.sh_kernel.proofs.Endings.{endings}
use Rattle.sh_kernel.proofs.Requesting.{by_cases}
use Rattle.sh_kernel_machine.proofs.Nameless.{nameless_length, nameless_paths}
use Rattle.sh_kernel_machine.proofs.Lists.{front_place, length_set}

pub grows_same : (m : MachineState) → OnlyGrows m m
grows_same m = record { targets = λ _ _. refl; descriptions = omega arith; pipes = omega arith; processes = omega arith; files = omega arith; paths = λ _ _ h. h }

pub grows_then : (a b c : MachineState) → OnlyGrows a b → OnlyGrows b c → OnlyGrows a c
grows_then a b c f g = record {
  targets = λ k h. let within : k < length b.descriptions = omega (arith, f.descriptions) in g.targets k within ∙ f.targets k h;
  descriptions = omega (arith, f.descriptions, g.descriptions);
  pipes = omega (arith, f.pipes, g.pipes);
  processes = omega (arith, f.processes, g.processes);
  files = omega (arith, f.files, g.files);
  paths = λ path node h. g.paths path node (f.paths path node h);
}

-- a description that goes on keeps its place and its target
pub moved_length : (es : List Description) (k offset : ℕ) (o : Option Description) → length (moved_of es k offset o) ≡ length es
moved_length es k offset None = refl
moved_length es k offset (Some e) = length_set es k (record e { offset = offset })

moved_target : (es : List Description) (k offset j : ℕ) → target_at (with_offset es k offset) j ≡ target_at es j
moved_target [] k offset j = refl
moved_target (e ∷ es) zero offset zero = refl
moved_target (e ∷ es) zero offset (suc j) = refl
moved_target (e ∷ es) (suc k) offset zero = of_tail (slice_get es k)
  where
    of_tail : (o : Option Description) → target_at (moved_of (e ∷ es) (suc k) offset o) zero ≡ target_at (e ∷ es) zero
    of_tail None = refl
    of_tail (Some x) = refl
moved_target (e ∷ es) (suc k) offset (suc j) = of_tail (slice_get es k) ∙ moved_target es k offset j
  where
    of_tail : (o : Option Description) → target_at (moved_of (e ∷ es) (suc k) offset o) (suc j) ≡ target_at (moved_of es k offset o) j
    of_tail None = refl
    of_tail (Some x) = refl

pub grows_closed : (m : MachineState) (pid : ℕ) (closing : Closing) → OnlyGrows m (after_close m pid closing)
grows_closed m pid closing =
    let same : length (pipes_left pid closing m.descriptors m.descriptions m.pipes) ≡ length m.pipes = pipes_left_length pid closing m.descriptors m.descriptions m.pipes in
    record { targets = λ _ _. refl; descriptions = omega arith; pipes = omega (arith, same); processes = omega arith; files = omega arith; paths = λ _ _ h. h }

grows_moved : (m : MachineState) (k offset : ℕ) → OnlyGrows m (record m { descriptions = with_offset m.descriptions k offset })
grows_moved m k offset =
    let same : length (with_offset m.descriptions k offset) ≡ length m.descriptions = moved_length m.descriptions k offset (slice_get m.descriptions k) in
    record { targets = λ j _. moved_target m.descriptions k offset j; descriptions = omega (arith, same); pipes = omega arith; processes = omega arith; files = omega arith; paths = λ _ _ h. h }

grows_pipe : (m : MachineState) (pipe : ℕ) (slot : Option PipeState) → OnlyGrows m (record m { pipes = slice_set m.pipes pipe slot })
grows_pipe m pipe slot =
    let same : length (slice_set m.pipes pipe slot) ≡ length m.pipes = length_set m.pipes pipe slot in
    record { targets = λ _ _. refl; descriptions = omega arith; pipes = omega (arith, same); processes = omega arith; files = omega arith; paths = λ _ _ h. h }

-- a write leaves the number of files as it is
with_node_length : (files files' : FileMap) (n : ℕ) (r : Result Node FileFault) → nodes.with_node files n r ≡ Ok files' → length files'.nodes ≡ length files.nodes
with_node_length files files' n (Ok node) h = let e : record files { nodes = slice_set files.nodes n node } ≡ files' = cc in ap (λ (f : FileMap). length f.nodes) (sym e) ∙ length_set files.nodes n node
with_node_length files files' n (Err fault) h = absurd (cc)

write_length : (files files' : FileMap) (n offset : ℕ) (bytes : List ℕ) (o : Option Node) → nodes.write_node files n offset bytes o ≡ Ok files' → length files'.nodes ≡ length files.nodes
write_length files files' n offset bytes None h = absurd (cc)
write_length files files' n offset bytes (Some node) h = with_node_length files files' n (nodes.node_written offset bytes node) h

with_node_paths : (files files' : FileMap) (n : ℕ) (r : Result Node FileFault) → nodes.with_node files n r ≡ Ok files' → files'.paths ≡ files.paths
with_node_paths files files' n (Ok node) h = let e : record files { nodes = slice_set files.nodes n node } ≡ files' = cc in ap (λ (f : FileMap). f.paths) (sym e)
with_node_paths files files' n (Err fault) h = absurd (cc)

write_paths : (files files' : FileMap) (n offset : ℕ) (bytes : List ℕ) (o : Option Node) → nodes.write_node files n offset bytes o ≡ Ok files' → files'.paths ≡ files.paths
write_paths files files' n offset bytes None h = absurd (cc)
write_paths files files' n offset bytes (Some node) h = with_node_paths files files' n (nodes.node_written offset bytes node) h

grows_file : (m : MachineState) (k node start end : ℕ) (bytes : List ℕ) (files : FileMap) → write_at m.files node start bytes ≡ Ok files → OnlyGrows m (record m { files = files; descriptions = with_offset m.descriptions k end })
grows_file m k node start end bytes files written =
    let g = grows_moved m k end in
    let same : length files.nodes ≡ length m.files.nodes = write_length m.files files node start bytes (slice_get m.files.nodes node) written in
    record { targets = g.targets; descriptions = g.descriptions; pipes = omega arith; processes = omega arith; files = omega (arith, same); paths = λ path n h. ap (λ (ps : PathMap). get ps path) (write_paths m.files files node start bytes (slice_get m.files.nodes node) written) ∙ h }

-- opening makes one file more at most
abbrev file_in : FileMap → Result (ℕ × FileMap) FileFault → FileMap
file_in d (Ok x) = x.1
file_in d (Err fault) = d

numbered_length : (files : FileMap) (n : ℕ) (o : ℕ × FileMap) (r : Result FileMap FileFault) → ((f : FileMap) → r ≡ Ok f → length f.nodes ≡ length files.nodes) → nodes.number_and_files n r ≡ Ok o → length files.nodes ≤ length o.1.nodes
numbered_length files n o (Ok f) same h =
    let e : f ≡ o.1 = ap (λ (x : Result (ℕ × FileMap) FileFault). file_in f x) h in
    let l : length f.nodes ≡ length files.nodes = same f refl in
    let l' : length f.nodes ≡ length o.1.nodes = ap (λ (x : FileMap). length x.nodes) e in
    omega (arith, l, l')
numbered_length files n o (Err fault) same h = absurd (cc)

same_length : (files f : FileMap) (how : Opening) (n : ℕ) (o : Option Node) → nodes.open_node files how n o ≡ Ok f → length f.nodes ≡ length files.nodes
same_length files f how n None h = absurd (cc)
same_length files f how n (Some node) h = with_node_length files f n (nodes.node_opened how node) h

created_length : (files : FileMap) (place : List ℕ) (how : Opening) (o : ℕ × FileMap) (a b : Bool) → cond a (Err NoEntry) (cond b (Ok (length files.nodes, nodes.with_new files place nodes.new_file)) (Err NoAccess)) ≡ Ok o → length files.nodes ≤ length o.1.nodes
created_length files place how o true b h = absurd (cc)
created_length files place how o false false h = absurd (cc)
created_length files place how o false true h =
    let e : nodes.with_new files place nodes.new_file ≡ o.1 = ap (λ (x : Result (ℕ × FileMap) FileFault). file_in files x) h in
    let l : length (files.nodes ++ nodes.new_file ∷ []) ≡ length o.1.nodes = ap (λ (x : FileMap). length x.nodes) e in
    omega (arith, l, length-append files.nodes (nodes.new_file ∷ []))

number_length : (files : FileMap) (place : List ℕ) (how : Opening) (o : ℕ × FileMap) (found : Option ℕ) → nodes.open_number files place how found ≡ Ok o → length files.nodes ≤ length o.1.nodes
number_length files place how o None h = created_length files place how o (not how.create) (nodes.may_create place) h
number_length files place how o (Some n) h = numbered_length files n o (nodes.open_node files how n (slice_get files.nodes n)) (λ f e. same_length files f how n (slice_get files.nodes n) e) h

opened_place_length : (files : FileMap) (how : Opening) (o : ℕ × FileMap) (r : Result (List ℕ) FileFault) → nodes.open_place files how r ≡ Ok o → length files.nodes ≤ length o.1.nodes
opened_place_length files how o (Ok place) h = number_length files place how o (get files.paths place) h
opened_place_length files how o (Err fault) h = absurd (cc)

pub opened_length : (files : FileMap) (directory path : List ℕ) (how : Opening) (o : ℕ × FileMap) → opened files directory path how ≡ Ok o → length files.nodes ≤ length o.1.nodes
opened_length files directory path how o h = opened_place_length files how o (nodes.resolution files directory path) h

-- a path goes on to name what it names
new_path : (b : Bool) (v n : ℕ) (o : Option ℕ) → (b ≡ true → o ≡ None) → o ≡ Some n → cond b (Some v) o ≡ Some n
new_path true v n o none h = let gone : o ≡ None = none refl in absurd (cc)
new_path false v n o none h = h

equal_of_test : (r : Ordering) → is_eq r ≡ true → r ≡ Equal
equal_of_test Less h = absurd (cc)
equal_of_test Equal h = refl
equal_of_test Greater h = absurd (cc)

created_paths : (files : FileMap) (place : List ℕ) (how : Opening) (o : ℕ × FileMap) (path : List ℕ) (n : ℕ) (a b : Bool) → get files.paths place ≡ None → get files.paths path ≡ Some n → cond a (Err NoEntry) (cond b (Ok (length files.nodes, nodes.with_new files place nodes.new_file)) (Err NoAccess)) ≡ Ok o → get o.1.paths path ≡ Some n
created_paths files place how o path n true b none named h = absurd (cc)
created_paths files place how o path n false false none named h = absurd (cc)
created_paths files place how o path n false true none named h =
    let e : nodes.with_new files place nodes.new_file ≡ o.1 = ap (λ (x : Result (ℕ × FileMap) FileFault). file_in files x) h in
    let here : is_eq (slice_cmp nat_cmp path place) ≡ true → get files.paths path ≡ None = λ t. ap (λ (p : List ℕ). get files.paths p) (exact_bytes path place (equal_of_test _ t)) ∙ none in
    ap (λ (x : FileMap). get x.paths path) (sym e)
    ∙ get-insert nat_list_cmp_total files.paths place (length files.nodes) path
    ∙ new_path (is_eq (slice_cmp nat_cmp path place)) (length files.nodes) n (get files.paths path) here named

numbered_paths : (files : FileMap) (number : ℕ) (o : ℕ × FileMap) (r : Result FileMap FileFault) → ((f : FileMap) → r ≡ Ok f → f.paths ≡ files.paths) → nodes.number_and_files number r ≡ Ok o → o.1.paths ≡ files.paths
numbered_paths files number o (Ok f) same h =
    let e : f ≡ o.1 = ap (λ (x : Result (ℕ × FileMap) FileFault). file_in f x) h in
    ap (λ (x : FileMap). x.paths) (sym e) ∙ same f refl
numbered_paths files number o (Err fault) same h = absurd (cc)

same_paths : (files f : FileMap) (how : Opening) (n : ℕ) (o : Option Node) → nodes.open_node files how n o ≡ Ok f → f.paths ≡ files.paths
same_paths files f how n None h = absurd (cc)
same_paths files f how n (Some node) h = with_node_paths files f n (nodes.node_opened how node) h

number_paths : (files : FileMap) (place : List ℕ) (how : Opening) (o : ℕ × FileMap) (path : List ℕ) (n : ℕ) (found : Option ℕ) → get files.paths place ≡ found → get files.paths path ≡ Some n → nodes.open_number files place how found ≡ Ok o → get o.1.paths path ≡ Some n
number_paths files place how o path n None is named h = created_paths files place how o path n (not how.create) (nodes.may_create place) is named h
number_paths files place how o path n (Some k) is named h =
    ap (λ (ps : PathMap). get ps path) (numbered_paths files k o (nodes.open_node files how k (slice_get files.nodes k)) (λ f e. same_paths files f how k (slice_get files.nodes k) e) h) ∙ named

place_paths : (files : FileMap) (how : Opening) (o : ℕ × FileMap) (path : List ℕ) (n : ℕ) (r : Result (List ℕ) FileFault) → get files.paths path ≡ Some n → nodes.open_place files how r ≡ Ok o → get o.1.paths path ≡ Some n
place_paths files how o path n (Ok place) named h = number_paths files place how o path n (get files.paths place) refl named h
place_paths files how o path n (Err fault) named h = absurd (cc)

opened_paths : (files : FileMap) (directory path : List ℕ) (how : Opening) (o : ℕ × FileMap) → opened files directory path how ≡ Ok o → (p : List ℕ) (n : ℕ) → get files.paths p ≡ Some n → get o.1.paths p ≡ Some n
opened_paths files directory path how o h p n named = place_paths files how o p n (nodes.resolution files directory path) named h

-- a number that refers to something else changes descriptors alone
grows_number : (m : MachineState) (pid number k : ℕ) → OnlyGrows m (with_number m pid number k)
grows_number m pid number k =
    let g = grows_closed m pid (Named (Number number)) in
    record { targets = g.targets; descriptions = g.descriptions; pipes = g.pipes; processes = g.processes; files = g.files; paths = g.paths }

grows_back : (m : MachineState) (pid k number : ℕ) → OnlyGrows m (put_back m pid k number)
grows_back m pid k number =
    let g = grows_closed m pid (Named (Number number)) in
    record { targets = g.targets; descriptions = g.descriptions; pipes = g.pipes; processes = g.processes; files = g.files; paths = g.paths }

grows_signals : (m : MachineState) (ps : List Process) (pids : List ℕ) → OnlyStatuses m.processes ps → OnlyGrows m (with_processes m ps pids)
grows_signals m ps pids only =
    let e = endings m ps pids in
    let same : length (with_processes m ps pids).processes ≡ length m.processes = ap (λ (xs : List Process). length xs) e.processes ∙ only.count in
    record {
      targets = λ k h. ap (λ (es : List Description). target_at es k) e.descriptions;
      descriptions = let as_many = ap (λ (es : List Description). length es) e.descriptions in omega (arith, as_many);
      pipes = omega (arith, e.room);
      processes = omega (arith, same);
      files = let as_many = ap (λ (f : FileMap). length f.nodes) e.files in omega (arith, as_many);
      paths = λ p n h. ap (λ (f : FileMap). get f.paths p) e.files ∙ h;
    }

more_le : {X : Type 0} (xs ys : List X) → length xs ≤ length (xs ++ ys)
more_le xs ys = omega (arith, length-append xs ys)

more_targets : (es more : List Description) (k : ℕ) → k < length es → target_at (es ++ more) k ≡ target_at es k
more_targets es more k h = ap (λ (o : Option Description). option_map (λ (e : Description). e.target) o) (front_place es more k h)

grows_forked : (m : MachineState) (pid : ℕ) → OnlyGrows m (after_fork m pid)
grows_forked m pid = record { targets = λ _ _. refl; descriptions = omega arith; pipes = omega arith; processes = more_le m.processes _; files = omega arith; paths = λ _ _ h. h }

grows_with_pipe : (m : MachineState) → OnlyGrows m (with_pipe m)
grows_with_pipe m = record { targets = λ k h. more_targets m.descriptions _ k h; descriptions = more_le m.descriptions _; pipes = more_le m.pipes _; processes = omega arith; files = omega arith; paths = λ _ _ h. h }

grows_with_node : (m : MachineState) (how : Opening) (append : Bool) (n : ℕ) (files : FileMap) → length m.files.nodes ≤ length files.nodes → ((p : List ℕ) (k : ℕ) → get m.files.paths p ≡ Some k → get files.paths p ≡ Some k) → OnlyGrows m (with_node m how append n files)
grows_with_node m how append n files more named = record { targets = λ k h. more_targets m.descriptions _ k h; descriptions = more_le m.descriptions _; pipes = omega arith; processes = omega arith; files = more; paths = named }

grows_renamed : (m : MachineState) (pid : ℕ) (name : DescriptorRef) (number : Option ℕ) → OnlyGrows m (record m { descriptors = after_renaming m.descriptors pid name number })
grows_renamed m pid name number = record { targets = λ _ _. refl; descriptions = omega arith; pipes = omega arith; processes = omega arith; files = omega arith; paths = λ _ _ h. h }

pub requests_grow : RequestsOnlyGrow
requests_grow s pid r = let m = s.machine in by_cases s pid r (λ m'. OnlyGrows m m') (record {
  same = grows_same m;
  goes_on = λ k offset held. grows_moved m k offset;
  pipe = λ k pipe slot held end. grows_pipe m pipe slot;
  file = λ k node start end bytes files held file written. grows_file m k node start end bytes files written;
  closes = λ closing. grows_closed m pid closing;
  signals = λ ps pids only signalled. grows_signals m ps pids only;
  numbers = λ number k held. grows_number m pid number k;
  renames = λ name number. grows_renamed m pid name number;
  back = λ k number. grows_back m pid k number;
  forks = grows_forked m pid;
  makes_pipe = λ from to.
      let first = with_number (with_pipe m) pid from (length m.descriptions) in
      grows_then m (with_pipe m) (with_number first pid to (length m.descriptions + 1)) (grows_with_pipe m) (grows_then (with_pipe m) first (with_number first pid to (length m.descriptions + 1)) (grows_number (with_pipe m) pid from (length m.descriptions)) (grows_number first pid to (length m.descriptions + 1)));
  opens = λ directory path how append number o is opened_is.
      let before = with_node m how append o.0 o.1 in
      grows_then m before (with_number before pid number (length m.descriptions)) (grows_with_node m how append o.0 o.1 (opened_length m.files directory path how o opened_is) (opened_paths m.files directory path how o opened_is)) (grows_number before pid number (length m.descriptions));
  heres = λ bytes number o is made.
      let before = with_node m for_reading false o.0 o.1 in
      grows_then m before (with_number before pid number (length m.descriptions)) (grows_with_node m for_reading false o.0 o.1 (nameless_length m.files bytes o made) (nameless_paths m.files bytes o made)) (grows_number before pid number (length m.descriptions));
})

-- ---- a key
signal_grows : (s : KernelState) (to : SignalTarget) (signal : Signal) → OnlyGrows s.machine (after_signal s to signal).machine
signal_grows s to signal = grows_signals s.machine (after_send (table_of s) to signal).processes (pids_of s.members) (signals_change (table_of s) to signal)

raising_grows : (s : KernelState) (raised : Option Signal) → OnlyGrows s.machine (after_raising s raised).machine
raising_grows s None = grows_same s.machine
raising_grows s (Some signal) = signal_grows s (Group s.foreground) signal

pub keys_grow : KeysOnlyGrow
keys_grow s byte = raising_grows (record s { terminal = tty.after_key byte s.terminal }) (signal_of (key_of byte))
