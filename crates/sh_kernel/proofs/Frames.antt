-- Each request changes only what its process reaches.
use Rattle.std.proofs.Common.{◌≡◌, ◌≢◌, ℕ, zero, suc, ◌+◌, ◌-◌, ◌<◌, ◌≤◌, List, [], ◌∷◌, ◌++◌, length, map, filter, Bool, true, false, not, cond, ◌&&◌, ◌||◌, ◌==◌, Option, Some, None, slice_get, slice_set, get_or, refl, sym, ap, ◌∙◌, arith, Result, Ok, Err, append-nil, position, nat_lt, nat_le, option_map}
use Rattle.std.specs.Option.{option_map_or}
use Rattle.std.specs.List.{position_or_len}
use Rattle.std.specs.FinMap.{get}
use Rattle.std.proofs.lemmas.Bool.{eqb-true}
use Rattle.std.proofs.lemmas.List.Elements.{filter-append}
use Rattle.std.proofs.lemmas.List.Sums.{passes_at_first}
use borrow.Author.Tests.{ltb-true, leb-true}
use Rattle.sh_files.specs.Nodes as nodes
use Rattle.sh_files.specs.Nodes.{FileMap, opened, write_at}
use Rattle.sh_files.specs.declared.fault.FileFault.{FileFault}
use Rattle.sh_files.specs.declared.fault.FileFault.TheVariants.{NoEntry, NoAccess}
use Rattle.sh_files.specs.declared.opening.Opening.{Opening}
use Rattle.sh_files_image.specs.declared.node.Node.{Node}
use Rattle.sh_files_image.specs.declared.node.Node.TheVariants as node
use Rattle.sh_pipe.specs.Pipe.{PipeState}
use Rattle.sh_kernel_descriptors.specs.Closings.{descriptors_left}
use Rattle.sh_kernel_descriptors.specs.Descriptors.{is_named, reads_from, writes_to}
use Rattle.sh_kernel_descriptors.specs.Machine.{MachineState, after_close, after_fork}
use Rattle.sh_kernel_descriptors.specs.Naming.{end_of, put_back, after_renaming, renamed_at, after_renumbering, with_number, with_pipe}
use Rattle.sh_kernel_descriptors.specs.Opening.{description_of, for_reading, target_of, with_node}
use Rattle.sh_kernel_descriptors.specs.Copies.{copies, is_copied, of_process}
use Rattle.sh_kernel_processes.specs.Processes.{has_ended, is_ended, next_pid, process_at}
use Rattle.sh_kernel_descriptors.specs.Reading.{with_offset, moved_of}
use Rattle.sh_kernel_descriptors.specs.declared.descriptor.Closing.{Closing}
use Rattle.sh_kernel_descriptors.specs.declared.descriptor.Closing.TheVariants.{Named}
use Rattle.sh_kernel_descriptors.specs.declared.descriptor.Descriptor.{Descriptor}
use Rattle.sh_kernel_descriptors.specs.declared.descriptor.DescriptorRef.{DescriptorRef}
use Rattle.sh_kernel_descriptors.specs.declared.descriptor.DescriptorRef.TheVariants.{Number, Aside}
use Rattle.sh_kernel_descriptors.specs.declared.description.Description.{Description}
use Rattle.sh_kernel_descriptors.specs.declared.description.Target.TheVariants.{ReadEnd, WriteEnd}
use Rattle.sh_kernel_processes.specs.declared.process.Process.{Process}
use Rattle.sh_kernel_processes.specs.Laws.{OnlyStatuses}
use Rattle.sh_kernel.specs.Laws.{ChangesOnlyReached, RequestsChangeOnlyReached, is_opened, opens, sends}
use Rattle.sh_kernel_machine.specs.Signals.{with_processes}
use Rattle.sh_kernel.specs.Reaching.{is_end, is_file, reaches}
use Rattle.sh_kernel.specs.Requests.{Request, Open}
use Rattle.sh_kernel.proofs.Cases.{IsHeld}
use Rattle.sh_kernel_machine.proofs.Closing.{goes_own, others_left, true≢false}
use Rattle.sh_kernel.proofs.Closing.{pipes_left_other, reaches_left}
use Rattle.sh_kernel.proofs.Endings.{endings}
use Rattle.sh_kernel_machine.proofs.Lists.{apart, false_of, front_place, or_left, or_right, other_place}
use Rattle.sh_kernel.proofs.Requesting.{by_cases}
use Rattle.sh_kernel_machine.proofs.Nameless.{nameless_other}

-- ---- places
pub moved_other : (es : List Description) (k offset j : ℕ) → k ≢ j → slice_get (with_offset es k offset) j ≡ slice_get es j
moved_other es k offset j n = of_place (slice_get es k)
  where
    of_place : (o : Option Description) → slice_get (moved_of es k offset o) j ≡ slice_get es j
    of_place None = refl
    of_place (Some e) = other_place es k j (record e { offset = offset }) n

-- one more of a process is none of another's
one_more : (ds : List Descriptor) (x : Descriptor) (pid q : ℕ) → x.pid ≡ pid → q ≢ pid → filter (λ d. d.pid == q) (ds ++ x ∷ []) ≡ filter (λ d. d.pid == q) ds
one_more ds x pid q own n =
    let other : (x.pid == q) ≡ false = false_of (x.pid == q) (λ t. n (sym (eqb-true x.pid q t) ∙ own)) in
    filter-append (λ (d : Descriptor). d.pid == q) ds (x ∷ [])
    ∙ ap (λ (b : Bool). filter (λ (d : Descriptor). d.pid == q) ds ++ cond b (x ∷ []) []) other
    ∙ append-nil _

-- what stands at the place that was found is of that name
found_entry : (ds : List Descriptor) (n : ℕ) (d : Descriptor) → slice_get ds n ≡ Some d → get_or ds n d ≡ d
found_entry [] n d h = refl
found_entry (x ∷ ds) zero d h = cc
found_entry (x ∷ ds) (suc n) d h = found_entry ds n d h

pub position_passes : (p : Descriptor → Bool) (ds : List Descriptor) (i : ℕ) (d : Descriptor) → position p ds ≡ Some i → slice_get ds i ≡ Some d → p d ≡ true
position_passes p ds i d e h = of_test (nat_lt (position_or_len p ds) (length ds)) refl e
  where
    of_test : (b : Bool) → nat_lt (position_or_len p ds) (length ds) ≡ b → cond b (Some (position_or_len p ds)) None ≡ Some i → p d ≡ true
    of_test false t e = absurd (cc)
    of_test true t e =
        let same : position_or_len p ds ≡ i = cc in
        let here : slice_get ds (position_or_len p ds) ≡ Some d = ap (λ (n : ℕ). slice_get ds n) same ∙ h in
        sym (ap p (found_entry ds (position_or_len p ds) d here)) ∙ passes_at_first p ds d (ltb-true _ _ t)

-- an entry of a process in the place of one of its own is none of another's
set_others : (ds : List Descriptor) (i : ℕ) (d x : Descriptor) (pid q : ℕ) → slice_get ds i ≡ Some d → d.pid ≡ pid → x.pid ≡ pid → q ≢ pid → filter (λ d. d.pid == q) (slice_set ds i x) ≡ filter (λ d. d.pid == q) ds
set_others [] i d x pid q h own own' n = refl
set_others (y ∷ ds) zero d x pid q h own own' n =
    let same : y ≡ d = cc in
    let other : (x.pid == q) ≡ false = false_of (x.pid == q) (λ t. n (sym (eqb-true x.pid q t) ∙ own')) in
    let other' : (y.pid == q) ≡ false = false_of (y.pid == q) (λ t. n (sym (eqb-true y.pid q t) ∙ ap (λ (z : Descriptor). z.pid) same ∙ own)) in
    ap (λ (b : Bool). cond b (x ∷ filter (λ (d : Descriptor). d.pid == q) ds) (filter (λ (d : Descriptor). d.pid == q) ds)) other
    ∙ sym (ap (λ (b : Bool). cond b (y ∷ filter (λ (d : Descriptor). d.pid == q) ds) (filter (λ (d : Descriptor). d.pid == q) ds)) other')
set_others (y ∷ ds) (suc i) d x pid q h own own' n = ap (λ (xs : List Descriptor). cond (y.pid == q) (y ∷ xs) xs) (set_others ds i d x pid q h own own' n)

pub named_own : (pid : ℕ) (name : DescriptorRef) (d : Descriptor) → is_named pid name d ≡ true → d.pid ≡ pid
named_own pid name d h = eqb-true d.pid pid (goes_own pid (Named name) d h)

renamed_others : (ds : List Descriptor) (pid : ℕ) (name : DescriptorRef) (number : Option ℕ) (q : ℕ) → q ≢ pid → filter (λ d. d.pid == q) (after_renaming ds pid name number) ≡ filter (λ d. d.pid == q) ds
renamed_others ds pid name number q n = of_place (position (is_named pid name) ds) refl
  where
    of_entry : (i : ℕ) → position (is_named pid name) ds ≡ Some i → (o : Option Descriptor) → slice_get ds i ≡ o → filter (λ (d : Descriptor). d.pid == q) (after_renumbering ds number i o) ≡ filter (λ (d : Descriptor). d.pid == q) ds
    of_entry i at None is = refl
    of_entry i at (Some d) is =
        let own : d.pid ≡ pid = named_own pid name d (position_passes (is_named pid name) ds i d at is) in
        set_others ds i d (record d { number = number }) pid q is own own n

    of_place : (o : Option ℕ) → position (is_named pid name) ds ≡ o → filter (λ (d : Descriptor). d.pid == q) (renamed_at ds number o) ≡ filter (λ (d : Descriptor). d.pid == q) ds
    of_place None at = refl
    of_place (Some i) at = of_entry i at (slice_get ds i) refl

-- no descriptor of a child is another's
copies_apart : (ds : List Descriptor) (pid child q : ℕ) → q ≢ child → filter (λ d. d.pid == q) (copies ds pid child) ≡ []
copies_apart [] pid child q n = refl
copies_apart (d ∷ ds) pid child q n =
    let other : (child == q) ≡ false = false_of (child == q) (λ t. n (sym (eqb-true child q t))) in
    elim (is_copied pid d) as (λ b. filter (λ (x : Descriptor). x.pid == q) (map (of_process child) (cond b (d ∷ filter (is_copied pid) ds) (filter (is_copied pid) ds))) ≡ []) [
      | true ↦ ap (λ (b : Bool). cond b (of_process child d ∷ filter (λ (x : Descriptor). x.pid == q) (copies ds pid child)) (filter (λ (x : Descriptor). x.pid == q) (copies ds pid child))) other ∙ copies_apart ds pid child q n
      | false ↦ copies_apart ds pid child q n
    ]

-- ---- files
set_node_other : (files files' : FileMap) (n m : ℕ) (r : Result Node FileFault) → n ≢ m → nodes.with_node files n r ≡ Ok files' → slice_get files'.nodes m ≡ slice_get files.nodes m
set_node_other files files' n m (Ok node) apart h =
    let e : record files { nodes = slice_set files.nodes n node } ≡ files' = cc in
    ap (λ (f : FileMap). slice_get f.nodes m) (sym e) ∙ other_place files.nodes n m node apart
set_node_other files files' n m (Err fault) apart h = absurd (cc)

written_other : (files files' : FileMap) (n m offset : ℕ) (bytes : List ℕ) (o : Option Node) → n ≢ m → nodes.write_node files n offset bytes o ≡ Ok files' → slice_get files'.nodes m ≡ slice_get files.nodes m
written_other files files' n m offset bytes None apart h = absurd (cc)
written_other files files' n m offset bytes (Some node) apart h = set_node_other files files' n m (nodes.node_written offset bytes node) apart h

opened_node_other : (files f : FileMap) (how : Opening) (n m : ℕ) (o : Option Node) → n ≢ m → nodes.open_node files how n o ≡ Ok f → slice_get f.nodes m ≡ slice_get files.nodes m
opened_node_other files f how n m None apart h = absurd (cc)
opened_node_other files f how n m (Some node) apart h = set_node_other files f n m (nodes.node_opened how node) apart h

abbrev file_in : FileMap → Result (ℕ × FileMap) FileFault → FileMap
file_in d (Ok x) = x.1
file_in d (Err fault) = d

abbrev number_in : Result (ℕ × FileMap) FileFault → ℕ
number_in (Ok x) = x.0
number_in (Err fault) = 0

opened_numbered : (files : FileMap) (n m : ℕ) (o : ℕ × FileMap) (r : Result FileMap FileFault) → ((f : FileMap) → n ≢ m → r ≡ Ok f → slice_get f.nodes m ≡ slice_get files.nodes m) → o.0 ≢ m → nodes.number_and_files n r ≡ Ok o → slice_get o.1.nodes m ≡ slice_get files.nodes m
opened_numbered files n m o (Ok f) same apart h =
    let e : f ≡ o.1 = ap (λ (x : Result (ℕ × FileMap) FileFault). file_in f x) h in
    let number : n ≡ o.0 = ap (λ (x : Result (ℕ × FileMap) FileFault). number_in x) h in
    ap (λ (x : FileMap). slice_get x.nodes m) (sym e) ∙ same f (λ k. apart (sym number ∙ k)) refl
opened_numbered files n m o (Err fault) same apart h = absurd (cc)

created_other : (files : FileMap) (place : List ℕ) (how : Opening) (o : ℕ × FileMap) (m : ℕ) (a b : Bool) → m < length files.nodes → cond a (Err NoEntry) (cond b (Ok (length files.nodes, nodes.with_new files place nodes.new_file)) (Err NoAccess)) ≡ Ok o → slice_get o.1.nodes m ≡ slice_get files.nodes m
created_other files place how o m true b within h = absurd (cc)
created_other files place how o m false false within h = absurd (cc)
created_other files place how o m false true within h =
    let e : nodes.with_new files place nodes.new_file ≡ o.1 = ap (λ (x : Result (ℕ × FileMap) FileFault). file_in files x) h in
    ap (λ (x : FileMap). slice_get x.nodes m) (sym e) ∙ front_place files.nodes (nodes.new_file ∷ []) m within

open_number_other : (files : FileMap) (place : List ℕ) (how : Opening) (o : ℕ × FileMap) (m : ℕ) (found : Option ℕ) → m < length files.nodes → o.0 ≢ m → nodes.open_number files place how found ≡ Ok o → slice_get o.1.nodes m ≡ slice_get files.nodes m
open_number_other files place how o m None within apart h = created_other files place how o m (not how.create) (nodes.may_create place) within h
open_number_other files place how o m (Some n) within apart h =
    opened_numbered files n m o (nodes.open_node files how n (slice_get files.nodes n)) (λ f other e. opened_node_other files f how n m (slice_get files.nodes n) other e) apart h

open_place_other : (files : FileMap) (how : Opening) (o : ℕ × FileMap) (m : ℕ) (r : Result (List ℕ) FileFault) → m < length files.nodes → o.0 ≢ m → nodes.open_place files how r ≡ Ok o → slice_get o.1.nodes m ≡ slice_get files.nodes m
open_place_other files how o m (Ok place) within apart h = open_number_other files place how o m (get files.paths place) within apart h
open_place_other files how o m (Err fault) within apart h = absurd (cc)

opened_other : (files : FileMap) (directory path : List ℕ) (how : Opening) (o : ℕ × FileMap) (m : ℕ) → m < length files.nodes → o.0 ≢ m → opened files directory path how ≡ Ok o → slice_get o.1.nodes m ≡ slice_get files.nodes m
opened_other files directory path how o m within apart h = open_place_other files how o m (nodes.resolution files directory path) within apart h

-- ---- processes
process_front : (ps more : List Process) (q : ℕ) → q < next_pid ps → process_at (ps ++ more) q ≡ process_at ps q
process_front ps more q h = of_test (nat_le 100 q) refl
  where
    of_test : (b : Bool) → nat_le 100 q ≡ b → cond b (slice_get (ps ++ more) (q - 100)) None ≡ cond b (slice_get ps (q - 100)) None
    of_test false t = refl
    of_test true t =
        let low : 100 ≤ q = leb-true 100 q t in
        let within : q - 100 < length ps = omega (arith, low, h) in
        front_place ps more (q - 100) within

ended_place : (ps : List Process) (i : ℕ) → is_ended (slice_get ps i) ≡ true → i < length ps
ended_place [] i h = absurd (cc)
ended_place (p ∷ ps) zero h = omega arith
ended_place (p ∷ ps) (suc i) h = omega (arith, ended_place ps i h)

-- what has ended was there
pub ended_within : (ps : List Process) (q : ℕ) → has_ended ps q ≡ true → q < next_pid ps
ended_within ps q h = of_test (nat_le 100 q) h
  where
    of_test : (b : Bool) → is_ended (cond b (slice_get ps (q - 100)) None) ≡ true → q < next_pid ps
    of_test true h = let place = ended_place ps (q - 100) h in omega (arith, place)
    of_test false h = absurd (cc)

-- ---- more descriptions
-- where each new description fails, those that fail still do
pub more_fails : (es more : List Description) (f : Description → Bool) (k : ℕ) → ((j : ℕ) → option_map_or f (slice_get more j) false ≡ false) → option_map_or f (slice_get es k) false ≡ false → option_map_or f (slice_get (es ++ more) k) false ≡ false
more_fails [] more f k none h = none k
more_fails (e ∷ es) more f zero none h = h
more_fails (e ∷ es) more f (suc k) none h = more_fails es more f k none h

pub reaches_no_more : (ds : List Descriptor) (pid : ℕ) (test test' : ℕ → Bool) → ((k : ℕ) → test k ≡ false → test' k ≡ false) → reaches ds pid test ≡ false → reaches ds pid test' ≡ false
reaches_no_more [] pid test test' f h = refl
reaches_no_more (d ∷ ds) pid test test' f h =
    of_test (d.pid == pid) (reaches_no_more ds pid test test' f (or_right ((d.pid == pid) && test d.description) (reaches ds pid test) h)) (or_left ((d.pid == pid) && test d.description) (reaches ds pid test) h)
  where
    of_test : (b : Bool) → reaches ds pid test' ≡ false → (b && test d.description) ≡ false → ((b && test' d.description) || reaches ds pid test') ≡ false
    of_test true rest h = ap (λ (c : Bool). c || reaches ds pid test') (f d.description h) ∙ rest
    of_test false rest h = rest

pub reaches_one_more : (ds : List Descriptor) (x : Descriptor) (pid : ℕ) (test : ℕ → Bool) → reaches ds pid test ≡ false → test x.description ≡ false → reaches (ds ++ x ∷ []) pid test ≡ false
reaches_one_more [] x pid test h t = of_test (x.pid == pid)
  where
    of_test : (b : Bool) → ((b && test x.description) || false) ≡ false
    of_test true = ap (λ (c : Bool). c || false) t
    of_test false = refl
reaches_one_more (d ∷ ds) x pid test h t =
    ap (λ (c : Bool). c || reaches (ds ++ x ∷ []) pid test) (or_left ((d.pid == pid) && test d.description) (reaches ds pid test) h)
    ∙ reaches_one_more ds x pid test (or_right ((d.pid == pid) && test d.description) (reaches ds pid test) h) t

-- ---- each change
abbrev Keeps : (pid : ℕ) → (ℕ → Bool) → MachineState → MachineState → Type 0
Keeps pid op m m' = (sent : Bool) → ChangesOnlyReached pid sent op m m'

pub keeps_same : (pid : ℕ) (op : ℕ → Bool) (m : MachineState) → Keeps pid op m m
keeps_same pid op m sent = record { pipes = λ _ _ _ _. refl; files = λ _ _ _ _. refl; descriptions = λ _ _ _. refl; descriptors = λ _ _ _ _. refl; processes = λ _ _ _ _. refl; makers = λ _ _. refl; ended = λ _ _. refl }

keeps_moved : (pid : ℕ) (op : ℕ → Bool) (m : MachineState) (k offset : ℕ) → IsHeld m.descriptors pid k → Keeps pid op m (record m { descriptions = with_offset m.descriptions k offset })
keeps_moved pid op m k offset held sent = record {
  descriptions = λ j within r. moved_other m.descriptions k offset j (apart k j (held.fails (λ i. i == j) r));
  pipes = λ _ _ _ _. refl;
  files = λ _ _ _ _. refl;
  descriptors = λ _ _ _ _. refl;
  processes = λ _ _ _ _. refl;
  makers = λ _ _. refl;
  ended = λ _ _. refl;
}

keeps_pipe : (pid : ℕ) (op : ℕ → Bool) (m : MachineState) (k pipe : ℕ) (slot : Option PipeState) → IsHeld m.descriptors pid k → is_end m.descriptions pipe k ≡ true → Keeps pid op m (record m { pipes = slice_set m.pipes pipe slot })
keeps_pipe pid op m k pipe slot held end sent = record {
  pipes = λ q within r _. other_place m.pipes pipe q slot (λ e. true≢false (is_end m.descriptions q k) (ap (λ (p : ℕ). is_end m.descriptions p k) (sym e) ∙ end) (held.fails (is_end m.descriptions q) r));
  files = λ _ _ _ _. refl;
  descriptions = λ _ _ _. refl;
  descriptors = λ _ _ _ _. refl;
  processes = λ _ _ _ _. refl;
  makers = λ _ _. refl;
  ended = λ _ _. refl;
}

keeps_file : (pid : ℕ) (op : ℕ → Bool) (m : MachineState) (k node start end : ℕ) (bytes : List ℕ) (files : FileMap) → IsHeld m.descriptors pid k → is_file m.descriptions node k ≡ true → write_at m.files node start bytes ≡ Ok files → Keeps pid op m (record m { files = files; descriptions = with_offset m.descriptions k end })
keeps_file pid op m k node start end bytes files held file written sent = record {
  files = λ n within r unopened. written_other m.files files node n start bytes (slice_get m.files.nodes node) (λ e. true≢false (is_file m.descriptions n k) (ap (λ (p : ℕ). is_file m.descriptions p k) (sym e) ∙ file) (held.fails (is_file m.descriptions n) r)) written;
  descriptions = λ j within r. moved_other m.descriptions k end j (apart k j (held.fails (λ i. i == j) r));
  pipes = λ _ _ _ _. refl;
  descriptors = λ _ _ _ _. refl;
  processes = λ _ _ _ _. refl;
  makers = λ _ _. refl;
  ended = λ _ _. refl;
}

keeps_closed : (pid : ℕ) (op : ℕ → Bool) (m : MachineState) (closing : Closing) → Keeps pid op m (after_close m pid closing)
keeps_closed pid op m closing sent = record {
  pipes = λ q within r _. pipes_left_other pid closing m.descriptors m.descriptions m.pipes q r;
  descriptors = λ q n _ _. others_left pid closing m.descriptors q n;
  files = λ _ _ _ _. refl;
  descriptions = λ _ _ _. refl;
  processes = λ _ _ _ _. refl;
  makers = λ _ _. refl;
  ended = λ _ _. refl;
}

others_numbered : (m : MachineState) (pid number k q : ℕ) → q ≢ pid → filter (λ d. d.pid == q) (with_number m pid number k).descriptors ≡ filter (λ d. d.pid == q) m.descriptors
others_numbered m pid number k q n =
    one_more (descriptors_left pid (Named (Number number)) m.descriptors) (record { pid = pid; number = Some number; description = k }) pid q refl n
    ∙ others_left pid (Named (Number number)) m.descriptors q n

keeps_number : (pid : ℕ) (op : ℕ → Bool) (m : MachineState) (number k : ℕ) → Keeps pid op m (with_number m pid number k)
keeps_number pid op m number k sent = record {
  pipes = λ q within r _. pipes_left_other pid (Named (Number number)) m.descriptors m.descriptions m.pipes q r;
  descriptors = λ q n _ _. others_numbered m pid number k q n;
  files = λ _ _ _ _. refl;
  descriptions = λ _ _ _. refl;
  processes = λ _ _ _ _. refl;
  makers = λ _ _. refl;
  ended = λ _ _. refl;
}

keeps_renamed : (pid : ℕ) (op : ℕ → Bool) (m : MachineState) (name : DescriptorRef) (number : Option ℕ) → Keeps pid op m (record m { descriptors = after_renaming m.descriptors pid name number })
keeps_renamed pid op m name number sent = record {
  descriptors = λ q n _ _. renamed_others m.descriptors pid name number q n;
  pipes = λ _ _ _ _. refl;
  files = λ _ _ _ _. refl;
  descriptions = λ _ _ _. refl;
  processes = λ _ _ _ _. refl;
  makers = λ _ _. refl;
  ended = λ _ _. refl;
}

keeps_back : (pid : ℕ) (op : ℕ → Bool) (m : MachineState) (k number : ℕ) → Keeps pid op m (put_back m pid k number)
keeps_back pid op m k number sent = record {
  pipes = λ q within r _. pipes_left_other pid (Named (Number number)) m.descriptors m.descriptions m.pipes q r;
  descriptors = λ q n _ _. renamed_others (descriptors_left pid (Named (Number number)) m.descriptors) pid (Aside k) (Some number) q n ∙ others_left pid (Named (Number number)) m.descriptors q n;
  files = λ _ _ _ _. refl;
  descriptions = λ _ _ _. refl;
  processes = λ _ _ _ _. refl;
  makers = λ _ _. refl;
  ended = λ _ _. refl;
}

keeps_forked : (pid : ℕ) (op : ℕ → Bool) (m : MachineState) → Keeps pid op m (after_fork m pid)
keeps_forked pid op m sent = record {
  descriptors = λ q n born _.
      filter-append (λ (d : Descriptor). d.pid == q) m.descriptors (copies m.descriptors pid (next_pid m.processes))
      ∙ ap (λ (xs : List Descriptor). filter (λ (d : Descriptor). d.pid == q) m.descriptors ++ xs) (copies_apart m.descriptors pid (next_pid m.processes) q (λ e. omega (arith, born, e)))
      ∙ append-nil _;
  processes = λ q n within _. process_front m.processes _ q within;
  makers = λ q within. ap (λ (o : Option Process). option_map (λ (p : Process). p.maker) o) (process_front m.processes _ q within);
  ended = λ q e. process_front m.processes _ q (ended_within m.processes q e);
  pipes = λ _ _ _ _. refl;
  files = λ _ _ _ _. refl;
  descriptions = λ _ _ _. refl;
}

-- nothing stands past the end
pub past : (es : List Description) (q : ℕ) → is_end es q (length es) ≡ false
past [] q = refl
past (e ∷ es) q = past es q

-- the ends of a new pipe are no ends of an old one
pub new_ends : (pipe q : ℕ) → q < pipe → (j : ℕ) → option_map_or (λ (e : Description). reads_from q e.target || writes_to q e.target) (slice_get (end_of (ReadEnd pipe) true ∷ end_of (WriteEnd pipe) false ∷ []) j) false ≡ false
new_ends pipe q h zero =
    let other : (pipe == q) ≡ false = false_of (pipe == q) (λ t. let e : pipe ≡ q = eqb-true pipe q t in omega (arith, h, e)) in
    ap (λ (b : Bool). b || false) other
new_ends pipe q h (suc zero) = false_of (pipe == q) (λ t. let e : pipe ≡ q = eqb-true pipe q t in omega (arith, h, e))
new_ends pipe q h (suc (suc j)) = refl

keeps_makes_pipe : (pid : ℕ) (op : ℕ → Bool) (m : MachineState) (from to : ℕ) → Keeps pid op m (with_number (with_number (with_pipe m) pid from (length m.descriptions)) pid to (length m.descriptions + 1))
keeps_makes_pipe pid op m from to sent =
    let made = with_pipe m in
    let first = with_number made pid from (length m.descriptions) in
    record {
      pipes = λ q within r _.
          let fails : (k : ℕ) → is_end m.descriptions q k ≡ false → is_end made.descriptions q k ≡ false = λ k h. more_fails m.descriptions _ (λ (e : Description). reads_from q e.target || writes_to q e.target) k (new_ends (length m.pipes) q within) h in
          let unreached : reaches m.descriptors pid (is_end made.descriptions q) ≡ false = reaches_no_more m.descriptors pid (is_end m.descriptions q) (is_end made.descriptions q) fails r in
          let new : is_end made.descriptions q (length m.descriptions) ≡ false = fails (length m.descriptions) (past m.descriptions q) in
          let unreached' : reaches first.descriptors pid (is_end made.descriptions q) ≡ false = reaches_one_more (descriptors_left pid (Named (Number from)) m.descriptors) _ pid (is_end made.descriptions q) (reaches_left pid (Named (Number from)) m.descriptors pid (is_end made.descriptions q) unreached) new in
          pipes_left_other pid (Named (Number to)) first.descriptors made.descriptions first.pipes q unreached'
          ∙ pipes_left_other pid (Named (Number from)) m.descriptors made.descriptions made.pipes q unreached
          ∙ front_place m.pipes _ q within;
      descriptors = λ q n _ _. others_numbered first pid to (length m.descriptions + 1) q n ∙ others_numbered made pid from (length m.descriptions) q n;
      descriptions = λ k within r. front_place m.descriptions _ k within;
      files = λ _ _ _ _. refl;
      processes = λ _ _ _ _. refl;
      makers = λ _ _. refl;
      ended = λ _ _. refl;
    }

-- what was opened is no end of a pipe
no_end : (n : ℕ) (o : Option Node) (q : ℕ) → (reads_from q (target_of n o) || writes_to q (target_of n o)) ≡ false
no_end n None q = refl
no_end n (Some node.Directory) q = refl
no_end n (Some (node.File file)) q = refl
no_end n (Some node.Null) q = refl
no_end n (Some node.Terminal) q = refl

pub opened_end : (n : ℕ) (o : Option Node) (how : Opening) (append : Bool) (q j : ℕ) → option_map_or (λ (e : Description). reads_from q e.target || writes_to q e.target) (slice_get (description_of (target_of n o) how append ∷ []) j) false ≡ false
opened_end n o how append q zero = no_end n o q
opened_end n o how append q (suc j) = refl

keeps_opens : (pid : ℕ) (op : ℕ → Bool) (m : MachineState) (how : Opening) (append : Bool) (number : ℕ) (o : ℕ × FileMap) → ((n : ℕ) → n < length m.files.nodes → op n ≡ false → slice_get o.1.nodes n ≡ slice_get m.files.nodes n) → Keeps pid op m (with_number (with_node m how append o.0 o.1) pid number (length m.descriptions))
keeps_opens pid op m how append number o same sent =
    let made = with_node m how append o.0 o.1 in
    record {
      pipes = λ q within h _.
          let fails : (k : ℕ) → is_end m.descriptions q k ≡ false → is_end made.descriptions q k ≡ false = λ k g. more_fails m.descriptions _ (λ (e : Description). reads_from q e.target || writes_to q e.target) k (opened_end o.0 (slice_get o.1.nodes o.0) how append q) g in
          pipes_left_other pid (Named (Number number)) m.descriptors made.descriptions m.pipes q (reaches_no_more m.descriptors pid (is_end m.descriptions q) (is_end made.descriptions q) fails h);
      files = λ n within h unopened. same n within unopened;
      descriptors = λ q n _ _. others_numbered made pid number (length m.descriptions) q n;
      descriptions = λ k within h. front_place m.descriptions _ k within;
      processes = λ _ _ _ _. refl;
      makers = λ _ _. refl;
      ended = λ _ _. refl;
    }

-- a file that isn't opened isn't that whose number was answered
not_answered : (m : MachineState) (r r' : Request) (n : ℕ) (o : ℕ × FileMap) (was : Result (ℕ × FileMap) FileFault) → r ≡ r' → opens m r' n ≡ is_opened n was → was ≡ Ok o → opens m r n ≡ false → o.0 ≢ n
not_answered m r r' n o was is answers at unopened =
    apart o.0 n (sym (ap (λ (x : Result (ℕ × FileMap) FileFault). is_opened n x) at) ∙ sym answers ∙ sym (ap (λ (x : Request). opens m x n) is) ∙ unopened)

-- what signals came to: those that ended have no descriptors any more
pub keeps_signals : (pid : ℕ) (op : ℕ → Bool) (m : MachineState) (ps : List Process) (pids : List ℕ) (sent : Bool) → OnlyStatuses m.processes ps → sent ≡ true → ChangesOnlyReached pid sent op m (with_processes m ps pids)
keeps_signals pid op m ps pids sent only signalled =
    let e = endings m ps pids in
    let m' = with_processes m ps pids in
    record {
      pipes = λ q within r none. e.pipes q (λ p h. none signalled p (ap (λ (xs : List Process). has_ended xs p) e.processes ∙ h));
      files = λ n within r unopened. ap (λ (f : FileMap). slice_get f.nodes n) e.files;
      descriptions = λ k within r. ap (λ (es : List Description). slice_get es k) e.descriptions;
      descriptors = λ q n born alive. e.descriptors q (sym (ap (λ (xs : List Process). has_ended xs q) e.processes) ∙ alive signalled);
      processes = λ q n born none. absurd (true≢false sent signalled none);
      makers = λ q born. ap (λ (xs : List Process). option_map (λ (p : Process). p.maker) (process_at xs q)) e.processes ∙ only.makers q;
      ended = λ q h. ap (λ (xs : List Process). process_at xs q) e.processes ∙ only.ended q h;
    }

pub requests_change : RequestsChangeOnlyReached
requests_change s pid r =
    let m = s.machine in
    let op = opens m r in
    let sent = sends s pid r in
    by_cases s pid r (λ m'. ChangesOnlyReached pid sent op m m') (record {
      same = keeps_same pid op m sent;
      goes_on = λ k offset held. keeps_moved pid op m k offset held sent;
      pipe = λ k pipe slot held end. keeps_pipe pid op m k pipe slot held end sent;
      file = λ k node start end bytes files held file written. keeps_file pid op m k node start end bytes files held file written sent;
      closes = λ closing. keeps_closed pid op m closing sent;
      signals = λ ps pids only signalled. keeps_signals pid op m ps pids sent only signalled;
      numbers = λ number k held. keeps_number pid op m number k sent;
      renames = λ name number. keeps_renamed pid op m name number sent;
      back = λ k number. keeps_back pid op m k number sent;
      forks = keeps_forked pid op m sent;
      makes_pipe = λ from to. keeps_makes_pipe pid op m from to sent;
      opens = λ directory path how append number o is at.
          keeps_opens pid op m how append number o (λ n within unopened. opened_other m.files directory path how o n within (not_answered m r (Open directory path how append number) n o (opened m.files directory path how) is refl at unopened) at) sent;
      heres = λ bytes number o is at. keeps_opens pid op m for_reading false number o (λ n within unopened. nameless_other m.files bytes o n within at) sent;
    })
