-- The terminal has part in a list of requests only where its process reaches it at first or opens it, and only grows.
use Rattle.std.proofs.Common.{◌≡◌, ℕ, zero, suc, ◌≤◌, List, [], ◌∷◌, ◌++◌, length, Bool, true, false, not, cond, ◌==◌, Option, Some, None, slice_get, slice_set, refl, sym, ap, ◌∙◌, Result, Ok, Err, append-nil, arith, eq-eqb}
use Rattle.std.proofs.lemmas.List.{append_assoc}
use Rattle.std.specs.Option.{option_map_or}
use Rattle.std.specs.FinMap.{get}
use Rattle.sh_files.specs.Nodes as nodes
use Rattle.sh_files.specs.Nodes.{FileMap, nameless, opened, write_fits}
use Rattle.sh_files.specs.declared.fault.FileFault.{FileFault}
use Rattle.sh_files.specs.declared.fault.FileFault.TheVariants.{Exists, NoAccess, NoEntry, TooLarge}
use Rattle.sh_files.specs.declared.opening.Opening.{Opening}
use Rattle.sh_files_image.specs.Contents.{Regular, content_after_write}
use Rattle.sh_files_image.specs.declared.node.Node.{Node}
use Rattle.sh_files_image.specs.declared.node.Node.TheVariants.{Directory, File, Null, Terminal}
use Rattle.sh_kernel_descriptors.specs.Machine.{MachineState}
use Rattle.sh_kernel_descriptors.specs.Naming.{end_of}
use Rattle.sh_kernel_descriptors.specs.Opening.{description_of, for_reading, target_of}
use Rattle.sh_kernel_descriptors.specs.Reading.{with_offset}
use Rattle.sh_kernel_descriptors.specs.Terminals.{is_of_terminal, is_terminal_target}
use Rattle.sh_kernel_descriptors.specs.declared.description.Target.TheVariants.{ReadEnd, WriteEnd}
use Rattle.sh_tty.specs.Happenings.{bytes_of}
use Rattle.sh_kernel.specs.Laws.{ListsLeaveTheTerminal, ListsOnlyGrowTheTerminal, is_opened, opens, opens_any}
use Rattle.sh_kernel.specs.Reaching.{is_screen, reaches}
use Rattle.sh_kernel.specs.Requests.{Request, after_request}
use Rattle.sh_kernel.specs.State.{KernelState}
use Rattle.sh_kernel_descriptors.specs.declared.description.Description.{Description}
use Rattle.sh_kernel_machine.specs.Signals.{with_processes}
use Rattle.sh_kernel.proofs.Endings.{endings}
use Rattle.sh_kernel.proofs.Frames.{more_fails, reaches_no_more}
use Rattle.sh_kernel.proofs.Growing.{moved_length, requests_grow}
use Rattle.sh_kernel_machine.proofs.Lists.{false_of, or_left, or_right}
use Rattle.sh_kernel_machine.proofs.Nameless.{file_in, made}
use Rattle.sh_kernel.proofs.Reached.{past_all, still_fails, unreached}
use Rattle.sh_kernel.proofs.Requesting.{by_cases}
use Rattle.sh_kernel.proofs.Screens.{terminal_grows, terminal_stays}

-- ---- nodes
-- this node is the terminal
abbrev IsScreen : FileMap → ℕ → Type 0
IsScreen files n = slice_get files.nodes n ≡ Some Terminal

-- no other node came to be the terminal
abbrev NoScreenMore : FileMap → FileMap → Type 0
NoScreenMore old new = (n : ℕ) → IsScreen new n → IsScreen old n

screen_set : (ns : List Node) (k n : ℕ) (x y : Node) → slice_get ns k ≡ Some y → (x ≡ Terminal → y ≡ Terminal) → slice_get (slice_set ns k x) n ≡ Some Terminal → slice_get ns n ≡ Some Terminal
screen_set [] k n x y is back h = h
screen_set (z ∷ ns) zero zero x y is back h =
    let same : x ≡ Terminal = cc in
    is ∙ ap (λ (w : Node). Some w) (back same)
screen_set (z ∷ ns) zero (suc n) x y is back h = h
screen_set (z ∷ ns) (suc k) zero x y is back h = h
screen_set (z ∷ ns) (suc k) (suc n) x y is back h = screen_set ns k n x y is back h

screen_more : (ns : List Node) (file : Regular) (n : ℕ) → slice_get (ns ++ File file ∷ []) n ≡ Some Terminal → slice_get ns n ≡ Some Terminal
screen_more [] file zero h = absurd (cc)
screen_more [] file (suc n) h = h
screen_more (z ∷ ns) file zero h = h
screen_more (z ∷ ns) file (suc n) h = screen_more ns file n h

screen_written : (offset : ℕ) (bytes : List ℕ) (y x : Node) → nodes.node_written offset bytes y ≡ Ok x → x ≡ Terminal → y ≡ Terminal
screen_written offset bytes Directory x h is = absurd (cc)
screen_written offset bytes (File file) x h is = of_test (write_fits offset bytes) h
  where
    of_test : (b : Bool) → cond b (Ok (File (record file { bytes = content_after_write file.bytes offset bytes }))) (Err TooLarge) ≡ Ok x → File file ≡ Terminal
    of_test true h = absurd (cc)
    of_test false h = absurd (cc)
screen_written offset bytes Null x h is = absurd (cc)
screen_written offset bytes Terminal x h is = refl

screen_opened : (how : Opening) (y x : Node) → nodes.node_opened how y ≡ Ok x → x ≡ Terminal → y ≡ Terminal
screen_opened how Directory x h is = absurd (cc)
screen_opened how (File file) x h is = of_tests how.exclusive (nodes.allows file.flags how) h
  where
    of_tests : (a b : Bool) → cond a (Err Exists) (cond b (Ok (File (nodes.file_after_open file how))) (Err NoAccess)) ≡ Ok x → File file ≡ Terminal
    of_tests true b h = absurd (cc)
    of_tests false true h = absurd (cc)
    of_tests false false h = absurd (cc)
screen_opened how Null x h is = absurd (cc)
screen_opened how Terminal x h is = refl

-- ---- files
screen_with_node : (files files' : FileMap) (k : ℕ) (y : Node) (r : Result Node FileFault) → slice_get files.nodes k ≡ Some y → ((x : Node) → r ≡ Ok x → x ≡ Terminal → y ≡ Terminal) → nodes.with_node files k r ≡ Ok files' → NoScreenMore files files'
screen_with_node files files' k y (Ok x) is back h n screen =
    let e : record files { nodes = slice_set files.nodes k x } ≡ files' = cc in
    screen_set files.nodes k n x y is (back x refl) (ap (λ (f : FileMap). slice_get f.nodes n) e ∙ screen)
screen_with_node files files' k y (Err fault) is back h n screen = absurd (cc)

screen_write : (files files' : FileMap) (k offset : ℕ) (bytes : List ℕ) (o : Option Node) → slice_get files.nodes k ≡ o → nodes.write_node files k offset bytes o ≡ Ok files' → NoScreenMore files files'
screen_write files files' k offset bytes None is h n screen = absurd (cc)
screen_write files files' k offset bytes (Some y) is h n screen = screen_with_node files files' k y (nodes.node_written offset bytes y) is (λ x e t. screen_written offset bytes y x e t) h n screen

screen_open : (files files' : FileMap) (how : Opening) (k : ℕ) (o : Option Node) → slice_get files.nodes k ≡ o → nodes.open_node files how k o ≡ Ok files' → NoScreenMore files files'
screen_open files files' how k None is h n screen = absurd (cc)
screen_open files files' how k (Some y) is h n screen = screen_with_node files files' k y (nodes.node_opened how y) is (λ x e t. screen_opened how y x e t) h n screen

screen_numbered : (files : FileMap) (k : ℕ) (o : ℕ × FileMap) (r : Result FileMap FileFault) → ((f : FileMap) → r ≡ Ok f → NoScreenMore files f) → nodes.number_and_files k r ≡ Ok o → NoScreenMore files o.1
screen_numbered files k o (Ok f) back h n screen =
    let e : f ≡ o.1 = ap (λ (x : Result (ℕ × FileMap) FileFault). file_in f x) h in
    back f refl n (ap (λ (x : FileMap). slice_get x.nodes n) e ∙ screen)
screen_numbered files k o (Err fault) back h n screen = absurd (cc)

screen_created : (files : FileMap) (place : List ℕ) (o : ℕ × FileMap) (a b : Bool) → cond a (Err NoEntry) (cond b (Ok (length files.nodes, nodes.with_new files place nodes.new_file)) (Err NoAccess)) ≡ Ok o → NoScreenMore files o.1
screen_created files place o true b h n screen = absurd (cc)
screen_created files place o false false h n screen = absurd (cc)
screen_created files place o false true h n screen =
    let e : nodes.with_new files place nodes.new_file ≡ o.1 = ap (λ (x : Result (ℕ × FileMap) FileFault). file_in files x) h in
    screen_more files.nodes _ n (ap (λ (x : FileMap). slice_get x.nodes n) e ∙ screen)

screen_number : (files : FileMap) (place : List ℕ) (how : Opening) (o : ℕ × FileMap) (found : Option ℕ) → nodes.open_number files place how found ≡ Ok o → NoScreenMore files o.1
screen_number files place how o None h = screen_created files place o (not how.create) (nodes.may_create place) h
screen_number files place how o (Some k) h = screen_numbered files k o (nodes.open_node files how k (slice_get files.nodes k)) (λ f e. screen_open files f how k (slice_get files.nodes k) refl e) h

screen_place : (files : FileMap) (how : Opening) (o : ℕ × FileMap) (r : Result (List ℕ) FileFault) → nodes.open_place files how r ≡ Ok o → NoScreenMore files o.1
screen_place files how o (Ok place) h n screen = screen_number files place how o (get files.paths place) h n screen
screen_place files how o (Err fault) h n screen = absurd (cc)

screen_nameless : (files : FileMap) (bytes : List ℕ) (o : ℕ × FileMap) → nameless files bytes ≡ Ok o → NoScreenMore files o.1
screen_nameless files bytes o h n screen = screen_more files.nodes _ n (ap (λ (x : FileMap). slice_get x.nodes n) (made files bytes o h) ∙ screen)

-- ---- one request
-- no other node came to be the terminal; and no new description is of it, where the terminal wasn't opened
record Screenless (opens : ℕ → Bool) (old new : MachineState) : Type 0 where
  nodes : NoScreenMore old.files new.files
  fails : ((n : ℕ) → IsScreen old.files n → opens n ≡ false) → (k : ℕ) → length old.descriptions ≤ k → is_screen new.descriptions k ≡ false

screenless_same : (op : ℕ → Bool) (m m' : MachineState) → NoScreenMore m.files m'.files → length m'.descriptions ≡ length m.descriptions → Screenless op m m'
screenless_same op m m' back same = record { nodes = back; fails = λ unopened k h. past_all m'.descriptions is_of_terminal k (omega (arith, same, h)) }

-- what was opened is the terminal only where its node is
screen_target : (n : ℕ) (o : Option Node) → is_terminal_target (target_of n o) ≡ true → o ≡ Some Terminal
screen_target n None h = absurd (cc)
screen_target n (Some Directory) h = absurd (cc)
screen_target n (Some (File file)) h = absurd (cc)
screen_target n (Some Null) h = absurd (cc)
screen_target n (Some Terminal) h = refl

new_ends_no_screen : (pipe j : ℕ) → option_map_or is_of_terminal (slice_get (end_of (ReadEnd pipe) true ∷ end_of (WriteEnd pipe) false ∷ []) j) false ≡ false
new_ends_no_screen pipe zero = refl
new_ends_no_screen pipe (suc zero) = refl
new_ends_no_screen pipe (suc (suc j)) = refl

opened_no_screen : (n : ℕ) (o : Option Node) (how : Opening) (append : Bool) (j : ℕ) → (o ≡ Some Terminal → ⊥) → option_map_or is_of_terminal (slice_get (description_of (target_of n o) how append ∷ []) j) false ≡ false
opened_no_screen n o how append zero none = false_of _ (λ t. none (screen_target n o t))
opened_no_screen n o how append (suc j) none = refl

-- a file that was opened is the terminal only where that was opened
not_screen : (m : MachineState) (r : Request) (o : ℕ × FileMap) (x : Result (ℕ × FileMap) FileFault) → opens m r o.0 ≡ is_opened o.0 x → x ≡ Ok o → NoScreenMore m.files o.1 → ((n : ℕ) → IsScreen m.files n → opens m r n ≡ false) → IsScreen o.1 o.0 → ⊥
not_screen m r o x is at back unopened screen =
    let no : (o.0 == o.0) ≡ false = sym (is ∙ ap (λ (y : Result (ℕ × FileMap) FileFault). is_opened o.0 y) at) ∙ unopened o.0 (back o.0 screen) in
    let yes : (o.0 == o.0) ≡ true = eq-eqb o.0 o.0 refl in
    absurd (cc)

screenless : (s : KernelState) (pid : ℕ) (r : Request) → Screenless (opens s.machine r) s.machine (after_request s pid r).machine
screenless s pid r =
    let m = s.machine in
    let op = opens m r in
    by_cases s pid r (λ m'. Screenless op m m') (record {
      same = screenless_same op m m (λ n h. h) refl;
      goes_on = λ k offset held. screenless_same op m (record m { descriptions = with_offset m.descriptions k offset }) (λ n h. h) (moved_length m.descriptions k offset (slice_get m.descriptions k));
      pipe = λ k pipe slot held end. screenless_same op m (record m { pipes = slice_set m.pipes pipe slot }) (λ n h. h) refl;
      file = λ k node start end bytes files held file written.
          screenless_same op m (record m { files = files; descriptions = with_offset m.descriptions k end }) (screen_write m.files files node start bytes (slice_get m.files.nodes node) refl written) (moved_length m.descriptions k end (slice_get m.descriptions k));
      closes = λ closing. record { nodes = λ n h. h; fails = (screenless_same op m m (λ n h. h) refl).fails };
      signals = λ ps pids only signalled.
          let e = endings m ps pids in
          screenless_same op m (with_processes m ps pids) (λ n h. sym (ap (λ (f : FileMap). slice_get f.nodes n) e.files) ∙ h) (ap (λ (es : List Description). length es) e.descriptions);
      numbers = λ number k held. record { nodes = λ n h. h; fails = (screenless_same op m m (λ n h. h) refl).fails };
      renames = λ name number. record { nodes = λ n h. h; fails = (screenless_same op m m (λ n h. h) refl).fails };
      back = λ k number. record { nodes = λ n h. h; fails = (screenless_same op m m (λ n h. h) refl).fails };
      forks = record { nodes = λ n h. h; fails = (screenless_same op m m (λ n h. h) refl).fails };
      makes_pipe = λ from to. record { nodes = λ n h. h; fails = λ unopened k h. more_fails m.descriptions _ is_of_terminal k (new_ends_no_screen (length m.pipes)) (past_all m.descriptions is_of_terminal k h) };
      opens = λ directory path how append number o is at.
          let back = screen_place m.files how o (nodes.resolution m.files directory path) at in
          record {
            nodes = back;
            fails = λ unopened k h.
                let none = not_screen m r o (opened m.files directory path how) (ap (λ (x : Request). opens m x o.0) is) at back unopened in
                more_fails m.descriptions _ is_of_terminal k (λ j. opened_no_screen o.0 (slice_get o.1.nodes o.0) how append j none) (past_all m.descriptions is_of_terminal k h);
          };
      heres = λ bytes number o is at.
          let back = screen_nameless m.files bytes o at in
          record {
            nodes = back;
            fails = λ unopened k h.
                let none = not_screen m r o (nameless m.files bytes) (ap (λ (x : Request). opens m x o.0) is) at back unopened in
                more_fails m.descriptions _ is_of_terminal k (λ j. opened_no_screen o.0 (slice_get o.1.nodes o.0) for_reading false j none) (past_all m.descriptions is_of_terminal k h);
          };
    })

-- a process comes to reach the terminal only by opening it
screen_unreached : (s : KernelState) (pid : ℕ) (r : Request) → reaches s.machine.descriptors pid (is_screen s.machine.descriptions) ≡ false → ((n : ℕ) → IsScreen s.machine.files n → opens s.machine r n ≡ false) → reaches (after_request s pid r).machine.descriptors pid (is_screen (after_request s pid r).machine.descriptions) ≡ false
screen_unreached s pid r h unopened =
    let m = s.machine in
    let m' = (after_request s pid r).machine in
    let fails = (screenless s pid r).fails unopened in
    let still = reaches_no_more m.descriptors pid (is_screen m.descriptions) (is_screen m'.descriptions) (λ k e. still_fails is_terminal_target m.descriptions m'.descriptions k (requests_grow s pid r).targets (λ past. fails k past) e) h in
    (unreached s pid r).fails pid (is_screen m'.descriptions) still still fails

-- ---- lists of requests
pub lists_leave_terminal : ListsLeaveTheTerminal
lists_leave_terminal s pid [] h unopened = refl
lists_leave_terminal s pid (r ∷ rs) h unopened =
    let after = after_request s pid r in
    let first : (n : ℕ) → IsScreen s.machine.files n → opens s.machine r n ≡ false = λ n t. or_left (opens s.machine r n) (opens_any after pid rs n) (unopened n t) in
    lists_leave_terminal after pid rs (screen_unreached s pid r h first) (λ n t. or_right (opens s.machine r n) (opens_any after pid rs n) (unopened n ((screenless s pid r).nodes n t))) ∙ terminal_stays s pid r h

pub lists_grow_terminal : ListsOnlyGrowTheTerminal
lists_grow_terminal s pid [] = ([], sym (append-nil _))
lists_grow_terminal s pid (r ∷ rs) =
    let first = terminal_grows s pid r in
    let rest = lists_grow_terminal (after_request s pid r) pid rs in
    (first.0 ++ rest.0, rest.1 ∙ ap (λ (bs : List ℕ). bs ++ rest.0) first.1 ∙ append_assoc (bytes_of s.terminal) first.0 rest.0)
