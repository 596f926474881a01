-- A request doesn't let its process reach more, and lists of requests change what one does.
use Rattle.std.proofs.Common.{◌≡◌, ℕ, zero, suc, ◌+◌, ◌<◌, ◌≤◌, List, [], ◌∷◌, ◌++◌, length, map, filter, Bool, true, false, cond, ◌&&◌, ◌||◌, ◌==◌, Option, Some, None, position, slice_get, slice_set, refl, sym, ap, ◌∙◌, arith, nat_lt, option_map, Result}
use Rattle.std.specs.Option.{option_map_or}
use Rattle.std.proofs.lemmas.Bool.{eqb-true}
use borrow.Author.Tests.{ltb-true, ltb-false}
use Rattle.sh_files.specs.Nodes.{FileMap}
use Rattle.sh_files.specs.declared.fault.FileFault.{FileFault}
use Rattle.sh_files.specs.declared.opening.Opening.{Opening}
use Rattle.sh_files_image.specs.declared.node.Node.{Node}
use Rattle.sh_files_image.specs.declared.node.Node.TheVariants as node
use Rattle.sh_kernel_descriptors.specs.Closings.{descriptors_left}
use Rattle.sh_kernel_descriptors.specs.Descriptors.{is_named, reads_from, writes_to}
use Rattle.sh_kernel_descriptors.specs.Machine.{MachineState}
use Rattle.sh_kernel_descriptors.specs.Naming.{end_of, after_renaming, renamed_at, after_renumbering, with_number, with_pipe}
use Rattle.sh_kernel_descriptors.specs.Opening.{description_of, for_reading, target_of}
use Rattle.sh_kernel_descriptors.specs.Copies.{copies, is_copied, of_process}
use Rattle.sh_kernel_processes.specs.Processes.{has_ended, is_ended, next_pid}
use Rattle.sh_kernel_processes.specs.declared.process.Process.{Process}
use Rattle.sh_kernel_descriptors.specs.Reading.{with_offset}
use Rattle.sh_kernel_descriptors.specs.declared.descriptor.Closing.TheVariants.{Named}
use Rattle.sh_kernel_descriptors.specs.declared.descriptor.Descriptor.{Descriptor}
use Rattle.sh_kernel_descriptors.specs.declared.descriptor.DescriptorRef.{DescriptorRef}
use Rattle.sh_kernel_descriptors.specs.declared.descriptor.DescriptorRef.TheVariants.{Number, Aside}
use Rattle.sh_kernel_descriptors.specs.declared.description.Description.{Description}
use Rattle.sh_kernel_descriptors.specs.declared.description.Target.{Target}
use Rattle.sh_kernel_descriptors.specs.declared.description.Target.TheVariants.{ReadEnd, WriteEnd}
use Rattle.sh_kernel.specs.State.{KernelState}
use Rattle.sh_kernel.specs.Laws.{ChangesOnlyReached, ListsChangeOnlyReached, ListsLeaveOwned, ListsOnlyGrow, ListsReachNoMore, OnlyGrows, ReachesNoMore, RequestsReachNoMore, is_opened, opens, opens_any, sends, sends_any, target_at}
use Rattle.sh_kernel.specs.Reaching.{is_end, is_file, is_node, reaches}
use Rattle.sh_kernel.specs.Requests.{Request, after_request, after_requests}
use Rattle.sh_kernel_machine.specs.Signals.{with_processes}
use Rattle.sh_kernel_machine.proofs.Closing.{true≢false}
use Rattle.sh_kernel.proofs.Closing.{reaches_left}
use Rattle.sh_kernel.proofs.Endings.{endings}
use Rattle.sh_kernel.proofs.Frames.{keeps_same, more_fails, new_ends, opened_end, reaches_no_more, reaches_one_more, requests_change}
use Rattle.sh_kernel.proofs.Growing.{grows_same, grows_then, moved_length, requests_grow}
use Rattle.sh_kernel_machine.proofs.Lists.{false_of, or_left, or_right}
use Rattle.sh_kernel.proofs.Owning.{owned_stays}
use Rattle.sh_kernel.proofs.Requesting.{by_cases}

-- ---- descriptors
-- what fails at new numbers, and wherever the process and another one reach, still does wherever that one reaches; the other one may be the
-- process itself, or one that it makes
pub record Unreached (pid : ℕ) (old new : MachineState) : Type 0 where
  pub fails : (q : ℕ) (test : ℕ → Bool) → reaches old.descriptors pid test ≡ false → reaches old.descriptors q test ≡ false → ((k : ℕ) → length old.descriptions ≤ k → test k ≡ false) → reaches new.descriptors q test ≡ false

reaches_append : (xs ys : List Descriptor) (pid : ℕ) (test : ℕ → Bool) → reaches xs pid test ≡ false → reaches ys pid test ≡ false → reaches (xs ++ ys) pid test ≡ false
reaches_append [] ys pid test h k = k
reaches_append (d ∷ xs) ys pid test h k =
    ap (λ (c : Bool). c || reaches (xs ++ ys) pid test) (or_left ((d.pid == pid) && test d.description) (reaches xs pid test) h)
    ∙ reaches_append xs ys pid test (or_right ((d.pid == pid) && test d.description) (reaches xs pid test) h) k

reaches_copies : (ds : List Descriptor) (pid child q : ℕ) (test : ℕ → Bool) → reaches ds pid test ≡ false → reaches (copies ds pid child) q test ≡ false
reaches_copies [] pid child q test h = refl
reaches_copies (d ∷ ds) pid child q test h =
    of_test (is_copied pid d) refl (reaches_copies ds pid child q test (or_right ((d.pid == pid) && test d.description) (reaches ds pid test) h)) (or_left ((d.pid == pid) && test d.description) (reaches ds pid test) h)
  where
    fails_own : (a b c : Bool) → (a && b) ≡ true → (a && c) ≡ false → c ≡ false
    fails_own true b c e h = h
    fails_own false b c e h = absurd (cc)

    and_false : (b c : Bool) → c ≡ false → (b && c) ≡ false
    and_false true c h = h
    and_false false c h = refl

    of_test : (b : Bool) → is_copied pid d ≡ b → reaches (copies ds pid child) q test ≡ false → ((d.pid == pid) && test d.description) ≡ false → reaches (map (of_process child) (cond b (d ∷ filter (is_copied pid) ds) (filter (is_copied pid) ds))) q test ≡ false
    of_test false e rest h = rest
    of_test true e rest h =
        ap (λ (c : Bool). c || reaches (copies ds pid child) q test) (and_false (child == q) (test d.description) (fails_own (d.pid == pid) _ (test d.description) e h)) ∙ rest

reaches_set : (ds : List Descriptor) (i : ℕ) (d : Descriptor) (number : Option ℕ) (pid : ℕ) (test : ℕ → Bool) → slice_get ds i ≡ Some d → reaches (slice_set ds i (record d { number = number })) pid test ≡ reaches ds pid test
reaches_set [] i d number pid test h = refl
reaches_set (y ∷ ds) zero d number pid test h =
    let same : y ≡ d = cc in
    ap (λ (z : Descriptor). ((z.pid == pid) && test z.description) || reaches ds pid test) (sym same)
reaches_set (y ∷ ds) (suc i) d number pid test h = ap (λ (c : Bool). ((y.pid == pid) && test y.description) || c) (reaches_set ds i d number pid test h)

reaches_renamed : (ds : List Descriptor) (q : ℕ) (name : DescriptorRef) (number : Option ℕ) (pid : ℕ) (test : ℕ → Bool) → reaches ds pid test ≡ false → reaches (after_renaming ds q name number) pid test ≡ false
reaches_renamed ds q name number pid test h = of_place (position (is_named q name) ds)
  where
    of_entry : (i : ℕ) (o : Option Descriptor) → slice_get ds i ≡ o → reaches (after_renumbering ds number i o) pid test ≡ false
    of_entry i None is = h
    of_entry i (Some d) is = reaches_set ds i d number pid test is ∙ h

    of_place : (o : Option ℕ) → reaches (renamed_at ds number o) pid test ≡ false
    of_place None = h
    of_place (Some i) = of_entry i (slice_get ds i) refl

pub unreached : (s : KernelState) (pid : ℕ) (r : Request) → Unreached pid s.machine (after_request s pid r).machine
unreached s pid r =
    let m = s.machine in
    let ds = m.descriptors in
    by_cases s pid r (λ m'. Unreached pid m m') (record {
      same = record { fails = λ q test own h new. h };
      goes_on = λ k offset held. record { fails = λ q test own h new. h };
      pipe = λ k pipe slot held end. record { fails = λ q test own h new. h };
      file = λ k node start end bytes files held file written. record { fails = λ q test own h new. h };
      closes = λ closing. record { fails = λ q test own h new. reaches_left pid closing ds q test h };
      signals = λ ps pids only signalled. record { fails = λ q test own h new. (endings m ps pids).reaches_less q test h };
      numbers = λ number k held. record { fails = λ q test own h new. reaches_one_more (descriptors_left pid (Named (Number number)) ds) _ q test (reaches_left pid (Named (Number number)) ds q test h) (held.fails test own) };
      renames = λ name number. record { fails = λ q test own h new. reaches_renamed ds pid name number q test h };
      back = λ k number. record { fails = λ q test own h new. reaches_renamed (descriptors_left pid (Named (Number number)) ds) pid (Aside k) (Some number) q test (reaches_left pid (Named (Number number)) ds q test h) };
      forks = record { fails = λ q test own h new. reaches_append ds _ q test h (reaches_copies ds pid (next_pid m.processes) q test own) };
      makes_pipe = λ from to. record {
        fails = λ q test own h new.
            let first = with_number (with_pipe m) pid from (length m.descriptions) in
            let at_first : reaches first.descriptors q test ≡ false = reaches_one_more (descriptors_left pid (Named (Number from)) ds) _ q test (reaches_left pid (Named (Number from)) ds q test h) (new (length m.descriptions) (omega arith)) in
            reaches_one_more (descriptors_left pid (Named (Number to)) first.descriptors) _ q test (reaches_left pid (Named (Number to)) first.descriptors q test at_first) (new (length m.descriptions + 1) (omega arith));
      };
      opens = λ directory path how append number o is at. record { fails = λ q test own h new. reaches_one_more (descriptors_left pid (Named (Number number)) ds) _ q test (reaches_left pid (Named (Number number)) ds q test h) (new (length m.descriptions) (omega arith)) };
      heres = λ bytes number o is at. record { fails = λ q test own h new. reaches_one_more (descriptors_left pid (Named (Number number)) ds) _ q test (reaches_left pid (Named (Number number)) ds q test h) (new (length m.descriptions) (omega arith)) };
    })

-- ---- descriptions
-- a new description is no end of a pipe that was there, and of no file but one that was opened
record NewFails (opens : ℕ → Bool) (old new : MachineState) : Type 0 where
  ends : (q k : ℕ) → q < length old.pipes → length old.descriptions ≤ k → is_end new.descriptions q k ≡ false
  files : (n k : ℕ) → opens n ≡ false → length old.descriptions ≤ k → is_file new.descriptions n k ≡ false

pub past_all : (es : List Description) (f : Description → Bool) (k : ℕ) → length es ≤ k → option_map_or f (slice_get es k) false ≡ false
past_all [] f k h = refl
past_all (e ∷ es) f zero h = absurd (omega arith)
past_all (e ∷ es) f (suc k) h = past_all es f k (omega arith)

abbrev ends_of : ℕ → Description → Bool
ends_of q e = reads_from q e.target || writes_to q e.target

abbrev files_of : ℕ → Description → Bool
files_of n e = is_node n e.target

new_same : (op : ℕ → Bool) (m m' : MachineState) → length m'.descriptions ≡ length m.descriptions → NewFails op m m'
new_same op m m' same = record {
  ends = λ q k within h. past_all m'.descriptions (ends_of q) k (omega (arith, same, h));
  files = λ n k unopened h. past_all m'.descriptions (files_of n) k (omega (arith, same, h));
}

-- the new ends of a pipe are of no file
new_ends_no_file : (pipe n j : ℕ) → option_map_or (files_of n) (slice_get (end_of (ReadEnd pipe) true ∷ end_of (WriteEnd pipe) false ∷ []) j) false ≡ false
new_ends_no_file pipe n zero = refl
new_ends_no_file pipe n (suc zero) = refl
new_ends_no_file pipe n (suc (suc j)) = refl

-- what was opened is of the file of its number alone
only_its_file : (a n : ℕ) (o : Option Node) → (a == n) ≡ false → is_node n (target_of a o) ≡ false
only_its_file a n None h = h
only_its_file a n (Some node.Directory) h = h
only_its_file a n (Some (node.File file)) h = h
only_its_file a n (Some node.Null) h = refl
only_its_file a n (Some node.Terminal) h = refl

opened_file : (a n : ℕ) (o : Option Node) (how : Opening) (append : Bool) (j : ℕ) → (a == n) ≡ false → option_map_or (files_of n) (slice_get (description_of (target_of a o) how append ∷ []) j) false ≡ false
opened_file a n o how append zero h = only_its_file a n o h
opened_file a n o how append (suc j) h = refl

new_fails : (s : KernelState) (pid : ℕ) (r : Request) → NewFails (opens s.machine r) s.machine (after_request s pid r).machine
new_fails s pid r =
    let m = s.machine in
    let op = opens m r in
    by_cases s pid r (λ m'. NewFails op m m') (record {
      same = new_same op m m refl;
      goes_on = λ k offset held. new_same op m (record m { descriptions = with_offset m.descriptions k offset }) (moved_length m.descriptions k offset (slice_get m.descriptions k));
      pipe = λ k pipe slot held end. new_same op m (record m { pipes = slice_set m.pipes pipe slot }) refl;
      file = λ k node start end bytes files held file written. new_same op m (record m { files = files; descriptions = with_offset m.descriptions k end }) (moved_length m.descriptions k end (slice_get m.descriptions k));
      closes = λ closing. record { ends = (new_same op m m refl).ends; files = (new_same op m m refl).files };
      signals = λ ps pids only signalled. new_same op m (with_processes m ps pids) (ap (λ (es : List Description). length es) (endings m ps pids).descriptions);
      numbers = λ number k held. record { ends = (new_same op m m refl).ends; files = (new_same op m m refl).files };
      renames = λ name number. record { ends = (new_same op m m refl).ends; files = (new_same op m m refl).files };
      back = λ k number. record { ends = (new_same op m m refl).ends; files = (new_same op m m refl).files };
      forks = record { ends = (new_same op m m refl).ends; files = (new_same op m m refl).files };
      makes_pipe = λ from to. record {
        ends = λ q k within h. more_fails m.descriptions _ (ends_of q) k (new_ends (length m.pipes) q within) (past_all m.descriptions (ends_of q) k h);
        files = λ n k unopened h. more_fails m.descriptions _ (files_of n) k (new_ends_no_file (length m.pipes) n) (past_all m.descriptions (files_of n) k h);
      };
      opens = λ directory path how append number o is at. record {
        ends = λ q k within h. more_fails m.descriptions _ (ends_of q) k (opened_end o.0 (slice_get o.1.nodes o.0) how append q) (past_all m.descriptions (ends_of q) k h);
        files = λ n k unopened h.
            let other : (o.0 == n) ≡ false = sym (ap (λ (x : Result (ℕ × FileMap) FileFault). is_opened n x) at) ∙ sym (ap (λ (x : Request). opens m x n) is) ∙ unopened in
            more_fails m.descriptions _ (files_of n) k (λ j. opened_file o.0 n (slice_get o.1.nodes o.0) how append j other) (past_all m.descriptions (files_of n) k h);
      };
      heres = λ bytes number o is at. record {
        ends = λ q k within h. more_fails m.descriptions _ (ends_of q) k (opened_end o.0 (slice_get o.1.nodes o.0) for_reading false q) (past_all m.descriptions (ends_of q) k h);
        files = λ n k unopened h.
            let other : (o.0 == n) ≡ false = sym (ap (λ (x : Result (ℕ × FileMap) FileFault). is_opened n x) at) ∙ sym (ap (λ (x : Request). opens m x n) is) ∙ unopened in
            more_fails m.descriptions _ (files_of n) k (λ j. opened_file o.0 n (slice_get o.1.nodes o.0) for_reading false j other) (past_all m.descriptions (files_of n) k h);
      };
    })

-- ---- both
-- a test on targets
by_target : (f : Target → Bool) (o : Option Description) → option_map_or (λ (e : Description). f e.target) o false ≡ option_map_or f (option_map (λ (e : Description). e.target) o) false
by_target f None = refl
by_target f (Some e) = refl

pub still_fails : (f : Target → Bool) (es es' : List Description) (k : ℕ) → ((j : ℕ) → j < length es → target_at es' j ≡ target_at es j) → (length es ≤ k → option_map_or (λ (e : Description). f e.target) (slice_get es' k) false ≡ false) → option_map_or (λ (e : Description). f e.target) (slice_get es k) false ≡ false → option_map_or (λ (e : Description). f e.target) (slice_get es' k) false ≡ false
still_fails f es es' k old new h = of_test (nat_lt k (length es)) refl
  where
    of_test : (b : Bool) → nat_lt k (length es) ≡ b → option_map_or (λ (e : Description). f e.target) (slice_get es' k) false ≡ false
    of_test true t = by_target f (slice_get es' k) ∙ ap (λ (o : Option Target). option_map_or f o false) (old k (ltb-true k (length es) t)) ∙ sym (by_target f (slice_get es k)) ∙ h
    of_test false t = new (ltb-false k (length es) t)

pub reach_no_more : RequestsReachNoMore
reach_no_more s pid r =
    let m = s.machine in
    let m' = (after_request s pid r).machine in
    let u = unreached s pid r in
    let f = new_fails s pid r in
    let g = requests_grow s pid r in
    let no_end = λ (p q : ℕ) (within : q < length m.pipes) (h : reaches m.descriptors p (is_end m.descriptions q) ≡ false).
    reaches_no_more m.descriptors p (is_end m.descriptions q) (is_end m'.descriptions q) (λ k e. still_fails (λ t. reads_from q t || writes_to q t) m.descriptions m'.descriptions k g.targets (λ past. f.ends q k within past) e) h in
    record {
      pipes = λ q within h. u.fails pid (is_end m'.descriptions q) (no_end pid q within h) (no_end pid q within h) (λ k past. f.ends q k within past);
      files = λ n h unopened.
          let no_file = reaches_no_more m.descriptors pid (is_file m.descriptions n) (is_file m'.descriptions n) (λ k e. still_fails (is_node n) m.descriptions m'.descriptions k g.targets (λ past. f.files n k unopened past) e) h in
          u.fails pid (is_file m'.descriptions n) no_file no_file (λ k past. f.files n k unopened past);
      descriptions = λ k within h. u.fails pid (λ j. j == k) h h (λ j past. false_of (j == k) (λ t. let e : j ≡ k = eqb-true j k t in omega (arith, past, within, e)));
      others = λ p q within own h. u.fails p (is_end m'.descriptions q) (no_end pid q within own) (no_end p q within h) (λ k past. f.ends q k within past);
    }

-- ---- lists of requests
or_true_left : (a b : Bool) → a ≡ true → (a || b) ≡ true
or_true_left true b h = refl
or_true_left false b h = absurd (cc)

or_true_right : (a b : Bool) → b ≡ true → (a || b) ≡ true
or_true_right true b h = refl
or_true_right false b h = h

pub changes_then : (pid : ℕ) (x y : Bool) (op op' : ℕ → Bool) (a b c : MachineState) → OnlyGrows a b → ReachesNoMore pid op a b → ChangesOnlyReached pid x op a b → ChangesOnlyReached pid y op' b c → ChangesOnlyReached pid (x || y) (λ n. op n || op' n) a c
changes_then pid x y op op' a b c grow less f g =
    let still = λ (q : ℕ) (e : has_ended b.processes q ≡ true). ap (λ (o : Option Process). is_ended o) (g.ended q e) ∙ e in
    record {
      pipes = λ q within h none.
          let within' : q < length b.pipes = omega (arith, within, grow.pipes) in
          g.pipes q within' (less.pipes q within h) (λ t p e. less.others p q within h (none (or_true_right x y t) p e))
          ∙ f.pipes q within h (λ t p e. none (or_true_left x y t) p (still p e));
      files = λ n within h unopened.
          let within' : n < length b.files.nodes = omega (arith, within, grow.files) in
          let first : op n ≡ false = or_left (op n) (op' n) unopened in
          g.files n within' (less.files n h first) (or_right (op n) (op' n) unopened) ∙ f.files n within h first;
      descriptions = λ k within h. let within' : k < length b.descriptions = omega (arith, within, grow.descriptions) in g.descriptions k within' (less.descriptions k within h) ∙ f.descriptions k within h;
      descriptors = λ q n born alive.
          let born' : q < next_pid b.processes = omega (arith, born, grow.processes) in
          g.descriptors q n born' (λ t. alive (or_true_right x y t))
          ∙ f.descriptors q n born (λ t. false_of (has_ended b.processes q) (λ e. true≢false (has_ended c.processes q) (still q e) (alive (or_true_left x y t))));
      processes = λ q n born none.
          let born' : q < next_pid b.processes = omega (arith, born, grow.processes) in
          g.processes q n born' (or_right x y none) ∙ f.processes q n born (or_left x y none);
      makers = λ q born. let born' : q < next_pid b.processes = omega (arith, born, grow.processes) in g.makers q born' ∙ f.makers q born;
      ended = λ q e. g.ended q (ap (λ (o : Option Process). is_ended o) (f.ended q e) ∙ e) ∙ f.ended q e;
    }

pub lists_change : ListsChangeOnlyReached
lists_change s pid [] = keeps_same pid (λ n. false) s.machine false
lists_change s pid (r ∷ rs) =
    changes_then pid (sends s pid r) (sends_any (after_request s pid r) pid rs) (opens s.machine r) (opens_any (after_request s pid r) pid rs) s.machine (after_request s pid r).machine (after_requests (after_request s pid r) pid rs).machine (requests_grow s pid r) (reach_no_more s pid r) (requests_change s pid r) (lists_change (after_request s pid r) pid rs)

pub reaches_then : (pid : ℕ) (op op' : ℕ → Bool) (a b c : MachineState) → OnlyGrows a b → ReachesNoMore pid op a b → ReachesNoMore pid op' b c → ReachesNoMore pid (λ n. op n || op' n) a c
reaches_then pid op op' a b c grow f g = record {
  pipes = λ q within h. let within' : q < length b.pipes = omega (arith, grow.pipes) in g.pipes q within' (f.pipes q within h);
  files = λ n h unopened. g.files n (f.files n h (or_left (op n) (op' n) unopened)) (or_right (op n) (op' n) unopened);
  descriptions = λ k within h. let within' : k < length b.descriptions = omega (arith, grow.descriptions) in g.descriptions k within' (f.descriptions k within h);
  others = λ p q within own h. let within' : q < length b.pipes = omega (arith, grow.pipes) in g.others p q within' (f.pipes q within own) (f.others p q within own h);
}

pub lists_reach_no_more : ListsReachNoMore
lists_reach_no_more s pid [] = record { pipes = λ q within h. h; files = λ n h unopened. h; descriptions = λ k within h. h; others = λ p q within own h. h }
lists_reach_no_more s pid (r ∷ rs) =
    reaches_then pid (opens s.machine r) (opens_any (after_request s pid r) pid rs) s.machine (after_request s pid r).machine (after_requests (after_request s pid r) pid rs).machine (requests_grow s pid r) (reach_no_more s pid r) (lists_reach_no_more (after_request s pid r) pid rs)

pub lists_grow : ListsOnlyGrow
lists_grow s pid [] = grows_same s.machine
lists_grow s pid (r ∷ rs) =
    grows_then s.machine (after_request s pid r).machine (after_requests (after_request s pid r) pid rs).machine (requests_grow s pid r) (lists_grow (after_request s pid r) pid rs)

pub lists_leave_owned : ListsLeaveOwned
lists_leave_owned s pid q [] test n within own = own
lists_leave_owned s pid q (r ∷ rs) test n within own =
    let grow = requests_grow s q r in
    lists_leave_owned (after_request s q r) pid q rs test n (λ k t. let old : k < length s.machine.descriptions = within k t in omega (arith, old, grow.descriptions)) (owned_stays s pid q r test n within own).0
