-- What a process reaches, as another one makes requests and makes it.
use Rattle.std.proofs.Common.{◌≡◌, ◌≢◌, ℕ, zero, suc, ◌+◌, Bool, true, false, cond, ◌&&◌, ◌||◌, ◌==◌, List, [], ◌∷◌, ◌++◌, length, map, filter, Option, Some, None, position, slice_get, slice_set, refl, sym, ap, ◌∙◌}
use Rattle.std.specs.List.{list_any}
use Rattle.std.proofs.lemmas.Bool.{eqb-true}
use Rattle.sh_kernel_descriptors.specs.Closings.{descriptors_left, stays}
use Rattle.sh_kernel_descriptors.specs.Descriptors.{description_number, is_named}
use Rattle.sh_kernel_descriptors.specs.Machine.{MachineState}
use Rattle.sh_kernel_descriptors.specs.Naming.{aside_found, back_found, is_allowed, put_back, after_renaming, renamed_at, after_renumbering, with_number, with_pipe}
use Rattle.sh_kernel_descriptors.specs.Outcomes.{success, refusal}
use Rattle.sh_kernel_descriptors.specs.Copies.{copies, is_copied, of_process}
use Rattle.sh_kernel_processes.specs.Processes.{lives}
use Rattle.sh_kernel_descriptors.specs.declared.descriptor.Closing.{Closing}
use Rattle.sh_kernel_descriptors.specs.declared.descriptor.Closing.TheVariants.{Named}
use Rattle.sh_kernel_descriptors.specs.declared.descriptor.Descriptor.{Descriptor}
use Rattle.sh_kernel_descriptors.specs.declared.descriptor.DescriptorRef.{DescriptorRef}
use Rattle.sh_kernel_descriptors.specs.declared.descriptor.DescriptorRef.TheVariants.{Number, Aside}
use Rattle.sh_kernel_descriptors.specs.declared.fault.KernelFault.TheVariants.{NoProcess, TooManyDescriptors}
use Rattle.sh_kernel.specs.State.{KernelState}
use Rattle.sh_kernel.specs.Reaching.{reaches}
use Rattle.sh_kernel.specs.Requests.{MakePipe, PutBack, SetAside, after_request}
use Rattle.sh_kernel_machine.proofs.Lists.{false_of, or_left, or_right}

-- ---- descriptors that go and come
pub reaches_others_left : (pid : ℕ) (closing : Closing) (ds : List Descriptor) (p : ℕ) (test : ℕ → Bool) → reaches ds p test ≡ false → reaches (descriptors_left pid closing ds) p test ≡ false
reaches_others_left pid closing [] p test h = refl
reaches_others_left pid closing (d ∷ ds) p test h =
    of_test (stays pid closing d) (reaches_others_left pid closing ds p test (or_right ((d.pid == p) && test d.description) (reaches ds p test) h)) (or_left ((d.pid == p) && test d.description) (reaches ds p test) h)
  where
    of_test : (b : Bool) → reaches (descriptors_left pid closing ds) p test ≡ false → ((d.pid == p) && test d.description) ≡ false → reaches (cond b (d ∷ descriptors_left pid closing ds) (descriptors_left pid closing ds)) p test ≡ false
    of_test true rest h = ap (λ (c : Bool). c || reaches (descriptors_left pid closing ds) p test) h ∙ rest
    of_test false rest h = rest

pub reaches_append : (xs ys : List Descriptor) (p : ℕ) (test : ℕ → Bool) → reaches xs p test ≡ false → reaches ys p test ≡ false → reaches (xs ++ ys) p test ≡ false
reaches_append [] ys p test h k = k
reaches_append (d ∷ xs) ys p test h k =
    ap (λ (c : Bool). c || reaches (xs ++ ys) p test) (or_left ((d.pid == p) && test d.description) (reaches xs p test) h)
    ∙ reaches_append xs ys p test (or_right ((d.pid == p) && test d.description) (reaches xs p test) h) k

-- a descriptor of another process
pub of_another : (x : Descriptor) (p : ℕ) (test : ℕ → Bool) → x.pid ≢ p → reaches (x ∷ []) p test ≡ false
of_another x p test n = ap (λ (b : Bool). (b && test x.description) || false) (false_of (x.pid == p) (λ t. n (eqb-true x.pid p t)))

pub reaches_set : (ds : List Descriptor) (i : ℕ) (d : Descriptor) (number : Option ℕ) (p : ℕ) (test : ℕ → Bool) → slice_get ds i ≡ Some d → reaches (slice_set ds i (record d { number = number })) p test ≡ reaches ds p test
reaches_set [] i d number p test h = refl
reaches_set (y ∷ ds) zero d number p test h =
    let same : y ≡ d = cc in
    ap (λ (z : Descriptor). ((z.pid == p) && test z.description) || reaches ds p test) (sym same)
reaches_set (y ∷ ds) (suc i) d number p test h = ap (λ (c : Bool). ((y.pid == p) && test y.description) || c) (reaches_set ds i d number p test h)

pub reaches_renamed : (ds : List Descriptor) (q : ℕ) (name : DescriptorRef) (number : Option ℕ) (p : ℕ) (test : ℕ → Bool) → reaches ds p test ≡ false → reaches (after_renaming ds q name number) p test ≡ false
reaches_renamed ds q name number p test h = of_place (position (is_named q name) ds)
  where
    of_entry : (i : ℕ) (o : Option Descriptor) → slice_get ds i ≡ o → reaches (after_renumbering ds number i o) p test ≡ false
    of_entry i None is = h
    of_entry i (Some d) is = reaches_set ds i d number p test is ∙ h

    of_place : (o : Option ℕ) → reaches (renamed_at ds number o) p test ≡ false
    of_place None = h
    of_place (Some i) = of_entry i (slice_get ds i) refl

-- ---- a process makes a pipe, sets a number aside and takes it back
-- another process reaches no more by it, and there are as many processes
pub record Keeps (p : ℕ) (old new : MachineState) : Type 0 where
  pub fails : (test : ℕ → Bool) → reaches old.descriptors p test ≡ false → reaches new.descriptors p test ≡ false
  pub processes : new.processes ≡ old.processes

pub keeps_same : (p : ℕ) (m : MachineState) → Keeps p m m
keeps_same p m = record { fails = λ test h. h; processes = refl }

pub keeps_then : (p : ℕ) (a b c : MachineState) → Keeps p a b → Keeps p b c → Keeps p a c
keeps_then p a b c f g = record { fails = λ test h. g.fails test (f.fails test h); processes = g.processes ∙ f.processes }

keeps_number : (m : MachineState) (pid p number k : ℕ) → pid ≢ p → Keeps p m (with_number m pid number k)
keeps_number m pid p number k n = record {
  fails = λ test h. reaches_append (descriptors_left pid (Named (Number number)) m.descriptors) _ p test (reaches_others_left pid (Named (Number number)) m.descriptors p test h) (of_another (record { pid = pid; number = Some number; description = k }) p test n);
  processes = refl;
}

keeps_both : (m : MachineState) (pid p from to : ℕ) → pid ≢ p → Keeps p m (with_number (with_number (with_pipe m) pid from (length m.descriptions)) pid to (length m.descriptions + 1))
keeps_both m pid p from to n =
    let first = with_number (with_pipe m) pid from (length m.descriptions) in
    keeps_then p m first (with_number first pid to (length m.descriptions + 1))
    (record { fails = (keeps_number (with_pipe m) pid p from (length m.descriptions) n).fails; processes = refl })
    (keeps_number first pid p to (length m.descriptions + 1) n)

pub keeps_pipe : (s : KernelState) (pid p from to : ℕ) → pid ≢ p → Keeps p s.machine (after_request s pid (MakePipe from to)).machine
keeps_pipe s pid p from to n = of_tests (lives s.machine.processes pid) (is_allowed from && is_allowed to)
  where
    of_tests : (a b : Bool) → Keeps p s.machine (cond a (cond b (success {A = Unit {0}} tt (with_number (with_number (with_pipe s.machine) pid from (length s.machine.descriptions)) pid to (length s.machine.descriptions + 1))) (refusal s.machine TooManyDescriptors)) (refusal s.machine NoProcess)).after
    of_tests true true = keeps_both s.machine pid p from to n
    of_tests true false = keeps_same p s.machine
    of_tests false b = keeps_same p s.machine

pub keeps_aside : (s : KernelState) (pid p number : ℕ) → Keeps p s.machine (after_request s pid (SetAside number)).machine
keeps_aside s pid p number = of_found (description_number s.machine.descriptors pid (Number number))
  where
    of_found : (o : Option ℕ) → Keeps p s.machine (aside_found s.machine pid number o).after
    of_found None = keeps_same p s.machine
    of_found (Some k) = record { fails = λ test h. reaches_renamed s.machine.descriptors pid (Number number) None p test h; processes = refl }

back_found_keeps : (m : MachineState) (pid p aside number : ℕ) (b : Bool) → Keeps p m (cond b (success {A = Unit {0}} tt (put_back m pid aside number)) (refusal m TooManyDescriptors)).after
back_found_keeps m pid p aside number true = record {
  fails = λ test h. reaches_renamed (descriptors_left pid (Named (Number number)) m.descriptors) pid (Aside aside) (Some number) p test (reaches_others_left pid (Named (Number number)) m.descriptors p test h);
  processes = refl;
}
back_found_keeps m pid p aside number false = keeps_same p m

pub keeps_back : (s : KernelState) (pid p aside number : ℕ) → Keeps p s.machine (after_request s pid (PutBack aside number)).machine
keeps_back s pid p aside number = of_found (description_number s.machine.descriptors pid (Aside aside))
  where
    of_found : (o : Option ℕ) → Keeps p s.machine (back_found s.machine pid aside number o).after
    of_found None = keeps_same p s.machine
    of_found (Some k) = back_found_keeps s.machine pid p aside number (is_allowed number)

-- ---- the new process reaches what its maker reaches
copies_fail : (ds : List Descriptor) (pid child p : ℕ) (test : ℕ → Bool) → reaches ds pid test ≡ false → reaches (copies ds pid child) p test ≡ false
copies_fail [] pid child p test h = refl
copies_fail (d ∷ ds) pid child p test h =
    of_test (is_copied pid d) refl (copies_fail ds pid child p test (or_right ((d.pid == pid) && test d.description) (reaches ds pid test) h)) (or_left ((d.pid == pid) && test d.description) (reaches ds pid test) h)
  where
    fails_own : (a b c : Bool) → (a && b) ≡ true → (a && c) ≡ false → c ≡ false
    fails_own true b c e h = h
    fails_own false b c e h = absurd (cc)

    and_false : (b c : Bool) → c ≡ false → (b && c) ≡ false
    and_false true c h = h
    and_false false c h = refl

    of_test : (b : Bool) → is_copied pid d ≡ b → reaches (copies ds pid child) p test ≡ false → ((d.pid == pid) && test d.description) ≡ false → reaches (map (of_process child) (cond b (d ∷ filter (is_copied pid) ds) (filter (is_copied pid) ds))) p test ≡ false
    of_test false e rest h = rest
    of_test true e rest h =
        ap (λ (c : Bool). c || reaches (copies ds pid child) p test) (and_false (child == p) (test d.description) (fails_own (d.pid == pid) _ (test d.description) e h)) ∙ rest

-- a process without descriptors reaches nothing
none_reaches : (ds : List Descriptor) (p : ℕ) (test : ℕ → Bool) → reaches ds p (λ k. true) ≡ false → reaches ds p test ≡ false
none_reaches [] p test h = refl
none_reaches (d ∷ ds) p test h =
    of_test (d.pid == p) (none_reaches ds p test (or_right ((d.pid == p) && true) (reaches ds p (λ k. true)) h)) (or_left ((d.pid == p) && true) (reaches ds p (λ k. true)) h)
  where
    of_test : (b : Bool) → reaches ds p test ≡ false → (b && true) ≡ false → ((b && test d.description) || reaches ds p test) ≡ false
    of_test true rest h = absurd (cc)
    of_test false rest h = rest

pub child_reaches : (ds : List Descriptor) (pid child : ℕ) (test : ℕ → Bool) → reaches ds child (λ k. true) ≡ false → reaches ds pid test ≡ false → reaches (ds ++ copies ds pid child) child test ≡ false
child_reaches ds pid child test none h = reaches_append ds (copies ds pid child) child test (none_reaches ds child test none) (copies_fail ds pid child child test h)

-- ---- what a process reaches is told by its own descriptors
own_alone : (ds : List Descriptor) (p : ℕ) (test : ℕ → Bool) → reaches ds p test ≡ list_any (λ (d : Descriptor). test d.description) (filter (λ (d : Descriptor). d.pid == p) ds)
own_alone [] p test = refl
own_alone (d ∷ ds) p test = of_test (d.pid == p) (filter (λ (x : Descriptor). x.pid == p) ds) (own_alone ds p test)
  where
    of_test : (b : Bool) (others : List Descriptor) → reaches ds p test ≡ list_any (λ (x : Descriptor). test x.description) others → ((b && test d.description) || reaches ds p test) ≡ list_any (λ (x : Descriptor). test x.description) (cond b (d ∷ others) others)
    of_test true others rest = ap (λ (c : Bool). test d.description || c) rest
    of_test false others rest = rest

pub same_own : (ds ds' : List Descriptor) (p : ℕ) (test : ℕ → Bool) → filter (λ (d : Descriptor). d.pid == p) ds' ≡ filter (λ (d : Descriptor). d.pid == p) ds → reaches ds' p test ≡ reaches ds p test
same_own ds ds' p test h = own_alone ds' p test ∙ ap (λ (xs : List Descriptor). list_any (λ (d : Descriptor). test d.description) xs) h ∙ sym (own_alone ds p test)
