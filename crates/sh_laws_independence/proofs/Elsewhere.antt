-- Reads and writes whose descriptors lead to what has nothing in common are independent.
use Rattle.std.proofs.Common.{◌≡◌, ◌≢◌, ℕ, List, Bool, true, false, not, ◌&&◌, ◌||◌, ◌==◌, Option, Some, None, slice_get, refl, sym, ap, ◌∙◌, eq-eqb, option_map}
use Rattle.std.specs.Option.{option_map_or}
use Rattle.std.proofs.lemmas.Bool.{eqb-true}
use Rattle.sh_kernel_descriptors.specs.Descriptors.{reads_from, writes_to}
use Rattle.sh_kernel_descriptors.specs.Machine.{MachineState}
use Rattle.sh_kernel_descriptors.specs.Terminals.{is_terminal_target}
use Rattle.sh_kernel_descriptors.specs.declared.descriptor.DescriptorRef.{DescriptorRef}
use Rattle.sh_kernel_descriptors.specs.declared.descriptor.DescriptorRef.TheVariants.{Number}
use Rattle.sh_kernel_descriptors.specs.declared.description.Description.{Description}
use Rattle.sh_kernel_descriptors.specs.declared.description.Target.{Target}
use Rattle.sh_kernel_descriptors.specs.declared.description.Target.TheVariants.{File, Terminal, Null, ReadEnd, WriteEnd}
use Rattle.sh_kernel.specs.Laws.{sends, target_at}
use Rattle.sh_kernel.specs.Reaching.{is_node}
use Rattle.sh_kernel.specs.Requests.{Read, Write}
use Rattle.sh_kernel.specs.State.{KernelState}
use Rattle.sh_kernel_machine.proofs.Lists.{false_of}
use Rattle.sh_laws_independence.specs.Parts.{Parts, changed_at, changed_by_read, changed_by_write, has_offset, is_regular, used, used_by}
use Rattle.sh_laws_independence.specs.Independence.{AreApart, AreIndependent, LeadsTo, are_elsewhere}

-- ---- targets
not_true : (b : Bool) → not b ≡ true → b ≡ false
not_true true h = absurd (cc)
not_true false h = refl

or_false : (b : Bool) → (b || false) ≡ true → b ≡ true
or_false true h = refl
or_false false h = absurd (cc)

right : (a b : Bool) → (a && b) ≡ true → b ≡ true
right true b h = h
right false b h = absurd (cc)

left : (a b : Bool) → (a && b) ≡ true → a ≡ true
left true b h = refl
left false b h = absurd (cc)

flips : (i j : ℕ) → not (j == i) ≡ true → not (i == j) ≡ true
flips i j h = ap not (false_of (i == j) (λ e. let same : (j == i) ≡ true = eq-eqb j i (sym (eqb-true i j e)) in absurd (cc)))

with_or : (b : Bool) → not b ≡ true → not (b || false) ≡ true
with_or true h = h
with_or false h = h

without_or : (b : Bool) → not (b || false) ≡ true → not b ≡ true
without_or true h = h
without_or false h = h

pub apart_flips : (t t' : Target) → are_elsewhere t t' ≡ true → are_elsewhere t' t ≡ true
apart_flips (File node) (File node') h = flips node node' h
apart_flips (File node) Terminal h = refl
apart_flips (File node) Null h = refl
apart_flips (File node) (ReadEnd pipe') h = refl
apart_flips (File node) (WriteEnd pipe') h = refl
apart_flips Terminal (File node') h = refl
apart_flips Terminal Terminal h = h
apart_flips Terminal Null h = refl
apart_flips Terminal (ReadEnd pipe') h = refl
apart_flips Terminal (WriteEnd pipe') h = refl
apart_flips Null (File node') h = refl
apart_flips Null Terminal h = refl
apart_flips Null Null h = refl
apart_flips Null (ReadEnd pipe') h = refl
apart_flips Null (WriteEnd pipe') h = refl
apart_flips (ReadEnd pipe) (File node') h = refl
apart_flips (ReadEnd pipe) Terminal h = refl
apart_flips (ReadEnd pipe) Null h = refl
apart_flips (ReadEnd pipe) (ReadEnd pipe') h = with_or (pipe == pipe') (flips pipe pipe' (without_or (pipe' == pipe) h))
apart_flips (ReadEnd pipe) (WriteEnd pipe') h = with_or (pipe == pipe') (flips pipe pipe' h)
apart_flips (WriteEnd pipe) (File node') h = refl
apart_flips (WriteEnd pipe) Terminal h = refl
apart_flips (WriteEnd pipe) Null h = refl
apart_flips (WriteEnd pipe) (ReadEnd pipe') h = flips pipe pipe' (without_or (pipe' == pipe) h)
apart_flips (WriteEnd pipe) (WriteEnd pipe') h = flips pipe pipe' h

no_file_twice : (t : Target) → is_regular t ≡ true → are_elsewhere t t ≡ true → ⊥
no_file_twice (File node) r h = let same : is_node node (File node) ≡ true = eq-eqb node node refl in absurd (cc)
no_file_twice Terminal r h = absurd (cc)
no_file_twice Null r h = absurd (cc)
no_file_twice (ReadEnd pipe) r h = absurd (cc)
no_file_twice (WriteEnd pipe) r h = absurd (cc)

ends_apart : (t t' : Target) (pipe : ℕ) → are_elsewhere t t' ≡ true → (reads_from pipe t || writes_to pipe t) ≡ true → (reads_from pipe t' || writes_to pipe t') ≡ false
ends_apart (File node) t' pipe h e = absurd (cc)
ends_apart Terminal t' pipe h e = absurd (cc)
ends_apart Null t' pipe h e = absurd (cc)
ends_apart (ReadEnd p) t' pipe h e = let same : p ≡ pipe = eqb-true p pipe (or_false (p == pipe) e) in rw (← same) (not_true (reads_from p t' || writes_to p t') h)
ends_apart (WriteEnd p) t' pipe h e = let same : p ≡ pipe = eqb-true p pipe e in rw (← same) (not_true (reads_from p t' || writes_to p t') h)

files_apart : (t t' : Target) (node : ℕ) → are_elsewhere t t' ≡ true → is_node node t ≡ true → is_node node t' ≡ false
files_apart (File n) t' node h e = let same : n ≡ node = eqb-true n node e in rw (← same) (not_true (is_node n t') h)
files_apart Terminal t' node h e = absurd (cc)
files_apart Null t' node h e = absurd (cc)
files_apart (ReadEnd p) t' node h e = absurd (cc)
files_apart (WriteEnd p) t' node h e = absurd (cc)

screens_apart : (t t' : Target) → are_elsewhere t t' ≡ true → is_terminal_target t ≡ true → is_terminal_target t' ≡ false
screens_apart (File n) t' h e = absurd (cc)
screens_apart Terminal t' h e = not_true (is_terminal_target t') h
screens_apart Null t' h e = absurd (cc)
screens_apart (ReadEnd p) t' h e = absurd (cc)
screens_apart (WriteEnd p) t' h e = absurd (cc)

-- ---- descriptions
-- what is asked of the target of a description
asked_of : (test : Target → Bool) (es : List Description) (k : ℕ) (t : Target) → target_at es k ≡ Some t → option_map_or (λ e. test e.target) (slice_get es k) false ≡ test t
asked_of test es k t h = of_place (slice_get es k) h
  where
    of_place : (o : Option Description) → option_map (λ e. e.target) o ≡ Some t → option_map_or (λ e. test e.target) o false ≡ test t
    of_place None h = absurd (cc)
    of_place (Some e) h = let same : e.target ≡ t = cc in ap test same

module _ (es : List Description) (k k' : ℕ) (t t' : Target) (there : target_at es k ≡ Some t) (there' : target_at es k' ≡ Some t') (elsewhere : are_elsewhere t t' ≡ true) where
  offsets_apart : (j : ℕ) → ((j == k) && has_offset es k) ≡ true → (j == k') ≡ false
  offsets_apart j h = false_of (j == k') twice
    where
      twice : (j == k') ≡ true → ⊥
      twice here =
          let same : k ≡ k' = sym (eqb-true j k (left (j == k) (has_offset es k) h)) ∙ eqb-true j k' here in
          let one : Some t ≡ Some t' = sym there ∙ ap (λ (n : ℕ). target_at es n) same ∙ there' in
          let t_is : t' ≡ t = cc in
          no_file_twice t (sym (asked_of is_regular es k t there) ∙ right (j == k) (has_offset es k) h) (ap (λ (x : Target). are_elsewhere t x) (sym t_is) ∙ elsewhere)

  writes_apart : (q : ℕ) → AreApart (changed_by_write es k) (used es q k')
  writes_apart q = record {
    descriptors = λ pid h. absurd (cc);
    descriptions = offsets_apart;
    pipes = λ pipe h. asked_of (λ x. reads_from pipe x || writes_to pipe x) es k' t' there' ∙ ends_apart t t' pipe elsewhere (sym (asked_of (λ x. reads_from pipe x || writes_to pipe x) es k t there) ∙ h);
    files = λ node h. asked_of (λ x. is_node node x) es k' t' there' ∙ files_apart t t' node elsewhere (sym (asked_of (λ x. is_node node x) es k t there) ∙ h);
    terminal = λ h. asked_of is_terminal_target es k' t' there' ∙ screens_apart t t' elsewhere (sym (asked_of is_terminal_target es k t there) ∙ h);
  }

  reads_apart : (q : ℕ) → AreApart (changed_by_read es k) (used es q k')
  reads_apart q = let w = writes_apart q in record {
    descriptors = w.descriptors;
    descriptions = w.descriptions;
    pipes = w.pipes;
    files = λ node h. absurd (cc);
    terminal = w.terminal;
  }

-- ---- requests
abbrev ChangesApart : (List Description → ℕ → Parts) → Type 0
ChangesApart by = (es : List Description) (k k' : ℕ) (t t' : Target) → target_at es k ≡ Some t → target_at es k' ≡ Some t' → are_elsewhere t t' ≡ true → (q : ℕ) → AreApart (by es k) (used es q k')

calls_apart : (by : List Description → ℕ → Parts) → ChangesApart by → (m : MachineState) (p q : ℕ) (name name' : DescriptorRef) (t t' : Target) → LeadsTo m p name t → LeadsTo m q name' t' → are_elsewhere t t' ≡ true → AreApart (changed_at by m p name) (used_by m q name')
calls_apart by apart m p q name name' t t' l l' elsewhere = rw (l.refers, l'.refers) (apart m.descriptions l.number l'.number t t' l.leads l'.leads elsewhere q)

pub reads_elsewhere : (s : KernelState) (p q : ℕ) (name name' : DescriptorRef) (count count' : ℕ) (t t' : Target) → p ≢ q → sends s p (Read name count) ≡ false → sends s q (Read name' count') ≡ false → LeadsTo s.machine p name t → LeadsTo s.machine q name' t' → are_elsewhere t t' ≡ true → AreIndependent s p (Read name count) q (Read name' count')
reads_elsewhere s p q name name' count count' t t' n quiet quiet' l l' elsewhere = record {
  processes = n;
  first_sends = quiet;
  second_sends = quiet';
  first_changes = calls_apart changed_by_read reads_apart s.machine p q name name' t t' l l' elsewhere;
  second_changes = calls_apart changed_by_read reads_apart s.machine q p name' name t' t l' l (apart_flips t t' elsewhere);
}

pub both_elsewhere : (s : KernelState) (p q : ℕ) (name : DescriptorRef) (count number : ℕ) (bytes : List ℕ) (t t' : Target) → p ≢ q → sends s p (Read name count) ≡ false → sends s q (Write number bytes) ≡ false → LeadsTo s.machine p name t → LeadsTo s.machine q (Number number) t' → are_elsewhere t t' ≡ true → AreIndependent s p (Read name count) q (Write number bytes)
both_elsewhere s p q name count number bytes t t' n quiet quiet' l l' elsewhere = record {
  processes = n;
  first_sends = quiet;
  second_sends = quiet';
  first_changes = calls_apart changed_by_read reads_apart s.machine p q name (Number number) t t' l l' elsewhere;
  second_changes = calls_apart changed_by_write writes_apart s.machine q p (Number number) name t' t l' l (apart_flips t t' elsewhere);
}

pub writes_elsewhere : (s : KernelState) (p q number number' : ℕ) (bytes bytes' : List ℕ) (t t' : Target) → p ≢ q → sends s p (Write number bytes) ≡ false → sends s q (Write number' bytes') ≡ false → LeadsTo s.machine p (Number number) t → LeadsTo s.machine q (Number number') t' → are_elsewhere t t' ≡ true → AreIndependent s p (Write number bytes) q (Write number' bytes')
writes_elsewhere s p q number number' bytes bytes' t t' n quiet quiet' l l' elsewhere = record {
  processes = n;
  first_sends = quiet;
  second_sends = quiet';
  first_changes = calls_apart changed_by_write writes_apart s.machine p q (Number number) (Number number') t t' l l' elsewhere;
  second_changes = calls_apart changed_by_write writes_apart s.machine q p (Number number') (Number number) t' t l' l (apart_flips t t' elsewhere);
}

-- ---- two reads of files by different descriptions
no_end : (t : Target) (pipe : ℕ) → is_regular t ≡ true → (reads_from pipe t || writes_to pipe t) ≡ false
no_end (File node) pipe r = refl
no_end Terminal pipe r = absurd (cc)
no_end Null pipe r = absurd (cc)
no_end (ReadEnd p) pipe r = absurd (cc)
no_end (WriteEnd p) pipe r = absurd (cc)

no_screen : (t : Target) → is_regular t ≡ true → is_terminal_target t ≡ false
no_screen (File node) r = refl
no_screen Terminal r = absurd (cc)
no_screen Null r = absurd (cc)
no_screen (ReadEnd p) r = absurd (cc)
no_screen (WriteEnd p) r = absurd (cc)

files_read_apart : (es : List Description) (k k' : ℕ) (t : Target) → target_at es k ≡ Some t → is_regular t ≡ true → k ≢ k' → (q : ℕ) → AreApart (changed_by_read es k) (used es q k')
files_read_apart es k k' t there regular n q = record {
  descriptors = λ pid h. absurd (cc);
  descriptions = λ j h. false_of (j == k') (λ here. n (sym (eqb-true j k (left (j == k) (has_offset es k) h)) ∙ eqb-true j k' here));
  pipes = λ pipe h. let none = asked_of (λ x. reads_from pipe x || writes_to pipe x) es k t there ∙ no_end t pipe regular in absurd (cc);
  files = λ node h. absurd (cc);
  terminal = λ h. let none = asked_of is_terminal_target es k t there ∙ no_screen t regular in absurd (cc);
}

pub file_reads : (s : KernelState) (p q : ℕ) (name name' : DescriptorRef) (count count' : ℕ) (t t' : Target) → p ≢ q → sends s p (Read name count) ≡ false → sends s q (Read name' count') ≡ false → (l : LeadsTo s.machine p name t) (l' : LeadsTo s.machine q name' t') → l.number ≢ l'.number → is_regular t ≡ true → is_regular t' ≡ true → AreIndependent s p (Read name count) q (Read name' count')
file_reads s p q name name' count count' t t' n quiet quiet' l l' differ regular regular' = record {
  processes = n;
  first_sends = quiet;
  second_sends = quiet';
  first_changes = rw (l.refers, l'.refers) (files_read_apart s.machine.descriptions l.number l'.number t l.leads regular differ q);
  second_changes = rw (l.refers, l'.refers) (files_read_apart s.machine.descriptions l'.number l.number t' l'.leads regular' (λ e. differ (sym e)) p);
}
