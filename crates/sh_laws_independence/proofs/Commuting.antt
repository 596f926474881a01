-- Requests that are one step each, and that they commute where they are independent.
use Rattle.std.proofs.Common.{◌≡◌, ◌⊎◌, inl, inr, ℕ, List, true, false, Option, Some, None, refl, sym, ap, ◌∙◌, eq-eqb}
use Rattle.std.specs.Option.{option_map_or}
use Rattle.sh_kernel_descriptors.specs.Descriptors.{description_number}
use Rattle.sh_kernel_descriptors.specs.Outcomes.{Done}
use Rattle.sh_kernel_descriptors.specs.declared.descriptor.DescriptorRef.{DescriptorRef}
use Rattle.sh_kernel_descriptors.specs.declared.descriptor.DescriptorRef.TheVariants.{Number}
use Rattle.sh_kernel_descriptors.specs.declared.description.Description.{Description}
use Rattle.sh_kernel.specs.Calls.{is_broken, raises_input, read_call, write_call}
use Rattle.sh_kernel.specs.Laws.{sends}
use Rattle.sh_kernel.specs.Requests.{Request, Read, Write, Close, Duplicate, MakePipe, Open, Here, SetAside, PutBack, Fork, StartProgram, End, Kill, SetAction, TakeSignal, SetGroup, SetForeground, after_request}
use Rattle.sh_kernel.specs.State.{KernelState}
use Rattle.sh_laws_independence.specs.Parts.{changes, own, used, uses}
use Rattle.sh_laws_independence.specs.Independence.{AreIndependent}
use Rattle.sh_laws_independence.proofs.Steps.{IsWithin, Step, after}
use Rattle.sh_laws_independence.proofs.Keeping.{Keeps, keeps, keeps_same}
use Rattle.sh_laws_independence.proofs.Crossing.{steps_cross}
use Rattle.sh_laws_independence.proofs.Reading.{read_in_changed, read_in_used, read_plan, reads_again}
use Rattle.sh_laws_independence.proofs.Writing.{write_in_changed, write_in_used, write_plan, writes_again}

-- the request is one step, and the same in each state that keeps what the request uses
pub record IsStep (s : KernelState) (pid : ℕ) (r : Request) : Type 0 where
  pub step : Step
  pub in_changed : IsWithin step (changes s pid r)
  pub in_used : IsWithin step (uses s pid r)
  pub again : (t : KernelState) → Keeps s t (uses s pid r) → after_request t pid r ≡ after t step

pub read_step : (s : KernelState) (pid : ℕ) (name : DescriptorRef) (count : ℕ) → raises_input s pid name ≡ false → IsStep s pid (Read name count)
read_step s pid name count quiet = record {
  step = (read_plan s pid name count).step;
  in_changed = read_in_changed s pid name count;
  in_used = read_in_used s pid name count;
  again = λ t kept. ap (λ (d : Done KernelState (List ℕ)). d.after) (reads_again s t pid name count kept quiet);
}

pub write_step : (s : KernelState) (pid number : ℕ) (bytes : List ℕ) → is_broken (write_call s pid number bytes).answer ≡ false → IsStep s pid (Write number bytes)
write_step s pid number bytes quiet = record {
  step = (write_plan s pid number bytes).step;
  in_changed = write_in_changed s pid number bytes;
  in_used = write_in_used s pid number bytes;
  again = λ t kept. ap (λ (d : Done KernelState ℕ). d.after) (writes_again s t pid number bytes kept quiet);
}

-- each other request changes the descriptors of all
abbrev ChangesAll : KernelState → ℕ → Request → Type 0
ChangesAll s pid r = (q : ℕ) → (changes s pid r).descriptors q ≡ true

pub step_of : (s : KernelState) (pid : ℕ) (r : Request) → sends s pid r ≡ false → IsStep s pid r ⊎ ChangesAll s pid r
step_of s pid (Read name count) quiet = inl (read_step s pid name count quiet)
step_of s pid (Write number bytes) quiet = inl (write_step s pid number bytes quiet)
step_of s pid (Close name) quiet = inr (λ q. refl)
step_of s pid (Duplicate name to) quiet = inr (λ q. refl)
step_of s pid (MakePipe from to) quiet = inr (λ q. refl)
step_of s pid (Open directory path how append number) quiet = inr (λ q. refl)
step_of s pid (Here bytes number) quiet = inr (λ q. refl)
step_of s pid (SetAside number) quiet = inr (λ q. refl)
step_of s pid (PutBack aside number) quiet = inr (λ q. refl)
step_of s pid Fork quiet = inr (λ q. refl)
step_of s pid StartProgram quiet = inr (λ q. refl)
step_of s pid (End status) quiet = inr (λ q. refl)
step_of s pid (Kill to signal) quiet = inr (λ q. refl)
step_of s pid (SetAction signal action) quiet = inr (λ q. refl)
step_of s pid TakeSignal quiet = inr (λ q. refl)
step_of s pid (SetGroup member group) quiet = inr (λ q. refl)
step_of s pid (SetForeground group) quiet = inr (λ q. refl)

-- each request uses its process's descriptors
found_own : (es : List Description) (pid : ℕ) (o : Option ℕ) → (option_map_or (used es pid) o (own pid)).descriptors pid ≡ true
found_own es pid None = eq-eqb pid pid refl
found_own es pid (Some k) = eq-eqb pid pid refl

uses_own : (s : KernelState) (pid : ℕ) (r : Request) → (uses s pid r).descriptors pid ≡ true
uses_own s pid (Read name count) = found_own s.machine.descriptions pid (description_number s.machine.descriptors pid name)
uses_own s pid (Write number bytes) = found_own s.machine.descriptions pid (description_number s.machine.descriptors pid (Number number))
uses_own s pid (Close name) = refl
uses_own s pid (Duplicate name to) = refl
uses_own s pid (MakePipe from to) = refl
uses_own s pid (Open directory path how append number) = refl
uses_own s pid (Here bytes number) = refl
uses_own s pid (SetAside number) = refl
uses_own s pid (PutBack aside number) = refl
uses_own s pid Fork = refl
uses_own s pid StartProgram = refl
uses_own s pid (End status) = refl
uses_own s pid (Kill to signal) = refl
uses_own s pid (SetAction signal action) = refl
uses_own s pid TakeSignal = refl
uses_own s pid (SetGroup member group) = refl
uses_own s pid (SetForeground group) = refl

-- so a request that is independent of another is one step, and so is the other
pub record AreSteps (s : KernelState) (p : ℕ) (r : Request) (q : ℕ) (r' : Request) : Type 0 where
  pub first : IsStep s p r
  pub second : IsStep s q r'
  pub first_keeps : Keeps s (after s first.step) (uses s q r')
  pub second_keeps : Keeps s (after s second.step) (uses s p r)

pub are_steps : (s : KernelState) (p q : ℕ) (r r' : Request) → AreIndependent s p r q r' → AreSteps s p r q r'
are_steps s p q r r' i = of_both (step_of s p r i.first_sends) (step_of s q r' i.second_sends)
  where
    of_both : IsStep s p r ⊎ ChangesAll s p r → IsStep s q r' ⊎ ChangesAll s q r' → AreSteps s p r q r'
    of_both (inr all) b = let no = i.first_changes.descriptors q (all q) in let yes = uses_own s q r' in absurd (cc)
    of_both (inl a) (inr all) = let no = i.second_changes.descriptors p (all p) in let yes = uses_own s p r in absurd (cc)
    of_both (inl a) (inl b) = record {
      first = a;
      second = b;
      first_keeps = keeps s a.step (changes s p r) (uses s q r') a.in_changed i.first_changes;
      second_keeps = keeps s b.step (changes s q r') (uses s p r) b.in_changed i.second_changes;
    }

pub first_is : (s : KernelState) (p : ℕ) (r : Request) (a : IsStep s p r) → after_request s p r ≡ after s a.step
first_is s p r a = a.again s (keeps_same s (uses s p r))

pub requests_commute : (s : KernelState) (p q : ℕ) (r r' : Request) → AreIndependent s p r q r' → after_request (after_request s p r) q r' ≡ after_request (after_request s q r') p r
requests_commute s p q r r' i =
    let a = are_steps s p q r r' i in
    ap (λ (t : KernelState). after_request t q r') (first_is s p r a.first)
    ∙ a.second.again (after s a.first.step) a.first_keeps
    ∙ steps_cross s a.first.step a.second.step (changes s p r) (uses s q r') a.first.in_changed a.second.in_used i.first_changes
    ∙ sym (a.first.again (after s a.second.step) a.second_keeps)
    ∙ sym (ap (λ (t : KernelState). after_request t p r) (first_is s q r' a.second))

-- what was kept is kept after the request itself
pub keeps_after : (s : KernelState) (p q : ℕ) (r r' : Request) → AreIndependent s p r q r' → Keeps s (after_request s q r') (uses s p r)
keeps_after s p q r r' i = let a = are_steps s p q r r' i in rw (first_is s q r' a.second) a.second_keeps

pub read_answered : (s : KernelState) (p q : ℕ) (name : DescriptorRef) (count : ℕ) (r : Request) → AreIndependent s p (Read name count) q r → (read_call (after_request s q r) p name count).answer ≡ (read_call s p name count).answer
read_answered s p q name count r i =
    ap (λ (d : Done KernelState (List ℕ)). d.answer) (reads_again s (after_request s q r) p name count (keeps_after s p q (Read name count) r i) i.first_sends)
    ∙ sym (ap (λ (d : Done KernelState (List ℕ)). d.answer) (reads_again s s p name count (keeps_same s (uses s p (Read name count))) i.first_sends))

pub write_answered : (s : KernelState) (p q number : ℕ) (bytes : List ℕ) (r : Request) → AreIndependent s p (Write number bytes) q r → (write_call (after_request s q r) p number bytes).answer ≡ (write_call s p number bytes).answer
write_answered s p q number bytes r i =
    ap (λ (d : Done KernelState ℕ). d.answer) (writes_again s (after_request s q r) p number bytes (keeps_after s p q (Write number bytes) r i) i.first_sends)
    ∙ sym (ap (λ (d : Done KernelState ℕ). d.answer) (writes_again s s p number bytes (keeps_same s (uses s p (Write number bytes))) i.first_sends))

-- neither request changes the status of a process
pub processes_after_both : (s : KernelState) (p q : ℕ) (r r' : Request) → AreIndependent s p r q r' → (after_request (after_request s p r) q r').machine.processes ≡ s.machine.processes
processes_after_both s p q r r' i =
    let a = are_steps s p q r r' i in
    ap (λ (t : KernelState). (after_request t q r').machine.processes) (first_is s p r a.first)
    ∙ ap (λ (t : KernelState). t.machine.processes) (a.second.again (after s a.first.step) a.first_keeps)
