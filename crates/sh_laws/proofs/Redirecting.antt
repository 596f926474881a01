-- Redirections, reads and writes are requests.
use Rattle.std.proofs.Common.{◌≡◌, ℕ, List, Bool, true, false, Option, Some, None, Result, Ok, Err, refl, sym, ap, ◌∙◌}
use Rattle.std.specs.Prelude.{◌&&◌, not}
use Rattle.sh_exec_parts.specs.declared.redirection.Action.{Action}
use Rattle.sh_exec_parts.specs.declared.redirection.Action.TheVariants as action
use Rattle.sh_exec_parts.specs.declared.redirection.Redirection.{Redirection}
use Rattle.sh_exec_machine.specs.Redirecting.{beside, beside_by, close_outcome, is_itself, with_undo, kept_by, at_number, over, over_by, action_outcome, placed_by, put_back, redirection_outcome, redirected_to}
use Rattle.sh_exec_machine.specs.Transfers.{give_bytes, take_bytes}
use Rattle.sh_kernel_descriptors.specs.declared.descriptor.DescriptorRef.{DescriptorRef}
use Rattle.sh_kernel_descriptors.specs.declared.fault.KernelFault.{KernelFault}
use Rattle.sh_kernel.specs.Calls.{set_aside_call}
use Rattle.sh_kernel.specs.Requests.{Read, Write, after_request, after_requests}
use Rattle.sh_kernel.specs.State.{KernelState}
use Rattle.sh_laws.specs.Redirecting.{back_after, keeping, placing, placing_by, redirecting, redirecting_to}
use Rattle.sh_laws.proofs.RequestLists.{after_requests-append}

placed_is : (s : KernelState) (pid : ℕ) (directory : List ℕ) (number : ℕ) (word : List ℕ) (a : Action) → (placed_by s pid directory number word a).after ≡ after_requests s pid (placing_by directory number word a)
unfolding close_outcome
placed_is s pid directory number word (action.Open how append) = refl
placed_is s pid directory number word (action.Duplicate None) = refl
placed_is s pid directory number word (action.Duplicate (Some from)) = refl
placed_is s pid directory number word action.Close = refl
placed_is s pid directory number word (action.Here bytes) = refl

placing_is : (s : KernelState) (pid : ℕ) (directory : List ℕ) (number : ℕ) (r : Redirection) → (action_outcome s pid directory number r).after ≡ after_requests s pid (placing directory number r)
unfolding action_outcome
placing_is s pid directory number r = placed_is s pid directory number r.word r.action

beside_after : (number : ℕ) (answer : Result (Unit {0}) KernelFault) (s : KernelState) → (beside_by number answer s).after ≡ s
beside_after number (Ok t) s = refl
beside_after number (Err f) s = refl

over_after : (pid aside number : ℕ) (answer : Result (Unit {0}) KernelFault) (s : KernelState) → (over_by pid aside number answer s).after ≡ after_requests s pid (back_after aside number answer)
unfolding put_back
over_after pid aside number (Ok t) s = refl
over_after pid aside number (Err f) s = refl

keeping_is : (s : KernelState) (pid : ℕ) (directory : List ℕ) (number : ℕ) (r : Redirection) (answer : Result ℕ KernelFault) → (kept_by pid directory number r answer s).after ≡ after_requests s pid (keeping s pid directory number r answer)
unfolding over beside
keeping_is s pid directory number r (Ok aside) =
    let d = action_outcome s pid directory number r in
    over_after pid aside number d.answer d.after
    ∙ ap (λ (t : KernelState). after_requests t pid (back_after aside number d.answer)) (placing_is s pid directory number r)
    ∙ sym (after_requests-append s pid (placing directory number r) (back_after aside number d.answer))
keeping_is s pid directory number r (Err f) =
    let d = action_outcome s pid directory number r in
    beside_after number d.answer d.after ∙ placing_is s pid directory number r

by_number : (keeps : Bool) (s : KernelState) (pid : ℕ) (directory : List ℕ) (r : Redirection) (o : Option ℕ) → (redirected_to keeps s pid directory r o).after ≡ after_requests s pid (redirecting_to keeps s pid directory r o)
unfolding at_number with_undo
by_number keeps s pid directory r None = refl
by_number keeps s pid directory r (Some number) = at (keeps && not (is_itself number r.action)) refl
  where
    at : (b : Bool) → (keeps && not (is_itself number r.action)) ≡ b → (at_number keeps s pid directory number r).after ≡ after_requests s pid (redirecting_to keeps s pid directory r (Some number))
    at true e = rw e (keeping_is (set_aside_call s pid number).after pid directory number r (set_aside_call s pid number).answer)
    at false e = rw e (placing_is s pid directory number r)

pub redirecting_is : (keeps : Bool) (s : KernelState) (pid : ℕ) (directory : List ℕ) (r : Redirection) → (redirection_outcome keeps s pid directory r).after ≡ after_requests s pid (redirecting keeps s pid directory r)
unfolding redirection_outcome
redirecting_is keeps s pid directory r = by_number keeps s pid directory r r.number

pub taking_is : (s : KernelState) (pid : ℕ) (name : DescriptorRef) (count : ℕ) → (take_bytes s pid name count).after ≡ after_request s pid (Read name count)
unfolding take_bytes
taking_is s pid name count = refl

pub giving_is : (s : KernelState) (pid number : ℕ) (bytes : List ℕ) → (give_bytes s pid number bytes).after ≡ after_request s pid (Write number bytes)
unfolding give_bytes
giving_is s pid number bytes = refl
