-- One redirection (2.7): a number refers to something else; what it referred to is set aside where that is undone later.
use Rattle.std.specs.Prelude.{◌≡◌, ℕ, nat_eq, not, ◌&&◌, List, Bool, false, Option, Some, None, Result, Ok, Err, if◌then◌else◌}
use Rattle.sh_kernel.specs.State.{KernelKept, KernelState, StandsAt}
use Rattle.sh_kernel.specs.Calls.{close_call, dup_call, here_call, open_call, put_back_call, set_aside_call}
use Rattle.sh_kernel_descriptors.specs.Outcomes.{Done, success, refusal}
use Rattle.sh_kernel_descriptors.specs.declared.descriptor.DescriptorRef.TheVariants.{Number}
use Rattle.sh_kernel_descriptors.specs.declared.fault.KernelFault.{KernelFault}
use Rattle.sh_kernel_descriptors.specs.declared.fault.KernelFault.TheVariants.{BadDescriptor}
use Rattle.sh_exec_parts.specs.declared.redirection.Action.{Action}
use Rattle.sh_exec_parts.specs.declared.redirection.Action.TheVariants.{Open, Duplicate, Close, Here}
use Rattle.sh_exec_parts.specs.declared.redirection.Redirection.{Redirection}
use Rattle.sh_exec_machine.specs.declared.undone.Undone.{Undone}
use Rattle.sh_exec_machine.specs.declared.undone.Undone.TheVariants as undone

-- a number is closed, and it may have been closed before
unfoldable pub close_outcome : KernelState → ℕ → ℕ → Done KernelState (Unit {0})
close_outcome s pid number = success tt (close_call s pid (Number number)).after

-- what a number then refers to; paths go from the working directory
abbrev pub placed_by : KernelState → ℕ → List ℕ → ℕ → List ℕ → Action → Done KernelState (Unit {0})
placed_by s pid directory number word (Open how append) = open_call s pid directory word how append number
placed_by s pid directory number word (Duplicate None) = refusal s BadDescriptor
placed_by s pid directory number word (Duplicate (Some from)) = dup_call s pid (Number from) number
placed_by s pid directory number word Close = close_outcome s pid number
placed_by s pid directory number word (Here bytes) = here_call s pid bytes number

unfoldable pub action_outcome : KernelState → ℕ → List ℕ → ℕ → Redirection → Done KernelState (Unit {0})
action_outcome s pid directory number r = placed_by s pid directory number r.word r.action

-- the answer, the state, and how it is undone
pub record Redirected : Type 0 where
  pub answer : Result (Unit {0}) KernelFault
  pub after : KernelState
  pub undone : Option Undone

abbrev pub plainly : Done KernelState (Unit {0}) → Redirected
plainly d = record { answer = d.answer; after = d.after; undone = None }

-- the number referred to nothing
abbrev pub beside_by : ℕ → Result (Unit {0}) KernelFault → KernelState → Redirected
beside_by number (Ok _) s = record { answer = Ok tt; after = s; undone = Some (undone.Close number) }
beside_by number (Err fault) s = record { answer = Err fault; after = s; undone = None }

unfoldable pub beside : KernelState → ℕ → List ℕ → ℕ → Redirection → Redirected
beside s pid directory number r = let d = action_outcome s pid directory number r in beside_by number d.answer d.after

-- what it referred to was set aside; it comes back where the redirection fails
unfoldable pub put_back : KernelState → ℕ → ℕ → ℕ → KernelState
put_back s pid aside number = (put_back_call s pid aside number).after

abbrev pub over_by : ℕ → ℕ → ℕ → Result (Unit {0}) KernelFault → KernelState → Redirected
over_by pid aside number (Ok _) s = record { answer = Ok tt; after = s; undone = Some (undone.Restore aside number) }
over_by pid aside number (Err fault) s = record { answer = Err fault; after = put_back s pid aside number; undone = None }

unfoldable pub over : KernelState → ℕ → List ℕ → ℕ → Redirection → ℕ → Redirected
over s pid directory number r aside = let d = action_outcome s pid directory number r in over_by pid aside number d.answer d.after

abbrev pub kept_by : ℕ → List ℕ → ℕ → Redirection → Result ℕ KernelFault → KernelState → Redirected
kept_by pid directory number r (Ok aside) s = over s pid directory number r aside
kept_by pid directory number r (Err _) s = beside s pid directory number r

unfoldable pub with_undo : KernelState → ℕ → List ℕ → ℕ → Redirection → Redirected
with_undo s pid directory number r = let d = set_aside_call s pid number in kept_by pid directory number r d.answer d.after

-- `n>&n` changes nothing, but `n` has to refer to something
abbrev pub is_itself : ℕ → Action → Bool
is_itself number (Open how append) = false
is_itself number (Duplicate None) = false
is_itself number (Duplicate (Some from)) = nat_eq from number
is_itself number Close = false
is_itself number (Here bytes) = false

unfoldable pub at_number : Bool → KernelState → ℕ → List ℕ → ℕ → Redirection → Redirected
at_number keeps s pid directory number r =
    if keeps && not (is_itself number r.action)
    then with_undo s pid directory number r
    else plainly (action_outcome s pid directory number r)

-- numbers above 9 are refused
abbrev pub redirected_to : Bool → KernelState → ℕ → List ℕ → Redirection → Option ℕ → Redirected
redirected_to keeps s pid directory r None = plainly (refusal s BadDescriptor)
redirected_to keeps s pid directory r (Some number) = at_number keeps s pid directory number r

-- one redirection; `keeps` where it is undone later
unfoldable pub redirection_outcome : Bool → KernelState → ℕ → List ℕ → Redirection → Redirected
redirection_outcome keeps s pid directory r = redirected_to keeps s pid directory r r.number

-- the kernel stands at the state after a call, and this was answered
pub record HasAnswered (kernel : KernelKept) (told : Result (Unit {0}) KernelFault) (d : Done KernelState (Unit {0})) : Type 0 where
  pub state : StandsAt kernel d.after
  pub answer : told ≡ d.answer

-- and so of a redirection
pub record HasRedirected (kernel : KernelKept) (told : Result (Unit {0}) KernelFault) (change : Option Undone) (r : Redirected) : Type 0 where
  pub state : StandsAt kernel r.after
  pub answer : told ≡ r.answer
  pub undone : change ≡ r.undone
