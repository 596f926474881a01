-- A redirection (XCU 2.7) by requests of the process that it is done in.
use Rattle.std.specs.Prelude.{ℕ, List, [], ◌∷◌, ◌++◌, Bool, ◌&&◌, not, if◌then◌else◌, Option, Some, None, Result, Ok, Err}
use Rattle.sh_exec_parts.specs.declared.redirection.Action.{Action}
use Rattle.sh_exec_parts.specs.declared.redirection.Action.TheVariants as action
use Rattle.sh_exec_parts.specs.declared.redirection.Redirection.{Redirection}
use Rattle.sh_exec_machine.specs.Redirecting.{is_itself, action_outcome}
use Rattle.sh_kernel_descriptors.specs.declared.descriptor.DescriptorRef.TheVariants.{Number}
use Rattle.sh_kernel_descriptors.specs.declared.fault.KernelFault.{KernelFault}
use Rattle.sh_kernel.specs.Calls.{set_aside_call}
use Rattle.sh_kernel.specs.Requests.{Request}
use Rattle.sh_kernel.specs.Requests as request
use Rattle.sh_kernel.specs.State.{KernelState}

-- what the number is to refer to; paths go from the working directory
abbrev pub placing_by : List ℕ → ℕ → List ℕ → Action → List Request
placing_by directory number word (action.Open how append) = request.Open directory word how append number ∷ []
placing_by directory number word (action.Duplicate None) = []
placing_by directory number word (action.Duplicate (Some from)) = request.Duplicate (Number from) number ∷ []
placing_by directory number word action.Close = request.Close (Number number) ∷ []
placing_by directory number word (action.Here bytes) = request.Here bytes number ∷ []

abbrev pub placing : List ℕ → ℕ → Redirection → List Request
placing directory number r = placing_by directory number r.word r.action

-- what was set aside gets its number back where the redirection failed
abbrev pub back_after : ℕ → ℕ → Result (Unit {0}) KernelFault → List Request
back_after aside number (Ok _) = []
back_after aside number (Err fault) = request.PutBack aside number ∷ []

abbrev pub keeping : KernelState → ℕ → List ℕ → ℕ → Redirection → Result ℕ KernelFault → List Request
keeping s pid directory number r (Ok aside) = placing directory number r ++ back_after aside number (action_outcome s pid directory number r).answer
keeping s pid directory number r (Err fault) = placing directory number r

abbrev pub redirecting_to : Bool → KernelState → ℕ → List ℕ → Redirection → Option ℕ → List Request
redirecting_to keeps s pid directory r None = []
redirecting_to keeps s pid directory r (Some number) =
    if keeps && not (is_itself number r.action)
    then request.SetAside number ∷ keeping (set_aside_call s pid number).after pid directory number r (set_aside_call s pid number).answer
    else placing directory number r

-- the requests of one redirection, in order; `keeps` where it is undone later
abbrev pub redirecting : Bool → KernelState → ℕ → List ℕ → Redirection → List Request
redirecting keeps s pid directory r = redirecting_to keeps s pid directory r r.number
