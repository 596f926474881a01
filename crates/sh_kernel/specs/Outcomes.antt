-- What a contract says of a call of a kernel.
use Rattle.sh_base.specs.Memory.{no_memory}
use Rattle.std.specs.Prelude.{◌≡◌, ◌≢◌, ◌⊎◌, ℕ, List, take, drop, Bool, true, Result, Ok, Err, IfErr, IsOk}
use Rattle.sh_kernel_descriptors.specs.Outcomes.{Done}
use Rattle.sh_kernel_descriptors.specs.declared.fault.KernelFault.{KernelFault}
use Rattle.sh_kernel_descriptors.specs.declared.fault.KernelFault.TheVariants.{NoMemory}
use Rattle.sh_kernel.specs.Calls.{is_broken}
use Rattle.sh_kernel.specs.State.{KernelKept, KernelState, StandsAt}

-- the answer is the call's, and what is kept then is that of the state after the call
abbrev pub Gives : {A : Type 0} → Result A KernelFault → KernelKept → Done KernelState A → Type 0
Gives result new d = (d.answer ≡ result) × StandsAt new d.after

-- the same, unless no memory was found: then what is kept is still that of the state before
abbrev pub GivesOrLacks : {A : Type 0} → Result A KernelFault → KernelKept → KernelState → Done KernelState A → Type 0
GivesOrLacks (Ok a) new s d = Gives (Ok a) new d
GivesOrLacks (Err fault) new s d = (fault ≢ NoMemory no_memory → Gives (Err fault) new d) × (fault ≡ NoMemory no_memory → StandsAt new s)

-- the same of a read: its bytes are at the front of the buffer, and the rest of the buffer is as it was
abbrev pub GivesReadOrLacks : Result ℕ KernelFault → (buf buf' : List ℕ) → KernelKept → KernelState → Done KernelState (List ℕ) → Type 0
GivesReadOrLacks (Ok n) buf buf' new s d = (d.answer ≡ Ok (take n buf')) × (drop n buf' ≡ drop n buf) × StandsAt new d.after
GivesReadOrLacks (Err fault) buf buf' new s d = (buf' ≡ buf) × (fault ≢ NoMemory no_memory → Gives (Err fault) new d) × (fault ≡ NoMemory no_memory → StandsAt new s)

-- memory may be wanting only where the call isn't refused, or a signal is sent with the refusal
abbrev pub LacksWhereDone : {A : Type 0} → Result A KernelFault → Done KernelState A → Type 0
LacksWhereDone result d = IfErr result (λ fault. fault ≡ NoMemory no_memory → IsOk d.answer ⊎ (is_broken d.answer ≡ true))

-- and of a read only where it sends a signal
abbrev pub LacksWhereRaised : {A : Type 0} → Result A KernelFault → (raises : Bool) → Type 0
LacksWhereRaised result raises = IfErr result (λ fault. fault ≡ NoMemory no_memory → raises ≡ true)
