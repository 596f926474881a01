-- What a request does as one step: which offset, which place of the pipes and of the nodes, and what the terminal is then.
use Rattle.std.proofs.Common.{◌≡◌, ℕ, List, Bool, true, Option, Some, None, slice_set, Result}
use Rattle.sh_files_image.specs.declared.node.Node.{Node}
use Rattle.sh_pipe.specs.Pipe.{PipeState}
use Rattle.sh_tty.specs.Happenings.{Happening}
use Rattle.sh_kernel_descriptors.specs.Outcomes.{Done}
use Rattle.sh_kernel_descriptors.specs.Reading.{with_offset}
use Rattle.sh_kernel_descriptors.specs.declared.description.Description.{Description}
use Rattle.sh_kernel_descriptors.specs.declared.fault.KernelFault.{KernelFault}
use Rattle.sh_kernel.specs.State.{KernelState}
use Rattle.sh_laws_independence.specs.Parts.{Parts}

-- what a place gets
pub record At (X : Type 0) : Type 0 where
  pub place : ℕ
  pub value : X

pub record Step : Type 0 where
  pub offset : Option (At ℕ)
  pub pipe : Option (At (Option PipeState))
  pub node : Option (At Node)
  pub terminal : Option (List Happening)

abbrev pub no_step : Step
no_step = record { offset = None; pipe = None; node = None; terminal = None }

abbrev pub moved : List Description → Option (At ℕ) → List Description
moved es None = es
moved es (Some a) = with_offset es a.place a.value

abbrev pub put : {X : Type 0} → List X → Option (At X) → List X
put xs None = xs
put xs (Some a) = slice_set xs a.place a.value

abbrev pub shown : List Happening → Option (List Happening) → List Happening
shown hs None = hs
shown hs (Some hs') = hs'

abbrev pub with_lists : KernelState → List Description → List (Option PipeState) → List Node → List Happening → KernelState
with_lists s es ps ns hs = record s {
  machine = record s.machine { descriptions = es; pipes = ps; files = record s.machine.files { nodes = ns } };
  terminal = hs;
}

abbrev pub after : KernelState → Step → KernelState
after s c = with_lists s (moved s.machine.descriptions c.offset) (put s.machine.pipes c.pipe) (put s.machine.files.nodes c.node) (shown s.terminal c.terminal)

-- the answer to a request, and its step
pub record Plan (A : Type 0) : Type 0 where
  pub answer : Result A KernelFault
  pub step : Step

abbrev pub done : {A : Type 0} → KernelState → Plan A → Done KernelState A
done s p = record { answer = p.answer; after = after s p.step }

abbrev pub plain : {A : Type 0} → Result A KernelFault → Plan A
plain answer = record { answer = answer; step = no_step }

-- a step changes no more than these parts
abbrev pub IsIn : {X : Type 0} → (ℕ → Bool) → Option (At X) → Type 0
IsIn test None = Unit {0}
IsIn test (Some a) = test a.place ≡ true

abbrev pub IsSeen : Bool → Option (List Happening) → Type 0
IsSeen test None = Unit {0}
IsSeen test (Some h) = test ≡ true

pub record IsWithin (c : Step) (u : Parts) : Type 0 where
  pub offset : IsIn u.descriptions c.offset
  pub pipe : IsIn u.pipes c.pipe
  pub node : IsIn u.files c.node
  pub terminal : IsSeen u.terminal c.terminal

pub nowhere : (u : Parts) → IsWithin no_step u
nowhere u = record { offset = tt; pipe = tt; node = tt; terminal = tt }
