-- The parts of a kernel's state that a request uses, and those that it changes.
use Rattle.std.specs.Prelude.{ℕ, ◌==◌, ◌&&◌, List, Bool, true, false, slice_get}
use Rattle.std.specs.Option.{option_map_or}
use Rattle.sh_kernel_descriptors.specs.Descriptors.{description_number}
use Rattle.sh_kernel_descriptors.specs.Machine.{MachineState}
use Rattle.sh_kernel_descriptors.specs.declared.descriptor.DescriptorRef.{DescriptorRef}
use Rattle.sh_kernel_descriptors.specs.declared.descriptor.DescriptorRef.TheVariants.{Number}
use Rattle.sh_kernel_descriptors.specs.declared.description.Description.{Description}
use Rattle.sh_kernel_descriptors.specs.declared.description.Target.{Target}
use Rattle.sh_kernel_descriptors.specs.declared.description.Target.TheVariants.{File, Terminal, Null, ReadEnd, WriteEnd}
use Rattle.sh_kernel.specs.Reaching.{is_end, is_file, is_screen}
use Rattle.sh_kernel.specs.Requests.{Request, Read, Write, Close, Duplicate, MakePipe, Open, Here, SetAside, PutBack, Fork, StartProgram, End, Kill, SetAction, TakeSignal, SetGroup, SetForeground}
use Rattle.sh_kernel.specs.State.{KernelState}

-- some parts of a kernel's state, each with those that are meant:
-- the descriptors of a process;
-- the offset of an open file description (what is open, and for what, never changes);
-- the bytes of a pipe, and whether it has a reader and a writer;
-- the bytes of a file;
-- what was typed at the terminal, read from it and written to it
pub record Parts : Type 0 where
  pub descriptors : (pid : ℕ) → Bool
  pub descriptions : (number : ℕ) → Bool
  pub pipes : (number : ℕ) → Bool
  pub files : (node : ℕ) → Bool
  pub terminal : Bool

abbrev pub nothing : Parts
nothing = record { descriptors = λ pid. false; descriptions = λ number. false; pipes = λ number. false; files = λ node. false; terminal = false }

abbrev pub everything : Parts
everything = record { descriptors = λ pid. true; descriptions = λ number. true; pipes = λ number. true; files = λ node. true; terminal = true }

-- the descriptors of one process
abbrev pub own : (pid : ℕ) → Parts
own pid = record nothing { descriptors = λ q. q == pid }

-- ---- what reads and writes use and change, where the descriptor refers to the description of this number (XSH read, write)
-- they use the process's descriptors, the description, and the pipe, the file or the terminal that is open there
abbrev pub used : List Description → (pid : ℕ) → (number : ℕ) → Parts
used es pid number = record {
  descriptors = λ q. q == pid;
  descriptions = λ k. k == number;
  pipes = λ pipe. is_end es pipe number;
  files = λ node. is_file es node number;
  terminal = is_screen es number;
}

-- only of a file the offset counts
abbrev pub is_regular : Target → Bool
is_regular (File node) = true
is_regular Terminal = false
is_regular Null = false
is_regular (ReadEnd pipe) = false
is_regular (WriteEnd pipe) = false

abbrev pub has_offset : List Description → (number : ℕ) → Bool
has_offset es number = option_map_or (λ e. is_regular e.target) (slice_get es number) false

-- a read takes bytes from a pipe or from the terminal, and moves the offset of a file
abbrev pub changed_by_read : List Description → (number : ℕ) → Parts
changed_by_read es number =
    record nothing { descriptions = λ k. (k == number) && has_offset es number; pipes = λ pipe. is_end es pipe number; terminal = is_screen es number }

-- a write puts bytes there or moves the offset, and changes the file
abbrev pub changed_by_write : List Description → (number : ℕ) → Parts
changed_by_write es number = record (changed_by_read es number) { files = λ node. is_file es node number }

-- where the process has no such descriptor the call is refused
abbrev pub used_by : MachineState → (pid : ℕ) → DescriptorRef → Parts
used_by m pid name = option_map_or (used m.descriptions pid) (description_number m.descriptors pid name) (own pid)

abbrev pub changed_at : (List Description → ℕ → Parts) → MachineState → (pid : ℕ) → DescriptorRef → Parts
changed_at by m pid name = option_map_or (by m.descriptions) (description_number m.descriptors pid name) nothing

-- ---- what requests use and change; where nothing better is said, that is everything
abbrev pub uses : KernelState → (pid : ℕ) → Request → Parts
uses s pid (Read name count) = used_by s.machine pid name
uses s pid (Write number bytes) = used_by s.machine pid (Number number)
uses s pid (Close name) = everything
uses s pid (Duplicate name to) = everything
uses s pid (MakePipe from to) = everything
uses s pid (Open directory path how append number) = everything
uses s pid (Here bytes number) = everything
uses s pid (SetAside number) = everything
uses s pid (PutBack aside number) = everything
uses s pid Fork = everything
uses s pid StartProgram = everything
uses s pid (End status) = everything
uses s pid (Kill to signal) = everything
uses s pid (SetAction signal action) = everything
uses s pid TakeSignal = everything
uses s pid (SetGroup member group) = everything
uses s pid (SetForeground group) = everything

abbrev pub changes : KernelState → (pid : ℕ) → Request → Parts
changes s pid (Read name count) = changed_at changed_by_read s.machine pid name
changes s pid (Write number bytes) = changed_at changed_by_write s.machine pid (Number number)
changes s pid (Close name) = everything
changes s pid (Duplicate name to) = everything
changes s pid (MakePipe from to) = everything
changes s pid (Open directory path how append number) = everything
changes s pid (Here bytes number) = everything
changes s pid (SetAside number) = everything
changes s pid (PutBack aside number) = everything
changes s pid Fork = everything
changes s pid StartProgram = everything
changes s pid (End status) = everything
changes s pid (Kill to signal) = everything
changes s pid (SetAction signal action) = everything
changes s pid TakeSignal = everything
changes s pid (SetGroup member group) = everything
changes s pid (SetForeground group) = everything
