-- Which processes can take a turn: those that are neither stopped nor ended and whose next action can be done.
use Rattle.std.specs.Prelude.{ℕ, List, ◌&&◌, Bool, false, not, replicate, Option, Result, Ok, Err, if◌then◌else◌}
use Rattle.std.specs.List.{list_any}
use Rattle.std.specs.Option.{option_map_or}
use Rattle.sh_kernel_descriptors.specs.Machine.{wait_answer}
use Rattle.sh_kernel_processes.specs.Processes.{all_children, status_at}
use Rattle.sh_kernel_descriptors.specs.Waiting.{waits}
use Rattle.sh_kernel_processes.specs.Processes.{is_running}
use Rattle.sh_kernel_descriptors.specs.declared.descriptor.DescriptorRef.{DescriptorRef}
use Rattle.sh_kernel_descriptors.specs.declared.fault.KernelFault.{KernelFault}
use Rattle.sh_kernel_descriptors.specs.declared.fault.KernelFault.TheVariants.{NoProcess, WouldWait}
use Rattle.sh_kernel_processes.specs.declared.process.Process.{Process}
use Rattle.sh_kernel.specs.State.{KernelState}
use Rattle.sh_kernel.specs.Calls.{raises_input, read_call, write_call}
use Rattle.sh_kernel.specs.declared.next.Next.{Next}
use Rattle.sh_kernel.specs.declared.next.Next.TheVariants as next

-- ---- a wait that also ends where children are stopped (XSH waitpid, WUNTRACED)
abbrev pub is_any_running : List Process → (awaited : List ℕ) → Bool
is_any_running ps awaited = list_any (λ child. is_running (status_at ps child)) awaited

-- the process waits until each of these children has ended or is stopped
abbrev pub untraced_answer : List Process → (pid : ℕ) → (awaited : List ℕ) → Result (Unit {0}) KernelFault
untraced_answer ps pid awaited =
    if all_children ps pid awaited then (if is_any_running ps awaited then Err WouldWait else Ok tt) else Err NoProcess

-- ---- turns
-- what a process does in its next turn: it reads, it writes so many bytes, it waits until these have ended, or until each of
-- these has ended or is stopped, or it does what can always be done
pub data Action : Type 0 where
  ReadsBy : (name : DescriptorRef) → Action
  WritesBy : (number count : ℕ) → Action
  WaitsFor : (children : List ℕ) → Action
  WaitsUntraced : (children : List ℕ) → Action
  Acts : Action

abbrev pub action_of : Next → Action
action_of (next.Read name) = ReadsBy name
action_of (next.Write number count) = WritesBy number count
action_of (next.Wait children) = WaitsFor children.now
action_of (next.WaitUntraced children) = WaitsUntraced children.now
action_of next.Other = Acts

-- the action's call would wait; it doesn't matter how many bytes it would read, nor which bytes it would
-- write. A read that sends TTIN has that to do
abbrev pub action_waits : KernelState → ℕ → Action → Bool
action_waits s pid (ReadsBy name) = waits (read_call s pid name 1).answer && not (raises_input s pid name)
action_waits s pid (WritesBy number count) = waits (write_call s pid number (replicate count 0)).answer
action_waits s pid (WaitsFor children) = waits (wait_answer s.machine.processes pid children)
action_waits s pid (WaitsUntraced children) = waits (untraced_answer s.machine.processes pid children)
action_waits s pid Acts = false

-- the process can do this in a turn
unfoldable pub can_do : KernelState → ℕ → Action → Bool
can_do s pid action = is_running (status_at s.machine.processes pid) && not (action_waits s pid action)

-- of processes that are about to do these actions, those that can take a turn
abbrev pub is_runnable : KernelState → (ℕ → Option Action) → ℕ → Bool
is_runnable s actions pid = option_map_or (can_do s pid) (actions pid) false
