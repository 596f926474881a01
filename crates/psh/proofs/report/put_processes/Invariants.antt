use Rattle.std.proofs.Common.{◌≡◌, ◌≤◌, ◌++◌, length, take}
use Rattle.sh_world.specs.World.{WorldStands}
use Rattle.sh_exec.specs.State.{State}
use Rattle.psh.specs.Report.{process_lines}
use Rattle.psh.proofs.report.put_processes.Given as goal

abbrev pub invariant-places : goal.invariant-places
invariant-places g l = (s : State _) → WorldStands l.fn.world s
    → (l.text.items ≡ l.fn.text.items ++ process_lines 100 (take l.place s.machine.machine.processes)) × (l.place ≤ length s.machine.machine.processes)
