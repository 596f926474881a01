use Rattle.std.proofs.Common.{◌≡◌, ◌++◌, length}
use Rattle.sh_exec_parts.specs.Pipelines.{commands_of}
use Rattle.sh_exec_parts.proofs.pipeline.commands_of.Given as goal

abbrev pub invariant-commands : goal.invariant-commands
invariant-commands l = l.commands ++ l.rest ≡ commands_of l.pipeline

abbrev pub decreases-commands : goal.decreases-commands
decreases-commands l = length l.rest
