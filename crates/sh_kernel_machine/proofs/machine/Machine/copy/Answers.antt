use Rattle.std.specs.Prelude.{vec_len}
use Rattle.sh_kernel_machine.specs.Tables.{held_in}
use Rattle.sh_kernel_machine.proofs.Copying.{kept_copied}
use Rattle.sh_kernel_machine.proofs.machine.Machine.copy.Goals as goal

pub invariant_of-result : goal.invariant_of-result
invariant_of-result c =
    let kept = kept_copied c.self.inside.entries c.in_ok-entries.entries (held_in c.self.inside.held.entries) (held_in c.in_ok-held.held.entries) (vec_len c.self.inside.piped) (vec_len c.in_ok-piped.piped) c.in_ok-entries.ensures c.in_ok-held.ensures.held c.in_ok-piped.ensures c.self.invariant.0 c.self.invariant.1 in
    (kept.0, kept.1, c.in_ok-held.ensures.own c.self.invariant.2)
