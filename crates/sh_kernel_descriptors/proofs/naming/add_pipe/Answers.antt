use Rattle.std.proofs.Common.{◌≡◌, ℕ, ◌==◌, Some, cond, subst}
use Rattle.sh_pipe.specs.Pipe.{PipeState}
use Rattle.sh_kernel_descriptors.specs.Counts.{with_new}
use Rattle.sh_kernel_descriptors.specs.Kept.{pipe_kept}
use Rattle.sh_kernel_descriptors.proofs.Piping.{kept_new}
use Rattle.sh_kernel_descriptors.proofs.naming.add_pipe.Goals as goal

pub returns-clause-pipes : goal.returns-clause-pipes
returns-clause-pipes c more es ps none k q pair n l p =
    let came = subst (λ (made : PipeState). (i : ℕ) → pipe_kept c.keep_pipe.new.pipes.entries i ≡ cond (c.args.pipe == i) (Some made) (pipe_kept c.args.pipes.now.entries i)) c.in_ok-made.ensures c.in_ok-keep_pipe.ensures.ok in
    c.add_ends.ensures.pipes more es (with_new ps) none k pair n l (kept_new c.args.pipes.now.entries c.keep_pipe.new.pipes.entries ps c.args.pipe _ q came p)
