use Rattle.std.proofs.Common.{◌≡◌, ℕ, drop}
use Rattle.slab.specs.Slab as slab
use Rattle.sh_kernel_descriptors.specs.Counts.{shared}
use Rattle.sh_kernel_descriptors.proofs.kept.share_each.Given as goal

abbrev pub invariant-loop-h : goal.invariant-loop-h
invariant-loop-h l = (k : ℕ) → shared k (drop l.h-index l.held) (slab.get l.entries k) ≡ shared k l.held (slab.get l.fn.entries k)
