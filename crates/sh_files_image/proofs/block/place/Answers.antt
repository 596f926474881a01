use Rattle.std.proofs.Common.{rules}
use Rattle.std.proofs.lemmas.Fn.{always_returns_same}
use Rattle.std.specs.Ordering.{nat_cmp}
use Rattle.std.specs.Cmp.Lexicographic.{slice_cmp}
use Rattle.sh_files_image.proofs.Places.{placed}
use Rattle.sh_files_image.proofs.block.place.Goals as goal

pub returns : goal.returns
returns c =
    placed _ _ _ c.requires c.binary_search_by.ensures.bound
    (c.binary_search_by.ensures.position (λ e. slice_cmp nat_cmp e.0 c.args.path.now) (always_returns_same _ _ _ (λ a r f called. search rules)))
