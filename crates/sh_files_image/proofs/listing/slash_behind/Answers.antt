use Rattle.std.proofs.Common.{◌∙◌, ◌+◌, ℕ, List, ap, drop, sym}
use Rattle.std.specs.Prelude.{◌==◌, position}
use Rattle.sh_files_image.specs.Paths.{has_slash}
use Rattle.sh_files_image.proofs.Held.{begins, begun_by_prefix}
use Rattle.sh_files_image.proofs.Slashes.{slash_behind, no_slash_behind, to_slash}
use Rattle.sh_files_image.proofs.listing.slash_behind.Goals as goal

pub returns-in-Some-clause-some : goal.returns-in-Some-clause-some
returns-in-Some-clause-some c =
    ap (begins c.args.path.now) (sym (to_slash c.args.start c.in-Some.i c.args.path.now (c.in-Some.ensures.place ∙ ap (λ (xs : List ℕ). position (λ b. b == 47) xs) c.skip.ensures.value)))
    ∙ begun_by_prefix (c.args.start + c.in-Some.i + 1) c.args.path.now

pub returns-in-Some-clause-slash : goal.returns-in-Some-clause-slash
returns-in-Some-clause-slash c =
    let at = c.in-Some.ensures.place ∙ ap (λ (xs : List ℕ). position (λ b. b == 47) xs) c.skip.ensures.value in
    ap (λ (xs : List ℕ). has_slash (drop c.args.start xs)) (sym (to_slash c.args.start c.in-Some.i c.args.path.now at))
    ∙ slash_behind c.args.start c.in-Some.i c.args.path.now at

pub returns-in-None-clause-none : goal.returns-in-None-clause-none
returns-in-None-clause-none c =
    no_slash_behind (drop c.args.start c.args.path.now) (c.in-None.ensures.place ∙ ap (λ (xs : List ℕ). position (λ b. b == 47) xs) c.skip.ensures.value)
