use Rattle.std.proofs.Common.{◌∙◌, sym}
use Rattle.sh_builtin_environment.proofs.Walks.{directory_found}
use Rattle.sh_builtin_environment.proofs.directory.find_directory.Goals as goal

pub returns : goal.returns
returns c =
    directory_found c.args.files.now c.args.directory.now c.args.path.now c.in_ok-place.place c.in_ok-place.ensures
    (sym c.if-not-branch.false ∙ c.in_ok-leads_to_directory.ensures)
