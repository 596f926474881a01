use Rattle.sh_vars.specs.Starting.{starting_variables}
use Rattle.sh_vars.proofs.Places.{in_any_order}
use Rattle.sh_vars.proofs.table.Table.starting.Goals as goal

pub returns : goal.returns
unfolding starting_variables
returns c =
    rw (c.in_ok-add-8.ensures, c.in_ok-add-7.ensures, c.in_ok-add-6.ensures, c.in_ok-add-5.ensures, c.in_ok-add-4.ensures, c.in_ok-add-3.ensures, c.in_ok-add-2.ensures, c.in_ok-add.ensures, c.in_ok-entries.ensures.items, c.default_separators.ensures)
    (in_any_order _ tt)
