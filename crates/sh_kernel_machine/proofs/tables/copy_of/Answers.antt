use Rattle.std.proofs.Common.{[], ap, sym, ◌∙◌}
use Rattle.std.proofs.lemmas.Result.{IfOk-weaker}
use Rattle.sh_kernel_descriptors.specs.Counts.{copies}
use Rattle.sh_kernel_machine.proofs.Tabling.{own_found, own_missing, within_all}
use Rattle.sh_kernel_machine.proofs.tables.copy_of.Goals as goal

pub returns-in-Some-clause-copies : goal.returns-in-Some-clause-copies
returns-in-Some-clause-copies c =
    IfOk-weaker c.copy_table.result _ _ (λ v h o. (
      c.in-Some.table.now.items,
      h ∙ ap (λ hs. copies hs c.args.pid c.args.child) c.as_slice.ensures.value,
      sym (own_found c.args.pid c.args.tables.now.entries c.in-Some.table.now o c.len-count.ensures.ordered (sym c.in-Some.ensures.value)),
      within_all c.args.pid c.args.tables.now.entries c.in-Some.table.now (sym c.in-Some.ensures.value),
    )) c.copy_table.ensures.items

pub returns-in-None-clause-copies : goal.returns-in-None-clause-copies
returns-in-None-clause-copies c o = ([], c.new.ensures.items, sym (own_missing c.args.pid c.args.tables.now.entries o (sym c.in-None.ensures.value)), λ h a. absurd a)
