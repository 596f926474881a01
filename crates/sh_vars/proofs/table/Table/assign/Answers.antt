use Rattle.std.proofs.Common.{ℕ, List, ap, ◌∙◌}
use Rattle.std.specs.FinMap as map
use Rattle.sh_vars.specs.Environment.{after_assignment, variable_or_absent}
use Rattle.sh_vars.proofs.Places.{changed_rises, changed_map}
use Rattle.sh_vars.proofs.table.Table.assign.Goals as goal

pub invariant_of-self-2 : goal.invariant_of-self-2
invariant_of-self-2 c =
    changed_rises (λ v. after_assignment v c.in_ok-value.value c.args.export) _ _ (record { rises = c.self.invariant; held = c.in_ok-index.ensures.ok }) c.index_mut.ensures.value c.assign.ensures

pub returns : goal.returns
returns c =
    changed_map (λ v. after_assignment v c.in_ok-value.value c.args.export) _ _ (record { rises = c.self.invariant; held = c.in_ok-index.ensures.ok }) c.index_mut.ensures.value c.assign.ensures _ c.self.view_is
    ∙ ap (λ (value : List ℕ). map.insert c.args.self.now c.args.name.now (after_assignment (variable_or_absent c.args.self.now c.args.name.now) value c.args.export)) c.in_ok-value.ensures
