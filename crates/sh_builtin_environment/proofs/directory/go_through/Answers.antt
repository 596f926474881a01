use Rattle.std.proofs.Common.{◌∙◌}
use Rattle.sh_builtin_environment.proofs.Walks.{on_step, last_step}
use Rattle.sh_builtin_environment.proofs.directory.go_through.Goals as goal

pub names-preserved : goal.names-preserved
names-preserved c =
    on_step c.names.place.items c.step.new.place.items c.names.rest.now (c.in-Some.name.now, c.in-Some.behind.now) c.in-Some.ensures.parts c.in_ok-step.ensures
    ∙ c.names.invariant

pub returns : goal.returns
returns c =
    c.from_vec.ensures
    ∙ last_step c.names.place.items c.step-2.new.place.items c.names.rest.now c.in_default.ensures.parts c.in_ok-step-2.ensures
    ∙ c.names.invariant
