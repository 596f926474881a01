use Rattle.std.proofs.Common.{◌∙◌}
use Rattle.sh_files.proofs.Walks.{on_step, last_step, last_refusal, passed}
use Rattle.sh_files.proofs.files.Files.walk.Goals as goal

pub names-preserved : goal.names-preserved
names-preserved c =
    c.names.invariant
    ∙ on_step c.args.self.now c.names.place.items c.step.new.place.items c.names.rest.now (c.in-Some.name.now, c.in-Some.behind.now) _ c.in-Some.ensures.parts (rw c.deref.ensures.value at c.in_ok-check_directory.ensures) c.in_ok-step.ensures

pub returns-in_err-check_directory-2-clause-refused :
    goal.returns-in_err-check_directory-2-clause-refused
returns-in_err-check_directory-2-clause-refused c =
    passed _ _ _ c.from_residual-in_err-check_directory-2.ensures.1 (λ _. c.names.invariant ∙ last_refusal c.args.self.now c.names.place.items c.names.rest.now _ c.in_default.ensures.parts (rw c.deref-2.ensures.value at c.in_err-check_directory-2.ensures))

pub returns-clause-ok : goal.returns-clause-ok
returns-clause-ok c =
    c.names.invariant
    ∙ last_step c.args.self.now c.names.place.items c.step-2.new.place.items c.names.rest.now _ c.in_default.ensures.parts (rw c.deref-2.ensures.value at c.in_ok-check_directory-2.ensures) c.in_ok-step-2.ensures
