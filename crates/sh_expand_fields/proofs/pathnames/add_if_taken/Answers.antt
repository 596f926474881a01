use Rattle.sh_expand_fields.specs.Walk.{TakenOne}
use Rattle.sh_expand_fields.proofs.Ones.{adds_one}
use Rattle.sh_expand_fields.proofs.pathnames.add_if_taken.Goals as goal

pub returns-in_ok-add_path : goal.returns-in_ok-add_path
returns-in_ok-add_path c = adds_one _ _ _ (TakenOne c.args.before.now c.args.end.now c.args.component.now c.args.name.now) c.in_ok-add_path.ensures (λ t. (λ e. (c.takes.ensures.0 c.if-takes.true, e), λ h. h.1))
