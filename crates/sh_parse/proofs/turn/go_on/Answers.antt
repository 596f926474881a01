use Rattle.std.proofs.Common.{refl, ap, ◌∙◌}
use Rattle.sh_parse_leaves.specs.Results.{and_then}
use Rattle.sh_parse_commands.specs.Replacing.{with_token}
use Rattle.sh_parse_commands.specs.Programs.{inside_of, outermost}
use Rattle.sh_parse.proofs.turn.go_on.Goals as goal

pub returns : goal.returns
returns c = (
  refl,
  c.in_ok-pass.ensures.passed,
  c.in_ok-next.ensures.judged
      ∙ ap (λ d. and_then c.args.judged (λ j. with_token c.args.command.now.aliases (inside_of c.args.command.now.aliases) (outermost c.args.command.now) d c.args.item j)) c.due_at-due.ensures,
  refl,
)
