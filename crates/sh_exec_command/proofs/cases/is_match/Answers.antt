use Rattle.std.specs.Bool.{one_answer}
use Rattle.sh_pattern.proofs.Decisions.{match_both}
use Rattle.sh_pattern.specs.Deciding.{is_match}
use Rattle.sh_exec_command.proofs.cases.is_match.Goals as goal

pub returns : goal.returns
returns c = one_answer c.matches.result (is_match c.args.pattern.now c.args.text.now) c.matches.ensures (match_both c.args.pattern.now c.args.text.now)
