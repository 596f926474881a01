use Rattle.std.proofs.Common.{refl, sym, ap, ◌∙◌}
use Rattle.sh_exec_forms.specs.Stacks.{run_in}
use Rattle.sh_exec_turns.specs.Input.{input_run}
use Rattle.sh_exec_turns.proofs.input.read_so_far.Goals as goal

-- what is entered is what was found in the text
pub returns-in_ok-active-in-Command : goal.returns-in_ok-active-in-Command
returns-in_ok-active-in-Command c = λ s h. record {
  state = h;
  shell_is = refl;
  run = c.in_ok-active-in-Command.ensures s c.args.is_end c.args.aliases
      ∙ ap (λ found. run_in c.args.frames.now (input_run c.args.is_end s c.args.shell.now c.args.aliases found)) (sym c.in-Command.is ∙ c.in-Ok.ensures);
}

pub returns-in_ok-active-in-Fault : goal.returns-in_ok-active-in-Fault
returns-in_ok-active-in-Fault c = λ s h. record {
  state = h;
  shell_is = refl;
  run = c.in_ok-active-in-Fault.ensures s c.args.shell.now c.args.is_end c.args.aliases
      ∙ ap (λ found. run_in c.args.frames.now (input_run c.args.is_end s c.args.shell.now c.args.aliases found)) (sym c.in-Fault.is ∙ c.in-Ok.ensures);
}
