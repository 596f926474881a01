use Rattle.sh_expand.proofs.Forms as form
use Rattle.sh_expand.proofs.laws.parts_do_what_their_forms_say.Goals as goal

pub returns : goal.returns
returns g = record {
  literal = form.literal_is;
  escaped = form.escaped_is;
  single_quoted = form.singlequoted_is;
  double_quoted = form.doublequoted_is;
  parameter = form.parameter_is;
  length = form.length_is;
  conditional = form.conditional_is;
  removal = form.removal_is;
  substitution = form.substitution_is;
  backquoted = form.backquoted_is;
  arithmetic = form.arithmetic_is;
}
