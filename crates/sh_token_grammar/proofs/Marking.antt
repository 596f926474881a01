-- The end of a compound command is a mark, and so what is awaited of it is nested.
use Rattle.std.proofs.Common.{refl}
use Rattle.sh_grammar.specs.Around.{Marks}
use Rattle.sh_grammar.proofs.Around.{awaited_around}
use Rattle.sh_token_grammar.specs.Levels.{OpenAreRound}
use Rattle.sh_token_grammar.specs.Shell.{complete, substitution, compound, compound_end, number_of}
use Rattle.sh_token_grammar.proofs.Passing.{complete_predictive, substitution_predictive}

complete_marks : Marks complete (number_of compound_end) (number_of compound)
unfolding complete
complete_marks = record { rules = refl; start = refl }

substitution_marks : Marks substitution (number_of compound_end) (number_of compound)
unfolding substitution
substitution_marks = record { rules = refl; start = refl }

pub complete_nested : OpenAreRound complete
unfolding complete
complete_nested = awaited_around complete complete_predictive (number_of compound_end) (number_of compound) complete_marks

pub substitution_nested : OpenAreRound substitution
unfolding substitution
substitution_nested = awaited_around substitution substitution_predictive (number_of compound_end) (number_of compound) substitution_marks
