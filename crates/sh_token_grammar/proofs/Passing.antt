-- The tables of the grammar pass their test, with each of the two start symbols.
use Rattle.std.proofs.Common.{refl}
use Rattle.sh_grammar.specs.Table.{weight_by}
use Rattle.sh_grammar.specs.Passes.{Passes, IsPredictive}
use Rattle.sh_token_grammar.specs.Shell.{complete, substitution}
use Rattle.sh_token_grammar.specs.Evidence.{witness}

complete_passes : Passes complete witness
unfolding complete witness weight_by
complete_passes = record { rules = refl; names = refl; nullables = refl; safes = refl; start = refl; start_ends = refl }

substitution_passes : Passes substitution witness
unfolding substitution witness weight_by
substitution_passes = record { rules = refl; names = refl; nullables = refl; safes = refl; start = refl; start_ends = refl }

pub complete_predictive : IsPredictive complete
complete_predictive = (witness, complete_passes)

pub substitution_predictive : IsPredictive substitution
substitution_predictive = (witness, substitution_passes)
