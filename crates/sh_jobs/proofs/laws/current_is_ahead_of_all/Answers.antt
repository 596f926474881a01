use Rattle.std.proofs.Common.{◌∙◌, ap, sym}
use Rattle.sh_jobs.specs.Order.{current_of, previous_by, previous_of}
use Rattle.sh_jobs.specs.Table.{without}
use Rattle.sh_jobs.proofs.Ahead.{first_is}
use Rattle.sh_jobs.proofs.laws.current_is_ahead_of_all.Goals as goal

pub returns-clause-current : goal.returns-clause-current
unfolding current_of
returns-clause-current c = λ ps jobs number h. first_is ps jobs number h

pub returns-clause-previous : goal.returns-clause-previous
unfolding previous_of
returns-clause-previous c = λ ps jobs current number here h.
    first_is ps (without jobs current) number (sym (ap (previous_by ps jobs) here) ∙ h)
