-- The signals with numbers below 23 are all signals.
use Rattle.std.proofs.Common.{◌≡◌, refl}
use Rattle.sh_builtin_jobs.specs.SignalWords.{lines_below, signal_lines}

pub all_below : lines_below 23 ≡ signal_lines
unfolding signal_lines
all_below = refl
