-- The shell machine runs by events.
use Rattle.std.proofs.Common.{◌≡◌, List, [], ◌∷◌, refl}
use Rattle.sh_stock.specs.Asking.{Meaning}
use Rattle.sh_exec.specs.declared.event.Event.{Event}
use Rattle.sh_exec.specs.State.{State, run, step}
use Rattle.sh_schedules_outcomes.specs.Schedules.{end_of}
use Rattle.sh_schedules_outcomes.specs.Shell.{shell}

pub end_is_run : {S : Type 0} (m : Meaning S) (s : State S) (es : List Event) → end_of (shell m) s es ≡ run m s es
unfolding shell
end_is_run m s [] = refl
end_is_run m s (e ∷ es) = end_is_run m (step m s e) es
