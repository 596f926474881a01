-- A run goes on by one event.
use Rattle.std.proofs.Common.{◌≡◌, ℕ, ◌+◌, ◌<◌, List, [], ◌∷◌, ◌++◌, length, take, get_or, refl, ap, ◌∙◌}
use Rattle.std.proofs.lemmas.List.{take_more}
use Rattle.sh_stock.specs.Asking.{Meaning}
use Rattle.sh_exec.specs.declared.event.Event.{Event}
use Rattle.sh_exec.specs.State.{State, step, run}

pub run-append : {S : Type 0} (m : Meaning S) (s : State S) (es : List Event) (e : Event) → run m s (es ++ e ∷ []) ≡ step m (run m s es) e
run-append m s [] e = refl
run-append m s (f ∷ es) e = run-append m (step m s f) es e

-- the run of one event more
pub run-take_more : {S : Type 0} (m : Meaning S) (s : State S) (es : List Event) (i : ℕ) (d : Event) → i < length es → run m s (take (i + 1) es) ≡ step m (run m s (take i es)) (get_or es i d)
run-take_more m s es i d h = ap (run m s) (take_more es i d h) ∙ run-append m s (take i es) (get_or es i d)
