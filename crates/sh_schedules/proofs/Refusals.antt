-- Why nothing is explored.
use Rattle.std.proofs.Common.{◌≡◌, List, ℕ, Err, Ok, Result, IfErr, IsErrAnd, subst, sym}
use Rattle.sh_stock.specs.Asking.{Meaning}
use Rattle.sh_exec.specs.declared.settings.Settings.{Settings}
use Rattle.sh_schedules_outcomes.specs.Refusals.{IsRefusal}
use Rattle.sh_schedules_outcomes.specs.declared.fault.ExploreFault.{ExploreFault}
use Rattle.sh_schedules.specs.Trying.{IsUnexplored}
use Rattle.sh_schedules.specs.declared.exploring.Bounds.{Bounds}

pub passed_on : {A : Type 0} (r : Result A ExploreFault) (fault : ExploreFault) (P : ExploreFault → Type 0) → IsErrAnd r (λ x. x ≡ fault) → P fault → IfErr r P
passed_on (Ok a) fault P is h = absurd is
passed_on (Err x) fault P is h = subst P (sym is) h

-- a run that is refused for its image, or for want of memory
pub unexplored : {S : Type 0} (m : Meaning S) (image : List ℕ) (settings : Settings) (bounds : Bounds) (fault : ExploreFault) → IsRefusal image fault →
    IsUnexplored m image settings bounds fault
unexplored m image settings bounds fault refusal = record { refused = refusal.0; too_many = λ same. absurd (refusal.1 same) }
