-- Changes of processes are noted one after another.
use Rattle.std.proofs.Common.{◌≡◌, ℕ, ◌-◌, List, [], ◌∷◌, map, cond, Option, slice_set, refl, sym, ap, ◌∙◌}
use Rattle.sh_kernel_processes.specs.Processes.{status_at}
use Rattle.sh_kernel_processes.specs.declared.process.Process.{Process}
use Rattle.sh_kernel_processes.specs.declared.process.Status.{Status}
use Rattle.sh_kernel.specs.Changes.{is_change, numbered_status, with_changes_in}

-- the statuses that are left are those of some processes, whose changes lead from the moments now to those at the end
pub record LeftOf (ps : List Process) (pids : List ℕ) (rest : List (ℕ × Option Status)) (after : List Process) (moment : ℕ) (start now : List ℕ) : Type 0 where
  pub left : List ℕ
  pub statuses : rest ≡ map (numbered_status ps) left
  pub moments : with_changes_in ps after moment left now ≡ with_changes_in ps after moment pids start

-- so it is for all processes of which the statuses may be
pub record Left (before rest : List (ℕ × Option Status)) (after : List Process) (moment : ℕ) (start now : List ℕ) : Type 0 where
  pub leads : (ps : List Process) (pids : List ℕ) → before ≡ map (numbered_status ps) pids → LeftOf ps pids rest after moment start now

pub begins : (before : List (ℕ × Option Status)) (after : List Process) (moment : ℕ) (start : List ℕ) → Left before before after moment start start
begins before after moment start = record { leads = λ ps pids e. record { left = pids; statuses = e; moments = refl } }

leads_on : (ps : List Process) (pids : List ℕ) (first : ℕ × Option Status) (rest others : List (ℕ × Option Status)) (after : List Process) (moment : ℕ) (start old new : List ℕ)
    → rest ≡ first ∷ others → new ≡ cond (is_change first.1 (status_at after first.0)) (slice_set old (first.0 - 100) moment) old → LeftOf ps pids rest after moment start old → LeftOf ps pids others after moment start new
leads_on ps pids first rest others after moment start old new r n l = of_left l.left l.statuses l.moments
  where
    noted : ℕ × Option Status → List ℕ
    noted f = cond (is_change f.1 (status_at after f.0)) (slice_set old (f.0 - 100) moment) old

    of_left : (left : List ℕ) → rest ≡ map (numbered_status ps) left → with_changes_in ps after moment left old ≡ with_changes_in ps after moment pids start → LeftOf ps pids others after moment start new
    of_left [] e m = absurd (cc)
    of_left (pid ∷ left) e m =
        let both : numbered_status ps pid ∷ map (numbered_status ps) left ≡ first ∷ others = sym e ∙ r in
        let head : numbered_status ps pid ≡ first = cc in
        let tail : map (numbered_status ps) left ≡ others = cc in
        let same : noted (numbered_status ps pid) ≡ new = ap noted head ∙ sym n in
        record { left = left; statuses = sym tail; moments = ap (λ moments. with_changes_in ps after moment left moments) (sym same) ∙ m }

pub goes_on : (before : List (ℕ × Option Status)) (first : ℕ × Option Status) (rest others : List (ℕ × Option Status)) (after : List Process) (moment : ℕ) (start old new : List ℕ)
    → rest ≡ first ∷ others → new ≡ cond (is_change first.1 (status_at after first.0)) (slice_set old (first.0 - 100) moment) old → Left before rest after moment start old → Left before others after moment start new
goes_on before first rest others after moment start old new r n l = record { leads = λ ps pids e. leads_on ps pids first rest others after moment start old new r n (l.leads ps pids e) }

pub ends : (before rest : List (ℕ × Option Status)) (after : List Process) (moment : ℕ) (start now : List ℕ) → rest ≡ [] → Left before rest after moment start now
    → (ps : List Process) (pids : List ℕ) → before ≡ map (numbered_status ps) pids → now ≡ with_changes_in ps after moment pids start
ends before rest after moment start now r l ps pids e = of_left (l.leads ps pids e).left (l.leads ps pids e).statuses (l.leads ps pids e).moments
  where
    of_left : (left : List ℕ) → rest ≡ map (numbered_status ps) left → with_changes_in ps after moment left now ≡ with_changes_in ps after moment pids start → now ≡ with_changes_in ps after moment pids start
    of_left [] s m = m
    of_left (pid ∷ left) s m = absurd (cc)
