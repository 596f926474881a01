use Rattle.std.proofs.Common.{◌≡◌, ℕ, List, Option, length, ap, ◌∙◌}
use Rattle.sh_schedules_outcomes.specs.Schedules.{place_of}
use Rattle.sh_schedules_outcomes.specs.Shell.{shell}
use Rattle.sh_schedules.proofs.turns.who_can.Goals as goal

count_is : (count : ℕ) (pids these those : List ℕ) → count ≡ length pids → pids ≡ these → these ≡ those → count ≡ length those
count_is count pids these those a b c = a ∙ ap (λ (ps : List ℕ). length ps) (b ∙ c)

here_is : (here last last' : Option ℕ) (pids these those : List ℕ) → here ≡ place_of last pids → last ≡ last' → pids ≡ these → these ≡ those → here ≡ place_of last' those
here_is here last last' pids these those a b c d = a ∙ ap (λ (l : Option ℕ). place_of l pids) b ∙ ap (λ (ps : List ℕ). place_of last' ps) (c ∙ d)

pub returns : goal.returns
unfolding shell
returns g c = λ s h. (
  count_is _ _ _ _ c.who_of.ensures.count c.as_slice.ensures.value (c.in_ok-pids.ensures.pids s h),
  here_is _ _ _ _ _ _ c.who_of.ensures.here (c.last.ensures.view s h) c.as_slice.ensures.value (c.in_ok-pids.ensures.pids s h),
)
