-- Descriptors of what has ended are closed one process after another.
use Rattle.std.proofs.Common.{◌≡◌, ℕ, List, [], ◌∷◌, refl, sym, ap, ◌∙◌}
use Rattle.sh_kernel_descriptors.specs.Machine.{MachineState}
use Rattle.sh_kernel_machine.specs.Machine.{MachineKept, StandsAt}
use Rattle.sh_kernel_machine.specs.Signals.{after_ending, after_endings}

-- what is kept stands at a state from which the rest of the processes leads to the last one
pub record Left (rest whole : List ℕ) (kept : MachineKept) (s : MachineState) : Type 0 where
  pub between : MachineState
  pub state : StandsAt kept between
  pub after : after_endings between rest ≡ after_endings s whole

pub begins : (whole : List ℕ) (kept : MachineKept) (s : MachineState) → StandsAt kept s → Left whole whole kept s
begins whole kept s h = record { between = s; state = h; after = refl }

pub goes_on : (pid : ℕ) (rest others whole : List ℕ) (old new : MachineKept) (s : MachineState)
    → rest ≡ pid ∷ others → ((m : MachineState) → StandsAt old m → StandsAt new (after_ending m pid)) → Left rest whole old s → Left others whole new s
goes_on pid rest others whole old new s e step l = record {
  between = after_ending l.between pid;
  state = step l.between l.state;
  after = sym (ap (λ pids. after_endings l.between pids) e) ∙ l.after;
}

pub ends : (rest whole : List ℕ) (kept : MachineKept) (s : MachineState) → rest ≡ [] → Left rest whole kept s → StandsAt kept (after_endings s whole)
ends rest whole kept s e l = rw (sym l.after ∙ ap (λ pids. after_endings l.between pids) e) l.state
