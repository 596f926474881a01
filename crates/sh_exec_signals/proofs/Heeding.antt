-- The traps of signals are heeded one signal after another.
use Rattle.std.proofs.Common.{◌≡◌, List, [], ◌∷◌, refl, sym, ap, ◌∙◌}
use Rattle.sh_builtin_shell.specs.declared.shell.Shell.{Shell}
use Rattle.sh_exec_signals.specs.Signals.{after_trap_in, after_traps_in}
use Rattle.sh_kernel.specs.State.{KernelKept, KernelState, StandsAt}
use Rattle.sh_kernel_processes.specs.declared.set.SignalSet.{SignalSet}
use Rattle.sh_signal.specs.declared.signal.Signal.{Signal}

-- what is kept stands at a state from which the rest of the signals leads to the last one
pub record Left (set : SignalSet) (shell : Shell) (rest whole : List Signal) (kept : KernelKept) (s : KernelState) : Type 0 where
  pub between : KernelState
  pub state : StandsAt kept between
  pub after : after_traps_in set between shell rest ≡ after_traps_in set s shell whole

pub begins : (set : SignalSet) (shell : Shell) (whole : List Signal) (kept : KernelKept) (s : KernelState) → StandsAt kept s → Left set shell whole whole kept s
begins set shell whole kept s h = record { between = s; state = h; after = refl }

pub goes_on : (set : SignalSet) (shell : Shell) (signal : Signal) (rest others whole : List Signal) (old new : KernelKept) (s : KernelState)
    → rest ≡ signal ∷ others → ((b : KernelState) → StandsAt old b → StandsAt new (after_trap_in set b shell signal))
    → Left set shell rest whole old s → Left set shell others whole new s
goes_on set shell signal rest others whole old new s e step l = record {
  between = after_trap_in set l.between shell signal;
  state = step l.between l.state;
  after = sym (ap (λ those. after_traps_in set l.between shell those) e) ∙ l.after;
}

pub ends : (set : SignalSet) (shell : Shell) (rest whole : List Signal) (kept : KernelKept) (s : KernelState) → rest ≡ []
    → Left set shell rest whole kept s → StandsAt kept (after_traps_in set s shell whole)
ends set shell rest whole kept s e l = rw (sym l.after ∙ ap (λ those. after_traps_in set l.between shell those) e) l.state
