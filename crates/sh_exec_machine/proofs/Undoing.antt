-- The last one of some is ended first.
use Rattle.std.proofs.Common.{◌≡◌, ℕ, Bool, List, [], ◌∷◌, ◌++◌, refl, sym, ap, ◌∙◌}
use Rattle.sh_kernel.specs.State.{KernelKept, KernelState, StandsAt}
use Rattle.sh_exec_machine.specs.Undoing.{after_redirection, after_redirections, Left}
use Rattle.sh_exec_machine.specs.declared.undone.Undone.{Undone}

pub after_redirections-last : (stay : Bool) (pid : ℕ) (us : List Undone) (u : Undone) (s : KernelState) → after_redirections stay pid (us ++ u ∷ []) s ≡ after_redirections stay pid us (after_redirection stay pid u s)
after_redirections-last stay pid [] u s = refl
after_redirections-last stay pid (v ∷ vs) u s = ap (after_redirection stay pid v) (after_redirections-last stay pid vs u s)

pub begins : (stay : Bool) (pid : ℕ) (us : List Undone) (kernel : KernelKept) (s : KernelState) → StandsAt kernel s → Left stay pid us us kernel s
begins stay pid us kernel s h = record { between = s; state = h; rest = refl }

pub goes_on : (stay : Bool) (pid : ℕ) (us us' whole : List Undone) (u : Undone) (old new : KernelKept) (s : KernelState)
    → us ≡ us' ++ u ∷ [] → ((b : KernelState) → StandsAt old b → StandsAt new (after_redirection stay pid u b)) → Left stay pid us whole old s → Left stay pid us' whole new s
goes_on stay pid us us' whole u old new s e step l = record {
  between = after_redirection stay pid u l.between;
  state = step l.between l.state;
  rest = sym (after_redirections-last stay pid us' u l.between) ∙ ap (λ vs. after_redirections stay pid vs l.between) (sym e) ∙ l.rest;
}

pub ends : (stay : Bool) (pid : ℕ) (us whole : List Undone) (kernel : KernelKept) (s : KernelState) → us ≡ [] → Left stay pid us whole kernel s → StandsAt kernel (after_redirections stay pid whole s)
ends stay pid us whole kernel s e l = rw (sym l.rest ∙ ap (λ vs. after_redirections stay pid vs l.between) e) l.state
