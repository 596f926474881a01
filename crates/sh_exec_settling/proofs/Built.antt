-- What a built-in does to the kernel's state, and that nothing else at a place does anything to it.
use Rattle.std.proofs.Common.{◌≡◌, ℕ, List, refl, ap, subst, ◌∙◌, drop}
use Rattle.sh_builtin.specs.BuiltIns.{with_outcome}
use Rattle.sh_builtin.specs.Invocations.{invoked}
use Rattle.sh_builtin_outcome.specs.declared.invocation.Invocation.{Invocation}
use Rattle.sh_builtin_outcome.specs.declared.outcome.Outcome.{Outcome}
use Rattle.sh_builtin_shell.specs.declared.shell.Shell.{Shell}
use Rattle.sh_exec_actions.specs.declared.action.Active.{Active}
use Rattle.sh_exec_actions.specs.declared.action.Active.TheVariants.{Acting, Calling, Evaluating, Next, Done, Leaving}
use Rattle.sh_exec_actions.specs.declared.form.Form.{Form}
use Rattle.sh_exec_settling.specs.Builtins.{builtin_machine, effect_at, machine_at, performed}
use Rattle.sh_exec_forms.specs.Frames.{last_for, levels_left}
use Rattle.sh_exec_signals.specs.Signals.{after_traps}
use Rattle.sh_kernel.specs.State.{KernelKept, KernelState, StandsAt}

pub built : (kernel : KernelKept) (around : List Form) (s : KernelState) (old new : Shell) (invocation : Invocation) (fields arguments : List (List ℕ)) (status last : ℕ) (outcome : Outcome)
    → status ≡ old.vars.special.status → last ≡ last_for around invocation.builtin status → arguments ≡ drop 1 fields
    → with_outcome new outcome ≡ invoked s old last invocation arguments
    → StandsAt kernel (after_traps s new outcome.signals)
    → StandsAt kernel (builtin_machine around s old invocation fields)
unfolding builtin_machine
built kernel around s old new invocation fields arguments status last outcome status_is last_is arguments_are ran k =
    subst (λ d. StandsAt kernel (after_traps s d.shell d.outcome.signals))
    (ran
    ∙ ap (λ last. invoked s old last invocation arguments) (last_is ∙ ap (last_for around invocation.builtin) status_is)
    ∙ ap (invoked s old (last_for around invocation.builtin old.vars.special.status) invocation) arguments_are)
    k

abbrev NotBuilt : Active → Type 0
NotBuilt active = (invocation : Invocation) (fields : List (List ℕ)) → active ≡ Acting invocation fields → ⊥

pub not_built : (around : List Form) (s : KernelState) (shell : Shell) (active : Active) → NotBuilt active → machine_at around s shell active ≡ s
not_built around s shell (Acting invocation fields) n = absurd (n invocation fields refl)
not_built around s shell (Calling body fields) n = refl
not_built around s shell (Evaluating how text) n = refl
not_built around s shell (Next place) n = refl
not_built around s shell (Done ended) n = refl
not_built around s shell (Leaving leave) n = refl

pub not_effected : (around : List Form) (s : KernelState) (shell : Shell) (active : Active) → NotBuilt active
    → effect_at around s shell active ≡ performed (levels_left around) shell active
not_effected around s shell (Acting invocation fields) n = absurd (n invocation fields refl)
not_effected around s shell (Calling body fields) n = refl
not_effected around s shell (Evaluating how text) n = refl
not_effected around s shell (Next place) n = refl
not_effected around s shell (Done ended) n = refl
not_effected around s shell (Leaving leave) n = refl
