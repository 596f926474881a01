-- A tree and the list of its forms: what is settled inward and outward again is settled form by form.
use Rattle.std.proofs.Common.{◌≡◌, arith, length, List, [], ◌∷◌, Bool, false, refl, sym, ap, subst, ◌∙◌}
use Rattle.sh_exec_actions.specs.declared.action.Active.TheVariants.{Acting, Calling, Evaluating, Next, Done, Leaving}
use Rattle.sh_builtin_outcome.specs.declared.outcome.Leave.{Leave}
use Rattle.sh_builtin_shell.specs.declared.shell.Shell.{Shell}
use Rattle.sh_exec_actions.specs.declared.action.Active.{Active}
use Rattle.sh_exec_actions.specs.declared.status.CommandStatus.{CommandStatus}
use Rattle.sh_exec_settling.specs.Builtins.{effect_at, machine_at}
use Rattle.sh_exec_settling.specs.Forms.{Acted, HasGone, HasPerformed, IsActed, IsOnWay, after, after_leave, after_status, at_action, exits_on_error, outward, step_run, with_run, within, within_run}
use Rattle.sh_exec_forms.specs.Stacks.{Goes, IsFewer, Leaves, is_over, run_in, run_of}
use Rattle.sh_exec_forms.specs.Running.{Run, At, In}
use Rattle.sh_exec_actions.specs.declared.form.Form.{Form}
use Rattle.sh_exec_forms.specs.declared.step.Step.{Step}
use Rattle.sh_exec_forms.specs.declared.step.Step.TheVariants.{Outward, Inward}
use Rattle.sh_kernel.specs.State.{KernelKept, KernelState, StandsAt}

-- a tree is settled from the innermost form outward
pub by_forms : (forms : List Form) (s : KernelState) (shell : Shell) (run : Run)
    → at_action [] s shell (run_in forms run) ≡ outward forms (at_action forms s shell run)
by_forms [] s shell run = refl
by_forms (form ∷ forms) s shell run = by_forms forms s shell (In form run)

-- where nothing is over no form around it changes
over_stays : (around : List Form) (form : Form) (s : KernelState) (shell : Shell) (run : Run) → is_over run ≡ false
    → after around form (with_run s shell run) ≡ with_run s shell (In form run)
unfolding after
over_stays around form s shell (At (Acting invocation fields)) h = refl
over_stays around form s shell (At (Calling body fields)) h = refl
over_stays around form s shell (At (Evaluating how text)) h = refl
over_stays around form s shell (At (Next place)) h = refl
over_stays around form s shell (At (Done status)) h = absurd (cc h)
over_stays around form s shell (At (Leaving leave)) h = absurd (cc h)
over_stays around form s shell (In inner run) h = refl

pub stays : (forms : List Form) (s : KernelState) (shell : Shell) (run : Run) → is_over run ≡ false
    → outward forms (with_run s shell run) ≡ with_run s shell (run_in forms run)
stays [] s shell run h = refl
stays (form ∷ forms) s shell run h =
    ap (outward forms) (over_stays forms form s shell run h) ∙ stays forms s shell (In form run) refl

-- what is over leaves fewer forms
pub leaves : (step : Step) (now before : List Form) (run : Run) → Goes step now before run → Leaves step now before
leaves (Outward active) now before run g = g.0
leaves (Inward active) now before run g = tt

pub fewer : (step : Step) (now rest before : List Form) (form : Form) → before ≡ form ∷ rest → Leaves step now rest → IsFewer step now before
fewer (Outward active) now rest before form e h = omega (arith, ap length e, ap length h)
fewer (Inward active) now rest before form e h = tt

-- a form goes on, and what is around it with it
form_on_way : (kernel : KernelKept) (shell : Shell) (now rest : List Form) (step : Step) (a : Acted)
    → HasGone kernel shell now rest step a → step_run now a.machine shell step ≡ outward rest a
form_on_way kernel shell now rest (Outward active) a g =
    ap (λ forms. outward forms (with_run a.machine shell (At active))) (g.goes.0)
    ∙ ap (λ these. outward rest (with_run a.machine these (At active))) g.shell_is
    ∙ ap (λ run. outward rest (with_run a.machine a.shell run)) (sym g.goes.1)
form_on_way kernel shell now rest (Inward active) a g =
    ap (with_run a.machine shell) g.goes.0
    ∙ ap (λ these. with_run a.machine these (run_in rest a.run)) g.shell_is
    ∙ sym (stays rest a.machine a.shell a.run g.goes.1)

pub on_way : (kernel : KernelKept) (shell : Shell) (now rest : List Form) (step : Step) (a : Acted)
    → HasGone kernel shell now rest step a → IsOnWay kernel shell now step (outward rest a)
on_way kernel shell now rest step a g = record { machine = a.machine; state = g.state; left = form_on_way kernel shell now rest step a g }

pub ended_on_way : (kernel : KernelKept) (shell : Shell) (now rest before : List Form) (form : Form) (step : Step) (s : KernelState) (old : Shell) (ended : CommandStatus)
    → before ≡ form ∷ rest → HasGone kernel shell now rest step (after_status rest form s old ended)
    → IsOnWay kernel shell now step (outward before (with_run s old (At (Done ended))))
unfolding after
ended_on_way kernel shell now rest before form step s old ended e g =
    subst (λ forms. IsOnWay kernel shell now step (outward forms (with_run s old (At (Done ended))))) (sym e)
    (on_way kernel shell now rest step (after_status rest form s old ended) g)

pub left_on_way : (kernel : KernelKept) (shell : Shell) (now rest before : List Form) (form : Form) (step : Step) (s : KernelState) (old : Shell) (leave : Leave)
    → before ≡ form ∷ rest → HasGone kernel shell now rest step (after_leave rest form s old leave)
    → IsOnWay kernel shell now step (outward before (with_run s old (At (Leaving leave))))
unfolding after
left_on_way kernel shell now rest before form step s old leave e g =
    subst (λ forms. IsOnWay kernel shell now step (outward forms (with_run s old (At (Leaving leave))))) (sym e)
    (on_way kernel shell now rest step (after_leave rest form s old leave) g)

-- what isn't over goes on at its place
pub stays_on_way : (kernel : KernelKept) (shell : Shell) (forms : List Form) (s : KernelState) (active same : Active)
    → active ≡ same → StandsAt kernel s → is_over (At same) ≡ false
    → IsOnWay kernel shell forms (Inward same) (outward forms (with_run s shell (At active)))
stays_on_way kernel shell forms s active same e k h = record {
  machine = s;
  state = k;
  left =
      sym (stays forms s shell (At same) h) ∙ ap (λ this. outward forms (with_run s shell (At this))) (sym e);
}

-- what is over with no form around it stays
pub alone_on_way : (kernel : KernelKept) (shell : Shell) (now before : List Form) (s : KernelState) (active same : Active)
    → active ≡ same → StandsAt kernel s → before ≡ [] → now ≡ []
    → IsOnWay kernel shell now (Inward same) (outward before (with_run s shell (At active)))
alone_on_way kernel shell now before s active same e k b n = record {
  machine = s;
  state = k;
  left =
      ap (λ forms. with_run s shell (run_of forms same)) n ∙ ap (λ this. with_run s shell (At this)) (sym e)
      ∙ ap (λ forms. outward forms (with_run s shell (At active))) (sym b);
}

-- one step outward, and the rest of the way
pub onward : (kernel : KernelKept) (shell : Shell) (forms : List Form) (active : Active) (later : KernelKept) (shell' : Shell) (forms' : List Form) (step : Step) (a : Acted)
    → IsOnWay kernel shell forms (Outward active) a
    → ((s : KernelState) → StandsAt kernel s → IsOnWay later shell' forms' step (outward forms (with_run s shell (At active))))
    → IsOnWay later shell' forms' step a
onward kernel shell forms active later shell' forms' step a g h = subst (IsOnWay later shell' forms' step) g.left (h g.machine g.state)

-- ---- what a built-in did is settled
within_stays : (errexit : Bool) (around : List Form) (run : Run) → is_over run ≡ false → within_run errexit around run ≡ run
within_stays errexit around (At (Acting invocation fields)) h = refl
within_stays errexit around (At (Calling body fields)) h = refl
within_stays errexit around (At (Evaluating how text)) h = refl
within_stays errexit around (At (Next place)) h = refl
within_stays errexit around (At (Done status)) h = absurd (cc h)
within_stays errexit around (At (Leaving leave)) h = absurd (cc h)
within_stays errexit around (In form run) h = refl

-- what isn't over runs at its place, inside the forms that were entered
pub performed_inward : (kernel : KernelKept) (s : KernelState) (old shell : Shell) (now before : List Form) (active next : Active)
    → StandsAt kernel (machine_at before s old active) → HasPerformed shell now before (Inward next) (effect_at before s old active)
    → IsActed kernel shell (run_of now next) (at_action [] s old (run_of before active))
performed_inward kernel s old shell now before active next k h =
    let p = effect_at before s old active in
    let m = machine_at before s old active in
    let whole = by_forms before s old (At active)
    ∙ ap (λ run. outward before (with_run m p.shell run)) (within_stays (exits_on_error p.shell) before p.run h.goes.1)
    ∙ stays before m p.shell p.run h.goes.1 in
    record {
      state = subst (λ (a : Acted). StandsAt kernel a.machine) (sym whole) k;
      shell_is = h.shell_is ∙ ap (λ (a : Acted). a.shell) (sym whole);
      run = h.goes.0 ∙ ap (λ (a : Acted). a.run) (sym whole);
    }

-- what is over goes outward
pub performed_outward : (later : KernelKept) (s : KernelState) (old shell after_shell : Shell) (now before : List Form) (active next bounded : Active) (ran : Run)
    → HasPerformed shell now before (Outward next) (effect_at before s old active) → bounded ≡ within (exits_on_error shell) now next
    → IsActed later after_shell ran (outward now (with_run (machine_at before s old active) shell (At bounded)))
    → IsActed later after_shell ran (at_action [] s old (run_of before active))
performed_outward later s old shell after_shell now before active next bounded ran h b a =
    let p = effect_at before s old active in
    let m = machine_at before s old active in
    let whole = by_forms before s old (At active)
    ∙ ap (λ run. outward before (with_run m p.shell (within_run (exits_on_error p.shell) before run))) h.goes.1
    ∙ ap (λ this. outward before (with_run m this (At (within (exits_on_error this) before next)))) (sym h.shell_is)
    ∙ ap (λ forms. outward forms (with_run m shell (At (within (exits_on_error shell) forms next)))) (sym h.goes.0)
    ∙ ap (λ this. outward now (with_run m shell (At this))) (sym b) in
    subst (IsActed later after_shell ran) (sym whole) a
