-- A shell's tree and the list of the forms round its place.
use Rattle.std.proofs.Common.{◌≡◌, ◌<◌, ◌≤◌, arith, length, List, [], ◌∷◌, Option, reverse, refl, sym, ap, subst, ◌∙◌}
use Rattle.std.proofs.lemmas.List.{length-reverse, reverse-reverse}
use Rattle.sh_builtin_shell.specs.declared.shell.Shell.{Shell}
use Rattle.sh_exec_actions.specs.declared.action.Active.{Active}
use Rattle.sh_exec_turns.specs.Forms.{Acted, IsActed, at_action, outward}
use Rattle.sh_exec_forms.specs.Stacks.{forms_round, path_of, run_in, run_of}
use Rattle.sh_exec_forms.specs.Frames.{forms_in, framed, is_failure_ignored}
use Rattle.sh_exec_forms.specs.Running.{InterpreterState, Run, At, In, active_of, with_active}
use Rattle.sh_exec_actions.specs.declared.form.Form.{Form}
use Rattle.sh_exec_actions.specs.declared.form.Frame.{Frame}
use Rattle.sh_exec_turns.proofs.Outward.{by_forms}
use Rattle.sh_exec_shell.specs.Forks.{IsTurned, Turned, inherited}
use Rattle.sh_exec_shell.specs.Reduction.{act_at, at_root, drop_first, reduce, shell_turn, turn_from, with_root}
use Rattle.sh_kernel.specs.State.{KernelKept, KernelState, StandsAt}

active_in : (forms : List Form) (run : Run) → active_of (run_in forms run) ≡ active_of run
active_in [] run = refl
active_in (form ∷ forms) run = active_in forms (In form run)

pub active_within : (forms : List Form) (active : Active) → active_of (run_of forms active) ≡ active
active_within forms active = active_in forms (At active)

-- another place in the same forms
placed_in : (forms : List Form) (run : Run) (next : Active) → with_active (run_in forms run) next ≡ run_in forms (with_active run next)
placed_in [] run next = refl
placed_in (form ∷ forms) run next = placed_in forms (In form run) next

pub placed_within : (forms : List Form) (active next : Active) → with_active (run_of forms active) next ≡ run_of forms next
placed_within forms active next = placed_in forms (At active) next

-- the forms round the place of a tree that these forms are round
path_in : (forms : List Form) (run : Run) → path_of (run_in forms run) ≡ forms_round forms run
path_in [] run = refl
path_in (form ∷ forms) run = path_in forms (In form run)

pub path_within : (forms : List Form) (active : Active) → path_of (run_of forms active) ≡ forms
path_within forms active = path_in forms (At active)

-- frames with the active place are the whole tree
forms_framed : (forms : List Form) → forms_in (framed forms) ≡ forms
forms_framed [] = refl
forms_framed (form ∷ forms) = ap (λ these. form ∷ these) (forms_framed forms)

pub tree_within : (frames : List Frame) (forms : List Form) (active : Active) (run : Run)
    → frames ≡ reverse (framed forms) → run ≡ run_of forms active → run_of (forms_in (reverse frames)) (active_of run) ≡ run
tree_within frames forms active run e r =
    ap (λ these. run_of (forms_in (reverse these)) (active_of run)) e
    ∙ ap (λ these. run_of (forms_in these) (active_of run)) (reverse-reverse (framed forms))
    ∙ ap (λ these. run_of these (active_of run)) (forms_framed forms)
    ∙ ap (run_of forms) (ap active_of r ∙ active_within forms active)
    ∙ sym r

-- with a form round it nothing is at the root
rooted : (shell : Shell) (form : Form) (forms : List Form) (run : Run) → at_root shell (run_in forms (In form run)) ≡ run_in forms (In form run)
rooted shell form [] run = refl
rooted shell form (outer ∷ forms) run = rooted shell outer forms (In form run)

pub rooted_within : (shell : Shell) (forms : List Form) (active : Active) → 1 ≤ length (reverse (framed forms)) → at_root shell (run_of forms active) ≡ run_of forms active
rooted_within shell [] active h = absurd (omega (arith, h))
rooted_within shell (form ∷ forms) active h = rooted shell form forms (At active)

-- with none round it all is at the root
pub alone : (shell : Shell) (forms : List Form) (active rooted : Active) → length (reverse (framed forms)) < 1 → At rooted ≡ at_root shell (At active)
    → run_of forms rooted ≡ at_root shell (run_of forms active)
alone shell [] active rooted h e = e
alone shell (form ∷ forms) active rooted h e = absurd (omega (arith, length-reverse (framed (form ∷ forms)), h))

-- a turn goes outward form by form
turned_by_forms : (s : KernelState) (shell : Shell) (forms : List Form) (run : Run)
    → reduce s shell [] (run_in forms run)
    ≡ record { left = outward forms (reduce s shell forms run).left; child = (reduce s shell forms run).child }
turned_by_forms s shell [] run = refl
turned_by_forms s shell (form ∷ forms) run = turned_by_forms s shell forms (In form run)

-- a turn acts at the place, and settles all that then runs
pub turn_is : (s : KernelState) (shell : Shell) (forms : List Form) (active : Active)
    → reduce s shell [] (run_of forms active)
    ≡ record {
      left = at_action [] (act_at forms s shell active).left.machine (act_at forms s shell active).left.shell (run_in forms (act_at forms s shell active).left.run);
      child = inherited (is_failure_ignored forms) (act_at forms s shell active).child;
    }
turn_is s shell forms active =
    turned_by_forms s shell forms (At active)
    ∙ ap (λ (a : Acted). record { left = a; child = inherited (is_failure_ignored forms) (act_at forms s shell active).child })
    (sym (by_forms forms (act_at forms s shell active).left.machine (act_at forms s shell active).left.shell (act_at forms s shell active).left.run))

-- what is settled from what the action left is what the turn leaves
pub turn_leaves : (s : KernelState) (shell : Shell) (forms : List Form) (active : Active) (shell' : Shell) (run : Run)
    → shell' ≡ (act_at forms s shell active).left.shell → run ≡ run_in forms (act_at forms s shell active).left.run
    → at_action [] (act_at forms s shell active).left.machine shell' run ≡ (reduce s shell [] (run_of forms active)).left
turn_leaves s shell forms active shell' run e r =
    ap (λ z. at_action [] (act_at forms s shell active).left.machine z run) e
    ∙ ap (λ z. at_action [] (act_at forms s shell active).left.machine (act_at forms s shell active).left.shell z) r
    ∙ ap (λ (t : Turned). t.left) (sym (turn_is s shell forms active))

pub turn_makes : (s : KernelState) (shell : Shell) (forms : List Form) (active : Active)
    → inherited (is_failure_ignored forms) (act_at forms s shell active).child ≡ (reduce s shell [] (run_of forms active)).child
turn_makes s shell forms active = ap (λ (t : Turned). t.child) (sym (turn_is s shell forms active))

-- an action at the place, and what is settled from it, are a turn
pub turned : (s : KernelState) (shell : Shell) (forms : List Form) (active : Active)
    (kernel : KernelKept) (shell' later : Shell) (run ran : Run) (child : Option InterpreterState)
    → shell' ≡ (act_at forms s shell active).left.shell → run ≡ run_in forms (act_at forms s shell active).left.run → child ≡ inherited (is_failure_ignored forms) (act_at forms s shell active).child
    → IsActed kernel later ran (at_action [] (act_at forms s shell active).left.machine shell' run)
    → IsTurned kernel later ran child (reduce s shell [] (run_of forms active))
turned s shell forms active kernel shell' later run ran child e r made a =
    let left = turn_leaves s shell forms active shell' run e r in
    record {
      state = subst (λ (x : Acted). StandsAt kernel x.machine) left a.state;
      shell_is = a.shell_is ∙ ap (λ (x : Acted). x.shell) left;
      run = a.run ∙ ap (λ (x : Acted). x.run) left;
      child = made ∙ turn_makes s shell forms active;
    }

-- at the root what is left is the end of the process
at_its_root : (kernel : KernelKept) (shell : Shell) (ran rooted : Run) (child : Option InterpreterState) (t : Turned)
    → IsTurned kernel shell ran child t → rooted ≡ at_root shell ran → IsTurned kernel shell rooted child (with_root t)
at_its_root kernel shell ran rooted child t i e =
    record {
      state = i.state;
      shell_is = i.shell_is;
      run = e ∙ ap (λ this. at_root this ran) i.shell_is ∙ ap (at_root t.left.shell) i.run;
      child = i.child;
    }

-- a tree is its place with the forms round it
whole_in : (forms : List Form) (run : Run) → run_of (forms_round forms run) (active_of run) ≡ run_in forms run
whole_in forms (At active) = refl
whole_in forms (In form run) = whole_in (form ∷ forms) run

pub whole : (run : Run) → run_of (path_of run) (active_of run) ≡ run
whole run = whole_in [] run

-- what comes before the turn of a shell that stands at this place
drops_same : (s : KernelState) (shell : Shell) (forms : List Form) (active : Active)
    → drop_first s shell (path_of (run_of forms active)) (active_of (run_of forms active)) ≡ drop_first s shell forms active
drops_same s shell forms active =
    ap (λ these. drop_first s shell these (active_of (run_of forms active))) (path_within forms active)
    ∙ ap (drop_first s shell forms) (active_within forms active)

-- the turn of a shell that stands at this place
pub shell_turned : (s : KernelState) (interpreter : InterpreterState) (shell : Shell) (forms : List Form) (active : Active)
    (dropped : KernelKept) (between : Shell) (run : Run) (kernel : KernelKept) (later : Shell) (ran rooted : Run) (child : Option InterpreterState)
    → interpreter ≡ record { shell = shell; run = run_of forms active }
    → IsActed dropped between run (drop_first s shell forms active)
    → ((t : KernelState) → StandsAt dropped t → IsTurned kernel later ran child (reduce t between [] run)) → rooted ≡ at_root later ran
    → IsTurned kernel later rooted child (shell_turn s interpreter)
unfolding shell_turn
shell_turned s interpreter shell forms active dropped between run kernel later ran rooted child is a i e =
    let d = drop_first s shell forms active in
    let of_shell = subst (λ this. IsTurned kernel later ran child (reduce d.machine this [] run)) a.shell_is (i d.machine a.state) in
    let of_run = subst (λ this. IsTurned kernel later ran child (reduce d.machine d.shell [] this)) a.run of_shell in
    subst (λ (this : InterpreterState). IsTurned kernel later rooted child (shell_turn s this)) (sym is)
    (subst (λ this. IsTurned kernel later rooted child (turn_from this)) (sym (drops_same s shell forms active))
    (at_its_root kernel later ran rooted child (reduce d.machine d.shell [] d.run) of_run e))
