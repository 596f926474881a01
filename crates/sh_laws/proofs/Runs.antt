-- Events and runs as requests and keys.
use Rattle.std.proofs.Common.{◌≡◌, ℕ, List, [], ◌∷◌, ◌++◌, true, false, Option, Some, None, refl, sym, ap, ◌∙◌}
use Rattle.std.specs.Prelude.{nat_eq, if◌then◌else◌}
use Rattle.sh_exec.specs.Tasks.{first_pid, pid_of}
use Rattle.sh_exec.specs.Turns.{turn}
use Rattle.sh_kernel.specs.Calls.{after_key}
use Rattle.sh_kernel.specs.Requests.{Request, after_request}
use Rattle.sh_kernel.specs.State.{KernelState}
use Rattle.sh_kernel_processes.specs.Processes.{lives}
use Rattle.sh_stock.specs.Asking.{Meaning}
use Rattle.sh_exec.specs.Choice.{choice}
use Rattle.sh_exec.specs.State.{State, chosen_turn, run, runnables, step, turn_of, typed, with_key}
use Rattle.sh_exec.specs.declared.event.Event.TheVariants.{Run, Next, Key}
use Rattle.sh_exec.specs.Processes.{behind, turn_among, turned_first}
use Rattle.sh_exec.specs.declared.event.Event.{Event}
use Rattle.sh_exec.specs.declared.task.Task.{Task}
use Rattle.sh_laws.specs.Requests.{Asked, Change, ComesByChanges, Pressed, after_all, after_change, after_changes}
use Rattle.sh_laws.proofs.Lists.{turns}

changes-append : (s : KernelState) (cs ds : List Change) → after_changes s (cs ++ ds) ≡ after_changes (after_changes s cs) ds
changes-append s [] ds = refl
changes-append s (c ∷ cs) ds = changes-append (after_change s c) cs ds

asked : List (ℕ × Request) → List Change
asked [] = []
asked (r ∷ rs) = Asked r.0 r.1 ∷ asked rs

all_asked : (s : KernelState) (rs : List (ℕ × Request)) → after_all s rs ≡ after_changes s (asked rs)
unfolding asked
all_asked s [] = refl
all_asked s (r ∷ rs) = all_asked (after_request s r.0 r.1) rs

module _ {S : Type 0} (m : Meaning S) (first : KernelState) where
  abbrev Comes : KernelState → Type 0
  Comes = ComesByChanges first

  -- what changes the kernel comes behind all that changed it before
  more_comes : (s t : KernelState) (cs : List Change) → t ≡ after_changes s cs → Comes s → Comes t
  more_comes s t cs is c = (c.0 ++ cs, is ∙ ap (λ (u : KernelState). after_changes u cs) c.1 ∙ sym (changes-append first c.0 cs))

  turn_comes : (s : KernelState) (task : Task S) → Comes s → Comes (turn m s task).machine
  turn_comes s task c =
      let more = turns m s task in more_comes s (turn m s task).machine (asked more.0) (more.1.1 ∙ all_asked s more.0) c

  among_comes : (s : KernelState) (pid : ℕ) (tasks : List (Task S)) → Comes s → Comes (turn_among m s pid tasks).machine
  among_comes s pid [] c = c
  among_comes s pid (task ∷ tasks) c =
      elim (nat_eq (pid_of task) pid) as (λ b. Comes (if b then turned_first tasks (turn m s task) else behind task (turn_among m s pid tasks)).machine) [
        | true ↦ turn_comes s task c
        | false ↦ among_comes s pid tasks c
      ]

  turned_comes : (s : State S) (o : Option ℕ) → Comes s.machine → Comes (turn_of m s o).machine
  turned_comes s None c = c
  turned_comes s (Some pid) c = among_comes s.machine pid s.tasks c

  chosen_comes : (s : State S) (event : Event) → Comes s.machine → Comes (chosen_turn m s event).machine
  chosen_comes s event c = turned_comes s (choice event s.last (runnables s)) c

  typed_comes : (s : State S) (byte : ℕ) → Comes s.machine → Comes (typed s byte).machine
  typed_comes s byte c =
      elim (lives s.machine.machine.processes first_pid) as (λ b. Comes (if b then with_key s byte else s).machine) [
        | true ↦ more_comes s.machine (after_key s.machine byte) (Pressed byte ∷ []) refl c
        | false ↦ c
      ]

  step_comes : (s : State S) (event : Event) → Comes s.machine → Comes (step m s event).machine
  step_comes s (Run place) c = chosen_comes s (Run place) c
  step_comes s Next c = chosen_comes s Next c
  step_comes s (Key byte) c = typed_comes s byte c

  run_comes : (s : State S) (events : List Event) → Comes s.machine → Comes (run m s events).machine
  run_comes s [] c = c
  run_comes s (event ∷ events) c = run_comes (step m s event) events (step_comes s event c)

pub runs : {S : Type 0} (m : Meaning S) (s : State S) (events : List Event) → ComesByChanges s.machine (run m s events).machine
runs m s events = run_comes m s.machine s events ([], refl)
