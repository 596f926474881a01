-- After each list of events every process stands before an action.
use Rattle.std.proofs.Common.{◌≡◌, ℕ, List, [], ◌∷◌, true, false, Option, Some, None, refl}
use Rattle.std.specs.List.{filter}
use Rattle.std.specs.Prelude.{codes, cond, length, nat_eq, nat_le, ◌&&◌}
use Rattle.sh_exec.specs.Tasks.{first_pid, first_place, pid_of}
use Rattle.sh_exec.specs.Turns.{turn}
use Rattle.sh_exec.specs.TurnActions.{turn_action_at, turn_action_for, turn_action_in, turn_action_of}
use Rattle.sh_exec.specs.declared.turn_action.TurnAction.{TurnAction}
use Rattle.sh_exec_actions.specs.declared.action.Action.TheVariants.{Reading}
use Rattle.sh_exec_actions.specs.declared.action.Active.{Active}
use Rattle.sh_exec_actions.specs.declared.action.Active.TheVariants.{Acting, Calling, Evaluating, Next, Done, Leaving}
use Rattle.sh_exec_forms.specs.Running.{active_of}
use Rattle.sh_files.specs.Nodes.{FileMap, node_of_path}
use Rattle.sh_files_image.specs.declared.node.Node.{Node}
use Rattle.sh_files_image.specs.declared.node.Node.TheVariants.{Directory, File, Null, Terminal}
use Rattle.sh_kernel.specs.State.{KernelState}
use Rattle.sh_laws.proofs.CommandTurns.{choose}
use Rattle.sh_laws.proofs.ProcessTurns.{task_next, turn_stands}
use Rattle.sh_laws.specs.BeforeAction.{AreBeforeActions, HaveActions, IsBeforeAction, IsNext, MadeStands, PlaceHolds, TasksStand}
use Rattle.sh_stock.specs.Asking.{Meaning}
use Rattle.sh_exec.specs.Choice.{choice}
use Rattle.sh_exec.specs.Scripts.{place_by, script_place, unreadable}
use Rattle.sh_exec.specs.State.{State, chosen_turn, run, runnables, start, step, turn_of, typed, with_key}
use Rattle.sh_exec.specs.declared.event.Event.TheVariants as event
use Rattle.sh_kernel.specs.Calls.{after_key}
use Rattle.sh_kernel_processes.specs.Processes.{lives}
use Rattle.sh_exec.specs.Processes.{TasksTurned, behind, is_living, turn_among, turned_first, with_child}
use Rattle.sh_exec.specs.declared.event.Event.{Event}
use Rattle.sh_exec.specs.declared.settings.Settings.{Settings}
use Rattle.sh_exec.specs.declared.settings.Source.{Source}
use Rattle.sh_exec.specs.declared.settings.Source.TheVariants.{Text, Script}
use Rattle.sh_exec.specs.declared.settings.Source.TheVariants as origin
use Rattle.sh_exec.specs.declared.task.Task.{Task}
use Rattle.sh_exec.specs.declared.task.Task.TheVariants.{Runs, Asks}

-- ---- the first shell
place_holds : (path : List ℕ) (o : Option Node) → PlaceHolds (place_by path o)
place_holds path None = tt
place_holds path (Some Directory) = tt
place_holds path (Some (File file)) =
    choose PlaceHolds (file.flags.read && nat_le (length file.bytes) 16777216) (Reading file.bytes 0) (unreadable path) (λ e. tt) (λ e. tt)
place_holds path (Some Null) = tt
place_holds path (Some Terminal) = tt

first_holds : (image : FileMap) (source : Source) → PlaceHolds (first_place image source)
unfolding script_place
first_holds image (Text bytes) = tt
first_holds image (Script path) = place_holds path (node_of_path image (codes "/") path)
first_holds image origin.Terminal = tt

pub start_stands : (S : Type 0) (image : FileMap) (settings : Settings) → TasksStand (start {S = S} image settings).tasks
start_stands S image settings = ((first_holds image settings.source, tt), tt)

-- ---- an event
module _ {S : Type 0} (m : Meaning S) where
  abbrev TurnedStand : TasksTurned S → Type 0
  TurnedStand t = TasksStand t.tasks × MadeStands t.child

  among_stand : (s : KernelState) (pid : ℕ) (tasks : List (Task S)) → TasksStand tasks → TurnedStand (turn_among m s pid tasks)
  among_stand s pid [] h = (tt, tt)
  among_stand s pid (task ∷ tasks) h =
      let first = turn_stands m s task h.0 in
      let others = among_stand s pid tasks h.1 in
      choose TurnedStand (nat_eq (pid_of task) pid) (turned_first tasks (turn m s task)) (behind task (turn_among m s pid tasks))
      (λ e. ((first.0, h.1), first.1)) (λ e. ((h.0, others.0), others.1))

  with_child_stand : (tasks : List (Task S)) (child : Option (Task S)) → TasksStand tasks → MadeStands child → TasksStand (with_child tasks child)
  with_child_stand tasks None h c = h
  with_child_stand [] (Some child) h c = (c, tt)
  with_child_stand (task ∷ tasks) (Some child) h c = (h.0, with_child_stand tasks (Some child) h.1 c)

  living_stand : (s : KernelState) (tasks : List (Task S)) → TasksStand tasks → TasksStand (filter (is_living s) tasks)
  living_stand s [] h = tt
  living_stand s (task ∷ tasks) h =
      let others = living_stand s tasks h.1 in
      elim (is_living s task) as (λ b. TasksStand (cond b (task ∷ filter (is_living s) tasks) (filter (is_living s) tasks))) [ true ↦ (h.0, others) | false ↦ others ]

  turned_stand : (s : State S) (o : Option ℕ) → TasksStand s.tasks → TasksStand (turn_of m s o).tasks
  turned_stand s None h = h
  turned_stand s (Some pid) h =
      let t = turn_among m s.machine pid s.tasks in
      let stand = among_stand s.machine pid s.tasks h in
      living_stand t.machine (with_child t.tasks t.child) (with_child_stand t.tasks t.child stand.0 stand.1)

  chosen_stand : (s : State S) (event : Event) → TasksStand s.tasks → TasksStand (chosen_turn m s event).tasks
  chosen_stand s event h = turned_stand s (choice event s.last (runnables s)) h

  typed_stand : (s : State S) (byte : ℕ) → TasksStand s.tasks → TasksStand (typed s byte).tasks
  typed_stand s byte h =
      choose (λ (t : State S). TasksStand t.tasks) (lives s.machine.machine.processes first_pid) (with_key s byte) s
      (λ e. living_stand (after_key s.machine byte) s.tasks h) (λ e. h)

  step_stand : (s : State S) (event : Event) → TasksStand s.tasks → TasksStand (step m s event).tasks
  step_stand s (event.Run place) h = chosen_stand s (event.Run place) h
  step_stand s event.Next h = chosen_stand s event.Next h
  step_stand s (event.Key byte) h = typed_stand s byte h

  pub run_stands : (s : State S) (events : List Event) → TasksStand s.tasks → TasksStand (run m s events).tasks
  run_stands s [] h = h
  run_stands s (event ∷ events) h = run_stands (step m s event) events (step_stand s event h)

  tasks_next : (tasks : List (Task S)) → TasksStand tasks → AreBeforeActions tasks
  tasks_next [] h = tt
  tasks_next (task ∷ tasks) h = (task_next task h.0, tasks_next tasks h.1)

  pub runs_next : (image : FileMap) (settings : Settings) (events : List Event) → AreBeforeActions (run m (start image settings) events).tasks
  runs_next image settings events = tasks_next (run m (start image settings) events).tasks (run_stands (start image settings) events (start_stands S image settings))

-- ---- what a process that stands before an action does can be told
has_next : (active : Active) → IsNext active → (action : TurnAction) × (turn_action_in active ≡ Some action)
has_next (Next place) h = (turn_action_at place, refl)
has_next (Acting invocation fields) h = absurd h
has_next (Calling body fields) h = absurd h
has_next (Evaluating how text) h = absurd h
has_next (Done status) h = absurd h
has_next (Leaving leave) h = absurd h

has_action : {S : Type 0} (task : Task S) → IsBeforeAction task → (action : TurnAction) × (turn_action_of task ≡ Some action)
has_action (Runs interpreter) h = has_next (active_of interpreter.run) h
has_action (Asks pid ask program) h = (turn_action_for ask, refl)

pub have_actions : {S : Type 0} (tasks : List (Task S)) → AreBeforeActions tasks → HaveActions tasks
have_actions [] h = tt
have_actions (task ∷ tasks) h = (has_action task h.0, have_actions tasks h.1)
