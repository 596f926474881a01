-- The actions of a shell that make a process: of a program, of a stage of a pipeline, of an asynchronous list, of a command substitution.
use Rattle.std.specs.Prelude.{◌≡◌, ℕ, List, [], ◌∷◌, ◌++◌, Bool, true, false, length, nat_eq, not, Option, Some, None, unwrap_or, if◌then◌else◌}
use Rattle.sh_builtin_shell.specs.Shells.{after_launch, forked_shell, has_job_control, is_interactive, last_of}
use Rattle.sh_builtin_shell.specs.declared.shell.Shell.{Shell}
use Rattle.sh_exec_parts.specs.Messages.{cannot_fork, launch_line}
use Rattle.sh_exec_actions.specs.Preparing.{fatal, ahead}
use Rattle.sh_exec_actions.specs.Statuses.{unexcused}
use Rattle.sh_exec_actions.specs.declared.action.Active.{Active}
use Rattle.sh_exec_actions.specs.declared.action.Active.TheVariants.{Done, Next}
use Rattle.sh_exec_actions.specs.declared.action.Move.{Move}
use Rattle.sh_exec_actions.specs.declared.action.Move.TheVariants as move
use Rattle.sh_expand.specs.Answers.{Pending}
use Rattle.sh_exec_actions.specs.declared.action.Action.TheVariants.{ReadSubstitution, ForkStage, Writing}
use Rattle.sh_exec_actions.specs.declared.action.ExpandedCommand.{ExpandedCommand}
use Rattle.sh_exec_actions.specs.declared.action.Finish.TheVariants.{Status}
use Rattle.sh_exec_actions.specs.declared.action.Launch.{Launch}
use Rattle.sh_exec_actions.specs.declared.action.Launch.TheVariants.{Foreground, Background}
use Rattle.sh_exec_actions.specs.declared.action.Stages.{Stages}
use Rattle.sh_exec_actions.specs.declared.action.Substitution.{Substitution}
use Rattle.sh_exec_actions.specs.declared.action.ToExpand.{ToExpand}
use Rattle.sh_exec_actions.specs.declared.action.ToExpand.TheVariants.{Words, Values, Redirects, ForWords, CaseWord, CasePattern}
use Rattle.sh_exec_machine.specs.Forking.{Laid, fork_of, null_laid}
use Rattle.sh_exec_turns.specs.Forms.{Acted, with_run}
use Rattle.sh_exec_turns.specs.Acting.{in_forms}
use Rattle.sh_exec_turns.specs.Groups.{behind_fork, released_fork}
use Rattle.sh_exec_actions.specs.declared.form.Form.{Form}
use Rattle.sh_exec_forms.specs.Bodies.{body_of, stage_run}
use Rattle.sh_exec_forms.specs.Entering.{and_or_run}
use Rattle.sh_exec_forms.specs.Moves.{move_run}
use Rattle.sh_exec_forms.specs.Stacks.{run_in}
use Rattle.sh_exec_forms.specs.Frames.{root_forms}
use Rattle.sh_exec_forms.specs.JobTexts.{job_text}
use Rattle.sh_exec_turns.specs.Waiting.{waiting}
use Rattle.sh_jobs.specs.Table.{free_number}
use Rattle.sh_exec_forms.specs.Running.{InterpreterState, Run, At}
use Rattle.sh_kernel.specs.State.{KernelKept, KernelState, StandsAt}
use Rattle.sh_syntax.specs.Text.{and_or_tokens}
use Rattle.sh_syntax.specs.Tokens.{text_of}
use Rattle.sh_syntax.specs.declared.tree.AndOr.{AndOr}
use Rattle.sh_syntax.specs.declared.tree.Command.{Command}
use Rattle.sh_syntax.specs.declared.tree.CompoundList.{CompoundList}

-- what a turn leaves, and what runs in the process that it made
pub record Turned : Type 0 where
  pub left : Acted
  pub child : Option InterpreterState

abbrev pub with_child : KernelState → Shell → Run → Option InterpreterState → Turned
with_child s shell run child = record { left = with_run s shell run; child = child }

-- the same inside the forms round its place
abbrev pub inside : List Form → Turned → Turned
inside forms t = record { left = in_forms forms t.left; child = t.child }

abbrev pub child_of : ℕ → Shell → Run → Option InterpreterState
child_of pid shell run = Some (record { shell = forked_shell pid shell; run = run })

-- where failures are ignored where it is made, they are ignored in it too (2.15, set -e)
abbrev pub in_process : (ignored : Bool) → Run → Run
in_process ignored run = run_in (root_forms ignored) run

abbrev pub inherited : (ignored : Bool) → Option InterpreterState → Option InterpreterState
inherited ignored None = None
inherited ignored (Some child) = Some (record child { run = in_process ignored child.run })

abbrev pub inheriting : (ignored : Bool) → Turned → Turned
inheriting ignored t = record t { child = inherited ignored t.child }

-- with job control the text of the job that a pipeline becomes when it is suspended is kept from its first process on
abbrev pub job_of : Shell → (around : List Form) → List Command → Option (List ℕ)
job_of shell around commands = if has_job_control shell then Some (job_text around commands) else None

-- ---- a program (2.9.1.6)
abbrev pub program_by : (around : List Form) → KernelState → Shell → ExpandedCommand → Option ℕ → Turned
program_by around s shell p (Some pid) =
    with_child s shell (At (waiting (pid ∷ []) (job_of shell around (p.undo.command ∷ [])))) (child_of pid shell (move_run (ahead p)))
program_by around s shell p None = with_child s shell (At (fatal cannot_fork)) None

unfoldable pub fork_turn : (around : List Form) → KernelState → Shell → ExpandedCommand → Turned
fork_turn around s shell p =
    let f = fork_of s shell.pid None false in program_by around (behind_fork shell true [] f.child f.after) shell p f.child

-- ---- a stage (2.9.2), or a subshell: once all have a process the shell waits for them; of an asynchronous list (2.9.3.1) it knows them
-- then, and goes on at once with 0
-- an interactive shell then writes the number of the job, and `$!` (2.9.3.1)
abbrev pub launched_by : (is_interactive : Bool) → (number : ℕ) → List ℕ → Active
launched_by true number children = Next (Writing (launch_line number (unwrap_or (last_of children) 0)) (Status 0))
launched_by false number children = Done (unexcused 0)

abbrev pub launched : Shell → List ℕ → Active
launched shell children = launched_by (is_interactive shell) (free_number shell.jobs) children

abbrev pub made_place : Shell → Launch → List ℕ → Active
made_place shell (Foreground job) children = waiting children job
made_place shell (Background list) children = launched shell children

-- the text of an asynchronous list is that of its job (XCU jobs)
abbrev pub with_job : KernelState → Shell → AndOr → List ℕ → Shell
with_job s shell list children = after_launch s shell (text_of (and_or_tokens list)) children

abbrev pub made_shell : KernelState → Launch → Shell → List ℕ → Shell
made_shell s (Foreground job) shell children = shell
made_shell s (Background list) shell children = with_job s shell list children

abbrev pub stage_place : Shell → Launch → List Command → Option ℕ → List ℕ → Active
stage_place shell launch [] aside children = made_place shell launch children
stage_place shell launch (command ∷ commands) aside children =
    Next (ForkStage (record { commands = command ∷ commands; aside = aside; children = children; launch = launch }))

abbrev pub stage_shell : KernelState → Launch → List Command → Shell → List ℕ → Shell
stage_shell s launch [] shell children = made_shell s launch shell children
stage_shell s launch (command ∷ commands) shell children = shell

-- without job control the first process of an asynchronous list has nothing to read
abbrev pub background_input : (control : Bool) → KernelState → Shell → Laid
background_input true s shell = record { aside = None; after = s }
background_input false s shell = null_laid shell.vars.directory s shell.pid

-- a further one reads from the pipe before it
abbrev pub stage_input : Launch → (before : List ℕ) → (aside : Option ℕ) → Shell → KernelState → Laid
stage_input (Foreground job) before aside shell s = record { aside = aside; after = s }
stage_input (Background list) [] aside shell s = background_input (has_job_control shell) s shell
stage_input (Background list) (child ∷ children) aside shell s = record { aside = aside; after = s }

abbrev pub is_foreground : Launch → Bool
is_foreground (Foreground job) = true
is_foreground (Background list) = false

abbrev pub is_more : List Command → Bool
is_more commands = not (nat_eq (length commands) 0)

-- stages: those behind the one of this command
abbrev pub stage_by : KernelState → Shell → Command → Stages → Option ℕ → Turned
stage_by s shell command stages (Some pid) =
    let children = stages.children ++ pid ∷ [] in
    with_child s (stage_shell s stages.launch stages.commands shell children)
    (At (stage_place shell stages.launch stages.commands stages.aside children)) (child_of pid shell (stage_run command))
stage_by s shell command stages None = with_child s shell (At (fatal cannot_fork)) None

unfoldable pub stage_one : KernelState → Shell → Command → Stages → Turned
stage_one s shell command stages =
    let l = stage_input stages.launch stages.children stages.aside shell s in
    let f = fork_of l.after shell.pid l.aside (is_more stages.commands) in
    stage_by (behind_fork shell (is_foreground stages.launch) stages.children f.child f.after) shell command (record stages { aside = f.aside }) f.child

-- a pipeline has a command, so this doesn't come
abbrev pub place_of_none : Launch → List ℕ → Active
place_of_none (Foreground job) children = waiting children job
place_of_none (Background list) children = Done (unexcused 0)

abbrev pub stage_from : KernelState → Shell → Stages → List Command → Turned
stage_from s shell stages [] = with_child s shell (At (place_of_none stages.launch stages.children)) None
stage_from s shell stages (command ∷ commands) = stage_one s shell command (record stages { commands = commands })

-- the first process comes with the text
abbrev pub launch_by : (around : List Form) → Shell → List Command → (before : List ℕ) → Launch → Launch
launch_by around shell commands [] (Foreground job) = Foreground (job_of shell around commands)
launch_by around shell commands [] (Background list) = Background list
launch_by around shell commands (child ∷ children) launch = launch

unfoldable pub stage_turn : (around : List Form) → KernelState → Shell → Stages → Turned
stage_turn around s shell stages =
    stage_from s shell (record stages { launch = launch_by around shell stages.commands stages.children stages.launch }) stages.commands

-- ---- an asynchronous list (2.9.3.1) that has one process
abbrev pub list_by : KernelState → Shell → AndOr → Option ℕ → Turned
list_by s shell list (Some pid) =
    with_child s (with_job s shell list (pid ∷ [])) (At (launched shell (pid ∷ []))) (child_of pid shell (and_or_run list))
list_by s shell list None = with_child s shell (At (fatal cannot_fork)) None

unfoldable pub list_turn : KernelState → Shell → AndOr → Turned
list_turn s shell list =
    let l = background_input (has_job_control shell) s shell in
    let f = fork_of l.after shell.pid l.aside false in list_by (behind_fork shell false [] f.child f.after) shell list f.child

-- ---- a command substitution (2.6.3)
-- where it can't have a process, what the command changed is undone after the message
abbrev pub fork_failure : ToExpand → Move
fork_failure (Values p) = move.Held p.undo (fatal cannot_fork)
fork_failure _ = move.At (fatal cannot_fork)

abbrev pub substitution_by : KernelState → Shell → CompoundList → Substitution → Option ℕ → Turned
substitution_by s shell program substitution (Some pid) =
    with_child s shell (At (Next (ReadSubstitution (record substitution { children = pid ∷ [] })))) (child_of pid shell (body_of program))
substitution_by s shell program substitution None = with_child s shell (move_run (fork_failure substitution.wants)) None

-- nothing is read yet
abbrev pub begun_substitution : ToExpand → Pending → Option ℕ → Substitution
begun_substitution wants pending aside = record { wants = wants; pending = pending; written = []; aside = aside; children = [] }

unfoldable pub substitute_turn : KernelState → Shell → CompoundList → ToExpand → Pending → Turned
substitute_turn s shell program wants pending =
    let f = released_fork shell (fork_of s shell.pid None true) in substitution_by f.after shell program (begun_substitution wants pending f.aside) f.child

-- the kernel and the shell are what a turn leaves, and this is what the process runs that was made
pub record IsTurned (kernel : KernelKept) (shell : Shell) (ran : Run) (made : Option InterpreterState) (t : Turned) : Type 0 where
  pub state : StandsAt kernel t.left.machine
  pub shell_is : shell ≡ t.left.shell
  pub run : ran ≡ t.left.run
  pub child : made ≡ t.child
