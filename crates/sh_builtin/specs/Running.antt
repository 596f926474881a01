-- What each built-in does with its arguments.
use Rattle.std.specs.Prelude.{ℕ, List, [], ◌∷◌, ◌++◌, Bool, true, false, not, Option, Some, None, Result, Ok, Err, codes, nat_le, if◌then◌else◌}
use Rattle.std.specs.List.{join_with_byte}
use Rattle.sh_builtin.specs.Aliases.{AliasesRan, alias_ran, unalias_ran}
use Rattle.sh_builtin.specs.Commands.{command_outcome}
use Rattle.sh_builtin_shell.specs.Functions.{unset_by}
use Rattle.sh_builtin.specs.Loops.{leave_with, loop_with, operands_of}
use Rattle.sh_builtin_asking.specs.BuiltIns.{BuiltIn, bg_ran, fg_ran, kill_ran, read_outcome, wait_ran, with_outcome, with_vars}
use Rattle.sh_builtin_outcome.specs.Outcomes.{done, misuse, outcome_of, output, refusal, running, saying, with_signals}
use Rattle.sh_builtin_outcome.specs.declared.builtin.Builtin.{Builtin}
use Rattle.sh_builtin_outcome.specs.declared.builtin.Builtin.TheVariants.{Alias, Bg, Bracket, Break, Cd, Colon, Command, Continue, Dot, Echo, Eval, Exec, Exit, Export, False, Fg, Jobs, Kill, Pwd, Read, ReadOnly, Return, Set, Shift, Test, Trap, True, Unalias, Unset, Wait}
use Rattle.sh_builtin_outcome.specs.declared.outcome.Leave.TheVariants as leave
use Rattle.sh_builtin_outcome.specs.declared.outcome.Outcome.{Outcome}
use Rattle.sh_builtin_outcome.specs.declared.outcome.TextOrigin.TheVariants as origin
use Rattle.sh_builtin_shell.specs.declared.shell.Shell.{Shell}
use Rattle.sh_builtin_environment.specs.Directories.{cd_ran, pwd_outcome}
use Rattle.sh_builtin_environment.specs.Marking.{mark_ran}
use Rattle.sh_builtin_environment.specs.Options.{Parsed, options_and_operands}
use Rattle.sh_builtin_environment.specs.Outcomes.{Ran}
use Rattle.sh_builtin_environment.specs.Setting.{set_ran}
use Rattle.sh_builtin_environment.specs.Shifting.{shift_ran}
use Rattle.sh_builtin_environment.specs.Trapping.{Trapped, trap_ran}
use Rattle.sh_builtin_environment.specs.Unsetting.{functions_to_unset, unset_ran}
use Rattle.sh_builtin_environment.specs.declared.attribute.Attribute.TheVariants as attribute
use Rattle.sh_builtin_environment.specs.declared.outcome.BuiltinFault.{BuiltinFault}
use Rattle.sh_builtin_environment.specs.declared.outcome.BuiltinFault.TheVariants as fault
use Rattle.sh_builtin_jobs.specs.Listing.{after_listing, job_lines, jobs_listed, jobs_of}
use Rattle.sh_builtin_jobs.specs.declared.listing.JobsCommand.{JobsCommand}
use Rattle.sh_builtin_jobs.specs.declared.listing.JobsNamed.{JobsNamed}
use Rattle.sh_builtin_regular.specs.Brackets.{bracket_operands}
use Rattle.sh_builtin_regular.specs.Conditional.{verdict_of}
use Rattle.sh_builtin_regular.specs.declared.conditional.Verdict.{Verdict}
use Rattle.sh_builtin_regular.specs.declared.conditional.Verdict.TheVariants as verdict
use Rattle.sh_builtin_regular.specs.Operands.{reader_of}
use Rattle.sh_builtin_shell.specs.Shells.{is_interactive, up_to_date}
use Rattle.sh_files.specs.Nodes.{FileMap}
use Rattle.sh_files.specs.Search.{dot_script}
use Rattle.sh_kernel.specs.State.{KernelState}
use Rattle.sh_kernel_descriptors.specs.Machine.{MachineState}
use Rattle.sh_kernel_descriptors.specs.Terminals.{is_terminal}
use Rattle.sh_kernel_descriptors.specs.declared.descriptor.DescriptorRef.TheVariants.{Number}
use Rattle.sh_kernel_processes.specs.Sets.{no_signals, with_signal}
use Rattle.sh_kernel_processes.specs.declared.set.SignalSet.{SignalSet}
use Rattle.sh_signal.specs.declared.signal.Signal.TheVariants.{TerminalStop, TerminalInput, TerminalOutput}
use Rattle.sh_vars.specs.Environment.{Environment, value_of}

-- of what a built-in leaves that acts on the variables
abbrev pub ran : Builtin → Shell → Ran → BuiltIn
ran builtin shell r = with_outcome (with_vars shell r.environment) (outcome_of builtin r.outcome)

-- set may switch job control: then an interactive shell does other things with the signals by which the terminal would stop it (2.11)
abbrev pub stop_signals : SignalSet
stop_signals = with_signal (with_signal (with_signal no_signals TerminalStop) TerminalInput) TerminalOutput

abbrev pub switched_signals : Shell → SignalSet
switched_signals shell = if is_interactive shell then stop_signals else no_signals

abbrev pub option_set : Shell → Ran → BuiltIn
option_set shell r = with_outcome (with_vars shell r.environment) (with_signals (outcome_of Set r.outcome) (switched_signals shell))

-- of what trap leaves
abbrev pub trapped : Shell → Trapped → BuiltIn
trapped shell t = with_outcome (record shell { traps = t.left.traps }) (with_signals (outcome_of Trap t.outcome) t.left.signals)

-- of what alias and unalias leave
abbrev pub aliased : Shell → AliasesRan → BuiltIn
aliased shell r = with_outcome (record shell { aliases = r.aliases }) r.outcome

-- ---- unset -f removes functions
abbrev pub without_functions : Shell → List (List ℕ) → Shell
without_functions shell arguments = record shell { functions = unset_by shell.functions (functions_to_unset arguments) }

-- ---- echo writes its arguments with a space between them, and a newline; eval runs them, with a space between them, as a text
abbrev pub joined : List (List ℕ) → List ℕ
joined arguments = join_with_byte 32 arguments

abbrev pub echo_outcome : List (List ℕ) → Outcome
echo_outcome arguments = output (joined arguments ++ 10 ∷ [])

abbrev pub eval_outcome : List (List ℕ) → Outcome
eval_outcome arguments = running origin.Eval (joined arguments)

-- ---- `.` runs the text of the file that its one operand leads to (2.15 dot)
abbrev pub dot_by : List ℕ → Option (List ℕ) → Outcome
dot_by name None = refusal Dot (fault.CannotOpen name)
dot_by name (Some text) = running origin.DotScript text

abbrev pub dot_named : FileMap → Environment → List ℕ → Outcome
dot_named files env name = dot_by name (dot_script files env.directory (value_of env (codes "PATH")) name)

abbrev pub dot_with : FileMap → Environment → List (List ℕ) → Outcome
dot_with files env [] = misuse Dot
dot_with files env (name ∷ []) = dot_named files env name
dot_with files env (name ∷ next ∷ others) = misuse Dot

abbrev pub dot_outcome : FileMap → Environment → Option Parsed → Outcome
dot_outcome files env None = misuse Dot
dot_outcome files env (Some parsed) = dot_with files env parsed.1

-- ---- jobs writes the lines of the jobs that its operands name, or of all; that tells their states, and what is done is forgotten (XCU jobs)
abbrev pub listed : KernelState → Shell → JobsCommand → JobsNamed → BuiltIn
listed s shell command named = with_outcome
    (record shell { jobs = after_listing s.machine.processes shell.jobs command.form named.numbers })
    (saying (job_lines s.machine.processes shell.jobs command.form named.numbers) named.messages named.status)

abbrev pub jobs_ran : KernelState → Shell → Result JobsCommand BuiltinFault → BuiltIn
jobs_ran s shell (Ok command) = listed s shell command (jobs_listed s.machine.processes shell.jobs command.ids)
jobs_ran s shell (Err why) = with_outcome shell (refusal Jobs why)

-- ---- test: 0 where the condition holds, else 1; descriptors go from 0 to 31
abbrev pub truth : Bool → ℕ
truth true = 0
truth false = 1

abbrev pub terminal_at : MachineState → ℕ → ℕ → Bool
terminal_at machine pid descriptor = if nat_le descriptor 255 then is_terminal machine pid (Number descriptor) else false

abbrev pub inverted_by : Bool → Bool → Bool
inverted_by false holds = holds
inverted_by true holds = not holds

abbrev pub verdict_outcome : MachineState → ℕ → Builtin → Verdict → Outcome
verdict_outcome machine pid builtin (verdict.Is holds) = done (truth holds)
verdict_outcome machine pid builtin (verdict.Terminal descriptor inverted) =
    done (truth (inverted_by inverted (terminal_at machine pid descriptor)))
verdict_outcome machine pid builtin verdict.Usage = misuse builtin

-- by one of its two names
unfoldable pub test_outcome : MachineState → Shell → Builtin → List (List ℕ) → Outcome
test_outcome machine shell builtin arguments =
    verdict_outcome machine shell.pid builtin (verdict_of machine.files shell.vars.directory arguments)

-- `[` needs `]` after its operands
abbrev pub bracket_outcome : MachineState → Shell → Option (List (List ℕ)) → Outcome
bracket_outcome machine shell None = misuse Bracket
bracket_outcome machine shell (Some operands) = test_outcome machine shell Bracket operands

-- ---- a built-in with its arguments, in a shell's process on this machine; `last` is the status with which exit and return leave where
-- they have no operand; exec comes here with wrong options alone, and command where it runs no other command
unfoldable pub built_in : KernelState → Shell → (last : ℕ) → Builtin → List (List ℕ) → BuiltIn
built_in s shell last Alias arguments = aliased shell (alias_ran shell.aliases (options_and_operands [] arguments))
built_in s shell last Bg arguments = bg_ran s (up_to_date s shell) arguments
built_in s shell last Bracket arguments = with_outcome shell (bracket_outcome s.machine shell (bracket_operands arguments))
built_in s shell last Break arguments = with_outcome shell (loop_with Break leave.Break (operands_of arguments))
built_in s shell last Cd arguments = ran Cd shell (cd_ran s.machine.files shell.vars arguments)
built_in s shell last Colon arguments = with_outcome shell (done 0)
built_in s shell last Command arguments = with_outcome shell (command_outcome s.machine.files shell (options_and_operands (codes "v") arguments))
built_in s shell last Continue arguments = with_outcome shell (loop_with Continue leave.Continue (operands_of arguments))
built_in s shell last Dot arguments = with_outcome shell (dot_outcome s.machine.files shell.vars (options_and_operands [] arguments))
built_in s shell last Echo arguments = with_outcome shell (echo_outcome arguments)
built_in s shell last Eval arguments = with_outcome shell (eval_outcome arguments)
built_in s shell last Exec arguments = with_outcome shell (misuse Exec)
built_in s shell last Exit arguments = with_outcome shell (leave_with Exit leave.Exit last (operands_of arguments))
built_in s shell last Export arguments = ran Export shell (mark_ran attribute.Export shell.vars arguments)
built_in s shell last False arguments = with_outcome shell (done 1)
built_in s shell last Fg arguments = fg_ran s (up_to_date s shell) arguments
built_in s shell last Jobs arguments = jobs_ran s (up_to_date s shell) (jobs_of arguments)
built_in s shell last Kill arguments = kill_ran s (up_to_date s shell) arguments
built_in s shell last Pwd arguments = with_outcome shell (outcome_of Pwd (pwd_outcome shell.vars arguments))
built_in s shell last Read arguments = with_outcome shell (read_outcome (reader_of arguments))
built_in s shell last ReadOnly arguments = ran ReadOnly shell (mark_ran attribute.ReadOnly shell.vars arguments)
built_in s shell last Return arguments = with_outcome shell (leave_with Return leave.Return last (operands_of arguments))
built_in s shell last Set arguments = option_set shell (set_ran shell.vars arguments)
built_in s shell last Shift arguments = ran Shift shell (shift_ran shell.vars arguments)
built_in s shell last Test arguments = with_outcome shell (test_outcome s.machine shell Test arguments)
built_in s shell last Trap arguments = trapped shell (trap_ran shell.fixed shell.traps arguments)
built_in s shell last True arguments = with_outcome shell (done 0)
built_in s shell last Unalias arguments = aliased shell (unalias_ran shell.aliases (options_and_operands (codes "a") arguments))
built_in s shell last Unset arguments = ran Unset (without_functions shell arguments) (unset_ran shell.vars arguments)
built_in s shell last Wait arguments = wait_ran s (up_to_date s shell) arguments
