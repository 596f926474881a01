-- What a built-in asks of the kernel, and what it has left to do behind the answer.
use Rattle.sh_builtin_outcome.specs.declared.builtin.Builtin.{Builtin}
use Rattle.sh_builtin_outcome.specs.declared.builtin.Builtin.TheVariants as builtin
use Rattle.sh_builtin_outcome.specs.declared.rest.Ask.{Ask}
use Rattle.sh_builtin_outcome.specs.declared.rest.Ask.TheVariants as ask
use Rattle.sh_builtin_outcome.specs.declared.rest.BuiltinRest.{BuiltinRest}
use Rattle.sh_builtin_outcome.specs.declared.rest.BuiltinRest.TheVariants.{Reads, Waits, Kills, Continues}
use Rattle.sh_builtin_outcome.specs.declared.rest.Continuation.{Continuation}
use Rattle.sh_builtin_outcome.specs.declared.rest.Continuation.TheVariants.{Background, Foreground}

-- what is asked
abbrev pub ask_of : BuiltinRest → Ask
ask_of (Reads reader) = ask.Read
ask_of (Waits awaited) = ask.Wait
ask_of (Kills kill) = ask.Signal
ask_of (Continues continuation) = ask.Continue

-- the built-in that asks
abbrev pub continuing_of : Continuation → Builtin
continuing_of (Background jobs messages status) = builtin.Bg
continuing_of (Foreground job) = builtin.Fg

abbrev pub asker_of : BuiltinRest → Builtin
asker_of (Reads reader) = builtin.Read
asker_of (Waits awaited) = builtin.Wait
asker_of (Kills kill) = builtin.Kill
asker_of (Continues continuation) = continuing_of continuation
