-- Names and numbers of signals name them.
use Rattle.std.proofs.Common.{refl}
use Rattle.sh_builtin_jobs.specs.Laws.{NamesAreTaken, StatusesAreRead}
use Rattle.sh_signal.specs.declared.signal.Signal.TheVariants.{Hangup, Interrupt, Quit, Abort, Kill, User1, User2, Pipe, Alarm, Terminate, Child, Continue, Stop, TerminalStop, TerminalInput, TerminalOutput}

pub names_are_taken : NamesAreTaken
names_are_taken word Hangup = (refl, refl)
names_are_taken word Interrupt = (refl, refl)
names_are_taken word Quit = (refl, refl)
names_are_taken word Abort = (refl, refl)
names_are_taken word Kill = (refl, refl)
names_are_taken word User1 = (refl, refl)
names_are_taken word User2 = (refl, refl)
names_are_taken word Pipe = (refl, refl)
names_are_taken word Alarm = (refl, refl)
names_are_taken word Terminate = (refl, refl)
names_are_taken word Child = (refl, refl)
names_are_taken word Continue = (refl, refl)
names_are_taken word Stop = (refl, refl)
names_are_taken word TerminalStop = (refl, refl)
names_are_taken word TerminalInput = (refl, refl)
names_are_taken word TerminalOutput = (refl, refl)

pub statuses_are_read : StatusesAreRead
statuses_are_read Hangup = (refl, refl)
statuses_are_read Interrupt = (refl, refl)
statuses_are_read Quit = (refl, refl)
statuses_are_read Abort = (refl, refl)
statuses_are_read Kill = (refl, refl)
statuses_are_read User1 = (refl, refl)
statuses_are_read User2 = (refl, refl)
statuses_are_read Pipe = (refl, refl)
statuses_are_read Alarm = (refl, refl)
statuses_are_read Terminate = (refl, refl)
statuses_are_read Child = (refl, refl)
statuses_are_read Continue = (refl, refl)
statuses_are_read Stop = (refl, refl)
statuses_are_read TerminalStop = (refl, refl)
statuses_are_read TerminalInput = (refl, refl)
statuses_are_read TerminalOutput = (refl, refl)
