-- How commands end, and the exit statuses that a shell itself gives (XCU 2.8.1, 2.8.2).
use Rattle.std.specs.Prelude.{ℕ, false}
use Rattle.sh_exec_actions.specs.declared.status.CommandStatus.{CommandStatus}

-- a status of which `set -e` takes notice if it is a failure (2.15, set)
abbrev pub unexcused : ℕ → CommandStatus
unexcused status = record { status = status; excused = false }

-- an error that ends a shell
abbrev pub error : ℕ
error = 2

-- a command was found and can't be executed
abbrev pub cannot_execute : ℕ
cannot_execute = 126

-- a command isn't found
abbrev pub not_found : ℕ
not_found = 127
