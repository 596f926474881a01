-- How a built-in is run: by its name, or by `command`, behind which an error of a special built-in doesn't end the shell (XCU command,
-- 2.8.1), and assignments before it don't stay (2.15).
use Rattle.std.specs.Prelude.{false}
use Rattle.sh_builtin_outcome.specs.Builtins.{is_special}
use Rattle.sh_builtin_outcome.specs.declared.builtin.Builtin.{Builtin}
use Rattle.sh_builtin_outcome.specs.declared.invocation.Invocation.{Invocation}

abbrev pub by_name : Builtin → Invocation
by_name builtin = record { builtin = builtin; is_special = is_special builtin }

abbrev pub by_command : Builtin → Invocation
by_command builtin = record { builtin = builtin; is_special = false }
