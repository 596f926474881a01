use Rattle.std.specs.Prelude.{alloc_error}
use Rattle.sh_base.specs.declared.memory.NoMemory.{NoMemory}

-- want of memory, the one value of its type
abbrev pub no_memory : NoMemory
no_memory = record { refusal = alloc_error }
