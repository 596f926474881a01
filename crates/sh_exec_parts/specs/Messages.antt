-- The shell's messages: each is `psh: `, a text and a newline, for descriptor 2.
use Rattle.std.specs.Prelude.{ℕ, List, [], ◌∷◌, ◌++◌, Option, Some, None, codes, decimal}
use Rattle.sh_exec_parts.specs.declared.message.Piece.{Piece}
use Rattle.sh_exec_parts.specs.declared.message.Refusal.{Refusal}
use Rattle.sh_exec_parts.specs.declared.message.Refusal.TheVariants as refusal
use Rattle.sh_expand.specs.ArithmeticError.{ArithmeticError}
use Rattle.sh_expand.specs.ArithmeticError.TheVariants as arithmetic
use Rattle.sh_expand.specs.Fault.{Fault}
use Rattle.sh_expand.specs.Fault.TheVariants as fault
use Rattle.sh_files.specs.declared.fault.FileFault.{FileFault}
use Rattle.sh_files.specs.declared.fault.FileFault.TheVariants as file
use Rattle.sh_kernel_descriptors.specs.declared.fault.KernelFault.{KernelFault}
use Rattle.sh_kernel_descriptors.specs.declared.fault.KernelFault.TheVariants as kernel

abbrev pub line_of : List ℕ → List ℕ
line_of text = (codes "psh: " ++ text) ++ 10 ∷ []

unfoldable pub message : List ℕ → Piece
message text = record { descriptor = 2; bytes = line_of text }

-- of a command that is refused when it is read
abbrev pub refusal_text : Refusal → List ℕ
refusal_text refusal.Syntax = codes "syntax error"
refusal_text refusal.BadSubstitution = codes "bad substitution"
refusal_text refusal.TooDeep = codes "too deep"

abbrev pub read_only : List ℕ → List ℕ
read_only name = name ++ codes ": read only"

-- of a parameter that isn't set (2.6.2, 2.15 `set -u`)
abbrev pub unset_text : List ℕ → Option (List ℕ) → List ℕ
unset_text name None = name ++ codes ": parameter not set"
unset_text name (Some word) = name ++ codes ": " ++ word

abbrev pub arithmetic_text : ArithmeticError → List ℕ
arithmetic_text arithmetic.Syntax = codes "arithmetic: syntax"
arithmetic_text arithmetic.DivisionByZero = codes "arithmetic: division by zero"
arithmetic_text arithmetic.NotANumber = codes "arithmetic: not a number"
arithmetic_text arithmetic.TooDeep = codes "too deep"

-- of words that can't be expanded
abbrev pub fault_text : Fault → List ℕ
fault_text (fault.Unset name word) = unset_text name word
fault_text fault.BadSubstitution = codes "bad substitution"
fault_text (fault.Arithmetic error) = arithmetic_text error
fault_text (fault.ReadOnly name) = read_only name

-- of a name that no program has, and of one whose program can't be run (2.9.1.4)
abbrev pub not_found : List ℕ → List ℕ
not_found name = name ++ codes ": not found"

abbrev pub cannot_execute : List ℕ → List ℕ
cannot_execute name = name ++ codes ": cannot execute"

-- of a redirection, after its word: every refusal of the files but that of `set -C` is the same
abbrev pub file_text : FileFault → List ℕ
file_text file.NoEntry = codes ": cannot open"
file_text file.NoAccess = codes ": cannot open"
file_text file.IsDirectory = codes ": cannot open"
file_text file.NotDirectory = codes ": cannot open"
file_text file.Exists = codes ": file exists"
file_text file.BadNumber = codes ": cannot open"
file_text file.TooLarge = codes ": cannot open"
file_text (file.NoMemory _) = codes ": cannot open"

abbrev pub redirection_text : KernelFault → List ℕ
redirection_text kernel.BadDescriptor = codes ": bad descriptor"
redirection_text kernel.NoProcess = codes ": cannot open"
redirection_text kernel.TooManyProcesses = codes ": cannot open"
redirection_text kernel.TooManyDescriptors = codes ": cannot open"
redirection_text kernel.WouldWait = codes ": cannot open"
redirection_text kernel.BrokenPipe = codes ": cannot open"
redirection_text kernel.InputOutput = codes ": cannot open"
redirection_text (kernel.File fault) = file_text fault
redirection_text (kernel.NoMemory _) = codes ": cannot open"

abbrev pub not_redirected : List ℕ → KernelFault → List ℕ
not_redirected word fault = word ++ redirection_text fault

abbrev pub cannot_fork : List ℕ
cannot_fork = codes "cannot fork"

-- of a built-in's wrong operands, and of its write that failed
abbrev pub usage : List ℕ → List ℕ
usage name = name ++ codes ": usage"

abbrev pub write_error : List ℕ → List ℕ
write_error name = name ++ codes ": write error"

-- ---- what an interactive shell writes of an asynchronous list that it has started (2.9.3.1): the number of its job, and of its last process
unfoldable pub launch_line : (number pid : ℕ) → Piece
launch_line number pid = record { descriptor = 2; bytes = 91 ∷ decimal number ++ 93 ∷ 32 ∷ decimal pid ++ 10 ∷ [] }
