-- The utility test (XCU test): what it evaluates, by the number of its arguments.
use Rattle.std.specs.Prelude.{ℕ, List, [], ◌∷◌, ◌||◌, Bool, true, false, not, Option, Some, None, codes, if◌then◌else◌}
use Rattle.std.specs.Str.{bytes_eq}
use Rattle.sh_files.specs.Nodes.{FileMap, node_of_path}
use Rattle.sh_files_image.specs.declared.node.Flags.{Flags}
use Rattle.sh_files_image.specs.declared.node.Node.{Node}
use Rattle.sh_files_image.specs.declared.node.Node.TheVariants as node
use Rattle.sh_builtin_regular.specs.declared.conditional.Comparison.{Comparison}
use Rattle.sh_builtin_regular.specs.declared.conditional.Comparison.TheVariants as comparison
use Rattle.sh_builtin_regular.specs.declared.conditional.FileTest.{FileTest}
use Rattle.sh_builtin_regular.specs.declared.conditional.FileTest.TheVariants as file
use Rattle.sh_builtin_regular.specs.declared.conditional.Verdict.{Verdict}
use Rattle.sh_builtin_regular.specs.declared.conditional.Verdict.TheVariants as verdict
use Rattle.sh_builtin_regular.specs.declared.number.Whole.{Whole}
use Rattle.sh_builtin_regular.specs.Integers.{is_equal, is_less, whole_of}
use Rattle.sh_base.specs.Decimals.{number_of}

-- ---- what is asked of a file
abbrev pub file_test_of : List ℕ → Option FileTest
file_test_of word =
    if bytes_eq word (codes "-d") then Some file.Directory
    else if bytes_eq word (codes "-e") then Some file.Exists
    else if bytes_eq word (codes "-f") then Some file.Regular
    else if bytes_eq word (codes "-r") then Some file.Readable
    else if bytes_eq word (codes "-s") then Some file.Filled
    else if bytes_eq word (codes "-w") then Some file.Writable
    else if bytes_eq word (codes "-x") then Some file.Executable
    else None

abbrev pub is_directory : Node → Bool
is_directory node.Directory = true
is_directory (node.File f) = false
is_directory node.Null = false
is_directory node.Terminal = false

abbrev pub is_regular : Node → Bool
is_regular node.Directory = false
is_regular (node.File f) = true
is_regular node.Null = false
is_regular node.Terminal = false

-- a directory has all flags, a device may be read and written
abbrev pub flags_of : Node → Flags
flags_of node.Directory = record { read = true; write = true; execute = true }
flags_of (node.File f) = f.flags
flags_of node.Null = record { read = true; write = true; execute = false }
flags_of node.Terminal = record { read = true; write = true; execute = false }

abbrev pub has_bytes : List ℕ → Bool
has_bytes [] = false
has_bytes (b ∷ bs) = true

-- a directory has a size, a device has none
abbrev pub is_filled : Node → Bool
is_filled node.Directory = true
is_filled (node.File f) = has_bytes f.bytes
is_filled node.Null = false
is_filled node.Terminal = false

abbrev pub file_holds : FileTest → Node → Bool
file_holds file.Directory n = is_directory n
file_holds file.Exists n = true
file_holds file.Regular n = is_regular n
file_holds file.Readable n = (flags_of n).read
file_holds file.Filled n = is_filled n
file_holds file.Writable n = (flags_of n).write
file_holds file.Executable n = (flags_of n).execute

-- where a path names nothing no test passes
abbrev pub found_holds : FileTest → Option Node → Bool
found_holds asked None = false
found_holds asked (Some n) = file_holds asked n

-- ---- one operand, after a primary
abbrev pub terminal_of : Option ℕ → Verdict
terminal_of None = verdict.Usage
terminal_of (Some n) = verdict.Terminal n false

abbrev pub text_unary : List ℕ → List ℕ → Verdict
text_unary word operand =
    if bytes_eq word (codes "-n") then verdict.Is (has_bytes operand)
    else if bytes_eq word (codes "-z") then verdict.Is (not (has_bytes operand))
    else if bytes_eq word (codes "-t") then terminal_of (number_of operand)
    else verdict.Usage

abbrev pub unary_by : FileMap → List ℕ → List ℕ → List ℕ → Option FileTest → Verdict
unary_by files directory word operand None = text_unary word operand
unary_by files directory word operand (Some asked) = verdict.Is (found_holds asked (node_of_path files directory operand))

unfoldable pub unary : FileMap → List ℕ → List ℕ → List ℕ → Verdict
unary files directory word operand = unary_by files directory word operand (file_test_of word)

-- ---- two operands, with a primary between them
abbrev pub comparison_of : List ℕ → Option Comparison
comparison_of word =
    if bytes_eq word (codes "-eq") then Some comparison.Equal
    else if bytes_eq word (codes "-ne") then Some comparison.NotEqual
    else if bytes_eq word (codes "-gt") then Some comparison.Greater
    else if bytes_eq word (codes "-ge") then Some comparison.GreaterOrEqual
    else if bytes_eq word (codes "-lt") then Some comparison.Less
    else if bytes_eq word (codes "-le") then Some comparison.LessOrEqual
    else None

abbrev pub compares : Comparison → Whole → Whole → Bool
compares comparison.Equal a b = is_equal a b
compares comparison.NotEqual a b = not (is_equal a b)
compares comparison.Greater a b = is_less b a
compares comparison.GreaterOrEqual a b = not (is_less a b)
compares comparison.Less a b = is_less a b
compares comparison.LessOrEqual a b = not (is_less b a)

-- both operands have to be whole numbers
abbrev pub compared_by : Comparison → Option Whole → Option Whole → Verdict
compared_by how None b = verdict.Usage
compared_by how (Some a) None = verdict.Usage
compared_by how (Some a) (Some b) = verdict.Is (compares how a b)

abbrev pub text_binary : List ℕ → List ℕ → List ℕ → Verdict
text_binary left word right =
    if bytes_eq word (codes "=") then verdict.Is (bytes_eq left right)
    else if bytes_eq word (codes "!=") then verdict.Is (not (bytes_eq left right))
    else verdict.Usage

abbrev pub binary_by : List ℕ → List ℕ → List ℕ → Option Comparison → Verdict
binary_by left word right None = text_binary left word right
binary_by left word right (Some how) = compared_by how (whole_of left) (whole_of right)

unfoldable pub binary : List ℕ → List ℕ → List ℕ → Verdict
binary left word right = binary_by left word right (comparison_of word)

abbrev pub is_binary_by : List ℕ → Option Comparison → Bool
is_binary_by word None = bytes_eq word (codes "=") || bytes_eq word (codes "!=")
is_binary_by word (Some how) = true

unfoldable pub is_binary : List ℕ → Bool
is_binary word = is_binary_by word (comparison_of word)

-- ---- by the number of arguments
abbrev pub negation : Verdict → Verdict
negation (verdict.Is holds) = verdict.Is (not holds)
negation (verdict.Terminal descriptor inverted) = verdict.Terminal descriptor (not inverted)
negation verdict.Usage = verdict.Usage

abbrev pub is_negation : List ℕ → Bool
is_negation word = bytes_eq word (codes "!")

-- one argument: whether it has bytes
abbrev pub one : List ℕ → Verdict
one word = verdict.Is (has_bytes word)

-- two: `!` and one, or a primary and its operand
unfoldable pub two : FileMap → List ℕ → List ℕ → List ℕ → Verdict
two files directory first second = if is_negation first then negation (one second) else unary files directory first second

-- three: a primary between its operands, or `!` and two
unfoldable pub three : FileMap → List ℕ → List ℕ → List ℕ → List ℕ → Verdict
three files directory first second third =
    if is_binary second then binary first second third
    else if is_negation first then negation (two files directory second third)
    else verdict.Usage

-- four: `!` and three
unfoldable pub four : FileMap → List ℕ → List ℕ → List ℕ → List ℕ → List ℕ → Verdict
four files directory first second third fourth =
    if is_negation first then negation (three files directory second third fourth) else verdict.Usage

unfoldable pub verdict_of : FileMap → List ℕ → List (List ℕ) → Verdict
verdict_of files directory [] = verdict.Is false
verdict_of files directory (a ∷ []) = one a
verdict_of files directory (a ∷ b ∷ []) = two files directory a b
verdict_of files directory (a ∷ b ∷ c ∷ []) = three files directory a b c
verdict_of files directory (a ∷ b ∷ c ∷ d ∷ []) = four files directory a b c d
verdict_of files directory (a ∷ b ∷ c ∷ d ∷ e ∷ more) = verdict.Usage
