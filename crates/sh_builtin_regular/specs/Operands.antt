-- What the arguments of `read` ask for (XCU read): `read [-r] NAME..`.
use Rattle.std.specs.Option.{is_some}
use Rattle.std.specs.Prelude.{ℕ, List, [], ◌∷◌, Bool, false, not, Option, Some, None, Result, Ok, Err, codes, find}
use Rattle.sh_base.specs.Names.{is_name}
use Rattle.sh_builtin_environment.specs.Options.{Parsed, options_and_operands}
use Rattle.sh_builtin_environment.specs.declared.outcome.BuiltinFault.{BuiltinFault}
use Rattle.sh_builtin_environment.specs.declared.outcome.BuiltinFault.TheVariants.{BadName, Usage}
use Rattle.sh_builtin_regular.specs.declared.reader.LineReader.{LineReader}

-- a word that is no name is refused
abbrev pub reader_by : Bool → List (List ℕ) → (bad : Option (List ℕ)) → Result LineReader BuiltinFault
reader_by raw names (Some word) = Err (BadName word)
reader_by raw names None = Ok (record { raw = raw; names = names; line = []; escaped = false })

abbrev pub bad_name : List (List ℕ) → Option (List ℕ)
bad_name words = find (λ word. not (is_name word)) words

-- there is at least one name
abbrev pub reader_with : Bool → List (List ℕ) → Result LineReader BuiltinFault
reader_with raw [] = Err Usage
reader_with raw (name ∷ names) = reader_by raw (name ∷ names) (bad_name (name ∷ names))

abbrev pub reader_parsed : Option Parsed → Result LineReader BuiltinFault
reader_parsed None = Err Usage
reader_parsed (Some parsed) = reader_with (is_some parsed.0) parsed.1

unfoldable pub reader_of : List (List ℕ) → Result LineReader BuiltinFault
reader_of arguments = reader_parsed (options_and_operands (codes "r") arguments)
