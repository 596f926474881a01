use Rattle.std.proofs.Common.{◌≡◌, drop}
use Rattle.sh_builtin_environment.specs.Options.{last_letter}
use Rattle.sh_builtin_environment.proofs.options.last_letter.Given as goal

abbrev pub invariant-letters : goal.invariant-letters
invariant-letters l = last_letter l.last (drop l.letter-index l.letters) ≡ last_letter l.fn.last l.letters
