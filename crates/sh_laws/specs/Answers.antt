-- What an expansion gives with more answers.
use Rattle.std.specs.Prelude.{◌≡◌}
use Rattle.sh_expand.specs.Expanding.{Result, Need, Fields, Stops}

-- what has ended stays as it is; what needs an answer may go on
abbrev pub Stays : Result → Result → Type 0
Stays (Need program env) other = Unit {0}
Stays (Fields fields env) other = other ≡ Fields fields env
Stays (Stops fault env) other = other ≡ Stops fault env
