-- The tokens of a command substitution so far. Tokens after the first one that can't continue a compound list
-- don't count.
use Rattle.std.specs.Prelude.{◌≡◌, false, List, [], ◌∷◌, ◌++◌, Option, Some, None, if◌then◌else◌}
use Rattle.sh_grammar.specs.declared.Token.{Token}
use Rattle.sh_grammar.specs.Computed.{is_prefix}
use Rattle.sh_token_grammar.specs.declared.class.TokenClass.{TokenClass}
use Rattle.sh_token_grammar.specs.Classes.{class_number}
use Rattle.sh_token_grammar.specs.Shell.{substitution}

abbrev pub token_of : TokenClass → Token
token_of c = record { class = class_number c; id = 0 }

abbrev pub followed_by : TokenClass → List Token → List Token
followed_by c ts = if is_prefix substitution ts then ts ++ token_of c ∷ [] else ts

-- the token after which nothing counts
abbrev pub Refuses : List Token → Option Token → Type 0
Refuses ts None = Unit {0}
Refuses ts (Some t) = is_prefix substitution (ts ++ t ∷ []) ≡ false
