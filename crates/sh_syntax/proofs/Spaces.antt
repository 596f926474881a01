-- Tokens with their spaces, of lists of tokens put together.
use Rattle.std.proofs.Common.{◌≡◌, List, ◌++◌}
use Rattle.std.proofs.lemmas.Grind.{flat_map-append}
use Rattle.sh_syntax.specs.Tokens.{Token, with_space, with_spaces}

pub spaced-append : (xs ys : List Token) → with_spaces (xs ++ ys) ≡ with_spaces xs ++ with_spaces ys
spaced-append xs ys = flat_map-append with_space xs ys
