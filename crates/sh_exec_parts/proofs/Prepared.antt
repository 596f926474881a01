-- The redirections of a command, item by item.
use Rattle.std.proofs.Common.{◌≡◌, ◌++◌, ℕ, List, [], ◌∷◌, Bool, Option, Some, None, refl, sym}
use Rattle.sh_exec_parts.specs.Redirections.{fields_behind, item_prepared, redirections_of}
use Rattle.sh_exec_parts.specs.Simple.{before}
use Rattle.sh_syntax.specs.declared.tree.Redirect.{Redirect}

none_left : (n : Bool) (rs : List Redirect) → redirections_of n rs [] ≡ []
none_left n [] = refl
none_left n (r ∷ rs) = refl

pub by_item : (n : Bool) (item : Option Redirect) (rs : List Redirect) (fs : List (List ℕ)) → redirections_of n (before item rs) fs ≡ item_prepared n item fs ++ redirections_of n rs (fields_behind item fs)
by_item n None rs fs = refl
by_item n (Some r) rs [] = sym (none_left n rs)
by_item n (Some r) rs (f ∷ fs) = refl
