-- Names (XBD 3.216): a letter or an underscore, then letters, digits and underscores.
use Rattle.std.specs.Prelude.{ℕ, List, [], ◌∷◌, Bool, false, ◌||◌, ◌&&◌, nat_eq}
use Rattle.std.specs.List.{list_all}
use Rattle.std.specs.Char.{is_ascii_digit, is_ascii_lowercase, is_ascii_uppercase}

abbrev pub begins_name : ℕ → Bool
begins_name b = is_ascii_lowercase b || (is_ascii_uppercase b || nat_eq b 95)

abbrev pub continues_name : ℕ → Bool
continues_name b = begins_name b || is_ascii_digit b

abbrev pub is_name : List ℕ → Bool
is_name [] = false
is_name (b ∷ bs) = begins_name b && list_all continues_name bs
