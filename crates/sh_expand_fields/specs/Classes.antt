-- The class of an item in field splitting (XCU 2.6.5): only bytes that an expansion gave, and that are in
-- IFS, delimit.
use Rattle.std.specs.Prelude.{ℕ, List, [], ◌∷◌, Bool, true, false, ◌==◌, ◌||◌, Option, Some, None}
use Rattle.std.specs.List.{list_any}
use Rattle.sh_base.specs.Separators.{default_separators}
use Rattle.sh_expand_fields.specs.declared.item.Item.{Item}
use Rattle.sh_expand_fields.specs.declared.item.Item.TheVariants.{Literal, Quoted, Expanded, Null, Break}
use Rattle.sh_expand_fields.specs.declared.class.Class.{Class}
use Rattle.sh_expand_fields.specs.declared.class.Class.TheVariants.{White, Hard, Between, Keep}
use Rattle.sh_expand_fields.specs.declared.separators.Separators.{Separators}
use Rattle.sh_expand_fields.specs.declared.separators.Separators.TheVariants.{Unset, Set}

-- space, tab or newline
abbrev pub is_white_space : ℕ → Bool
is_white_space b = (b == 32 || b == 9) || b == 10

abbrev pub bytes_of : Separators → List ℕ
bytes_of Unset = default_separators
bytes_of (Set bytes) = bytes.now

abbrev pub first_of : List ℕ → Option ℕ
first_of [] = None
first_of (b ∷ bs) = Some b

abbrev pub is_in : List ℕ → ℕ → Bool
is_in ifs b = list_any (λ c. c == b) ifs

-- IFS white space is White, another byte of IFS is Hard
abbrev pub expanded_class : (delimits : Bool) → (white_space : Bool) → ℕ → Class
expanded_class false white_space b = Keep (Expanded b)
expanded_class true true b = White
expanded_class true false b = Hard

abbrev pub class_of : List ℕ → Item → Class
class_of ifs (Literal b) = Keep (Literal b)
class_of ifs (Quoted b) = Keep (Quoted b)
class_of ifs Null = Keep Null
class_of ifs Break = Between
class_of ifs (Expanded b) = expanded_class (is_in ifs b) (is_white_space b) b
