-- Field splitting (XCU 2.6.5). A word is cut into pieces at each hard delimiter, a byte of IFS that isn't
-- white space. Each piece gives at least one field, but the last may give none. Inside a piece the fields are
-- the runs between IFS white space. Each of several parameters is split by itself.
use Rattle.std.specs.Prelude.{List, [], ◌∷◌, ◌++◌, Bool, true, false, map, filter, if◌then◌else◌}
use Rattle.std.specs.List.{flat_map}
use Rattle.sh_expand_fields.specs.declared.item.Item.{Item}
use Rattle.sh_expand_fields.specs.declared.class.Class.{Class}
use Rattle.sh_expand_fields.specs.declared.class.Class.TheVariants.{White, Hard, Between, Keep}

abbrev pub is_white : Class → Bool
is_white White = true
is_white Hard = false
is_white Between = false
is_white (Keep x) = false

abbrev pub is_hard : Class → Bool
is_hard White = false
is_hard Hard = true
is_hard Between = false
is_hard (Keep x) = false

abbrev pub is_between : Class → Bool
is_between White = false
is_between Hard = false
is_between Between = true
is_between (Keep x) = false

abbrev pub cons_first : Class → List (List Class) → List (List Class)
cons_first x [] = (x ∷ []) ∷ []
cons_first x (s ∷ ss) = (x ∷ s) ∷ ss

-- the pieces between the elements that pass: one more than there are such elements
abbrev pub pieces : (Class → Bool) → List Class → List (List Class)
pieces p [] = [] ∷ []
pieces p (x ∷ xs) = if p x then [] ∷ pieces p xs else cons_first x (pieces p xs)

-- the items of a piece
abbrev pub items_of : List Class → List Item
items_of [] = []
items_of (Keep x ∷ xs) = x ∷ items_of xs
items_of (White ∷ xs) = items_of xs
items_of (Hard ∷ xs) = items_of xs
items_of (Between ∷ xs) = items_of xs

abbrev pub is_filled : List Class → Bool
is_filled [] = false
is_filled (x ∷ xs) = true

-- what is between white space
abbrev pub runs : List Class → List (List Item)
runs xs = map items_of (filter is_filled (pieces is_white xs))

-- what a hard delimiter ends has at least one field
abbrev pub one_at_least : List (List Item) → List (List Item)
one_at_least [] = [] ∷ []
one_at_least (f ∷ fs) = f ∷ fs

-- each hard delimiter ends the piece before it; after the last one there may be no field
abbrev pub piece_fields : List (List Class) → List (List Item)
piece_fields [] = []
piece_fields (s ∷ []) = runs s
piece_fields (s ∷ t ∷ ss) = one_at_least (runs s) ++ piece_fields (t ∷ ss)

abbrev pub split_one : List Class → List (List Item)
split_one xs = piece_fields (pieces is_hard xs)

-- the fields of a word, where each of several parameters is split by itself
abbrev pub field_splitting : List Class → List (List Item)
field_splitting xs = flat_map split_one (pieces is_between xs)
