-- Splitting in one pass: which fields are still to come. Only proofs and contracts of private functions need
-- it.
use Rattle.std.specs.Prelude.{List, [], ◌∷◌, ◌++◌, Bool, true, false, map}
use Rattle.sh_expand_fields.specs.declared.item.Item.{Item}
use Rattle.sh_expand_fields.specs.declared.class.Class.{Class}
use Rattle.sh_expand_fields.specs.declared.class.Class.TheVariants.{White, Hard, Between, Keep}
use Rattle.sh_expand_fields.specs.declared.splitting.Splitter.{Splitter}

-- the field that has begun, if one has
abbrev pub field_or_none : List Item → List (List Item)
field_or_none [] = []
field_or_none (x ∷ xs) = (x ∷ xs) ∷ []

abbrev pub hard_closed : Bool → List Item → List (List Item)
hard_closed any (x ∷ xs) = (x ∷ xs) ∷ []
hard_closed true [] = []
hard_closed false [] = [] ∷ []

abbrev pub or_filled : Bool → List Item → Bool
or_filled any [] = any
or_filled any (x ∷ xs) = true

-- the fields still to come, by whether the piece has a field already, the field that has begun, and what
-- follows
abbrev pub scan : Bool → List Item → List Class → List (List Item)
scan any cur [] = field_or_none cur
scan any cur (Keep x ∷ xs) = scan any (cur ++ x ∷ []) xs
scan any cur (White ∷ xs) = field_or_none cur ++ scan (or_filled any cur) [] xs
scan any cur (Hard ∷ xs) = hard_closed any cur ++ scan false [] xs
scan any cur (Between ∷ xs) = field_or_none cur ++ scan false [] xs

abbrev pub fields_of : Splitter → List (List Item)
fields_of s = map (λ f. f.items) s.fields.items
