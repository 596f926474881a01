-- Fields as what is between delimiters (XCU 2.6.5), where each delimiter is as long as possible: IFS white
-- space, or one other byte of IFS (a hard delimiter) with the IFS white space beside it.
use Rattle.std.specs.Prelude.{List, [], ◌∷◌, ◌++◌, ⊤}
use Rattle.sh_expand_fields.specs.declared.item.Item.{Item}
use Rattle.sh_expand_fields.specs.declared.class.Class.{Class}
use Rattle.sh_expand_fields.specs.declared.class.Class.TheVariants.{White, Hard, Between, Keep}

-- items that are kept
abbrev pub keeps : List Item → List Class
keeps [] = []
keeps (x ∷ xs) = Keep x ∷ keeps xs

-- only white space
abbrev pub IsBlank : List Class → Type 0
IsBlank [] = ⊤
IsBlank (White ∷ xs) = IsBlank xs
IsBlank (Hard ∷ xs) = ⊥
IsBlank (Between ∷ xs) = ⊥
IsBlank (Keep x ∷ xs) = ⊥

-- white space before this text can't be longer: the text doesn't begin with white space
abbrev pub NoWhite : List Class → Type 0
NoWhite [] = ⊤
NoWhite (White ∷ xs) = ⊥
NoWhite (Hard ∷ xs) = ⊤
NoWhite (Between ∷ xs) = ⊤
NoWhite (Keep x ∷ xs) = ⊤

-- a delimiter of white space before this text can't be longer: the text begins with no delimiter
abbrev pub NoDelimiter : List Class → Type 0
NoDelimiter [] = ⊤
NoDelimiter (White ∷ xs) = ⊥
NoDelimiter (Hard ∷ xs) = ⊥
NoDelimiter (Between ∷ xs) = ⊤
NoDelimiter (Keep x ∷ xs) = ⊤

-- the fields of a text without white space at its beginning
pub data Fields : List Class → List (List Item) → Type 0 where
  -- nothing is left: no further field
  none : Fields [] []
  -- the last field has no delimiter after it
  last : (x : Item) (f : List Item) → Fields (keeps (x ∷ f)) ((x ∷ f) ∷ [])
  -- white space ends a field that isn't empty
  white : (x : Item) (f : List Item) (d rest : List Class) (fs : List (List Item)) → IsBlank d → NoDelimiter rest → Fields rest fs → Fields (keeps (x ∷ f) ++ White ∷ (d ++ rest)) ((x ∷ f) ∷ fs)
  -- a hard delimiter, with the white space beside it, ends a field
  hard : (f : List Item) (d e rest : List Class) (fs : List (List Item)) → IsBlank d → IsBlank e → NoWhite rest → Fields rest fs → Fields (keeps f ++ (d ++ Hard ∷ (e ++ rest))) (f ∷ fs)

-- white space at the beginning is no delimiter
pub data Splits : List Class → List (List Item) → Type 0 where
  trimmed : (d rest : List Class) (fs : List (List Item)) → IsBlank d → NoWhite rest → Fields rest fs → Splits (d ++ rest) fs

-- one parameter's items
abbrev pub NoBetween : List Class → Type 0
NoBetween [] = ⊤
NoBetween (White ∷ xs) = NoBetween xs
NoBetween (Hard ∷ xs) = NoBetween xs
NoBetween (Between ∷ xs) = ⊥
NoBetween (Keep x ∷ xs) = NoBetween xs
