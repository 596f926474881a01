-- A stack as a list, its top first.
use Rattle.std.specs.Prelude.{List, [], ◌∷◌}

-- the top, or d of an empty stack
abbrev pub top : {A : Type 0} → A → List A → A
top d [] = d
top d (x ∷ xs) = x

abbrev pub rest : {A : Type 0} → List A → List A
rest [] = []
rest (x ∷ xs) = xs
