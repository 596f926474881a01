-- Pathname expansion component by component: what a component leads to. Only proofs and contracts of private
-- functions need it.
use Rattle.std.specs.Prelude.{◌≡◌, ℕ, ◌+◌, List, [], ◌∷◌, ◌++◌, ◌⊎◌, ◌↔◌, ⊤, Bool, true, false, Option, Some, None, drop, option_map, position, take}
use Rattle.sh_files.specs.Nodes.{FileMap}
use Rattle.sh_pattern.specs.declared.pattern_byte.PatternByte.{PatternByte}
use Rattle.sh_pattern.specs.Match.{Matches}
use Rattle.sh_expand_fields.specs.Pathnames.{IsIn, IsNamed, IsOne, is_pattern, is_slash, may_match, names_behind}

-- a name that a pattern takes
abbrev pub IsTaken : List PatternByte → List ℕ → Type 0
IsTaken c name = (may_match c name ≡ true) × Matches c name

-- the path of a name after a prefix, if a pattern takes the name
abbrev pub TakenOne : List ℕ → List ℕ → List PatternByte → List ℕ → List ℕ → Type 0
TakenOne before end c n t = IsTaken c n × (t ≡ before ++ (n ++ end))

-- the same for one of these names
abbrev pub Taken : List ℕ → List ℕ → List PatternByte → List (List ℕ) → List ℕ → Type 0
Taken before end c [] t = ⊥
Taken before end c (n ∷ ns) t = TakenOne before end c n t ⊎ Taken before end c ns t

-- a name that a pattern matches has to be listed; the name of another component need not be
abbrev pub IsListed : Bool → Option (List (List ℕ)) → List ℕ → Type 0
IsListed false names name = ⊤
IsListed true None name = ⊥
IsListed true (Some names) name = IsOne name names

-- where a component leads to that has others after it, and the last one
abbrev pub Leads : Bool → FileMap → List ℕ → List ℕ → List PatternByte → List ℕ → Type 0
Leads false files directory before c t =
    (n : List ℕ) × IsNamed c n × IsListed (is_pattern c) (names_behind files directory before) n × (t ≡ before ++ (n ++ 47 ∷ []))
Leads true files directory before c t =
    (n : List ℕ) × IsNamed c n × IsIn (names_behind files directory before) n × (t ≡ before ++ (n ++ []))

-- the same from one of these prefixes
abbrev pub LeadsFrom : Bool → FileMap → List ℕ → List (List ℕ) → List PatternByte → List ℕ → Type 0
LeadsFrom last files directory [] c t = ⊥
LeadsFrom last files directory (f ∷ fs) c t = Leads last files directory f c t ⊎ LeadsFrom last files directory fs c t

-- the new list has what the old one has, and what is added
abbrev pub Adds : List (List ℕ) → (List ℕ → Type 0) → List (List ℕ) → Type 0
Adds old more new = (t : List ℕ) → IsOne t new ↔ (IsOne t old ⊎ more t)

-- what is before the first slash of a pattern, and what is after it
abbrev pub pattern_split : List PatternByte → Option (List PatternByte × List PatternByte)
pattern_split pattern = option_map (λ i. (take i pattern, drop (i + 1) pattern)) (position is_slash pattern)
