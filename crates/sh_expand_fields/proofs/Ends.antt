-- The white space at the end of a line, byte by byte.
use Rattle.std.proofs.Common.{◌≡◌, ◌++◌, ◌&&◌, ℕ, List, [], ◌∷◌, Bool, true, false, if◌then◌else◌, refl, ap, sym, ◌∙◌}
use Rattle.std.specs.List.{list_all}
use Rattle.sh_expand_fields.specs.Lines.{before_white, is_white}
use Rattle.sh_pattern.specs.declared.pattern_byte.PatternByte.{PatternByte}

and_false : (b : Bool) → (b && false) ≡ false
and_false true = refl
and_false false = refl

not_all : (p : PatternByte → Bool) (marks : List PatternByte) (mark : PatternByte) → p mark ≡ false → list_all p (marks ++ mark ∷ []) ≡ false
not_all p [] mark h = ap (λ b. b && true) h
not_all p (x ∷ xs) mark h = ap (λ b. p x && b) (not_all p xs mark h) ∙ and_false (p x)

and_true : (b : Bool) → (b && true) ≡ b
and_true true = refl
and_true false = refl

all_but : (p : PatternByte → Bool) (marks : List PatternByte) (mark : PatternByte) → p mark ≡ true → list_all p (marks ++ mark ∷ []) ≡ list_all p marks
all_but p [] mark h = ap (λ b. b && true) h
all_but p (x ∷ xs) mark h = ap (λ b. p x && b) (all_but p xs mark h)

kept_end : (ifs : List ℕ) (prefix : List PatternByte) (mark : PatternByte) → is_white ifs mark ≡ false → before_white ifs (prefix ++ mark ∷ []) ≡ prefix ++ mark ∷ []
kept_end ifs [] mark h = ap (λ b. if b then [] else mark ∷ []) (not_all (is_white ifs) [] mark h)
kept_end ifs (x ∷ xs) mark h =
    ap (λ b. if b then [] else x ∷ before_white ifs (xs ++ mark ∷ [])) (not_all (is_white ifs) (x ∷ xs) mark h)
    ∙ ap (λ marks. x ∷ marks) (kept_end ifs xs mark h)

gone_end : (ifs : List ℕ) (prefix : List PatternByte) (mark : PatternByte) → is_white ifs mark ≡ true → before_white ifs (prefix ++ mark ∷ []) ≡ before_white ifs prefix
gone_end ifs [] mark h = ap (λ b. if b then [] else mark ∷ []) (all_but (is_white ifs) [] mark h)
gone_end ifs (x ∷ xs) mark h =
    ap (λ b. if b then [] else x ∷ before_white ifs (xs ++ mark ∷ [])) (all_but (is_white ifs) (x ∷ xs) mark h)
    ∙ ap (λ marks. if list_all (is_white ifs) (x ∷ xs) then [] else x ∷ marks) (gone_end ifs xs mark h)

pub kept : (ifs : List ℕ) (prefix line : List PatternByte) (mark : PatternByte) → line ≡ prefix ++ mark ∷ [] → is_white ifs mark ≡ false → line ≡ before_white ifs line
kept ifs prefix line mark e h = rw e (sym (kept_end ifs prefix mark h))

pub gone : (ifs : List ℕ) (prefix line : List PatternByte) (mark : PatternByte) → line ≡ prefix ++ mark ∷ [] → is_white ifs mark ≡ true → before_white ifs prefix ≡ before_white ifs line
gone ifs prefix line mark e h = rw e (sym (gone_end ifs prefix mark h))
