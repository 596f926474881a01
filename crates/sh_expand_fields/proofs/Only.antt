-- What stands between delimiters is the fields, and nothing else is.
use Rattle.std.proofs.Common.{◌≡◌, List, [], ◌∷◌, ◌++◌, Bool, true, false, refl, sym, ap, ◌∙◌, append_assoc, append-nil}
use Rattle.sh_expand_fields.specs.declared.item.Item.{Item}
use Rattle.sh_expand_fields.specs.declared.class.Class.{Class}
use Rattle.sh_expand_fields.specs.declared.class.Class.TheVariants.{White, Hard, Between, Keep}
use Rattle.sh_expand_fields.specs.Splitting.{split_one}
use Rattle.sh_expand_fields.specs.Scan.{scan}
use Rattle.sh_expand_fields.specs.Ranges.{keeps, IsBlank, NoDelimiter, NoBetween, Fields, none, last, white, hard, Splits, trimmed}
use Rattle.sh_expand_fields.proofs.Scans.{scan_one}

scan_keeps : (any : Bool) (cur f : List Item) (xs : List Class) → scan any cur (keeps f ++ xs) ≡ scan any (cur ++ f) xs
scan_keeps any cur [] xs = ap (λ c. scan any c xs) (sym (append-nil cur))
scan_keeps any cur (x ∷ f) xs = scan_keeps any (cur ++ x ∷ []) f xs ∙ ap (λ c. scan any c xs) (append_assoc cur (x ∷ []) f)

-- while a field has begun, fields before it don't count
same_any : (x : Item) (f : List Item) (xs : List Class) → scan true (x ∷ f) xs ≡ scan false (x ∷ f) xs
same_any x f [] = refl
same_any x f (Keep y ∷ xs) = same_any x (f ++ y ∷ []) xs
same_any x f (White ∷ xs) = refl
same_any x f (Hard ∷ xs) = refl
same_any x f (Between ∷ xs) = refl

no_delimiter : (xs : List Class) → NoDelimiter xs → scan true [] xs ≡ scan false [] xs
no_delimiter [] n = refl
no_delimiter (Keep y ∷ xs) n = same_any y [] xs
no_delimiter (White ∷ xs) n = absurd n
no_delimiter (Hard ∷ xs) n = absurd n
no_delimiter (Between ∷ xs) n = refl

blank_scan : (any : Bool) (d xs : List Class) → IsBlank d → scan any [] (d ++ xs) ≡ scan any [] xs
blank_scan any [] xs b = refl
blank_scan any (White ∷ d) xs b = blank_scan any d xs b
blank_scan any (Hard ∷ d) xs b = absurd b
blank_scan any (Between ∷ d) xs b = absurd b
blank_scan any (Keep x ∷ d) xs b = absurd b

hard_scan : (f : List Item) (d xs : List Class) → IsBlank d → scan false [] (keeps f ++ (d ++ Hard ∷ xs)) ≡ f ∷ scan false [] xs
hard_scan [] d xs b = blank_scan false d (Hard ∷ xs) b
hard_scan (x ∷ f) d xs b = scan_keeps false (x ∷ []) f (d ++ Hard ∷ xs) ∙ ends d b
  where
    ends : (d : List Class) → IsBlank d → scan false (x ∷ f) (d ++ Hard ∷ xs) ≡ (x ∷ f) ∷ scan false [] xs
    ends [] b = refl
    ends (White ∷ d) b = ap (λ r. (x ∷ f) ∷ r) (blank_scan true d (Hard ∷ xs) b)
    ends (Hard ∷ d) b = absurd b
    ends (Between ∷ d) b = absurd b
    ends (Keep y ∷ d) b = absurd b

only : (xs : List Class) (fs : List (List Item)) → Fields xs fs → scan false [] xs ≡ fs
only xs fs none = refl
only xs fs (last x f) = ap (scan false []) (sym (append-nil (keeps (x ∷ f)))) ∙ scan_keeps false (x ∷ []) f []
only xs fs (white x f d rest gs b n r) =
    scan_keeps false (x ∷ []) f (White ∷ (d ++ rest))
    ∙ ap (λ q. (x ∷ f) ∷ q) (blank_scan true d rest b ∙ no_delimiter rest n ∙ only rest gs r)
only xs fs (hard f d e rest gs b c n r) =
    hard_scan f d (e ++ rest) b
    ∙ ap (λ q. f ∷ q) (blank_scan false e rest c ∙ only rest gs r)

pub only_split : (xs : List Class) (fs : List (List Item)) → NoBetween xs → Splits xs fs → fs ≡ split_one xs
only_split xs fs n s = sym (trim xs fs s) ∙ scan_one xs n
  where
    trim : (xs : List Class) (fs : List (List Item)) → Splits xs fs → scan false [] xs ≡ fs
    trim xs fs (trimmed d rest gs b n r) = blank_scan false d rest b ∙ only rest gs r
