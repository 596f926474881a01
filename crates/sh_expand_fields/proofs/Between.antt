-- The fields stand between delimiters.
use Rattle.std.proofs.Common.{List, [], ◌∷◌, ◌++◌, Bool, true, false, sym, subst, append_assoc, append-nil}
use Rattle.sh_expand_fields.specs.declared.item.Item.{Item}
use Rattle.sh_expand_fields.specs.declared.class.Class.{Class}
use Rattle.sh_expand_fields.specs.declared.class.Class.TheVariants.{White, Hard, Between, Keep}
use Rattle.sh_expand_fields.specs.Splitting.{split_one}
use Rattle.sh_expand_fields.specs.Scan.{scan}
use Rattle.sh_expand_fields.specs.Ranges.{keeps, IsBlank, NoBetween, Fields, none, last, white, hard, Splits, trimmed}
use Rattle.sh_expand_fields.proofs.Scans.{keeps_snoc, scan_one}

add_white : (xs : List Class) (fs : List (List Item)) → Splits xs fs → Splits (White ∷ xs) fs
add_white xs fs (trimmed d rest gs b n r) = trimmed (White ∷ d) rest gs b n r

add_hard : (f : List Item) (d : List Class) (xs : List Class) (fs : List (List Item)) → IsBlank d → Splits xs fs → Fields (keeps f ++ (d ++ Hard ∷ xs)) (f ∷ fs)
add_hard f d xs fs b (trimmed e rest gs c n r) = hard f d e rest gs b c n r

blank_more : (d : List Class) → IsBlank d → IsBlank (d ++ White ∷ [])
blank_more [] b = tt
blank_more (White ∷ d) b = blank_more d b
blank_more (Hard ∷ d) b = absurd b
blank_more (Between ∷ d) b = absurd b
blank_more (Keep x ∷ d) b = absurd b

record Facts (xs : List Class) : Type 0 where
  -- behind a hard delimiter, or at the start
  fresh : Splits xs (scan false [] xs)
  -- within a field
  within : (any : Bool) (x : Item) (f : List Item) → Fields (keeps (x ∷ f) ++ xs) (scan any (x ∷ f) xs)
  -- within a delimiter that has no hard one yet
  behind : (x : Item) (f : List Item) (d : List Class) → IsBlank d → Fields (keeps (x ∷ f) ++ White ∷ (d ++ xs)) ((x ∷ f) ∷ scan true [] xs)

facts : (xs : List Class) → NoBetween xs → Facts xs
facts [] n = record {
  fresh = trimmed [] [] [] tt tt none;
  within = λ any x f. subst (λ l. Fields l ((x ∷ f) ∷ [])) (sym (append-nil (keeps (x ∷ f)))) (last x f);
  behind = λ x f d b. white x f d [] [] b tt none;
}
facts (Keep y ∷ xs) n =
    let h : Facts xs = facts xs n in
    record {
      fresh = trimmed [] (Keep y ∷ xs) (scan false (y ∷ []) xs) tt tt (h.within false y []);
      within = λ any x f. subst (λ l. Fields l (scan any (x ∷ (f ++ y ∷ [])) xs)) (keeps_snoc (x ∷ f) y xs) (h.within any x (f ++ y ∷ []));
      behind = λ x f d b. white x f d (Keep y ∷ xs) (scan true (y ∷ []) xs) b tt (h.within true y []);
    }
facts (White ∷ xs) n =
    let h : Facts xs = facts xs n in
    record {
      fresh = add_white xs (scan false [] xs) h.fresh;
      within = λ any x f. h.behind x f [] tt;
      behind = λ x f d b. subst (λ l. Fields (keeps (x ∷ f) ++ White ∷ l) ((x ∷ f) ∷ scan true [] xs)) (append_assoc d (White ∷ []) xs) (h.behind x f (d ++ White ∷ []) (blank_more d b));
    }
facts (Hard ∷ xs) n =
    let h : Facts xs = facts xs n in
    record {
      fresh = trimmed [] (Hard ∷ xs) ([] ∷ scan false [] xs) tt tt (add_hard [] [] xs (scan false [] xs) tt h.fresh);
      within = λ any x f. add_hard (x ∷ f) [] xs (scan false [] xs) tt h.fresh;
      behind = λ x f d b. add_hard (x ∷ f) (White ∷ d) xs (scan false [] xs) b h.fresh;
    }
facts (Between ∷ xs) n = absurd n

pub stands_between : (xs : List Class) → NoBetween xs → Splits xs (split_one xs)
stands_between xs n = subst (Splits xs) (scan_one xs n) (facts xs n).fresh
