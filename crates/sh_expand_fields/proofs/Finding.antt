-- The function finds the paths that the definition has.
use Rattle.std.proofs.Common.{◌≡◌, ◌⊎◌, inl, inr, ⊎_elim, ℕ, List, [], ◌∷◌, ◌++◌, Bool, true, false, ◌&&◌, ◌||◌, not, map, codes, Option, Some, None, refl, sym, ap, ◌∙◌, subst}
use Rattle.std.specs.Prelude.{◌↔◌, if◌then◌else◌, cond}
use Rattle.std.specs.List.{filter, flat_map, list_any}
use Rattle.std.specs.List.Sorted.{IsStrictlySortedBy}
use Rattle.std.specs.Str.{bytes_eq}
use Rattle.std.specs.Ordering.{nat_cmp}
use Rattle.std.specs.Cmp.Lexicographic.{slice_cmp}
use Rattle.sh_files_image.specs.Paths.{has_slash}
use Rattle.std.proofs.lemmas.Slice.Eq.{bytes_eq-Decides}
use Rattle.sh_files.specs.Nodes.{FileMap}
use Rattle.sh_pattern.specs.declared.pattern_byte.PatternByte.{PatternByte}
use Rattle.sh_pattern.specs.Deciding.{is_match}
use Rattle.sh_pattern.specs.Items.{byte_of}
use Rattle.sh_pattern.proofs.Decisions.{match_both}
use Rattle.sh_expand_fields.specs.declared.item.Item.{Item}
use Rattle.sh_expand_fields.specs.Found.{behind, pathnames, matching_paths, prefixes_behind, prefixes_if, is_in, is_one, or_no_names, paths_behind, paths_from, paths_if, sorted_paths, takes}
use Rattle.sh_expand_fields.specs.Pathnames.{IsExpanded, IsFound, IsIn, IsMatched, IsNamedIf, IsOne, begins_with_dot, begins_with_dot_mark, components_of, is_always_there, is_pattern, may_match, names_behind, or_itself}
use Rattle.sh_expand_fields.specs.Text.{marks_of, text_of}
use Rattle.sh_expand_fields.specs.Walk.{Adds, IsListed, Leads, LeadsFrom}
use Rattle.sh_expand_fields.proofs.Ordered.{one_sorted, rising_once, sorted_rises}
use Rattle.sh_expand_fields.proofs.Parts.{some_part}
use Rattle.sh_expand_fields.proofs.Reaching.{Stand, ends, matched, stands, starts, unmatched}
use Rattle.sh_expand_fields.proofs.Sorting.{same_bytes}

either : (b : Bool) → (b ≡ true) ⊎ (b ≡ false)
either true = inl refl
either false = inr refl

and_parts : (a b : Bool) → (a && b) ≡ true → (a ≡ true) × (b ≡ true)
and_parts true b h = (refl, h)
and_parts false b h = absurd (cc)

and_both : (a b : Bool) → a ≡ true → b ≡ true → (a && b) ≡ true
and_both a b h k = ap (λ x. x && b) h ∙ k

-- ---- one of two lists, of a list of lists, of those that pass
one_append : (t : List ℕ) (xs ys : List (List ℕ)) → IsOne t (xs ++ ys) ↔ (IsOne t xs ⊎ IsOne t ys)
one_append t [] ys = (λ h. inr h, ⊎_elim (λ h. absurd h) (λ h. h))
one_append t (x ∷ xs) ys = (
  ⊎_elim (λ e. inl (inl e)) (λ h. ⊎_elim (λ k. inl (inr k)) (λ k. inr k) ((one_append t xs ys).0 h)),
  ⊎_elim (⊎_elim (λ e. inl e) (λ k. inr ((one_append t xs ys).1 (inl k)))) (λ k. inr ((one_append t xs ys).1 (inr k))),
)

-- the paths of the names that pass
abbrev Passing : (List ℕ → Bool) → List ℕ → List ℕ → List (List ℕ) → List ℕ → Type 0
Passing test before end names t = (n : List ℕ) × (test n ≡ true) × IsOne n names × (t ≡ behind before end n)

one_more : (test : List ℕ → Bool) (before end : List ℕ) (x : List ℕ) (names : List (List ℕ)) (t : List ℕ) (b : Bool) → test x ≡ b → (IsOne t (map (behind before end) (filter test names)) ↔ Passing test before end names t) → IsOne t (map (behind before end) (cond b (x ∷ filter test names) (filter test names))) ↔ Passing test before end (x ∷ names) t
one_more test before end x names t true e m = (
  ⊎_elim (λ k. (x, e, inl refl, k)) (λ k. let r = m.0 k in (r.0, r.1, inr r.2, r.3)),
  λ h. ⊎_elim (λ (k : h.0 ≡ x). inl (h.3 ∙ ap (behind before end) k)) (λ (k : IsOne h.0 names). inr (m.1 (h.0, h.1, k, h.3))) h.2,
)
one_more test before end x names t false e m = (
  λ k. let r = m.0 k in (r.0, r.1, inr r.2, r.3),
  λ h. ⊎_elim (λ (k : h.0 ≡ x). let z : test x ≡ true = subst (λ y. test y ≡ true) k h.1 in let w : false ≡ true = sym e ∙ z in absurd (cc)) (λ (k : IsOne h.0 names). m.1 (h.0, h.1, k, h.3)) h.2,
)

one_passing : (test : List ℕ → Bool) (before end : List ℕ) (names : List (List ℕ)) (t : List ℕ) → IsOne t (map (behind before end) (filter test names)) ↔ Passing test before end names t
one_passing test before end [] t = (λ h. absurd h, λ h. absurd h.2)
one_passing test before end (x ∷ names) t = one_more test before end x names t (test x) refl (one_passing test before end names t)

-- ---- names
taken_named : (c : List PatternByte) (n : List ℕ) → takes c n ≡ true → IsNamedIf true c n
taken_named c n h = let p = and_parts (may_match c n) (is_match c n) h in (p.0, (match_both c n).0 p.1)

named_taken : (c : List PatternByte) (n : List ℕ) → IsNamedIf true c n → takes c n ≡ true
named_taken c n h = and_both (may_match c n) (is_match c n) h.0 ((match_both c n).1 h.1)

listed_one : (o : Option (List (List ℕ))) (n : List ℕ) → IsListed true o n → IsOne n (or_no_names o)
listed_one None n h = absurd h
listed_one (Some names) n h = h

one_listed : (o : Option (List (List ℕ))) (n : List ℕ) → IsOne n (or_no_names o) → IsListed true o n
one_listed None n h = h
one_listed (Some names) n h = h

-- ---- a component on the way
abbrev LeadsIf : Bool → FileMap → List ℕ → List ℕ → List PatternByte → List ℕ → Type 0
LeadsIf b files directory before c t = (n : List ℕ) × IsNamedIf b c n × IsListed b (names_behind files directory before) n × (t ≡ before ++ (n ++ 47 ∷ []))

prefix_if : (b : Bool) (files : FileMap) (directory before : List ℕ) (c : List PatternByte) (t : List ℕ) → IsOne t (prefixes_if b files directory c before) ↔ LeadsIf b files directory before c t
prefix_if true files directory before c t =
    let o = names_behind files directory before in
    let m = one_passing (takes c) before (47 ∷ []) (or_no_names o) t in (
      λ h. let r = m.0 h in (r.0, taken_named c r.0 r.1, one_listed o r.0 r.2, r.3),
      λ h. m.1 (h.0, named_taken c h.0 h.1, listed_one o h.0 h.2, h.3),
    )
prefix_if false files directory before c t = (
  ⊎_elim (λ e. (map byte_of c, refl, tt, e)) (λ h. absurd h),
  λ h. inl (h.3 ∙ ap (behind before (47 ∷ [])) h.1),
)

-- ---- the last one
same_is : (x y : List ℕ) → bytes_eq x y ≡ true → x ≡ y
same_is x y h = same_bytes x y h

one_is : (t : List ℕ) (xs : List (List ℕ)) → (is_one t xs ≡ true → IsOne t xs) × (IsOne t xs → is_one t xs ≡ true)
one_is t [] = (λ h. absurd (cc), λ h. absurd h)
one_is t (x ∷ xs) = (
  λ h. ⊎_elim (λ (e : bytes_eq t x ≡ true). inl (same_is t x e)) (λ (k : is_one t xs ≡ true). inr ((one_is t xs).0 k)) (or_parts (bytes_eq t x) (is_one t xs) h),
  ⊎_elim (λ e. or_left (bytes_eq t x) (is_one t xs) (same_refl t x e)) (λ k. or_right (bytes_eq t x) (is_one t xs) ((one_is t xs).1 k)),
)
  where
    or_parts : (a b : Bool) → (a || b) ≡ true → (a ≡ true) ⊎ (b ≡ true)
    or_parts true b h = inl refl
    or_parts false b h = inr h

    or_left : (a b : Bool) → a ≡ true → (a || b) ≡ true
    or_left a b h = ap (λ x. x || b) h

    or_right : (a b : Bool) → b ≡ true → (a || b) ≡ true
    or_right true b h = refl
    or_right false b h = h

    same_refl : (x y : List ℕ) → x ≡ y → bytes_eq x y ≡ true
    same_refl x y e = (bytes_eq-Decides x y).1 e

in_both : (o : Option (List (List ℕ))) (n : List ℕ) → (is_in o n ≡ true → IsIn o n) × (IsIn o n → is_in o n ≡ true)
in_both None n = (λ h. absurd (cc), λ h. absurd h)
in_both (Some names) n = (
  λ h. ⊎_elim (λ (e : is_always_there n ≡ true). inl e) (λ (k : is_one n names ≡ true). inr ((one_is n names).0 k)) (parts (is_always_there n) (is_one n names) h),
  ⊎_elim (λ e. ap (λ b. b || is_one n names) e) (λ k. right (is_always_there n) (is_one n names) ((one_is n names).1 k)),
)
  where
    parts : (a b : Bool) → (a || b) ≡ true → (a ≡ true) ⊎ (b ≡ true)
    parts true b h = inl refl
    parts false b h = inr h

    right : (a b : Bool) → b ≡ true → (a || b) ≡ true
    right true b h = refl
    right false b h = h

-- what a pattern takes is not in each directory
not_there : (a s d e x : Bool) → ((not a && (not s && (not d && not e))) && x) ≡ true → (a || (d || e)) ≡ true → ⊥
not_there true s d e x h k = absurd (cc)
not_there false true d e x h k = absurd (cc)
not_there false false true e x h k = absurd (cc)
not_there false false false true x h k = absurd (cc)
not_there false false false false x h k = absurd (cc)

taken_in : (o : Option (List (List ℕ))) (c : List PatternByte) (n : List ℕ) → may_match c n ≡ true → IsIn o n → IsOne n (or_no_names o)
taken_in None c n m h = absurd h
taken_in (Some names) c n m h =
    ⊎_elim
    (λ (e : is_always_there n ≡ true). absurd (not_there (bytes_eq n []) (has_slash n) (bytes_eq n (codes ".")) (bytes_eq n (codes "..")) (not (begins_with_dot n) || begins_with_dot_mark c) m e))
    (λ (k : IsOne n names). k)
    h

in_taken : (o : Option (List (List ℕ))) (n : List ℕ) → IsOne n (or_no_names o) → IsIn o n
in_taken None n h = h
in_taken (Some names) n h = inr h

abbrev EndsIf : Bool → FileMap → List ℕ → List ℕ → List PatternByte → List ℕ → Type 0
EndsIf b files directory before c t = (n : List ℕ) × IsNamedIf b c n × IsIn (names_behind files directory before) n × (t ≡ before ++ (n ++ []))

one_if : (b : Bool) (x t : List ℕ) (Fact : Type 0) → (b ≡ true → t ≡ x → Fact) → (Fact → (b ≡ true) × (t ≡ x)) → IsOne t (if b then x ∷ [] else []) ↔ Fact
one_if true x t Fact f g = (⊎_elim (λ e. f refl e) (λ h. absurd h), λ h. inl (g h).1)
one_if false x t Fact f g = (λ h. absurd h, λ h. let e : false ≡ true = (g h).0 in absurd (cc))

path_if : (b : Bool) (files : FileMap) (directory before : List ℕ) (c : List PatternByte) (t : List ℕ) → IsOne t (paths_if b files directory c before) ↔ EndsIf b files directory before c t
path_if true files directory before c t =
    let o = names_behind files directory before in
    let m = one_passing (takes c) before [] (or_no_names o) t in (
      λ h. let r = m.0 h in (r.0, taken_named c r.0 r.1, in_taken o r.0 r.2, r.3),
      λ h. m.1 (h.0, named_taken c h.0 h.1, taken_in o c h.0 h.1.0 h.2, h.3),
    )
path_if false files directory before c t =
    let o = names_behind files directory before in
    one_if (is_in o (map byte_of c)) (behind before [] (map byte_of c)) t (EndsIf false files directory before c t)
    (λ h e. (map byte_of c, refl, (in_both o (map byte_of c)).0 h, e))
    (λ h. ((in_both o (map byte_of c)).1 (subst (IsIn o) h.1 h.2), h.3 ∙ ap (behind before []) h.1))

-- ---- from some prefixes
leads_all : (last : Bool) (files : FileMap) (directory : List ℕ) (c : List PatternByte) (f : List ℕ → List (List ℕ)) → ((before t : List ℕ) → IsOne t (f before) ↔ Leads last files directory before c t) → (fs : List (List ℕ)) (t : List ℕ) → IsOne t (flat_map f fs) ↔ LeadsFrom last files directory fs c t
leads_all last files directory c f one [] t = (λ h. h, λ h. h)
leads_all last files directory c f one (x ∷ fs) t =
    let both = one_append t (f x) (flat_map f fs) in
    let more = leads_all last files directory c f one fs t in (
      λ h. ⊎_elim (λ k. inl ((one x t).0 k)) (λ k. inr (more.0 k)) (both.0 h),
      λ h. both.1 (⊎_elim (λ k. inl ((one x t).1 k)) (λ k. inr (more.1 k)) h),
    )

adds_all : (last : Bool) (files : FileMap) (directory : List ℕ) (c : List PatternByte) (f : List ℕ → List (List ℕ)) → ((before t : List ℕ) → IsOne t (f before) ↔ Leads last files directory before c t) → (fs : List (List ℕ)) → Adds [] (LeadsFrom last files directory fs c) (flat_map f fs)
adds_all last files directory c f one fs t =
    let m = leads_all last files directory c f one fs t in
    (λ h. inr (m.0 h), ⊎_elim (λ h. absurd h) (λ h. m.1 h))

found_from : (files : FileMap) (directory : List ℕ) (pattern c : List PatternByte) (cs : List (List PatternByte)) (fs : List (List ℕ)) → Stand files directory fs (c ∷ cs) pattern → (t : List ℕ) → IsOne t (paths_from files directory fs (c ∷ cs)) ↔ IsFound files directory pattern t
found_from files directory pattern c [] fs s t =
    ends files directory pattern fs (flat_map (paths_behind files directory c) fs) c s (adds_all true files directory c (paths_behind files directory c) (λ before t. path_if (is_pattern c) files directory before c t) fs) t
found_from files directory pattern c (d ∷ cs) fs s t =
    found_from files directory pattern d cs (flat_map (prefixes_behind files directory c) fs)
    (stands files directory pattern fs (flat_map (prefixes_behind files directory c) fs) c d cs s (adds_all false files directory c (prefixes_behind files directory c) (λ before t. prefix_if (is_pattern c) files directory before c t) fs)) t

all_found : (files : FileMap) (directory : List ℕ) (pattern : List PatternByte) (t : List ℕ) → IsOne t (paths_from files directory ([] ∷ []) (components_of pattern)) ↔ IsFound files directory pattern t
all_found files directory pattern t =
    let p = some_part pattern in
    subst (λ x. IsOne t (paths_from files directory ([] ∷ []) x) ↔ IsFound files directory pattern t) (sym p.2)
    (found_from files directory pattern p.0 p.1 ([] ∷ []) (subst (λ x. Stand files directory ([] ∷ []) x pattern) p.2 (starts files directory pattern ([] ∷ []) refl)) t)

-- ---- in order
none_rise : IsStrictlySortedBy (slice_cmp nat_cmp) []
unfolding IsStrictlySortedBy
none_rise = tt

record Found (files : FileMap) (directory : List ℕ) (pattern : List PatternByte) (paths : List (List ℕ)) : Type 0 where
  rises : IsStrictlySortedBy (slice_cmp nat_cmp) paths
  same : (t : List ℕ) → IsOne t paths ↔ IsMatched files directory pattern t

found_if : (files : FileMap) (directory : List ℕ) (pattern : List PatternByte) (b : Bool) → list_any is_pattern (components_of pattern) ≡ b → Found files directory pattern (if b then sorted_paths (paths_from files directory ([] ∷ []) (components_of pattern)) else [])
found_if files directory pattern true e =
    let ps : List (List ℕ) = paths_from files directory ([] ∷ []) (components_of pattern) in
    record { rises = sorted_rises ps; same = matched files directory pattern ps (sorted_paths ps) e (all_found files directory pattern) (one_sorted ps) }
found_if files directory pattern false e = record { rises = none_rise; same = unmatched files directory pattern e }

is_found : (files : FileMap) (directory : List ℕ) (pattern : List PatternByte) → Found files directory pattern (matching_paths files directory pattern)
is_found files directory pattern = found_if files directory pattern (list_any is_pattern (components_of pattern)) refl

pub is_expanded : (files : FileMap) (directory : List ℕ) (field : List Item) → IsExpanded files directory field (pathnames files directory field)
unfolding pathnames
is_expanded files directory field =
    let f = is_found files directory (marks_of field) in
    (matching_paths files directory (marks_of field), f.rises, f.same, refl)

pub only_expanded : (files : FileMap) (directory : List ℕ) (field : List Item) (paths : List (List ℕ)) → IsExpanded files directory field paths → paths ≡ pathnames files directory field
unfolding pathnames
only_expanded files directory field paths h =
    let f = is_found files directory (marks_of field) in
    h.3 ∙ ap (λ x. or_itself x (text_of field)) (rising_once h.0 (matching_paths files directory (marks_of field)) h.1 f.rises (λ t. (λ k. (f.same t).1 ((h.2 t).0 k), λ k. (h.2 t).1 ((f.same t).0 k))))

pub expanded_both : (files : FileMap) (directory : List ℕ) (field : List Item) (paths : List (List ℕ)) → IsExpanded files directory field paths ↔ (paths ≡ pathnames files directory field)
expanded_both files directory field paths = (λ h. only_expanded files directory field paths h, λ e. subst (IsExpanded files directory field) (sym e) (is_expanded files directory field))
