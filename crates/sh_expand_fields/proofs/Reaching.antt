-- Component by component the paths that match are found.
use Rattle.std.proofs.Common.{◌≡◌, inl, inr, ⊎_elim, ℕ, List, [], ◌∷◌, ◌++◌, Bool, true, false, ◌&&◌, ◌||◌, not, append_assoc, append-nil, codes, Option, Some, None, refl, sym, ap, ◌∙◌, subst}
use Rattle.std.specs.Prelude.{◌↔◌}
use Rattle.std.specs.List.{join_with_byte, list_any}
use Rattle.std.specs.List.Sorted.{IsStrictlySortedBy}
use Rattle.std.specs.Ordering.{nat_cmp}
use Rattle.std.specs.Cmp.Lexicographic.{slice_cmp}
use Rattle.std.specs.Str.{bytes_eq}
use Rattle.sh_files_image.specs.Paths.{has_slash}
use Rattle.sh_files.specs.Nodes.{FileMap, walk_end}
use Rattle.sh_pattern.specs.declared.pattern_byte.PatternByte.{PatternByte}
use Rattle.sh_expand_fields.specs.Pathnames.{AreNamed, IsExpanded, IsFound, IsIn, IsMatched, IsNamed, IsNamedIf, IsOne, IsThere, begins_with_dot, begins_with_dot_mark, components_of, is_pattern, may_match, names_behind, or_itself}
use Rattle.sh_expand_fields.specs.Text.{marks_of, text_of}
use Rattle.sh_expand_fields.specs.Walk.{Adds, IsListed, Leads, LeadsFrom, pattern_split}
use Rattle.sh_expand_fields.specs.declared.item.Item.{Item}
use Rattle.sh_expand_fields.proofs.Parts.{first_part, only_part, some_part}
use Rattle.sh_expand_fields.proofs.Prefixes.{IsPrefix, IsProper, back, held, not_root, one_part}

not_true : (b : Bool) → not b ≡ true → b ≡ false
not_true true h = cc
not_true false h = refl

both : (a b : Bool) → (a && b) ≡ true → (a ≡ true) × (b ≡ true)
both true b h = (refl, h)
both false b h = cc

proper : (c : List PatternByte) (n : List ℕ) → may_match c n ≡ true → IsProper n
proper c n h =
    let p = both (not (bytes_eq n []) && (not (has_slash n) && (not (bytes_eq n (codes ".")) && not (bytes_eq n (codes ".."))))) (not (begins_with_dot n) || begins_with_dot_mark c) h in
    let q = both (not (bytes_eq n [])) (not (has_slash n) && (not (bytes_eq n (codes ".")) && not (bytes_eq n (codes "..")))) p.0 in
    let r = both (not (has_slash n)) (not (bytes_eq n (codes ".")) && not (bytes_eq n (codes ".."))) q.1 in
    let s = both (not (bytes_eq n (codes "."))) (not (bytes_eq n (codes ".."))) r.1 in
    record { filled = not_true (bytes_eq n []) q.0; slashless = not_true (has_slash n) r.0; no_dot = not_true (bytes_eq n (codes ".")) s.0; no_dots = not_true (bytes_eq n (codes "..")) s.1 }

-- ---- paths that are there
abbrev Slashed : List ℕ → Type 0
Slashed f = (g : List ℕ) × (f ≡ g ++ 47 ∷ [])

slashed : (f n : List ℕ) → Slashed (f ++ (n ++ 47 ∷ []))
slashed f n = (f ++ n, sym (append_assoc f n (47 ∷ [])))

never_empty : (g : List ℕ) → g ++ 47 ∷ [] ≡ [] → ⊥
never_empty [] h = cc
never_empty (x ∷ g) h = cc

has_names : (o : Option (List (List ℕ))) (n : List ℕ) → IsIn o n → (ys : List (List ℕ)) × (o ≡ Some ys)
has_names None n h = absurd h
has_names (Some ys) n h = (ys, refl)

-- behind a prefix with a slash, what is there is in a directory
there_listed : (files : FileMap) (directory f : List ℕ) (ns : List (List ℕ)) → Slashed f → IsThere files directory f ns → (ys : List (List ℕ)) × (names_behind files directory f ≡ Some ys)
there_listed files directory f [] s t = absurd t
there_listed files directory f (n ∷ []) s t = has_names (names_behind files directory f) n t
there_listed files directory f (n ∷ m ∷ ns) s t =
    let r = there_listed files directory (f ++ (n ++ 47 ∷ [])) (m ∷ ns) (slashed f n) t in
    let b = back files directory f n (inr s) (λ e. absurd (never_empty s.0 (sym s.1 ∙ e))) r.0 r.1 in
    (_, b.listing)

-- a name that a pattern takes on the way is one of its directory
named_listed : (files : FileMap) (directory f : List ℕ) (c : List PatternByte) (n m : List ℕ) (ns : List (List ℕ)) → IsPrefix f → IsNamed c n → IsThere files directory (f ++ (n ++ 47 ∷ [])) (m ∷ ns) → IsListed (is_pattern c) (names_behind files directory f) n
named_listed files directory f c n m ns prefix h t = by (is_pattern c) h
  where
    by : (b : Bool) → IsNamedIf b c n → IsListed b (names_behind files directory f) n
    by false k = tt
    by true k =
        let p = proper c n k.0 in
        let r = there_listed files directory (f ++ (n ++ 47 ∷ [])) (m ∷ ns) (slashed f n) t in
        let b = back files directory f n prefix (λ e. not_root n p) r.0 r.1 in
        subst (λ o. IsListed true o n) (sym b.listing) (held files b.mid n b.place p (ap (λ (x : List (List ℕ)). walk_end files b.mid (x ++ [] ∷ [])) (sym (one_part n p.slashless)) ∙ b.onward))

-- ---- names and their components, one by one
are_cons : (c : List PatternByte) (cs : List (List PatternByte)) (n : List ℕ) (ns : List (List ℕ)) → IsNamed c n → AreNamed cs ns → AreNamed (c ∷ cs) (n ∷ ns)
are_cons c cs n ns h t = (h, t)

are_head : (c : List PatternByte) (cs : List (List PatternByte)) (n : List ℕ) (ns : List (List ℕ)) → AreNamed (c ∷ cs) (n ∷ ns) → IsNamed c n
are_head c cs n ns h = h.0

are_tail : (c : List PatternByte) (cs : List (List PatternByte)) (n : List ℕ) (ns : List (List ℕ)) → AreNamed (c ∷ cs) (n ∷ ns) → AreNamed cs ns
are_tail c cs n ns h = h.1

-- ---- paths that are found from fronts
abbrev From : FileMap → List ℕ → List ℕ → List (List PatternByte) → List ℕ → Type 0
From files directory f cs t = (names : List (List ℕ)) × AreNamed cs names × IsThere files directory f names × (t ≡ f ++ join_with_byte 47 names)

pub record Reach (files : FileMap) (directory : List ℕ) (fs : List (List ℕ)) (cs : List (List PatternByte)) (t : List ℕ) : Type 0 where
  pub prefix : List ℕ
  pub one : IsOne prefix fs
  pub found : From files directory prefix cs t

unfoldable pub ArePrefixes : List (List ℕ) → Type 0
ArePrefixes fs = (f : List ℕ) → IsOne f fs → IsPrefix f

leads_to : (last : Bool) (files : FileMap) (directory : List ℕ) (fs : List (List ℕ)) (c : List PatternByte) (t : List ℕ) → LeadsFrom last files directory fs c t → (f : List ℕ) × IsOne f fs × Leads last files directory f c t
leads_to last files directory [] c t h = absurd h
leads_to last files directory (f ∷ fs) c t h =
    ⊎_elim
    (λ (k : Leads last files directory f c t). (f, inl refl, k))
    (λ (k : LeadsFrom last files directory fs c t). let r = leads_to last files directory fs c t k in (r.0, inr r.1, r.2))
    h

leads_from : (last : Bool) (files : FileMap) (directory : List ℕ) (fs : List (List ℕ)) (c : List PatternByte) (f t : List ℕ) → IsOne f fs → Leads last files directory f c t → LeadsFrom last files directory fs c t
leads_from last files directory [] c f t o h = absurd o
leads_from last files directory (x ∷ fs) c f t o h =
    ⊎_elim
    (λ (e : f ≡ x). inl (subst (λ y. Leads last files directory y c t) e h))
    (λ (k : IsOne f fs). inr (leads_from last files directory fs c f t k h))
    o

added_to : (gs : List (List ℕ)) (more : List ℕ → Type 0) → Adds [] more gs → (t : List ℕ) → IsOne t gs → more t
added_to gs more a t h = ⊎_elim (λ x. absurd x) (λ x. x) ((a t).0 h)

next_prefixes : (files : FileMap) (directory : List ℕ) (fs gs : List (List ℕ)) (c : List PatternByte) → Adds [] (LeadsFrom false files directory fs c) gs → ArePrefixes gs
unfolding ArePrefixes
next_prefixes files directory fs gs c a g h =
    let r = leads_to false files directory fs c g (added_to gs (LeadsFrom false files directory fs c) a g h) in
    let s = slashed r.0 r.2.0 in
    inr (s.0, r.2.3 ∙ s.1)

path_step : (f n m : List ℕ) (ms : List (List ℕ)) → (f ++ (n ++ 47 ∷ [])) ++ join_with_byte 47 (m ∷ ms) ≡ f ++ join_with_byte 47 (n ∷ m ∷ ms)
path_step f n m ms = append_assoc f (n ++ 47 ∷ []) (join_with_byte 47 (m ∷ ms)) ∙ ap (λ (x : List ℕ). f ++ x) (append_assoc n (47 ∷ []) (join_with_byte 47 (m ∷ ms)))

-- one more component, with others behind it
reach_to : (files : FileMap) (directory : List ℕ) (fs gs : List (List ℕ)) (c d : List PatternByte) (cs : List (List PatternByte)) (t : List ℕ) → Adds [] (LeadsFrom false files directory fs c) gs → Reach files directory gs (d ∷ cs) t → Reach files directory fs (c ∷ d ∷ cs) t
reach_to files directory fs gs c d cs t a h =
    let r = leads_to false files directory fs c h.prefix (added_to gs (LeadsFrom false files directory fs c) a h.prefix h.one) in
    record { prefix = r.0; one = r.1; found = onto r.0 r.2 h.found }
  where
    onto : (f : List ℕ) → Leads false files directory f c h.prefix → From files directory h.prefix (d ∷ cs) t → From files directory f (c ∷ d ∷ cs) t
    onto f l k = by k.0 k.1 k.2 k.3
      where
        by : (names : List (List ℕ)) → AreNamed (d ∷ cs) names → IsThere files directory h.prefix names → t ≡ h.prefix ++ join_with_byte 47 names → From files directory f (c ∷ d ∷ cs) t
        by [] are there e = absurd are
        by (m ∷ ms) are there e = (l.0 ∷ m ∷ ms, are_cons c (d ∷ cs) l.0 (m ∷ ms) l.1 are, subst (λ x. IsThere files directory x (m ∷ ms)) l.3 there, e ∙ ap (λ (x : List ℕ). x ++ join_with_byte 47 (m ∷ ms)) l.3 ∙ path_step f l.0 m ms)

reach_from : (files : FileMap) (directory : List ℕ) (fs gs : List (List ℕ)) (c d : List PatternByte) (cs : List (List PatternByte)) (t : List ℕ) → ArePrefixes fs → Adds [] (LeadsFrom false files directory fs c) gs → Reach files directory fs (c ∷ d ∷ cs) t → Reach files directory gs (d ∷ cs) t
unfolding ArePrefixes
reach_from files directory fs gs c d cs t prefixes a h = by h.found.0 h.found.1 h.found.2 h.found.3
  where
    by : (names : List (List ℕ)) → AreNamed (c ∷ d ∷ cs) names → IsThere files directory h.prefix names → t ≡ h.prefix ++ join_with_byte 47 names → Reach files directory gs (d ∷ cs) t
    by [] are there e = absurd are
    by (n ∷ []) are there e = absurd (are_tail c (d ∷ cs) n [] are)
    by (n ∷ m ∷ ms) are there e =
        let l = named_listed files directory h.prefix c n m ms (prefixes h.prefix h.one) (are_head c (d ∷ cs) n (m ∷ ms) are) there in
        record {
          prefix = h.prefix ++ (n ++ 47 ∷ []);
          one = (a (h.prefix ++ (n ++ 47 ∷ []))).1 (inr (leads_from false files directory fs c h.prefix (h.prefix ++ (n ++ 47 ∷ [])) h.one (n, are_head c (d ∷ cs) n (m ∷ ms) are, l, refl)));
          found = (m ∷ ms, are_tail c (d ∷ cs) n (m ∷ ms) are, there, e ∙ sym (path_step h.prefix n m ms));
        }

-- the last component
reach_last : (files : FileMap) (directory : List ℕ) (fs ps : List (List ℕ)) (c : List PatternByte) → Adds [] (LeadsFrom true files directory fs c) ps → (t : List ℕ) → IsOne t ps ↔ Reach files directory fs (c ∷ []) t
reach_last files directory fs ps c a t = (
  λ h.
      let r = leads_to true files directory fs c t (added_to ps (LeadsFrom true files directory fs c) a t h) in
      record { prefix = r.0; one = r.1; found = (r.2.0 ∷ [], are_cons c [] r.2.0 [] r.2.1 tt, r.2.2, r.2.3 ∙ ap (λ (x : List ℕ). r.0 ++ x) (append-nil r.2.0)) },
  λ h. by h h.found.0 h.found.1 h.found.2 h.found.3,
)
  where
    by : (h : Reach files directory fs (c ∷ []) t) (names : List (List ℕ)) → AreNamed (c ∷ []) names → IsThere files directory h.prefix names → t ≡ h.prefix ++ join_with_byte 47 names → IsOne t ps
    by h [] are there e = absurd are
    by h (n ∷ []) are there e = (a t).1 (inr (leads_from true files directory fs c h.prefix t h.one (n, are_head c [] n [] are, there, e ∙ ap (λ (x : List ℕ). h.prefix ++ x) (sym (append-nil n)))))
    by h (n ∷ m ∷ ms) are there e = absurd (are_tail c [] n (m ∷ ms) are)

-- ---- all components
pub record Stand (files : FileMap) (directory : List ℕ) (fs : List (List ℕ)) (cs : List (List PatternByte)) (pattern : List PatternByte) : Type 0 where
  pub prefixes : ArePrefixes fs
  pub same : (t : List ℕ) → Reach files directory fs cs t ↔ IsFound files directory pattern t

pub starts : (files : FileMap) (directory : List ℕ) (pattern : List PatternByte) (fs : List (List ℕ)) → fs ≡ [] ∷ [] → Stand files directory fs (components_of pattern) pattern
unfolding ArePrefixes
starts files directory pattern fs e = subst (λ (x : List (List ℕ)). Stand files directory x (components_of pattern) pattern) (sym e) (record {
  prefixes = λ f h. ⊎_elim (λ (k : f ≡ []). inl k) (λ k. absurd k) h;
  same = λ t. (λ h. ⊎_elim (λ (k : h.prefix ≡ []). subst (λ f. From files directory f (components_of pattern) t) k h.found) (λ k. absurd k) h.one, λ h. record { prefix = []; one = inl refl; found = h });
})

pub stands : (files : FileMap) (directory : List ℕ) (pattern : List PatternByte) (fs gs : List (List ℕ)) (c d : List PatternByte) (cs : List (List PatternByte)) → Stand files directory fs (c ∷ d ∷ cs) pattern → Adds [] (LeadsFrom false files directory fs c) gs → Stand files directory gs (d ∷ cs) pattern
stands files directory pattern fs gs c d cs s a = record {
  prefixes = next_prefixes files directory fs gs c a;
  same = λ t. (λ h. (s.same t).0 (reach_to files directory fs gs c d cs t a h), λ h. reach_from files directory fs gs c d cs t s.prefixes a ((s.same t).1 h));
}

pub ends : (files : FileMap) (directory : List ℕ) (pattern : List PatternByte) (fs ps : List (List ℕ)) (c : List PatternByte) → Stand files directory fs (c ∷ []) pattern → Adds [] (LeadsFrom true files directory fs c) ps → (t : List ℕ) → IsOne t ps ↔ IsFound files directory pattern t
ends files directory pattern fs ps c s a t =
    let l = reach_last files directory fs ps c a t in
    (λ h. (s.same t).0 (l.0 h), λ h. l.1 ((s.same t).1 h))

-- ---- along a pattern
pub stands_next : (files : FileMap) (directory : List ℕ) (pattern rest : List PatternByte) (p : List PatternByte × List PatternByte) (fs gs : List (List ℕ)) → Some p ≡ pattern_split rest → Stand files directory fs (components_of rest) pattern → Adds [] (LeadsFrom false files directory fs p.0) gs → Stand files directory gs (components_of p.1) pattern
stands_next files directory pattern rest p fs gs h s a =
    let f = some_part p.1 in
    subst (λ x. Stand files directory gs x pattern) (sym f.2) (stands files directory pattern fs gs p.0 f.0 f.1 (subst (λ x. Stand files directory fs x pattern) (first_part rest p h ∙ ap (λ (x : List (List PatternByte)). p.0 ∷ x) f.2) s) a)

pub stands_last : (files : FileMap) (directory : List ℕ) (pattern rest : List PatternByte) (fs ps : List (List ℕ)) → None ≡ pattern_split rest → Stand files directory fs (components_of rest) pattern → Adds [] (LeadsFrom true files directory fs rest) ps → (t : List ℕ) → IsOne t ps ↔ IsFound files directory pattern t
stands_last files directory pattern rest fs ps h s a = ends files directory pattern fs ps rest (subst (λ x. Stand files directory fs x pattern) (only_part rest h) s) a

-- ---- in order
also : {A B : Type 0} → A → B → A × B
also a b = (a, b)

rest_of : {A B : Type 0} → A × B → B
rest_of h = h.1

pub matched : (files : FileMap) (directory : List ℕ) (pattern : List PatternByte) (ps qs : List (List ℕ)) → list_any is_pattern (components_of pattern) ≡ true → ((t : List ℕ) → IsOne t ps ↔ IsFound files directory pattern t) → ((t : List ℕ) → IsOne t qs ↔ IsOne t ps) → (t : List ℕ) → IsOne t qs ↔ IsMatched files directory pattern t
matched files directory pattern ps qs e f g t = (λ h. also e ((f t).0 ((g t).0 h)), λ h. (g t).1 ((f t).1 (rest_of {A = list_any is_pattern (components_of pattern) ≡ true} {B = IsFound files directory pattern t} h)))

pub unmatched : (files : FileMap) (directory : List ℕ) (pattern : List PatternByte) → list_any is_pattern (components_of pattern) ≡ false → (t : List ℕ) → IsOne t [] ↔ IsMatched files directory pattern t
unmatched files directory pattern e t = (λ h. absurd h, λ h. let x : list_any is_pattern (components_of pattern) ≡ true = h.0 in cc)

-- ---- the field itself
pub expanded : (files : FileMap) (directory : List ℕ) (field : List Item) (pattern : List PatternByte) (found paths : List (List ℕ)) → pattern ≡ marks_of field → IsStrictlySortedBy (slice_cmp nat_cmp) found → ((t : List ℕ) → IsOne t found ↔ IsMatched files directory pattern t) → paths ≡ or_itself found (text_of field) → IsExpanded files directory field paths
expanded files directory field pattern found paths p r m e = (found, r, subst (λ x. (t : List ℕ) → IsOne t found ↔ IsMatched files directory x t) p m, e)
