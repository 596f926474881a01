-- What a component leads to behind a prefix.
use Rattle.std.proofs.Common.{◌≡◌, ◌⊎◌, inl, inr, ⊎_elim, ℕ, List, [], ◌∷◌, ◌++◌, Bool, true, false, ◌&&◌, ◌||◌, not, map, codes, Option, Some, None, refl, sym, ap, ◌∙◌, subst}
use Rattle.std.specs.Prelude.{◌↔◌}
use Rattle.std.specs.Str.{bytes_eq}
use Rattle.sh_files_image.specs.Paths.{has_slash}
use Rattle.sh_files.specs.Nodes.{FileMap}
use Rattle.sh_pattern.specs.declared.pattern_byte.PatternByte.{PatternByte}
use Rattle.sh_pattern.specs.Items.{byte_of}
use Rattle.sh_expand_fields.specs.Pathnames.{IsIn, IsNamed, IsNamedIf, IsOne, begins_with_dot, begins_with_dot_mark, is_always_there, is_pattern, may_match, names_behind}
use Rattle.sh_expand_fields.specs.Walk.{Adds, IsListed, IsTaken, Leads, LeadsFrom, Taken, TakenOne}
use Rattle.sh_expand_fields.proofs.Ones.{Left, left_end, left_step}

abbrev Names : Type 0
Names = Option (List (List ℕ))

-- on the way, and at the end
abbrev To : Names → List ℕ → List PatternByte → List ℕ → Type 0
To o before c t = (n : List ℕ) × IsNamed c n × IsListed (is_pattern c) o n × (t ≡ before ++ (n ++ 47 ∷ []))

abbrev Ends : Names → List ℕ → List PatternByte → List ℕ → Type 0
Ends o before c t = (n : List ℕ) × IsNamed c n × IsIn o n × (t ≡ before ++ (n ++ []))

named : (b : Bool) (c : List PatternByte) (n : List ℕ) → is_pattern c ≡ b → IsNamedIf b c n → IsNamed c n
named b c n e h = subst (λ x. IsNamedIf x c n) (sym e) h

names_it : (b : Bool) (c : List PatternByte) (n : List ℕ) → is_pattern c ≡ b → IsNamed c n → IsNamedIf b c n
names_it b c n e h = subst (λ x. IsNamedIf x c n) e h

to_literal : (o : Names) (before : List ℕ) (c : List PatternByte) (name : List ℕ) → is_pattern c ≡ false → name ≡ map byte_of c → (t : List ℕ) → (t ≡ before ++ (name ++ 47 ∷ [])) ↔ To o before c t
to_literal o before c name e h t = (
  λ x. (name, named false c name e h, subst (λ b. IsListed b o name) (sym e) tt, x),
  λ x. x.3 ∙ ap (λ n. before ++ (n ++ 47 ∷ [])) (names_it false c x.0 e x.1 ∙ sym h),
)

-- one of the names that are taken
taken_to : (before end : List ℕ) (c : List PatternByte) (ns : List (List ℕ)) (t : List ℕ) → Taken before end c ns t → (n : List ℕ) × IsTaken c n × IsOne n ns × (t ≡ before ++ (n ++ end))
taken_to before end c [] t h = absurd h
taken_to before end c (x ∷ ns) t h =
    ⊎_elim
    (λ (k : TakenOne before end c x t). (x, k.0, inl refl, k.1))
    (λ (k : Taken before end c ns t). let r = taken_to before end c ns t k in (r.0, r.1, inr r.2, r.3))
    h

taken_from : (before end : List ℕ) (c : List PatternByte) (ns : List (List ℕ)) (n t : List ℕ) → IsTaken c n → IsOne n ns → t ≡ before ++ (n ++ end) → Taken before end c ns t
taken_from before end c [] n t k o e = absurd o
taken_from before end c (x ∷ ns) n t k o e =
    ⊎_elim
    (λ (s : n ≡ x). inl (subst (λ m. IsTaken c m) s k, e ∙ ap (λ m. before ++ (m ++ end)) s))
    (λ (r : IsOne n ns). inr (taken_from before end c ns n t k r e))
    o

to_taken : (before : List ℕ) (c : List PatternByte) (ns : List (List ℕ)) → is_pattern c ≡ true → (t : List ℕ) → Taken before (47 ∷ []) c ns t ↔ To (Some ns) before c t
to_taken before c ns e t = (
  λ h. let r = taken_to before (47 ∷ []) c ns t h in (r.0, named true c r.0 e r.1, subst (λ b. IsListed b (Some ns) r.0) (sym e) r.2, r.3),
  λ x. taken_from before (47 ∷ []) c ns x.0 t (names_it true c x.0 e x.1) (subst (λ b. IsListed b (Some ns) x.0) e x.2) x.3,
)

to_nowhere : (before : List ℕ) (c : List PatternByte) → is_pattern c ≡ true → (t : List ℕ) → To None before c t → ⊥
to_nowhere before c e t x = subst (λ b. IsListed b None x.0) e x.2

-- dot and dot-dot are never taken
differs : (a s b c d : Bool) → ((not a && (not s && (not b && not c))) && d) ≡ true → (a || (b || c)) ≡ true → ⊥
differs true s b c d h k = cc
differs false true b c d h k = cc
differs false false true c d h k = cc
differs false false false true d h k = cc
differs false false false false d h k = cc

not_always : (c : List PatternByte) (n : List ℕ) → may_match c n ≡ true → is_always_there n ≡ true → ⊥
not_always c n h k = differs (bytes_eq n []) (has_slash n) (bytes_eq n (codes ".")) (bytes_eq n (codes "..")) (not (begins_with_dot n) || begins_with_dot_mark c) h k

ends_taken : (before : List ℕ) (c : List PatternByte) (ns : List (List ℕ)) → is_pattern c ≡ true → (t : List ℕ) → Taken before [] c ns t ↔ Ends (Some ns) before c t
ends_taken before c ns e t = (
  λ h. let r = taken_to before [] c ns t h in (r.0, named true c r.0 e r.1, inr r.2, r.3),
  λ x.
      let k : IsTaken c x.0 = names_it true c x.0 e x.1 in
      taken_from before [] c ns x.0 t k (⊎_elim (λ (a : is_always_there x.0 ≡ true). absurd (not_always c x.0 k.0 a)) (λ (i : IsOne x.0 ns). i) x.2) x.3,
)

ends_literal : (o : Names) (before : List ℕ) (c : List PatternByte) (name : List ℕ) → is_pattern c ≡ false → name ≡ map byte_of c → IsIn o name → (t : List ℕ) → (t ≡ before ++ (name ++ [])) ↔ Ends o before c t
ends_literal o before c name e h i t = (
  λ x. (name, named false c name e h, i, x),
  λ x. x.3 ∙ ap (λ n. before ++ (n ++ [])) (names_it false c x.0 e x.1 ∙ sym h),
)

ends_lacks : (o : Names) (before : List ℕ) (c : List PatternByte) (name : List ℕ) → is_pattern c ≡ false → name ≡ map byte_of c → (IsIn o name → ⊥) → (t : List ℕ) → Ends o before c t → ⊥
ends_lacks o before c name e h lacks t x = lacks (subst (IsIn o) (names_it false c x.0 e x.1 ∙ sym h) x.2)

ends_nowhere : (before : List ℕ) (c : List PatternByte) (t : List ℕ) → Ends None before c t → ⊥
ends_nowhere before c t x = x.2

-- ---- the same for what a call adds
pub prefixes_literal : (files : FileMap) (directory before : List ℕ) (c : List PatternByte) (name : List ℕ) → is_pattern c ≡ false → name ≡ map byte_of c → (t : List ℕ) → (t ≡ before ++ (name ++ 47 ∷ [])) ↔ Leads false files directory before c t
prefixes_literal files directory before c name e h = to_literal (names_behind files directory before) before c name e h

pub prefixes_taken : (files : FileMap) (directory before : List ℕ) (c : List PatternByte) (ns : List (List ℕ)) → is_pattern c ≡ true → names_behind files directory before ≡ Some ns → (t : List ℕ) → Taken before (47 ∷ []) c ns t ↔ Leads false files directory before c t
prefixes_taken files directory before c ns e h t = subst (λ o. Taken before (47 ∷ []) c ns t ↔ To o before c t) (sym h) (to_taken before c ns e t)

pub prefixes_nowhere : (files : FileMap) (directory before : List ℕ) (c : List PatternByte) → is_pattern c ≡ true → names_behind files directory before ≡ None → (t : List ℕ) → Leads false files directory before c t → ⊥
prefixes_nowhere files directory before c e h t x = to_nowhere before c e t (subst (λ o. To o before c t) h x)

pub last_taken : (files : FileMap) (directory before : List ℕ) (c : List PatternByte) (ns : List (List ℕ)) → is_pattern c ≡ true → names_behind files directory before ≡ Some ns → (t : List ℕ) → Taken before [] c ns t ↔ Leads true files directory before c t
last_taken files directory before c ns e h t = subst (λ o. Taken before [] c ns t ↔ Ends o before c t) (sym h) (ends_taken before c ns e t)

pub last_literal : (files : FileMap) (directory before : List ℕ) (c : List PatternByte) (name : List ℕ) (ns : List (List ℕ)) → is_pattern c ≡ false → name ≡ map byte_of c → names_behind files directory before ≡ Some ns → IsIn (Some ns) name → (t : List ℕ) → (t ≡ before ++ (name ++ [])) ↔ Leads true files directory before c t
last_literal files directory before c name ns e h o i = ends_literal (names_behind files directory before) before c name e h (subst (λ x. IsIn x name) (sym o) i)

pub last_lacks : (files : FileMap) (directory before : List ℕ) (c : List PatternByte) (name : List ℕ) (ns : List (List ℕ)) → is_pattern c ≡ false → name ≡ map byte_of c → names_behind files directory before ≡ Some ns → (IsIn (Some ns) name → ⊥) → (t : List ℕ) → Leads true files directory before c t → ⊥
last_lacks files directory before c name ns e h o lacks = ends_lacks (names_behind files directory before) before c name e h (λ i. lacks (subst (λ x. IsIn x name) o i))

pub last_nowhere : (files : FileMap) (directory before : List ℕ) (c : List PatternByte) → names_behind files directory before ≡ None → (t : List ℕ) → Leads true files directory before c t → ⊥
last_nowhere files directory before c h t x = ends_nowhere before c t (subst (λ o. Ends o before c t) h x)

-- ---- prefix by prefix
pub leads_step : (last : Bool) (files : FileMap) (directory : List ℕ) (f : List ℕ) (fs all : List (List ℕ)) (c : List PatternByte) (done next : List (List ℕ)) (more : List ℕ → Type 0) → all ≡ f ∷ fs → Left done (LeadsFrom last files directory all c) more → Adds done (Leads last files directory f c) next → Left next (LeadsFrom last files directory fs c) more
leads_step last files directory f fs all c done next more e l a =
    left_step done next (Leads last files directory f c) (LeadsFrom last files directory fs c) (LeadsFrom last files directory all c) more l
    (λ t. subst (λ xs. LeadsFrom last files directory xs c t ↔ (Leads last files directory f c t ⊎ LeadsFrom last files directory fs c t)) (sym e) (λ x. x, λ x. x))
    a

pub leads_end : (last : Bool) (files : FileMap) (directory : List ℕ) (fs : List (List ℕ)) (c : List PatternByte) (done : List (List ℕ)) (more : List ℕ → Type 0) → fs ≡ [] → Left done (LeadsFrom last files directory fs c) more → Adds [] more done
leads_end last files directory fs c done more e l t =
    let r = left_end done (LeadsFrom last files directory fs c) more l (λ t x. subst (λ xs. LeadsFrom last files directory xs c t) e x) t in
    (λ h. inr (r.0 h), λ h. r.1 (⊎_elim (λ x. absurd x) (λ x. x) h))

pub leads_by : (last b : Bool) (files : FileMap) (directory before : List ℕ) (c : List PatternByte) (old new : List (List ℕ)) → last ≡ b → Adds old (Leads b files directory before c) new → Adds old (Leads last files directory before c) new
leads_by last b files directory before c old new e a = subst (λ l. Adds old (Leads l files directory before c) new) (sym e) a
