-- Names one after the other.
use Rattle.std.proofs.Common.{◌≡◌, ◌⊎◌, inl, inr, ⊎_elim, ℕ, ◌+◌, ◌<◌, ◌≤◌, List, [], ◌∷◌, Bool, true, false, length, drop, get_or, map, refl, sym, ap, ◌∙◌, subst, arith, Vec, Global}
use Rattle.std.specs.Prelude.{◌↔◌, Option, Some, option_map}
use Rattle.std.specs.Borrow.{Bor}
use Rattle.std.proofs.lemmas.List.{drop_all}
use Rattle.sh_pattern.proofs.Backtrack.{drop_at}
use Rattle.sh_pattern.specs.declared.pattern_byte.PatternByte.{PatternByte}
use Rattle.sh_expand_fields.specs.Pathnames.{IsOne}
use Rattle.sh_expand_fields.specs.Walk.{Adds, Taken, TakenOne}
use Rattle.sh_expand_fields.proofs.Ones.{Left, left_step, left_end}

abbrev Name : Type 0
Name = Bor (List ℕ)

abbrev pub texts : List Name → List (List ℕ)
texts names = map (λ (n : Name). n.now) names

next_texts : (names : List Name) (k : ℕ) (d : Name) → k < length names → texts (drop k names) ≡ (get_or names k d).now ∷ texts (drop (k + 1) names)
next_texts names k d h = ap texts (drop_at names k d h)

pub no_texts : (names : List Name) (k : ℕ) → length names ≤ k → texts (drop k names) ≡ []
no_texts names k h = ap texts (drop_all k names h)

pub taken_step : (before end : List ℕ) (c : List PatternByte) (names : List Name) (k : ℕ) (d : Name) (done next : List (List ℕ)) (all : List ℕ → Type 0) → k < length names → Left done (Taken before end c (texts (drop k names))) all → Adds done (TakenOne before end c (get_or names k d).now) next → Left next (Taken before end c (texts (drop (k + 1) names))) all
taken_step before end c names k d done next all h l a =
    left_step done next (TakenOne before end c (get_or names k d).now) (Taken before end c (texts (drop (k + 1) names))) (Taken before end c (texts (drop k names))) all l
    (λ t. subst (λ ns. Taken before end c ns t ↔ (TakenOne before end c (get_or names k d).now t ⊎ Taken before end c (texts (drop (k + 1) names)) t)) (sym (next_texts names k d h)) (λ x. x, λ x. x))
    a

pub taken_end : (before end : List ℕ) (c : List PatternByte) (names : List Name) (k : ℕ) (done : List (List ℕ)) (all : List ℕ → Type 0) → length names ≤ k → Left done (Taken before end c (texts (drop k names))) all → (t : List ℕ) → IsOne t done ↔ all t
taken_end before end c names k done all h l = left_end done (Taken before end c (texts (drop k names))) all l (λ t x. subst (λ ns. Taken before end c ns t) (no_texts names k h) x)

pub is_here : (name : List ℕ) (names : List Name) (k : ℕ) (d : Name) → k < length names → name ≡ (get_or names k d).now → IsOne name (texts (drop k names))
is_here name names k d h e = subst (λ xs. IsOne name xs) (sym (next_texts names k d h)) (inl e)

pub is_behind : (name : List ℕ) (names : List Name) (k : ℕ) (d : Name) (all : Type 0) → k < length names → (name ≡ (get_or names k d).now → ⊥) → (IsOne name (texts (drop k names)) ↔ all) → IsOne name (texts (drop (k + 1) names)) ↔ all
is_behind name names k d all h other l = (
  λ x. l.0 (subst (λ xs. IsOne name xs) (sym (next_texts names k d h)) (inr x)),
  λ x. ⊎_elim (λ e. absurd (other e)) (λ y. y) (subst (λ xs. IsOne name xs) (next_texts names k d h) (l.1 x)),
)

-- a list of names that was found
pub listing : (o : Option (Vec Name Global)) (v : Vec Name Global) (names : Option (List (List ℕ))) (ns : List Name) → option_map (λ (w : Vec Name Global). texts w.items) o ≡ names → o ≡ Some v → ns ≡ v.items → names ≡ Some (texts ns)
listing o v names ns h e d = sym h ∙ ap (option_map (λ (w : Vec Name Global). texts w.items)) e ∙ ap (λ (x : List Name). Some (texts x)) (sym d)

pub clash : (b : Bool) → b ≡ true → b ≡ false → ⊥
clash true h k = cc
clash false h k = cc

pub none_left : (xs : List (Vec ℕ Global)) → length xs ≡ 0 → map (λ (x : Vec ℕ Global). x.items) xs ≡ []
none_left [] h = refl
none_left (x ∷ xs) h = absurd (omega arith)
