-- One of a list, and what is added to a list.
use Rattle.std.proofs.Common.{◌≡◌, ◌⊎◌, inl, inr, ⊎_elim, ℕ, List, [], ◌∷◌, ◌++◌, sym, subst}
use Rattle.std.specs.Prelude.{◌↔◌}
use Rattle.sh_expand_fields.specs.Pathnames.{IsOne}
use Rattle.sh_expand_fields.specs.Walk.{Adds}

pub one_push : (t x : List ℕ) (xs : List (List ℕ)) → IsOne t (xs ++ x ∷ []) ↔ (IsOne t xs ⊎ (t ≡ x))
one_push t x [] = (⊎_elim inr (λ k. absurd k), ⊎_elim (λ k. absurd k) inl)
one_push t x (y ∷ xs) = (
  ⊎_elim (λ e. inl (inl e)) (λ k. ⊎_elim (λ h. inl (inr h)) inr ((one_push t x xs).0 k)),
  ⊎_elim (⊎_elim inl (λ h. inr ((one_push t x xs).1 (inl h)))) (λ e. inr ((one_push t x xs).1 (inr e))),
)

-- one more path
pub adds_one : (old new : List (List ℕ)) (x : List ℕ) (more : List ℕ → Type 0) → new ≡ old ++ x ∷ [] → ((t : List ℕ) → (t ≡ x) ↔ more t) → Adds old more new
adds_one old new x more e same = λ t. (
  λ h. ⊎_elim inl (λ k. inr ((same t).0 k)) ((one_push t x old).0 (subst (IsOne t) e h)),
  λ h. subst (IsOne t) (sym e) ((one_push t x old).1 (⊎_elim inl (λ k. inr ((same t).1 k)) h)),
)

pub adds_none : (old new : List (List ℕ)) (more : List ℕ → Type 0) → new ≡ old → ((t : List ℕ) → more t → ⊥) → Adds old more new
adds_none old new more e none = λ t. (λ h. inl (subst (IsOne t) e h), ⊎_elim (λ h. subst (IsOne t) (sym e) h) (λ h. absurd (none t h)))

-- what was added is the same by another name
pub adds_same : (old new : List (List ℕ)) (more less : List ℕ → Type 0) → Adds old more new → ((t : List ℕ) → more t ↔ less t) → Adds old less new
adds_same old new more less a same = λ t. (
  λ h. ⊎_elim inl (λ k. inr ((same t).0 k)) ((a t).0 h),
  λ h. (a t).1 (⊎_elim inl (λ k. inr ((same t).1 k)) h),
)

-- a loop's step: what is done and what is left
abbrev pub Left : List (List ℕ) → (List ℕ → Type 0) → (List ℕ → Type 0) → Type 0
Left done rest all = (t : List ℕ) → (IsOne t done ⊎ rest t) ↔ all t

pub left_step : (done next : List (List ℕ)) (first rest both all : List ℕ → Type 0) → Left done both all → ((t : List ℕ) → both t ↔ (first t ⊎ rest t)) → Adds done first next → Left next rest all
left_step done next first rest both all l parts a = λ t. (
  ⊎_elim
      (λ h. ⊎_elim (λ d. (l t).0 (inl d)) (λ f. (l t).0 (inr ((parts t).1 (inl f)))) ((a t).0 h))
      (λ r. (l t).0 (inr ((parts t).1 (inr r)))),
  λ h. ⊎_elim
      (λ d. inl ((a t).1 (inl d)))
      (λ b. ⊎_elim (λ f. inl ((a t).1 (inr f))) inr ((parts t).0 b))
      ((l t).1 h),
)

pub left_end : (done : List (List ℕ)) (rest all : List ℕ → Type 0) → Left done rest all → ((t : List ℕ) → rest t → ⊥) → (t : List ℕ) → IsOne t done ↔ all t
left_end done rest all l none t = (λ h. (l t).0 (inl h), λ h. ⊎_elim (λ d. d) (λ r. absurd (none t r)) ((l t).1 h))
