-- Lists of texts in the order of their bytes.
use Rattle.std.proofs.Common.{◌≡◌, ◌⊎◌, inl, inr, ⊎_elim, ℕ, List, [], ◌∷◌, refl, sym, ap, ◌∙◌, subst, Ordering}
use Rattle.std.specs.Prelude.{◌↔◌}
use Rattle.std.specs.List.{AllByRecursion}
use Rattle.std.specs.List.Sorted.{IsStrictlySortedBy}
use Rattle.std.specs.Ordering.{is_eq, nat_cmp, ordering_reverse}
use Rattle.std.specs.declared.cmp.Ordering.TheVariants.{Less, Equal, Greater}
use Rattle.std.specs.Cmp.Lexicographic.{slice_cmp}
use Rattle.std.proofs.lemmas.Cmp.{nat_list_cmp_total}
use Rattle.std.proofs.lemmas.Map.Text.{is_eq-slice_cmp}
use Rattle.sh_expand_fields.specs.Found.{insert, insert_by, sorted_paths}
use Rattle.sh_expand_fields.specs.Pathnames.{IsOne}
use Rattle.sh_expand_fields.proofs.Sorting.{same_bytes}

abbrev order : List ℕ → List ℕ → Ordering
order = slice_cmp nat_cmp

-- ---- the order
same_text : (x y : List ℕ) → order x y ≡ Equal → x ≡ y
same_text x y h = same_bytes x y (sym (is_eq-slice_cmp x y) ∙ ap is_eq h)

turned : (x y : List ℕ) → order x y ≡ Greater → order y x ≡ Less
turned x y h = nat_list_cmp_total.antisymm y x ∙ ap ordering_reverse h

not_both : (x y : List ℕ) → order x y ≡ Less → order y x ≡ Less → ⊥
not_both x y h k = let e : Less ≡ Greater = sym h ∙ nat_list_cmp_total.antisymm x y ∙ ap ordering_reverse k in absurd (cc)

not_itself : (x y : List ℕ) → order x y ≡ Less → x ≡ y → ⊥
not_itself x y h e = let k : order y y ≡ Less = subst (λ z. order z y ≡ Less) e h in not_both y y k k

-- ---- below all of a list
abbrev Below : List ℕ → List (List ℕ) → Type 0
Below x ys = AllByRecursion (λ y. order x y ≡ Less) ys

below_further : (x y : List ℕ) (zs : List (List ℕ)) → order x y ≡ Less → Below y zs → Below x zs
below_further x y [] h b = tt
below_further x y (z ∷ zs) h b = (nat_list_cmp_total.trans x y z h b.0, below_further x y zs h b.1)

below_one : (x t : List ℕ) (ys : List (List ℕ)) → Below x ys → IsOne t ys → order x t ≡ Less
below_one x t [] b h = absurd h
below_one x t (y ∷ ys) b h = ⊎_elim (λ (e : t ≡ y). subst (λ z. order x z ≡ Less) (sym e) b.0) (λ (k : IsOne t ys). below_one x t ys b.1 k) h

-- ---- one more text
one_by : (o : Ordering) (s x : List ℕ) (xs more : List (List ℕ)) (t : List ℕ) → order s x ≡ o → (IsOne t more ↔ ((t ≡ s) ⊎ IsOne t xs)) → IsOne t (insert_by o s x xs more) ↔ ((t ≡ s) ⊎ IsOne t (x ∷ xs))
one_by Less s x xs more t e m = (λ h. h, λ h. h)
one_by Equal s x xs more t e m = (λ h. inr h, ⊎_elim (λ k. inl (k ∙ same_text s x e)) (λ h. h))
one_by Greater s x xs more t e m = (
  ⊎_elim (λ k. inr (inl k)) (λ k. ⊎_elim inl (λ l. inr (inr l)) (m.0 k)),
  ⊎_elim (λ k. inr (m.1 (inl k))) (⊎_elim inl (λ l. inr (m.1 (inr l)))),
)

one_inserted : (s : List ℕ) (xs : List (List ℕ)) (t : List ℕ) → IsOne t (insert s xs) ↔ ((t ≡ s) ⊎ IsOne t xs)
one_inserted s [] t = (λ h. h, λ h. h)
one_inserted s (x ∷ xs) t = one_by (order s x) s x xs (insert s xs) t refl (one_inserted s xs t)

all_by : (o : Ordering) (z s x : List ℕ) (xs more : List (List ℕ)) → order z s ≡ Less → Below z (x ∷ xs) → Below z more → Below z (insert_by o s x xs more)
all_by Less z s x xs more h b m = (h, b)
all_by Equal z s x xs more h b m = b
all_by Greater z s x xs more h b m = (b.0, m)

below_inserted : (z s : List ℕ) (xs : List (List ℕ)) → order z s ≡ Less → Below z xs → Below z (insert s xs)
below_inserted z s [] h b = (h, tt)
below_inserted z s (x ∷ xs) h b = all_by (order s x) z s x xs (insert s xs) h b (below_inserted z s xs h b.1)

abbrev Rises : List (List ℕ) → Type 0
Rises xs = IsStrictlySortedBy order xs

rises_by : (o : Ordering) (s x : List ℕ) (xs : List (List ℕ)) → order s x ≡ o → Rises (x ∷ xs) → Rises (insert s xs) → Rises (insert_by o s x xs (insert s xs))
unfolding IsStrictlySortedBy
rises_by Less s x xs e r m = ((e, below_further s x xs e r.0), r)
rises_by Equal s x xs e r m = r
rises_by Greater s x xs e r m = (below_inserted x s xs (turned s x e) r.0, m)

tail_rises : (x : List ℕ) (xs : List (List ℕ)) → Rises (x ∷ xs) → Rises xs
unfolding IsStrictlySortedBy
tail_rises x xs r = r.1

head_below : (x : List ℕ) (xs : List (List ℕ)) → Rises (x ∷ xs) → Below x xs
unfolding IsStrictlySortedBy
head_below x xs r = r.0

inserted_rises : (s : List ℕ) (xs : List (List ℕ)) → Rises xs → Rises (insert s xs)
unfolding IsStrictlySortedBy
inserted_rises s [] r = (tt, tt)
inserted_rises s (x ∷ xs) r = rises_by (order s x) s x xs refl r (inserted_rises s xs (tail_rises x xs r))

pub sorted_rises : (xs : List (List ℕ)) → Rises (sorted_paths xs)
unfolding IsStrictlySortedBy
sorted_rises [] = tt
sorted_rises (x ∷ xs) = inserted_rises x (sorted_paths xs) (sorted_rises xs)

pub one_sorted : (xs : List (List ℕ)) (t : List ℕ) → IsOne t (sorted_paths xs) ↔ IsOne t xs
one_sorted [] t = (λ h. h, λ h. h)
one_sorted (x ∷ xs) t = (
  λ h. ⊎_elim inl (λ k. inr ((one_sorted xs t).0 k)) ((one_inserted x (sorted_paths xs) t).0 h),
  λ h. (one_inserted x (sorted_paths xs) t).1 (⊎_elim inl (λ k. inr ((one_sorted xs t).1 k)) h),
)

-- ---- there is one such list
heads : (x y : List ℕ) (xs ys : List (List ℕ)) → Rises (x ∷ xs) → Rises (y ∷ ys) → IsOne x (y ∷ ys) → IsOne y (x ∷ xs) → x ≡ y
heads x y xs ys r s h k =
    ⊎_elim (λ (e : x ≡ y). e)
    (λ (i : IsOne x ys). ⊎_elim (λ (e : y ≡ x). sym e) (λ (j : IsOne y xs). absurd (not_both x y (below_one x y xs (head_below x xs r) j) (below_one y x ys (head_below y ys s) i))) k)
    h

behind_head : (x y t : List ℕ) (xs ys : List (List ℕ)) → x ≡ y → Below x xs → IsOne t xs → IsOne t (y ∷ ys) → IsOne t ys
behind_head x y t xs ys e b h k = ⊎_elim (λ (f : t ≡ y). absurd (not_itself x t (below_one x t xs b h) (e ∙ sym f))) (λ (j : IsOne t ys). j) k

pub rising_once : (xs ys : List (List ℕ)) → Rises xs → Rises ys → ((t : List ℕ) → IsOne t xs ↔ IsOne t ys) → xs ≡ ys
rising_once [] [] r s m = refl
rising_once [] (y ∷ ys) r s m = absurd ((m y).1 (inl refl))
rising_once (x ∷ xs) [] r s m = absurd ((m x).0 (inl refl))
rising_once (x ∷ xs) (y ∷ ys) r s m =
    let e : x ≡ y = heads x y xs ys r s ((m x).0 (inl refl)) ((m y).1 (inl refl)) in
    ap (λ z. z ∷ xs) e ∙ ap (λ zs. y ∷ zs) (rising_once xs ys (tail_rises x xs r) (tail_rises y ys s) (λ t. (
      λ h. behind_head x y t xs ys e (head_below x xs r) h ((m t).0 (inr h)),
      λ h. behind_head y x t ys xs (sym e) (head_below y ys s) h ((m t).1 (inr h)),
    )))
