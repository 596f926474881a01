-- Going back to the last star is enough.
use Rattle.std.proofs.Common.{◌≡◌, ℕ, zero, suc, ◌+◌, ◌-◌, ◌*◌, ◌<◌, ◌≤◌, List, [], ◌∷◌, drop, take, get_or, length, refl, sym, ap, ◌∙◌, subst, arith, add-one, mul-le-mul_right, true, false}
use Rattle.std.specs.Prelude.{◌↔◌}
use Rattle.std.proofs.Math.Seq.{drop-cons}
use Rattle.std.specs.Prelude.{IsTrue, nat_eq}
use Rattle.std.proofs.lemmas.Bool.{eqb-true, eq-eqb}
use Rattle.std.proofs.lemmas.List.{drop_all, drop-drop, take_all, length-drop}
use Rattle.sh_pattern.specs.declared.pattern_byte.PatternByte.{PatternByte}
use Rattle.sh_pattern.specs.declared.element.Kind.{Kind}
use Rattle.sh_pattern.specs.declared.element.Kind.TheVariants.{Star, Any, Byte, Bracket}
use Rattle.sh_pattern.specs.declared.search.Place.{Place}
use Rattle.sh_pattern.specs.Match.{Element, AreMatched, First, one_of, is_star, elements, read_kind, read_skip}
use Rattle.sh_pattern.specs.Place.{IsPlaced, Reached, from, work}

-- an element that takes one byte leaves the rest to the rest
on_one : (k : Kind) (inside : List PatternByte) (Rest : List ℕ → Type 0) (u : List ℕ) → is_star k ≡ false → First k inside Rest u → Rest (drop 1 u)
on_one Star i R u h m = absurd (cc)
on_one Any i R [] h m = absurd m
on_one Any i R (b ∷ u) h m = m.1
on_one (Byte c) i R [] h m = absurd m
on_one (Byte c) i R (b ∷ u) h m = m.1
on_one Bracket i R [] h m = absurd m
on_one Bracket i R (b ∷ u) h m = m.1

back_one : (k : Kind) (inside : List PatternByte) (Rest : List ℕ → Type 0) (b : ℕ) (u : List ℕ) → is_star k ≡ false → one_of k inside b ≡ true → Rest u → First k inside Rest (b ∷ u)
back_one Star i R b u h t m = absurd (cc)
back_one Any i R b u h t m = (t, m)
back_one (Byte c) i R b u h t m = (t, m)
back_one Bracket i R b u h t m = (t, m)

refused : (k : Kind) (inside : List PatternByte) (Rest : List ℕ → Type 0) (b : ℕ) (u : List ℕ) → is_star k ≡ false → one_of k inside b ≡ false → First k inside Rest (b ∷ u) → ⊥
refused Star i R b u h t m = absurd (cc)
refused Any i R b u h t m = absurd (cc (m.0))
refused (Byte c) i R b u h t m = absurd (cc (m.0))
refused Bracket i R b u h t m = absurd (cc (m.0))

none_left : (k : Kind) (inside : List PatternByte) (Rest : List ℕ → Type 0) → is_star k ≡ false → First k inside Rest [] → ⊥
none_left Star i R h m = absurd (cc)
none_left Any i R h m = m
none_left (Byte c) i R h m = m
none_left Bracket i R h m = m

of_star : (k : Kind) (inside : List PatternByte) (Rest : List ℕ → Type 0) (t : List ℕ) → is_star k ≡ true → First k inside Rest t ↔ ((n : ℕ) × Rest (drop n t))
of_star Star i R t h = (λ m. m, λ m. m)
of_star Any i R t h = absurd (cc)
of_star (Byte c) i R t h = absurd (cc)
of_star Bracket i R t h = absurd (cc)

-- the elements from a place on
abbrev pub element : Kind → List PatternByte → Element
element k i = record { kind = k; inside = i }

skipped : (k : ℕ) (ms : List PatternByte) → elements k ms ≡ elements 0 (drop k ms)
skipped zero ms = refl
skipped (suc k) [] = refl
skipped (suc k) (m ∷ ms) = skipped k ms

pub drop_at : {A : Type 0} (xs : List A) (k : ℕ) (d : A) → k < length xs → drop k xs ≡ get_or xs k d ∷ drop (k + 1) xs
drop_at xs k d h = rw add-one (drop-cons xs k d h)

pub next_is : (p : List PatternByte) (i : ℕ) (d : PatternByte) (behind : List PatternByte) (k : Kind) (s : ℕ) → i < length p → behind ≡ drop (i + 1) p → k ≡ read_kind (get_or p i d) behind → s ≡ read_skip (get_or p i d) behind → from p i ≡ element k (take s behind) ∷ from p (i + 1 + s)
next_is p i d behind k s l b e f =
    let cut : drop i p ≡ get_or p i d ∷ behind = drop_at p i d l ∙ ap (λ ms. get_or p i d ∷ ms) (sym b) in
    ap (elements 0) cut
    ∙ ap (λ n. element (read_kind (get_or p i d) behind) (take n behind) ∷ elements n behind) (sym f)
    ∙ ap (λ q. element q (take s behind) ∷ elements s behind) (sym e)
    ∙ ap (λ q. element k (take s behind) ∷ q) (skipped s behind ∙ ap (λ ms. elements 0 (drop s ms)) b ∙ ap (elements 0) (drop-drop s (i + 1) p))

pub past : (p : List PatternByte) (i : ℕ) → length p ≤ i → from p i ≡ []
past p i l = ap (elements 0) (drop_all i p l)

module _ (p : List PatternByte) (t : List ℕ) (s : Place) (h : IsPlaced p t s) where
  apart : (k : ℕ) → drop (s.byte - s.from) (drop k (drop s.from t)) ≡ drop (s.byte + k) t
  apart k =
      let n : s.from + k + (s.byte - s.from) ≡ s.byte + k = omega (arith, h.byte_from) in
      ap (drop (s.byte - s.from)) (drop-drop k s.from t) ∙ drop-drop (s.byte - s.from) (s.from + k) t ∙ ap (λ i. drop i t) n

  pub take_placed : (n : ℕ) (k : Kind) (i : List PatternByte) (b : ℕ) → s.at < n → n ≤ length p → s.byte < length t → from p s.at ≡ element k i ∷ from p n → drop s.byte t ≡ b ∷ drop (s.byte + 1) t → is_star k ≡ false → one_of k i b ≡ true → IsPlaced p t (record s { at = n; byte = s.byte + 1 })
  take_placed n k i b l e m d f c o = record {
    star = omega (arith, h.star);
    end = e;
    byte_end = omega arith;
    byte_from = omega (arith, h.byte_from);
    on = λ u w.
        let j : s.byte - s.from + 1 ≡ s.byte + 1 - s.from = omega (arith, h.byte_from) in
        subst (AreMatched (from p n)) (drop-drop 1 (s.byte - s.from) u ∙ ap (λ x. drop x u) j) (on_one k i (AreMatched (from p n)) (drop (s.byte - s.from) u) c (subst (λ q. AreMatched q (drop (s.byte - s.from) u)) d (h.on u w)));
    back = λ w. h.back (subst (λ q. AreMatched q (drop s.byte t)) (sym d) (subst (First k i (AreMatched (from p n))) (sym f) (back_one k i (AreMatched (from p n)) b (drop (s.byte + 1) t) c o w)));
  }

  pub star_placed : (n : ℕ) → n ≤ length p → IsPlaced p t (record { star = n; from = s.byte; at = n; byte = s.byte })
  star_placed n l = record {
    star = omega arith;
    end = l;
    byte_end = h.byte_end;
    byte_from = omega arith;
    on = λ u w. let i : 0 ≡ s.byte - s.byte = omega arith in subst (λ j. AreMatched (from p n) (drop j u)) i w;
    back = λ w. w;
  }

  pub star_same : (n : ℕ) (k : Kind) (i : List PatternByte) → from p s.at ≡ element k i ∷ from p n → is_star k ≡ true → Reached p t s ↔ Reached p t (record { star = n; from = s.byte; at = n; byte = s.byte })
  star_same n k i d c = (
    (λ m.
        let v : (x : ℕ) × AreMatched (from p n) (drop x (drop (s.byte + m.0) t)) = (of_star k i (AreMatched (from p n)) (drop (s.byte + m.0) t) c).0 (subst (λ q. AreMatched q (drop (s.byte + m.0) t)) d (subst (AreMatched (from p s.at)) (apart m.0) (h.on (drop m.0 (drop s.from t)) m.1))) in
        let j : s.byte + m.0 + v.0 ≡ s.byte + (m.0 + v.0) = omega arith in
        (m.0 + v.0, subst (AreMatched (from p n)) (drop-drop v.0 (s.byte + m.0) t ∙ ap (λ x. drop x t) j ∙ sym (drop-drop (m.0 + v.0) s.byte t)) v.1)),
    (λ m. (0, h.back (subst (λ q. AreMatched q (drop s.byte t)) (sym d) ((of_star k i (AreMatched (from p n)) (drop s.byte t) c).1 m)))),
  )

  pub retry_placed : s.byte < length t → IsPlaced p t (record { star = s.star; from = s.from + 1; at = s.star; byte = s.from + 1 })
  retry_placed l = record {
    star = omega arith;
    end = omega (arith, h.star, h.end);
    byte_end = omega (arith, h.byte_from);
    byte_from = omega arith;
    on = λ u w. let i : 0 ≡ s.from + 1 - (s.from + 1) = omega arith in subst (λ j. AreMatched (from p s.star) (drop j u)) i w;
    back = λ w. w;
  }

  pub retry_same : (AreMatched (from p s.at) (drop s.byte t) → ⊥) → Reached p t s ↔ Reached p t (record { star = s.star; from = s.from + 1; at = s.star; byte = s.from + 1 })
  retry_same fails = (λ m. later m.0 m.1, λ m. (suc m.0, subst (AreMatched (from p s.star)) (sym (shifted m.0)) m.1))
    where
      shifted : (k : ℕ) → drop (suc k) (drop s.from t) ≡ drop k (drop (s.from + 1) t)
      shifted k =
          let i : s.from + suc k ≡ s.from + 1 + k = omega arith in
          drop-drop (suc k) s.from t ∙ ap (λ j. drop j t) i ∙ sym (drop-drop k (s.from + 1) t)

      later : (k : ℕ) → AreMatched (from p s.star) (drop k (drop s.from t)) → Reached p t (record { star = s.star; from = s.from + 1; at = s.star; byte = s.from + 1 })
      later zero m =
          let i : s.byte + 0 ≡ s.byte = omega arith in
          absurd (fails (subst (AreMatched (from p s.at)) (apart zero ∙ ap (λ j. drop j t) i) (h.on (drop s.from t) m)))
      later (suc k) m = (k, subst (AreMatched (from p s.star)) (shifted k) m)

  pub end_same : length t ≤ s.byte → AreMatched (from p s.at) [] ↔ Reached p t s
  end_same l = (
    (λ m. (0, h.back (subst (AreMatched (from p s.at)) (sym (drop_all s.byte t l)) m))),
    (λ m. subst (AreMatched (from p s.at)) (apart m.0 ∙ drop_all (s.byte + m.0) t (omega arith)) (h.on (drop m.0 (drop s.from t)) m.1)),
  )

pub over : (p : List PatternByte) (t : List ℕ) (i j b : ℕ) → length p ≤ i → drop j t ≡ b ∷ drop (j + 1) t → AreMatched (from p i) (drop j t) → ⊥
over p t i j b l f m =
    let e : drop j t ≡ [] = subst (λ q. AreMatched q (drop j t)) (past p i l) m in
    cc

pub mismatch : (p : List PatternByte) (t : List ℕ) (i j b n : ℕ) (k : Kind) (inside : List PatternByte) → from p i ≡ element k inside ∷ from p n → drop j t ≡ b ∷ drop (j + 1) t → is_star k ≡ false → one_of k inside b ≡ false → AreMatched (from p i) (drop j t) → ⊥
mismatch p t i j b n k inside d f c o m = refused k inside (AreMatched (from p n)) b (drop (j + 1) t) c o (subst (First k inside (AreMatched (from p n))) f (subst (λ q. AreMatched q (drop j t)) d m))

pub retry_work : (p : List PatternByte) (t : List ℕ) (s : Place) → IsPlaced p t s → s.byte < length t → work p t (record { star = s.star; from = s.from + 1; at = s.star; byte = s.from + 1 }) < work p t s
retry_work p t s h l =
    let a : length t + 1 - s.from ≡ suc (length t + 1 - (s.from + 1)) = omega (arith, h.byte_from) in
    rw a (less (length t + 1 - (s.from + 1)) (length p) s.star s.at)
  where
    less : (a n i k : ℕ) → a * (n + 1) + (n - i) < suc a * (n + 1) + (n - k)
    less a n i k = omega arith

pub star_work : (p : List PatternByte) (t : List ℕ) (s : Place) (n : ℕ) → IsPlaced p t s → s.at < n → n ≤ length p → work p t (record { star = n; from = s.byte; at = n; byte = s.byte }) < work p t s
star_work p t s n h l m =
    let a : length t + 1 - s.byte ≤ length t + 1 - s.from = omega (arith, h.byte_from) in
    let b : (length t + 1 - s.byte) * (length p + 1) ≤ (length t + 1 - s.from) * (length p + 1) = mul-le-mul_right (length p + 1) a in
    omega arith

pub vanish_star : (p : List PatternByte) (i n : ℕ) (k : Kind) (inside : List PatternByte) → from p i ≡ element k inside ∷ from p n → is_star k ≡ true → AreMatched (from p n) [] ↔ AreMatched (from p i) []
vanish_star p i n k inside d c =
    let f : First k inside (AreMatched (from p n)) [] ↔ ((x : ℕ) × AreMatched (from p n) (drop x [])) = of_star k inside (AreMatched (from p n)) [] c in
    (λ m. subst (λ q. AreMatched q []) (sym d) (f.1 (0, m)), λ m. let v : (x : ℕ) × AreMatched (from p n) (drop x []) = f.0 (subst (λ q. AreMatched q []) d m) in subst (AreMatched (from p n)) (drop_all v.0 [] (omega arith)) v.1)

pub vanish_not : (p : List PatternByte) (i n : ℕ) (k : Kind) (inside : List PatternByte) → from p i ≡ element k inside ∷ from p n → is_star k ≡ false → AreMatched (from p i) [] → ⊥
vanish_not p i n k inside d c m = none_left k inside (AreMatched (from p n)) c (subst (λ q. AreMatched q []) d m)

pub ↔_trans : {A B C : Type 0} → A ↔ B → B ↔ C → A ↔ C
↔_trans f g = (λ a. g.0 (f.0 a), λ c. f.1 (g.1 c))

pub behind_is : (p : List PatternByte) (i : ℕ) → take (length p - i) (drop i p) ≡ drop i p
behind_is p i = take_all (length p - i) (drop i p) (omega (arith, length-drop i p))

-- before the first star: an element that takes a byte leaves the rest to the rest
pub one_on : (p : List PatternByte) (t : List ℕ) (i j b n : ℕ) (k : Kind) (inside : List PatternByte) → from p i ≡ element k inside ∷ from p n → drop j t ≡ b ∷ drop (j + 1) t → is_star k ≡ false → one_of k inside b ≡ true → AreMatched (from p i) (drop j t) ↔ AreMatched (from p n) (drop (j + 1) t)
one_on p t i j b n k inside d f c o = (
  (λ m. on_one k inside (AreMatched (from p n)) (b ∷ drop (j + 1) t) c (subst (First k inside (AreMatched (from p n))) f (subst (λ q. AreMatched q (drop j t)) d m))),
  (λ m. subst (λ q. AreMatched q (drop j t)) (sym d) (subst (First k inside (AreMatched (from p n))) (sym f) (back_one k inside (AreMatched (from p n)) b (drop (j + 1) t) c o m))),
)

-- a star before what is behind it
pub star_on : (p : List PatternByte) (t : List ℕ) (i j n : ℕ) (k : Kind) (inside : List PatternByte) → from p i ≡ element k inside ∷ from p n → is_star k ≡ true → AreMatched (from p i) (drop j t) ↔ Reached p t (record { star = n; from = j; at = n; byte = j })
star_on p t i j n k inside d c =
    let f = of_star k inside (AreMatched (from p n)) (drop j t) c in
    (λ m. f.0 (subst (λ q. AreMatched q (drop j t)) d m), λ m. subst (λ q. AreMatched q (drop j t)) (sym d) (f.1 m))

-- no byte is left for an element
pub none_on : (p : List PatternByte) (t : List ℕ) (i j n : ℕ) (k : Kind) (inside : List PatternByte) → from p i ≡ element k inside ∷ from p n → is_star k ≡ false → length t ≤ j → AreMatched (from p i) (drop j t) → ⊥
none_on p t i j n k inside d c l m = none_left k inside (AreMatched (from p n)) c (subst (First k inside (AreMatched (from p n))) (drop_all j t l) (subst (λ q. AreMatched q (drop j t)) d m))

-- at the pattern's end nothing may be left
pub both_end : (p : List PatternByte) (t : List ℕ) (i j : ℕ) → length p ≤ i → j ≤ length t → IsTrue (nat_eq j (length t)) ↔ AreMatched (from p i) (drop j t)
both_end p t i j l h = (
  (λ e. let same : j ≡ length t = eqb-true j (length t) e in subst (λ q. AreMatched q (drop j t)) (sym (past p i l)) (drop_all j t (omega arith))),
  (λ m. let none : drop j t ≡ [] = subst (λ q. AreMatched q (drop j t)) (past p i l) m in let k : length (drop j t) ≡ 0 = ap length none in eq-eqb j (length t) (omega (arith, length-drop j t))),
)
