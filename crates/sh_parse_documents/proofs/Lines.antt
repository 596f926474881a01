-- The lines of a text, one after another.
use Rattle.std.proofs.Common.{◌≡◌, ℕ, suc, ◌+◌, ◌-◌, ◌≤◌, Bool, true, false, nat_eq, List, [], ◌∷◌, ◌++◌, take, drop, Some, None, refl, sym, ap, ◌∙◌, subst, append_assoc, cond, eqb-true, arith}
use Rattle.std.specs.List.{position, position_from}
use Rattle.std.proofs.lemmas.List.{append-nil}
use Rattle.std.proofs.lemmas.Iterator.Adapters.{position_from-zero}
use Rattle.sh_token_pieces.specs.Here.{lines}

abbrev pub is_line_end : ℕ → Bool
is_line_end b = nat_eq b 10

low : (n i : ℕ) (bs : List ℕ) → position_from is_line_end n bs ≡ Some i → n ≤ i
low n i [] h = absurd (cc)
low n i (b ∷ bs) h = go (nat_eq b 10) h (λ x. low (n + 1) i bs x)
  where
    go : (c : Bool) → cond c (Some n) (position_from is_line_end (n + 1) bs) ≡ Some i → (position_from is_line_end (n + 1) bs ≡ Some i → n + 1 ≤ i) → n ≤ i
    go true h f = let z : n ≡ i = cc in omega (z, arith)
    go false h f = let z = f h in omega (z, arith)

-- the first line has so many bytes and a newline
pub record FirstLine (line bs : List ℕ) (i : ℕ) : Type 0 where
  pub lines_are : lines line bs ≡ (line ++ take i bs) ∷ lines [] (drop (suc i) bs)
  pub whole_is : take (suc i) bs ≡ take i bs ++ 10 ∷ []

some_from : (n i : ℕ) (line bs : List ℕ) → position_from is_line_end n bs ≡ Some i → FirstLine line bs (i - n)
some_from n i line [] h = absurd (cc)
some_from n i line (b ∷ bs) h = go (nat_eq b 10) refl h (λ x. some_from (n + 1) i (line ++ b ∷ []) bs x)
  where
    go : (c : Bool) → nat_eq b 10 ≡ c → cond c (Some n) (position_from is_line_end (n + 1) bs) ≡ Some i
        → (position_from is_line_end (n + 1) bs ≡ Some i → FirstLine (line ++ b ∷ []) bs (i - (n + 1))) → FirstLine line (b ∷ bs) (i - n)
    go true k h f =
        let s : n ≡ i = cc in
        let z : i - n ≡ 0 = omega (s, arith) in
        let is : b ≡ 10 = eqb-true b 10 k in
        let first : lines line (b ∷ bs) ≡ line ∷ lines [] bs = rw k refl in
        let here : FirstLine line (b ∷ bs) 0 = record {
          lines_are = first ∙ ap (λ l. l ∷ lines [] bs) (sym (append-nil line));
          whole_is = ap (λ x. x ∷ []) is;
        } in
        subst (FirstLine line (b ∷ bs)) (sym z) here
    go false k h f =
        let l = low (n + 1) i bs h in
        let z : i - n ≡ suc (i - (n + 1)) = omega (l, arith) in
        let r = f h in
        let x = i - (n + 1) in
        let first : lines line (b ∷ bs) ≡ lines (line ++ b ∷ []) bs = rw k refl in
        let here : FirstLine line (b ∷ bs) (suc x) = record {
          lines_are = first ∙ (r.lines_are ∙ ap (λ l. l ∷ lines [] (drop (suc x) bs)) (append_assoc line (b ∷ []) (take x bs)));
          whole_is = ap (λ l. b ∷ l) r.whole_is;
        } in
        subst (FirstLine line (b ∷ bs)) (sym z) here

none_from : (n : ℕ) (line bs : List ℕ) → position_from is_line_end n bs ≡ None → lines line bs ≡ (line ++ bs) ∷ []
none_from n line [] h = ap (λ l. l ∷ []) (sym (append-nil line))
none_from n line (b ∷ bs) h = go (nat_eq b 10) refl h (λ x. none_from (n + 1) (line ++ b ∷ []) bs x)
  where
    go : (c : Bool) → nat_eq b 10 ≡ c → cond c (Some n) (position_from is_line_end (n + 1) bs) ≡ None
        → (position_from is_line_end (n + 1) bs ≡ None → lines (line ++ b ∷ []) bs ≡ ((line ++ b ∷ []) ++ bs) ∷ []) → lines line (b ∷ bs) ≡ (line ++ b ∷ bs) ∷ []
    go true k h f = absurd (cc)
    go false k h f =
        let first : lines line (b ∷ bs) ≡ lines (line ++ b ∷ []) bs = rw k refl in
        first ∙ (f h ∙ ap (λ l. l ∷ []) (append_assoc line (b ∷ []) bs))

pub first_line : (i : ℕ) (bs : List ℕ) → position is_line_end bs ≡ Some i → FirstLine [] bs i
first_line i bs h =
    let z : i - 0 ≡ i = omega arith in
    subst (FirstLine [] bs) z (some_from 0 i [] bs (sym (position_from-zero is_line_end bs) ∙ h))

pub only_line : (bs : List ℕ) → position is_line_end bs ≡ None → lines [] bs ≡ bs ∷ []
only_line bs h = none_from 0 [] bs (sym (position_from-zero is_line_end bs) ∙ h)

-- there is a line
pub record Full (ls : List (List ℕ)) : Type 0 where
  pub first : List ℕ
  pub others : List (List ℕ)
  pub is : ls ≡ first ∷ others

pub full : (line bs : List ℕ) → Full (lines line bs)
full line [] = record { first = line; others = []; is = refl }
full line (b ∷ bs) = go (nat_eq b 10) refl (full (line ++ b ∷ []) bs)
  where
    go : (c : Bool) → nat_eq b 10 ≡ c → Full (lines (line ++ b ∷ []) bs) → Full (lines line (b ∷ bs))
    go true k r = record { first = line; others = lines [] bs; is = rw k refl }
    go false k r = record { first = r.first; others = r.others; is = rw k r.is }
