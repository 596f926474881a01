-- So many bytes are told exactly where the bodies are these.
use Rattle.std.proofs.Common.{◌≡◌, ◌⊎◌, inl, inr, ◌↔◌, ℕ, zero, suc, ◌≤◌, Bool, true, false, ◌&&◌, not, nat_eq, List, [], ◌∷◌, ◌++◌, length, take, Option, Some, None, refl, sym, ap, ◌∙◌, subst, cond, eqb-true, arith}
use Rattle.std.specs.Option.{option_map}
use Rattle.sh_token_pieces.specs.declared.here.Delimiter.{Delimiter}
use Rattle.sh_token_pieces.specs.Here.{lines, is_end_line, joins_next, is_nothing, are_bodies}
use Rattle.sh_token.proofs.Bodies.{lines_some, one_line, nothing_left}
use Rattle.sh_parse_documents.specs.Bodies.{AreBodies, size_from, bodies_size}

abbrev whole : List Delimiter → Bool → List ℕ → List ℕ → ℕ → Bool
whole ds j line bs n = are_bodies ds j (lines line (take n bs))

abbrev Sized : Bool → List Delimiter → Bool → List ℕ → List ℕ → ℕ → Type 0
Sized e ds j line bs n = ((whole ds j line bs n ≡ true) × n ≤ length bs) ⊎ ((e ≡ true) × (n ≡ length bs) × ((k : ℕ) → whole ds j line bs k ≡ true → ⊥))

-- behind the last body no line has begun
abbrev Ready : List Delimiter → List ℕ → Type 0
Ready [] line = line ≡ []
Ready (d ∷ ds) line = Unit {0}

fresh : (ds : List Delimiter) → Ready ds []
fresh [] = refl
fresh (d ∷ ds) = tt

take_none : (k : ℕ) → take {A = ℕ} k [] ≡ []
take_none zero = refl
take_none (suc k) = refl

-- no line is over
unfinished : (d : Delimiter) (ds : List Delimiter) (j : Bool) (line : List ℕ) (k : ℕ) → whole (d ∷ ds) j line [] k ≡ true → ⊥
unfinished d ds j line k h = let z = sym (ap (λ x. are_bodies (d ∷ ds) j (lines line x)) (take_none k)) ∙ h in cc

not_yet : (d : Delimiter) (ds : List Delimiter) (j : Bool) (line bs : List ℕ) → whole (d ∷ ds) j line bs 0 ≡ true → ⊥
not_yet d ds j line bs h = cc

-- one byte more: what holds of what is left holds of all
pub record Onward (e : Bool) (ds : List Delimiter) (j : Bool) (line bs : List ℕ) (es : List Delimiter) (i : Bool) (next cs : List ℕ) : Type 0 where
  pub shorter : length bs ≡ suc (length cs)
  pub size : size_from e ds j line bs ≡ option_map suc (size_from e es i next cs)
  pub same : (n : ℕ) → whole ds j line bs (suc n) ≡ whole es i next cs n
  pub none : whole ds j line bs 0 ≡ true → ⊥
  pub ready : Ready es next

suc_inside : (o : Option ℕ) (n : ℕ) → option_map suc o ≡ Some n → (m : ℕ) × (o ≡ Some m) × (n ≡ suc m)
suc_inside None n h = absurd (cc)
suc_inside (Some m) n h = (m, refl, cc)

module _ (e : Bool) (ds : List Delimiter) (j : Bool) (line bs : List ℕ) (es : List Delimiter) (i : Bool) (next cs : List ℕ) (o : Onward e ds j line bs es i next cs) where
  told_on : ((m : ℕ) → size_from e es i next cs ≡ Some m → Sized e es i next cs m) → (n : ℕ) → size_from e ds j line bs ≡ Some n → Sized e ds j line bs n
  told_on f n h = let p = suc_inside (size_from e es i next cs) n (sym o.size ∙ h) in subst (λ z. Sized e ds j line bs z) (sym p.2) (go p.0 (f p.0 p.1))
    where
      go : (m : ℕ) → Sized e es i next cs m → Sized e ds j line bs (suc m)
      go m (inl w) = let l = w.1 in let s = o.shorter in inl (o.same m ∙ w.0, omega (l, s, arith))
      go m (inr w) = let l = w.1 in let s = o.shorter in inr (w.0, omega (l, s, arith), none w.2)
        where
          none : ((k : ℕ) → whole es i next cs k ≡ true → ⊥) → (k : ℕ) → whole ds j line bs k ≡ true → ⊥
          none g zero x = o.none x
          none g (suc k) x = g k (sym (o.same k) ∙ x)

  defined_on : ((m : ℕ) → Sized e es i next cs m → size_from e es i next cs ≡ Some m) → (n : ℕ) → Sized e ds j line bs n → size_from e ds j line bs ≡ Some n
  defined_on f zero (inl w) = absurd (o.none w.0)
  defined_on f (suc n) (inl w) =
      let l = w.1 in
      let s = o.shorter in
      o.size ∙ ap (option_map suc) (f n (inl (sym (o.same n) ∙ w.0, omega (l, s, arith))))
  defined_on f n (inr w) =
      let l = w.1 in
      let s = o.shorter in
      let t : n ≡ suc (length cs) = omega (l, s, arith) in
      o.size ∙ (ap (option_map suc) (f (length cs) (inr (w.0, refl, λ k x. w.2 (suc k) (o.same k ∙ x)))) ∙ ap Some (sym t))

newline_whole : (d : Delimiter) (ds : List Delimiter) (j : Bool) (line bs : List ℕ) (n : ℕ)
    → whole (d ∷ ds) j line (10 ∷ bs) (suc n) ≡ cond (not j && is_end_line d line) (whole ds false [] bs n) (whole (d ∷ ds) (joins_next d line) [] bs n)
newline_whole d ds j line bs n = one_line d ds j line (lines [] (take n bs)) (lines_some [] (take n bs))

module _ (e : Bool) (d : Delimiter) (ds : List Delimiter) (j : Bool) (line bs : List ℕ) where
  end_line : (not j && is_end_line d line) ≡ true → Onward e (d ∷ ds) j line (10 ∷ bs) ds false [] bs
  end_line h = record { shorter = refl; size = rw h refl; same = λ n. newline_whole d ds j line bs n ∙ (rw h refl); none = not_yet d ds j line (10 ∷ bs); ready = fresh ds }

  other_line : (not j && is_end_line d line) ≡ false → Onward e (d ∷ ds) j line (10 ∷ bs) (d ∷ ds) (joins_next d line) [] bs
  other_line h = record { shorter = refl; size = rw h refl; same = λ n. newline_whole d ds j line bs n ∙ (rw h refl); none = not_yet d ds j line (10 ∷ bs); ready = tt }

  other_byte : (b : ℕ) → nat_eq b 10 ≡ false → Onward e (d ∷ ds) j line (b ∷ bs) (d ∷ ds) j (line ++ b ∷ []) bs
  other_byte b h = record { shorter = refl; size = rw h refl; same = λ n. rw h refl; none = not_yet d ds j line (b ∷ bs); ready = tt }

take_empty : (n : ℕ) (bs : List ℕ) → take n bs ≡ [] → n ≤ length bs → n ≡ 0
take_empty zero bs h l = refl
take_empty (suc n) [] h l = absurd (omega arith)
take_empty (suc n) (b ∷ bs) h l = absurd (cc)

pub told : (e : Bool) (bs : List ℕ) (ds : List Delimiter) (j : Bool) (line : List ℕ) → Ready ds line → (n : ℕ) → size_from e ds j line bs ≡ Some n → Sized e ds j line bs n
told e bs [] j line r n h =
    let z : 0 ≡ n = cc in
    subst (λ m. Sized e [] j line bs m) z (subst (λ l. Sized e [] j l bs 0) (sym r) (inl (refl, omega arith)))
told true [] (d ∷ ds) j line r n h = let z : 0 ≡ n = cc in subst (λ m. Sized true (d ∷ ds) j line [] m) z (inr (refl, refl, unfinished d ds j line))
told false [] (d ∷ ds) j line r n h = absurd (cc)
told e (b ∷ bs) (d ∷ ds) j line r n h = go (nat_eq b 10) refl h (λ es i l x. told e bs es i l x)
  where
    Rest : Type 0
    Rest = (es : List Delimiter) (i : Bool) (l : List ℕ) → Ready es l → (m : ℕ) → size_from e es i l bs ≡ Some m → Sized e es i l bs m

    line_case : (c : Bool) → (not j && is_end_line d line) ≡ c → size_from e (d ∷ ds) j line (10 ∷ bs) ≡ Some n → Rest → Sized e (d ∷ ds) j line (10 ∷ bs) n
    line_case true k h f = let o = end_line e d ds j line bs k in told_on e (d ∷ ds) j line (10 ∷ bs) ds false [] bs o (f ds false [] (fresh ds)) n h
    line_case false k h f = let o = other_line e d ds j line bs k in told_on e (d ∷ ds) j line (10 ∷ bs) (d ∷ ds) (joins_next d line) [] bs o (f (d ∷ ds) (joins_next d line) [] tt) n h

    go : (c : Bool) → nat_eq b 10 ≡ c → size_from e (d ∷ ds) j line (b ∷ bs) ≡ Some n → Rest → Sized e (d ∷ ds) j line (b ∷ bs) n
    go true k h f =
        let z = eqb-true b 10 k in
        subst (λ x. Sized e (d ∷ ds) j line (x ∷ bs) n) (sym z) (line_case (not j && is_end_line d line) refl (subst (λ x. size_from e (d ∷ ds) j line (x ∷ bs) ≡ Some n) z h) f)
    go false k h f = let o = other_byte e d ds j line bs b k in told_on e (d ∷ ds) j line (b ∷ bs) (d ∷ ds) j (line ++ b ∷ []) bs o (f (d ∷ ds) j (line ++ b ∷ []) tt) n h

pub defined : (e : Bool) (bs : List ℕ) (ds : List Delimiter) (j : Bool) (line : List ℕ) → Ready ds line → (n : ℕ) → Sized e ds j line bs n → size_from e ds j line bs ≡ Some n
defined e bs [] j line r n (inl w) =
    let x : is_nothing (lines [] (take n bs)) ≡ true = subst (λ l. is_nothing (lines l (take n bs)) ≡ true) r w.0 in
    ap Some (sym (take_empty n bs (nothing_left (take n bs) x) w.1))
defined e bs [] j line r n (inr w) = absurd (w.2 0 (subst (λ l. is_nothing (lines l (take 0 bs)) ≡ true) (sym r) refl))
defined e [] (d ∷ ds) j line r n (inl w) = absurd (unfinished d ds j line n w.0)
defined e [] (d ∷ ds) j line r n (inr w) = let t = w.0 in let l : n ≡ 0 = w.1 in rw t (ap Some (sym l))
defined e (b ∷ bs) (d ∷ ds) j line r n h = go (nat_eq b 10) refl h (λ es i l x. defined e bs es i l x)
  where
    Rest : Type 0
    Rest = (es : List Delimiter) (i : Bool) (l : List ℕ) → Ready es l → (m : ℕ) → Sized e es i l bs m → size_from e es i l bs ≡ Some m

    line_case : (c : Bool) → (not j && is_end_line d line) ≡ c → Sized e (d ∷ ds) j line (10 ∷ bs) n → Rest → size_from e (d ∷ ds) j line (10 ∷ bs) ≡ Some n
    line_case true k h f = let o = end_line e d ds j line bs k in defined_on e (d ∷ ds) j line (10 ∷ bs) ds false [] bs o (f ds false [] (fresh ds)) n h
    line_case false k h f = let o = other_line e d ds j line bs k in defined_on e (d ∷ ds) j line (10 ∷ bs) (d ∷ ds) (joins_next d line) [] bs o (f (d ∷ ds) (joins_next d line) [] tt) n h

    go : (c : Bool) → nat_eq b 10 ≡ c → Sized e (d ∷ ds) j line (b ∷ bs) n → Rest → size_from e (d ∷ ds) j line (b ∷ bs) ≡ Some n
    go true k h f =
        let z = eqb-true b 10 k in
        subst (λ x. size_from e (d ∷ ds) j line (x ∷ bs) ≡ Some n) (sym z) (line_case (not j && is_end_line d line) refl (subst (λ x. Sized e (d ∷ ds) j line (x ∷ bs) n) z h) f)
    go false k h f = let o = other_byte e d ds j line bs b k in defined_on e (d ∷ ds) j line (b ∷ bs) (d ∷ ds) j (line ++ b ∷ []) bs o (f (d ∷ ds) j (line ++ b ∷ []) tt) n h

pub bodies_defined : (e : Bool) (due : List Delimiter) (bytes : List ℕ) (n : ℕ) → (bodies_size e due bytes ≡ Some n) ↔ AreBodies e due bytes n
bodies_defined e due bytes n = (told e bytes due false [] (fresh due) n, defined e bytes due false [] (fresh due) n)
