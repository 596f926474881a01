-- How far bodies go, line by line.
use Rattle.std.proofs.Common.{◌≡◌, ℕ, suc, ◌+◌, ◌-◌, ◌<◌, ◌≤◌, Bool, true, false, ◌&&◌, not, nat_eq, List, [], ◌∷◌, ◌++◌, length, take, drop, Option, Some, None, refl, sym, ap, ◌∙◌, subst, append_assoc, cond, arith}
use Rattle.std.specs.Option.{option_map}
use Rattle.std.specs.List.{position, position_from}
use Rattle.std.proofs.lemmas.List.{append-nil, length-drop}
use Rattle.std.proofs.lemmas.Iterator.Adapters.{position_from-zero}
use Rattle.sh_token_pieces.specs.declared.here.Delimiter.{Delimiter}
use Rattle.sh_token_pieces.specs.Here.{is_end_line, joins_next}
use Rattle.sh_parse_documents.specs.Bodies.{size_from, bodies_size}

abbrev pub is_line_end : ℕ → Bool
is_line_end b = nat_eq b 10

low : (n i : ℕ) (bs : List ℕ) → position_from is_line_end n bs ≡ Some i → n ≤ i
low n i [] h = absurd (cc)
low n i (b ∷ bs) h = go (nat_eq b 10) h (λ x. low (n + 1) i bs x)
  where
    go : (c : Bool) → cond c (Some n) (position_from is_line_end (n + 1) bs) ≡ Some i → (position_from is_line_end (n + 1) bs ≡ Some i → n + 1 ≤ i) → n ≤ i
    go true h f = let z : n ≡ i = cc in omega (z, arith)
    go false h f = let z = f h in omega (z, arith)

module _ (e : Bool) (d : Delimiter) (ds : List Delimiter) (j : Bool) where
  -- behind a line
  abbrev pub behind_line : List ℕ → List ℕ → Option ℕ
  behind_line line rest = cond (not j && is_end_line d line) (size_from e ds false [] rest) (size_from e (d ∷ ds) (joins_next d line) [] rest)

  maps : (f g : ℕ → ℕ) → ((m : ℕ) → f m ≡ g m) → (o : Option ℕ) → option_map f o ≡ option_map g o
  maps f g h None = refl
  maps f g h (Some m) = ap Some (h m)

  twice : (f g : ℕ → ℕ) (o : Option ℕ) → option_map f (option_map g o) ≡ option_map (λ m. f (g m)) o
  twice f g None = refl
  twice f g (Some m) = refl

  some_from : (n i : ℕ) (line bs : List ℕ) → position_from is_line_end n bs ≡ Some i
      → size_from e (d ∷ ds) j line bs ≡ option_map (λ m. suc (i - n) + m) (behind_line (line ++ take (i - n) bs) (drop (suc (i - n)) bs))
  some_from n i line [] h = absurd (cc)
  some_from n i line (b ∷ bs) h = go (nat_eq b 10) refl h (λ x. some_from (n + 1) i (line ++ b ∷ []) bs x)
    where
      go : (c : Bool) → nat_eq b 10 ≡ c → cond c (Some n) (position_from is_line_end (n + 1) bs) ≡ Some i
          → (position_from is_line_end (n + 1) bs ≡ Some i
          → size_from e (d ∷ ds) j (line ++ b ∷ []) bs ≡ option_map (λ m. suc (i - (n + 1)) + m) (behind_line ((line ++ b ∷ []) ++ take (i - (n + 1)) bs) (drop (suc (i - (n + 1))) bs)))
          → size_from e (d ∷ ds) j line (b ∷ bs) ≡ option_map (λ m. suc (i - n) + m) (behind_line (line ++ take (i - n) (b ∷ bs)) (drop (suc (i - n)) (b ∷ bs)))
      go true k h f =
          let s : n ≡ i = cc in
          let z : i - n ≡ 0 = omega (s, arith) in
          let first : size_from e (d ∷ ds) j line (b ∷ bs) ≡ option_map suc (behind_line line bs) = rw k refl in
          first
          ∙ (maps suc (λ m. suc 0 + m) (λ m. omega arith) (behind_line line bs)
          ∙ (ap (λ l. option_map (λ m. suc 0 + m) (behind_line l bs)) (sym (append-nil line))
          ∙ ap (λ x. option_map (λ m. suc x + m) (behind_line (line ++ take x (b ∷ bs)) (drop (suc x) (b ∷ bs)))) (sym z)))
      go false k h f =
          let l = low (n + 1) i bs h in
          let z : i - n ≡ suc (i - (n + 1)) = omega (l, arith) in
          let x = i - (n + 1) in
          let first : size_from e (d ∷ ds) j line (b ∷ bs) ≡ option_map suc (size_from e (d ∷ ds) j (line ++ b ∷ []) bs) = rw k refl in
          first
          ∙ (ap (option_map suc) (f h)
          ∙ (twice suc (λ m. suc x + m) (behind_line ((line ++ b ∷ []) ++ take x bs) (drop (suc x) bs))
          ∙ (maps (λ m. suc (suc x + m)) (λ m. suc (suc x) + m) (λ m. omega arith) (behind_line ((line ++ b ∷ []) ++ take x bs) (drop (suc x) bs))
          ∙ (ap (λ l. option_map (λ m. suc (suc x) + m) (behind_line l (drop (suc x) bs))) (append_assoc line (b ∷ []) (take x bs))
          ∙ ap (λ y. option_map (λ m. suc y + m) (behind_line (line ++ take y (b ∷ bs)) (drop (suc y) (b ∷ bs)))) (sym z)))))

  none_from : (n : ℕ) (line bs : List ℕ) → position_from is_line_end n bs ≡ None → size_from e (d ∷ ds) j line bs ≡ cond e (Some (length bs)) None
  none_from n line [] h = refl
  none_from n line (b ∷ bs) h = go (nat_eq b 10) refl h (λ x. none_from (n + 1) (line ++ b ∷ []) bs x)
    where
      last : (c : Bool) → option_map suc (cond c (Some (length bs)) None) ≡ cond c (Some (suc (length bs))) None
      last true = refl
      last false = refl

      go : (c : Bool) → nat_eq b 10 ≡ c → cond c (Some n) (position_from is_line_end (n + 1) bs) ≡ None
          → (position_from is_line_end (n + 1) bs ≡ None → size_from e (d ∷ ds) j (line ++ b ∷ []) bs ≡ cond e (Some (length bs)) None)
          → size_from e (d ∷ ds) j line (b ∷ bs) ≡ cond e (Some (suc (length bs))) None
      go true k h f = absurd (cc)
      go false k h f =
          let first : size_from e (d ∷ ds) j line (b ∷ bs) ≡ option_map suc (size_from e (d ∷ ds) j (line ++ b ∷ []) bs) = rw k refl in
          first ∙ (ap (option_map suc) (f h) ∙ last e)

  -- a whole line
  pub line_size : (place : ℕ) (rest : List ℕ) → position is_line_end rest ≡ Some place
      → size_from e (d ∷ ds) j [] rest ≡ option_map (λ m. suc place + m) (behind_line (take place rest) (drop (suc place) rest))
  line_size place rest h =
      let z : place - 0 ≡ place = omega arith in
      some_from 0 place [] rest (sym (position_from-zero is_line_end rest) ∙ h) ∙ ap (λ x. option_map (λ m. suc x + m) (behind_line (take x rest) (drop (suc x) rest))) z

  pub no_line_size : (rest : List ℕ) → position is_line_end rest ≡ None → size_from e (d ∷ ds) j [] rest ≡ cond e (Some (length rest)) None
  no_line_size rest h = none_from 0 [] rest (sym (position_from-zero is_line_end rest) ∙ h)

-- where the code stands
abbrev pub Reached : Bool → List ℕ → List Delimiter → List Delimiter → Bool → List ℕ → Type 0
Reached e text all due j rest = (option_map (λ m. (length text - length rest) + m) (size_from e due j [] rest) ≡ bodies_size e all text) × (length rest ≤ length text)

compose : (f g h : ℕ → ℕ) → ((m : ℕ) → f (g m) ≡ h m) → (o : Option ℕ) → option_map f (option_map g o) ≡ option_map h o
compose f g h w None = refl
compose f g h w (Some m) = ap Some (w m)

module _ (e : Bool) (text : List ℕ) (all due : List Delimiter) (j : Bool) (rest : List ℕ) (r : Reached e text all due j rest) where
  -- no body is due any more
  pub all_over : due ≡ [] → Some (length text - length rest) ≡ bodies_size e all text
  all_over h =
      let z : (length text - length rest) + 0 ≡ length text - length rest = omega arith in
      ap Some (sym z) ∙ (ap (λ x. option_map (λ m. (length text - length rest) + m) (size_from e x j [] rest)) (sym h) ∙ r.0)

  module _ (d : Delimiter) (ds : List Delimiter) (is : due ≡ d ∷ ds) where
    -- no line is over
    pub no_line : position is_line_end rest ≡ None → option_map (λ m. (length text - length rest) + m) (cond e (Some (length rest)) None) ≡ bodies_size e all text
    no_line h =
        ap (option_map (λ m. (length text - length rest) + m)) (sym (no_line_size e d ds j rest h))
        ∙ (ap (λ x. option_map (λ m. (length text - length rest) + m) (size_from e x j [] rest)) (sym is) ∙ r.0)

    pub no_line_at_end : e ≡ true → position is_line_end rest ≡ None → Some (length text) ≡ bodies_size e all text
    no_line_at_end t h =
        let l = r.1 in
        let z : (length text - length rest) + length rest ≡ length text = omega (l, arith) in
        ap Some (sym z) ∙ (ap (λ c. option_map (λ m. (length text - length rest) + m) (cond c (Some (length rest)) None)) (sym t) ∙ no_line h)

    pub no_line_yet : e ≡ false → position is_line_end rest ≡ None → None ≡ bodies_size e all text
    no_line_yet t h = ap (λ c. option_map (λ m. (length text - length rest) + m) (cond c (Some (length rest)) None)) (sym t) ∙ no_line h

    module _ (place : ℕ) (p : position is_line_end rest ≡ Some place) (inside : place < length rest) where
      reached : (es : List Delimiter) (i : Bool) → behind_line e d ds j (take place rest) (drop (suc place) rest) ≡ size_from e es i [] (drop (suc place) rest) → Reached e text all es i (drop (suc place) rest)
      reached es i w =
          let l = r.1 in
          let t = length-drop (suc place) rest in (
            sym (compose (λ m. (length text - length rest) + m) (λ m. suc place + m) (λ m. (length text - length (drop (suc place) rest)) + m) (λ m. omega (l, t, inside, arith)) (size_from e es i [] (drop (suc place) rest)))
                ∙ (ap (λ o. option_map (λ m. (length text - length rest) + m) (option_map (λ m. suc place + m) o)) (sym w)
                ∙ (ap (option_map (λ m. (length text - length rest) + m)) (sym (line_size e d ds j place rest p))
                ∙ (ap (λ x. option_map (λ m. (length text - length rest) + m) (size_from e x j [] rest)) (sym is) ∙ r.0))),
            omega (l, t, arith),
          )

      pub end_reached : (not j && is_end_line d (take place rest)) ≡ true → Reached e text all ds false (drop (suc place) rest)
      end_reached h = reached ds false (rw h refl)

      pub line_reached : (not j && is_end_line d (take place rest)) ≡ false → Reached e text all due (joins_next d (take place rest)) (drop (suc place) rest)
      line_reached h = subst (λ x. Reached e text all x (joins_next d (take place rest)) (drop (suc place) rest)) (sym is) (reached (d ∷ ds) (joins_next d (take place rest)) (rw h refl))

pub none_due : (due : List Delimiter) → (0 < length due → false ≡ true) → due ≡ []
none_due [] h = refl
none_due (d ∷ ds) h = absurd (let z = h (omega arith) in cc)
