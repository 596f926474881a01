-- Bodies of here-documents: the machine goes through them as the definition has them.
use Rattle.std.proofs.Common.{◌≡◌, ℕ, suc, zero, ◌-◌, Bool, true, false, ◌&&◌, not, nat_eq, List, [], ◌∷◌, ◌++◌, length, drop, refl, sym, ap, ◌∙◌, subst, append_assoc, cond, eqb-true, arith}
use Rattle.std.proofs.lemmas.List.{append-nil, length-append, length-drop}
use Rattle.std.proofs.Math.Seq.{drop-append_seam}
use Rattle.sh_token_pieces.specs.declared.character.Character.TheVariants.{Raw}
use Rattle.sh_token_pieces.specs.declared.context.Context.{Context}
use Rattle.sh_token_pieces.specs.declared.piece.Piece.{Piece}
use Rattle.sh_token_pieces.specs.declared.piece.Piece.TheVariants.{Bodies}
use Rattle.sh_token_pieces.specs.declared.pending.Pending.{Pending}
use Rattle.sh_token_pieces.specs.declared.here.Delimiter.{Delimiter}
use Rattle.sh_token_pieces.specs.Characters.{Written, raw}
use Rattle.sh_token_pieces.specs.Here.{lines, is_end_line, joins_next, is_nothing, are_bodies}
use Rattle.sh_token_pieces.specs.TokenClasses.{OfBodies}
use Rattle.sh_token_pieces.specs.Pieces.{due_in, are_some, top_of, with_token}
use Rattle.sh_token_scanner.specs.Machine.{State, On, in_place, in_body, line_end, line_over, line_of, bodies_out}
use Rattle.sh_token_scanner.proofs.Leads.{begun, kept, Leads, stay, joined, goes}

drop_next : (n : ℕ) (due others : List Delimiter) (d : Delimiter) → drop n due ≡ d ∷ others → drop (suc n) due ≡ others
drop_next zero [] others d h = absurd (cc)
drop_next (suc n) [] others d h = absurd (cc)
drop_next zero (c ∷ due) others d h = cc
drop_next (suc n) (c ∷ due) others d h = drop_next n due others d h

-- how many are over with a body
over_with : (n : ℕ) (due others : List Delimiter) (d : Delimiter) → drop n due ≡ d ∷ others → length due - length others ≡ suc n
over_with n due others d h = let l = length-drop n due in let k = ap length h in omega (l, k, arith)

pub some_dropped : (n : ℕ) (due : List Delimiter) → are_some (drop n due) ≡ true → are_some due ≡ true
some_dropped zero due h = h
some_dropped (suc n) [] h = absurd (cc)
some_dropped (suc n) (d ∷ due) h = refl

-- lines
pub record SomeLines (ls : List (List ℕ)) : Type 0 where
  pub first : List ℕ
  pub others : List (List ℕ)
  pub is : ls ≡ first ∷ others

pub lines_some : (line zs : List ℕ) → SomeLines (lines line zs)
lines_some line [] = record { first = line; others = []; is = refl }
lines_some line (b ∷ zs) = go (nat_eq b 10) (lines_some (line ++ b ∷ []) zs)
  where
    go : (c : Bool) → SomeLines (lines (line ++ b ∷ []) zs) → SomeLines (cond c (line ∷ lines [] zs) (lines (line ++ b ∷ []) zs))
    go true r = record { first = line; others = lines [] zs; is = refl }
    go false r = r

begun_line : (b : ℕ) (line zs : List ℕ) → is_nothing (lines (b ∷ line) zs) ≡ false
begun_line b line [] = refl
begun_line b line (c ∷ zs) = go (nat_eq c 10) (begun_line b (line ++ c ∷ []) zs)
  where
    go : (d : Bool) → is_nothing (lines (b ∷ (line ++ c ∷ [])) zs) ≡ false → is_nothing (cond d ((b ∷ line) ∷ lines [] zs) (lines (b ∷ (line ++ c ∷ [])) zs)) ≡ false
    go true r = refl
    go false r = r

pub nothing_left : (zs : List ℕ) → is_nothing (lines [] zs) ≡ true → zs ≡ []
nothing_left [] h = refl
nothing_left (b ∷ zs) h = absurd (go (nat_eq b 10) h)
  where
    two : (ls : List (List ℕ)) → SomeLines ls → is_nothing ([] ∷ ls) ≡ false
    two ls r = subst (λ z. is_nothing ([] ∷ z) ≡ false) (sym r.is) refl

    go : (c : Bool) → is_nothing (cond c ([] ∷ lines [] zs) (lines (b ∷ []) zs)) ≡ true → ⊥
    go true h = let f = two (lines [] zs) (lines_some [] zs) in absurd (cc)
    go false h = let f = begun_line b [] zs in absurd (cc)

-- a line with another behind it
pub one_line : (d : Delimiter) (others : List Delimiter) (j : Bool) (line : List ℕ) (ls : List (List ℕ)) → SomeLines ls
    → are_bodies (d ∷ others) j (line ∷ ls) ≡ cond (not j && is_end_line d line) (are_bodies others false ls) (are_bodies (d ∷ others) (joins_next d line) ls)
one_line d others j line ls r =
    subst (λ z. are_bodies (d ∷ others) j (line ∷ z) ≡ cond (not j && is_end_line d line) (are_bodies others false z) (are_bodies (d ∷ others) (joins_next d line) z)) (sym r.is) refl

-- where the machine stands in the bodies: behind the bytes `acc`, in a line that began behind `line` of them
pub record Stands (due : List Delimiter) (line bodies : ℕ) (j : Bool) (acc : List ℕ) : Type 0 where
  pub prefix : List ℕ
  pub current : List ℕ
  pub is : acc ≡ prefix ++ current
  pub begin : line ≡ length prefix
  pub awaits : are_some (drop bodies due) ≡ true
  pub same : (zs : List ℕ) → are_bodies due false (lines [] (acc ++ zs)) ≡ are_bodies (drop bodies due) j (lines current zs)

pub at_first : (due : List Delimiter) → are_some due ≡ true → Stands due 0 0 false []
at_first due h = record { prefix = []; current = []; is = refl; begin = refl; awaits = h; same = λ zs. refl }

module _ (limit : ℕ) (x : Context) (xs : List Context) (done : List Piece) (lv : ℕ) where
  abbrev pub within : ℕ → ℕ → Bool → List ℕ → State
  within line bodies j acc = begun limit (x ∷ xs) done lv (Pending.Body line bodies j) acc

  -- what a byte makes of it
  pub data Further (line bodies : ℕ) (j : Bool) (acc : List ℕ) (b : ℕ) : Type 0 where
    on : (l n : ℕ) → (i : Bool) → Stands (due_in x) l n i (acc ++ b ∷ []) → in_body line bodies j (within line bodies j acc) (Raw b) ≡ On (within l n i (acc ++ b ∷ [])) → Further line bodies j acc b
    over : b ≡ 10 → ((zs : List ℕ) → are_bodies (due_in x) false (lines [] (acc ++ b ∷ zs)) ≡ is_nothing (lines [] zs))
        → in_body line bodies j (within line bodies j acc) (Raw b) ≡ On (bodies_out (within line bodies j acc)) → Further line bodies j acc b

  module _ (line bodies : ℕ) (j : Bool) (acc : List ℕ) (r : Stands (due_in x) line bodies j acc) where
    -- a byte of the line
    byte_on : (b : ℕ) → nat_eq b 10 ≡ false → Further line bodies j acc b
    unfolding in_body
    byte_on b h =
        on line bodies j
        (record {
          prefix = r.prefix;
          current = r.current ++ b ∷ [];
          is = ap (λ z. z ++ b ∷ []) r.is ∙ append_assoc r.prefix r.current (b ∷ []);
          begin = r.begin;
          awaits = r.awaits;
          same = λ zs. ap (λ z. are_bodies (due_in x) false (lines [] z)) (append_assoc acc (b ∷ []) zs) ∙ (r.same (b ∷ zs) ∙ (rw h refl));
        }) (rw h refl)

    line_is : line_of line (within line bodies j acc) ≡ r.current
    line_is = ap (drop line) r.is ∙ (ap (λ z. drop z (r.prefix ++ r.current)) r.begin ∙ drop-append_seam r.prefix r.current)

    -- a line is over
    ended : (ds : List Delimiter) → drop bodies (due_in x) ≡ ds
        → in_body line bodies j (within line bodies j acc) (Raw 10) ≡ line_over (line_end (length (due_in x)) ds j r.current) bodies (within line bodies j acc)
    unfolding in_body
    ended ds h = ap (λ z. line_over (line_end (length (due_in x)) z j (line_of line (within line bodies j acc))) bodies (within line bodies j acc)) h
        ∙ ap (λ z. line_over (line_end (length (due_in x)) ds j z) bodies (within line bodies j acc)) line_is

    same_as_line : (d : Delimiter) (others : List Delimiter) → drop bodies (due_in x) ≡ d ∷ others → (zs : List ℕ)
        → are_bodies (due_in x) false (lines [] (acc ++ 10 ∷ zs)) ≡ cond (not j && is_end_line d r.current) (are_bodies others false (lines [] zs)) (are_bodies (d ∷ others) (joins_next d r.current) (lines [] zs))
    same_as_line d others h zs =
        r.same (10 ∷ zs) ∙ (ap (λ z. are_bodies z j (r.current ∷ lines [] zs)) h ∙ one_line d others j r.current (lines [] zs) (lines_some [] zs))

    next_line : length (acc ++ 10 ∷ []) ≡ suc (length acc)
    next_line = let l = length-append acc (10 ∷ []) in omega (l, arith)

    line_on : (n : ℕ) (i : Bool) → are_some (drop n (due_in x)) ≡ true
        → ((zs : List ℕ) → are_bodies (due_in x) false (lines [] (acc ++ 10 ∷ zs)) ≡ are_bodies (drop n (due_in x)) i (lines [] zs)) → Stands (due_in x) (suc (length acc)) n i (acc ++ 10 ∷ [])
    line_on n i w s =
        record {
          prefix = acc ++ 10 ∷ [];
          current = [];
          is = sym (append-nil (acc ++ 10 ∷ []));
          begin = sym next_line;
          awaits = w;
          same = λ zs. ap (λ z. are_bodies (due_in x) false (lines [] z)) (append_assoc acc (10 ∷ []) zs) ∙ s zs;
        }

    newline : (ds : List Delimiter) → drop bodies (due_in x) ≡ ds → Further line bodies j acc 10
    newline [] h = let w = r.awaits in let v = ap are_some h in absurd (cc)
    newline (d ∷ others) h = go (not j && is_end_line d r.current) refl others h
      where
        go : (c : Bool) → (not j && is_end_line d r.current) ≡ c → (os : List Delimiter) → drop bodies (due_in x) ≡ d ∷ os → Further line bodies j acc 10
        go true k [] w = over refl (λ zs. same_as_line d [] w zs ∙ (rw k refl)) (ended (d ∷ []) w ∙ (rw k refl))
        go true k (o ∷ os) w =
            let c = length (due_in x) - length (o ∷ os) in
            let n : drop c (due_in x) ≡ o ∷ os = ap (λ z. drop z (due_in x)) (over_with bodies (due_in x) (o ∷ os) d w) ∙ drop_next bodies (due_in x) (o ∷ os) d w in
            on (suc (length acc)) c false (line_on c false (ap are_some n) (λ zs. same_as_line d (o ∷ os) w zs ∙ ((rw k refl) ∙ ap (λ z. are_bodies z false (lines [] zs)) (sym n))))
            (ended (d ∷ o ∷ os) w ∙ (rw k refl))
        go false k os w =
            on (suc (length acc)) bodies (joins_next d r.current)
            (line_on bodies (joins_next d r.current) r.awaits (λ zs. same_as_line d os w zs ∙ ((rw k refl) ∙ ap (λ z. are_bodies z (joins_next d r.current) (lines [] zs)) (sym w))))
            (ended (d ∷ os) w ∙ (rw k refl))

    pub further : (b : ℕ) → Further line bodies j acc b
    further b = go (nat_eq b 10) refl
      where
        go : (c : Bool) → nat_eq b 10 ≡ c → Further line bodies j acc b
        go true h = subst (λ z. Further line bodies j acc z) (sym (eqb-true b 10 h)) (newline (drop bodies (due_in x)) refl)
        go false h = byte_on b h

  abbrev pub ended_at : List ℕ → State
  ended_at bs = kept limit (with_token OfBodies (x ∷ xs)) (done ++ Bodies bs ∷ []) (in_place x (top_of (with_token OfBodies (x ∷ xs))) lv)

  -- no line is unfinished
  unfinished : (ds : List Delimiter) (j : Bool) (line : List ℕ) → are_some ds ≡ true → are_bodies ds j (line ∷ []) ≡ true → ⊥
  unfinished [] j line h g = absurd (cc)
  unfinished (d ∷ ds) j line h g = absurd (cc)

  module _ (k e : Bool) where
    pub bodies_keep : (zs : List ℕ) (line bodies : ℕ) (j : Bool) (acc m rest : List ℕ) → Stands (due_in x) line bodies j acc → are_bodies (due_in x) false (lines [] (acc ++ zs)) ≡ true
        → Written e (raw zs) m rest → Leads k e (within line bodies j acc) m (ended_at (acc ++ zs)) rest
    bodies_keep [] line bodies j acc m rest r h w = absurd (unfinished (drop bodies (due_in x)) j r.current r.awaits (sym (r.same []) ∙ h))
    bodies_keep (b ∷ zs) line bodies j acc m rest r h w = go (further line bodies j acc r b) (λ l n i q g. bodies_keep zs l n i (acc ++ b ∷ []) w.0 rest q g w.2)
      where
        go : Further line bodies j acc b
            → ((l n : ℕ) (i : Bool) → Stands (due_in x) l n i (acc ++ b ∷ []) → are_bodies (due_in x) false (lines [] ((acc ++ b ∷ []) ++ zs)) ≡ true
            → Leads k e (within l n i (acc ++ b ∷ [])) w.0 (ended_at ((acc ++ b ∷ []) ++ zs)) rest)
            → Leads k e (within line bodies j acc) m (ended_at (acc ++ b ∷ zs)) rest
        go (on l n i q s) f =
            subst (λ z. Leads k e (within line bodies j acc) m (ended_at z) rest) (append_assoc acc (b ∷ []) zs)
            (joined k e (within line bodies j acc) (within l n i (acc ++ b ∷ [])) (ended_at ((acc ++ b ∷ []) ++ zs)) m w.0 rest
            (goes k e (within line bodies j acc) (within l n i (acc ++ b ∷ [])) m w.0 (Raw b) (λ t. refl) refl w.1 s)
            (f l n i q (ap (λ z. are_bodies (due_in x) false (lines [] z)) (append_assoc acc (b ∷ []) zs) ∙ h)))
        go (over t q s) f =
            let y = nothing_left zs (sym (q zs) ∙ h) in
            let v : Written e (raw []) w.0 rest = subst (λ z. Written e (raw z) w.0 rest) y w.2 in
            subst (λ z. Leads k e (within line bodies j acc) m (ended_at (acc ++ b ∷ z)) rest) (sym y)
            (subst (λ c. Leads k e (within line bodies j acc) m (ended_at (acc ++ c ∷ [])) rest) (sym t)
            (joined k e (within line bodies j acc) (ended_at (acc ++ 10 ∷ [])) (ended_at (acc ++ 10 ∷ [])) m w.0 rest
            (goes k e (within line bodies j acc) (ended_at (acc ++ 10 ∷ [])) m w.0 (Raw b) (λ t. refl) refl w.1 s)
            (stay k e (ended_at (acc ++ 10 ∷ [])) w.0 rest v)))
