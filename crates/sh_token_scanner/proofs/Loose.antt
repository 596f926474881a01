-- What the machine keeps of where the forms of a body begin.
use Rattle.std.proofs.Common.{◌≡◌, ◌⊎◌, inl, inr, ℕ, suc, ◌≤◌, Bool, true, false, ◌&&◌, nat_eq, nat_lt, List, [], ◌∷◌, ◌++◌, length, refl, sym, ap, subst, arith, cond}
use Rattle.sh_token_pieces.specs.declared.character.Character.{Character}
use Rattle.sh_token_pieces.specs.declared.character.Character.TheVariants.{Plain, Quoted, Raw}
use Rattle.sh_token_pieces.specs.declared.context.Context.{Context}
use Rattle.sh_token_pieces.specs.declared.context.Context.TheVariants.{Top, Commands, Word, Quotes, Braces, Arithmetic, Parenthesis, Body}
use Rattle.sh_token_pieces.specs.declared.piece.Piece.{Piece}
use Rattle.sh_token_pieces.specs.declared.piece.Piece.TheVariants.{Byte, Dollar, Variable}
use Rattle.sh_token_pieces.specs.declared.pending.Pending.{Pending}
use Rattle.sh_token_pieces.specs.declared.head.Head.{Head}
use Rattle.sh_token_pieces.specs.Bytes.{is_short_parameter}
use Rattle.sh_base.specs.Names.{begins_name, continues_name}
use Rattle.sh_token_pieces.specs.Pendings.{is_raw}
use Rattle.sh_token_pieces.specs.Pieces.{is_body, top_of}
use Rattle.sh_token_scanner.specs.Machine.{State, Stepped, On, Before, After, TooDeep, DollarTooDeep, WordTooDeep, step, plain_byte, quoted_byte, word_byte, inner_byte, in_name, after_dollar, at_dollar, opens, pend, same}
use Rattle.sh_token_scanner.specs.Run.{Fed, Waits, Takes, byte_step, Open, Places, is_gap_state, begins_form, begins_word as word_begun, Ending, EndsIn, EndsDeep, EndsNot, ended_in, last_token, with_next_prefix, with_prefix, after_character, after_wait, last_places, last_step, last, run}
use Rattle.sh_token_scanner.proofs.Running.{follow, is_raw_character}
use Rattle.sh_token_scanner.proofs.Tests.{and_false}
use Rattle.sh_token_scanner.proofs.Leads.{begun}

-- in a body, no form has begun, nor a `$`
abbrev pub is_loose_in : Pending → Bool
is_loose_in Pending.Nothing = true
is_loose_in Pending.Name = true
is_loose_in Pending.Dollar = false
is_loose_in Pending.DollarParenthesis = false
is_loose_in (Pending.Head h) = false
is_loose_in Pending.Single = false
is_loose_in Pending.Backquotes = false
is_loose_in Pending.BackquotesEscape = false
is_loose_in Pending.Parenthesis = false
is_loose_in (Pending.Operator o) = false
is_loose_in Pending.Comment = false
is_loose_in (Pending.Body l n j) = false

abbrev pub is_loose : State → Bool
is_loose s = is_body (top_of s.contexts) && is_loose_in s.pending

-- so it is behind a character too, or a form may begin with that
abbrev pub Tame : Stepped → Type 0
Tame (On t) = (is_loose t ≡ true) ⊎ (begins_form t ≡ true)
Tame (Before t) = Unit {0}
Tame (After t) = Unit {0}
Tame (TooDeep t) = Unit {0}
Tame (DollarTooDeep t) = Unit {0}
Tame (WordTooDeep t) = Unit {0}

tame_if : (c : Bool) (x y : Stepped) → Tame x → Tame y → Tame (cond c x y)
tame_if true x y h g = h
tame_if false x y h g = g

module _ (limit : ℕ) (xs : List Context) (done : List Piece) (lv : ℕ) (q : Pending) (acc : List ℕ) where
  abbrev here : State
  here = begun limit (Body ∷ xs) done lv q acc

  body_byte : (b : ℕ) → plain_byte here b ≡ cond (nat_eq b 36) (On (pend Pending.Dollar here)) (cond (nat_eq b 96) (opens Pending.Backquotes here) (On (same (Byte b) here)))
  unfolding plain_byte word_byte inner_byte
  body_byte b = rw (and_false (nat_eq b 39), and_false (nat_eq b 34), and_false (nat_eq b 125), and_false (nat_eq b 41), and_false (nat_eq b 40)) refl

  tame_opens : Tame (opens Pending.Backquotes here)
  tame_opens = tame_if (nat_lt lv limit) _ _ (inr refl) tt

  pub tame_plain : (b : ℕ) → Tame (plain_byte here b)
  tame_plain b = subst Tame (sym (body_byte b)) (tame_if (nat_eq b 36) _ _ (inr refl) (tame_if (nat_eq b 96) _ _ tame_opens (inl refl)))

  pub tame_quoted : (b : ℕ) → Tame (quoted_byte here b)
  unfolding quoted_byte
  tame_quoted b = inl refl

tame_body : (limit : ℕ) (xs : List Context) (done : List Piece) (lv : ℕ) (q : Pending) (acc : List ℕ) (c : Character) → is_loose_in q ≡ true → Tame (step (begun limit (Body ∷ xs) done lv q acc) c)
unfolding in_name
tame_body limit xs done lv Pending.Nothing acc (Plain b) h = tame_plain limit xs done lv Pending.Nothing acc b
tame_body limit xs done lv Pending.Nothing acc (Quoted b) h = tame_quoted limit xs done lv Pending.Nothing acc b
tame_body limit xs done lv Pending.Nothing acc (Raw b) h = inl refl
tame_body limit xs done lv Pending.Name acc (Plain b) h = tame_if (continues_name b) _ _ (inl refl) (tame_plain limit xs (done ++ Variable acc ∷ []) lv Pending.Nothing [] b)
tame_body limit xs done lv Pending.Name acc (Quoted b) h = tame_quoted limit xs (done ++ Variable acc ∷ []) lv Pending.Nothing [] b
tame_body limit xs done lv Pending.Name acc (Raw b) h = inl refl
tame_body limit xs done lv Pending.Dollar acc c h = absurd (cc)
tame_body limit xs done lv Pending.DollarParenthesis acc c h = absurd (cc)
tame_body limit xs done lv (Pending.Head g) acc c h = absurd (cc)
tame_body limit xs done lv Pending.Single acc c h = absurd (cc)
tame_body limit xs done lv Pending.Backquotes acc c h = absurd (cc)
tame_body limit xs done lv Pending.BackquotesEscape acc c h = absurd (cc)
tame_body limit xs done lv Pending.Parenthesis acc c h = absurd (cc)
tame_body limit xs done lv (Pending.Operator o) acc c h = absurd (cc)
tame_body limit xs done lv Pending.Comment acc c h = absurd (cc)
tame_body limit xs done lv (Pending.Body l n j) acc c h = absurd (cc)

tame_in : (limit : ℕ) (xs : List Context) (done : List Piece) (lv : ℕ) (q : Pending) (acc : List ℕ) (c : Character) → is_loose (begun limit xs done lv q acc) ≡ true → Tame (step (begun limit xs done lv q acc) c)
tame_in limit [] done lv q acc c h = absurd (cc)
tame_in limit (Top ∷ xs) done lv q acc c h = absurd (cc)
tame_in limit (Commands ts ∷ xs) done lv q acc c h = absurd (cc)
tame_in limit (Word n ∷ xs) done lv q acc c h = absurd (cc)
tame_in limit (Quotes ∷ xs) done lv q acc c h = absurd (cc)
tame_in limit (Braces r ∷ xs) done lv q acc c h = absurd (cc)
tame_in limit (Arithmetic ∷ xs) done lv q acc c h = absurd (cc)
tame_in limit (Parenthesis ∷ xs) done lv q acc c h = absurd (cc)
tame_in limit (Body ∷ xs) done lv q acc c h = tame_body limit xs done lv q acc c h

pub step_tame : (s : State) (c : Character) → is_loose s ≡ true → Tame (step s c)
step_tame s c h = tame_in s.limit s.contexts s.done s.levels s.pending s.bytes c h

-- behind a `$` so it is too, or a form goes on with the character
abbrev pub IsOpening : Character → Type 0
IsOpening (Plain b) = (nat_eq b 123 ≡ true) ⊎ (nat_eq b 40 ≡ true)
IsOpening (Quoted b) = ⊥
IsOpening (Raw b) = ⊥

abbrev pub DollarTame : Character → Stepped → Type 0
DollarTame c (On t) = (is_loose t ≡ true) ⊎ (begins_form t ≡ true) ⊎ IsOpening c
DollarTame c (Before t) = Unit {0}
DollarTame c (After t) = Unit {0}
DollarTame c (TooDeep t) = Unit {0}
DollarTame c (DollarTooDeep t) = Unit {0}
DollarTame c (WordTooDeep t) = Unit {0}

dollar_if : (c : Character) (d : Bool) (x y : Stepped) → (d ≡ true → DollarTame c x) → (d ≡ false → DollarTame c y) → DollarTame c (cond d x y)
dollar_if c true x y h g = h refl
dollar_if c false x y h g = g refl

dollar_of : (c : Character) (x : Stepped) → Tame x → DollarTame c x
dollar_of c (On t) (inl h) = inl h
dollar_of c (On t) (inr h) = inr (inl h)
dollar_of c (Before t) h = tt
dollar_of c (After t) h = tt
dollar_of c (TooDeep t) h = tt
dollar_of c (DollarTooDeep t) h = tt
dollar_of c (WordTooDeep t) h = tt

pub dollar_tame : (limit : ℕ) (xs : List Context) (done : List Piece) (lv : ℕ) (acc : List ℕ) (c : Character) → is_raw_character c ≡ false → DollarTame c (step (begun limit (Body ∷ xs) done lv Pending.Dollar acc) c)
unfolding after_dollar
dollar_tame limit xs done lv acc (Plain b) k =
    dollar_if (Plain b) (begins_name b) _ _ (λ h. inl refl)
    (λ h. dollar_if (Plain b) (is_short_parameter b) _ _ (λ h. inl refl)
    (λ h. dollar_if (Plain b) (nat_eq b 123) _ _ (λ h. opening (Pending.Head Head.Start) (inl h))
    (λ h. dollar_if (Plain b) (nat_eq b 40) _ _ (λ h. opening Pending.DollarParenthesis (inr h))
    (λ h. dollar_of (Plain b) (plain_byte (begun limit (Body ∷ xs) (done ++ Dollar ∷ []) lv Pending.Nothing []) b) (tame_plain limit xs (done ++ Dollar ∷ []) lv Pending.Nothing [] b)))))
  where
    opening : (q : Pending) → IsOpening (Plain b) → DollarTame (Plain b) (at_dollar (opens q (begun limit (Body ∷ xs) done lv Pending.Dollar acc)))
    opening q i = go (nat_lt lv limit)
      where
        go : (d : Bool) → DollarTame (Plain b) (at_dollar (cond d (On (begun limit (Body ∷ xs) done (suc lv) q [])) (TooDeep (begun limit (Body ∷ xs) done lv Pending.Dollar acc))))
        go true = inr (inr i)
        go false = tt
dollar_tame limit xs done lv acc (Quoted b) k = dollar_of (Quoted b) (quoted_byte (begun limit (Body ∷ xs) (done ++ Dollar ∷ []) lv Pending.Nothing []) b) (tame_quoted limit xs (done ++ Dollar ∷ []) lv Pending.Nothing [] b)
dollar_tame limit xs done lv acc (Raw b) k = absurd (cc)

-- the same of a byte
abbrev FedTame : Fed → Type 0
FedTame (Waits h t) = is_loose t ≡ true
FedTame (Takes x) = Tame x

fed_if : (c : Bool) (x y : Fed) → FedTame x → FedTame y → FedTame (cond c x y)
fed_if true x y h g = h
fed_if false x y h g = g

fed_tame : (s : State) (held : Bool) (b : ℕ) → is_loose s ≡ true → FedTame (byte_step (record { state = s; held = held }) b)
unfolding byte_step
fed_tame s true b h = fed_if (nat_eq b 10) _ _ h (step_tame s (Quoted b) h)
fed_tame s false b h = fed_if (is_raw s.pending) _ _ (step_tame s (Raw b) h) (fed_if (nat_eq b 92) _ _ h (step_tame s (Plain b) h))

-- how far on the last form begins
open_is : (f g : List ℕ) → Open f ≡ Open g → f ≡ g
open_is f g h = cc

module _ (size : ℕ) (f : List ℕ) where
  prefix_next : (c : Bool) (p : Places) → length p.next ≤ size → length (with_next_prefix c p).next ≤ size
  prefix_next true p h = h
  prefix_next false p h = h

  prefix_form : (c : Bool) (p : Places) → length p.form ≤ size → length (with_next_prefix c p).form ≤ size
  prefix_form true p h = h
  prefix_form false p h = h

  moved_form : (c d : Bool) (after : List ℕ) (p : Places) → length p.next ≤ size → (c ≡ false → length p.form ≤ size) → length (after_character c d after p).form ≤ size
  moved_form true d after p h g = h
  moved_form false d after p h g = g refl

  ended_form : (s : State) (p : Places) → length p.form ≤ size → last_places s p ≡ Open f → length f ≤ size
  ended_form s p h w = go (ended_in s.pending s) w
    where
      go : (x : Ending) → last_token x p ≡ Open f → length f ≤ size
      go EndsNot w = omega (arith, ap length (open_is p.form f w), h)
      go EndsDeep w = absurd (cc)
      go (EndsIn t) w = absurd (cc)

  last_form : (h : Bool) (s : State) (p : Places) → length p.next ≤ size → length p.form ≤ size → last h s p ≡ Open f → length f ≤ size
  last_form false s p n g w = ended_form s p g w
  last_form true s p n g w = go (step s (Plain 92)) w
    where
      go : (x : Stepped) → last_step x p ≡ Open f → length f ≤ size
      go (On t) w = ended_form t (with_prefix t (after_character (begins_form t) (word_begun t) [] p)) (prefix_form (is_gap_state t) (after_character (begins_form t) (word_begun t) [] p) (moved_form (begins_form t) (word_begun t) [] p n (λ z. g))) w
      go (Before t) w = absurd (cc)
      go (After t) w = absurd (cc)
      go (TooDeep t) w = absurd (cc)
      go (DollarTooDeep t) w = absurd (cc)
      go (WordTooDeep t) w = absurd (cc)

  abbrev Bounded : Bool → List ℕ → Type 0
  Bounded e m = (h : Bool) (s : State) (p : Places) → length p.next ≤ size → length p.form ≤ size → run e h s p m ≡ Open f → length f ≤ size

  follow_form : (e : Bool) (x : Fed) (q : Places) (bs : List ℕ) → length bs ≤ size → Bounded e bs → length q.next ≤ size → length q.form ≤ size → follow e x q bs ≡ Open f → length f ≤ size
  follow_form e (Waits true t) q bs l ih n g w = ih true t q n g w
  follow_form e (Waits false t) q bs l ih n g w = ih false t (after_wait false bs q) l g w
  follow_form e (Takes (On t)) q bs l ih n g w = ih false t (after_character (begins_form t) (word_begun t) bs q) l (moved_form (begins_form t) (word_begun t) bs q n (λ z. g)) w
  follow_form e (Takes (Before t)) q bs l ih n g w = absurd (cc)
  follow_form e (Takes (After t)) q bs l ih n g w = absurd (cc)
  follow_form e (Takes (TooDeep t)) q bs l ih n g w = absurd (cc)
  follow_form e (Takes (DollarTooDeep t)) q bs l ih n g w = absurd (cc)
  follow_form e (Takes (WordTooDeep t)) q bs l ih n g w = absurd (cc)

  run_form : (e : Bool) (m : List ℕ) → length m ≤ size → Bounded e m
  run_form true [] l h s p n g w = last_form h s (with_prefix s p) (prefix_next (is_gap_state s) p n) (prefix_form (is_gap_state s) p g) w
  run_form false [] l h s p n g w = omega (arith, ap length (open_is p.form f w), g)
  run_form e (b ∷ bs) l h s p n g w =
      follow_form e (byte_step (record { state = s; held = h }) b) (with_prefix s p) bs (omega arith) (run_form e bs (omega arith)) (prefix_next (is_gap_state s) p n) (prefix_form (is_gap_state s) p g) w

  -- a body in which no form is open ends so
  body_ends : (limit : ℕ) (xs : List Context) (done : List Piece) (lv : ℕ) (q : Pending) (acc : List ℕ) (p : Places) → is_loose_in q ≡ true → last_places (begun limit (Body ∷ xs) done lv q acc) p ≡ Open f → ⊥
  body_ends limit xs done lv Pending.Nothing acc p h w = absurd (cc)
  body_ends limit xs done lv Pending.Name acc p h w = absurd (cc)
  body_ends limit xs done lv Pending.Dollar acc p h w = absurd (cc)
  body_ends limit xs done lv Pending.DollarParenthesis acc p h w = absurd (cc)
  body_ends limit xs done lv (Pending.Head g) acc p h w = absurd (cc)
  body_ends limit xs done lv Pending.Single acc p h w = absurd (cc)
  body_ends limit xs done lv Pending.Backquotes acc p h w = absurd (cc)
  body_ends limit xs done lv Pending.BackquotesEscape acc p h w = absurd (cc)
  body_ends limit xs done lv Pending.Parenthesis acc p h w = absurd (cc)
  body_ends limit xs done lv (Pending.Operator o) acc p h w = absurd (cc)
  body_ends limit xs done lv Pending.Comment acc p h w = absurd (cc)
  body_ends limit xs done lv (Pending.Body l n j) acc p h w = absurd (cc)

  ends_in : (limit : ℕ) (xs : List Context) (done : List Piece) (lv : ℕ) (q : Pending) (acc : List ℕ) (p : Places) → is_loose (begun limit xs done lv q acc) ≡ true → last_places (begun limit xs done lv q acc) p ≡ Open f → ⊥
  ends_in limit [] done lv q acc p h w = absurd (cc)
  ends_in limit (Top ∷ xs) done lv q acc p h w = absurd (cc)
  ends_in limit (Commands ts ∷ xs) done lv q acc p h w = absurd (cc)
  ends_in limit (Word n ∷ xs) done lv q acc p h w = absurd (cc)
  ends_in limit (Quotes ∷ xs) done lv q acc p h w = absurd (cc)
  ends_in limit (Braces r ∷ xs) done lv q acc p h w = absurd (cc)
  ends_in limit (Arithmetic ∷ xs) done lv q acc p h w = absurd (cc)
  ends_in limit (Parenthesis ∷ xs) done lv q acc p h w = absurd (cc)
  ends_in limit (Body ∷ xs) done lv q acc p h w = body_ends limit xs done lv q acc p h w

  loose_ends : (s : State) (p : Places) → is_loose s ≡ true → last_places s p ≡ Open f → ⊥
  loose_ends s p h w = ends_in s.limit s.contexts s.done s.levels s.pending s.bytes p h w

  begun_form : (c d : Bool) (after : List ℕ) (p : Places) → c ≡ true → length p.next ≤ size → length (after_character c d after p).form ≤ size
  begun_form true d after p h n = n
  begun_form false d after p h n = absurd (cc)

  loose_last : (h : Bool) (s : State) (p : Places) → is_loose s ≡ true → length p.next ≤ size → last h s p ≡ Open f → length f ≤ size
  loose_last false s p l n w = absurd (loose_ends s p l w)
  loose_last true s p l n w = go (step s (Plain 92)) (step_tame s (Plain 92) l) w
    where
      go : (x : Stepped) → Tame x → last_step x p ≡ Open f → length f ≤ size
      go (On t) (inl i) w = absurd (loose_ends t (with_prefix t (after_character (begins_form t) (word_begun t) [] p)) i w)
      go (On t) (inr i) w = ended_form t (with_prefix t (after_character (begins_form t) (word_begun t) [] p)) (prefix_form (is_gap_state t) (after_character (begins_form t) (word_begun t) [] p) (begun_form (begins_form t) (word_begun t) [] p i n)) w
      go (Before t) i w = absurd (cc)
      go (After t) i w = absurd (cc)
      go (TooDeep t) i w = absurd (cc)
      go (DollarTooDeep t) i w = absurd (cc)
      go (WordTooDeep t) i w = absurd (cc)

  abbrev LooseBounded : List ℕ → Type 0
  LooseBounded m = (h : Bool) (s : State) (p : Places) → is_loose s ≡ true → length p.next ≤ size → run true h s p m ≡ Open f → length f ≤ size

  loose_follow : (x : Fed) (q : Places) (bs : List ℕ) → FedTame x → length bs ≤ size → LooseBounded bs → length q.next ≤ size → follow true x q bs ≡ Open f → length f ≤ size
  loose_follow (Waits true t) q bs i l ih n w = ih true t q i n w
  loose_follow (Waits false t) q bs i l ih n w = ih false t (after_wait false bs q) i l w
  loose_follow (Takes (On t)) q bs (inl i) l ih n w = ih false t (after_character (begins_form t) (word_begun t) bs q) i l w
  loose_follow (Takes (On t)) q bs (inr i) l ih n w = run_form true bs l false t (after_character (begins_form t) (word_begun t) bs q) l (begun_form (begins_form t) (word_begun t) bs q i n) w
  loose_follow (Takes (Before t)) q bs i l ih n w = absurd (cc)
  loose_follow (Takes (After t)) q bs i l ih n w = absurd (cc)
  loose_follow (Takes (TooDeep t)) q bs i l ih n w = absurd (cc)
  loose_follow (Takes (DollarTooDeep t)) q bs i l ih n w = absurd (cc)
  loose_follow (Takes (WordTooDeep t)) q bs i l ih n w = absurd (cc)

  -- where no form has begun, the last one begins further on
  pub loose_run : (m : List ℕ) → length m ≤ size → LooseBounded m
  loose_run [] l h s p i n w = loose_last h s (with_prefix s p) i (prefix_next (is_gap_state s) p n) w
  loose_run (b ∷ bs) l h s p i n w =
      loose_follow (byte_step (record { state = s; held = h }) b) (with_prefix s p) bs (fed_tame s h b i) (omega arith) (loose_run bs (omega arith)) (prefix_next (is_gap_state s) p n) w
