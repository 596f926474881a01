-- What the machine finds in a text is as the definition has it.
use Rattle.std.proofs.Common.{◌≡◌, inl, inr, ℕ, zero, suc, ◌<◌, Bool, true, false, ◌&&◌, not, nat_eq, nat_lt, List, [], ◌∷◌, ◌++◌, length, drop, Option, Some, None, refl, sym, ap, ◌∙◌, subst, arith, cond, eqb-true}
use Rattle.std.specs.List.{list_all}
use Rattle.std.proofs.lemmas.List.{append-nil}
use Rattle.sh_token_pieces.specs.declared.character.Character.{Character}
use Rattle.sh_token_pieces.specs.declared.character.Character.TheVariants.{Plain, Quoted, Raw}
use Rattle.sh_token_pieces.specs.declared.operator.Operator.{Operator}
use Rattle.sh_token_pieces.specs.declared.context.Context.{Context}
use Rattle.sh_token_pieces.specs.declared.context.Context.TheVariants.{Top, Commands, Word, Quotes, Braces, Arithmetic, Parenthesis, Body}
use Rattle.sh_token_pieces.specs.declared.piece.Piece.{Piece}
use Rattle.sh_token_pieces.specs.declared.piece.Piece.TheVariants.{Dollar, Variable, WordClose, Comment}
use Rattle.sh_token_pieces.specs.declared.pending.Pending.{Pending}
use Rattle.sh_token_pieces.specs.Bytes.{is_redirection, is_form}
use Rattle.sh_base.specs.Names.{continues_name}
use Rattle.sh_token_pieces.specs.Characters.{joins, Reads, Written, plain, InputEnd, ahead, next_is}
use Rattle.sh_token_pieces.specs.Operators.{operator_text}
use Rattle.sh_token_pieces.specs.Growth.{longer_operator, may_grow}
use Rattle.sh_token_pieces.specs.Pendings.{is_raw, is_gap_pending}
use Rattle.sh_token_pieces.specs.Pieces.{fits, IsPiece, is_text, top_of, is_word, word_begins, is_gap, ends_operator, ends_word, same_as, is_some, is_right_parenthesis, levels, with_token, is_more, is_newline}
use Rattle.sh_token_pieces.specs.TokenClasses.{Told, OfWord, OfOperator, class_of_operator}
use Rattle.sh_token_grammar.specs.Levels.{begins_compound}
use Rattle.sh_token.specs.Tokens.{IsToken, operator}
use Rattle.sh_token_scanner.specs.Machine.{State, Stepped, On, Before, After, TooDeep, DollarTooDeep, WordTooDeep, step, is_top, is_over_full, grow, grow_to, in_operator, operator_out, word_out}
use Rattle.sh_token_scanner.specs.Run.{Open, Places, with_next_prefix, with_prefix, after_character, begins_form, begins_word as word_begun, is_gap_state, Ending, EndsIn, EndsDeep, EndsNot, last_token, last_places, word_end, word_ended, ended_in, run}
use Rattle.sh_token.specs.Found.{kind_of}
use Rattle.sh_token_scanner.proofs.Running.{placed, after, follow, fed_backslash, joins_run, begin_of, is_raw_character, character_run}
use Rattle.sh_token_scanner.proofs.Tests.{and_both, and_false, and_right, not_false, below, text_token, text_serves, levels_taken}
use Rattle.sh_token_scanner.proofs.Leads.{begun, settled}
use Rattle.sh_token_scanner.proofs.Between.{between_no_word, between_no_body}
use Rattle.sh_token.proofs.Gaps.{kind_last}
use Rattle.sh_token_scanner.proofs.Growing.{grown_text}
use Rattle.sh_token.proofs.Paths.{WordBehind, Path, At, Held, Preceded, pending_levels, final_word, word_here, no_body, Going, Shown, path_on}
use Rattle.sh_token.proofs.WordStarts.{ahead_joins}
use Rattle.sh_token.proofs.Sound.{ahead_plain, ahead_quoted, whole_operator}
use Rattle.sh_token.proofs.Steps.{written_snoc, plain_snoc}
use Rattle.sh_token.proofs.Begun.{step_sound, dollar_piece, name_piece}

-- the next character of a text
pub data NextCharacter (e raw : Bool) (m : List ℕ) : Type 0 where
  got : (c : Character) → (rest : List ℕ) → raw ≡ is_raw_character c → Reads e c m rest → length rest < length m → NextCharacter e raw m
  over : (n : ℕ) → m ≡ joins n → (raw ≡ true → m ≡ []) → NextCharacter e raw m
  cut : (n : ℕ) → m ≡ joins n ++ 92 ∷ [] → e ≡ false → raw ≡ false → NextCharacter e raw m

reads_join : (e : Bool) (c : Character) (m rest : List ℕ) → is_raw_character c ≡ false → Reads e c m rest → Reads e c (92 ∷ 10 ∷ m) rest
reads_join e (Plain b) m rest k h = (suc h.0, ap (λ z. 92 ∷ 10 ∷ z) h.1, h.2)
reads_join e (Quoted b) m rest k h = (suc h.0, ap (λ z. 92 ∷ 10 ∷ z) h.1, h.2)
reads_join e (Raw b) m rest k h = absurd (cc)

behind_join : (e : Bool) (m : List ℕ) → NextCharacter e false m → NextCharacter e false (92 ∷ 10 ∷ m)
behind_join e m (got c rest k r l) = got c rest k (reads_join e c m rest (sym k) r) (omega arith)
behind_join e m (over n w z) = over (suc n) (ap (λ y. 92 ∷ 10 ∷ y) w) (λ h. absurd (cc))
behind_join e m (cut n w d k) = cut (suc n) (ap (λ y. 92 ∷ 10 ∷ y) w) d k

last_slash : (e : Bool) → NextCharacter e false (92 ∷ [])
last_slash true = got (Plain 92) [] refl (0, refl, inr (refl, refl, refl)) (omega arith)
last_slash false = cut 0 refl refl refl

pub next_cooked : (e : Bool) (m : List ℕ) → NextCharacter e false m
next_cooked e [] = over 0 refl (λ h. refl)
next_cooked e (b ∷ []) = go (nat_eq b 92) refl
  where
    go : (c : Bool) → nat_eq b 92 ≡ c → NextCharacter e false (b ∷ [])
    go true g = subst (λ z. NextCharacter e false (z ∷ [])) (sym (eqb-true b 92 g)) (last_slash e)
    go false g = got (Plain b) [] refl (0, refl, inl g) (omega arith)
next_cooked e (b ∷ c ∷ cs) = go (nat_eq b 92) refl (nat_eq c 10) refl (next_cooked e cs)
  where
    go : (x : Bool) → nat_eq b 92 ≡ x → (y : Bool) → nat_eq c 10 ≡ y → NextCharacter e false cs → NextCharacter e false (b ∷ c ∷ cs)
    go false g y h n = got (Plain b) (c ∷ cs) refl (0, refl, inl g) (omega arith)
    go true g true h n = subst (λ z. NextCharacter e false (z ∷ c ∷ cs)) (sym (eqb-true b 92 g)) (subst (λ z. NextCharacter e false (92 ∷ z ∷ cs)) (sym (eqb-true c 10 h)) (behind_join e cs n))
    go true g false h n = subst (λ z. NextCharacter e false (z ∷ c ∷ cs)) (sym (eqb-true b 92 g)) (got (Quoted c) cs refl (0, refl, h) (omega arith))

pub next_character : (e raw : Bool) (m : List ℕ) → NextCharacter e raw m
next_character e true [] = over 0 refl (λ h. refl)
next_character e true (b ∷ bs) = got (Raw b) bs refl refl (omega arith)
next_character e false m = next_cooked e m

-- a text that ends behind joined lines, or in a backslash
pub over_run : (e : Bool) (s : State) (p : Places) (n : ℕ) (m : List ℕ) → is_raw s.pending ≡ false → m ≡ joins n → p.next ≡ m → run e false s p m ≡ run e false s (placed [] p) []
over_run e s p n m r w x =
    let y : m ≡ joins n ++ [] = w ∙ sym (append-nil (joins n)) in
    ap (run e false s p) y ∙ joins_run e s p n [] r (x ∙ y)

pub cut_run : (e : Bool) (s : State) (p : Places) (n : ℕ) (m : List ℕ) → is_raw s.pending ≡ false → m ≡ joins n ++ 92 ∷ [] → p.next ≡ m → e ≡ false → run e false s p m ≡ Open (with_prefix s (placed (92 ∷ []) p)).form
cut_run e s p n m r w x d =
    ap (run e false s p) w ∙ (joins_run e s p n (92 ∷ []) r (x ∙ w)
    ∙ (ap (λ y. follow e y (with_prefix s (placed (92 ∷ []) p)) []) (fed_backslash s r)
    ∙ subst (λ e. run e true s (with_prefix s (placed (92 ∷ []) p)) [] ≡ Open (with_prefix s (placed (92 ∷ []) p)).form) (sym d) refl))

pub end_ahead : (n : ℕ) (m : List ℕ) → m ≡ joins n → ahead true m ≡ InputEnd
end_ahead n m w = ap (ahead true) (w ∙ sym (append-nil (joins n))) ∙ ahead_joins true n []

module _ (e : Bool) (limit : ℕ) (gap : List Piece) (prefix : List ℕ) (blank : list_all is_gap gap ≡ true) where
  -- the end of the input behind a word
  word_ended_shown : (x : Context) (xs : List Context) (done : List Piece) (mid : List ℕ) (z : Places) → Path e limit (WordBehind gap) prefix done (x ∷ xs) mid → z.prefix ≡ prefix → mid ≡ z.behind → ahead e z.behind ≡ InputEnd
      → Shown e limit gap prefix (last_token (word_ended (settled limit done (x ∷ xs))) z)
  word_ended_shown Top xs done mid z p w v a = tt
  word_ended_shown (Commands ts) xs done mid z p w v a = tt
  word_ended_shown (Word n) xs done mid z p w v a = go (is_top (with_token class xs)) refl (word_begins false done (Word n) && is_over_full (word_out false s)) refl
    where
      s : State
      s = settled limit done (Word n ∷ xs)

      class : Told
      class = OfWord false (drop (suc n) done)

      fits_end : fits e (Word n) (WordClose false) z.behind ≡ true
      fits_end = subst (λ y. (ends_word y && same_as false (next_is is_redirection y)) ≡ true) (sym a) refl

      over_text : is_text (top_of xs) ≡ true → IsPiece e limit done (Word n) xs (WordClose false) mid z.behind
      over_text t = record { written = v; fits = fits_end; level = refl; compound = text_serves limit (word_begins false done (Word n)) class xs (below (Word n) xs refl p.inside.order) t }

      go : (c : Bool) → is_top (with_token class xs) ≡ c → (d : Bool) → (word_begins false done (Word n) && is_over_full (word_out false s)) ≡ d
          → Shown e limit gap prefix (last_token (cond c (EndsIn (word_out false s)) (cond d EndsDeep EndsNot)) z)
      go true t d u = let y = sym (text_token class xs) ∙ t in (w, final_word e limit (WordBehind gap) prefix done (Word n) xs false mid z.behind blank p (over_text y) y)
      go false t true u =
          word_here e limit (WordBehind gap) prefix done n xs mid false p (sym (text_token class xs) ∙ t)
          (record {
            after = z.behind;
            written = v;
            fits = fits_end;
            exceeds = ap (λ l. word_begins false done (Word n) && nat_lt limit l) (sym (levels_taken class xs)) ∙ u;
          })
      go false t false u = tt
  word_ended_shown Quotes xs done mid z p w v a = tt
  word_ended_shown (Braces q) xs done mid z p w v a = tt
  word_ended_shown Arithmetic xs done mid z p w v a = tt
  word_ended_shown Parenthesis xs done mid z p w v a = tt
  word_ended_shown Body xs done mid z p w v a = absurd (no_body e limit gap prefix done xs mid p)

  module _ (x : Context) (xs : List Context) (done : List Piece) (mid : List ℕ) (p : Path e limit (WordBehind gap) prefix done (x ∷ xs) mid) where
    -- the end of the input
    end_shown : (q : Pending) (acc : List ℕ) (z : Places) → Held e limit q (x ∷ xs) acc mid z.behind → z.prefix ≡ prefix → ahead e z.behind ≡ InputEnd
        → Shown e limit gap prefix (last_token (ended_in q (begun limit (x ∷ xs) done (pending_levels q (levels (x ∷ xs))) q acc)) z)
    end_shown Pending.Nothing acc z h w a =
        subst (λ y. Shown e limit gap prefix (last_token (ended_in Pending.Nothing (begun limit (x ∷ xs) done (levels (x ∷ xs)) Pending.Nothing y)) z)) (sym h.0)
        (subst (λ c. Shown e limit gap prefix (last_token (cond c (EndsIn (settled limit done (x ∷ xs))) (word_ended (settled limit done (x ∷ xs)))) z)) (sym p.inside.inner)
        (word_ended_shown x xs done mid z p w h.1 a))
    end_shown Pending.Dollar acc z h w a =
        word_ended_shown x xs (done ++ Dollar ∷ []) z.behind z
        (path_on e limit (WordBehind gap) prefix done x xs Dollar mid z.behind p
        (dollar_piece e limit (WordBehind gap) prefix blank [] x xs done mid z.behind p h.1 (not_false (next_is is_form (ahead e z.behind)) (ap (next_is is_form) a)) h.2) refl) w refl a
    end_shown Pending.DollarParenthesis acc z h w a = tt
    end_shown Pending.Name acc z h w a =
        word_ended_shown x xs (done ++ Variable acc ∷ []) z.behind z
        (path_on e limit (WordBehind gap) prefix done x xs (Variable acc) mid z.behind p
        (name_piece e limit (WordBehind gap) prefix blank [] x xs done mid z.behind p acc h.0 h.1 (not_false (next_is continues_name (ahead e z.behind)) (ap (next_is continues_name) a)) h.2) refl) w refl a
    end_shown (Pending.Head g) acc z h w a = tt
    end_shown Pending.Single acc z h w a = tt
    end_shown Pending.Backquotes acc z h w a = tt
    end_shown Pending.BackquotesEscape acc z h w a = tt
    end_shown Pending.Parenthesis acc z h w a = tt
    end_shown (Pending.Body l n j) acc z h w a = tt
    end_shown (Pending.Operator o) acc z h w a =
        subst (λ c. Shown e limit gap prefix (last_token (cond c (EndsIn (operator_out o (begun limit (x ∷ xs) done (levels (x ∷ xs)) (Pending.Operator o) acc))) EndsNot) z)) (sym p.inside.inner) tt
    end_shown Pending.Comment acc z h w a =
        subst (λ c. Shown e limit gap prefix (last_token (cond c (EndsIn behind_it) (word_ended behind_it)) z)) (sym p.inside.inner)
        (subst (λ c. Shown e limit gap prefix (last_token (cond c (EndsIn behind_it) (cond (is_word x) over_it EndsNot)) z)) (sym (between_no_body x h.1))
        (subst (λ c. Shown e limit gap prefix (last_token (cond c over_it EndsNot) z)) (sym (between_no_word x h.1)) tt))
      where
        behind_it : State
        behind_it = settled limit (done ++ Comment acc ∷ []) (x ∷ xs)

        over_it : Ending
        over_it = word_end (word_begins false (done ++ Comment acc ∷ []) x) (word_out false behind_it)

  -- a run within the first word
  abbrev InnerSound : List ℕ → Type 0
  InnerSound m = (t : State) (p : Places) → At e limit (WordBehind gap) prefix t p.previous m → p.next ≡ m → p.behind ≡ m → p.prefix ≡ prefix → Shown e limit gap prefix (run e false t p m)

  pub onward_shown : (y : Stepped) (p : Places) (begin m rest : List ℕ) → InnerSound rest → Going e limit (WordBehind gap) prefix y p.previous begin m rest → p.behind ≡ m → p.prefix ≡ prefix → Shown e limit gap prefix (after e y (placed begin p) rest)
  onward_shown (On t) p begin m rest ih g b f = ih t (after_character (begins_form t) (word_begun t) rest (placed begin p)) g.it refl refl f
  onward_shown (Before t) p begin m rest ih g b f = (f, subst (λ z. IsToken e limit gap prefix z (kind_of t.done)) (sym b) g.it)
  onward_shown (After t) p begin m rest ih g b f = (f, g.it)
  onward_shown (TooDeep t) p begin m rest ih g b f = g.it
  onward_shown (DollarTooDeep t) p begin m rest ih g b f = record { place = p.previous; here = g.it }
  onward_shown (WordTooDeep t) p begin m rest ih g b f = g.it

  module _ (x : Context) (xs : List Context) (done : List Piece) (mid : List ℕ) (path : Path e limit (WordBehind gap) prefix done (x ∷ xs) mid) (q : Pending) (acc m : List ℕ) (p : Places) (held : Held e limit q (x ∷ xs) acc mid m)
      (preceded : Preceded q acc p.previous m) (n : p.next ≡ m) (b : p.behind ≡ m) (f : p.prefix ≡ prefix) where
    abbrev s : State
    s = begun limit (x ∷ xs) done (pending_levels q (levels (x ∷ xs))) q acc

    no_gap : is_gap_state s ≡ false
    no_gap = and_right (is_gap_pending q) (is_text x) path.inside.inner

    got_shown : (c : Character) (rest : List ℕ) → is_raw q ≡ is_raw_character c → Reads e c m rest → InnerSound rest → Shown e limit gap prefix (run e false s p m)
    got_shown c rest k r ih =
        subst (Shown e limit gap prefix) (sym (character_run e s p c m rest k r n ∙ ap (λ z. after e (step s c) (with_next_prefix z (placed (begin_of c rest) p)) rest) no_gap))
        (onward_shown (step s c) p (begin_of c rest) m rest ih (step_sound e limit (WordBehind gap) prefix blank p.previous x xs done mid m path q acc c rest k held preceded r) b f)

    end_places : ahead true m ≡ InputEnd → (d : Bool) → e ≡ d → Shown e limit gap prefix (run d false s (placed [] p) [])
    end_places a false w = tt
    end_places a true w =
        subst (λ z. Shown e limit gap prefix (last_places s (with_next_prefix z (placed [] p)))) (sym no_gap)
        (end_shown x xs done mid path q acc (placed [] p) (subst (Held e limit q (x ∷ xs) acc mid) (sym b) held) f (ap (ahead e) b ∙ (ap (λ z. ahead z m) w ∙ a)))

    over_shown : (k : ℕ) → m ≡ joins k → (is_raw q ≡ true → m ≡ []) → (c : Bool) → is_raw q ≡ c → Shown e limit gap prefix (run e false s p m)
    over_shown k w z false r = subst (Shown e limit gap prefix) (sym (over_run e s p k m r w n)) (end_places (end_ahead k m w) e refl)
    over_shown k w z true r =
        let v = z r in
        subst (λ y. Shown e limit gap prefix (run e false s p y)) (sym v)
        (subst (λ y. Shown e limit gap prefix (run e false s y [])) (empty_next v) (end_places (end_ahead k m w) e refl))
      where
        empty_next : m ≡ [] → placed [] p ≡ p
        empty_next v = ap (λ z. placed z p) (sym v ∙ sym n)

    inner_shown : NextCharacter e (is_raw q) m → ((rest : List ℕ) → length rest < length m → InnerSound rest) → Shown e limit gap prefix (run e false s p m)
    inner_shown (got c rest k r l) ih = got_shown c rest k r (ih rest l)
    inner_shown (over k w z) ih = over_shown k w z (is_raw q) refl
    inner_shown (cut k w d r) ih = subst (Shown e limit gap prefix) (sym (cut_run e s p k m r w n d)) tt

  inner_cases : (xs : List Context) (done : List Piece) (q : Pending) (acc mid m : List ℕ) (p : Places) → Path e limit (WordBehind gap) prefix done xs mid → Held e limit q xs acc mid m → Preceded q acc p.previous m → p.next ≡ m → p.behind ≡ m
      → p.prefix ≡ prefix → ((rest : List ℕ) → length rest < length m → InnerSound rest) → Shown e limit gap prefix (run e false (begun limit xs done (pending_levels q (levels xs)) q acc) p m)
  inner_cases [] done q acc mid m p path h r n b f ih = let z = path.inside.order in absurd (cc)
  inner_cases (x ∷ xs) done q acc mid m p path h r n b f ih = inner_shown x xs done mid path q acc m p h r n b f (next_character e (is_raw q) m) ih

  inner_sound : (fuel : ℕ) (m : List ℕ) → length m < fuel → InnerSound m
  inner_sound zero m l t p a n b f = absurd (omega arith)
  inner_sound (suc fuel) m l t p a n b f =
      subst (λ z. Shown e limit gap prefix (run e false z p m)) (sym a.is)
      (inner_cases a.xs a.done a.pending a.acc a.mid m p a.path a.held a.preceded n b f (λ rest k. inner_sound fuel rest (omega arith)))

  pub inner : (m : List ℕ) → InnerSound m
  inner m = inner_sound (suc (length m)) m (omega arith)

  -- an operator of the text itself
  abbrev OperatorSound : List ℕ → Type 0
  OperatorSound m = (o : Operator) (p : Places) → may_grow o ≡ true → Written e (plain (operator_text o)) prefix m → p.next ≡ m → p.behind ≡ m → p.prefix ≡ prefix
      → Shown e limit gap prefix (run e false (begun limit (Top ∷ []) gap 0 (Pending.Operator o) []) p m)

  more_top : (o : Operator) → is_more o Top ≡ false
  more_top o = rw (and_false (is_right_parenthesis o), and_false (is_newline o)) refl

  operator_token : (o : Operator) (rest : List ℕ) → ends_operator o (ahead e rest) ≡ true → Written e (plain (operator_text o)) prefix rest → IsToken e limit gap prefix rest (kind_of (gap ++ Piece.Operator o ∷ []))
  operator_token o rest h w =
      subst (IsToken e limit gap prefix rest) (sym (kind_last gap (Piece.Operator o)))
      (operator o (record {
        written = w;
        fits = and_both (ends_operator o (ahead e rest)) (not (is_more o Top)) h (not_false (is_more o Top) (more_top o));
        level = refl;
        compound = text_serves limit (begins_compound (class_of_operator o)) (OfOperator o) (Top ∷ []) refl refl;
      }))

  pub grown_shown : (o : Operator) (p : Places) (rest : List ℕ) → OperatorSound rest → Written e (plain (operator_text o)) prefix rest → p.prefix ≡ prefix
      → Shown e limit gap prefix (after e (grow o (settled limit gap (Top ∷ []))) p rest)
  grown_shown o p rest ih w f = go (may_grow o) refl
    where
      go : (c : Bool) → may_grow o ≡ c → Shown e limit gap prefix (after e (cond c (On (begun limit (Top ∷ []) gap 0 (Pending.Operator o) [])) (After (operator_out o (settled limit gap (Top ∷ []))))) p rest)
      go true g = ih o (after_character false false rest p) g w refl refl f
      go false g = (f, operator_token o rest (whole_operator o (ahead e rest) g) w)

  module _ (o : Operator) (p : Places) (m : List ℕ) (g : may_grow o ≡ true) (w : Written e (plain (operator_text o)) prefix m) (n : p.next ≡ m) (b : p.behind ≡ m) (f : p.prefix ≡ prefix) where
    abbrev in_it : State
    in_it = begun limit (Top ∷ []) gap 0 (Pending.Operator o) []

    ended_before : ends_operator o (ahead e m) ≡ true → (p.prefix ≡ prefix) × IsToken e limit gap prefix p.behind (kind_of (gap ++ Piece.Operator o ∷ []))
    ended_before h = (f, subst (λ z. IsToken e limit gap prefix z (kind_of (gap ++ Piece.Operator o ∷ []))) (sym b) (operator_token o m h w))

    operator_step : (c : Character) (rest : List ℕ) → false ≡ is_raw_character c → Reads e c m rest → OperatorSound rest → Shown e limit gap prefix (after e (step in_it c) (placed (begin_of c rest) p) rest)
    unfolding in_operator
    operator_step (Plain c) rest k r ih = go (longer_operator o c) refl
      where
        go : (y : Option Operator) → longer_operator o c ≡ y → Shown e limit gap prefix (after e (grow_to o y in_it c) (placed (c ∷ rest) p) rest)
        go (Some longer) h =
            grown_shown longer (placed (c ∷ rest) p) rest ih
            (subst (λ z. Written e z prefix rest) (plain_snoc (operator_text o) c ∙ ap plain (sym (grown_text o longer c h))) (written_snoc e (plain (operator_text o)) (Plain c) prefix m rest w r)) f
        go None h = ended_before (ap (ends_operator o) (ahead_plain e c m rest r) ∙ ap (λ z. not (is_some z)) h)
    operator_step (Quoted c) rest k r ih = ended_before (ap (ends_operator o) (ahead_quoted e c m rest r))
    operator_step (Raw c) rest k r ih = absurd (cc)

    operator_end : ahead true m ≡ InputEnd → (d : Bool) → e ≡ d → Shown e limit gap prefix (run d false in_it (placed [] p) [])
    operator_end a false v = tt
    operator_end a true v = ended_before (ap (ends_operator o) (ap (λ z. ahead z m) v ∙ a))

    operator_cases : NextCharacter e false m → ((rest : List ℕ) → length rest < length m → OperatorSound rest) → Shown e limit gap prefix (run e false in_it p m)
    operator_cases (got c rest k r l) ih = subst (Shown e limit gap prefix) (sym (character_run e in_it p c m rest k r n)) (operator_step c rest k r (ih rest l))
    operator_cases (over i v z) ih = subst (Shown e limit gap prefix) (sym (over_run e in_it p i m refl v n)) (operator_end (end_ahead i m v) e refl)
    operator_cases (cut i v d r) ih = subst (Shown e limit gap prefix) (sym (cut_run e in_it p i m refl v n d)) tt

  operator_sound : (fuel : ℕ) (m : List ℕ) → length m < fuel → OperatorSound m
  operator_sound zero m l o p g w n b f = absurd (omega arith)
  operator_sound (suc fuel) m l o p g w n b f = operator_cases o p m g w n b f (next_cooked e m) (λ rest k. operator_sound fuel rest (omega arith))

  pub top_operator : (m : List ℕ) → OperatorSound m
  top_operator m = operator_sound (suc (length m)) m (omega arith)
