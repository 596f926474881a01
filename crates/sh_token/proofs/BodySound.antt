-- What the machine finds in a body is as the definition has it.
use Rattle.std.proofs.Common.{◌≡◌, ◌⊎◌, inl, inr, ℕ, zero, suc, ◌<◌, Bool, true, false, ◌&&◌, nat_lt, List, [], ◌∷◌, ◌++◌, length, drop, refl, sym, ap, ◌∙◌, subst, arith, cond}
use Rattle.std.proofs.lemmas.List.{append-nil}
use Rattle.sh_token_pieces.specs.declared.character.Character.{Character}
use Rattle.sh_token_pieces.specs.declared.character.Character.TheVariants.{Plain, Quoted, Raw}
use Rattle.sh_token_pieces.specs.declared.context.Context.{Context}
use Rattle.sh_token_pieces.specs.declared.context.Context.TheVariants.{Top, Commands, Word, Quotes, Braces, Arithmetic, Parenthesis, Body}
use Rattle.sh_token_pieces.specs.declared.piece.Piece.{Piece}
use Rattle.sh_token_pieces.specs.declared.piece.Piece.TheVariants.{Dollar, Variable, WordClose, Comment}
use Rattle.sh_token_pieces.specs.declared.pending.Pending.{Pending}
use Rattle.sh_token_pieces.specs.Bytes.{is_redirection, is_form}
use Rattle.sh_base.specs.Names.{continues_name}
use Rattle.sh_token_pieces.specs.Characters.{joins, Reads, InputEnd, ahead, next_is}
use Rattle.sh_token_pieces.specs.Pendings.{is_raw, is_gap_pending}
use Rattle.sh_token_pieces.specs.Pieces.{fits, exceeds, is_text, is_body, is_word, word_begins, ends_word, same_as, top_of, levels, with_token}
use Rattle.sh_token_pieces.specs.TokenClasses.{Told, OfWord}
use Rattle.sh_token.specs.Tokens.{Joined, OpensLevel, braces, parenthesis, backquote}
use Rattle.sh_token.specs.Body.{IsPrefix, IsBodyTooDeep}
use Rattle.sh_token_scanner.specs.Machine.{State, Stepped, On, Before, After, TooDeep, DollarTooDeep, WordTooDeep, step, is_top, is_over_full, word_out, operator_out}
use Rattle.sh_token_scanner.specs.Run.{Scanned, Ended, Deep, Open, Places, with_next_prefix, after_character, begins_in, begins_form, begins_word as word_begun, is_gap_state, EndsIn, EndsDeep, EndsNot, last_token, last_places, word_end, word_ended, ended_in, run, start, scanned_in}
use Rattle.sh_token_scanner.proofs.Running.{placed, after, begin_of, is_raw_character, character_run}
use Rattle.sh_token_scanner.proofs.Tests.{and_true, and_both, and_false, and_left, and_right, not_false, body_alone, text_token, levels_taken}
use Rattle.sh_token_scanner.proofs.Grounds.{free, free_contexts, never_text, no_token_over}
use Rattle.sh_token_scanner.proofs.Leads.{begun, settled}
use Rattle.sh_token_scanner.proofs.Between.{between_no_word, between_no_body}
use Rattle.sh_token.proofs.Paths.{WholeBody, Path, At, Held, Preceded, pending_levels, path_on, DeepHere, word_here, Going, no_join_at}
use Rattle.sh_token.proofs.Begun.{step_sound, dollar_piece, name_piece}
use Rattle.sh_token.proofs.Whole.{NextCharacter, got, over, cut, next_character, over_run, end_ahead}
use Rattle.sh_token_scanner.proofs.Loose.{is_loose_in, is_loose, Tame, step_tame, IsOpening, DollarTame, dollar_tame}
use Rattle.sh_token.proofs.Sound.{plain_at}

-- a prefix of a body behind which a form begins
pub record Begins (limit : ℕ) (bytes place : List ℕ) : Type 0 where
  pub pieces : List Piece
  pub prefix : IsPrefix limit bytes pieces place
  pub begins : OpensLevel true place

abbrev pub is_dollar : Pending → Bool
is_dollar Pending.Dollar = true
is_dollar Pending.Nothing = false
is_dollar Pending.DollarParenthesis = false
is_dollar Pending.Name = false
is_dollar (Pending.Head h) = false
is_dollar Pending.Single = false
is_dollar Pending.Backquotes = false
is_dollar Pending.BackquotesEscape = false
is_dollar Pending.Parenthesis = false
is_dollar (Pending.Operator o) = false
is_dollar Pending.Comment = false
is_dollar (Pending.Body l n j) = false

dollar_is : (q : Pending) → is_dollar q ≡ true → q ≡ Pending.Dollar
dollar_is Pending.Dollar h = refl
dollar_is Pending.Nothing h = absurd (cc)
dollar_is Pending.DollarParenthesis h = absurd (cc)
dollar_is Pending.Name h = absurd (cc)
dollar_is (Pending.Head g) h = absurd (cc)
dollar_is Pending.Single h = absurd (cc)
dollar_is Pending.Backquotes h = absurd (cc)
dollar_is Pending.BackquotesEscape h = absurd (cc)
dollar_is Pending.Parenthesis h = absurd (cc)
dollar_is (Pending.Operator o) h = absurd (cc)
dollar_is Pending.Comment h = absurd (cc)
dollar_is (Pending.Body l n j) h = absurd (cc)

body_is : (x : Context) → is_body x ≡ true → x ≡ Body
body_is Top h = absurd (cc)
body_is (Commands ts) h = absurd (cc)
body_is (Word n) h = absurd (cc)
body_is Quotes h = absurd (cc)
body_is (Braces q) h = absurd (cc)
body_is Arithmetic h = absurd (cc)
body_is Parenthesis h = absurd (cc)
body_is Body h = refl

tame_dollar : (limit : ℕ) (x : Context) (xs : List Context) (done : List Piece) (lv : ℕ) (q : Pending) (acc : List ℕ) (c : Character) → is_body x ≡ true → is_dollar q ≡ true → is_raw q ≡ is_raw_character c
    → DollarTame c (step (begun limit (x ∷ xs) done lv q acc) c)
tame_dollar limit x xs done lv q acc c b d k =
    subst (λ y. DollarTame c (step (begun limit (y ∷ xs) done lv q acc) c)) (sym (body_is x b))
    (subst (λ z. DollarTame c (step (begun limit (Body ∷ xs) done lv z acc) c)) (sym (dollar_is q d)) (dollar_tame limit xs done lv acc c (sym k ∙ ap is_raw (dollar_is q d))))

-- a `$` behind a prefix of a body, directly before the text m
pub record Dollared (limit : ℕ) (bytes : List ℕ) (t : State) (form m : List ℕ) : Type 0 where
  pub pieces : List Piece
  pub prefix : IsPrefix limit bytes pieces form
  pub is : form ≡ 36 ∷ m
  pub body : is_body (top_of t.contexts) ≡ true
  pub dollar : is_dollar t.pending ≡ true

module _ (limit : ℕ) (bytes : List ℕ) where
  abbrev BodyPath : List Piece → List Context → List ℕ → Type 0
  BodyPath done xs mid = Path true limit WholeBody bytes done xs mid

  abbrev BodyAt : State → List ℕ → List ℕ → Type 0
  BodyAt t previous m = At true limit WholeBody bytes t previous m

  deep_shown : (place : List ℕ) → DeepHere true limit WholeBody bytes place → (place : List ℕ) × IsBodyTooDeep limit bytes place
  deep_shown place h = (place, record { pieces = h.pieces; last = h.last; before = h.before; placed = h.placed; opens = h.opens })

  -- where the whole run comes to; where a level too many opens, that it does so somewhere
  abbrev pub Shown : Scanned → Type 0
  Shown (Ended k f r) = IsPrefix limit bytes k.done []
  Shown (Deep r) = (place : List ℕ) × IsBodyTooDeep limit bytes place
  Shown (Open f) = Begins limit bytes f

  -- no form is open, or one may have begun, or it is known where the outermost one begins
  abbrev Formed : State → List ℕ → List ℕ → Type 0
  Formed t form m = (is_loose t ≡ true) ⊎ Dollared limit bytes t form m ⊎ Begins limit bytes form

  -- pieces that are the body up to here, with nothing open
  prefix_at : (done : List Piece) (xs : List Context) (mid place : List ℕ) → BodyPath done xs mid → is_body (top_of xs) ≡ true → Joined mid place → IsPrefix limit bytes done place
  prefix_at done xs mid place p b j =
      subst (λ d. IsPrefix limit bytes d place) p.is (record { last = mid; pieces = p.walked; closed = p.contexts ∙ body_alone xs p.inside.order b; joined = j })

  body_free : (done : List Piece) (xs : List Context) (mid : List ℕ) → BodyPath done xs mid → free is_text xs ≡ true
  body_free done xs mid p = subst (λ ys. free is_text ys ≡ true) p.contexts (free_contexts is_text never_text p.inner [] (Body ∷ []) refl)

  module _ (z : Places) (k : ℕ) (w : z.behind ≡ joins k) where
    at_end : (done : List Piece) (xs : List Context) (mid : List ℕ) → BodyPath done xs mid → is_body (top_of xs) ≡ true → mid ≡ z.behind → IsPrefix limit bytes done []
    at_end done xs mid p i v = prefix_at done xs mid [] p i (record { lines = k; is = v ∙ (w ∙ sym (append-nil (joins k))); over = refl })

    word_ended_shown : (x : Context) (xs : List Context) (done : List Piece) (mid : List ℕ) → BodyPath done (x ∷ xs) mid → mid ≡ z.behind → (is_body x ≡ false → Begins limit bytes z.form)
        → Shown (last_token (word_ended (settled limit done (x ∷ xs))) z)
    word_ended_shown Top xs done mid p v o = o refl
    word_ended_shown (Commands ts) xs done mid p v o = o refl
    word_ended_shown (Word n) xs done mid p v o = go (is_top (with_token class xs)) refl (word_begins false done (Word n) && is_over_full (word_out false s)) refl
      where
        s : State
        s = settled limit done (Word n ∷ xs)

        class : Told
        class = OfWord false (drop (suc n) done)

        fits_end : fits true (Word n) (WordClose false) z.behind ≡ true
        fits_end = subst (λ y. (ends_word y && same_as false (next_is is_redirection y)) ≡ true) (sym (end_ahead k z.behind w)) refl

        deep : is_text (top_of xs) ≡ false → exceeds limit done (Word n) xs (WordClose false) ≡ true → (place : List ℕ) × IsBodyTooDeep limit bytes place
        deep t u =
            let h = word_here true limit WholeBody bytes done n xs mid false p t (record { after = z.behind; written = v; fits = fits_end; exceeds = u }) in
            deep_shown h.place h.here

        go : (c : Bool) → is_top (with_token class xs) ≡ c → (d : Bool) → (word_begins false done (Word n) && is_over_full (word_out false s)) ≡ d
            → Shown (last_token (cond c (EndsIn (word_out false s)) (cond d EndsDeep EndsNot)) z)
        go true t d u = absurd (no_token_over (Word n) xs (body_free done (Word n ∷ xs) mid p) p.inside.order refl (sym (text_token class xs) ∙ t))
        go false t true u = deep (sym (text_token class xs) ∙ t) (ap (λ l. word_begins false done (Word n) && nat_lt limit l) (sym (levels_taken class xs)) ∙ u)
        go false t false u = o refl
    word_ended_shown Quotes xs done mid p v o = o refl
    word_ended_shown (Braces q) xs done mid p v o = o refl
    word_ended_shown Arithmetic xs done mid p v o = o refl
    word_ended_shown Parenthesis xs done mid p v o = o refl
    word_ended_shown Body xs done mid p v o = at_end done (Body ∷ xs) mid p refl v

    module _ (x : Context) (xs : List Context) (done : List Piece) (mid : List ℕ) (p : BodyPath done (x ∷ xs) mid) where
      abbrev ending : Pending → List ℕ → State
      ending q acc = begun limit (x ∷ xs) done (pending_levels q (levels (x ∷ xs))) q acc

      opened : (q : Pending) (acc : List ℕ) → Formed (ending q acc) z.form z.behind → (is_body x && is_loose_in q) ≡ false → (is_body x && is_dollar q) ≡ false → Begins limit bytes z.form
      opened q acc (inl l) h g = absurd (cc)
      opened q acc (inr (inl d)) h g = let y = and_both (is_body x) (is_dollar q) d.body d.dollar in absurd (cc)
      opened q acc (inr (inr l)) h g = l

      -- the end of the input
      end_shown : (q : Pending) (acc : List ℕ) → Held true limit q (x ∷ xs) acc mid z.behind → ahead true z.behind ≡ InputEnd → Formed (ending q acc) z.form z.behind → Shown (last_token (ended_in q (ending q acc)) z)
      end_shown Pending.Nothing acc h a o =
          subst (λ y. Shown (last_token (ended_in Pending.Nothing (begun limit (x ∷ xs) done (levels (x ∷ xs)) Pending.Nothing y)) z)) (sym h.0)
          (subst (λ c. Shown (last_token (cond c (EndsIn (settled limit done (x ∷ xs))) (word_ended (settled limit done (x ∷ xs)))) z)) (sym p.inside.inner)
          (word_ended_shown x xs done mid p h.1 (λ i. opened Pending.Nothing acc o (and_left (is_body x) true i) (and_false (is_body x)))))
      end_shown Pending.Dollar acc h a o =
          word_ended_shown x xs (done ++ Dollar ∷ []) z.behind
          (path_on true limit WholeBody bytes done x xs Dollar mid z.behind p (dollar_piece true limit WholeBody bytes tt [] x xs done mid z.behind p h.1 (not_false (next_is is_form (ahead true z.behind)) (ap (next_is is_form) a)) h.2) refl)
          refl (λ i. opened Pending.Dollar acc o (and_false (is_body x)) (and_left (is_body x) true i))
      end_shown Pending.DollarParenthesis acc h a o = opened Pending.DollarParenthesis acc o (and_false (is_body x)) (and_false (is_body x))
      end_shown Pending.Name acc h a o =
          word_ended_shown x xs (done ++ Variable acc ∷ []) z.behind
          (path_on true limit WholeBody bytes done x xs (Variable acc) mid z.behind p
          (name_piece true limit WholeBody bytes tt [] x xs done mid z.behind p acc h.0 h.1 (not_false (next_is continues_name (ahead true z.behind)) (ap (next_is continues_name) a)) h.2) refl)
          refl (λ i. opened Pending.Name acc o (and_left (is_body x) true i) (and_false (is_body x)))
      end_shown (Pending.Head g) acc h a o = opened (Pending.Head g) acc o (and_false (is_body x)) (and_false (is_body x))
      end_shown Pending.Single acc h a o = opened Pending.Single acc o (and_false (is_body x)) (and_false (is_body x))
      end_shown Pending.Backquotes acc h a o = opened Pending.Backquotes acc o (and_false (is_body x)) (and_false (is_body x))
      end_shown Pending.BackquotesEscape acc h a o = opened Pending.BackquotesEscape acc o (and_false (is_body x)) (and_false (is_body x))
      end_shown Pending.Parenthesis acc h a o = opened Pending.Parenthesis acc o (and_false (is_body x)) (and_false (is_body x))
      end_shown (Pending.Body l n j) acc h a o = opened (Pending.Body l n j) acc o (and_false (is_body x)) (and_false (is_body x))
      end_shown (Pending.Operator u) acc h a o =
          subst (λ c. Shown (last_token (cond c (EndsIn (operator_out u (ending (Pending.Operator u) acc))) EndsNot) z)) (sym p.inside.inner) (opened (Pending.Operator u) acc o (and_false (is_body x)) (and_false (is_body x)))
      end_shown Pending.Comment acc h a o =
          let t = settled limit (done ++ Comment acc ∷ []) (x ∷ xs) in
          let over_it = word_end (word_begins false (done ++ Comment acc ∷ []) x) (word_out false t) in
          subst (λ c. Shown (last_token (cond c (EndsIn t) (word_ended t)) z)) (sym p.inside.inner)
          (subst (λ c. Shown (last_token (cond c (EndsIn t) (cond (is_word x) over_it EndsNot)) z)) (sym (between_no_body x h.1))
          (subst (λ c. Shown (last_token (cond c over_it EndsNot) z)) (sym (between_no_word x h.1)) (opened Pending.Comment acc o (and_false (is_body x)) (and_false (is_body x)))))

  -- where a form may begin with the last character
  form_at : (xs : List Context) (done : List Piece) (q : Pending) (acc mid previous m : List ℕ) → BodyPath done xs mid → Held true limit q xs acc mid m → Preceded q acc previous m → is_body (top_of xs) ≡ true
      → begins_in q acc ≡ true → ((pieces : List Piece) × IsPrefix limit bytes pieces previous × (previous ≡ 36 ∷ m) × (is_dollar q ≡ true)) ⊎ Begins limit bytes previous
  form_at xs done Pending.Dollar acc mid previous m p h r b i =
      let v = h.2 in
      let j : Joined mid (36 ∷ m) = record { lines = v.1.0; is = v.1.1 ∙ ap (λ z. joins v.1.0 ++ 36 ∷ z) v.2; over = no_join_at 36 m refl } in
      inl (done, prefix_at done xs mid previous p b (subst (Joined mid) (sym r) j), r, refl)
  form_at xs done Pending.Backquotes [] mid previous m p h r b i =
      let v = h.3 in
      inr (subst (Begins limit bytes) (sym r)
      (record {
        pieces = done;
        prefix = prefix_at done xs mid (96 ∷ m) p b (record { lines = v.1.0; is = v.1.1 ∙ ap (λ z. joins v.1.0 ++ 96 ∷ z) v.2; over = no_join_at 96 m refl });
        begins = backquote m (m, (0, refl, inl refl), refl);
      }))
  form_at xs done Pending.Backquotes (c ∷ acc) mid previous m p h r b i = absurd (cc)
  form_at xs done Pending.Nothing acc mid previous m p h r b i = absurd (cc)
  form_at xs done Pending.DollarParenthesis acc mid previous m p h r b i = absurd (cc)
  form_at xs done Pending.Name acc mid previous m p h r b i = absurd (cc)
  form_at xs done (Pending.Head g) acc mid previous m p h r b i = absurd (cc)
  form_at xs done Pending.Single acc mid previous m p h r b i = absurd (cc)
  form_at xs done Pending.BackquotesEscape acc mid previous m p h r b i = absurd (cc)
  form_at xs done Pending.Parenthesis acc mid previous m p h r b i = absurd (cc)
  form_at xs done (Pending.Operator u) acc mid previous m p h r b i = absurd (cc)
  form_at xs done Pending.Comment acc mid previous m p h r b i = absurd (cc)
  form_at xs done (Pending.Body l n j) acc mid previous m p h r b i = absurd (cc)

  begins_at : (t : State) (previous m : List ℕ) → BodyAt t previous m → begins_form t ≡ true → Formed t previous m
  begins_at t previous m a h =
      let g = sym (ap begins_form a.is) ∙ h in
      let p = and_true (is_body (top_of a.xs)) (begins_in a.pending a.acc) g in
      go p.0 (form_at a.xs a.done a.pending a.acc a.mid previous m a.path a.held a.preceded p.0 p.1)
    where
      go : is_body (top_of a.xs) ≡ true → ((pieces : List Piece) × IsPrefix limit bytes pieces previous × (previous ≡ 36 ∷ m) × (is_dollar a.pending ≡ true)) ⊎ Begins limit bytes previous → Formed t previous m
      go b (inl d) =
          inr (inl (record { pieces = d.0; prefix = d.1; is = d.2; body = ap (λ z. is_body (top_of z.contexts)) a.is ∙ b; dollar = ap (λ z. is_dollar z.pending) a.is ∙ d.3 }))
      go b (inr d) = inr (inr d)

  -- behind a character, by what came before
  abbrev Onto : Stepped → List ℕ → Type 0
  Onto (On t) form = (is_loose t ≡ true) ⊎ (begins_form t ≡ true) ⊎ Begins limit bytes form
  Onto (Before t) form = Unit {0}
  Onto (After t) form = Unit {0}
  Onto (TooDeep t) form = Unit {0}
  Onto (DollarTooDeep t) form = Unit {0}
  Onto (WordTooDeep t) form = Unit {0}

  onto_tame : (y : Stepped) (form : List ℕ) → Tame y → Onto y form
  onto_tame (On t) form (inl h) = inl h
  onto_tame (On t) form (inr h) = inr (inl h)
  onto_tame (Before t) form h = tt
  onto_tame (After t) form h = tt
  onto_tame (TooDeep t) form h = tt
  onto_tame (DollarTooDeep t) form h = tt
  onto_tame (WordTooDeep t) form h = tt

  onto_begun : (y : Stepped) (form : List ℕ) → Begins limit bytes form → Onto y form
  onto_begun (On t) form h = inr (inr h)
  onto_begun (Before t) form h = tt
  onto_begun (After t) form h = tt
  onto_begun (TooDeep t) form h = tt
  onto_begun (DollarTooDeep t) form h = tt
  onto_begun (WordTooDeep t) form h = tt

  -- a form goes on behind its `$`
  opening : (c : Character) (m rest : List ℕ) → Reads true c m rest → IsOpening c → OpensLevel true (36 ∷ m)
  opening (Plain b) m rest r (inl h) = braces rest (m, (0, refl, inl refl), (rest, plain_at true b 123 m rest h r, refl))
  opening (Plain b) m rest r (inr h) = parenthesis rest (m, (0, refl, inl refl), (rest, plain_at true b 40 m rest h r, refl))
  opening (Quoted b) m rest r h = absurd h
  opening (Raw b) m rest r h = absurd h

  onto_dollar : (y : Stepped) (c : Character) (t : State) (form m rest : List ℕ) → Dollared limit bytes t form m → Reads true c m rest → DollarTame c y → Onto y form
  onto_dollar (On u) c t form m rest d r (inl h) = inl h
  onto_dollar (On u) c t form m rest d r (inr (inl h)) = inr (inl h)
  onto_dollar (On u) c t form m rest d r (inr (inr h)) = inr (inr (record { pieces = d.pieces; prefix = d.prefix; begins = subst (OpensLevel true) (sym d.is) (opening c m rest r h) }))
  onto_dollar (Before u) c t form m rest d r h = tt
  onto_dollar (After u) c t form m rest d r h = tt
  onto_dollar (TooDeep u) c t form m rest d r h = tt
  onto_dollar (DollarTooDeep u) c t form m rest d r h = tt
  onto_dollar (WordTooDeep u) c t form m rest d r h = tt

  still_formed : (t : State) (begin form m : List ℕ) → BodyAt t begin m → Onto (On t) form → (c : Bool) → begins_form t ≡ c → Formed t (cond c begin form) m
  still_formed t begin form m a o true h = begins_at t begin m a h
  still_formed t begin form m a (inl l) false h = inl l
  still_formed t begin form m a (inr (inl l)) false h = absurd (cc)
  still_formed t begin form m a (inr (inr l)) false h = inr (inr l)

  -- a run within the body
  abbrev BodyRuns : List ℕ → Type 0
  BodyRuns m = (t : State) (p : Places) → BodyAt t p.previous m → p.next ≡ m → p.behind ≡ m → Formed t p.form m → Shown (run true false t p m)

  onward_shown : (y : Stepped) (p : Places) (begin m rest : List ℕ) → BodyRuns rest → Going true limit WholeBody bytes y p.previous begin m rest → Onto y p.form → Shown (after true y (placed begin p) rest)
  onward_shown (On t) p begin m rest ih g o =
      ih t (after_character (begins_form t) (word_begun t) rest (placed begin p)) g.it refl refl (still_formed t begin p.form rest g.it o (begins_form t) refl)
  onward_shown (Before t) p begin m rest ih g o = absurd g.it
  onward_shown (After t) p begin m rest ih g o = absurd g.it
  onward_shown (TooDeep t) p begin m rest ih g o = deep_shown g.it.place g.it.here
  onward_shown (DollarTooDeep t) p begin m rest ih g o = deep_shown p.previous g.it
  onward_shown (WordTooDeep t) p begin m rest ih g o = deep_shown g.it.place g.it.here

  module _ (x : Context) (xs : List Context) (done : List Piece) (mid : List ℕ) (path : BodyPath done (x ∷ xs) mid) (q : Pending) (acc m : List ℕ) (p : Places) (held : Held true limit q (x ∷ xs) acc mid m)
      (preceded : Preceded q acc p.previous m) (n : p.next ≡ m) (b : p.behind ≡ m) where
    abbrev s : State
    s = begun limit (x ∷ xs) done (pending_levels q (levels (x ∷ xs))) q acc

    no_gap : is_gap_state s ≡ false
    no_gap = and_right (is_gap_pending q) (is_text x) path.inside.inner

    onto_now : (c : Character) (rest : List ℕ) → is_raw q ≡ is_raw_character c → Reads true c m rest → Formed s p.form m → Onto (step s c) p.form
    onto_now c rest k r (inl l) = onto_tame (step s c) p.form (step_tame s c l)
    onto_now c rest k r (inr (inl d)) = onto_dollar (step s c) c s p.form m rest d r (tame_dollar limit x xs done (pending_levels q (levels (x ∷ xs))) q acc c d.body d.dollar k)
    onto_now c rest k r (inr (inr l)) = onto_begun (step s c) p.form l

    got_shown : (c : Character) (rest : List ℕ) → is_raw q ≡ is_raw_character c → Reads true c m rest → BodyRuns rest → Formed s p.form m → Shown (run true false s p m)
    got_shown c rest k r ih o =
        subst Shown (sym (character_run true s p c m rest k r n ∙ ap (λ z. after true (step s c) (with_next_prefix z (placed (begin_of c rest) p)) rest) no_gap))
        (onward_shown (step s c) p (begin_of c rest) m rest ih (step_sound true limit WholeBody bytes tt p.previous x xs done mid m path q acc c rest k held preceded r) (onto_now c rest k r o))

    end_places : (k : ℕ) → m ≡ joins k → Formed s p.form m → Shown (run true false s (placed [] p) [])
    end_places k w o =
        subst (λ z. Shown (last_places s (with_next_prefix z (placed [] p)))) (sym no_gap)
        (end_shown (placed [] p) k (b ∙ w) x xs done mid path q acc (subst (Held true limit q (x ∷ xs) acc mid) (sym b) held) (ap (ahead true) b ∙ end_ahead k m w) (subst (Formed s p.form) (sym b) o))

    over_shown : (k : ℕ) → m ≡ joins k → (is_raw q ≡ true → m ≡ []) → Formed s p.form m → (c : Bool) → is_raw q ≡ c → Shown (run true false s p m)
    over_shown k w z o false r = subst Shown (sym (over_run true s p k m r w n)) (end_places k w o)
    over_shown k w z o true r =
        let v = z r in
        subst (λ y. Shown (run true false s p y)) (sym v) (subst (λ y. Shown (run true false s y [])) (ap (λ z. placed z p) (sym v ∙ sym n)) (end_places k w o))

    inner_shown : NextCharacter true (is_raw q) m → ((rest : List ℕ) → length rest < length m → BodyRuns rest) → Formed s p.form m → Shown (run true false s p m)
    inner_shown (got c rest k r l) ih o = got_shown c rest k r (ih rest l) o
    inner_shown (over k w z) ih o = over_shown k w z o (is_raw q) refl
    inner_shown (cut k w d r) ih o = absurd (cc)

  body_cases : (xs : List Context) (done : List Piece) (q : Pending) (acc mid m : List ℕ) (p : Places) → BodyPath done xs mid → Held true limit q xs acc mid m → Preceded q acc p.previous m → p.next ≡ m → p.behind ≡ m
      → Formed (begun limit xs done (pending_levels q (levels xs)) q acc) p.form m → ((rest : List ℕ) → length rest < length m → BodyRuns rest) → Shown (run true false (begun limit xs done (pending_levels q (levels xs)) q acc) p m)
  body_cases [] done q acc mid m p path h r n b o ih = let z = path.inside.order in absurd (cc)
  body_cases (x ∷ xs) done q acc mid m p path h r n b o ih = inner_shown x xs done mid path q acc m p h r n b (next_character true (is_raw q) m) ih o

  body_runs : (fuel : ℕ) (m : List ℕ) → length m < fuel → BodyRuns m
  body_runs zero m l t p a n b o = absurd (omega arith)
  body_runs (suc fuel) m l t p a n b o =
      subst (λ z. Shown (run true false z p m)) (sym a.is)
      (body_cases a.xs a.done a.pending a.acc a.mid m p a.path a.held a.preceded n b (subst (λ z. Formed z p.form m) a.is o) (λ rest k. body_runs fuel rest (omega arith)))

  first_at : BodyAt (start Body limit) bytes bytes
  first_at =
      record {
        xs = Body ∷ [];
        done = [];
        pending = Pending.Nothing;
        acc = [];
        mid = bytes;
        is = refl;
        path = record { inner = []; is = refl; walked = refl; going = refl; contexts = refl; inside = record { order = refl; inner = refl }; opened = tt };
        held = (refl, refl);
        preceded = tt;
      }

  -- each scanned body is as the definition has it
  pub body_sound : Shown (scanned_in Body true limit bytes)
  body_sound =
      body_runs (suc (length bytes)) bytes (omega arith) (start Body limit) (record { prefix = bytes; previous = bytes; behind = bytes; next = bytes; form = bytes; word = bytes }) first_at refl refl (inl refl)
