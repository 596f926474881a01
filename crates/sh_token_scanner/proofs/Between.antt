-- Each piece between tokens is run to its end.
use Rattle.std.proofs.Common.{◌≡◌, ℕ, suc, Bool, true, false, ◌||◌, ◌&&◌, not, nat_eq, nat_lt, List, [], ◌∷◌, ◌++◌, ◌-◌, length, drop, Option, Some, None, refl, sym, ap, ◌∙◌, subst, eqb-true}
use Rattle.std.specs.List.{list_all}
use Rattle.sh_token_scanner.proofs.Bodies.{at_first, within, ended_at, bodies_keep}
use Rattle.sh_token_pieces.specs.Here.{lines, are_bodies}
use Rattle.sh_token_pieces.specs.declared.character.Character.TheVariants.{Plain, Quoted, Raw}
use Rattle.sh_token_pieces.specs.declared.operator.Operator.{Operator}
use Rattle.sh_token_pieces.specs.declared.operator.Operator.TheVariants.{And, Semicolon, Pipe, Less, Great, LeftParenthesis, RightParenthesis, Newline, AndIf, OrIf, DoubleSemicolon, DoubleLess, DoubleGreat, LessAnd, GreatAnd, LessGreat, DoubleLessDash, Clobber}
use Rattle.sh_token_pieces.specs.declared.context.Context.{Context}
use Rattle.sh_token_pieces.specs.declared.context.Context.TheVariants.{Top, Commands, Word, Quotes, Braces, Arithmetic, Parenthesis, Body}
use Rattle.sh_token_pieces.specs.declared.piece.Piece.{Piece}
use Rattle.sh_token_pieces.specs.declared.piece.Piece.TheVariants.{CommandsClose, WordOpen, WordClose, Blank, Comment, Bodies}
use Rattle.sh_token_pieces.specs.declared.pending.Pending.{Pending}
use Rattle.sh_token_pieces.specs.Bytes.{is_blank, is_operator_byte, is_redirection, is_end, is_no_newline}
use Rattle.sh_token_pieces.specs.Characters.{Reads, Written, plain, raw, Ahead, Next, ahead, next_is}
use Rattle.sh_token_pieces.specs.Pendings.{is_raw}
use Rattle.sh_token_pieces.specs.Operators.{operator_text}
use Rattle.sh_token_pieces.specs.Growth.{longer_operator, may_grow, operator_of}
use Rattle.sh_token_pieces.specs.Pieces.{is_text, is_body, top_of, between_tokens, is_word, may_close, levels, ends_comment, begins_word, ends_word, same_as, is_some, ends_operator, is_right_parenthesis, is_newline, is_more, has_due, due_in, with_token, word_begins, compounds_in}
use Rattle.sh_token_pieces.specs.Nested.{open_in}
use Rattle.sh_token_pieces.specs.TokenClasses.{Told, OfOperator, OfWord, OfBodies, class_of_operator}
use Rattle.sh_token_grammar.specs.Levels.{begins_compound}
use Rattle.sh_token_scanner.specs.Machine.{State, On, step, is_top, is_over_full, in_place, grow, grow_to, word_byte, between, after_word, end_word, plain_byte, quoted_byte, in_operator, in_comment, word_out, operator_out, same, pend, into, out_level}
use Rattle.sh_token_scanner.specs.Run.{is_gap_state, byte_step, run, word_end}
use Rattle.sh_token_scanner.proofs.Running.{Alike}
use Rattle.sh_token_scanner.proofs.Tests.{and_true, not_true, or_false, and_left, text_token, between_token, levels_taken, levels_left}
use Rattle.sh_token_scanner.proofs.Leads.{begun, kept, settled, Leads, joined, goes, same_ahead, raw_keeps}
use Rattle.sh_token_scanner.proofs.Bytes.{byte_in}
use Rattle.sh_token_scanner.proofs.Pieces.{one}

pub closes_between : (x : Context) → may_close x ≡ true → between_tokens x ≡ true
closes_between Top h = absurd (cc)
closes_between (Commands ts) h = refl
closes_between (Word n) h = absurd (cc)
closes_between Quotes h = absurd (cc)
closes_between (Braces q) h = absurd (cc)
closes_between Arithmetic h = absurd (cc)
closes_between Parenthesis h = absurd (cc)
closes_between Body h = absurd (cc)

pub closes_level : (x : Context) (xs : List Context) → may_close x ≡ true → (levels (x ∷ xs) - compounds_in x) - 1 ≡ levels xs
closes_level Top xs h = absurd (cc)
closes_level (Commands ts) xs h = levels_left (open_in ts.tokens) (levels xs)
closes_level (Word n) xs h = absurd (cc)
closes_level Quotes xs h = absurd (cc)
closes_level (Braces q) xs h = absurd (cc)
closes_level Arithmetic xs h = absurd (cc)
closes_level Parenthesis xs h = absurd (cc)
closes_level Body xs h = absurd (cc)

closes_no_text : (x : Context) → may_close x ≡ true → is_text x ≡ false
closes_no_text Top h = absurd (cc)
closes_no_text (Commands ts) h = refl
closes_no_text (Word n) h = refl
closes_no_text Quotes h = refl
closes_no_text (Braces q) h = refl
closes_no_text Arithmetic h = refl
closes_no_text Parenthesis h = refl
closes_no_text Body h = refl

pub between_no_word : (x : Context) → between_tokens x ≡ true → is_word x ≡ false
between_no_word Top h = refl
between_no_word (Commands ts) h = refl
between_no_word (Word n) h = absurd (cc)
between_no_word Quotes h = absurd (cc)
between_no_word (Braces q) h = absurd (cc)
between_no_word Arithmetic h = absurd (cc)
between_no_word Parenthesis h = absurd (cc)
between_no_word Body h = absurd (cc)

pub between_no_body : (x : Context) → between_tokens x ≡ true → is_body x ≡ false
between_no_body Top h = refl
between_no_body (Commands ts) h = refl
between_no_body (Word n) h = absurd (cc)
between_no_body Quotes h = absurd (cc)
between_no_body (Braces q) h = absurd (cc)
between_no_body Arithmetic h = absurd (cc)
between_no_body Parenthesis h = absurd (cc)
between_no_body Body h = absurd (cc)

-- how operators are made byte by byte
pub record First (b : ℕ) (p : Operator) : Type 0 where
  pub is : operator_of b ≡ p
  pub byte : is_operator_byte b ≡ true
  pub blank : is_blank b ≡ false
  pub hash : nat_eq b 35 ≡ false

pub data Made (o : Operator) : Type 0 where
  one_byte : (b : ℕ) → operator_text o ≡ b ∷ [] → First b o → nat_eq b 41 ≡ is_right_parenthesis o → nat_eq b 10 ≡ is_newline o → Made o
  two_bytes : (b c : ℕ) → (p : Operator) → operator_text o ≡ b ∷ c ∷ [] → First b p → nat_eq b 41 ≡ false → nat_eq b 10 ≡ false → may_grow p ≡ true → longer_operator p c ≡ Some o → Made o
  three_bytes : (b c d : ℕ) → (p q : Operator) → operator_text o ≡ b ∷ c ∷ d ∷ [] → First b p → nat_eq b 41 ≡ false → nat_eq b 10 ≡ false → may_grow p ≡ true → longer_operator p c ≡ Some q → may_grow q ≡ true
      → longer_operator q d ≡ Some o → Made o

pub made : (o : Operator) → Made o
made And = one_byte 38 refl (record { is = refl; byte = refl; blank = refl; hash = refl }) refl refl
made Semicolon = one_byte 59 refl (record { is = refl; byte = refl; blank = refl; hash = refl }) refl refl
made Pipe = one_byte 124 refl (record { is = refl; byte = refl; blank = refl; hash = refl }) refl refl
made Less = one_byte 60 refl (record { is = refl; byte = refl; blank = refl; hash = refl }) refl refl
made Great = one_byte 62 refl (record { is = refl; byte = refl; blank = refl; hash = refl }) refl refl
made LeftParenthesis = one_byte 40 refl (record { is = refl; byte = refl; blank = refl; hash = refl }) refl refl
made RightParenthesis = one_byte 41 refl (record { is = refl; byte = refl; blank = refl; hash = refl }) refl refl
made Newline = one_byte 10 refl (record { is = refl; byte = refl; blank = refl; hash = refl }) refl refl
made AndIf = two_bytes 38 38 And refl (record { is = refl; byte = refl; blank = refl; hash = refl }) refl refl refl refl
made OrIf = two_bytes 124 124 Pipe refl (record { is = refl; byte = refl; blank = refl; hash = refl }) refl refl refl refl
made DoubleSemicolon = two_bytes 59 59 Semicolon refl (record { is = refl; byte = refl; blank = refl; hash = refl }) refl refl refl refl
made DoubleLess = two_bytes 60 60 Less refl (record { is = refl; byte = refl; blank = refl; hash = refl }) refl refl refl refl
made DoubleGreat = two_bytes 62 62 Great refl (record { is = refl; byte = refl; blank = refl; hash = refl }) refl refl refl refl
made LessAnd = two_bytes 60 38 Less refl (record { is = refl; byte = refl; blank = refl; hash = refl }) refl refl refl refl
made GreatAnd = two_bytes 62 38 Great refl (record { is = refl; byte = refl; blank = refl; hash = refl }) refl refl refl refl
made LessGreat = two_bytes 60 62 Less refl (record { is = refl; byte = refl; blank = refl; hash = refl }) refl refl refl refl
made DoubleLessDash = three_bytes 60 60 45 Less DoubleLess refl (record { is = refl; byte = refl; blank = refl; hash = refl }) refl refl refl refl refl refl
made Clobber = two_bytes 62 124 Great refl (record { is = refl; byte = refl; blank = refl; hash = refl }) refl refl refl refl

pub no_longer : (o : Operator) (c : ℕ) (next : Ahead) → ends_operator o next ≡ true → next ≡ Next (Plain c) → longer_operator o c ≡ None
no_longer o c next h w = go (longer_operator o c) (not_true (is_some (longer_operator o c)) (sym (ap (ends_operator o) w) ∙ h))
  where
    go : (y : Option Operator) → is_some y ≡ false → y ≡ None
    go None i = refl
    go (Some p) i = absurd (cc)

-- a byte that begins a word ends none
pub begins_parts : (b : ℕ) → begins_word (Next (Plain b)) ≡ true → (is_end b ≡ false) × (nat_eq b 35 ≡ false) × (is_blank b ≡ false) × (is_operator_byte b ≡ false) × (nat_eq b 41 ≡ false) × (nat_eq b 10 ≡ false)
begins_parts b h =
    let t = and_true (not (is_end b)) (not (nat_eq b 35)) h in
    let n = not_true (is_end b) t.0 in
    let p = or_false (is_blank b) (is_operator_byte b) n in
    let c = closes b p.1 in
    (n, not_true (nat_eq b 35) t.1, p.0, p.1, c.0, c.1)
  where
    closes : (b : ℕ) → is_operator_byte b ≡ false → (nat_eq b 41 ≡ false) × (nat_eq b 10 ≡ false)
    closes b h =
        let p = or_false (nat_eq b 38) (nat_eq b 59 || (nat_eq b 124 || (nat_eq b 60 || (nat_eq b 62 || (nat_eq b 40 || (nat_eq b 41 || nat_eq b 10)))))) h in
        let q = or_false (nat_eq b 59) (nat_eq b 124 || (nat_eq b 60 || (nat_eq b 62 || (nat_eq b 40 || (nat_eq b 41 || nat_eq b 10))))) p.1 in
        let r = or_false (nat_eq b 124) (nat_eq b 60 || (nat_eq b 62 || (nat_eq b 40 || (nat_eq b 41 || nat_eq b 10)))) q.1 in
        let s = or_false (nat_eq b 60) (nat_eq b 62 || (nat_eq b 40 || (nat_eq b 41 || nat_eq b 10))) r.1 in
        let t = or_false (nat_eq b 62) (nat_eq b 40 || (nat_eq b 41 || nat_eq b 10)) s.1 in
        let u = or_false (nat_eq b 40) (nat_eq b 41 || nat_eq b 10) t.1 in
        or_false (nat_eq b 41) (nat_eq b 10) u.1

-- a byte between tokens
pub plain_between : (s : State) (b : ℕ) → between_tokens (top_of s.contexts) ≡ true → plain_byte s b ≡ between s b
unfolding plain_byte
plain_between s b h = rw h refl

pub between_blank : (s : State) (b : ℕ) → is_blank b ≡ true → between s b ≡ On (same (Blank b) s)
unfolding between
between_blank s b h = rw h refl

pub between_hash : (s : State) → between s 35 ≡ On (pend Pending.Comment s)
unfolding between
between_hash s = refl

between_close : (s : State) → may_close (top_of s.contexts) ≡ true → between s 41 ≡ On (out_level CommandsClose s)
unfolding between
between_close s h = rw h refl

pub between_operator : (s : State) (b : ℕ) → is_blank b ≡ false → nat_eq b 35 ≡ false → (nat_eq b 41 && may_close (top_of s.contexts)) ≡ false
    → (nat_eq b 10 && has_due (top_of s.contexts)) ≡ false → is_operator_byte b ≡ true → between s b ≡ grow (operator_of b) s
unfolding between
between_operator s b h i j l k = rw (h, i, j, l, k) refl

pub between_word : (s : State) (b : ℕ) → is_blank b ≡ false → nat_eq b 35 ≡ false → is_operator_byte b ≡ false → nat_eq b 41 ≡ false → nat_eq b 10 ≡ false
    → between s b ≡ word_byte (Word (length s.done)) (into (Word (length s.done)) WordOpen s) b
unfolding between
between_word s b h i j k l = rw (h, i, j, and_left (nat_eq b 41) (may_close (top_of s.contexts)) k, and_left (nat_eq b 10) (has_due (top_of s.contexts)) l) refl

module _ (limit : ℕ) (x : Context) (xs : List Context) (done : List Piece) where
  abbrev base : State
  base = settled limit done (x ∷ xs)

  -- what comes first in a word does the same before it as in it
  abbrev pub opened : State
  opened = settled limit (done ++ WordOpen ∷ []) (Word (length done) ∷ x ∷ xs)

  pub word_plain : (b : ℕ) → between_tokens x ≡ true → begins_word (Next (Plain b)) ≡ true → step base (Plain b) ≡ step opened (Plain b)
  word_plain b h i =
      let t = begins_parts b i in
      plain_between base b h ∙ (between_word base b t.2 t.1 t.3 t.4 t.5 ∙ sym (byte_in limit (Word (length done)) (x ∷ xs) (done ++ WordOpen ∷ []) (levels (x ∷ xs)) b refl t.0))

  pub word_quoted : (b : ℕ) → between_tokens x ≡ true → step base (Quoted b) ≡ step opened (Quoted b)
  unfolding quoted_byte
  word_quoted b h = rw h refl

  pub first_byte : (b : ℕ) (p : Operator) → between_tokens x ≡ true → First b p → (nat_eq b 41 && may_close x) ≡ false → (nat_eq b 10 && has_due x) ≡ false → step base (Plain b) ≡ grow p base
  first_byte b p h f c d = plain_between base b h ∙ (between_operator base b f.blank f.hash c d f.byte ∙ ap (λ q. grow q base) f.is)

  pub next_byte : (p o : Operator) (c : ℕ) → longer_operator p c ≡ Some o → step (begun limit (x ∷ xs) done (levels (x ∷ xs)) (Pending.Operator p) []) (Plain c) ≡ grow o base
  unfolding in_operator
  next_byte p o c h = ap (λ y. grow_to p y (begun limit (x ∷ xs) done (levels (x ∷ xs)) (Pending.Operator p) []) c) h

  pub growing : (o : Operator) → may_grow o ≡ true → grow o base ≡ On (begun limit (x ∷ xs) done (levels (x ∷ xs)) (Pending.Operator o) [])
  growing o h = rw h refl

module _ (k e : Bool) (limit : ℕ) (x : Context) (xs : List Context) (done : List Piece) where
  abbrev lv : ℕ
  lv = levels (x ∷ xs)

  abbrev at_start : State
  at_start = settled limit done (x ∷ xs)

  pub blank_leads : (b : ℕ) (m rest : List ℕ) → (k ≡ true → is_text x ≡ false) → between_tokens x ≡ true → is_blank b ≡ true → Written e (Plain b ∷ []) m rest
      → Leads k e at_start m (settled limit (done ++ Blank b ∷ []) (x ∷ xs)) rest
  blank_leads b m rest g h i w = one k e at_start (settled limit (done ++ Blank b ∷ []) (x ∷ xs)) m rest (Plain b) g refl w (plain_between at_start b h ∙ between_blank at_start b i)

  comment_over : (bs m : List ℕ) → ends_comment e m ≡ true → Leads k e (begun limit (x ∷ xs) done lv Pending.Comment bs) m (settled limit (done ++ Comment bs ∷ []) (x ∷ xs)) m
  unfolding byte_step in_comment
  comment_over bs [] h p n b = record { places = p; next = n; behind = b; prefix = λ i. refl; same = subst (λ e. run e false (begun limit (x ∷ xs) done lv Pending.Comment bs) p [] ≡ run e false (settled limit (done ++ Comment bs ∷ []) (x ∷ xs)) p []) (sym h) refl }
  comment_over bs (c ∷ cs) h p n b =
      record {
        places = p;
        next = n;
        behind = b;
        prefix = λ i. refl;
        same = subst (λ c. run e false (begun limit (x ∷ xs) done lv Pending.Comment bs) p (c ∷ cs) ≡ run e false (settled limit (done ++ Comment bs ∷ []) (x ∷ xs)) p (c ∷ cs)) (sym (eqb-true c 10 h)) refl;
      }

  pub comment_leads : (bs m rest : List ℕ) → (k ≡ true → is_text x ≡ false) → between_tokens x ≡ true → list_all is_no_newline bs ≡ true → ends_comment e rest ≡ true
      → Written e (Plain 35 ∷ raw bs) m rest → Leads k e at_start m (settled limit (done ++ Comment bs ∷ []) (x ∷ xs)) rest
  unfolding in_comment
  comment_leads bs m rest g h a f w =
      joined k e at_start (within []) (settled limit (done ++ Comment bs ∷ []) (x ∷ xs)) m w.0 rest
      (goes k e at_start (within []) m w.0 (Plain 35) g refl w.1 (plain_between at_start 35 h ∙ between_hash at_start))
      (joined k e (within []) (within bs) (settled limit (done ++ Comment bs ∷ []) (x ∷ xs)) w.0 rest rest
      (raw_keeps k e limit (x ∷ xs) done lv Pending.Comment is_no_newline g refl keeps bs [] w.0 rest a w.2)
      (comment_over bs rest f))
    where
      within : List ℕ → State
      within acc = begun limit (x ∷ xs) done lv Pending.Comment acc

      keeps : (acc : List ℕ) (b : ℕ) → is_no_newline b ≡ true → step (begun limit (x ∷ xs) done lv Pending.Comment acc) (Raw b) ≡ On (begun limit (x ∷ xs) done lv Pending.Comment (acc ++ b ∷ []))
      keeps acc b h = rw (not_true (nat_eq b 10) h) refl

  pub commands_over : (m rest : List ℕ) → may_close x ≡ true → Written e (Plain 41 ∷ []) m rest → Leads k e at_start m (settled limit (done ++ CommandsClose ∷ []) xs) rest
  commands_over m rest h w =
      subst (λ l. Leads k e at_start m (kept limit xs (done ++ CommandsClose ∷ []) l) rest) (closes_level x xs h)
      (one k e at_start (kept limit xs (done ++ CommandsClose ∷ []) ((lv - compounds_in x) - 1)) m rest (Plain 41) (λ t. closes_no_text x h) refl w (plain_between at_start 41 (closes_between x h) ∙ between_close at_start h))

  -- a word begins within a substitution
  pub word_leads : (m : List ℕ) → is_text x ≡ false → between_tokens x ≡ true → begins_word (ahead e m) ≡ true → Leads k e at_start m (settled limit (done ++ WordOpen ∷ []) (Word (length done) ∷ x ∷ xs)) m
  word_leads m t h i =
      same_ahead k e at_start (settled limit (done ++ WordOpen ∷ []) (Word (length done) ∷ x ∷ xs)) m (record { left = refl; right = refl; gap = t })
      (record {
        plains = λ b j. word_plain limit x xs done b h (sym (ap begins_word j) ∙ i);
        quoteds = λ b j. word_quoted limit x xs done b h;
        ends = λ j. let z = sym (ap begins_word j) ∙ i in absurd (cc);
      })

  -- an operator within a substitution
  abbrev over_with : Operator → State
  over_with o = operator_out o at_start

  -- it opens no level too many
  abbrev pub Serves : Operator → Type 0
  Serves o = (begins_compound (class_of_operator o) && nat_lt limit (in_place x (top_of (with_token (OfOperator o) (x ∷ xs))) lv)) ≡ false

  operator_alike : (o : Operator) (m : List ℕ) → is_text x ≡ false → between_tokens x ≡ true → ends_operator o (ahead e m) ≡ true
      → Alike e false (begun limit (x ∷ xs) done lv (Pending.Operator o) []) (over_with o) m
  unfolding in_operator
  operator_alike o m t h i =
      let c = OfOperator o in
      let u = text_token c (x ∷ xs) ∙ t in
      let v = between_no_word (top_of (with_token c (x ∷ xs))) (between_token c (x ∷ xs) ∙ h) in
      let y = between_no_body (top_of (with_token c (x ∷ xs))) (between_token c (x ∷ xs) ∙ h) in
      record {
        plains = λ b j. ap (λ y. grow_to o y (begun limit (x ∷ xs) done lv (Pending.Operator o) []) b) (no_longer o b (ahead e m) i j) ∙ (rw u refl);
        quoteds = λ b j. rw u refl;
        ends = λ j. rw (t, u, y, v) refl;
      }

  last_byte : (o : Operator) (s : State) (m rest : List ℕ) (b : ℕ) → Serves o → is_text x ≡ false → between_tokens x ≡ true → ends_operator o (ahead e rest) ≡ true
      → is_gap_state s ≡ false → is_raw s.pending ≡ false → Written e (Plain b ∷ []) m rest → step s (Plain b) ≡ grow o at_start → Leads k e s m (over_with o) rest
  last_byte o s m rest b n t h i g r w f = go (may_grow o) refl
    where
      go : (c : Bool) → may_grow o ≡ c → Leads k e s m (over_with o) rest
      go true j =
          joined k e s (begun limit (x ∷ xs) done lv (Pending.Operator o) []) (over_with o) m rest rest
          (one k e s (begun limit (x ∷ xs) done lv (Pending.Operator o) []) m rest (Plain b) (λ z. g) r w (f ∙ growing limit x xs done o j))
          (same_ahead k e (begun limit (x ∷ xs) done lv (Pending.Operator o) []) (over_with o) rest (record { left = refl; right = refl; gap = sym (text_token (OfOperator o) (x ∷ xs) ∙ t) }) (operator_alike o rest t h i))
      go false j = one k e s (over_with o) m rest (Plain b) (λ z. g) r w (f ∙ rw (j, text_token (OfOperator o) (x ∷ xs) ∙ t, n) refl)

  -- the byte of an operator that may grow
  to_operator : (b : ℕ) (p : Operator) (m rest : List ℕ) → is_text x ≡ false → between_tokens x ≡ true → First b p → nat_eq b 41 ≡ false → nat_eq b 10 ≡ false → may_grow p ≡ true → Reads e (Plain b) m rest
      → Leads k e at_start m (begun limit (x ∷ xs) done lv (Pending.Operator p) []) rest
  to_operator b p m rest t h f c d j r =
      goes k e at_start (begun limit (x ∷ xs) done lv (Pending.Operator p) []) m rest (Plain b) (λ z. t) refl r
      (first_byte limit x xs done b p h f (and_left (nat_eq b 41) (may_close x) c) (and_left (nat_eq b 10) (has_due x) d) ∙ growing limit x xs done p j)

  further : (p q : Operator) (c : ℕ) (m rest : List ℕ) → longer_operator p c ≡ Some q → may_grow q ≡ true → Reads e (Plain c) m rest
      → Leads k e (begun limit (x ∷ xs) done lv (Pending.Operator p) []) m (begun limit (x ∷ xs) done lv (Pending.Operator q) []) rest
  further p q c m rest h j r =
      goes k e (begun limit (x ∷ xs) done lv (Pending.Operator p) []) (begun limit (x ∷ xs) done lv (Pending.Operator q) []) m rest (Plain c) (λ z. refl) refl r
      (next_byte limit x xs done p q c h ∙ growing limit x xs done q j)

  operator_made : (o : Operator) (m rest : List ℕ) → Serves o → Made o → is_text x ≡ false → between_tokens x ≡ true → ends_operator o (ahead e rest) ≡ true
      → is_more o x ≡ false → Written e (plain (operator_text o)) m rest → Leads k e at_start m (over_with o) rest
  operator_made o m rest g (one_byte b s f y z) t h i c w =
      let u = or_false (is_right_parenthesis o && may_close x) (is_newline o && has_due x) c in
      let v : Written e (Plain b ∷ []) m rest = subst (λ z. Written e (plain z) m rest) s w in
      last_byte o at_start m rest b g t h i t refl v (first_byte limit x xs done b o h f (ap (λ v. v && may_close x) y ∙ u.0) (ap (λ v. v && has_due x) z ∙ u.1))
  operator_made o m rest g (two_bytes b d p s f y z j l) t h i c w =
      let v : Written e (Plain b ∷ Plain d ∷ []) m rest = subst (λ z. Written e (plain z) m rest) s w in
      joined k e at_start (begun limit (x ∷ xs) done lv (Pending.Operator p) []) (over_with o) m v.0 rest
      (to_operator b p m v.0 t h f y z j v.1)
      (last_byte o (begun limit (x ∷ xs) done lv (Pending.Operator p) []) v.0 rest d g t h i refl refl v.2 (next_byte limit x xs done p o d l))
  operator_made o m rest g (three_bytes b d a p q s f y z j l n u) t h i c w =
      let v : Written e (Plain b ∷ Plain d ∷ Plain a ∷ []) m rest = subst (λ z. Written e (plain z) m rest) s w in
      joined k e at_start (begun limit (x ∷ xs) done lv (Pending.Operator p) []) (over_with o) m v.0 rest
      (to_operator b p m v.0 t h f y z j v.1)
      (joined k e (begun limit (x ∷ xs) done lv (Pending.Operator p) []) (begun limit (x ∷ xs) done lv (Pending.Operator q) []) (over_with o) v.0 v.2.0 rest
      (further p q d v.0 v.2.0 l n v.2.1)
      (last_byte o (begun limit (x ∷ xs) done lv (Pending.Operator q) []) v.2.0 rest a g t h i refl refl v.2.2 (next_byte limit x xs done q o a u)))

  pub operator_leads : (o : Operator) (m rest : List ℕ) → (begins_compound (class_of_operator o) && nat_lt limit (levels (with_token (OfOperator o) (x ∷ xs)))) ≡ false → is_text x ≡ false → between_tokens x ≡ true → ends_operator o (ahead e rest) ≡ true
      → is_more o x ≡ false → Written e (plain (operator_text o)) m rest
      → Leads k e at_start m (settled limit (done ++ Piece.Operator o ∷ []) (with_token (OfOperator o) (x ∷ xs))) rest
  operator_leads o m rest n t h i c w =
      let q = levels_taken (OfOperator o) (x ∷ xs) in
      subst (λ l. Leads k e at_start m (kept limit (with_token (OfOperator o) (x ∷ xs)) (done ++ Piece.Operator o ∷ []) l) rest) q
      (operator_made o m rest (ap (λ l. begins_compound (class_of_operator o) && nat_lt limit l) q ∙ n) (made o) t h i c w)

-- a newline behind which bodies come
due_between : (x : Context) → has_due x ≡ true → between_tokens x ≡ true
due_between Top h = absurd (cc)
due_between (Commands ts) h = refl
due_between (Word n) h = absurd (cc)
due_between Quotes h = absurd (cc)
due_between (Braces q) h = absurd (cc)
due_between Arithmetic h = absurd (cc)
due_between Parenthesis h = absurd (cc)
due_between Body h = absurd (cc)

between_due : (s : State) → has_due (top_of s.contexts) ≡ true → between s 10 ≡ On (pend (Pending.Body 0 0 false) s)
unfolding between
between_due s h = rw h refl

pub bodies_leads : (k e : Bool) (limit : ℕ) (x : Context) (xs : List Context) (done : List Piece) (bs m rest : List ℕ) → is_text x ≡ false → has_due x ≡ true → are_bodies (due_in x) false (lines [] bs) ≡ true
    → Written e (Plain 10 ∷ raw bs) m rest → Leads k e (settled limit done (x ∷ xs)) m (settled limit (done ++ Bodies bs ∷ []) (with_token OfBodies (x ∷ xs))) rest
bodies_leads k e limit x xs done bs m rest t h a w =
    let s = settled limit done (x ∷ xs) in
    let lv = levels (x ∷ xs) in
    let first = within limit x xs done lv 0 0 false [] in
    subst (λ l. Leads k e s m (kept limit (with_token OfBodies (x ∷ xs)) (done ++ Bodies bs ∷ []) l) rest) (levels_taken OfBodies (x ∷ xs))
    (joined k e s first (ended_at limit x xs done lv bs) m w.0 rest
    (goes k e s first m w.0 (Plain 10) (λ z. t) refl w.1 (plain_between s 10 (due_between x h) ∙ between_due s h))
    (bodies_keep limit x xs done lv k e bs 0 0 false [] w.0 rest (at_first (due_in x) h) a w.2))

-- the end of a word within a substitution
pub closing_word : (limit : ℕ) (n : ℕ) (xs : List Context) (done : List Piece) (b : ℕ) → is_end b ≡ true
    → plain_byte (settled limit done (Word n ∷ xs)) b ≡ end_word (is_redirection b) (settled limit done (Word n ∷ xs)) b
unfolding plain_byte
closing_word limit n xs done b h = rw h refl

closed_word : (c : Bool) (s : State) (b : ℕ) → is_top s.contexts ≡ false → (c && is_over_full s) ≡ false → after_word c s b ≡ between s b
closed_word c s b h g = rw (h, g) refl

pub same_is : (a b : Bool) → same_as a b ≡ true → a ≡ b
same_is true b h = sym h
same_is false true h = absurd (cc)
same_is false false h = refl

module _ (k e : Bool) (limit : ℕ) (n : ℕ) (xs : List Context) (done : List Piece) (r : Bool) (m : List ℕ) where
  abbrev class : Told
  class = OfWord r (drop (suc n) done)

  abbrev open_word : State
  open_word = settled limit done (Word n ∷ xs)

  abbrev closed : State
  closed = word_out r open_word

  -- it opens no level too many
  abbrev ServesWord : Type 0
  ServesWord = (word_begins r done (Word n) && nat_lt limit (in_place (top_of xs) (top_of (with_token class xs)) (levels xs))) ≡ false

  closes_alike : ServesWord → between_tokens (top_of xs) ≡ true → is_text (top_of xs) ≡ false → ends_word (ahead e m) ≡ true → same_as r (next_is is_redirection (ahead e m)) ≡ true
      → Alike e false open_word closed m
  closes_alike g h t i s =
      let u = text_token class xs ∙ t in
      record {
        plains = λ b j.
            let d = sym (ap ends_word j) ∙ i in
            let q = same_is r (is_redirection b) (sym (ap (λ z. same_as r (next_is is_redirection z)) j) ∙ s) in
            closing_word limit n xs done b d
            ∙ (ap (λ z. end_word z open_word b) (sym q)
            ∙ (closed_word (word_begins r done (Word n)) closed b u g ∙ sym (plain_between closed b (between_token class xs ∙ h))));
        quoteds = λ b j. let z = sym (ap ends_word j) ∙ i in absurd (cc);
        ends = λ j.
            let q = same_is r false (sym (ap (λ z. same_as r (next_is is_redirection z)) j) ∙ s) in
            ap (λ z. word_end (word_begins z done (Word n)) (word_out z open_word)) (sym q)
            ∙ rw (u, g, between_no_body (top_of (with_token class xs)) (between_token class xs ∙ h), between_no_word (top_of (with_token class xs)) (between_token class xs ∙ h)) refl;
      }

  pub word_over_leads : (word_begins r done (Word n) && nat_lt limit (levels (with_token class xs))) ≡ false → between_tokens (top_of xs) ≡ true → is_text (top_of xs) ≡ false → ends_word (ahead e m) ≡ true
      → same_as r (next_is is_redirection (ahead e m)) ≡ true → Leads k e open_word m (settled limit (done ++ WordClose r ∷ []) (with_token class xs)) m
  word_over_leads g h t i s =
      let q = levels_taken class xs in
      subst (λ l. Leads k e open_word m (kept limit (with_token class xs) (done ++ WordClose r ∷ []) l) m) q
      (same_ahead k e open_word closed m (record { left = refl; right = refl; gap = sym (text_token class xs ∙ t) })
      (closes_alike (ap (λ l. word_begins r done (Word n) && nat_lt limit l) q ∙ g) h t i s))
