-- A text in which too many levels open is run to that place.
use Rattle.std.proofs.Common.{◌≡◌, inl, ℕ, suc, ◌+◌, ◌<◌, arith, Bool, true, false, ◌&&◌, not, cond, nat_eq, nat_lt, List, [], ◌∷◌, ◌++◌, length, drop, refl, sym, ap, ◌∙◌, subst, append_assoc, eqb-true}
use Rattle.std.specs.List.{list_all}
use Rattle.std.proofs.lemmas.Bool.{eq-eqb}
use Rattle.std.proofs.lemmas.List.{append-nil, length-append}
use Rattle.sh_token_grammar.specs.Levels.{begins_compound}
use Rattle.sh_token_pieces.specs.declared.character.Character.TheVariants.{Plain, Quoted, Raw}
use Rattle.sh_token_pieces.specs.declared.operator.Operator.{Operator}
use Rattle.sh_token_pieces.specs.declared.operator.Operator.TheVariants.{LeftParenthesis}
use Rattle.sh_token_pieces.specs.declared.context.Context.{Context}
use Rattle.sh_token_pieces.specs.declared.context.Context.TheVariants.{Top, Word}
use Rattle.sh_token_pieces.specs.declared.piece.Piece.{Piece}
use Rattle.sh_token_pieces.specs.declared.piece.Piece.TheVariants.{Byte, WordOpen, WordClose}
use Rattle.sh_token_pieces.specs.declared.pending.Pending.{Pending}
use Rattle.sh_token_pieces.specs.Bytes.{is_redirection}
use Rattle.sh_token_pieces.specs.Characters.{joins, Reads, Ahead, Next, Unknown, ahead, next_is}
use Rattle.sh_token_pieces.specs.Pieces.{stands, in_word, is_text, between_tokens, begins_word, ends_word, same_as, ends_operator, is_more, behind_byte, with_token, top_of, levels, word_begins, ArePieces, contexts_behind}
use Rattle.sh_token_pieces.specs.TokenClasses.{Told, OfOperator, OfWord, is_byte, class_of_word, class_of_operator}
use Rattle.sh_token.specs.Tokens.{Joined, OpensLevel, braces, parenthesis, backquote, Exceeds, OpensTooMany, form, operator, word, IsTooDeep}
use Rattle.sh_token_scanner.specs.Machine.{State, On, DollarTooDeep, TooDeep, WordTooDeep, step, opens, grow, after_dollar, end_word, operator_out, word_out, is_over_full}
use Rattle.sh_token_scanner.specs.Run.{begins_form, begins_word as word_begun, Deep, EndsDeep, Places, with_next_prefix, with_prefix, after_character, run, scan_of, word_end, word_ended, last_token}
use Rattle.sh_token_scanner.proofs.Running.{placed, after, character_run}
use Rattle.sh_token_scanner.proofs.Tests.{and_true, and_false, word_no_text, text_token, levels_taken}
use Rattle.sh_token_scanner.proofs.Leads.{begun, kept, settled}
use Rattle.sh_token_scanner.proofs.Bytes.{dollar_in, stood, byte_stood, inner_on}
use Rattle.sh_token_scanner.proofs.Pieces.{backquote_in}
use Rattle.sh_token_scanner.proofs.Between.{word_plain, first_byte, closing_word, same_is}
use Rattle.sh_token.proofs.Complete.{no_joins, reached, within_word}
use Rattle.sh_token.proofs.Gaps.{behind_open}
use Rattle.sh_token.proofs.WordStarts.{ahead_joins, begins_by, byte_of, begins_bytes, begins_some}
use Rattle.sh_token.proofs.Sound.{ahead_plain, ahead_quoted}
use Rattle.sh_token.proofs.Whole.{NextCharacter, got, over, cut, next_cooked, over_run}

module _ (e : Bool) (limit : ℕ) (x : Context) (xs : List Context) (done : List Piece) where
  abbrev here : State
  here = settled limit done (x ∷ xs)

  abbrev dollar : State
  dollar = begun limit (x ∷ xs) done (levels (x ∷ xs)) Pending.Dollar []

  full_opens : (p q : Pending) → nat_lt (levels (x ∷ xs)) limit ≡ false → opens p (begun limit (x ∷ xs) done (levels (x ∷ xs)) q []) ≡ TooDeep (begun limit (x ∷ xs) done (levels (x ∷ xs)) q [])
  full_opens p q h = rw h refl

  head_deep : nat_lt (levels (x ∷ xs)) limit ≡ false → step dollar (Plain 123) ≡ DollarTooDeep dollar
  unfolding after_dollar
  head_deep h = rw h refl

  commands_deep : nat_lt (levels (x ∷ xs)) limit ≡ false → step dollar (Plain 40) ≡ DollarTooDeep dollar
  unfolding after_dollar
  commands_deep h = rw h refl

  dollar_deep : (c : ℕ) (p : Places) (last rest r : List ℕ) → in_word x ≡ true → p.next ≡ last → step dollar (Plain c) ≡ DollarTooDeep dollar → Reads e (Plain 36) last rest → Reads e (Plain c) rest r
      → run e false here p last ≡ Deep (36 ∷ rest)
  dollar_deep c p last rest r w n s f g =
      character_run e here p (Plain 36) last rest refl f n
      ∙ (ap (λ z. after e z (with_prefix here (placed (36 ∷ rest) p)) rest) (dollar_in limit x xs done (levels (x ∷ xs)) w)
      ∙ (ap (λ z. run e false dollar (after_character (begins_form dollar) (word_begun dollar) rest (with_next_prefix z (placed (36 ∷ rest) p))) rest) (word_no_text x w)
      ∙ (character_run e dollar (after_character (begins_form dollar) (word_begun dollar) rest (placed (36 ∷ rest) p)) (Plain c) rest r refl g refl
      ∙ ap (λ z. after e z (placed (c ∷ r) (after_character (begins_form dollar) (word_begun dollar) rest (placed (36 ∷ rest) p))) r) s)))

  back_deep : (p : Places) (last rest : List ℕ) → in_word x ≡ true → p.next ≡ last → nat_lt (levels (x ∷ xs)) limit ≡ false → Reads e (Plain 96) last rest → run e false here p last ≡ Deep (96 ∷ rest)
  back_deep p last rest w n h f =
      character_run e here p (Plain 96) last rest refl f n
      ∙ (ap (λ z. after e z (with_prefix here (placed (96 ∷ rest) p)) rest) (backquote_in limit x xs done (levels (x ∷ xs)) w ∙ full_opens Pending.Backquotes Pending.Nothing h)
      ∙ ap (λ z. Deep (with_next_prefix z (placed (96 ∷ rest) p)).next) (word_no_text x w))

  -- the piece that opens a level, with joined lines before it
  behind_joins : (c : ℕ) (last place rest : List ℕ) → Joined last place → nat_eq c 92 ≡ false → Reads e (Plain c) place rest → Reads e (Plain c) last rest × (c ∷ rest ≡ place)
  behind_joins c last place rest j g r =
      let w = no_joins r.0 place (c ∷ rest) j.over r.1 in ((j.lines, j.is ∙ ap (λ z. joins j.lines ++ z) w, inl g), sym w)

  pub opens_deep : (p : Places) (last place : List ℕ) → in_word x ≡ true → p.next ≡ last → nat_lt (levels (x ∷ xs)) limit ≡ false → Joined last place → OpensLevel e place
      → run e false here p last ≡ Deep place
  opens_deep p last place w n h j (braces after r) =
      let b = behind_joins 36 last place r.0 j refl r.1 in dollar_deep 123 p last r.0 r.2.0 w n (head_deep h) b.0 r.2.1 ∙ ap Deep b.1
  opens_deep p last place w n h j (parenthesis after r) =
      let b = behind_joins 36 last place r.0 j refl r.1 in dollar_deep 40 p last r.0 r.2.0 w n (commands_deep h) b.0 r.2.1 ∙ ap Deep b.1
  opens_deep p last place w n h j (backquote after r) =
      let b = behind_joins 96 last place r.0 j refl r.1 in back_deep p last r.0 w n h b.0 ∙ ap Deep b.1

  -- a `(` with which a compound command begins
  parenthesis_deep : (p : Places) (last rest : List ℕ) → is_text x ≡ false → between_tokens x ≡ true → p.next ≡ last → nat_lt limit (levels (with_token (OfOperator LeftParenthesis) (x ∷ xs))) ≡ true
      → Reads e (Plain 40) last rest → run e false here p last ≡ Deep (40 ∷ rest)
  parenthesis_deep p last rest t b n h f =
      character_run e here p (Plain 40) last rest refl f n
      ∙ (ap (λ z. after e z (with_prefix here (placed (40 ∷ rest) p)) rest) (first_byte limit x xs done 40 LeftParenthesis b (record { is = refl; byte = refl; blank = refl; hash = refl }) refl refl ∙ opens_too_many)
      ∙ ap (λ z. Deep (with_next_prefix z (placed (40 ∷ rest) p)).next) t)
    where
      opens_too_many : grow LeftParenthesis here ≡ TooDeep (operator_out LeftParenthesis here)
      opens_too_many = rw (text_token (OfOperator LeftParenthesis) (x ∷ xs) ∙ t, ap (nat_lt limit) (levels_taken (OfOperator LeftParenthesis) (x ∷ xs)) ∙ h) refl

  operator_deep : (o : Operator) (p : Places) (last place : List ℕ) → is_text x ≡ false → p.next ≡ last → Joined last place → Exceeds e limit done x xs (Piece.Operator o) place → o ≡ LeftParenthesis
      → run e false here p last ≡ Deep place
  operator_deep o p last place t n j d w = go (subst (λ z. Exceeds e limit done x xs (Piece.Operator z) place) w d)
    where
      go : Exceeds e limit done x xs (Piece.Operator LeftParenthesis) place → run e false here p last ≡ Deep place
      go d =
          let r = d.written in
          let b = behind_joins 40 last place r.0 j refl r.1 in
          let f = and_true (between_tokens x) (ends_operator LeftParenthesis (ahead e d.after) && not (is_more LeftParenthesis x)) d.fits in
          parenthesis_deep p last r.0 t f.0 n d.exceeds b.0 ∙ ap Deep b.1

-- the end of a word that opens a level too many
module _ (e : Bool) (limit : ℕ) (n : ℕ) (ys : List Context) (done : List Piece) (r : Bool) (m : List ℕ) where
  abbrev in_it : State
  in_it = settled limit done (Word n ∷ ys)

  abbrev class : Told
  class = OfWord r (drop (suc n) done)

  record Sinking : Type 0 where
    begins : word_begins r done (Word n) ≡ true
    full : nat_lt limit (levels (with_token class ys)) ≡ true
    text : is_text (top_of ys) ≡ false
    ends : ends_word (ahead e m) ≡ true
    same : same_as r (next_is is_redirection (ahead e m)) ≡ true

  full_out : Sinking → is_over_full (word_out r in_it) ≡ true
  full_out k = ap (nat_lt limit) (levels_taken class ys) ∙ k.full

  sunk : (b : ℕ) → Sinking → end_word r in_it b ≡ WordTooDeep (word_out r in_it)
  sunk b k = rw (text_token class ys ∙ k.text, k.begins, full_out k) refl

  sunk_end : Sinking → word_ended in_it ≡ cond r (word_ended in_it) EndsDeep
  sunk_end k = go r refl
    where
      go : (c : Bool) → r ≡ c → word_ended in_it ≡ cond c (word_ended in_it) EndsDeep
      go true w = refl
      go false w =
          ap (λ z. word_end (word_begins z done (Word n)) (word_out z in_it)) (sym w)
          ∙ rw (text_token class ys ∙ k.text, k.begins, full_out k) refl

  sinks_by : (p : Places) → p.next ≡ m → Sinking → NextCharacter e false m → run e false in_it p m ≡ Deep p.word
  sinks_by p w k (got (Plain b) rest c f l) =
      let a = ahead_plain e b m rest f in
      let q = same_is r (is_redirection b) (sym (ap (λ z. same_as r (next_is is_redirection z)) a) ∙ k.same) in
      character_run e in_it p (Plain b) m rest refl f w
      ∙ ap (λ z. after e z (placed (b ∷ rest) p) rest) (closing_word limit n ys done b (sym (ap ends_word a) ∙ k.ends) ∙ (ap (λ z. end_word z in_it b) (sym q) ∙ sunk b k))
  sinks_by p w k (got (Quoted b) rest c f l) = let z = sym (ap ends_word (ahead_quoted e b m rest f)) ∙ k.ends in absurd (cc)
  sinks_by p w k (got (Raw b) rest c f l) = absurd (cc)
  sinks_by p w k (over j v z) = over_run e in_it p j m refl v w ∙ go e refl
    where
      at : (d : Bool) → e ≡ d → ahead e m ≡ ahead d []
      at d x = ap (ahead e) (v ∙ sym (append-nil (joins j))) ∙ (ahead_joins e j [] ∙ ap (λ y. ahead y []) x)

      go : (d : Bool) → e ≡ d → run d false in_it (placed [] p) [] ≡ Deep p.word
      go false x = let y = sym (ap ends_word (at false x)) ∙ k.ends in absurd (cc)
      go true x =
          let q = same_is r false (sym (ap (λ z. same_as r (next_is is_redirection z)) (at true x)) ∙ k.same) in
          ap (λ z. last_token z (placed [] p)) (sunk_end k ∙ ap (λ c. cond c (word_ended in_it) EndsDeep) q)
  sinks_by p w k (cut j v d g) =
      let a : ahead false m ≡ Unknown = ap (ahead false) v ∙ ahead_joins false j (92 ∷ []) in
      let z : ends_word Unknown ≡ true = sym (ap ends_word (ap (λ y. ahead y m) d ∙ a)) ∙ k.ends in
      absurd (cc)

-- the bytes of a word
plain_word : (b n : ℕ) (ys : List Context) → behind_byte b (Word n) ys ≡ Word n ∷ ys
plain_word b n ys = rw (and_false (nat_eq b 40), and_false (nat_eq b 41)) refl

word_step : (limit n b : ℕ) (ys : List Context) (done : List Piece) (next : Ahead) → stands (Word n) b next ≡ true → step (settled limit done (Word n ∷ ys)) (Plain b) ≡ On (settled limit (done ++ Byte b ∷ []) (Word n ∷ ys))
word_step limit n b ys done next h =
    byte_stood limit (Word n) ys done (levels ys) b (stood (Word n) b next h)
    ∙ (inner_on limit (Word n) ys done (levels ys) b (and_false (nat_eq b 41))
    ∙ ap (λ zs. On (kept limit zs (done ++ Byte b ∷ []) (levels ys))) (plain_word b n ys))

-- the run behind bytes of a word of which one came before
record Ran (e : Bool) (limit n : ℕ) (ys : List Context) (done ms : List Piece) (p : Places) (mid middle : List ℕ) : Type 0 where
  places : Places
  next : places.next ≡ middle
  word : places.word ≡ p.word
  same : run e false (settled limit done (Word n ∷ ys)) p mid ≡ run e false (settled limit (done ++ ms) (Word n ∷ ys)) places middle

no_first : (n : ℕ) (done : List Piece) (b : ℕ) → suc n < length done → nat_eq (length (done ++ Byte b ∷ [])) (suc (suc n)) ≡ false
no_first n done b l = let a = length-append done (Byte b ∷ []) in go (nat_eq (length (done ++ Byte b ∷ [])) (suc (suc n))) refl a
  where
    go : (c : Bool) → nat_eq (length (done ++ Byte b ∷ [])) (suc (suc n)) ≡ c → length (done ++ Byte b ∷ []) ≡ length done + 1 → c ≡ false
    go false h a = refl
    go true h a = let s = eqb-true (length (done ++ Byte b ∷ [])) (suc (suc n)) h in absurd (omega (arith, s, a, l))

bytes_run : (e : Bool) (limit n : ℕ) (ys : List Context) (ms done : List Piece) (p : Places) (mid middle : List ℕ) → list_all is_byte ms ≡ true → suc n < length done → ArePieces e limit done (Word n ∷ ys) ms mid middle
    → p.next ≡ mid → Ran e limit n ys done ms p mid middle
bytes_run e limit n ys [] done p mid middle h l a w =
    record {
      places = p;
      next = w ∙ a;
      word = refl;
      same = subst (λ d. run e false (settled limit done (Word n ∷ ys)) p mid ≡ run e false (settled limit d (Word n ∷ ys)) p middle) (sym (append-nil done)) (ap (run e false (settled limit done (Word n ∷ ys)) p) a);
    }
bytes_run e limit n ys (m ∷ ms) done p mid middle h l a w =
    let t = and_true (is_byte m) (list_all is_byte ms) h in
    let b = byte_of m t.0 in
    more b.byte (subst (λ z. ArePieces e limit done (Word n ∷ ys) (z ∷ ms) mid middle) b.is a) (λ d q rest k c g. bytes_run e limit n ys ms d q rest middle t.1 k c g) b.is
  where
    more : (b : ℕ) → ArePieces e limit done (Word n ∷ ys) (Byte b ∷ ms) mid middle
        → ((d : List Piece) (q : Places) (rest : List ℕ) → suc n < length d → ArePieces e limit d (Word n ∷ ys) ms rest middle → q.next ≡ rest → Ran e limit n ys d ms q rest middle)
        → m ≡ Byte b → Ran e limit n ys done (m ∷ ms) p mid middle
    more b a ih s =
        let f = a.1.written in
        let d = done ++ Byte b ∷ [] in
        let t = settled limit d (Word n ∷ ys) in
        let q = after_character false false f.0 (placed (b ∷ f.0) p) in
        let r = ih d q f.0 (let k = length-append done (Byte b ∷ []) in omega (arith, k, l)) (subst (λ zs. ArePieces e limit d zs ms f.0 middle) (plain_word b n ys) (subst (λ z. ArePieces e limit d (behind_byte b (Word n) ys) ms z middle) (sym f.2) a.2)) refl in
        record {
          places = r.places;
          next = r.next;
          word = r.word;
          same = character_run e (settled limit done (Word n ∷ ys)) p (Plain b) mid f.0 refl f.1 w
              ∙ (ap (λ z. after e z (placed (b ∷ f.0) p) f.0) (word_step limit n b ys done (ahead e a.0) a.1.fits)
              ∙ (ap (λ c. run e false t (after_character false c f.0 (placed (b ∷ f.0) p)) f.0) (no_first n done b l)
              ∙ (r.same
              ∙ ap (λ z. run e false (settled limit z (Word n ∷ ys)) r.places middle) (append_assoc done (Byte b ∷ []) ms ∙ ap (λ k. done ++ k ∷ ms) (sym s)))));
        }

first_piece : (done : List Piece) (b : ℕ) → nat_eq (length ((done ++ WordOpen ∷ []) ++ Byte b ∷ [])) (suc (suc (length done))) ≡ true
first_piece done b =
    let k = length-append done (WordOpen ∷ []) in
    let l = length-append (done ++ WordOpen ∷ []) (Byte b ∷ []) in
    eq-eqb (length ((done ++ WordOpen ∷ []) ++ Byte b ∷ [])) (suc (suc (length done))) (omega (arith, k, l))

-- a word that opens a level too many, from its first byte on
module _ (e : Bool) (limit : ℕ) (x : Context) (xs : List Context) (done : List Piece) (r : Bool) (middle : List ℕ) where
  abbrev word_of : List Piece → List Piece
  word_of ms = done ++ WordOpen ∷ ms

  abbrev Sinks : List Piece → Type 0
  Sinks ms = Exceeds e limit (word_of ms) (Word (length done)) (x ∷ xs) (WordClose r) middle

  begun_by : (ms : List Piece) → Sinks ms → begins_compound (class_of_word r ms) ≡ true
  begun_by ms d =
      ap (λ z. begins_compound (class_of_word r z)) (sym (behind_open done ms))
      ∙ (and_true (word_begins r (word_of ms) (Word (length done))) (nat_lt limit (levels (with_token (OfWord r (drop (suc (length done)) (word_of ms))) (x ∷ xs)))) d.exceeds).0

  sinking : (ms : List Piece) → is_text x ≡ false → Sinks ms → Sinking e limit (length done) (x ∷ xs) (word_of ms) r middle
  sinking ms t d =
      let w : middle ≡ d.after = d.written in
      let f = and_true (ends_word (ahead e d.after)) (same_as r (next_is is_redirection (ahead e d.after))) d.fits in
      let c = and_true (word_begins r (word_of ms) (Word (length done))) (nat_lt limit (levels (with_token (OfWord r (drop (suc (length done)) (word_of ms))) (x ∷ xs)))) d.exceeds in
      record { begins = c.0; full = c.1; text = t; ends = ap (λ z. ends_word (ahead e z)) w ∙ f.0; same = ap (λ z. same_as r (next_is is_redirection (ahead e z))) w ∙ f.1 }

  first_deep : (ms : List Piece) (b : ℕ) (p : Places) (last place : List ℕ) → is_text x ≡ false → p.next ≡ last → Joined last place → list_all is_byte ms ≡ true
      → ArePieces e limit done (x ∷ xs) (WordOpen ∷ Byte b ∷ ms) place middle → Sinks (Byte b ∷ ms) → run e false (settled limit done (x ∷ xs)) p last ≡ Deep place
  first_deep ms b p last place t n j h a d =
      let f = a.2.1.written in
      let at : Reads e (Plain b) place f.0 = subst (λ z. Reads e (Plain b) z f.0) (sym a.1.written) f.1 in
      let prefix : place ≡ b ∷ f.0 = no_joins at.0 place (b ∷ f.0) j.over at.1 in
      let read : Reads e (Plain b) last f.0 = (j.lines, j.is ∙ ap (λ z. joins j.lines ++ z) prefix, at.2) in
      let g = and_true (between_tokens x) (begins_word (ahead e a.0)) a.1.fits in
      let begins : begins_word (Next (Plain b)) ≡ true = sym (ap begins_word (ahead_plain e b place f.0 at)) ∙ (ap (λ z. begins_word (ahead e z)) a.1.written ∙ g.1) in
      let here = settled limit done (x ∷ xs) in
      let opened = done ++ WordOpen ∷ [] in
      let kept_on = settled limit (opened ++ Byte b ∷ []) (Word (length done) ∷ x ∷ xs) in
      let q = after_character false true f.0 (placed (b ∷ f.0) p) in
      let k = length-append done (WordOpen ∷ []) in
      let l = length-append opened (Byte b ∷ []) in
      let rest = subst (λ zs. ArePieces e limit (opened ++ Byte b ∷ []) zs ms f.0 middle) (plain_word b (length done) (x ∷ xs)) (subst (λ z. ArePieces e limit (opened ++ Byte b ∷ []) (behind_byte b (Word (length done)) (x ∷ xs)) ms z middle) (sym f.2) a.2.2) in
      let ran = bytes_run e limit (length done) (x ∷ xs) ms (opened ++ Byte b ∷ []) q f.0 middle h (omega (arith, k, l)) rest refl in
      let is : (opened ++ Byte b ∷ []) ++ ms ≡ word_of (Byte b ∷ ms) = append_assoc opened (Byte b ∷ []) ms ∙ append_assoc done (WordOpen ∷ []) (Byte b ∷ ms) in
      let sunk = sinks_by e limit (length done) (x ∷ xs) (word_of (Byte b ∷ ms)) r middle ran.places ran.next (sinking (Byte b ∷ ms) t d) (next_cooked e middle) in
      character_run e here p (Plain b) last f.0 refl read n
      ∙ (ap (λ z. after e (step here (Plain b)) (with_next_prefix z (placed (b ∷ f.0) p)) f.0) t
      ∙ (ap (λ z. after e z (placed (b ∷ f.0) p) f.0) (word_plain limit x xs done b g.0 begins ∙ word_step limit (length done) b (x ∷ xs) opened (ahead e a.2.0) a.2.1.fits)
      ∙ (ap (λ c. run e false kept_on (after_character false c f.0 (placed (b ∷ f.0) p)) f.0) (first_piece done b)
      ∙ (ran.same
      ∙ (ap (λ z. run e false (settled limit z (Word (length done) ∷ x ∷ xs)) ran.places middle) is
      ∙ (sunk ∙ ap Deep (ran.word ∙ sym prefix)))))))

  word_deep : (ms : List Piece) (p : Places) (last place : List ℕ) → is_text x ≡ false → p.next ≡ last → Joined last place → ArePieces e limit done (x ∷ xs) (WordOpen ∷ ms) place middle → Sinks ms
      → run e false (settled limit done (x ∷ xs)) p last ≡ Deep place
  word_deep [] p last place t n j a d = absurd (begins_some r (begun_by [] d))
  word_deep (m ∷ ms) p last place t n j a d =
      let h = and_true (is_byte m) (list_all is_byte ms) (begins_bytes r (m ∷ ms) (begun_by (m ∷ ms) d)) in
      let b = byte_of m h.0 in
      first_deep ms b.byte p last place t n j h.1 (subst (λ z. ArePieces e limit done (x ∷ xs) (WordOpen ∷ z ∷ ms) place middle) b.is a) (subst (λ z. Sinks (z ∷ ms)) b.is d)

pub in_deep : (e : Bool) (limit : ℕ) (ys : List Context) (done : List Piece) (p : Places) (last place : List ℕ) → is_text (top_of ys) ≡ false → p.next ≡ last → Joined last place
    → OpensTooMany e limit done place ys → run e false (settled limit done ys) p last ≡ Deep place
in_deep e limit [] done p last place t n j o = absurd (cc)
in_deep e limit (x ∷ xs) done p last place t n j (form _ w h o) = opens_deep e limit x xs done p last place w n h j o
in_deep e limit (x ∷ xs) done p last place t n j (operator o _ _ d) =
    operator_deep e limit x xs done o p last place t n j d (begins_by o (and_true (begins_compound (class_of_operator o)) (nat_lt limit (levels (with_token (OfOperator o) (x ∷ xs)))) d.exceeds).0)
in_deep e limit (x ∷ xs) done p last place t n j (word ms r _ middle a k d) = word_deep e limit x xs done r middle ms p last place t n j a d

pub deep : (e : Bool) (limit : ℕ) (bytes place : List ℕ) → IsTooDeep e limit bytes place → scan_of e limit bytes ≡ Deep place
deep e limit bytes place t =
    let w = within_word e limit bytes t.prefix t.last t.gap t.pieces (reached e limit bytes t.middle t.prefix t.gap t.blank t.between t.joined) t.joined.over t.before t.going in
    w.is
    ∙ in_deep e limit (contexts_behind t.gap (Top ∷ []) (WordOpen ∷ t.pieces)) ((t.gap ++ WordOpen ∷ []) ++ t.pieces) w.places t.last place w.inside.inner w.next t.placed
    (subst (λ z. OpensTooMany e limit z place (contexts_behind t.gap (Top ∷ []) (WordOpen ∷ t.pieces))) (sym (append_assoc t.gap (WordOpen ∷ []) t.pieces)) t.opens)
