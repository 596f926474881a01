-- A token of the definition is run to its end, and so is a text in which too many levels open.
use Rattle.std.proofs.Common.{◌≡◌, ℕ, zero, suc, Bool, true, false, not, nat_eq, List, [], ◌∷◌, ◌++◌, length, drop, refl, sym, ap, ◌∙◌, subst, append_assoc, cond, eqb-true}
use Rattle.std.specs.List.{list_all}
use Rattle.sh_token_pieces.specs.declared.character.Character.TheVariants.{Plain}
use Rattle.sh_token_pieces.specs.declared.operator.Operator.{Operator}
use Rattle.sh_token_pieces.specs.declared.context.Context.{Context}
use Rattle.sh_token_pieces.specs.declared.context.Context.TheVariants.{Top, Commands, Word, Quotes, Braces, Arithmetic, Parenthesis, Body}
use Rattle.sh_token_pieces.specs.declared.piece.Piece.{Piece}
use Rattle.sh_token_pieces.specs.declared.piece.Piece.TheVariants.{WordOpen, WordClose}
use Rattle.sh_token_pieces.specs.declared.pending.Pending.{Pending}
use Rattle.sh_token_pieces.specs.Bytes.{is_redirection}
use Rattle.sh_token_pieces.specs.Characters.{joins, Reads, Written, plain, Next, ahead, next_is}
use Rattle.sh_token_pieces.specs.Pendings.{is_raw}
use Rattle.sh_token_pieces.specs.Operators.{operator_text}
use Rattle.sh_token_pieces.specs.Growth.{may_grow}
use Rattle.sh_token_pieces.specs.Pieces.{is_gap, IsPiece, ArePieces, contexts_behind, ends_none, is_text, top_of, is_word, begins_word, ends_word, same_as, ends_operator, is_more}
use Rattle.sh_token_pieces.specs.TokenClasses.{OfWord}
use Rattle.sh_token.specs.declared.token.TokenKind.{TokenKind}
use Rattle.sh_token.specs.Tokens.{begins_join, Joined, IsToken, ending, operator, word, HasToken}
use Rattle.sh_token_scanner.specs.Machine.{State, On, Before, After, step, grow, grow_to, end_word, in_operator, operator_out, word_out}
use Rattle.sh_token_scanner.specs.Run.{Ended, EndsIn, Takes, Places, with_next_prefix, with_prefix, after_character, last_step, run, scan_of}
use Rattle.sh_token.specs.Found.{kind_of}
use Rattle.sh_token_scanner.proofs.Running.{placed, after, follow, fed_backslash, fed_byte, fed_quoted, joins_run, character_run, Stops, stops}
use Rattle.sh_token_scanner.proofs.Tests.{and_true, not_true, and_left, and_false, text_token}
use Rattle.sh_token_scanner.proofs.Leads.{begun, settled}
use Rattle.sh_token_scanner.proofs.Between.{First, Made, one_byte, two_bytes, three_bytes, made, no_longer, word_plain, word_quoted, first_byte, next_byte, growing, closing_word, same_is}
use Rattle.sh_token_scanner.proofs.Inner.{Inside, inside_all, inner_all}
use Rattle.sh_token.proofs.Gaps.{gap_pieces, gap_kind, kind_last, word_kind_of}

pub no_joins : (n : ℕ) (prefix ys : List ℕ) → begins_join prefix ≡ false → prefix ≡ joins n ++ ys → prefix ≡ ys
no_joins zero prefix ys j h = h
no_joins (suc n) prefix ys j h = let x : begins_join (92 ∷ 10 ∷ (joins n ++ ys)) ≡ false = subst (λ z. begins_join z ≡ false) h j in absurd (cc)

-- the first character of a word, before it and in it
module _ (e : Bool) (limit : ℕ) (gap : List Piece) where
  abbrev base : State
  base = settled limit gap (Top ∷ [])

  abbrev opened : State
  opened = settled limit (gap ++ WordOpen ∷ []) (Word (length gap) ∷ Top ∷ [])

  word_byte_begins : (b : ℕ) (bs : List ℕ) (q : Places) → begins_join (b ∷ bs) ≡ false → begins_word (ahead e (b ∷ bs)) ≡ true → (c : Bool) → nat_eq b 92 ≡ c
      → run e false base q (b ∷ bs) ≡ run e false opened (with_next_prefix true q) (b ∷ bs)
  word_byte_begins b bs q j h false g =
      let w : ahead e (b ∷ bs) ≡ Next (Plain b) = rw g refl in
      ap (λ x. follow e x (with_next_prefix true q) bs) (fed_byte base b refl g)
      ∙ (ap (λ x. follow e (Takes x) (with_next_prefix true q) bs) (word_plain limit Top [] gap b refl (sym (ap begins_word w) ∙ h))
      ∙ ap (λ x. follow e x (with_next_prefix true q) bs) (sym (fed_byte opened b refl g)))
  word_byte_begins b bs q j h true g =
      subst (λ b. run e false base q (b ∷ bs) ≡ run e false opened (with_next_prefix true q) (b ∷ bs)) (sym (eqb-true b 92 g))
      (ap (λ x. follow e x (with_next_prefix true q) bs) (fed_backslash base refl)
      ∙ (held bs (subst (λ b. begins_join (b ∷ bs) ≡ false) (eqb-true b 92 g) j)
      ∙ ap (λ x. follow e x (with_next_prefix true q) bs) (sym (fed_backslash opened refl))))
    where
      held_end : (d : Bool) → run d true base (with_next_prefix true q) [] ≡ run d true opened (with_next_prefix true q) []
      held_end true = ap (λ x. last_step x (with_next_prefix true q)) (word_plain limit Top [] gap 92 refl refl)
      held_end false = refl

      held : (bs : List ℕ) → begins_join (92 ∷ bs) ≡ false → run e true base (with_next_prefix true q) bs ≡ run e true opened (with_next_prefix true q) bs
      held [] i = held_end e
      held (c ∷ cs) i =
          ap (λ x. follow e x (with_next_prefix true q) cs) (fed_quoted base c i)
          ∙ (ap (λ x. follow e (Takes x) (with_next_prefix true q) cs) (word_quoted limit Top [] gap c refl) ∙ ap (λ x. follow e x (with_next_prefix true q) cs) (sym (fed_quoted opened c i)))

  unknown_word : (d : Bool) → begins_word (ahead d []) ≡ true → ⊥
  unknown_word true h = absurd (cc)
  unknown_word false h = absurd (cc)

  pub word_begins : (prefix : List ℕ) (q : Places) → begins_join prefix ≡ false → begins_word (ahead e prefix) ≡ true → run e false base q prefix ≡ run e false opened (with_next_prefix true q) prefix
  word_begins [] q j h = absurd (unknown_word e h)
  word_begins (b ∷ bs) q j h = word_byte_begins b bs q j h (nat_eq b 92) refl

  -- an operator of the text itself
  operator_stops : (o : Operator) (m : List ℕ) → ends_operator o (ahead e m) ≡ true → may_grow o ≡ true → Stops e false (begun limit (Top ∷ []) gap 0 (Pending.Operator o) []) (operator_out o base) m
  unfolding in_operator
  operator_stops o m h g =
      record {
        plains = λ b j. ap (λ y. grow_to o y (begun limit (Top ∷ []) gap 0 (Pending.Operator o) []) b) (no_longer o b (ahead e m) h j);
        quoteds = λ b j. refl;
        ends = λ j. refl;
        known = λ j. let z = not_true (may_grow o) (sym (ap (ends_operator o) j) ∙ h) in absurd (cc);
      }

  top_last : (o : Operator) (t : State) (q : Places) (m rest : List ℕ) (c : ℕ) → step t (Plain c) ≡ grow o base → is_raw t.pending ≡ false → (w : Written e (Plain c ∷ []) m rest)
      → q.next ≡ m → ends_operator o (ahead e rest) ≡ true → run e false t q m ≡ Ended (operator_out o base) (with_prefix t (placed (c ∷ w.0) q)).prefix rest
  top_last o t q m rest c s r w n h = character_run e t q (Plain c) m w.0 r w.1 n ∙ (ap (λ x. after e x Q w.0) s ∙ go (may_grow o) refl)
    where
      Q : Places
      Q = with_prefix t (placed (c ∷ w.0) q)

      go : (d : Bool) → may_grow o ≡ d → after e (cond d (On (begun limit (Top ∷ []) gap 0 (Pending.Operator o) [])) (After (operator_out o base))) Q w.0 ≡ Ended (operator_out o base) Q.prefix rest
      go true j =
          stops e false (begun limit (Top ∷ []) gap 0 (Pending.Operator o) []) (operator_out o base) Q.prefix w.0 w.0 (record { cooked = refl; inside = refl }) w.0
          (operator_stops o w.0 (subst (λ z. ends_operator o (ahead e z) ≡ true) (sym w.2) h) j) Q.next Q.form Q.word
          ∙ ap (Ended (operator_out o base) Q.prefix) w.2
      go false j = ap (Ended (operator_out o base) Q.prefix) w.2

  -- the first byte of an operator that goes on
  to_first : (b : ℕ) (p : Operator) (q : Places) (m rest : List ℕ) → First b p → nat_eq b 41 ≡ false → nat_eq b 10 ≡ false → may_grow p ≡ true → Reads e (Plain b) m rest → q.next ≡ m
      → run e false base q m ≡ run e false (begun limit (Top ∷ []) gap 0 (Pending.Operator p) []) (after_character false false rest (with_next_prefix true (placed (b ∷ rest) q))) rest
  to_first b p q m rest f c d g r n =
      character_run e base q (Plain b) m rest refl r n
      ∙ ap (λ x. after e x (with_next_prefix true (placed (b ∷ rest) q)) rest) (first_byte limit Top [] gap b p refl f (and_left (nat_eq b 41) false c) (and_left (nat_eq b 10) false d) ∙ growing limit Top [] gap p g)

  operator_run : (o : Operator) (q : Places) (prefix rest : List ℕ) → Made o → begins_join prefix ≡ false → q.next ≡ prefix → ends_operator o (ahead e rest) ≡ true
      → Written e (plain (operator_text o)) prefix rest → run e false base q prefix ≡ Ended (operator_out o base) prefix rest
  operator_run o q prefix rest (one_byte b s f y x) j n h w =
      let v : Written e (Plain b ∷ []) prefix rest = subst (λ z. Written e (plain z) prefix rest) s w in
      top_last o base q prefix rest b (first_byte limit Top [] gap b o refl f (and_false (nat_eq b 41)) (and_false (nat_eq b 10))) refl v n h
      ∙ ap (λ z. Ended (operator_out o base) z rest) (sym (no_joins v.1.0 prefix (b ∷ v.0) j v.1.1))
  operator_run o q prefix rest (two_bytes b d p s f y x g l) j n h w =
      let v : Written e (Plain b ∷ Plain d ∷ []) prefix rest = subst (λ z. Written e (plain z) prefix rest) s w in
      to_first b p q prefix v.0 f y x g v.1 n
      ∙ (top_last o (begun limit (Top ∷ []) gap 0 (Pending.Operator p) []) (after_character false false v.0 (with_next_prefix true (placed (b ∷ v.0) q))) v.0 rest d (next_byte limit Top [] gap p o d l) refl v.2 refl h
      ∙ ap (λ z. Ended (operator_out o base) z rest) (sym (no_joins v.1.0 prefix (b ∷ v.0) j v.1.1)))
  operator_run o q prefix rest (three_bytes b d a p u s f y x g l i k) j n h w =
      let v : Written e (Plain b ∷ Plain d ∷ Plain a ∷ []) prefix rest = subst (λ z. Written e (plain z) prefix rest) s w in
      let first = after_character false false v.0 (with_next_prefix true (placed (b ∷ v.0) q)) in
      to_first b p q prefix v.0 f y x g v.1 n
      ∙ (character_run e (begun limit (Top ∷ []) gap 0 (Pending.Operator p) []) first (Plain d) v.0 v.2.0 refl v.2.1 refl
      ∙ (ap (λ x. after e x (placed (d ∷ v.2.0) first) v.2.0) (next_byte limit Top [] gap p u d l ∙ growing limit Top [] gap u i)
      ∙ (top_last o (begun limit (Top ∷ []) gap 0 (Pending.Operator u) []) (after_character false false v.2.0 (placed (d ∷ v.2.0) first)) v.2.0 rest a (next_byte limit Top [] gap u o a k) refl v.2.2 refl h
      ∙ ap (λ z. Ended (operator_out o base) z rest) (sym (no_joins v.1.0 prefix (b ∷ v.0) j v.1.1)))))

-- the end of a word of the text itself
word_stops : (e : Bool) (limit : ℕ) (done : List Piece) (x : Context) (xs : List Context) (r : Bool) (m rest : List ℕ) → IsPiece e limit done x xs (WordClose r) m rest → is_text (top_of xs) ≡ true
    → Stops e false (settled limit done (x ∷ xs)) (word_out r (settled limit done (x ∷ xs))) rest
word_stops e limit done Top xs r m rest i t = let f = i.fits in absurd (cc)
word_stops e limit done (Commands ts) xs r m rest i t = let f = i.fits in absurd (cc)
word_stops e limit done (Word n) xs r m rest i t =
    let p = and_true (ends_word (ahead e rest)) (same_as r (next_is is_redirection (ahead e rest))) i.fits in
    record {
      plains = λ b j.
          let d = sym (ap ends_word j) ∙ p.0 in
          let q = same_is r (is_redirection b) (sym (ap (λ z. same_as r (next_is is_redirection z)) j) ∙ p.1) in
          closing_word limit n xs done b d ∙ (ap (λ z. end_word z (settled limit done (Word n ∷ xs)) b) (sym q) ∙ stopped b r);
      quoteds = λ b j. let z = sym (ap ends_word j) ∙ p.0 in absurd (cc);
      ends = λ j. let q = same_is r false (sym (ap (λ z. same_as r (next_is is_redirection z)) j) ∙ p.1) in rw (text_token (OfWord false (drop (suc n) done)) xs ∙ t) (ap (λ z. EndsIn (word_out z (settled limit done (Word n ∷ xs)))) (sym q));
      known = λ j. let z = sym (ap ends_word j) ∙ p.0 in absurd (cc);
    }
  where
    stopped : (b : ℕ) (r : Bool) → end_word r (settled limit done (Word n ∷ xs)) b ≡ Before (word_out r (settled limit done (Word n ∷ xs)))
    stopped b r = rw (text_token (OfWord r (drop (suc n) done)) xs ∙ t) refl
word_stops e limit done Quotes xs r m rest i t = let f = i.fits in absurd (cc)
word_stops e limit done (Braces q) xs r m rest i t = let f = i.fits in absurd (cc)
word_stops e limit done Arithmetic xs r m rest i t = let f = i.fits in absurd (cc)
word_stops e limit done Parenthesis xs r m rest i t = let f = i.fits in absurd (cc)
word_stops e limit done Body xs r m rest i t = let f = i.fits in absurd (cc)

word_inside : (x : Context) → is_word x ≡ true → is_text x ≡ false
word_inside Top h = absurd (cc)
word_inside (Commands ts) h = refl
word_inside (Word n) h = refl
word_inside Quotes h = refl
word_inside (Braces q) h = refl
word_inside Arithmetic h = refl
word_inside Parenthesis h = refl
word_inside Body h = refl

pub record Runs (e : Bool) (limit : ℕ) (bytes prefix rest : List ℕ) (kind : TokenKind) : Type 0 where
  pub state : State
  pub is : scan_of e limit bytes ≡ Ended state prefix rest
  pub kind_is : kind_of state.done ≡ kind

abbrev first_places : List ℕ → Places
first_places bytes = record { prefix = bytes; previous = bytes; behind = bytes; next = bytes; form = bytes; word = bytes }

-- the run behind what lies before the token
pub record Reached (e : Bool) (limit : ℕ) (bytes : List ℕ) (gap : List Piece) (prefix : List ℕ) : Type 0 where
  pub places : Places
  pub next : places.next ≡ prefix
  pub is : scan_of e limit bytes ≡ run e false (settled limit gap (Top ∷ [])) places prefix

pub reached : (e : Bool) (limit : ℕ) (bytes middle prefix : List ℕ) (gap : List Piece) → list_all is_gap gap ≡ true → ArePieces e limit [] (Top ∷ []) gap bytes middle → Joined middle prefix
    → Reached e limit bytes gap prefix
reached e limit bytes middle prefix gap h a j =
    let l = gap_pieces e limit gap [] bytes middle h a (first_places bytes) refl refl in
    record {
      places = placed prefix l.places;
      next = refl;
      is = l.same ∙ (ap (run e false (settled limit gap (Top ∷ [])) l.places) j.is ∙ joins_run e (settled limit gap (Top ∷ [])) l.places j.lines prefix refl (l.next ∙ j.is));
    }

-- the run within the first word
pub record Within (e : Bool) (limit : ℕ) (bytes : List ℕ) (gap ms : List Piece) (prefix middle : List ℕ) : Type 0 where
  pub places : Places
  pub next : places.next ≡ middle
  pub behind : places.behind ≡ middle
  pub prefix_is : places.prefix ≡ prefix
  pub inside : Inside (contexts_behind gap (Top ∷ []) (WordOpen ∷ ms))
  pub is : scan_of e limit bytes ≡ run e false (settled limit ((gap ++ WordOpen ∷ []) ++ ms) (contexts_behind gap (Top ∷ []) (WordOpen ∷ ms))) places middle

pub within_word : (e : Bool) (limit : ℕ) (bytes prefix middle : List ℕ) (gap ms : List Piece) → Reached e limit bytes gap prefix → begins_join prefix ≡ false → ArePieces e limit gap (Top ∷ []) (WordOpen ∷ ms) prefix middle
    → ends_none gap (Top ∷ []) (WordOpen ∷ ms) ≡ true → Within e limit bytes gap ms prefix middle
within_word e limit bytes prefix middle gap ms r j a n =
    let i : Inside (Word (length gap) ∷ Top ∷ []) = record { order = refl; inner = refl } in
    let written : prefix ≡ a.0 = a.1.written in
    let begins : begins_word (ahead e prefix) ≡ true = ap (λ z. begins_word (ahead e z)) written ∙ a.1.fits in
    let q = with_next_prefix true r.places in
    let l = inner_all e limit ms (gap ++ WordOpen ∷ []) (Word (length gap) ∷ Top ∷ []) a.0 middle i a.2 n q (r.next ∙ written) (r.next ∙ written) in
    record {
      places = l.places;
      next = l.next;
      behind = l.behind;
      prefix_is = l.prefix refl ∙ r.next;
      inside = inside_all e limit ms (gap ++ WordOpen ∷ []) (Word (length gap) ∷ Top ∷ []) a.0 middle i a.2 n;
      is = r.is ∙ (word_begins e limit gap prefix r.places j begins ∙ (ap (run e false (settled limit (gap ++ WordOpen ∷ []) (Word (length gap) ∷ Top ∷ [])) q) written ∙ l.same));
    }

ended_at : (k : State) (f g m n : List ℕ) → f ≡ g → m ≡ n → Ended k f m ≡ Ended k g n
ended_at k f g m n h i = ap (λ z. Ended k z m) h ∙ ap (Ended k g) i

complete_token : (e : Bool) (limit : ℕ) (bytes prefix rest : List ℕ) (kind : TokenKind) (gap : List Piece) → list_all is_gap gap ≡ true → Reached e limit bytes gap prefix
    → begins_join prefix ≡ false → IsToken e limit gap prefix rest kind → Runs e limit bytes prefix rest kind
complete_token e limit bytes prefix rest kind gap h r j (ending t f g) =
    record {
      state = settled limit gap (Top ∷ []);
      is = r.is
          ∙ (ap (λ z. run e false (settled limit gap (Top ∷ [])) r.places z) f
          ∙ (subst (λ d. run d false (settled limit gap (Top ∷ [])) r.places [] ≡ Ended (settled limit gap (Top ∷ [])) r.places.next r.places.next) (sym t) refl
          ∙ ended_at (settled limit gap (Top ∷ [])) r.places.next prefix r.places.next rest r.next (r.next ∙ (f ∙ sym g))));
      kind_is = gap_kind gap h;
    }
complete_token e limit bytes prefix rest kind gap h r j (operator o i) =
    let p = and_true (ends_operator o (ahead e rest)) (not (is_more o Top)) i.fits in
    record {
      state = operator_out o (settled limit gap (Top ∷ []));
      is = r.is ∙ operator_run e limit gap o r.places prefix rest (made o) j r.next p.0 i.written;
      kind_is = kind_last gap (Piece.Operator o);
    }
complete_token e limit bytes prefix rest kind gap h r j (word ms c x xs middle a n k i t) =
    let w = within_word e limit bytes prefix middle gap ms r j a n in
    let d = (gap ++ WordOpen ∷ []) ++ ms in
    let s = settled limit d (x ∷ xs) in
    record {
      state = word_out c s;
      is = w.is
          ∙ (ap (λ ys. run e false (settled limit d ys) w.places middle) k
          ∙ (ap (λ z. run e false s w.places z) i.written
          ∙ (stops e false s (word_out c s) w.places.prefix w.places.behind w.places.next (record { cooked = refl; inside = word_inside x (and_true (is_word x) _ i.fits).0 }) rest
          (word_stops e limit d x xs c middle rest (subst (λ z. IsPiece e limit z x xs (WordClose c) middle rest) (sym (append_assoc gap (WordOpen ∷ []) ms)) i) t) w.places.previous w.places.form w.places.word
          ∙ ended_at (word_out c s) w.places.prefix prefix w.places.behind rest w.prefix_is (w.behind ∙ i.written))));
      kind_is = word_kind_of gap ms c h;
    }

pub complete : (e : Bool) (limit : ℕ) (bytes prefix rest : List ℕ) (kind : TokenKind) → HasToken e limit bytes prefix rest kind → Runs e limit bytes prefix rest kind
complete e limit bytes prefix rest kind h = complete_token e limit bytes prefix rest kind h.gap h.blank (reached e limit bytes h.middle prefix h.gap h.blank h.between h.joined) h.joined.over h.token
