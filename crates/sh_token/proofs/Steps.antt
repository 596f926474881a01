-- What each character makes of a word is as the definition has it.
use Rattle.std.proofs.Common.{◌≡◌, ℕ, suc, Bool, true, false, ◌&&◌, nat_eq, nat_lt, List, [], ◌∷◌, ◌++◌, length, drop, Option, None, refl, sym, ap, ◌∙◌, subst, eqb-true}
use Rattle.std.specs.List.{list_all}
use Rattle.std.proofs.lemmas.List.Folds.{list_all-append}
use Rattle.sh_base.specs.Names.{is_name, begins_name, continues_name}
use Rattle.sh_token_scanner.proofs.Bodies.{at_first}
use Rattle.sh_token_pieces.specs.declared.character.Character.{Character}
use Rattle.sh_token_pieces.specs.declared.character.Character.TheVariants.{Plain, Quoted, Raw}
use Rattle.sh_token_pieces.specs.declared.head.Head.{Head}
use Rattle.sh_token_pieces.specs.declared.context.Context.{Context}
use Rattle.sh_token_pieces.specs.declared.context.Context.TheVariants.{Top, Commands, Word, Quotes, Braces, Arithmetic, Parenthesis, Body}
use Rattle.sh_token_pieces.specs.declared.piece.Piece.{Piece}
use Rattle.sh_token_pieces.specs.declared.piece.Piece.TheVariants.{CommandsClose, WordOpen, WordClose, Blank}
use Rattle.sh_token_pieces.specs.declared.pending.Pending.{Pending}
use Rattle.sh_token_pieces.specs.Bytes.{is_blank, is_operator_byte, is_end, is_redirection}
use Rattle.sh_token_pieces.specs.Characters.{Reads, Written, plain, raw, ahead, next_is}
use Rattle.sh_token_pieces.specs.Growth.{operator_of}
use Rattle.sh_token_pieces.specs.Heads.{grown_head, head_step, head_from, is_some_head, grows_head}
use Rattle.sh_token_pieces.specs.Pieces.{fits, exceeds, word_begins, IsPiece, behind, ends_token, in_word, is_text, top_of, between_tokens, is_word, may_close, levels, begins_word, ends_word, same_as, is_right_parenthesis, with_class, with_token, is_newline, is_more, has_due, due_in}
use Rattle.sh_token_pieces.specs.TokenClasses.{Told, OfWord}
use Rattle.sh_token_scanner.specs.Machine.{State, is_top, is_over_full, act, between, end_word, plain_byte, quoted_byte, word_out, same, out_level}
use Rattle.sh_token_scanner.proofs.Running.{begin_of, is_raw_character}
use Rattle.sh_token_scanner.proofs.Tests.{and_true, and_both, and_left, below, below_word, text_token, between_token, text_serves, levels_taken, or_none}
use Rattle.sh_token_scanner.proofs.Leads.{kept, settled}
use Rattle.sh_token_scanner.proofs.Between.{closes_level}
use Rattle.sh_token.proofs.Paths.{Subject, IsBlank, Path, path_on, word_here, final_word, Going, either}
use Rattle.sh_token.proofs.Sound.{ahead_plain, ahead_quoted, plain_at, one_of, operator_of_text, right_parenthesis_byte, ends_piece, begins_piece, word_byte_sound, escape_sound, grow_sound, newline_byte}

-- written characters with one more
pub written_snoc : (e : Bool) (cs : List Character) (c : Character) (m mid rest : List ℕ) → Written e cs m mid → Reads e c mid rest → Written e (cs ++ c ∷ []) m rest
written_snoc e [] c m mid rest w r = subst (λ z. Written e (c ∷ []) z rest) (sym w) (rest, r, refl)
written_snoc e (d ∷ cs) c m mid rest w r = (w.0, w.1, written_snoc e cs c w.0 mid rest w.2 r)

pub plain_snoc : (bs : List ℕ) (b : ℕ) → plain bs ++ Plain b ∷ [] ≡ plain (bs ++ b ∷ [])
plain_snoc [] b = refl
plain_snoc (c ∷ bs) b = ap (λ z. Plain c ∷ z) (plain_snoc bs b)

pub raw_snoc : (bs : List ℕ) (b : ℕ) → raw bs ++ Raw b ∷ [] ≡ raw (bs ++ b ∷ [])
raw_snoc [] b = refl
raw_snoc (c ∷ bs) b = ap (λ z. Raw c ∷ z) (raw_snoc bs b)

pub all_snoc : (f : ℕ → Bool) (bs : List ℕ) (b : ℕ) → list_all f bs ≡ true → f b ≡ true → list_all f (bs ++ b ∷ []) ≡ true
all_snoc f bs b h g = list_all-append f bs (b ∷ []) ∙ and_both (list_all f bs) (f b && true) h (and_both (f b) true g refl)

pub name_snoc : (bs : List ℕ) (b : ℕ) → is_name bs ≡ true → continues_name b ≡ true → is_name (bs ++ b ∷ []) ≡ true
name_snoc [] b h g = absurd (cc)
name_snoc (c ∷ bs) b h g =
    let p = and_true (begins_name c) (list_all continues_name bs) h in
    and_both (begins_name c) (list_all continues_name (bs ++ b ∷ [])) p.0 (all_snoc continues_name bs b p.1 g)

pub head_snoc : (h : Option Head) (bs : List ℕ) (b : ℕ) → head_from h (bs ++ b ∷ []) ≡ head_step (head_from h bs) b
head_snoc h [] b = refl
head_snoc h (c ∷ bs) b = head_snoc (head_step h c) bs b

pub no_more : (h : Head) (b : ℕ) → grown_head h b ≡ None → grows_head h b ≡ false
no_more h b w = ap is_some_head w

module _ (e : Bool) (limit : ℕ) (subject : Subject) (prefix : List ℕ) (blank : IsBlank subject) (previous : List ℕ) where
  -- between tokens of a substitution
  between_sound : (x : Context) (xs : List Context) (done : List Piece) (mid : List ℕ) (b : ℕ) (rest : List ℕ) → Path e limit subject prefix done (x ∷ xs) mid → is_text x ≡ false → between_tokens x ≡ true
      → Reads e (Plain b) mid rest → Going e limit subject prefix (between (settled limit done (x ∷ xs)) b) previous (b ∷ rest) mid rest
  unfolding between
  between_sound x xs done mid b rest p t i r =
      either e limit subject prefix (is_blank b) _ _ previous (b ∷ rest) mid rest
      (λ h. ends_piece e limit subject prefix blank previous x xs done (Blank b) mid rest (b ∷ rest) mid (same (Blank b) s) p
      (record { written = one_of e (Plain b) mid rest r; fits = and_both (between_tokens x) (is_blank b) i h; level = refl; compound = refl }) refl refl)
      (λ h32. either e limit subject prefix (nat_eq b 35) _ _ previous (b ∷ rest) mid rest
      (λ h. begins_piece e limit subject prefix blank previous (x ∷ xs) done Pending.Comment [] mid (b ∷ rest) mid rest p (refl, i, one_of e (Plain 35) mid rest (plain_at e b 35 mid rest h r)) tt)
      (λ h35. either e limit subject prefix (nat_eq b 41 && may_close x) _ _ previous (b ∷ rest) mid rest
      (λ h. let u = and_true (nat_eq b 41) (may_close x) h in
      ends_piece e limit subject prefix blank previous x xs done CommandsClose mid rest (b ∷ rest) mid (out_level CommandsClose s) p
      (record { written = one_of e (Plain 41) mid rest (plain_at e b 41 mid rest u.0 r); fits = u.1; level = refl; compound = refl }) refl
      (ap (kept limit xs (done ++ CommandsClose ∷ [])) (closes_level x xs u.1)))
      (λ h41. either e limit subject prefix (nat_eq b 10 && has_due x) _ _ previous (b ∷ rest) mid rest
      (λ h. let u = and_true (nat_eq b 10) (has_due x) h in
      begins_piece e limit subject prefix blank previous (x ∷ xs) done (Pending.Body 0 0 false) [] mid (b ∷ rest) mid rest p (at_first (due_in x) u.1, one_of e (Plain 10) mid rest (plain_at e b 10 mid rest u.0 r)) tt)
      (λ h10. either e limit subject prefix (is_operator_byte b) _ _ previous (b ∷ rest) mid rest
      (λ h. grow_sound e limit subject prefix blank previous x xs done mid p (operator_of b) rest (b ∷ rest) mid t i (no_more_than h h41 h10) (subst (λ z. Written e (plain z) mid rest) (sym (operator_of_text b h)) (one_of e (Plain b) mid rest r)))
      (λ hop. word_byte_sound e limit subject prefix blank previous (Word (length done)) (x ∷ xs) (done ++ WordOpen ∷ []) mid (opened h32 h35 hop) b rest refl (rw (h32, hop) refl) r)))))
    where
      s : State
      s = settled limit done (x ∷ xs)

      closing : is_operator_byte b ≡ true → (nat_eq b 41 && may_close x) ≡ false → (is_right_parenthesis (operator_of b) && may_close x) ≡ false
      closing h g = go (nat_eq b 41) refl g
        where
          go : (c : Bool) → nat_eq b 41 ≡ c → (c && may_close x) ≡ false → (is_right_parenthesis (operator_of b) && may_close x) ≡ false
          go true j k = subst (λ z. (is_right_parenthesis (operator_of z) && may_close x) ≡ false) (sym (eqb-true b 41 j)) k
          go false j k = and_left (is_right_parenthesis (operator_of b)) (may_close x) (right_parenthesis_byte b h j)

      starting : is_operator_byte b ≡ true → (nat_eq b 10 && has_due x) ≡ false → (is_newline (operator_of b) && has_due x) ≡ false
      starting h g = go (nat_eq b 10) refl g
        where
          go : (c : Bool) → nat_eq b 10 ≡ c → (c && has_due x) ≡ false → (is_newline (operator_of b) && has_due x) ≡ false
          go true j k = subst (λ z. (is_newline (operator_of z) && has_due x) ≡ false) (sym (eqb-true b 10 j)) k
          go false j k = and_left (is_newline (operator_of b)) (has_due x) (newline_byte b h j)

      no_more_than : is_operator_byte b ≡ true → (nat_eq b 41 && may_close x) ≡ false → (nat_eq b 10 && has_due x) ≡ false → is_more (operator_of b) x ≡ false
      no_more_than h g k = or_none (is_right_parenthesis (operator_of b) && may_close x) (is_newline (operator_of b) && has_due x) (closing h g) (starting h k)

      opened : is_blank b ≡ false → nat_eq b 35 ≡ false → is_operator_byte b ≡ false → Path e limit subject prefix (done ++ WordOpen ∷ []) (Word (length done) ∷ x ∷ xs) mid
      opened h32 h35 hop =
          path_on e limit subject prefix done x xs WordOpen mid mid p
          (record {
            written = refl;
            fits = and_both (between_tokens x) (begins_word (ahead e mid)) i (ap begins_word (ahead_plain e b mid rest r) ∙ rw (h32, hop, h35) refl);
            level = refl;
            compound = refl;
          }) refl

  -- the end of a word
  module _ (n : ℕ) (xs : List Context) (done : List Piece) (mid : List ℕ) (p : Path e limit subject prefix done (Word n ∷ xs) mid) where
    abbrev class : Bool → Told
    class r = OfWord r (drop (suc n) done)

    close_fits : (b : ℕ) (rest : List ℕ) → is_end b ≡ true → Reads e (Plain b) mid rest → fits e (Word n) (WordClose (is_redirection b)) mid ≡ true
    close_fits b rest h r =
        subst (λ z. (ends_word z && same_as (is_redirection b) (next_is is_redirection z)) ≡ true) (sym (ahead_plain e b mid rest r)) (and_both (is_end b) (same_as (is_redirection b) (is_redirection b)) h (same_itself (is_redirection b)))
      where
        same_itself : (c : Bool) → same_as c c ≡ true
        same_itself true = refl
        same_itself false = refl

    -- whether the word opens a level too many
    abbrev out_of : Bool → State
    out_of r = word_out r (settled limit done (Word n ∷ xs))

    abbrev too_many : Bool → Bool
    too_many r = word_begins r done (Word n) && is_over_full (out_of r)

    too_many_is : (r : Bool) → exceeds limit done (Word n) xs (WordClose r) ≡ too_many r
    too_many_is r = ap (λ l. word_begins r done (Word n) && nat_lt limit l) (sym (levels_taken (class r) xs))

    closed_nonempty : (ys : List Context) (c : Told) (b : ℕ) (rest : List ℕ) (d : List Piece) → Path e limit subject prefix d (with_token c ys) mid → between_tokens (top_of ys) ≡ true → is_text (top_of (with_token c ys)) ≡ false
        → Reads e (Plain b) mid rest → Going e limit subject prefix (between (kept limit (with_token c ys) d (levels (with_token c ys))) b) previous (b ∷ rest) mid rest
    closed_nonempty [] c b rest d q i t r = absurd (cc)
    closed_nonempty (y ∷ ys) c b rest d q i t r = between_sound (with_class c y) ys d mid b rest q t (between_token c (y ∷ ys) ∙ i) r

    close_sound : (b : ℕ) (rest : List ℕ) → is_end b ≡ true → Reads e (Plain b) mid rest → Going e limit subject prefix (end_word (is_redirection b) (settled limit done (Word n ∷ xs)) b) previous (b ∷ rest) mid rest
    close_sound b rest h r =
        either e limit subject prefix (is_top (with_token (class q) xs)) _ _ previous (b ∷ rest) mid rest
        (λ t. record { it = final_word e limit subject prefix done (Word n) xs q mid mid blank p (record { written = refl; fits = close_fits b rest h r; level = refl; compound = text_serves limit (word_begins q done (Word n)) (class q) xs (below (Word n) xs refl p.inside.order) (sym (text_token (class q) xs) ∙ t) }) (sym (text_token (class q) xs) ∙ t) })
        (λ t. either e limit subject prefix (too_many q) _ _ previous (b ∷ rest) mid rest
        (λ d. record { it = word_here e limit subject prefix done n xs mid q p (sym (text_token (class q) xs) ∙ t) (record { after = mid; written = refl; fits = close_fits b rest h r; exceeds = too_many_is q ∙ d }) })
        (λ d. subst (λ l. Going e limit subject prefix (between (kept limit (with_token (class q) xs) (done ++ WordClose q ∷ []) l) b) previous (b ∷ rest) mid rest) (sym (levels_taken (class q) xs))
        (closed_nonempty xs (class q) b rest (done ++ WordClose q ∷ [])
        (path_on e limit subject prefix done (Word n) xs (WordClose q) mid mid p (record { written = refl; fits = close_fits b rest h r; level = refl; compound = too_many_is q ∙ d }) t) (below_word n xs p.inside.order) t r)))
      where
        q : Bool
        q = is_redirection b

  not_between : (x : Context) → between_tokens x ≡ false → in_word x ≡ true
  not_between Top h = absurd (cc)
  not_between (Commands ts) h = absurd (cc)
  not_between (Word n) h = refl
  not_between Quotes h = refl
  not_between (Braces q) h = refl
  not_between Arithmetic h = refl
  not_between Parenthesis h = refl
  not_between Body h = refl

  word_end_sound : (x : Context) (xs : List Context) (done : List Piece) (mid : List ℕ) (b : ℕ) (rest : List ℕ) → Path e limit subject prefix done (x ∷ xs) mid → (is_word x && is_end b) ≡ true → Reads e (Plain b) mid rest
      → Going e limit subject prefix (end_word (is_redirection b) (settled limit done (x ∷ xs)) b) previous (b ∷ rest) mid rest
  word_end_sound Top xs done mid b rest p h r = absurd (cc)
  word_end_sound (Commands ts) xs done mid b rest p h r = absurd (cc)
  word_end_sound (Word n) xs done mid b rest p h r = close_sound n xs done mid p b rest h r
  word_end_sound Quotes xs done mid b rest p h r = absurd (cc)
  word_end_sound (Braces q) xs done mid b rest p h r = absurd (cc)
  word_end_sound Arithmetic xs done mid b rest p h r = absurd (cc)
  word_end_sound Parenthesis xs done mid b rest p h r = absurd (cc)
  word_end_sound Body xs done mid b rest p h r = absurd (cc)

  -- a byte where nothing has begun
  pub plain_sound : (x : Context) (xs : List Context) (done : List Piece) (mid : List ℕ) (b : ℕ) (rest : List ℕ) → Path e limit subject prefix done (x ∷ xs) mid → Reads e (Plain b) mid rest
      → Going e limit subject prefix (plain_byte (settled limit done (x ∷ xs)) b) previous (b ∷ rest) mid rest
  unfolding plain_byte
  plain_sound x xs done mid b rest p r =
      either e limit subject prefix (between_tokens x) _ _ previous (b ∷ rest) mid rest
      (λ i. between_sound x xs done mid b rest p p.inside.inner i r)
      (λ i. either e limit subject prefix (is_word x && is_end b) _ _ previous (b ∷ rest) mid rest
      (λ h. word_end_sound x xs done mid b rest p h r)
      (λ h. word_byte_sound e limit subject prefix blank previous x xs done mid p b rest (not_between x i) h r))

  pub quoted_sound : (x : Context) (xs : List Context) (done : List Piece) (mid : List ℕ) (b : ℕ) (rest : List ℕ) → Path e limit subject prefix done (x ∷ xs) mid → Reads e (Quoted b) mid rest
      → Going e limit subject prefix (quoted_byte (settled limit done (x ∷ xs)) b) previous (92 ∷ b ∷ rest) mid rest
  unfolding quoted_byte
  quoted_sound x xs done mid b rest p r =
      either e limit subject prefix (between_tokens x) _ _ previous (92 ∷ b ∷ rest) mid rest
      (λ i. escape_sound e limit subject prefix blank previous (Word (length done)) (x ∷ xs) (done ++ WordOpen ∷ []) mid
      (path_on e limit subject prefix done x xs WordOpen mid mid p (record { written = refl; fits = and_both (between_tokens x) (begins_word (ahead e mid)) i (ap begins_word (ahead_quoted e b mid rest r)); level = refl; compound = refl }) refl) b rest refl r)
      (λ i. escape_sound e limit subject prefix blank previous x xs done mid p b rest (not_between x i) r)

  -- after a piece that the next character ends
  pub then_sound : (x : Context) (xs : List Context) (done : List Piece) (m : Piece) (mid start rest : List ℕ) (c : Character) (t : State) → Path e limit subject prefix done (x ∷ xs) mid → IsPiece e limit done x xs m mid start
      → ends_token m (behind done x xs m) ≡ false → is_raw_character c ≡ false → Reads e c start rest → settled limit (done ++ m ∷ []) (behind done x xs m) ≡ t
      → Going e limit subject prefix (act t c) previous (begin_of c rest) start rest
  then_sound x xs done m mid start rest c t p i h k r w = subst (λ z. Going e limit subject prefix (act z c) previous (begin_of c rest) start rest) w (go (behind done x xs m) c k r (path_on e limit subject prefix done x xs m mid start p i h))
    where
      go : (ys : List Context) (c : Character) → is_raw_character c ≡ false → Reads e c start rest → Path e limit subject prefix (done ++ m ∷ []) ys start → Going e limit subject prefix (act (settled limit (done ++ m ∷ []) ys) c) previous (begin_of c rest) start rest
      go [] c k r q = let z = q.inside.order in absurd (cc)
      go (y ∷ ys) (Plain b) k r q = plain_sound y ys (done ++ m ∷ []) start b rest q r
      go (y ∷ ys) (Quoted b) k r q = quoted_sound y ys (done ++ m ∷ []) start b rest q r
      go (y ∷ ys) (Raw b) k r q = absurd (cc)
