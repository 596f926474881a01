-- What a byte makes of a word is as the definition has it.
use Rattle.std.proofs.Common.{◌≡◌, ◌⊎◌, inl, inr, ℕ, suc, Bool, true, false, ◌||◌, ◌&&◌, not, nat_eq, nat_lt, List, [], ◌∷◌, ◌++◌, refl, sym, ap, ◌∙◌, subst, cond, eqb-true}
use Rattle.std.specs.Str.{bytes_eq}
use Rattle.sh_token_pieces.specs.declared.character.Character.{Character}
use Rattle.sh_token_pieces.specs.declared.character.Character.TheVariants.{Plain, Quoted, Raw}
use Rattle.sh_token_pieces.specs.declared.operator.Operator.{Operator}
use Rattle.sh_token_pieces.specs.declared.operator.Operator.TheVariants.{And, Semicolon, Pipe, Less, Great, LeftParenthesis, RightParenthesis, Newline}
use Rattle.sh_token_pieces.specs.declared.context.Context.{Context}
use Rattle.sh_token_pieces.specs.declared.context.Context.TheVariants.{Top, Commands, Word, Quotes, Braces, Arithmetic, Parenthesis, Body}
use Rattle.sh_token_pieces.specs.declared.piece.Piece.{Piece}
use Rattle.sh_token_pieces.specs.declared.piece.Piece.TheVariants.{Byte, Escaped, Backslash, DoubleQuotesOpen, DoubleQuotesClose, BraceClose}
use Rattle.sh_token_pieces.specs.declared.pending.Pending.{Pending}
use Rattle.sh_token_pieces.specs.Bytes.{is_operator_byte, is_end}
use Rattle.sh_token_pieces.specs.Characters.{Reads, Written, plain, Ahead, Next, InputEnd, Unknown, ahead}
use Rattle.sh_token_pieces.specs.Operators.{operator_text}
use Rattle.sh_token_pieces.specs.Growth.{longer_operator, may_grow, operator_of}
use Rattle.sh_token_pieces.specs.Pieces.{stands, quotes, fits, exceeds, IsPiece, behind, ends_token, in_word, is_text, between_tokens, is_word, is_quotes, is_braces, is_arithmetic, has_single_quotes, has_double_quotes, behind_byte, levels, is_some, ends_operator, is_right_parenthesis, with_token, is_newline, is_more}
use Rattle.sh_token_pieces.specs.TokenClasses.{OfOperator, class_of_operator}
use Rattle.sh_token_grammar.specs.Levels.{begins_compound}
use Rattle.sh_token.specs.Tokens.{Joined, OpensLevel, backquote}
use Rattle.sh_token_scanner.specs.Machine.{State, On, After, TooDeep, is_over_full, over, grow, opens, inner_byte, word_byte, escape, operator_out, same, into, out, out_level}
use Rattle.sh_token_scanner.proofs.Tests.{and_true, and_both, not_false, text_token, levels_taken}
use Rattle.sh_token_scanner.proofs.Leads.{begun, kept, settled}
use Rattle.sh_token_scanner.proofs.Bytes.{inner_on, inner_parenthesis, levels_parenthesized}
use Rattle.sh_token_scanner.proofs.Pieces.{quotes_level, brace_level}
use Rattle.sh_token.proofs.WordStarts.{ahead_joins, begins_by, parenthesis_from}
use Rattle.sh_token.proofs.Paths.{Subject, IsBlank, Path, path_on, DeepSome, deep_here, operator_here, Going, either, settled_at, no_join_at, pending_levels, Held, Preceded}

-- what comes next
ahead_byte : (e : Bool) (b : ℕ) (rest : List ℕ) → (nat_eq b 92 ≡ false) ⊎ ((b ≡ 92) × (e ≡ true) × (rest ≡ [])) → ahead e (b ∷ rest) ≡ Next (Plain b)
ahead_byte e b rest (inl h) = rw h refl
ahead_byte e b rest (inr h) = subst (λ b. ahead e (b ∷ rest) ≡ Next (Plain b)) (sym h.0) (subst (λ e. ahead e (92 ∷ rest) ≡ Next (Plain 92)) (sym h.1) (subst (λ r. ahead true (92 ∷ r) ≡ Next (Plain 92)) (sym h.2) refl))

pub ahead_plain : (e : Bool) (b : ℕ) (m rest : List ℕ) → Reads e (Plain b) m rest → ahead e m ≡ Next (Plain b)
ahead_plain e b m rest h = ap (ahead e) h.1 ∙ (ahead_joins e h.0 (b ∷ rest) ∙ ahead_byte e b rest h.2)

ahead_escaped : (e : Bool) (b : ℕ) (rest : List ℕ) → nat_eq b 10 ≡ false → ahead e (92 ∷ b ∷ rest) ≡ Next (Quoted b)
ahead_escaped e b rest h = rw h refl

pub ahead_quoted : (e : Bool) (b : ℕ) (m rest : List ℕ) → Reads e (Quoted b) m rest → ahead e m ≡ Next (Quoted b)
ahead_quoted e b m rest h = ap (ahead e) h.1 ∙ (ahead_joins e h.0 (92 ∷ b ∷ rest) ∙ ahead_escaped e b rest h.2)

pub plain_at : (e : Bool) (b c : ℕ) (m rest : List ℕ) → nat_eq b c ≡ true → Reads e (Plain b) m rest → Reads e (Plain c) m rest
plain_at e b c m rest h r = subst (λ x. Reads e (Plain x) m rest) (eqb-true b c h) r

pub one_of : (e : Bool) (c : Character) (m rest : List ℕ) → Reads e c m rest → Written e (c ∷ []) m rest
one_of e c m rest r = (rest, r, refl)

and_this : (c : Bool) → (c && true) ≡ false → c ≡ false
and_this true h = absurd (cc)
and_this false h = refl

-- a byte for which nothing else stands, stands for itself
pub stands_so : (x : Context) (b : ℕ) (next : Ahead) → in_word x ≡ true → (is_word x && is_end b) ≡ false → (nat_eq b 39 && has_single_quotes x) ≡ false → (nat_eq b 34 && has_double_quotes x) ≡ false
    → (nat_eq b 34 && is_quotes x) ≡ false → (nat_eq b 125 && is_braces x) ≡ false → nat_eq b 36 ≡ false → nat_eq b 96 ≡ false → (nat_eq b 41 && is_arithmetic x) ≡ false → stands x b next ≡ true
stands_so Top b next w n s d q r i j k = absurd (cc)
stands_so (Commands ts) b next w n s d q r i j k = absurd (cc)
stands_so (Word z) b next w n s d q r i j k = rw (and_this (nat_eq b 34) d, i, j, and_this (nat_eq b 39) s, n) refl
stands_so Quotes b next w n s d q r i j k = rw (and_this (nat_eq b 34) q, i, j) refl
stands_so (Braces false) b next w n s d q r i j k = rw (and_this (nat_eq b 34) d, i, j, and_this (nat_eq b 39) s, and_this (nat_eq b 125) r) refl
stands_so (Braces true) b next w n s d q r i j k = rw (and_this (nat_eq b 34) d, i, j, and_this (nat_eq b 125) r) refl
stands_so Arithmetic b next w n s d q r i j k = rw (i, j, and_this (nat_eq b 41) k) refl
stands_so Parenthesis b next w n s d q r i j k = rw (i, j) refl
stands_so Body b next w n s d q r i j k = rw (i, j) refl

-- operators of one byte
byte_text : (b c : ℕ) → nat_eq b c ≡ true → c ∷ [] ≡ b ∷ []
byte_text b c h = ap (λ x. x ∷ []) (sym (eqb-true b c h))

of_text : (b : ℕ) (x1 x2 x3 x4 x5 x6 x7 : Bool) → nat_eq b 38 ≡ x1 → nat_eq b 59 ≡ x2 → nat_eq b 124 ≡ x3 → nat_eq b 60 ≡ x4 → nat_eq b 62 ≡ x5 → nat_eq b 40 ≡ x6 → nat_eq b 41 ≡ x7
    → (x1 || (x2 || (x3 || (x4 || (x5 || (x6 || (x7 || nat_eq b 10))))))) ≡ true
    → operator_text (cond x1 And (cond x2 Semicolon (cond x3 Pipe (cond x4 Less (cond x5 Great (cond x6 LeftParenthesis (cond x7 RightParenthesis Newline))))))) ≡ b ∷ []
of_text b true x2 x3 x4 x5 x6 x7 h1 h2 h3 h4 h5 h6 h7 h = byte_text b 38 h1
of_text b false true x3 x4 x5 x6 x7 h1 h2 h3 h4 h5 h6 h7 h = byte_text b 59 h2
of_text b false false true x4 x5 x6 x7 h1 h2 h3 h4 h5 h6 h7 h = byte_text b 124 h3
of_text b false false false true x5 x6 x7 h1 h2 h3 h4 h5 h6 h7 h = byte_text b 60 h4
of_text b false false false false true x6 x7 h1 h2 h3 h4 h5 h6 h7 h = byte_text b 62 h5
of_text b false false false false false true x7 h1 h2 h3 h4 h5 h6 h7 h = byte_text b 40 h6
of_text b false false false false false false true h1 h2 h3 h4 h5 h6 h7 h = byte_text b 41 h7
of_text b false false false false false false false h1 h2 h3 h4 h5 h6 h7 h = byte_text b 10 h

pub operator_of_text : (b : ℕ) → is_operator_byte b ≡ true → operator_text (operator_of b) ≡ b ∷ []
operator_of_text b h =
    of_text b (nat_eq b 38) (nat_eq b 59) (nat_eq b 124) (nat_eq b 60) (nat_eq b 62) (nat_eq b 40) (nat_eq b 41) refl refl refl refl refl refl refl h

pub newline_byte : (b : ℕ) → is_operator_byte b ≡ true → nat_eq b 10 ≡ false → is_newline (operator_of b) ≡ false
newline_byte b h g = ap (λ t. bytes_eq t (10 ∷ [])) (operator_of_text b h) ∙ rw g refl

pub right_parenthesis_byte : (b : ℕ) → is_operator_byte b ≡ true → nat_eq b 41 ≡ false → is_right_parenthesis (operator_of b) ≡ false
right_parenthesis_byte b h g = ap (λ t. bytes_eq t (41 ∷ [])) (operator_of_text b h) ∙ rw g refl

-- an operator that doesn't grow ends wherever it stands
pub whole_operator : (o : Operator) (next : Ahead) → may_grow o ≡ false → ends_operator o next ≡ true
whole_operator o (Next (Plain b)) h = not_false (is_some (longer_operator o b)) (no_longer o b h)
  where
    no_longer : (o : Operator) (b : ℕ) → may_grow o ≡ false → is_some (longer_operator o b) ≡ false
    no_longer And b h = absurd (cc)
    no_longer Semicolon b h = absurd (cc)
    no_longer Pipe b h = absurd (cc)
    no_longer Less b h = absurd (cc)
    no_longer Great b h = absurd (cc)
    no_longer LeftParenthesis b h = refl
    no_longer RightParenthesis b h = refl
    no_longer Newline b h = refl
    no_longer Operator.AndIf b h = refl
    no_longer Operator.OrIf b h = refl
    no_longer Operator.DoubleSemicolon b h = refl
    no_longer Operator.DoubleLess b h = absurd (cc)
    no_longer Operator.DoubleGreat b h = refl
    no_longer Operator.LessAnd b h = refl
    no_longer Operator.GreatAnd b h = refl
    no_longer Operator.LessGreat b h = refl
    no_longer Operator.DoubleLessDash b h = refl
    no_longer Operator.Clobber b h = refl
whole_operator o (Next (Quoted b)) h = refl
whole_operator o (Next (Raw b)) h = refl
whole_operator o InputEnd h = refl
whole_operator o Unknown h = not_false (may_grow o) h

module _ (e : Bool) (limit : ℕ) (subject : Subject) (prefix : List ℕ) (blank : IsBlank subject) (previous : List ℕ) where
  -- a piece is over, with nothing begun behind it
  pub ends_piece : (x : Context) (xs : List Context) (done : List Piece) (m : Piece) (mid rest begin start : List ℕ) (t : State) → Path e limit subject prefix done (x ∷ xs) mid → IsPiece e limit done x xs m mid rest
      → ends_token m (behind done x xs m) ≡ false → t ≡ settled limit (done ++ m ∷ []) (behind done x xs m) → Going e limit subject prefix (On t) previous begin start rest
  ends_piece x xs done m mid rest begin start t p i h w =
      settled_at e limit subject prefix t (done ++ m ∷ []) (behind done x xs m) previous begin start rest w (path_on e limit subject prefix done x xs m mid rest p i h)

  -- a piece begins
  pub begins_piece : (xs : List Context) (done : List Piece) (q : Pending) (acc mid begin start rest : List ℕ) → Path e limit subject prefix done xs mid → Held e limit q xs acc mid rest
      → Preceded q acc begin rest → Going e limit subject prefix (On (begun limit xs done (pending_levels q (levels xs)) q acc)) previous begin start rest
  begins_piece xs done q acc mid begin start rest p h r = record { it = record { xs = xs; done = done; pending = q; acc = acc; mid = mid; is = refl; path = p; held = h; preceded = r } }

  -- what opens a level
  pub opens_piece : (x : Context) (xs : List Context) (done : List Piece) (q : Pending) (acc mid start rest place : List ℕ) → Path e limit subject prefix done (x ∷ xs) mid → in_word x ≡ true
      → (nat_lt (levels (x ∷ xs)) limit ≡ true → Going e limit subject prefix (On (begun limit (x ∷ xs) done (suc (levels (x ∷ xs))) q [])) previous place start rest) → Joined mid place → OpensLevel e place
      → Going e limit subject prefix (opens q (settled limit done (x ∷ xs))) previous place start rest
  opens_piece x xs done q acc mid start rest place p w f j o =
      either e limit subject prefix (nat_lt (levels (x ∷ xs)) limit) _ _ previous place start rest f (λ h. record { it = record { place = place; here = deep_here e limit subject prefix done (x ∷ xs) mid place p h w j o } })

  module _ (x : Context) (xs : List Context) (done : List Piece) (mid : List ℕ) (p : Path e limit subject prefix done (x ∷ xs) mid) where
    abbrev s : State
    s = settled limit done (x ∷ xs)

    byte_sound : (b : ℕ) (rest : List ℕ) → Reads e (Plain b) mid rest → stands x b (ahead e rest) ≡ true → (nat_eq b 41 && is_arithmetic x) ≡ false → Going e limit subject prefix (inner_byte x s b) previous (b ∷ rest) mid rest
    byte_sound b rest r i h =
        subst (λ z. Going e limit subject prefix z previous (b ∷ rest) mid rest) (sym (inner_on limit x xs done (levels (x ∷ xs)) b h))
        (ends_piece x xs done (Byte b) mid rest (b ∷ rest) mid (kept limit (behind_byte b x xs) (done ++ Byte b ∷ []) (levels (x ∷ xs))) p
        (record { written = one_of e (Plain b) mid rest r; fits = i; level = refl; compound = refl }) refl
        (ap (kept limit (behind_byte b x xs) (done ++ Byte b ∷ [])) (sym (levels_parenthesized limit x xs done (levels (x ∷ xs)) b))))

    inner_sound : (b : ℕ) (rest : List ℕ) → Reads e (Plain b) mid rest → ((nat_eq b 41 && is_arithmetic x) ≡ false → stands x b (ahead e rest) ≡ true) → Going e limit subject prefix (inner_byte x s b) previous (b ∷ rest) mid rest
    inner_sound b rest r i = go (nat_eq b 41 && is_arithmetic x) refl
      where
        go : (c : Bool) → (nat_eq b 41 && is_arithmetic x) ≡ c → Going e limit subject prefix (inner_byte x s b) previous (b ∷ rest) mid rest
        go false h = byte_sound b rest r (i h) h
        go true h =
            let t = and_true (nat_eq b 41) (is_arithmetic x) h in
            subst (λ z. Going e limit subject prefix z previous (b ∷ rest) mid rest) (sym (inner_parenthesis limit x xs done (levels (x ∷ xs)) b h))
            (begins_piece (x ∷ xs) done Pending.Parenthesis [] mid (b ∷ rest) mid rest p (refl, t.1, one_of e (Plain 41) mid rest (plain_at e b 41 mid rest t.0 r)) tt)

    pub word_byte_sound : (b : ℕ) (rest : List ℕ) → in_word x ≡ true → (is_word x && is_end b) ≡ false → Reads e (Plain b) mid rest → Going e limit subject prefix (word_byte x s b) previous (b ∷ rest) mid rest
    unfolding word_byte
    word_byte_sound b rest w n r =
        either e limit subject prefix (nat_eq b 39 && has_single_quotes x) _ _ previous (b ∷ rest) mid rest
        (λ h. let t = and_true (nat_eq b 39) (has_single_quotes x) h in
        begins_piece (x ∷ xs) done Pending.Single [] mid (b ∷ rest) mid rest p (refl, t.1, one_of e (Plain 39) mid rest (plain_at e b 39 mid rest t.0 r)) tt)
        (λ h39. either e limit subject prefix (nat_eq b 34 && has_double_quotes x) _ _ previous (b ∷ rest) mid rest
        (λ h. let t = and_true (nat_eq b 34) (has_double_quotes x) h in
        ends_piece x xs done DoubleQuotesOpen mid rest (b ∷ rest) mid (into Quotes DoubleQuotesOpen s) p
        (record { written = one_of e (Plain 34) mid rest (plain_at e b 34 mid rest t.0 r); fits = t.1; level = refl; compound = refl }) refl refl)
        (λ h34. either e limit subject prefix (nat_eq b 34 && is_quotes x) _ _ previous (b ∷ rest) mid rest
        (λ h. let t = and_true (nat_eq b 34) (is_quotes x) h in
        ends_piece x xs done DoubleQuotesClose mid rest (b ∷ rest) mid (out DoubleQuotesClose s) p
        (record { written = one_of e (Plain 34) mid rest (plain_at e b 34 mid rest t.0 r); fits = t.1; level = refl; compound = refl }) refl
        (ap (kept limit xs (done ++ DoubleQuotesClose ∷ [])) (quotes_level x xs t.1)))
        (λ hq. either e limit subject prefix (nat_eq b 125 && is_braces x) _ _ previous (b ∷ rest) mid rest
        (λ h. let t = and_true (nat_eq b 125) (is_braces x) h in
        ends_piece x xs done BraceClose mid rest (b ∷ rest) mid (out_level BraceClose s) p
        (record { written = one_of e (Plain 125) mid rest (plain_at e b 125 mid rest t.0 r); fits = t.1; level = refl; compound = refl }) refl
        (ap (kept limit xs (done ++ BraceClose ∷ [])) (brace_level x xs t.1)))
        (λ h125. either e limit subject prefix (nat_eq b 36) _ _ previous (b ∷ rest) mid rest
        (λ h. begins_piece (x ∷ xs) done Pending.Dollar [] mid (b ∷ rest) mid rest p (refl, w, one_of e (Plain 36) mid rest (plain_at e b 36 mid rest h r)) (ap (λ z. z ∷ rest) (eqb-true b 36 h)))
        (λ h36. either e limit subject prefix (nat_eq b 96) _ _ previous (b ∷ rest) mid rest
        (λ h. subst (λ z. Going e limit subject prefix (opens Pending.Backquotes s) previous (z ∷ rest) mid rest) (sym (eqb-true b 96 h)) (back_sound rest w (plain_at e b 96 mid rest h r)))
        (λ h96. inner_sound b rest r (λ h41. stands_so x b (ahead e rest) w n h39 h34 hq h125 h36 h96 h41)))))))
      where
        back_sound : (rest : List ℕ) → in_word x ≡ true → Reads e (Plain 96) mid rest → Going e limit subject prefix (opens Pending.Backquotes s) previous (96 ∷ rest) mid rest
        back_sound rest w r =
            opens_piece x xs done Pending.Backquotes [] mid mid rest (96 ∷ rest) p w
            (λ l. begins_piece (x ∷ xs) done Pending.Backquotes [] mid (96 ∷ rest) mid rest p ((λ bs. refl), w, l, one_of e (Plain 96) mid rest r) refl)
            (record { lines = r.0; is = r.1; over = no_join_at 96 rest refl }) (backquote rest (rest, (0, refl, inl refl), refl))

    pub escape_sound : (b : ℕ) (rest : List ℕ) → in_word x ≡ true → Reads e (Quoted b) mid rest → Going e limit subject prefix (escape x s b) previous (92 ∷ b ∷ rest) mid rest
    escape_sound b rest w r = go (quotes x b) refl
      where
        go : (c : Bool) → quotes x b ≡ c → Going e limit subject prefix (On (same (cond c (Escaped b) (Backslash b)) s)) previous (92 ∷ b ∷ rest) mid rest
        go true h =
            ends_piece x xs done (Escaped b) mid rest (92 ∷ b ∷ rest) mid (same (Escaped b) s) p (record { written = one_of e (Quoted b) mid rest r; fits = h; level = refl; compound = refl }) refl refl
        go false h =
            ends_piece x xs done (Backslash b) mid rest (92 ∷ b ∷ rest) mid (same (Backslash b) s) p
            (record { written = one_of e (Quoted b) mid rest r; fits = and_both (in_word x) (not (quotes x b)) w (not_false (quotes x b) h); level = refl; compound = refl }) refl refl

    -- an operator, in a substitution
    operator_fits : (o : Operator) (rest : List ℕ) → between_tokens x ≡ true → may_grow o ≡ false → is_more o x ≡ false → fits e x (Piece.Operator o) rest ≡ true
    operator_fits o rest b g c =
        and_both (between_tokens x) (ends_operator o (ahead e rest) && not (is_more o x)) b
        (and_both (ends_operator o (ahead e rest)) (not (is_more o x)) (whole_operator o (ahead e rest) g) (not_false (is_more o x) c))

    -- whether it opens a level too many
    abbrev too_many : Operator → Bool
    too_many o = begins_compound (class_of_operator o) && is_over_full (operator_out o s)

    too_many_is : (o : Operator) → exceeds limit done x xs (Piece.Operator o) ≡ too_many o
    too_many_is o = ap (λ l. begins_compound (class_of_operator o) && nat_lt limit l) (sym (levels_taken (OfOperator o) (x ∷ xs)))

    operator_deep : (o : Operator) (rest : List ℕ) → between_tokens x ≡ true → may_grow o ≡ false → is_more o x ≡ false → Written e (plain (operator_text o)) mid rest → too_many o ≡ true → DeepSome e limit subject prefix
    operator_deep o rest b g c w h =
        let f = parenthesis_from e o mid rest (begins_by o (and_true (begins_compound (class_of_operator o)) (is_over_full (operator_out o s)) h).0) w in
        record {
          place = f.place;
          here = operator_here e limit subject prefix done x xs mid f.place o p f.joined (record { after = rest; written = f.written; fits = operator_fits o rest b g c; exceeds = too_many_is o ∙ h });
        }

    pub operator_over : (o : Operator) (rest begin start : List ℕ) → is_text x ≡ false → between_tokens x ≡ true → may_grow o ≡ false → is_more o x ≡ false → Written e (plain (operator_text o)) mid rest
        → Going e limit subject prefix (over o (operator_out o s)) previous begin start rest
    operator_over o rest begin start t b g c w =
        subst (λ z. Going e limit subject prefix (cond z (After (operator_out o s)) (cond (too_many o) (TooDeep (operator_out o s)) (On (operator_out o s)))) previous begin start rest) (sym (text_token (OfOperator o) (x ∷ xs) ∙ t))
        (either e limit subject prefix (too_many o) _ _ previous begin start rest
        (λ h. record { it = operator_deep o rest b g c w h })
        (λ h. ends_piece x xs done (Piece.Operator o) mid rest begin start (operator_out o s) p
        (record { written = w; fits = operator_fits o rest b g c; level = refl; compound = too_many_is o ∙ h }) (text_token (OfOperator o) (x ∷ xs) ∙ t)
        (ap (kept limit (with_token (OfOperator o) (x ∷ xs)) (done ++ Piece.Operator o ∷ [])) (levels_taken (OfOperator o) (x ∷ xs)))))

    pub grow_sound : (o : Operator) (rest begin start : List ℕ) → is_text x ≡ false → between_tokens x ≡ true → is_more o x ≡ false → Written e (plain (operator_text o)) mid rest
        → Going e limit subject prefix (grow o s) previous begin start rest
    grow_sound o rest begin start t b c w =
        either e limit subject prefix (may_grow o) _ _ previous begin start rest
        (λ h. begins_piece (x ∷ xs) done (Pending.Operator o) [] mid begin start rest p (refl, b, h, w) tt)
        (λ h. operator_over o rest begin start t b h c w)
