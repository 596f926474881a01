-- What each character makes of a piece that has begun is as the definition has it.
use Rattle.std.proofs.Common.{◌≡◌, inl, ℕ, suc, Bool, true, false, ◌&&◌, not, nat_eq, nat_lt, List, [], ◌∷◌, ◌++◌, Option, Some, None, refl, sym, ap, ◌∙◌, subst, append_assoc, cond, eqb-true}
use Rattle.std.specs.List.{list_all}
use Rattle.std.proofs.lemmas.List.{append-nil}
use Rattle.sh_base.specs.Names.{is_name, begins_name, continues_name}
use Rattle.sh_token_scanner.proofs.Bodies.{Stands, Further, on, over, further, some_dropped}
use Rattle.sh_token_pieces.specs.Here.{lines, are_bodies}
use Rattle.sh_token_pieces.specs.declared.character.Character.{Character}
use Rattle.sh_token_pieces.specs.declared.character.Character.TheVariants.{Plain, Quoted, Raw}
use Rattle.sh_token_pieces.specs.declared.head.Head.{Head}
use Rattle.sh_token_pieces.specs.declared.operator.Operator.{Operator}
use Rattle.sh_token_pieces.specs.declared.context.Context.{Context}
use Rattle.sh_token_pieces.specs.declared.context.Context.TheVariants.{Top, Commands, Word, Quotes, Braces, Arithmetic, Parenthesis, Body}
use Rattle.sh_token_pieces.specs.declared.piece.Piece.{Piece}
use Rattle.sh_token_pieces.specs.declared.piece.Piece.TheVariants.{Byte, SingleQuoted, Dollar, Variable, Parameter, BraceOpen, ArithmeticOpen, ArithmeticClose, CommandsOpen, Backquoted, Comment, Bodies}
use Rattle.sh_token_pieces.specs.declared.pending.Pending.{Pending}
use Rattle.sh_token_pieces.specs.Bytes.{is_short_parameter, is_form, is_no_quote, is_no_newline}
use Rattle.sh_token_pieces.specs.Characters.{joins, Reads, Written, plain, raw, Ahead, Next, ahead, next_is}
use Rattle.sh_token_pieces.specs.Operators.{operator_text}
use Rattle.sh_token_pieces.specs.Growth.{longer_operator, may_grow}
use Rattle.sh_token_pieces.specs.Heads.{grown_head, head_step, head_of, grows_head}
use Rattle.sh_token_pieces.specs.Pendings.{is_raw}
use Rattle.sh_token_pieces.specs.Nested.{none_yet}
use Rattle.sh_token_pieces.specs.Pieces.{stands, IsPiece, behind, ends_token, in_word, is_text, top_of, between_tokens, is_quoted, is_arithmetic, has_single_quotes, is_backquoted, is_head, braces_of, behind_byte, levels, is_some, ends_operator, ends_comment, with_token, is_more, has_due, due_in}
use Rattle.sh_token_pieces.specs.TokenClasses.{OfOperator, OfBodies, class_of_operator}
use Rattle.sh_token_grammar.specs.Levels.{begins_compound}
use Rattle.sh_token.specs.Tokens.{OpensLevel, braces, parenthesis}
use Rattle.sh_token_scanner.specs.Machine.{State, Stepped, On, Before, TooDeep, opens, at_dollar, grow_to, then_act, act, plain_byte, quoted_byte, form_byte, after_dollar, after_parenthesis, in_name, head_byte, in_head, in_single, in_backquotes, in_escape, at_parenthesis, in_operator, in_comment, step, operator_out, same, into, out_level, level_over, in_body, bodies_out}
use Rattle.sh_token_scanner.proofs.Running.{begin_of, is_raw_character}
use Rattle.sh_token_scanner.proofs.Tests.{and_both, and_left, not_false, text_token, levels_taken, levels_opened, more_none}
use Rattle.sh_token_scanner.proofs.Leads.{begun, kept, settled}
use Rattle.sh_token_scanner.proofs.Pieces.{before, arithmetic_level}
use Rattle.sh_token.proofs.Paths.{Subject, IsBlank, Path, DeepHere, deep_here, Going, either, no_join_at, pending_levels, Held, Preceded, preceded_more}
use Rattle.sh_token_scanner.proofs.Growing.{growing_begins_none, grown_text, growing_no_right, grown_no_right, growing_no_newline, grown_no_newline}
use Rattle.sh_token.proofs.Steps.{written_snoc, plain_snoc, raw_snoc, all_snoc, name_snoc, head_snoc, no_more, plain_sound, quoted_sound, then_sound}
use Rattle.sh_token.proofs.Sound.{ahead_plain, ahead_quoted, plain_at, ends_piece, begins_piece, grow_sound}

not_here : (b c : ℕ) (next : Ahead) → nat_eq b c ≡ false → next ≡ Next (Plain b) → next_is (λ z. nat_eq z c) next ≡ false
not_here b c next h w = ap (next_is (λ z. nat_eq z c)) w ∙ h

not_next : (f : ℕ → Bool) (b : ℕ) (next : Ahead) → f b ≡ false → next ≡ Next (Plain b) → not (next_is f next) ≡ true
not_next f b next h w = not_false (next_is f next) (ap (next_is f) w ∙ h)

not_quoted : (f : ℕ → Bool) (b : ℕ) (next : Ahead) → next ≡ Next (Quoted b) → not (next_is f next) ≡ true
not_quoted f b next w = not_false (next_is f next) (ap (next_is f) w)

-- a `)` for itself in arithmetic
single_right : (x : Context) (next : Ahead) → is_arithmetic x ≡ true → not (next_is (λ z. nat_eq z 41) next) ≡ true → stands x 41 next ≡ true
single_right Top next a h = absurd (cc)
single_right (Commands ts) next a h = absurd (cc)
single_right (Word n) next a h = absurd (cc)
single_right Quotes next a h = absurd (cc)
single_right (Braces q) next a h = absurd (cc)
single_right Arithmetic next a h = h
single_right Parenthesis next a h = absurd (cc)
single_right Body next a h = absurd (cc)

right_stays : (x : Context) (xs : List Context) → is_arithmetic x ≡ true → behind_byte 41 x xs ≡ x ∷ xs
right_stays Top xs a = refl
right_stays (Commands ts) xs a = refl
right_stays (Word n) xs a = refl
right_stays Quotes xs a = refl
right_stays (Braces q) xs a = refl
right_stays Arithmetic xs a = refl
right_stays Parenthesis xs a = absurd (cc)
right_stays Body xs a = absurd (cc)

no_form : (b : ℕ) → begins_name b ≡ false → is_short_parameter b ≡ false → nat_eq b 123 ≡ false → nat_eq b 40 ≡ false → is_form b ≡ false
no_form b h i j k = rw (h, i, j, k) refl

module _ (e : Bool) (limit : ℕ) (subject : Subject) (prefix : List ℕ) (blank : IsBlank subject) (previous : List ℕ) (x : Context) (xs : List Context) (done : List Piece) (mid m : List ℕ)
    (p : Path e limit subject prefix done (x ∷ xs) mid) where
  abbrev lv : ℕ
  lv = levels (x ∷ xs)

  abbrev begin_at : Pending → List ℕ → State
  begin_at q acc = begun limit (x ∷ xs) done (pending_levels q lv) q acc

  abbrev Goes : Stepped → Character → List ℕ → Type 0
  Goes y c rest = Going e limit subject prefix y previous (begin_of c rest) m rest

  -- a piece goes on
  held_on : (q : Pending) (acc : List ℕ) (c : Character) (rest : List ℕ) → Held e limit q (x ∷ xs) acc mid rest → Preceded q acc (begin_of c rest) rest → Goes (On (begin_at q acc)) c rest
  held_on q acc c rest h r = begins_piece e limit subject prefix blank previous (x ∷ xs) done q acc mid (begin_of c rest) m rest p h r

  -- it is over with this character
  ended : (k : Piece) (c : Character) (rest : List ℕ) (t : State) → IsPiece e limit done x xs k mid rest → ends_token k (behind done x xs k) ≡ false → t ≡ settled limit (done ++ k ∷ []) (behind done x xs k) → Goes (On t) c rest
  ended k c rest t i h w = ends_piece e limit subject prefix blank previous x xs done k mid rest (begin_of c rest) m t p i h w

  -- it is over before this character
  over_before : (k : Piece) (c : Character) (rest : List ℕ) (t : State) → IsPiece e limit done x xs k mid m → ends_token k (behind done x xs k) ≡ false → is_raw_character c ≡ false → Reads e c m rest
      → settled limit (done ++ k ∷ []) (behind done x xs k) ≡ t → Goes (act t c) c rest
  over_before k c rest t i h r f w = then_sound e limit subject prefix blank previous x xs done k mid m rest c t p i h r f w

  -- behind a dollar
  level_deep : (q : Pending) (c : ℕ) (rest : List ℕ) → in_word x ≡ true → (nat_lt lv limit ≡ true → Goes (On (begun limit (x ∷ xs) done (suc lv) q [])) (Plain c) rest) → Written e (Plain 36 ∷ []) mid m → previous ≡ 36 ∷ m
      → OpensLevel e (36 ∷ m) → Goes (at_dollar (opens q (begin_at Pending.Dollar []))) (Plain c) rest
  level_deep q c rest w f v r o = go (nat_lt lv limit) refl
    where
      go : (d : Bool) → nat_lt lv limit ≡ d
          → Going e limit subject prefix (at_dollar (cond d (On (begun limit (x ∷ xs) done (suc lv) q [])) (TooDeep (begin_at Pending.Dollar [])))) previous (c ∷ rest) m rest
      go true h = f h
      go false h =
          record {
            it = subst (λ z. DeepHere e limit subject prefix z) (sym r)
                (deep_here e limit subject prefix done (x ∷ xs) mid (36 ∷ m) p h w (record { lines = v.1.0; is = v.1.1 ∙ ap (λ z. joins v.1.0 ++ 36 ∷ z) v.2; over = no_join_at 36 m refl }) o);
          }

  pub dollar_piece : in_word x ≡ true → not (next_is is_form (ahead e m)) ≡ true → Written e (Plain 36 ∷ []) mid m → IsPiece e limit done x xs Dollar mid m
  dollar_piece w h v = record { written = v; fits = and_both (in_word x) (not (next_is is_form (ahead e m))) w h; level = refl; compound = refl }

  dollar_plain : (b : ℕ) (rest : List ℕ) → in_word x ≡ true → Written e (Plain 36 ∷ []) mid m → previous ≡ 36 ∷ m → Reads e (Plain b) m rest → Goes (form_byte (begin_at Pending.Dollar []) b) (Plain b) rest
  dollar_plain b rest w v r f =
      either e limit subject prefix (begins_name b) _ _ previous (b ∷ rest) m rest
      (λ h. held_on Pending.Name (b ∷ []) (Plain b) rest (and_both (begins_name b) true h refl, w, written_snoc e (Plain 36 ∷ []) (Plain b) mid m rest v f) tt)
      (λ hn. either e limit subject prefix (is_short_parameter b) _ _ previous (b ∷ rest) m rest
      (λ h. ended (Parameter b) (Plain b) rest (same (Parameter b) (begin_at Pending.Dollar []))
      (record { written = written_snoc e (Plain 36 ∷ []) (Plain b) mid m rest v f; fits = and_both (in_word x) (is_short_parameter b) w h; level = refl; compound = refl }) refl refl)
      (λ hs. either e limit subject prefix (nat_eq b 123) _ _ previous (b ∷ rest) m rest
      (λ h. let g = plain_at e b 123 m rest h f in
      level_deep (Pending.Head Head.Start) b rest w
      (λ l. held_on (Pending.Head Head.Start) [] (Plain b) rest (refl, w, l, written_snoc e (Plain 36 ∷ []) (Plain 123) mid m rest v g) tt) v r (braces rest (m, (0, refl, inl refl), (rest, g, refl))))
      (λ hb. either e limit subject prefix (nat_eq b 40) _ _ previous (b ∷ rest) m rest
      (λ h. let g = plain_at e b 40 m rest h f in
      level_deep Pending.DollarParenthesis b rest w
      (λ l. held_on Pending.DollarParenthesis [] (Plain b) rest (refl, w, l, written_snoc e (Plain 36 ∷ []) (Plain 40) mid m rest v g) tt) v r (parenthesis rest (m, (0, refl, inl refl), (rest, g, refl))))
      (λ hp. over_before Dollar (Plain b) rest (same Dollar (begin_at Pending.Dollar [])) (dollar_piece w (not_next is_form b (ahead e m) (no_form b hn hs hb hp) (ahead_plain e b m rest f)) v) refl refl f refl))))

  dollar_sound : (c : Character) (rest : List ℕ) → is_raw_character c ≡ false → in_word x ≡ true → Written e (Plain 36 ∷ []) mid m → previous ≡ 36 ∷ m → Reads e c m rest
      → Goes (after_dollar (begin_at Pending.Dollar []) c) c rest
  unfolding after_dollar
  dollar_sound (Plain b) rest k w v r f = dollar_plain b rest w v r f
  dollar_sound (Quoted b) rest k w v r f =
      over_before Dollar (Quoted b) rest (same Dollar (begin_at Pending.Dollar [])) (dollar_piece w (not_quoted is_form b (ahead e m) (ahead_quoted e b m rest f)) v) refl refl f refl
  dollar_sound (Raw b) rest k w v r f = absurd (cc)

  opened_level : nat_lt lv limit ≡ true → (true && not (nat_lt lv limit)) ≡ false
  opened_level l = rw l refl

  commands_piece : in_word x ≡ true → nat_lt lv limit ≡ true → not (next_is (λ z. nat_eq z 40) (ahead e m)) ≡ true → Written e (Plain 36 ∷ Plain 40 ∷ []) mid m → IsPiece e limit done x xs CommandsOpen mid m
  commands_piece w l h v = record { written = v; fits = and_both (in_word x) (not (next_is (λ z. nat_eq z 40) (ahead e m))) w h; level = opened_level l; compound = refl }

  commands_state : settled limit (done ++ CommandsOpen ∷ []) (Commands none_yet ∷ x ∷ xs) ≡ into (Commands none_yet) CommandsOpen (begin_at Pending.DollarParenthesis [])
  commands_state = ap (kept limit (Commands none_yet ∷ x ∷ xs) (done ++ CommandsOpen ∷ [])) (levels_opened lv)

  parenthesis_sound : (c : Character) (rest : List ℕ) → is_raw_character c ≡ false → in_word x ≡ true → nat_lt lv limit ≡ true → Written e (Plain 36 ∷ Plain 40 ∷ []) mid m → Reads e c m rest
      → Goes (after_parenthesis (begin_at Pending.DollarParenthesis []) c) c rest
  unfolding after_parenthesis
  parenthesis_sound (Plain b) rest k w l v f =
      either e limit subject prefix (nat_eq b 40) _ _ previous (b ∷ rest) m rest
      (λ h. ended ArithmeticOpen (Plain b) rest (into Arithmetic ArithmeticOpen (begin_at Pending.DollarParenthesis []))
      (record { written = written_snoc e (Plain 36 ∷ Plain 40 ∷ []) (Plain 40) mid m rest v (plain_at e b 40 m rest h f); fits = w; level = opened_level l; compound = refl }) refl refl)
      (λ h. over_before CommandsOpen (Plain b) rest (into (Commands none_yet) CommandsOpen (begin_at Pending.DollarParenthesis []))
      (commands_piece w l (not_next (λ z. nat_eq z 40) b (ahead e m) h (ahead_plain e b m rest f)) v) refl refl f commands_state)
  parenthesis_sound (Quoted b) rest k w l v f =
      over_before CommandsOpen (Quoted b) rest (into (Commands none_yet) CommandsOpen (begin_at Pending.DollarParenthesis []))
      (commands_piece w l (not_quoted (λ z. nat_eq z 40) b (ahead e m) (ahead_quoted e b m rest f)) v) refl refl f commands_state
  parenthesis_sound (Raw b) rest k w l v f = absurd (cc)

  pub name_piece : (acc : List ℕ) → is_name acc ≡ true → in_word x ≡ true → not (next_is continues_name (ahead e m)) ≡ true → Written e (Plain 36 ∷ plain acc) mid m → IsPiece e limit done x xs (Variable acc) mid m
  name_piece acc n w h v =
      record { written = v; fits = and_both (in_word x) (is_name acc && not (next_is continues_name (ahead e m))) w (and_both (is_name acc) (not (next_is continues_name (ahead e m))) n h); level = refl; compound = refl }

  name_sound : (acc : List ℕ) (c : Character) (rest : List ℕ) → is_raw_character c ≡ false → is_name acc ≡ true → in_word x ≡ true → Written e (Plain 36 ∷ plain acc) mid m → Reads e c m rest
      → Goes (in_name (begin_at Pending.Name acc) c) c rest
  unfolding in_name
  name_sound acc (Plain b) rest k n w v f =
      either e limit subject prefix (continues_name b) _ _ previous (b ∷ rest) m rest
      (λ h. held_on Pending.Name (acc ++ b ∷ []) (Plain b) rest
      (name_snoc acc b n h, w, subst (λ z. Written e (Plain 36 ∷ z) mid rest) (plain_snoc acc b) (written_snoc e (Plain 36 ∷ plain acc) (Plain b) mid m rest v f)) tt)
      (λ h. over_before (Variable acc) (Plain b) rest (same (Variable acc) (begin_at Pending.Name acc)) (name_piece acc n w (not_next continues_name b (ahead e m) h (ahead_plain e b m rest f)) v) refl refl f refl)
  name_sound acc (Quoted b) rest k n w v f =
      over_before (Variable acc) (Quoted b) rest (same (Variable acc) (begin_at Pending.Name acc)) (name_piece acc n w (not_quoted continues_name b (ahead e m) (ahead_quoted e b m rest f)) v) refl refl f refl
  name_sound acc (Raw b) rest k n w v f = absurd (cc)

  head_piece : (h : Head) (acc : List ℕ) → head_of acc ≡ Some h → in_word x ≡ true → nat_lt lv limit ≡ true → not (next_is (grows_head h) (ahead e m)) ≡ true → Written e (Plain 36 ∷ Plain 123 ∷ plain acc) mid m
      → IsPiece e limit done x xs (BraceOpen acc) mid m
  head_piece h acc n w l g v =
      record { written = v; fits = and_both (in_word x) (is_head (head_of acc) (ahead e m)) w (ap (λ z. is_head z (ahead e m)) n ∙ g); level = opened_level l; compound = refl }

  head_over : (h : Head) (acc : List ℕ) (c : Character) (rest : List ℕ) → is_raw_character c ≡ false → head_of acc ≡ Some h → in_word x ≡ true → nat_lt lv limit ≡ true
      → not (next_is (grows_head h) (ahead e m)) ≡ true → Written e (Plain 36 ∷ Plain 123 ∷ plain acc) mid m → Reads e c m rest
      → Goes (act (into (braces_of (is_quoted x) (Some h)) (BraceOpen acc) (begin_at (Pending.Head h) acc)) c) c rest
  head_over h acc c rest k n w l g v f =
      over_before (BraceOpen acc) c rest (into (braces_of (is_quoted x) (Some h)) (BraceOpen acc) (begin_at (Pending.Head h) acc)) (head_piece h acc n w l g v) refl k f
      (ap (λ z. settled limit (done ++ BraceOpen acc ∷ []) (braces_of (is_quoted x) z ∷ x ∷ xs)) n)

  head_sound : (h : Head) (acc : List ℕ) (c : Character) (rest : List ℕ) → is_raw_character c ≡ false → head_of acc ≡ Some h → in_word x ≡ true → nat_lt lv limit ≡ true
      → Written e (Plain 36 ∷ Plain 123 ∷ plain acc) mid m → Reads e c m rest → Goes (in_head h (begin_at (Pending.Head h) acc) c) c rest
  unfolding in_head
  head_sound h acc (Plain b) rest k n w l v f = go (grown_head h b) refl
    where
      go : (y : Option Head) → grown_head h b ≡ y → Goes (head_byte h (begin_at (Pending.Head h) acc) b y) (Plain b) rest
      go (Some g) i =
          held_on (Pending.Head g) (acc ++ b ∷ []) (Plain b) rest (
            head_snoc (Some Head.Start) acc b ∙ (ap (λ z. head_step z b) n ∙ i),
            w,
            l,
            subst (λ z. Written e (Plain 36 ∷ Plain 123 ∷ z) mid rest) (plain_snoc acc b) (written_snoc e (Plain 36 ∷ Plain 123 ∷ plain acc) (Plain b) mid m rest v f),
          ) tt
      go None i = head_over h acc (Plain b) rest refl n w l (not_next (grows_head h) b (ahead e m) (no_more h b i) (ahead_plain e b m rest f)) v f
  head_sound h acc (Quoted b) rest k n w l v f = head_over h acc (Quoted b) rest refl n w l (not_quoted (grows_head h) b (ahead e m) (ahead_quoted e b m rest f)) v f
  head_sound h acc (Raw b) rest k n w l v f = absurd (cc)

  single_sound : (acc : List ℕ) (c : Character) (rest : List ℕ) → is_raw_character c ≡ true → list_all is_no_quote acc ≡ true → has_single_quotes x ≡ true → Written e (Plain 39 ∷ raw acc) mid m → Reads e c m rest
      → Goes (in_single (begin_at Pending.Single acc) c) c rest
  unfolding in_single
  single_sound acc (Plain b) rest k n w v f = absurd (cc)
  single_sound acc (Quoted b) rest k n w v f = absurd (cc)
  single_sound acc (Raw b) rest k n w v f =
      either e limit subject prefix (nat_eq b 39) _ _ previous (b ∷ rest) m rest
      (λ h. ended (SingleQuoted acc) (Raw b) rest (same (SingleQuoted acc) (begin_at Pending.Single acc))
      (record {
        written = subst (λ z. Written e (Plain 39 ∷ (raw acc ++ Raw z ∷ [])) mid rest) (eqb-true b 39 h) (written_snoc e (Plain 39 ∷ raw acc) (Raw b) mid m rest v f);
        fits = and_both (has_single_quotes x) (list_all is_no_quote acc) w n;
        level = refl;
        compound = refl;
      }) refl refl)
      (λ h. held_on Pending.Single (acc ++ b ∷ []) (Raw b) rest
      (all_snoc is_no_quote acc b n (not_false (nat_eq b 39) h), w, subst (λ z. Written e (Plain 39 ∷ z) mid rest) (raw_snoc acc b) (written_snoc e (Plain 39 ∷ raw acc) (Raw b) mid m rest v f)) tt)

  more_raw : (acc : List ℕ) (b : ℕ) (rest : List ℕ) → Written e (Plain 96 ∷ raw acc) mid m → Reads e (Raw b) m rest → Written e (Plain 96 ∷ raw (acc ++ b ∷ [])) mid rest
  more_raw acc b rest v f = subst (λ z. Written e (Plain 96 ∷ z) mid rest) (raw_snoc acc b) (written_snoc e (Plain 96 ∷ raw acc) (Raw b) mid m rest v f)

  -- one byte more between backquotes
  back_more : (b : ℕ) (bs : List ℕ) → nat_eq b 96 ≡ false → nat_eq b 92 ≡ false → is_backquoted (b ∷ bs) ≡ is_backquoted bs
  back_more b [] h g = rw (h, g) refl
  back_more b (c ∷ bs) h g = rw (g, h) refl

  back_pair : (b c : ℕ) (bs : List ℕ) → nat_eq b 92 ≡ true → is_backquoted (b ∷ c ∷ bs) ≡ is_backquoted bs
  back_pair b c bs h = rw h refl

  back_sound : (acc : List ℕ) (c : Character) (rest : List ℕ) → is_raw_character c ≡ true → ((bs : List ℕ) → is_backquoted (acc ++ bs) ≡ is_backquoted bs) → in_word x ≡ true → nat_lt lv limit ≡ true
      → Written e (Plain 96 ∷ raw acc) mid m → Reads e c m rest → Goes (in_backquotes (begin_at Pending.Backquotes acc) c) c rest
  unfolding in_backquotes
  back_sound acc (Plain b) rest k n w l v f = absurd (cc)
  back_sound acc (Quoted b) rest k n w l v f = absurd (cc)
  back_sound acc (Raw b) rest k n w l v f =
      either e limit subject prefix (nat_eq b 96) _ _ previous (b ∷ rest) m rest
      (λ h. ended (Backquoted acc) (Raw b) rest (level_over (Backquoted acc) (begin_at Pending.Backquotes acc))
      (record {
        written = subst (λ z. Written e (Plain 96 ∷ (raw acc ++ Raw z ∷ [])) mid rest) (eqb-true b 96 h) (written_snoc e (Plain 96 ∷ raw acc) (Raw b) mid m rest v f);
        fits = and_both (in_word x) (is_backquoted acc) w (ap is_backquoted (sym (append-nil acc)) ∙ n []);
        level = opened_level l;
        compound = refl;
      }) refl (ap (kept limit (x ∷ xs) (done ++ Backquoted acc ∷ [])) (before lv)))
      (λ h96. either e limit subject prefix (nat_eq b 92) _ _ previous (b ∷ rest) m rest
      (λ h. held_on Pending.BackquotesEscape (acc ++ b ∷ []) (Raw b) rest
      ((λ c bs. ap is_backquoted (append_assoc acc (b ∷ []) (c ∷ bs)) ∙ (n (b ∷ c ∷ bs) ∙ back_pair b c bs h)), w, l, more_raw acc b rest v f) tt)
      (λ h92. held_on Pending.Backquotes (acc ++ b ∷ []) (Raw b) rest
      ((λ bs. ap is_backquoted (append_assoc acc (b ∷ []) bs) ∙ (n (b ∷ bs) ∙ back_more b bs h96 h92)), w, l, more_raw acc b rest v f) (preceded_more acc b (b ∷ rest) rest)))

  pair_sound : (acc : List ℕ) (c : Character) (rest : List ℕ) → is_raw_character c ≡ true → ((b : ℕ) (bs : List ℕ) → is_backquoted (acc ++ b ∷ bs) ≡ is_backquoted bs) → in_word x ≡ true → nat_lt lv limit ≡ true
      → Written e (Plain 96 ∷ raw acc) mid m → Reads e c m rest → Goes (in_escape (begin_at Pending.BackquotesEscape acc) c) c rest
  pair_sound acc (Plain b) rest k n w l v f = absurd (cc)
  pair_sound acc (Quoted b) rest k n w l v f = absurd (cc)
  pair_sound acc (Raw b) rest k n w l v f =
      held_on Pending.Backquotes (acc ++ b ∷ []) (Raw b) rest ((λ bs. ap is_backquoted (append_assoc acc (b ∷ []) bs) ∙ n b bs), w, l, more_raw acc b rest v f) (preceded_more acc b (b ∷ rest) rest)

  right_piece : is_arithmetic x ≡ true → not (next_is (λ z. nat_eq z 41) (ahead e m)) ≡ true → Written e (Plain 41 ∷ []) mid m → IsPiece e limit done x xs (Byte 41) mid m
  right_piece a h v = record { written = v; fits = single_right x (ahead e m) a h; level = refl; compound = refl }

  right_sound : (c : Character) (rest : List ℕ) → is_raw_character c ≡ false → is_arithmetic x ≡ true → Written e (Plain 41 ∷ []) mid m → Reads e c m rest
      → Goes (at_parenthesis (begin_at Pending.Parenthesis []) c) c rest
  unfolding at_parenthesis
  right_sound (Plain b) rest k a v f =
      either e limit subject prefix (nat_eq b 41) _ _ previous (b ∷ rest) m rest
      (λ h. ended ArithmeticClose (Plain b) rest (out_level ArithmeticClose (begin_at Pending.Parenthesis []))
      (record { written = written_snoc e (Plain 41 ∷ []) (Plain 41) mid m rest v (plain_at e b 41 m rest h f); fits = a; level = refl; compound = refl }) refl
      (ap (kept limit xs (done ++ ArithmeticClose ∷ [])) (arithmetic_level x xs a)))
      (λ h. over_before (Byte 41) (Plain b) rest (same (Byte 41) (begin_at Pending.Parenthesis [])) (right_piece a (not_next (λ z. nat_eq z 41) b (ahead e m) h (ahead_plain e b m rest f)) v) refl refl f
      (ap (settled limit (done ++ Byte 41 ∷ [])) (right_stays x xs a)))
  right_sound (Quoted b) rest k a v f =
      over_before (Byte 41) (Quoted b) rest (same (Byte 41) (begin_at Pending.Parenthesis [])) (right_piece a (not_quoted (λ z. nat_eq z 41) b (ahead e m) (ahead_quoted e b m rest f)) v) refl refl f
      (ap (settled limit (done ++ Byte 41 ∷ [])) (right_stays x xs a))
  right_sound (Raw b) rest k a v f = absurd (cc)

  operator_piece : (o : Operator) → between_tokens x ≡ true → may_grow o ≡ true → ends_operator o (ahead e m) ≡ true → Written e (plain (operator_text o)) mid m → IsPiece e limit done x xs (Piece.Operator o) mid m
  operator_piece o i g h v =
      record {
        written = v;
        fits = and_both (between_tokens x) (ends_operator o (ahead e m) && not (is_more o x)) i
            (and_both (ends_operator o (ahead e m)) (not (is_more o x)) h
            (not_false (is_more o x) (more_none o x (growing_no_right o g) (growing_no_newline o g))));
        level = refl;
        compound = and_left (begins_compound (class_of_operator o)) (nat_lt limit (levels (with_token (OfOperator o) (x ∷ xs)))) (growing_begins_none o g);
      }

  operator_before : (o : Operator) (c : Character) (rest : List ℕ) → is_raw_character c ≡ false → between_tokens x ≡ true → may_grow o ≡ true → ends_operator o (ahead e m) ≡ true
      → Written e (plain (operator_text o)) mid m → Reads e c m rest → Goes (then_act (operator_out o (begin_at (Pending.Operator o) [])) c) c rest
  operator_before o c rest k i g h v f =
      let t : is_text (top_of (with_token (OfOperator o) (x ∷ xs))) ≡ false = text_token (OfOperator o) (x ∷ xs) ∙ p.inside.inner in
      subst (λ z. Goes (cond z (Before (operator_out o (begin_at (Pending.Operator o) []))) (act (operator_out o (begin_at (Pending.Operator o) [])) c)) c rest) (sym t)
      (over_before (Piece.Operator o) c rest (operator_out o (begin_at (Pending.Operator o) [])) (operator_piece o i g h v) t k f
      (ap (kept limit (with_token (OfOperator o) (x ∷ xs)) (done ++ Piece.Operator o ∷ [])) (sym (levels_taken (OfOperator o) (x ∷ xs)))))

  operator_sound : (o : Operator) (c : Character) (rest : List ℕ) → is_raw_character c ≡ false → between_tokens x ≡ true → may_grow o ≡ true → Written e (plain (operator_text o)) mid m → Reads e c m rest
      → Goes (in_operator o (begin_at (Pending.Operator o) []) c) c rest
  unfolding in_operator
  operator_sound o (Plain b) rest k i g v f = go (longer_operator o b) refl
    where
      go : (y : Option Operator) → longer_operator o b ≡ y → Goes (grow_to o y (begin_at (Pending.Operator o) []) b) (Plain b) rest
      go (Some longer) h =
          grow_sound e limit subject prefix blank previous x xs done mid p longer rest (b ∷ rest) m p.inside.inner i (more_none longer x (grown_no_right o longer b g h) (grown_no_newline o longer b g h))
          (subst (λ z. Written e z mid rest) (plain_snoc (operator_text o) b ∙ ap plain (sym (grown_text o longer b h))) (written_snoc e (plain (operator_text o)) (Plain b) mid m rest v f))
      go None h = operator_before o (Plain b) rest refl i g (ap (ends_operator o) (ahead_plain e b m rest f) ∙ ap (λ z. not (is_some z)) h) v f
  operator_sound o (Quoted b) rest k i g v f = operator_before o (Quoted b) rest refl i g (ap (ends_operator o) (ahead_quoted e b m rest f)) v f
  operator_sound o (Raw b) rest k i g v f = absurd (cc)

  comment_sound : (acc : List ℕ) (c : Character) (rest : List ℕ) → is_raw_character c ≡ true → list_all is_no_newline acc ≡ true → between_tokens x ≡ true → Written e (Plain 35 ∷ raw acc) mid m → Reads e c m rest
      → Goes (in_comment (begin_at Pending.Comment acc) c) c rest
  unfolding in_comment
  comment_sound acc (Plain b) rest k n i v f = absurd (cc)
  comment_sound acc (Quoted b) rest k n i v f = absurd (cc)
  comment_sound acc (Raw b) rest k n i v f =
      either e limit subject prefix (nat_eq b 10) _ _ previous (b ∷ rest) m rest
      (λ h. let z = eqb-true b 10 h in
      let g : m ≡ 10 ∷ rest = f ∙ ap (λ y. y ∷ rest) z in
      subst (λ y. Goes (plain_byte (same (Comment acc) (begin_at Pending.Comment acc)) y) (Raw y) rest) (sym z)
      (over_before (Comment acc) (Plain 10) rest (same (Comment acc) (begin_at Pending.Comment acc))
      (record {
        written = v;
        fits = and_both (between_tokens x) (list_all is_no_newline acc && ends_comment e m) i (and_both (list_all is_no_newline acc) (ends_comment e m) n (ap (ends_comment e) g));
        level = refl;
        compound = refl;
      }) refl refl (0, g, inl refl) refl))
      (λ h. held_on Pending.Comment (acc ++ b ∷ []) (Raw b) rest
      (all_snoc is_no_newline acc b n (not_false (nat_eq b 10) h), i, subst (λ z. Written e (Plain 35 ∷ z) mid rest) (raw_snoc acc b) (written_snoc e (Plain 35 ∷ raw acc) (Raw b) mid m rest v f)) tt)

  body_sound : (l n : ℕ) (j : Bool) (acc : List ℕ) (c : Character) (rest : List ℕ) → is_raw_character c ≡ true → Stands (due_in x) l n j acc → Written e (Plain 10 ∷ raw acc) mid m → Reads e c m rest
      → Goes (in_body l n j (begin_at (Pending.Body l n j) acc) c) c rest
  body_sound l n j acc (Plain b) rest k r v f = absurd (cc)
  body_sound l n j acc (Quoted b) rest k r v f = absurd (cc)
  body_sound l n j acc (Raw b) rest k r v f = go (further limit x xs done lv l n j acc r b)
    where
      more : Written e (Plain 10 ∷ raw (acc ++ b ∷ [])) mid rest
      more = subst (λ z. Written e (Plain 10 ∷ z) mid rest) (raw_snoc acc b) (written_snoc e (Plain 10 ∷ raw acc) (Raw b) mid m rest v f)

      go : Further limit x xs done lv l n j acc b → Goes (in_body l n j (begin_at (Pending.Body l n j) acc) (Raw b)) (Raw b) rest
      go (on i o q s g) = subst (λ z. Goes z (Raw b) rest) (sym g) (held_on (Pending.Body i o q) (acc ++ b ∷ []) (Raw b) rest (s, more) tt)
      go (over t q g) =
          subst (λ z. Goes z (Raw b) rest) (sym g)
          (ended (Bodies (acc ++ 10 ∷ [])) (Raw b) rest (bodies_out (begin_at (Pending.Body l n j) acc))
          (record {
            written = subst (λ z. Written e (Plain 10 ∷ raw (acc ++ z ∷ [])) mid rest) t more;
            fits = and_both (has_due x) (are_bodies (due_in x) false (lines [] (acc ++ 10 ∷ []))) (some_dropped n (due_in x) r.awaits)
                (subst (λ z. are_bodies (due_in x) false (lines [] (acc ++ z ∷ [])) ≡ true) t (q []));
            level = refl;
            compound = refl;
          }) refl (ap (kept limit (with_token OfBodies (x ∷ xs)) (done ++ Bodies (acc ++ 10 ∷ []) ∷ [])) (levels_taken OfBodies (x ∷ xs))))

  nothing_sound : (c : Character) (rest : List ℕ) → is_raw_character c ≡ false → mid ≡ m → Reads e c m rest → Goes (act (settled limit done (x ∷ xs)) c) c rest
  nothing_sound (Plain b) rest k w f =
      subst (λ z. Going e limit subject prefix (plain_byte (settled limit done (x ∷ xs)) b) previous (b ∷ rest) z rest) w (plain_sound e limit subject prefix blank previous x xs done mid b rest p (subst (λ z. Reads e (Plain b) z rest) (sym w) f))
  nothing_sound (Quoted b) rest k w f =
      subst (λ z. Going e limit subject prefix (quoted_byte (settled limit done (x ∷ xs)) b) previous (92 ∷ b ∷ rest) z rest) w (quoted_sound e limit subject prefix blank previous x xs done mid b rest p (subst (λ z. Reads e (Quoted b) z rest) (sym w) f))
  nothing_sound (Raw b) rest k w f = absurd (cc)

  -- what each character makes of it
  pub step_sound : (q : Pending) (acc : List ℕ) (c : Character) (rest : List ℕ) → is_raw q ≡ is_raw_character c → Held e limit q (x ∷ xs) acc mid m → Preceded q acc previous m → Reads e c m rest → Goes (step (begin_at q acc) c) c rest
  step_sound Pending.Nothing acc c rest k h r f = subst (λ a. Goes (step (begin_at Pending.Nothing a) c) c rest) (sym h.0) (nothing_sound c rest (sym k) h.1 f)
  step_sound Pending.Dollar acc c rest k h r f = subst (λ a. Goes (step (begin_at Pending.Dollar a) c) c rest) (sym h.0) (dollar_sound c rest (sym k) h.1 h.2 r f)
  step_sound Pending.DollarParenthesis acc c rest k h r f = subst (λ a. Goes (step (begin_at Pending.DollarParenthesis a) c) c rest) (sym h.0) (parenthesis_sound c rest (sym k) h.1 h.2 h.3 f)
  step_sound Pending.Name acc c rest k h r f = name_sound acc c rest (sym k) h.0 h.1 h.2 f
  step_sound (Pending.Head g) acc c rest k h r f = head_sound g acc c rest (sym k) h.0 h.1 h.2 h.3 f
  step_sound Pending.Single acc c rest k h r f = single_sound acc c rest (sym k) h.0 h.1 h.2 f
  step_sound Pending.Backquotes acc c rest k h r f = back_sound acc c rest (sym k) h.0 h.1 h.2 h.3 f
  step_sound Pending.BackquotesEscape acc c rest k h r f = pair_sound acc c rest (sym k) h.0 h.1 h.2 h.3 f
  step_sound Pending.Parenthesis acc c rest k h r f = subst (λ a. Goes (step (begin_at Pending.Parenthesis a) c) c rest) (sym h.0) (right_sound c rest (sym k) h.1 h.2 f)
  step_sound (Pending.Operator o) acc c rest k h r f = subst (λ a. Goes (step (begin_at (Pending.Operator o) a) c) c rest) (sym h.0) (operator_sound o c rest (sym k) h.1 h.2 h.3 f)
  step_sound Pending.Comment acc c rest k h r f = comment_sound acc c rest (sym k) h.0 h.1 h.2 f
  step_sound (Pending.Body l n j) acc c rest k h r f = body_sound l n j acc c rest (sym k) h.0 h.1 f
