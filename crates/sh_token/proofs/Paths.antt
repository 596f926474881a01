-- What has been read of a text, as pieces.
use Rattle.std.proofs.Common.{◌≡◌, ℕ, suc, Bool, true, false, ◌||◌, ◌&&◌, not, nat_eq, nat_lt, List, [], ◌∷◌, ◌++◌, length, drop, Option, Some, None, refl, sym, ap, ◌∙◌, subst, append_assoc, cond}
use Rattle.std.specs.List.{list_all}
use Rattle.std.proofs.lemmas.List.{append-nil}
use Rattle.sh_base.specs.Names.{is_name}
use Rattle.sh_token_pieces.specs.declared.character.Character.TheVariants.{Plain}
use Rattle.sh_token_pieces.specs.declared.context.Context.{Context}
use Rattle.sh_token_pieces.specs.declared.context.Context.TheVariants.{Top, Commands, Word, Quotes, Braces, Arithmetic, Parenthesis, Body}
use Rattle.sh_token_pieces.specs.declared.piece.Piece.{Piece}
use Rattle.sh_token_pieces.specs.declared.piece.Piece.TheVariants.{Byte, Escaped, Backslash, SingleQuoted, DoubleQuotesOpen, DoubleQuotesClose, Dollar, Variable, Parameter, BraceOpen, BraceClose, ArithmeticOpen, ArithmeticClose, CommandsOpen, CommandsClose, Backquoted, WordOpen, WordClose, Blank, Comment, Bodies}
use Rattle.sh_token_pieces.specs.declared.pending.Pending.{Pending}
use Rattle.sh_token_pieces.specs.Bytes.{is_no_quote, is_no_newline, is_redirection}
use Rattle.sh_token_pieces.specs.Characters.{Written, plain, raw, ahead, next_is}
use Rattle.sh_token_pieces.specs.Operators.{operator_text}
use Rattle.sh_token_pieces.specs.Growth.{may_grow}
use Rattle.sh_token_pieces.specs.declared.head.Head.{Head}
use Rattle.sh_token_pieces.specs.declared.operator.Operator.{Operator}
use Rattle.sh_token_pieces.specs.Heads.{head_of}
use Rattle.sh_token_pieces.specs.Pieces.{IsPiece, ArePieces, behind, contexts_behind, ends_token, ends_none, ends_word, same_as, in_word, is_text, is_body, is_word, top_of, between_tokens, is_arithmetic, is_parenthesis, behind_byte, is_quoted, braces_of, has_single_quotes, is_backquoted, is_gap, levels, due_in, with_token, word_over, word_begins}
use Rattle.sh_token_pieces.specs.TokenClasses.{Told, OfOperator, OfWord, OfBodies, class_of_word}
use Rattle.sh_token_grammar.specs.Levels.{begins_compound}
use Rattle.sh_token.specs.Tokens.{begins_join, Joined, IsToken, word, OpensLevel, Exceeds, OpensTooMany, form, operator}
use Rattle.sh_token_scanner.specs.Machine.{State, Stepped, On, Before, After, TooDeep, DollarTooDeep, WordTooDeep}
use Rattle.sh_token_scanner.specs.Run.{Scanned, Ended, Deep, Open}
use Rattle.sh_token.specs.Found.{kind_of}
use Rattle.sh_token_scanner.proofs.Bodies.{Stands}
use Rattle.sh_token_scanner.proofs.Tests.{and_true, and_both, not_false}
use Rattle.sh_token_scanner.proofs.Grounds.{free, free_contexts, never_text, never_body, no_token_over}
use Rattle.sh_token_scanner.proofs.Leads.{begun, settled}
use Rattle.sh_token_scanner.proofs.Inner.{Inside, inside_behind}
use Rattle.sh_token.proofs.Gaps.{behind_open, word_kind_of}
use Rattle.sh_token.proofs.WordStarts.{parts, contexts_parts, ends_prefix, word_placed}

-- one piece more
pub are_pieces_snoc : (e : Bool) (limit : ℕ) (ms done : List Piece) (xs : List Context) (x : Context) (ys : List Context) (m : Piece) (bytes mid after : List ℕ) → ArePieces e limit done xs ms bytes mid
    → contexts_behind done xs ms ≡ x ∷ ys → IsPiece e limit (done ++ ms) x ys m mid after → ArePieces e limit done xs (ms ++ m ∷ []) bytes after
are_pieces_snoc e limit [] done xs x ys m bytes mid after a k i =
    subst (λ z. ArePieces e limit done z (m ∷ []) bytes after) (sym k)
    (subst (λ b. ArePieces e limit done (x ∷ ys) (m ∷ []) b after) (sym a) (after, subst (λ d. IsPiece e limit d x ys m mid after) (append-nil done) i, refl))
are_pieces_snoc e limit (n ∷ ms) done [] x ys m bytes mid after a k i = absurd a
are_pieces_snoc e limit (n ∷ ms) done (z ∷ zs) x ys m bytes mid after a k i = (a.0, a.1, are_pieces_snoc e limit ms (done ++ n ∷ []) (behind done z zs n) x ys m a.0 mid after a.2 k (subst (λ d. IsPiece e limit d x ys m mid after) (sym (append_assoc done (n ∷ []) ms)) i))

pub contexts_snoc : (ms done : List Piece) (xs : List Context) (x : Context) (ys : List Context) (m : Piece) → contexts_behind done xs ms ≡ x ∷ ys
    → contexts_behind done xs (ms ++ m ∷ []) ≡ behind (done ++ ms) x ys m
contexts_snoc [] done xs x ys m k =
    subst (λ z. contexts_behind done z (m ∷ []) ≡ behind (done ++ []) x ys m) (sym k) (ap (λ d. behind d x ys m) (sym (append-nil done)))
contexts_snoc (n ∷ ms) done [] x ys m k = absurd (cc)
contexts_snoc (n ∷ ms) done (z ∷ zs) x ys m k = contexts_snoc ms (done ++ n ∷ []) (behind done z zs n) x ys m k ∙ ap (λ d. behind d x ys m) (append_assoc done (n ∷ []) ms)

ends_snoc : (ms done : List Piece) (xs : List Context) (x : Context) (ys : List Context) (m : Piece) → ends_none done xs ms ≡ true → contexts_behind done xs ms ≡ x ∷ ys
    → ends_token m (behind (done ++ ms) x ys m) ≡ false → ends_none done xs (ms ++ m ∷ []) ≡ true
ends_snoc [] done xs x ys m h k t =
    subst (λ z. ends_none done z (m ∷ []) ≡ true) (sym k)
    (and_both (not (ends_token m (behind done x ys m))) true (not_false (ends_token m (behind done x ys m)) (ap (λ d. ends_token m (behind d x ys m)) (sym (append-nil done)) ∙ t)) refl)
ends_snoc (n ∷ ms) done [] x ys m h k t = absurd (cc)
ends_snoc (n ∷ ms) done (z ∷ zs) x ys m h k t =
    let p = and_true (not (ends_token n (behind done z zs n))) (ends_none (done ++ n ∷ []) (behind done z zs n) ms) h in
    and_both (not (ends_token n (behind done z zs n))) (ends_none (done ++ n ∷ []) (behind done z zs n) (ms ++ m ∷ [])) p.0
    (ends_snoc ms (done ++ n ∷ []) (behind done z zs n) x ys m p.1 k (ap (λ d. ends_token m (behind d x ys m)) (append_assoc done (n ∷ []) ms) ∙ t))

-- the levels that are open where a piece has begun
abbrev pub pending_levels : Pending → ℕ → ℕ
pending_levels Pending.Nothing n = n
pending_levels Pending.Dollar n = n
pending_levels Pending.DollarParenthesis n = suc n
pending_levels Pending.Name n = n
pending_levels (Pending.Head h) n = suc n
pending_levels Pending.Single n = n
pending_levels Pending.Backquotes n = suc n
pending_levels Pending.BackquotesEscape n = suc n
pending_levels Pending.Parenthesis n = n
pending_levels (Pending.Operator o) n = n
pending_levels Pending.Comment n = n
pending_levels (Pending.Body l b j) n = n

-- what has been read of a piece that has begun, from `mid` up to `m`
abbrev pub Held : Bool → ℕ → Pending → List Context → List ℕ → List ℕ → List ℕ → Type 0
Held e limit Pending.Nothing xs acc mid m = (acc ≡ []) × (mid ≡ m)
Held e limit Pending.Dollar xs acc mid m = (acc ≡ []) × (in_word (top_of xs) ≡ true) × Written e (Plain 36 ∷ []) mid m
Held e limit Pending.DollarParenthesis xs acc mid m = (acc ≡ []) × (in_word (top_of xs) ≡ true) × (nat_lt (levels xs) limit ≡ true) × Written e (Plain 36 ∷ Plain 40 ∷ []) mid m
Held e limit Pending.Name xs acc mid m = (is_name acc ≡ true) × (in_word (top_of xs) ≡ true) × Written e (Plain 36 ∷ plain acc) mid m
Held e limit (Pending.Head h) xs acc mid m = (head_of acc ≡ Some h) × (in_word (top_of xs) ≡ true) × (nat_lt (levels xs) limit ≡ true) × Written e (Plain 36 ∷ Plain 123 ∷ plain acc) mid m
Held e limit Pending.Single xs acc mid m = (list_all is_no_quote acc ≡ true) × (has_single_quotes (top_of xs) ≡ true) × Written e (Plain 39 ∷ raw acc) mid m
Held e limit Pending.Backquotes xs acc mid m =
    ((bs : List ℕ) → is_backquoted (acc ++ bs) ≡ is_backquoted bs) × (in_word (top_of xs) ≡ true) × (nat_lt (levels xs) limit ≡ true) × Written e (Plain 96 ∷ raw acc) mid m
Held e limit Pending.BackquotesEscape xs acc mid m =
    ((b : ℕ) (bs : List ℕ) → is_backquoted (acc ++ b ∷ bs) ≡ is_backquoted bs) × (in_word (top_of xs) ≡ true) × (nat_lt (levels xs) limit ≡ true) × Written e (Plain 96 ∷ raw acc) mid m
Held e limit Pending.Parenthesis xs acc mid m = (acc ≡ []) × (is_arithmetic (top_of xs) ≡ true) × Written e (Plain 41 ∷ []) mid m
Held e limit (Pending.Operator o) xs acc mid m = (acc ≡ []) × (between_tokens (top_of xs) ≡ true) × (may_grow o ≡ true) × Written e (plain (operator_text o)) mid m
Held e limit Pending.Comment xs acc mid m = (list_all is_no_newline acc ≡ true) × (between_tokens (top_of xs) ≡ true) × Written e (Plain 35 ∷ raw acc) mid m
Held e limit (Pending.Body l b j) xs acc mid m = Stands (due_in (top_of xs)) l b j acc × Written e (Plain 10 ∷ raw acc) mid m

-- the `$`, or the backquote, stands directly before
abbrev pub Preceded : Pending → List ℕ → List ℕ → List ℕ → Type 0
Preceded Pending.Dollar acc previous m = previous ≡ 36 ∷ m
Preceded Pending.Backquotes [] previous m = previous ≡ 96 ∷ m
Preceded Pending.Backquotes (b ∷ bs) previous m = Unit {0}
Preceded Pending.Nothing acc previous m = Unit {0}
Preceded Pending.DollarParenthesis acc previous m = Unit {0}
Preceded Pending.Name acc previous m = Unit {0}
Preceded (Pending.Head h) acc previous m = Unit {0}
Preceded Pending.Single acc previous m = Unit {0}
Preceded Pending.BackquotesEscape acc previous m = Unit {0}
Preceded Pending.Parenthesis acc previous m = Unit {0}
Preceded (Pending.Operator o) acc previous m = Unit {0}
Preceded Pending.Comment acc previous m = Unit {0}
Preceded (Pending.Body l b j) acc previous m = Unit {0}

pub preceded_more : (acc : List ℕ) (b : ℕ) (previous m : List ℕ) → Preceded Pending.Backquotes (acc ++ b ∷ []) previous m
preceded_more [] b previous m = tt
preceded_more (a ∷ acc) b previous m = tt

pub no_join_at : (b : ℕ) (rest : List ℕ) → nat_eq b 92 ≡ false → begins_join (b ∷ rest) ≡ false
no_join_at b [] h = refl
no_join_at b (c ∷ cs) h = rw h refl

-- what is read: the first word behind a gap, or a body
pub data Subject : Type 0 where
  WordBehind : (gap : List Piece) → Subject
  WholeBody : Subject

-- the pieces before it, the contexts that it begins in, its pieces by those behind its beginning
abbrev pub gap_of : Subject → List Piece
gap_of (WordBehind gap) = gap
gap_of WholeBody = []

abbrev pub ground_of : Subject → List Context
ground_of (WordBehind gap) = Top ∷ []
ground_of WholeBody = Body ∷ []

abbrev pub pieces_of : Subject → List Piece → List Piece
pieces_of (WordBehind gap) ms = WordOpen ∷ ms
pieces_of WholeBody ms = ms

abbrev pub IsBlank : Subject → Type 0
IsBlank (WordBehind gap) = list_all is_gap gap ≡ true
IsBlank WholeBody = Unit {0}

-- it is over, these being the pieces; a body is so only at the end of the input
abbrev pub IsOver : Bool → ℕ → Subject → List ℕ → List ℕ → List Piece → Type 0
IsOver e limit (WordBehind gap) prefix rest done = IsToken e limit gap prefix rest (kind_of done)
IsOver e limit WholeBody prefix rest done = ⊥

pieces_snoc : (g : Subject) (ms : List Piece) (m : Piece) → pieces_of g (ms ++ m ∷ []) ≡ pieces_of g ms ++ m ∷ []
pieces_snoc (WordBehind gap) ms m = refl
pieces_snoc WholeBody ms m = refl

pieces_parts : (g : Subject) (ms : List Piece) (m : Piece) (ns : List Piece) → pieces_of g (ms ++ m ∷ ns) ≡ pieces_of g ms ++ m ∷ ns
pieces_parts (WordBehind gap) ms m ns = refl
pieces_parts WholeBody ms m ns = refl

module _ (subject : Subject) where
  -- a word of a substitution that is open began behind these pieces
  pub record Since (inner : List Piece) (n : ℕ) (ys : List Context) : Type 0 where
    pub before : List Piece
    pub pieces : List Piece
    pub is : inner ≡ before ++ WordOpen ∷ pieces
    pub place : length (gap_of subject ++ pieces_of subject before) ≡ n
    pub there : contexts_behind (gap_of subject) (ground_of subject) (pieces_of subject before) ≡ ys

  abbrev pub Opened : List Piece → List Context → Type 0
  Opened inner [] = Unit {0}
  Opened inner (Top ∷ ys) = Opened inner ys
  Opened inner (Commands ts ∷ ys) = Opened inner ys
  Opened inner (Word n ∷ ys) = (is_text (top_of ys) ≡ false → Since inner n ys) × Opened inner ys
  Opened inner (Quotes ∷ ys) = Opened inner ys
  Opened inner (Braces q ∷ ys) = Opened inner ys
  Opened inner (Arithmetic ∷ ys) = Opened inner ys
  Opened inner (Parenthesis ∷ ys) = Opened inner ys
  Opened inner (Body ∷ ys) = Opened inner ys

  module _ (inner : List Piece) (m : Piece) where
    since_on : (n : ℕ) (ys : List Context) → Since inner n ys → Since (inner ++ m ∷ []) n ys
    since_on n ys s =
        record { before = s.before; pieces = s.pieces ++ m ∷ []; is = ap (λ z. z ++ m ∷ []) s.is ∙ append_assoc s.before (WordOpen ∷ s.pieces) (m ∷ []); place = s.place; there = s.there }

    opened_on : (xs : List Context) → Opened inner xs → Opened (inner ++ m ∷ []) xs
    opened_on [] o = o
    opened_on (Top ∷ ys) o = opened_on ys o
    opened_on (Commands ts ∷ ys) o = opened_on ys o
    opened_on (Word n ∷ ys) o = ((λ t. since_on n ys (o.0 t)), opened_on ys o.1)
    opened_on (Quotes ∷ ys) o = opened_on ys o
    opened_on (Braces q ∷ ys) o = opened_on ys o
    opened_on (Arithmetic ∷ ys) o = opened_on ys o
    opened_on (Parenthesis ∷ ys) o = opened_on ys o
    opened_on (Body ∷ ys) o = opened_on ys o

  module _ (inner : List Piece) where
    opened_below : (x : Context) (xs : List Context) → Opened inner (x ∷ xs) → Opened inner xs
    opened_below Top xs o = o
    opened_below (Commands ts) xs o = o
    opened_below (Word n) xs o = o.1
    opened_below Quotes xs o = o
    opened_below (Braces q) xs o = o
    opened_below Arithmetic xs o = o
    opened_below Parenthesis xs o = o
    opened_below Body xs o = o

    opened_token : (c : Told) (xs : List Context) → Opened inner xs → Opened inner (with_token c xs)
    opened_token c [] o = o
    opened_token c (Top ∷ xs) o = o
    opened_token c (Commands ts ∷ xs) o = o
    opened_token c (Word n ∷ xs) o = o
    opened_token c (Quotes ∷ xs) o = o
    opened_token c (Braces q ∷ xs) o = o
    opened_token c (Arithmetic ∷ xs) o = o
    opened_token c (Parenthesis ∷ xs) o = o
    opened_token c (Body ∷ xs) o = o

    opened_close : (r : Bool) (done : List Piece) (x : Context) (xs : List Context) → Opened inner (x ∷ xs) → Opened inner (word_over r done (x ∷ xs))
    opened_close r done Top xs o = o
    opened_close r done (Commands ts) xs o = o
    opened_close r done (Word n) xs o = opened_token (OfWord r (drop (suc n) done)) xs o.1
    opened_close r done Quotes xs o = o
    opened_close r done (Braces q) xs o = o
    opened_close r done Arithmetic xs o = o
    opened_close r done Parenthesis xs o = o
    opened_close r done Body xs o = o

    opened_byte : (b : ℕ) (x : Context) (xs : List Context) → Opened inner (x ∷ xs) → Opened inner (behind_byte b x xs)
    opened_byte b x xs o = go (nat_eq b 40 && (is_arithmetic x || is_parenthesis x)) (nat_eq b 41 && is_parenthesis x)
      where
        go : (c d : Bool) → Opened inner (cond c (Parenthesis ∷ x ∷ xs) (cond d xs (x ∷ xs)))
        go true d = o
        go false true = opened_below x xs o
        go false false = o

    opened_braces : (h : Option Head) (q : Bool) (xs : List Context) → Opened inner xs → Opened inner (braces_of q h ∷ xs)
    opened_braces None q xs o = o
    opened_braces (Some h) q xs o = o

  opened_behind : (inner done : List Piece) (x : Context) (xs : List Context) (m : Piece) → gap_of subject ++ pieces_of subject inner ≡ done → contexts_behind (gap_of subject) (ground_of subject) (pieces_of subject inner) ≡ x ∷ xs
      → Opened (inner ++ m ∷ []) (x ∷ xs) → Opened (inner ++ m ∷ []) (behind done x xs m)
  opened_behind inner done x xs (Byte b) i k o = opened_byte (inner ++ Byte b ∷ []) b x xs o
  opened_behind inner done x xs (Escaped b) i k o = o
  opened_behind inner done x xs (Backslash b) i k o = o
  opened_behind inner done x xs (SingleQuoted bs) i k o = o
  opened_behind inner done x xs DoubleQuotesOpen i k o = o
  opened_behind inner done x xs DoubleQuotesClose i k o = opened_below (inner ++ DoubleQuotesClose ∷ []) x xs o
  opened_behind inner done x xs Dollar i k o = o
  opened_behind inner done x xs (Variable bs) i k o = o
  opened_behind inner done x xs (Parameter b) i k o = o
  opened_behind inner done x xs (BraceOpen bs) i k o = opened_braces (inner ++ BraceOpen bs ∷ []) (head_of bs) (is_quoted x) (x ∷ xs) o
  opened_behind inner done x xs BraceClose i k o = opened_below (inner ++ BraceClose ∷ []) x xs o
  opened_behind inner done x xs ArithmeticOpen i k o = o
  opened_behind inner done x xs ArithmeticClose i k o = opened_below (inner ++ ArithmeticClose ∷ []) x xs o
  opened_behind inner done x xs CommandsOpen i k o = o
  opened_behind inner done x xs CommandsClose i k o = opened_below (inner ++ CommandsClose ∷ []) x xs o
  opened_behind inner done x xs (Backquoted bs) i k o = o
  opened_behind inner done x xs WordOpen i k o = ((λ t. record { before = inner; pieces = []; is = refl; place = ap length i; there = k }), o)
  opened_behind inner done x xs (WordClose r) i k o = opened_close (inner ++ WordClose r ∷ []) r done x xs o
  opened_behind inner done x xs (Blank b) i k o = o
  opened_behind inner done x xs (Comment bs) i k o = o
  opened_behind inner done x xs (Bodies bs) i k o = opened_token (inner ++ Bodies bs ∷ []) OfBodies (x ∷ xs) o
  opened_behind inner done x xs (Piece.Operator q) i k o = opened_token (inner ++ Piece.Operator q ∷ []) (OfOperator q) (x ∷ xs) o

module _ (e : Bool) (limit : ℕ) (subject : Subject) (prefix : List ℕ) where
  -- the pieces so far
  pub record Path (done : List Piece) (xs : List Context) (mid : List ℕ) : Type 0 where
    pub inner : List Piece
    pub is : gap_of subject ++ pieces_of subject inner ≡ done
    pub walked : ArePieces e limit (gap_of subject) (ground_of subject) (pieces_of subject inner) prefix mid
    pub going : ends_none (gap_of subject) (ground_of subject) (pieces_of subject inner) ≡ true
    pub contexts : contexts_behind (gap_of subject) (ground_of subject) (pieces_of subject inner) ≡ xs
    pub inside : Inside xs
    pub opened : Opened subject inner xs

  pub path_on : (done : List Piece) (x : Context) (xs : List Context) (m : Piece) (mid after : List ℕ) → Path done (x ∷ xs) mid → IsPiece e limit done x xs m mid after
      → ends_token m (behind done x xs m) ≡ false → Path (done ++ m ∷ []) (behind done x xs m) after
  path_on done x xs m mid after p i h =
      let gap = gap_of subject in
      let ground = ground_of subject in
      let ms = pieces_of subject p.inner in
      let s = pieces_snoc subject p.inner m in
      record {
        inner = p.inner ++ m ∷ [];
        is = ap (λ z. gap ++ z) s ∙ (sym (append_assoc gap ms (m ∷ [])) ∙ ap (λ d. d ++ m ∷ []) p.is);
        walked = subst (λ z. ArePieces e limit gap ground z prefix after) (sym s) (are_pieces_snoc e limit ms gap ground x xs m prefix mid after p.walked p.contexts (subst (λ d. IsPiece e limit d x xs m mid after) (sym p.is) i));
        going = subst (λ z. ends_none gap ground z ≡ true) (sym s) (ends_snoc ms gap ground x xs m p.going p.contexts (ap (λ d. ends_token m (behind d x xs m)) p.is ∙ h));
        contexts = ap (contexts_behind gap ground) s ∙ (contexts_snoc ms gap ground x xs m p.contexts ∙ ap (λ d. behind d x xs m) p.is);
        inside = inside_behind e limit done x xs m mid after p.inside i h;
        opened = opened_behind subject p.inner done x xs m p.is p.contexts (opened_on subject p.inner m (x ∷ xs) p.opened);
      }

  -- a state within it, where the text is m
  pub record At (t : State) (previous m : List ℕ) : Type 0 where
    pub xs : List Context
    pub done : List Piece
    pub pending : Pending
    pub acc : List ℕ
    pub mid : List ℕ
    pub is : t ≡ begun limit xs done (pending_levels pending (levels xs)) pending acc
    pub path : Path done xs mid
    pub held : Held e limit pending xs acc mid m
    pub preceded : Preceded pending acc previous m

  -- level 501 opens there
  pub record DeepHere (place : List ℕ) : Type 0 where
    pub pieces : List Piece
    pub last : List ℕ
    pub before : ArePieces e limit (gap_of subject) (ground_of subject) (pieces_of subject pieces) prefix last
    pub going : ends_none (gap_of subject) (ground_of subject) (pieces_of subject pieces) ≡ true
    pub placed : Joined last place
    pub opens : OpensTooMany e limit (gap_of subject ++ pieces_of subject pieces) place (contexts_behind (gap_of subject) (ground_of subject) (pieces_of subject pieces))

  opens_here : (done : List Piece) (xs : List Context) (mid place : List ℕ) → Path done xs mid → Joined mid place → OpensTooMany e limit done place xs → DeepHere place
  opens_here done xs mid place p j o =
      record {
        pieces = p.inner;
        last = mid;
        before = p.walked;
        going = p.going;
        placed = j;
        opens = subst (λ d. OpensTooMany e limit d place (contexts_behind (gap_of subject) (ground_of subject) (pieces_of subject p.inner))) (sym p.is)
            (subst (OpensTooMany e limit done place) (sym p.contexts) o);
      }

  pub deep_here : (done : List Piece) (xs : List Context) (mid place : List ℕ) → Path done xs mid → nat_lt (levels xs) limit ≡ false → in_word (top_of xs) ≡ true → Joined mid place
      → OpensLevel e place → DeepHere place
  deep_here done xs mid place p f w j o = opens_here done xs mid place p j (form xs w f o)

  pub operator_here : (done : List Piece) (x : Context) (xs : List Context) (mid place : List ℕ) (o : Operator) → Path done (x ∷ xs) mid → Joined mid place → Exceeds e limit done x xs (Piece.Operator o) place → DeepHere place
  operator_here done x xs mid place o p j d = opens_here done (x ∷ xs) mid place p j (operator o x xs d)

  -- somewhere
  pub record DeepSome : Type 0 where
    pub place : List ℕ
    pub here : DeepHere place

  since_here : (done : List Piece) (n : ℕ) (ys : List Context) (mid : List ℕ) (r : Bool) → Path done (Word n ∷ ys) mid → (inner before pieces : List Piece) → inner ≡ before ++ WordOpen ∷ pieces
      → length (gap_of subject ++ pieces_of subject before) ≡ n → contexts_behind (gap_of subject) (ground_of subject) (pieces_of subject before) ≡ ys → gap_of subject ++ pieces_of subject inner ≡ done
      → ArePieces e limit (gap_of subject) (ground_of subject) (pieces_of subject inner) prefix mid → ends_none (gap_of subject) (ground_of subject) (pieces_of subject inner) ≡ true
      → contexts_behind (gap_of subject) (ground_of subject) (pieces_of subject inner) ≡ Word n ∷ ys → Exceeds e limit done (Word n) ys (WordClose r) mid → DeepSome
  since_here done n ys mid r p inner before pieces i l t s a g k d =
      let gap = gap_of subject in
      let ground = ground_of subject in
      let ms = pieces_of subject before in
      let all : pieces_of subject inner ≡ ms ++ WordOpen ∷ pieces = ap (pieces_of subject) i ∙ pieces_parts subject before WordOpen pieces in
      let is : done ≡ (gap ++ ms) ++ WordOpen ∷ pieces = sym s ∙ (ap (λ z. gap ++ z) all ∙ sym (append_assoc gap ms (WordOpen ∷ pieces))) in
      let q = parts e limit ms (WordOpen ∷ pieces) gap ground prefix mid (subst (λ z. ArePieces e limit gap ground z prefix mid) all a) in
      let c : contexts_behind (gap ++ ms) ys (WordOpen ∷ pieces) ≡ Word (length (gap ++ ms)) ∷ ys =
      ap (λ z. contexts_behind (gap ++ ms) z (WordOpen ∷ pieces)) (sym t)
      ∙ (sym (contexts_parts ms (WordOpen ∷ pieces) gap ground) ∙ (ap (contexts_behind gap ground) (sym all) ∙ (k ∙ ap (λ z. Word z ∷ ys) (sym l))))
      in
      let w : Exceeds e limit ((gap ++ ms) ++ WordOpen ∷ pieces) (Word (length (gap ++ ms))) ys (WordClose r) mid =
      subst (λ z. Exceeds e limit ((gap ++ ms) ++ WordOpen ∷ pieces) (Word z) ys (WordClose r) mid) (sym l) (subst (λ z. Exceeds e limit z (Word n) ys (WordClose r) mid) is d)
      in
      let b = (and_true (word_begins r ((gap ++ ms) ++ WordOpen ∷ pieces) (Word (length (gap ++ ms)))) (nat_lt limit (levels (behind ((gap ++ ms) ++ WordOpen ∷ pieces) (Word (length (gap ++ ms))) ys (WordClose r)))) w.exceeds).0 in
      let h = ap (λ z. begins_compound (class_of_word r z)) (sym (behind_open (gap ++ ms) pieces)) ∙ b in
      let x = word_placed e limit (gap ++ ms) ys r q.middle mid pieces h (subst (λ z. ArePieces e limit (gap ++ ms) z (WordOpen ∷ pieces) q.middle mid) t q.right) c w in
      record {
        place = x.place;
        here = record {
          pieces = before;
          last = q.middle;
          before = q.left;
          going = ends_prefix ms (WordOpen ∷ pieces) gap ground (subst (λ z. ends_none gap ground z ≡ true) all g);
          placed = x.joined;
          opens = subst (OpensTooMany e limit (gap ++ ms) x.place) (sym t) x.opens;
        };
      }

  -- the word that is over there
  pub word_here : (done : List Piece) (n : ℕ) (ys : List Context) (mid : List ℕ) (r : Bool) → Path done (Word n ∷ ys) mid → is_text (top_of ys) ≡ false → Exceeds e limit done (Word n) ys (WordClose r) mid → DeepSome
  word_here done n ys mid r p t d =
      let s = p.opened.0 t in
      since_here done n ys mid r p p.inner s.before s.pieces s.is s.place s.there p.is p.walked p.going p.contexts d

  -- what a character makes of it: `begin` is where it begins, `m` what it was read of
  abbrev pub Onward : Stepped → List ℕ → List ℕ → List ℕ → List ℕ → Type 0
  Onward (On t) previous begin m rest = At t begin rest
  Onward (Before t) previous begin m rest = IsOver e limit subject prefix m t.done
  Onward (After t) previous begin m rest = IsOver e limit subject prefix rest t.done
  Onward (TooDeep t) previous begin m rest = DeepSome
  Onward (DollarTooDeep t) previous begin m rest = DeepHere previous
  Onward (WordTooDeep t) previous begin m rest = DeepSome

  pub record Going (x : Stepped) (previous begin m rest : List ℕ) : Type 0 where
    pub it : Onward x previous begin m rest

  pub either : (c : Bool) (x y : Stepped) (previous begin m rest : List ℕ) → (c ≡ true → Going x previous begin m rest) → (c ≡ false → Going y previous begin m rest)
      → Going (cond c x y) previous begin m rest
  either true x y previous begin m rest t u = t refl
  either false x y previous begin m rest t u = u refl

  -- a state with nothing begun
  pub settled_at : (t : State) (done : List Piece) (xs : List Context) (previous begin m rest : List ℕ) → t ≡ settled limit done xs → Path done xs rest → Going (On t) previous begin m rest
  settled_at t done xs previous begin m rest w p =
      record { it = record { xs = xs; done = done; pending = Pending.Nothing; acc = []; mid = rest; is = w; path = p; held = (refl, refl); preceded = tt } }

-- the end of a word of the text itself
pub final_word : (e : Bool) (limit : ℕ) (subject : Subject) (prefix : List ℕ) (done : List Piece) (x : Context) (xs : List Context) (r : Bool) (mid rest : List ℕ) → IsBlank subject → Path e limit subject prefix done (x ∷ xs) mid
    → IsPiece e limit done x xs (WordClose r) mid rest → is_text (top_of xs) ≡ true → IsOver e limit subject prefix rest (done ++ WordClose r ∷ [])
final_word e limit (WordBehind gap) prefix done x xs r mid rest h p i t =
    subst (λ k. IsToken e limit gap prefix rest k) (sym (ap (λ d. kind_of (d ++ WordClose r ∷ [])) (sym p.is ∙ sym (append_assoc gap (WordOpen ∷ []) p.inner)) ∙ word_kind_of gap p.inner r h))
    (word p.inner r x xs mid p.walked p.going p.contexts (subst (λ z. IsPiece e limit z x xs (WordClose r) mid rest) (sym p.is) i) t)
final_word e limit WholeBody prefix done x xs r mid rest h p i t =
    let f = subst (λ ys. free is_text ys ≡ true) p.contexts (free_contexts is_text never_text p.inner [] (Body ∷ []) refl) in
    absurd (no_token_over x xs f p.inside.order (and_true (is_word x) (ends_word (ahead e rest) && same_as r (next_is is_redirection (ahead e rest))) i.fits).0 t)

-- no body is below a word
pub no_body : (e : Bool) (limit : ℕ) (gap : List Piece) (prefix : List ℕ) (done : List Piece) (xs : List Context) (mid : List ℕ) → Path e limit (WordBehind gap) prefix done (Body ∷ xs) mid → ⊥
no_body e limit gap prefix done xs mid p =
    let f : free is_body (Body ∷ xs) ≡ true = subst (λ ys. free is_body ys ≡ true) p.contexts (free_contexts is_body never_body (WordOpen ∷ p.inner) gap (Top ∷ []) refl) in
    absurd (cc)

-- where the run of a first word comes to
abbrev pub Shown : (e : Bool) (limit : ℕ) (gap : List Piece) (prefix : List ℕ) → Scanned → Type 0
Shown e limit gap prefix (Ended k f r) = (f ≡ prefix) × IsToken e limit gap prefix r (kind_of k.done)
Shown e limit gap prefix (Deep r) = DeepSome e limit (WordBehind gap) prefix
Shown e limit gap prefix (Open f) = Unit {0}
