-- Where a word that opens a level too many began.
use Rattle.std.proofs.Common.{◌≡◌, ◌⊎◌, inl, inr, ℕ, zero, suc, Bool, true, false, not, cond, nat_eq, List, [], ◌∷◌, ◌++◌, length, refl, sym, ap, ◌∙◌, subst, append_assoc}
use Rattle.std.specs.List.{list_all}
use Rattle.std.proofs.lemmas.List.{append-nil}
use Rattle.sh_token_grammar.specs.declared.class.TokenClass.{TokenClass}
use Rattle.sh_token_grammar.specs.Levels.{begins_compound}
use Rattle.sh_token_pieces.specs.declared.operator.Operator.{Operator}
use Rattle.sh_token_pieces.specs.declared.operator.Operator.TheVariants.{And, Semicolon, Pipe, Less, Great, LeftParenthesis, RightParenthesis, Newline}
use Rattle.sh_token_pieces.specs.declared.context.Context.{Context}
use Rattle.sh_token_pieces.specs.declared.context.Context.TheVariants.{Word}
use Rattle.sh_token_pieces.specs.declared.piece.Piece.{Piece}
use Rattle.sh_token_pieces.specs.declared.piece.Piece.TheVariants.{Byte, Escaped, Backslash, SingleQuoted, DoubleQuotesOpen, DoubleQuotesClose, Dollar, Variable, Parameter, BraceOpen, BraceClose, ArithmeticOpen, ArithmeticClose, CommandsOpen, CommandsClose, Backquoted, WordOpen, WordClose, Blank, Comment, Bodies}
use Rattle.sh_token_pieces.specs.Characters.{joins, Written, plain, ahead}
use Rattle.sh_token_pieces.specs.Operators.{operator_text}
use Rattle.sh_token_pieces.specs.Pieces.{ArePieces, behind, contexts_behind, ends_token, ends_none, between_tokens, begins_word}
use Rattle.sh_token_pieces.specs.TokenClasses.{is_byte, assigns, literal_prefix, class_of_literal, class_of_word, class_of_operator}
use Rattle.sh_token.specs.Tokens.{begins_join, Joined, Exceeds, OpensTooMany, word}
use Rattle.sh_token_scanner.proofs.Tests.{and_true, and_both}

pub ahead_joins : (e : Bool) (n : ℕ) (ys : List ℕ) → ahead e (joins n ++ ys) ≡ ahead e ys
ahead_joins e zero ys = refl
ahead_joins e (suc n) ys = ahead_joins e n ys

pub record IsByte (m : Piece) : Type 0 where
  pub byte : ℕ
  pub is : m ≡ Byte byte

pub byte_of : (m : Piece) → is_byte m ≡ true → IsByte m
byte_of (Byte b) h = record { byte = b; is = refl }
byte_of (Escaped b) h = absurd (cc)
byte_of (Backslash b) h = absurd (cc)
byte_of (SingleQuoted bs) h = absurd (cc)
byte_of DoubleQuotesOpen h = absurd (cc)
byte_of DoubleQuotesClose h = absurd (cc)
byte_of Dollar h = absurd (cc)
byte_of (Variable bs) h = absurd (cc)
byte_of (Parameter b) h = absurd (cc)
byte_of (BraceOpen bs) h = absurd (cc)
byte_of BraceClose h = absurd (cc)
byte_of ArithmeticOpen h = absurd (cc)
byte_of ArithmeticClose h = absurd (cc)
byte_of CommandsOpen h = absurd (cc)
byte_of CommandsClose h = absurd (cc)
byte_of (Backquoted bs) h = absurd (cc)
byte_of WordOpen h = absurd (cc)
byte_of (WordClose r) h = absurd (cc)
byte_of (Blank b) h = absurd (cc)
byte_of (Comment bs) h = absurd (cc)
byte_of (Bodies bs) h = absurd (cc)
byte_of (Piece.Operator o) h = absurd (cc)

-- a word with which a compound command begins has bytes alone
pub begins_bytes : (r : Bool) (ms : List Piece) → begins_compound (class_of_word r ms) ≡ true → list_all is_byte ms ≡ true
begins_bytes r ms h = go (list_all is_byte ms) (assigns (literal_prefix ms)) h
  where
    go : (c d : Bool) → begins_compound (cond c (class_of_literal r (literal_prefix ms)) (cond d TokenClass.Assignment TokenClass.Other)) ≡ true → c ≡ true
    go true d g = refl
    go false true g = absurd (cc)
    go false false g = absurd (cc)

pub begins_some : (r : Bool) → begins_compound (class_of_word r []) ≡ true → ⊥
begins_some true h = absurd (cc)
begins_some false h = absurd (cc)

-- pieces one behind another
pub record Parts (e : Bool) (limit : ℕ) (done : List Piece) (xs : List Context) (ms ns : List Piece) (bytes rest : List ℕ) : Type 0 where
  pub middle : List ℕ
  pub left : ArePieces e limit done xs ms bytes middle
  pub right : ArePieces e limit (done ++ ms) (contexts_behind done xs ms) ns middle rest

pub parts : (e : Bool) (limit : ℕ) (ms ns done : List Piece) (xs : List Context) (bytes rest : List ℕ) → ArePieces e limit done xs (ms ++ ns) bytes rest → Parts e limit done xs ms ns bytes rest
parts e limit [] ns done xs bytes rest a = record { middle = bytes; left = refl; right = subst (λ d. ArePieces e limit d xs ns bytes rest) (sym (append-nil done)) a }
parts e limit (m ∷ ms) ns done [] bytes rest a = absurd a
parts e limit (m ∷ ms) ns done (x ∷ xs) bytes rest a =
    let p = parts e limit ms ns (done ++ m ∷ []) (behind done x xs m) a.0 rest a.2 in
    record {
      middle = p.middle;
      left = (a.0, a.1, p.left);
      right = subst (λ d. ArePieces e limit d (contexts_behind (done ++ m ∷ []) (behind done x xs m) ms) ns p.middle rest) (append_assoc done (m ∷ []) ms) p.right;
    }

none_open : (done ms : List Piece) → contexts_behind done [] ms ≡ []
none_open done [] = refl
none_open done (m ∷ ms) = refl

pub contexts_parts : (ms ns done : List Piece) (xs : List Context) → contexts_behind done xs (ms ++ ns) ≡ contexts_behind (done ++ ms) (contexts_behind done xs ms) ns
contexts_parts [] ns done xs = ap (λ d. contexts_behind d xs ns) (sym (append-nil done))
contexts_parts (m ∷ ms) ns done [] = sym (none_open (done ++ m ∷ ms) ns)
contexts_parts (m ∷ ms) ns done (x ∷ xs) =
    contexts_parts ms ns (done ++ m ∷ []) (behind done x xs m) ∙ ap (λ d. contexts_behind d (contexts_behind (done ++ m ∷ []) (behind done x xs m) ms) ns) (append_assoc done (m ∷ []) ms)

pub ends_prefix : (ms ns done : List Piece) (xs : List Context) → ends_none done xs (ms ++ ns) ≡ true → ends_none done xs ms ≡ true
ends_prefix [] ns done xs h = refl
ends_prefix (m ∷ ms) ns done [] h = refl
ends_prefix (m ∷ ms) ns done (x ∷ xs) h =
    let p = and_true (not (ends_token m (behind done x xs m))) (ends_none (done ++ m ∷ []) (behind done x xs m) (ms ++ ns)) h in
    and_both (not (ends_token m (behind done x xs m))) (ends_none (done ++ m ∷ []) (behind done x xs m) ms) p.0 (ends_prefix ms ns (done ++ m ∷ []) (behind done x xs m) p.1)

-- the first byte of a word, joined lines before it left out
no_join : (e : Bool) (b : ℕ) (rest : List ℕ) → (nat_eq b 92 ≡ false) ⊎ ((b ≡ 92) × (e ≡ true) × (rest ≡ [])) → begins_join (b ∷ rest) ≡ false
no_join e b [] h = refl
no_join e b (c ∷ cs) (inl h) = rw h refl
no_join e b (c ∷ cs) (inr h) = let z = h.2 in absurd (cc)

-- a compound command begins with no other operator
pub begins_by : (o : Operator) → begins_compound (class_of_operator o) ≡ true → o ≡ LeftParenthesis
begins_by And h = absurd (cc)
begins_by Semicolon h = absurd (cc)
begins_by Pipe h = absurd (cc)
begins_by Less h = absurd (cc)
begins_by Great h = absurd (cc)
begins_by LeftParenthesis h = refl
begins_by RightParenthesis h = absurd (cc)
begins_by Newline h = absurd (cc)
begins_by Operator.AndIf h = absurd (cc)
begins_by Operator.OrIf h = absurd (cc)
begins_by Operator.DoubleSemicolon h = absurd (cc)
begins_by Operator.DoubleLess h = absurd (cc)
begins_by Operator.DoubleGreat h = absurd (cc)
begins_by Operator.LessAnd h = absurd (cc)
begins_by Operator.GreatAnd h = absurd (cc)
begins_by Operator.LessGreat h = absurd (cc)
begins_by Operator.DoubleLessDash h = absurd (cc)
begins_by Operator.Clobber h = absurd (cc)

-- the text from that operator on
pub record From (e : Bool) (o : Operator) (mid rest : List ℕ) : Type 0 where
  pub place : List ℕ
  pub joined : Joined mid place
  pub written : Written e (plain (operator_text o)) place rest

pub parenthesis_from : (e : Bool) (o : Operator) (mid rest : List ℕ) → o ≡ LeftParenthesis → Written e (plain (operator_text o)) mid rest → From e o mid rest
parenthesis_from e o mid rest i w = subst (λ z. From e z mid rest) (sym i) (go (subst (λ z. Written e (plain (operator_text z)) mid rest) i w))
  where
    go : Written e (plain (operator_text LeftParenthesis)) mid rest → From e LeftParenthesis mid rest
    go v = record { place = 40 ∷ v.0; joined = record { lines = v.1.0; is = v.1.1; over = no_join e 40 v.0 v.1.2 }; written = (v.0, (0, refl, v.1.2), v.2) }

module _ (e : Bool) (limit : ℕ) (done : List Piece) (xs : List Context) (r : Bool) (last rest : List ℕ) where
  pub record Placed : Type 0 where
    pub place : List ℕ
    pub joined : Joined last place
    pub opens : OpensTooMany e limit done place xs

  abbrev Sinks : List Piece → Type 0
  Sinks ms = Exceeds e limit (done ++ WordOpen ∷ ms) (Word (length done)) xs (WordClose r) rest

  abbrev Closed : List Piece → Type 0
  Closed ms = contexts_behind done xs (WordOpen ∷ ms) ≡ Word (length done) ∷ xs

first_placed : (e : Bool) (limit : ℕ) (done : List Piece) (x : Context) (xs : List Context) (r : Bool) (last rest : List ℕ) (b : ℕ) (ms : List Piece) → ArePieces e limit done (x ∷ xs) (WordOpen ∷ Byte b ∷ ms) last rest
    → Closed e limit done (x ∷ xs) r last rest (Byte b ∷ ms) → Sinks e limit done (x ∷ xs) r last rest (Byte b ∷ ms) → Placed e limit done (x ∷ xs) r last rest
first_placed e limit done x xs r last rest b ms a k d =
    let f = a.2.1.written in
    let place = b ∷ f.0 in
    let is : a.0 ≡ joins f.1.0 ++ place = f.1.1 in
    let t = and_true (between_tokens x) (begins_word (ahead e a.0)) a.1.fits in
    let begins : begins_word (ahead e place) ≡ true = ap begins_word (sym (ap (ahead e) is ∙ ahead_joins e f.1.0 place)) ∙ t.1 in
    record {
      place = place;
      joined = record { lines = f.1.0; is = a.1.written ∙ is; over = no_join e b f.0 f.1.2 };
      opens = word (Byte b ∷ ms) r (x ∷ xs) rest (
        place,
        record { written = refl; fits = and_both (between_tokens x) (begins_word (ahead e place)) t.0 begins; level = refl; compound = refl },
        (a.2.0, record { written = (f.0, (0, refl, f.1.2), f.2); fits = a.2.1.fits; level = refl; compound = refl }, a.2.2),
      )
          k d;
    }

pub word_placed : (e : Bool) (limit : ℕ) (done : List Piece) (xs : List Context) (r : Bool) (last rest : List ℕ) (ms : List Piece) → begins_compound (class_of_word r ms) ≡ true → ArePieces e limit done xs (WordOpen ∷ ms) last rest
    → Closed e limit done xs r last rest ms → Sinks e limit done xs r last rest ms → Placed e limit done xs r last rest
word_placed e limit done [] r last rest ms h a k d = absurd a
word_placed e limit done (x ∷ xs) r last rest [] h a k d = absurd (begins_some r h)
word_placed e limit done (x ∷ xs) r last rest (m ∷ ms) h a k d =
    let b = byte_of m (and_true (is_byte m) (list_all is_byte ms) (begins_bytes r (m ∷ ms) h)).0 in
    first_placed e limit done x xs r last rest b.byte ms (subst (λ z. ArePieces e limit done (x ∷ xs) (WordOpen ∷ z ∷ ms) last rest) b.is a)
    (subst (λ z. Closed e limit done (x ∷ xs) r last rest (z ∷ ms)) b.is k) (subst (λ z. Sinks e limit done (x ∷ xs) r last rest (z ∷ ms)) b.is d)
