-- No text opens as many levels as it has bytes.
use Rattle.std.proofs.Common.{◌≡◌, ℕ, suc, ◌+◌, ◌-◌, ◌<◌, ◌≤◌, nat_eq, nat_lt, cond, Bool, true, false, not, ◌||◌, ◌&&◌, List, [], ◌∷◌, ◌++◌, length, drop, Option, Some, None, refl, sym, ap, ◌∙◌, subst, arith}
use Rattle.std.specs.List.{list_all}
use Rattle.std.proofs.lemmas.Bool.{ltb-true}
use Rattle.std.proofs.lemmas.Grind.{common_steps}
use Rattle.sh_token_grammar.specs.Levels.{begins_compound}
use Rattle.sh_token_pieces.specs.declared.character.Character.{Character}
use Rattle.sh_token_pieces.specs.declared.character.Character.TheVariants.{Plain, Quoted, Raw}
use Rattle.sh_token_pieces.specs.declared.context.Context.{Context}
use Rattle.sh_token_pieces.specs.declared.context.Context.TheVariants.{Top, Commands, Word, Quotes, Braces, Arithmetic, Parenthesis, Body}
use Rattle.sh_token_pieces.specs.declared.head.Head.{Head}
use Rattle.sh_token_pieces.specs.declared.piece.Piece.{Piece}
use Rattle.sh_token_pieces.specs.declared.piece.Piece.TheVariants.{Byte, Escaped, Backslash, SingleQuoted, DoubleQuotesOpen, DoubleQuotesClose, Dollar, Variable, Parameter, BraceOpen, BraceClose, ArithmeticOpen, ArithmeticClose, CommandsOpen, CommandsClose, Backquoted, WordOpen, WordClose, Blank, Comment, Bodies}
use Rattle.sh_token_pieces.specs.declared.operator.Operator.{Operator}
use Rattle.sh_token_pieces.specs.Bytes.{is_end, is_redirection}
use Rattle.sh_token_pieces.specs.Characters.{plain, raw, Written, Ahead, Next, InputEnd, Unknown, ahead, next_is}
use Rattle.sh_token_pieces.specs.Heads.{head_of}
use Rattle.sh_token_pieces.specs.Here.{lines, are_bodies}
use Rattle.sh_token_pieces.specs.Nested.{none_yet}
use Rattle.sh_token_pieces.specs.Operators.{operator_text}
use Rattle.sh_token_pieces.specs.TokenClasses.{Told, OfBodies, OfOperator, OfWord, is_byte, class_of_word, class_of_operator}
use Rattle.sh_token_pieces.specs.Spelling.{spell_piece}
use Rattle.sh_token_pieces.specs.Pieces.{ArePieces, IsPiece, behind, begins_word, between_tokens, braces_of, contexts_behind, due_in, ends_operator, ends_word, has_due, is_arithmetic, is_more, is_parenthesis, is_quoted, is_word, levels, behind_byte, same_as, top_of, with_token, word_begins, word_over}
use Rattle.sh_token.specs.Body.{TooDeepAt, IsBodyTooDeep}
use Rattle.sh_token.specs.FirstToken.{DeepAt, IsFirst}
use Rattle.sh_token.specs.Found.{first_token, pieces_of_body}
use Rattle.sh_token.specs.Tokens.{IsTooDeep, OpensLevel, braces, parenthesis, backquote, Exceeds, OpensTooMany, form, operator, word}
use Rattle.sh_token_scanner.proofs.Between.{Made, one_byte, two_bytes, three_bytes, made, between_no_word}
use Rattle.sh_token.proofs.BodyLaws.{body_law}
use Rattle.sh_token_scanner.proofs.Bytes.{levels_parenthesized}
use Rattle.sh_token.proofs.Gaps.{behind_open}
use Rattle.sh_token.proofs.Laws.{is_first, joined_length, reads_length, written_length}
use Rattle.sh_token_scanner.proofs.Tests.{and_true, not_true, levels_opened}
use Rattle.sh_token.proofs.WordStarts.{begins_bytes, begins_some, byte_of}
use Rattle.sh_laws.proofs.Growth.{levels_grow}

-- what is written has bytes
written_some : (e : Bool) (c : Character) (cs : List Character) (m rest : List ℕ) → Written e (c ∷ cs) m rest → length rest < length m
written_some e c cs m rest w =
    let a = reads_length e c m w.0 w.1 in
    let b = written_length e cs w.0 rest w.2 in
    omega (a, b, arith)

written_two : (e : Bool) (c d : Character) (cs : List Character) (m rest : List ℕ) → Written e (c ∷ d ∷ cs) m rest → suc (length rest) < length m
written_two e c d cs m rest w =
    let a = reads_length e c m w.0 w.1 in
    let b = written_some e d cs w.0 rest w.2 in
    omega (a, b, arith)

operator_some : (e : Bool) (o : Operator) (m rest : List ℕ) → Made o → Written e (plain (operator_text o)) m rest → length rest < length m
operator_some e o m rest (one_byte b s f y z) w = let v : Written e (plain (b ∷ [])) m rest = subst (λ t. Written e (plain t) m rest) s w in written_some e (Plain b) [] m rest v
operator_some e o m rest (two_bytes b c p s f y z j l) w = let v : Written e (plain (b ∷ c ∷ [])) m rest = subst (λ t. Written e (plain t) m rest) s w in written_some e (Plain b) (Plain c ∷ []) m rest v
operator_some e o m rest (three_bytes b c d p q s f y z j l n u) w =
    let v : Written e (plain (b ∷ c ∷ d ∷ [])) m rest = subst (λ t. Written e (plain t) m rest) s w in written_some e (Plain b) (Plain c ∷ Plain d ∷ []) m rest v

-- the words that are open
abbrev words : List Context → ℕ
words [] = 0
words (Top ∷ xs) = words xs
words (Commands ts ∷ xs) = words xs
words (Word n ∷ xs) = suc (words xs)
words (Quotes ∷ xs) = words xs
words (Braces q ∷ xs) = words xs
words (Arithmetic ∷ xs) = words xs
words (Parenthesis ∷ xs) = words xs
words (Body ∷ xs) = words xs

-- the contexts behind a piece
below : (x : Context) (xs : List Context) → levels xs ≤ levels (x ∷ xs)
below Top xs = omega arith
below (Commands ts) xs = omega arith
below (Word n) xs = omega arith
below Quotes xs = omega arith
below (Braces q) xs = omega arith
below Arithmetic xs = omega arith
below Parenthesis xs = omega arith
below Body xs = omega arith

words_below : (x : Context) (xs : List Context) → words xs ≤ words (x ∷ xs)
words_below Top xs = omega arith
words_below (Commands ts) xs = omega arith
words_below (Word n) xs = omega arith
words_below Quotes xs = omega arith
words_below (Braces q) xs = omega arith
words_below Arithmetic xs = omega arith
words_below Parenthesis xs = omega arith
words_below Body xs = omega arith

words_token : (c : Told) (xs : List Context) → words (with_token c xs) ≡ words xs
words_token c [] = refl
words_token c (Top ∷ xs) = refl
words_token c (Commands ts ∷ xs) = refl
words_token c (Word n ∷ xs) = refl
words_token c (Quotes ∷ xs) = refl
words_token c (Braces q ∷ xs) = refl
words_token c (Arithmetic ∷ xs) = refl
words_token c (Parenthesis ∷ xs) = refl
words_token c (Body ∷ xs) = refl

-- the end of a word opens a level at most, and leaves the word
over_levels : (r : Bool) (done : List Piece) (x : Context) (xs : List Context) → levels (word_over r done (x ∷ xs)) + words (word_over r done (x ∷ xs)) ≤ levels (x ∷ xs) + words (x ∷ xs)
over_levels r done Top xs = let a = below Top xs in let b = words_below Top xs in omega (a, b, arith)
over_levels r done (Commands ts) xs = let a = below (Commands ts) xs in let b = words_below (Commands ts) xs in omega (a, b, arith)
over_levels r done (Word n) xs =
    let a = levels_grow (OfWord r (drop (suc n) done)) xs in
    let b : words (with_token (OfWord r (drop (suc n) done)) xs) ≡ words xs = words_token (OfWord r (drop (suc n) done)) xs in
    omega (a, b, arith)
over_levels r done Quotes xs = let a = below Quotes xs in let b = words_below Quotes xs in omega (a, b, arith)
over_levels r done (Braces q) xs = let a = below (Braces q) xs in let b = words_below (Braces q) xs in omega (a, b, arith)
over_levels r done Arithmetic xs = let a = below Arithmetic xs in let b = words_below Arithmetic xs in omega (a, b, arith)
over_levels r done Parenthesis xs = let a = below Parenthesis xs in let b = words_below Parenthesis xs in omega (a, b, arith)
over_levels r done Body xs = let a = below Body xs in let b = words_below Body xs in omega (a, b, arith)

braces_levels : (q : Bool) (head : Option Head) (xs : List Context) → levels (braces_of q head ∷ xs) ≡ suc (levels xs)
braces_levels q None xs = refl
braces_levels q (Some h) xs = refl

braces_words : (q : Bool) (head : Option Head) (xs : List Context) → words (braces_of q head ∷ xs) ≡ words xs
braces_words q None xs = refl
braces_words q (Some h) xs = refl

parenthesized_words : (b : ℕ) (x : Context) (xs : List Context) → words (behind_byte b x xs) ≤ words (x ∷ xs)
parenthesized_words b x xs = go (nat_eq b 40 && (is_arithmetic x || is_parenthesis x)) (nat_eq b 41 && is_parenthesis x)
  where
    go : (c d : Bool) → words (cond c (Parenthesis ∷ x ∷ xs) (cond d xs (x ∷ xs))) ≤ words (x ∷ xs)
    go true d = omega arith
    go false true = words_below x xs
    go false false = omega arith

due_no_word : (x : Context) → has_due x ≡ true → is_word x ≡ false
due_no_word Top h = absurd (cc)
due_no_word (Commands ts) h = refl
due_no_word (Word n) h = absurd (cc)
due_no_word Quotes h = absurd (cc)
due_no_word (Braces q) h = absurd (cc)
due_no_word Arithmetic h = absurd (cc)
due_no_word Parenthesis h = absurd (cc)
due_no_word Body h = absurd (cc)

-- what begins a word ends none
begins_no_end : (y : Ahead) → begins_word y ≡ true → ends_word y ≡ true → ⊥
begins_no_end (Next (Plain b)) h g = let n = not_true (is_end b) (and_true (not (is_end b)) (not (nat_eq b 35)) h).0 in cc
begins_no_end (Next (Quoted b)) h g = cc
begins_no_end (Next (Raw b)) h g = cc
begins_no_end InputEnd h g = cc
begins_no_end Unknown h g = cc

abbrev is_open : Piece → Bool
is_open WordOpen = true
is_open m = false

-- the levels, and the words of which a piece came: each may be a token that opens a level when it is over.
-- fresh: the innermost word begins here
abbrev weight : Bool → List Context → ℕ
weight fresh xs = levels xs + (words xs - cond fresh 1 0)

abbrev Fresh : Bool → Bool → Context → List ℕ → Type 0
Fresh e fresh x bytes = fresh ≡ true → (is_word x ≡ true) × (begins_word (ahead e bytes) ≡ true)

-- a piece weighs no more than its bytes
module _ (e : Bool) (limit : ℕ) (fresh : Bool) (done : List Piece) (x : Context) (xs : List Context) (bytes after : List ℕ) where
  abbrev Holds : Bool → List Context → Type 0
  Holds again ys = weight again ys + length after ≤ weight fresh (x ∷ xs) + length bytes

  -- one that opens no level
  flat : (c : Character) (cs : List Character) (ys : List Context) → Written e (c ∷ cs) bytes after → levels ys ≤ levels (x ∷ xs) → words ys ≤ words (x ∷ xs) → Holds false ys
  flat c cs ys w l k = go fresh
    where
      go : (f : Bool) → weight false ys + length after ≤ weight f (x ∷ xs) + length bytes
      go true = let a = written_some e c cs bytes after w in omega (a, l, k, arith)
      go false = let a = written_some e c cs bytes after w in omega (a, l, k, arith)

  deeper : (c d : Character) (cs : List Character) (ys : List Context) → Written e (c ∷ d ∷ cs) bytes after → levels ys ≡ suc (levels (x ∷ xs)) → words ys ≤ words (x ∷ xs) → Holds false ys
  deeper c d cs ys w l k = go fresh
    where
      go : (f : Bool) → weight false ys + length after ≤ weight f (x ∷ xs) + length bytes
      go true = let a = written_two e c d cs bytes after w in omega (a, l, k, arith)
      go false = let a = written_two e c d cs bytes after w in omega (a, l, k, arith)

  -- one that stands between tokens
  token : (ys : List Context) → (fresh ≡ true → ⊥) → length after < length bytes → levels ys ≤ suc (levels (x ∷ xs)) → words ys ≡ words (x ∷ xs) → Holds false ys
  token ys n a l k = go fresh n
    where
      go : (f : Bool) → (f ≡ true → ⊥) → weight false ys + length after ≤ weight f (x ∷ xs) + length bytes
      go true n = absurd (n refl)
      go false n = omega (a, l, k, arith)

  no_word : is_word x ≡ false → Fresh e fresh x bytes → fresh ≡ true → ⊥
  no_word h f i = let g = sym (f i).0 ∙ h in absurd (cc)

  between_no : between_tokens x ≡ true → Fresh e fresh x bytes → fresh ≡ true → ⊥
  between_no b f i = no_word (between_no_word x b) f i

  opened : Fresh e fresh x bytes → IsPiece e limit done x xs WordOpen bytes after → Holds true (Word (length done) ∷ x ∷ xs)
  opened f i = go fresh (between_no (and_true (between_tokens x) (begins_word (ahead e after)) i.fits).0 f)
    where
      go : (c : Bool) → (c ≡ true → ⊥) → weight true (Word (length done) ∷ x ∷ xs) + length after ≤ weight c (x ∷ xs) + length bytes
      go true n = absurd (n refl)
      go false n = let a = ap length i.written in omega (a, arith)

  closed : (r : Bool) → Fresh e fresh x bytes → IsPiece e limit done x xs (WordClose r) bytes after → Holds false (word_over r done (x ∷ xs))
  closed r f i = go fresh never
    where
      ends : ends_word (ahead e after) ≡ true
      ends = (and_true (ends_word (ahead e after)) (same_as r (next_is is_redirection (ahead e after))) (and_true (is_word x) (ends_word (ahead e after) && same_as r (next_is is_redirection (ahead e after))) i.fits).1).0

      never : fresh ≡ true → ⊥
      never k = begins_no_end (ahead e bytes) (f k).1 (ap (λ z. ends_word (ahead e z)) i.written ∙ ends)

      go : (c : Bool) → (c ≡ true → ⊥) → weight false (word_over r done (x ∷ xs)) + length after ≤ weight c (x ∷ xs) + length bytes
      go true n = absurd (n refl)
      go false n = let a = ap length i.written in let b = over_levels r done x xs in omega (a, b, arith)

  one_piece : (m : Piece) → Fresh e fresh x bytes → IsPiece e limit done x xs m bytes after → Holds (is_open m) (behind done x xs m)
  one_piece (Byte b) f i =
      let a : levels (behind_byte b x xs) ≡ levels (x ∷ xs) = levels_parenthesized limit x xs done 0 b in flat (Plain b) [] (behind_byte b x xs) i.written (omega (a, arith)) (parenthesized_words b x xs)
  one_piece (Escaped b) f i = flat (Quoted b) [] (x ∷ xs) i.written (omega arith) (omega arith)
  one_piece (Backslash b) f i = flat (Quoted b) [] (x ∷ xs) i.written (omega arith) (omega arith)
  one_piece (SingleQuoted bs) f i = flat (Plain 39) (raw bs ++ Raw 39 ∷ []) (x ∷ xs) i.written (omega arith) (omega arith)
  one_piece DoubleQuotesOpen f i = flat (Plain 34) [] (Quotes ∷ x ∷ xs) i.written (omega arith) (omega arith)
  one_piece DoubleQuotesClose f i = flat (Plain 34) [] xs i.written (below x xs) (words_below x xs)
  one_piece Dollar f i = flat (Plain 36) [] (x ∷ xs) i.written (omega arith) (omega arith)
  one_piece (Variable bs) f i = flat (Plain 36) (plain bs) (x ∷ xs) i.written (omega arith) (omega arith)
  one_piece (Parameter b) f i = flat (Plain 36) (Plain b ∷ []) (x ∷ xs) i.written (omega arith) (omega arith)
  one_piece (BraceOpen bs) f i =
      let k : words (braces_of (is_quoted x) (head_of bs) ∷ x ∷ xs) ≡ words (x ∷ xs) = braces_words (is_quoted x) (head_of bs) (x ∷ xs) in
      deeper (Plain 36) (Plain 123) (plain bs) (braces_of (is_quoted x) (head_of bs) ∷ x ∷ xs) i.written (braces_levels (is_quoted x) (head_of bs) (x ∷ xs)) (omega (k, arith))
  one_piece BraceClose f i = flat (Plain 125) [] xs i.written (below x xs) (words_below x xs)
  one_piece ArithmeticOpen f i = deeper (Plain 36) (Plain 40) (Plain 40 ∷ []) (Arithmetic ∷ x ∷ xs) i.written refl (omega arith)
  one_piece ArithmeticClose f i = flat (Plain 41) (Plain 41 ∷ []) xs i.written (below x xs) (words_below x xs)
  one_piece CommandsOpen f i = deeper (Plain 36) (Plain 40) [] (Commands none_yet ∷ x ∷ xs) i.written (levels_opened (levels (x ∷ xs))) (omega arith)
  one_piece CommandsClose f i = flat (Plain 41) [] xs i.written (below x xs) (words_below x xs)
  one_piece (Backquoted bs) f i = flat (Plain 96) (raw bs ++ Raw 96 ∷ []) (x ∷ xs) i.written (omega arith) (omega arith)
  one_piece WordOpen f i = opened f i
  one_piece (WordClose r) f i = closed r f i
  one_piece (Blank b) f i = flat (Plain b) [] (x ∷ xs) i.written (omega arith) (omega arith)
  one_piece (Comment bs) f i = flat (Plain 35) (raw bs) (x ∷ xs) i.written (omega arith) (omega arith)
  one_piece (Bodies bs) f i =
      let d = and_true (has_due x) (are_bodies (due_in x) false (lines [] bs)) i.fits in
      token (with_token OfBodies (x ∷ xs)) (no_word (due_no_word x d.0) f) (written_some e (Plain 10) (raw bs) bytes after i.written) (levels_grow OfBodies (x ∷ xs)) (words_token OfBodies (x ∷ xs))
  one_piece (Piece.Operator o) f i =
      let d = and_true (between_tokens x) (ends_operator o (ahead e after) && not (is_more o x)) i.fits in
      token (with_token (OfOperator o) (x ∷ xs)) (between_no d.0 f) (operator_some e o bytes after (made o) i.written) (levels_grow (OfOperator o) (x ∷ xs)) (words_token (OfOperator o) (x ∷ xs))

-- whether the innermost word begins behind a piece
fresh_behind : (e : Bool) (limit : ℕ) (done : List Piece) (x : Context) (xs : List Context) (m : Piece) (bytes after : List ℕ) (y : Context) (ys : List Context) → IsPiece e limit done x xs m bytes after → behind done x xs m ≡ y ∷ ys
    → Fresh e (is_open m) y after
fresh_behind e limit done x xs (Byte b) bytes after y ys i w = λ t. absurd (cc)
fresh_behind e limit done x xs (Escaped b) bytes after y ys i w = λ t. absurd (cc)
fresh_behind e limit done x xs (Backslash b) bytes after y ys i w = λ t. absurd (cc)
fresh_behind e limit done x xs (SingleQuoted bs) bytes after y ys i w = λ t. absurd (cc)
fresh_behind e limit done x xs DoubleQuotesOpen bytes after y ys i w = λ t. absurd (cc)
fresh_behind e limit done x xs DoubleQuotesClose bytes after y ys i w = λ t. absurd (cc)
fresh_behind e limit done x xs Dollar bytes after y ys i w = λ t. absurd (cc)
fresh_behind e limit done x xs (Variable bs) bytes after y ys i w = λ t. absurd (cc)
fresh_behind e limit done x xs (Parameter b) bytes after y ys i w = λ t. absurd (cc)
fresh_behind e limit done x xs (BraceOpen bs) bytes after y ys i w = λ t. absurd (cc)
fresh_behind e limit done x xs BraceClose bytes after y ys i w = λ t. absurd (cc)
fresh_behind e limit done x xs ArithmeticOpen bytes after y ys i w = λ t. absurd (cc)
fresh_behind e limit done x xs ArithmeticClose bytes after y ys i w = λ t. absurd (cc)
fresh_behind e limit done x xs CommandsOpen bytes after y ys i w = λ t. absurd (cc)
fresh_behind e limit done x xs CommandsClose bytes after y ys i w = λ t. absurd (cc)
fresh_behind e limit done x xs (Backquoted bs) bytes after y ys i w = λ t. absurd (cc)
fresh_behind e limit done x xs WordOpen bytes after y ys i w =
    λ t. (subst (λ z. is_word (top_of z) ≡ true) w refl, (and_true (between_tokens x) (begins_word (ahead e after)) i.fits).1)
fresh_behind e limit done x xs (WordClose r) bytes after y ys i w = λ t. absurd (cc)
fresh_behind e limit done x xs (Blank b) bytes after y ys i w = λ t. absurd (cc)
fresh_behind e limit done x xs (Comment bs) bytes after y ys i w = λ t. absurd (cc)
fresh_behind e limit done x xs (Bodies bs) bytes after y ys i w = λ t. absurd (cc)
fresh_behind e limit done x xs (Piece.Operator o) bytes after y ys i w = λ t. absurd (cc)

all_pieces : (e : Bool) (limit : ℕ) (fresh : Bool) (ms done : List Piece) (xs : List Context) (bytes rest : List ℕ) → ((y : Context) (ys : List Context) → xs ≡ y ∷ ys → Fresh e fresh y bytes) → ArePieces e limit done xs ms bytes rest
    → levels (contexts_behind done xs ms) + length rest ≤ weight fresh xs + length bytes
all_pieces e limit fresh [] done xs bytes rest f a = subst (λ z. levels xs + length z ≤ weight fresh xs + length bytes) a (omega arith)
all_pieces e limit fresh (m ∷ ms) done [] bytes rest f a = absurd a
all_pieces e limit fresh (m ∷ ms) done (x ∷ xs) bytes rest f a =
    let one = one_piece e limit fresh done x xs bytes a.0 m (f x xs refl) a.1 in
    let others = all_pieces e limit (is_open m) ms (done ++ m ∷ []) (behind done x xs m) a.0 rest (λ y ys w. fresh_behind e limit done x xs m bytes a.0 y ys a.1 w) a.2 in
    omega (one, others, arith)

-- pieces that begin in no word
from_ground : (e : Bool) (limit : ℕ) (ms done : List Piece) (x : Context) (bytes rest : List ℕ) → words (x ∷ []) ≡ 0 → levels (x ∷ []) ≡ 0 → ArePieces e limit done (x ∷ []) ms bytes rest
    → levels (contexts_behind done (x ∷ []) ms) + length rest ≤ length bytes
from_ground e limit ms done x bytes rest w l a =
    let h = all_pieces e limit false ms done (x ∷ []) bytes rest (λ y ys k t. absurd (cc)) a in
    omega (h, w, l, arith)

-- where a level opens there is a byte
pub opens_some : (e : Bool) (place : List ℕ) → OpensLevel e place → 0 < length place
opens_some e place (braces after w) = let a = written_some e (Plain 36) (Plain 123 ∷ []) place after w in omega (a, arith)
opens_some e place (parenthesis after w) = let a = written_some e (Plain 36) (Plain 40 ∷ []) place after w in omega (a, arith)
opens_some e place (backquote after w) = let a = written_some e (Plain 96) [] place after w in omega (a, arith)

full_is : (lv limit : ℕ) → nat_lt lv limit ≡ false → limit ≤ lv
full_is lv limit h = grind (arith, common_steps, h)

over_is : (lv limit : ℕ) → nat_lt limit lv ≡ true → limit < lv
over_is lv limit h = ltb-true limit lv h

-- where a level too many opens, as many are open as may be, and there is a byte
record TooMany (limit : ℕ) (place : List ℕ) (xs : List Context) : Type 0 where
  full : limit ≤ levels xs
  some : 0 < length place

by_word : (e : Bool) (limit : ℕ) (done : List Piece) (place : List ℕ) (xs : List Context) (ms : List Piece) (r : Bool) (middle : List ℕ) → ArePieces e limit done xs (WordOpen ∷ ms) place middle
    → Exceeds e limit (done ++ WordOpen ∷ ms) (Word (length done)) xs (WordClose r) middle → TooMany limit place xs
by_word e limit done place xs ms r middle a d =
    let c = OfWord r (drop (suc (length done)) (done ++ WordOpen ∷ ms)) in
    let p = and_true (word_begins r (done ++ WordOpen ∷ ms) (Word (length done))) (nat_lt limit (levels (with_token c xs))) d.exceeds in
    let g = levels_grow c xs in
    let o = over_is (levels (with_token c xs)) limit p.1 in
    let h = ap (λ z. begins_compound (class_of_word r z)) (sym (behind_open done ms)) ∙ p.0 in
    record { full = omega (g, o, arith); some = first_byte ms h xs a }
  where
    first_byte : (ms : List Piece) → begins_compound (class_of_word r ms) ≡ true → (xs : List Context) → ArePieces e limit done xs (WordOpen ∷ ms) place middle → 0 < length place
    first_byte ms h [] a = absurd a
    first_byte [] h (x ∷ xs) a = absurd (begins_some r h)
    first_byte (m ∷ ms) h (x ∷ xs) a =
        let b = byte_of m (and_true (is_byte m) (list_all is_byte ms) (begins_bytes r (m ∷ ms) h)).0 in
        let w : Written e (Plain b.byte ∷ []) a.0 a.2.0 = subst (λ z. Written e (spell_piece z) a.0 a.2.0) b.is a.2.1.written in
        let s = written_some e (Plain b.byte) [] a.0 a.2.0 w in
        let l = ap length a.1.written in
        omega (s, l, arith)

too_many : (e : Bool) (limit : ℕ) (done : List Piece) (place : List ℕ) (xs : List Context) → OpensTooMany e limit done place xs → TooMany limit place xs
too_many e limit done place xs (form _ w h o) = record { full = full_is (levels xs) limit h; some = opens_some e place o }
too_many e limit done place _ (operator o x xs d) =
    let p = and_true (begins_compound (class_of_operator o)) (nat_lt limit (levels (with_token (OfOperator o) (x ∷ xs)))) d.exceeds in
    let g = levels_grow (OfOperator o) (x ∷ xs) in
    let v = over_is (levels (with_token (OfOperator o) (x ∷ xs))) limit p.1 in
    let s = operator_some e o place d.after (made o) d.written in
    record { full = omega (g, v, arith); some = omega (s, arith) }
too_many e limit done place xs (word ms r _ middle a k d) = by_word e limit done place xs ms r middle a d

pub deep_some : (e : Bool) (limit : ℕ) (bytes place : List ℕ) → IsTooDeep e limit bytes place → 0 < length place
deep_some e limit bytes place h = (too_many e limit (h.gap ++ WordOpen ∷ h.pieces) place (contexts_behind h.gap (Top ∷ []) (WordOpen ∷ h.pieces)) h.opens).some

pub body_deep_some : (limit : ℕ) (bytes place : List ℕ) → IsBodyTooDeep limit bytes place → 0 < length place
body_deep_some limit bytes place h = (too_many true limit h.pieces place (contexts_behind [] (Body ∷ []) h.pieces) h.opens).some

not_deep : (e : Bool) (limit : ℕ) (bytes place : List ℕ) → length bytes ≤ limit → IsTooDeep e limit bytes place → ⊥
not_deep e limit bytes place l h =
    let a = from_ground e limit h.gap [] Top bytes h.middle refl refl h.between in
    let b = joined_length h.middle h.prefix h.joined in
    let c = from_ground e limit (WordOpen ∷ h.pieces) h.gap Top h.prefix h.last refl refl h.before in
    let d = joined_length h.last place h.placed in
    let o = too_many e limit (h.gap ++ WordOpen ∷ h.pieces) place (contexts_behind h.gap (Top ∷ []) (WordOpen ∷ h.pieces)) h.opens in
    let f = o.full in
    let s = o.some in
    omega (a, b, c, d, f, s, l, arith)

pub token_not_deep : (e : Bool) (limit : ℕ) (bytes : List ℕ) (place : ℕ) → length bytes ≤ limit → first_token e limit bytes ≡ DeepAt place → ⊥
token_not_deep e limit bytes place l h =
    let f : IsFirst e limit bytes (DeepAt place) = subst (λ z. IsFirst e limit bytes z) h (is_first e limit bytes) in
    not_deep e limit bytes f.0 l f.1

body_deep : (limit : ℕ) (bytes place : List ℕ) → length bytes ≤ limit → IsBodyTooDeep limit bytes place → ⊥
body_deep limit bytes place l h =
    let a = from_ground true limit h.pieces [] Body bytes h.last refl refl h.before in
    let d = joined_length h.last place h.placed in
    let o = too_many true limit h.pieces place (contexts_behind [] (Body ∷ []) h.pieces) h.opens in
    let f = o.full in
    let s = o.some in
    omega (a, d, f, s, l, arith)

pub body_not_deep : (limit : ℕ) (bytes : List ℕ) (place : ℕ) → length bytes ≤ limit → pieces_of_body limit bytes ≡ TooDeepAt place → ⊥
body_not_deep limit bytes place l h =
    let f = (body_law limit bytes (TooDeepAt place)).0 h in
    body_deep limit bytes f.0 l f.1
