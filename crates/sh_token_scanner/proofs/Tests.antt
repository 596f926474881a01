-- Tests, and contexts one in another.
use Rattle.std.proofs.Common.{◌≡◌, ◌⊎◌, inl, inr, ◌∙◌, nat_lt, ℕ, suc, ◌+◌, ◌-◌, arith, Bool, true, false, ◌||◌, ◌&&◌, not, nat_eq, List, [], ◌∷◌, length, drop, Option, Some, None, refl, ap, cond, eqb-true}
use Rattle.std.proofs.lemmas.Bool.{ltb-true}
use Rattle.sh_token_pieces.specs.declared.operator.Operator.{Operator}
use Rattle.sh_token_pieces.specs.declared.piece.Piece.{Piece}
use Rattle.sh_token_pieces.specs.declared.piece.Piece.TheVariants.{Byte, Escaped, Backslash, SingleQuoted, DoubleQuotesOpen, DoubleQuotesClose, Dollar, Variable, Parameter, BraceOpen, BraceClose, ArithmeticOpen, ArithmeticClose, CommandsOpen, CommandsClose, Backquoted, WordOpen, WordClose, Blank, Comment, Bodies}
use Rattle.sh_token_pieces.specs.declared.context.Context.{Context}
use Rattle.sh_token_pieces.specs.declared.context.Context.TheVariants.{Top, Commands, Word, Quotes, Braces, Arithmetic, Parenthesis, Body}
use Rattle.sh_token_pieces.specs.declared.head.Head.{Head}
use Rattle.sh_token_pieces.specs.Bytes.{is_redirection}
use Rattle.sh_token_pieces.specs.Characters.{Ahead, ahead, next_is}
use Rattle.sh_token_pieces.specs.Heads.{head_of}
use Rattle.sh_token_pieces.specs.Pieces.{stands, ends_word, same_as, fits, behind, with_token, word_over, behind_byte, braces_of, in_word, is_text, is_body, between_tokens, is_word, is_quotes, is_braces, is_arithmetic, is_parenthesis, has_single_quotes, has_double_quotes, is_quoted, may_close, top_of, levels, is_right_parenthesis, is_newline, is_more}
use Rattle.sh_token_pieces.specs.Nested.{open_in}
use Rattle.sh_token_pieces.specs.TokenClasses.{Told, OfOperator, OfWord, OfBodies, with_told}
use Rattle.sh_token_grammar.specs.Shell.{substitution}
use Rattle.sh_token_scanner.specs.Machine.{in_place}

pub not_or : (c d : Bool) → not (c || d) ≡ true → (c ≡ false) × (d ≡ false)
not_or true d h = absurd (cc)
not_or false true h = absurd (cc)
not_or false false h = (refl, refl)

pub or_false : (c d : Bool) → (c || d) ≡ false → (c ≡ false) × (d ≡ false)
or_false true d h = absurd (cc)
or_false false d h = (refl, h)

pub and_true : (c d : Bool) → (c && d) ≡ true → (c ≡ true) × (d ≡ true)
and_true true d h = (refl, h)
and_true false d h = absurd (cc)

pub not_true : (c : Bool) → not c ≡ true → c ≡ false
not_true true h = absurd (cc)
not_true false h = refl

pub not_false : (c : Bool) → c ≡ false → not c ≡ true
not_false true h = absurd (cc)
not_false false h = refl

pub and_false : (c : Bool) → (c && false) ≡ false
and_false true = refl
and_false false = refl

pub and_right : (c d : Bool) → d ≡ false → (c && d) ≡ false
and_right true d h = h
and_right false d h = refl

pub and_left : (c d : Bool) → c ≡ false → (c && d) ≡ false
and_left true d h = absurd (cc)
and_left false d h = refl

pub and_both : (c d : Bool) → c ≡ true → d ≡ true → (c && d) ≡ true
and_both true d h g = g
and_both false d h g = absurd (cc)

-- a byte that passes a test is no byte that doesn't
pub differs : (f : ℕ → Bool) (a b : ℕ) → f b ≡ true → f a ≡ false → nat_eq b a ≡ false
differs f a b h g = go (nat_eq b a) refl
  where
    go : (c : Bool) → nat_eq b a ≡ c → c ≡ false
    go false e = refl
    go true e = let x = ap f (eqb-true b a e) in absurd (cc)

-- the text itself or a body is below all others, words stand in commands and everything else in a word
abbrev pub nested : List Context → Bool
nested [] = false
nested (Top ∷ []) = true
nested (Top ∷ x ∷ xs) = false
nested (Commands ts ∷ xs) = in_word (top_of xs) && nested xs
nested (Word n ∷ xs) = between_tokens (top_of xs) && nested xs
nested (Quotes ∷ xs) = in_word (top_of xs) && nested xs
nested (Braces q ∷ xs) = in_word (top_of xs) && nested xs
nested (Arithmetic ∷ xs) = in_word (top_of xs) && nested xs
nested (Parenthesis ∷ xs) = in_word (top_of xs) && nested xs
nested (Body ∷ []) = true
nested (Body ∷ x ∷ xs) = false

abbrev pub is_ground : Context → Bool
is_ground x = is_text x || is_body x

-- what isn't the ground stands on something
pub below : (x : Context) (xs : List Context) → is_ground x ≡ false → nested (x ∷ xs) ≡ true → nested xs ≡ true
below Top xs t h = absurd (cc)
below (Commands ts) xs t h = (and_true (in_word (top_of xs)) (nested xs) h).1
below (Word n) xs t h = (and_true (between_tokens (top_of xs)) (nested xs) h).1
below Quotes xs t h = (and_true (in_word (top_of xs)) (nested xs) h).1
below (Braces q) xs t h = (and_true (in_word (top_of xs)) (nested xs) h).1
below Arithmetic xs t h = (and_true (in_word (top_of xs)) (nested xs) h).1
below Parenthesis xs t h = (and_true (in_word (top_of xs)) (nested xs) h).1
below Body xs t h = absurd (cc)

pub below_word : (n : ℕ) (xs : List Context) → nested (Word n ∷ xs) ≡ true → between_tokens (top_of xs) ≡ true
below_word n xs h = (and_true (between_tokens (top_of xs)) (nested xs) h).0

pub word_no_text : (x : Context) → in_word x ≡ true → is_text x ≡ false
word_no_text Top h = absurd (cc)
word_no_text (Commands ts) h = absurd (cc)
word_no_text (Word n) h = refl
word_no_text Quotes h = refl
word_no_text (Braces q) h = refl
word_no_text Arithmetic h = refl
word_no_text Parenthesis h = refl
word_no_text Body h = refl

pub word_no_gap : (x : Context) → in_word x ≡ true → between_tokens x ≡ false
word_no_gap Top h = absurd (cc)
word_no_gap (Commands ts) h = absurd (cc)
word_no_gap (Word n) h = refl
word_no_gap Quotes h = refl
word_no_gap (Braces q) h = refl
word_no_gap Arithmetic h = refl
word_no_gap Parenthesis h = refl
word_no_gap Body h = refl

pub double_in_word : (x : Context) → has_double_quotes x ≡ true → in_word x ≡ true
double_in_word Top h = absurd (cc)
double_in_word (Commands ts) h = absurd (cc)
double_in_word (Word n) h = refl
double_in_word Quotes h = absurd (cc)
double_in_word (Braces q) h = refl
double_in_word Arithmetic h = absurd (cc)
double_in_word Parenthesis h = absurd (cc)
double_in_word Body h = absurd (cc)

pub single_in_word : (x : Context) → has_single_quotes x ≡ true → in_word x ≡ true
single_in_word Top h = absurd (cc)
single_in_word (Commands ts) h = absurd (cc)
single_in_word (Word n) h = refl
single_in_word Quotes h = absurd (cc)
single_in_word (Braces q) h = refl
single_in_word Arithmetic h = absurd (cc)
single_in_word Parenthesis h = absurd (cc)
single_in_word Body h = absurd (cc)

-- one more token in the innermost
pub nested_token : (c : Told) (xs : List Context) → nested xs ≡ true → nested (with_token c xs) ≡ true
nested_token c [] h = h
nested_token c (Top ∷ xs) h = h
nested_token c (Commands ts ∷ xs) h = h
nested_token c (Word n ∷ xs) h = h
nested_token c (Quotes ∷ xs) h = h
nested_token c (Braces q ∷ xs) h = h
nested_token c (Arithmetic ∷ xs) h = h
nested_token c (Parenthesis ∷ xs) h = h
nested_token c (Body ∷ xs) h = h

-- the levels of the innermost give way to those behind one more token
nothing_taken : (n : ℕ) → (n - 0) + 0 ≡ n
nothing_taken n = omega arith

some_taken : (a b n : ℕ) → (suc (a + n) - a) + b ≡ suc (b + n)
some_taken a b n = omega arith

pub levels_taken : (c : Told) (xs : List Context) → in_place (top_of xs) (top_of (with_token c xs)) (levels xs) ≡ levels (with_token c xs)
levels_taken c [] = refl
levels_taken c (Top ∷ xs) = nothing_taken (levels xs)
levels_taken c (Commands ts ∷ xs) = some_taken (open_in ts.tokens) (open_in (with_told c ts).tokens) (levels xs)
levels_taken c (Word n ∷ xs) = nothing_taken (levels xs)
levels_taken c (Quotes ∷ xs) = nothing_taken (levels xs)
levels_taken c (Braces q ∷ xs) = nothing_taken (suc (levels xs))
levels_taken c (Arithmetic ∷ xs) = nothing_taken (suc (levels xs))
levels_taken c (Parenthesis ∷ xs) = nothing_taken (levels xs)
levels_taken c (Body ∷ xs) = nothing_taken (levels xs)

-- a substitution that is left takes its compound commands with it
pub levels_left : (a n : ℕ) → (suc (a + n) - a) - 1 ≡ n
levels_left a n = omega arith

-- no compound command is open where no token came
pub none_open : open_in [] ≡ 0
unfolding open_in substitution
none_open = refl

pub levels_opened : (n : ℕ) → suc (open_in [] + n) ≡ suc n
levels_opened n = let e = none_open in omega (arith, e)

pub between_token : (c : Told) (xs : List Context) → between_tokens (top_of (with_token c xs)) ≡ between_tokens (top_of xs)
between_token c [] = refl
between_token c (Top ∷ xs) = refl
between_token c (Commands ts ∷ xs) = refl
between_token c (Word n ∷ xs) = refl
between_token c (Quotes ∷ xs) = refl
between_token c (Braces q ∷ xs) = refl
between_token c (Arithmetic ∷ xs) = refl
between_token c (Parenthesis ∷ xs) = refl
between_token c (Body ∷ xs) = refl

pub text_token : (c : Told) (xs : List Context) → is_text (top_of (with_token c xs)) ≡ is_text (top_of xs)
text_token c [] = refl
text_token c (Top ∷ xs) = refl
text_token c (Commands ts ∷ xs) = refl
text_token c (Word n ∷ xs) = refl
text_token c (Quotes ∷ xs) = refl
text_token c (Braces q ∷ xs) = refl
text_token c (Arithmetic ∷ xs) = refl
text_token c (Parenthesis ∷ xs) = refl
text_token c (Body ∷ xs) = refl

-- a body is alone below all others
pub body_alone : (xs : List Context) → nested xs ≡ true → is_body (top_of xs) ≡ true → xs ≡ Body ∷ []
body_alone [] h t = absurd (cc)
body_alone (Top ∷ xs) h t = absurd (cc)
body_alone (Commands ts ∷ xs) h t = absurd (cc)
body_alone (Word n ∷ xs) h t = absurd (cc)
body_alone (Quotes ∷ xs) h t = absurd (cc)
body_alone (Braces q ∷ xs) h t = absurd (cc)
body_alone (Arithmetic ∷ xs) h t = absurd (cc)
body_alone (Parenthesis ∷ xs) h t = absurd (cc)
body_alone (Body ∷ []) h t = refl
body_alone (Body ∷ x ∷ xs) h t = absurd (cc)

-- and so is the text itself, in which no level is open
text_alone : (xs : List Context) → nested xs ≡ true → is_text (top_of xs) ≡ true → (xs ≡ []) ⊎ (xs ≡ Top ∷ [])
text_alone [] h t = inl refl
text_alone (Top ∷ []) h t = inr refl
text_alone (Top ∷ x ∷ xs) h t = absurd (cc)
text_alone (Commands ts ∷ xs) h t = absurd (cc)
text_alone (Word n ∷ xs) h t = absurd (cc)
text_alone (Quotes ∷ xs) h t = absurd (cc)
text_alone (Braces q ∷ xs) h t = absurd (cc)
text_alone (Arithmetic ∷ xs) h t = absurd (cc)
text_alone (Parenthesis ∷ xs) h t = absurd (cc)
text_alone (Body ∷ xs) h t = absurd (cc)

nothing_less : (n : ℕ) → nat_lt n 0 ≡ false
nothing_less n = go (nat_lt n 0) refl
  where
    go : (c : Bool) → nat_lt n 0 ≡ c → c ≡ false
    go false h = refl
    go true h = let l = ltb-true n 0 h in absurd (omega (arith, l))

pub text_serves : (limit : ℕ) (b : Bool) (c : Told) (xs : List Context) → nested xs ≡ true → is_text (top_of xs) ≡ true → (b && nat_lt limit (levels (with_token c xs))) ≡ false
text_serves limit b c xs h t = and_right b (nat_lt limit (levels (with_token c xs))) (go (text_alone xs h t))
  where
    go : (xs ≡ []) ⊎ (xs ≡ Top ∷ []) → nat_lt limit (levels (with_token c xs)) ≡ false
    go (inl i) = ap (λ z. nat_lt limit (levels (with_token c z))) i ∙ nothing_less limit
    go (inr i) = ap (λ z. nat_lt limit (levels (with_token c z))) i ∙ nothing_less limit

-- what is left by a piece of its own is not the text itself
pub quotes_left : (x : Context) → is_quotes x ≡ true → is_text x ≡ false
quotes_left Top h = absurd (cc)
quotes_left (Commands ts) h = refl
quotes_left (Word n) h = refl
quotes_left Quotes h = refl
quotes_left (Braces q) h = refl
quotes_left Arithmetic h = refl
quotes_left Parenthesis h = refl
quotes_left Body h = refl

quotes_no_ground : (x : Context) → is_quotes x ≡ true → is_ground x ≡ false
quotes_no_ground Top h = absurd (cc)
quotes_no_ground (Commands ts) h = absurd (cc)
quotes_no_ground (Word n) h = absurd (cc)
quotes_no_ground Quotes h = refl
quotes_no_ground (Braces q) h = absurd (cc)
quotes_no_ground Arithmetic h = absurd (cc)
quotes_no_ground Parenthesis h = absurd (cc)
quotes_no_ground Body h = absurd (cc)

pub braces_left : (x : Context) → is_braces x ≡ true → is_text x ≡ false
braces_left Top h = absurd (cc)
braces_left (Commands ts) h = refl
braces_left (Word n) h = refl
braces_left Quotes h = refl
braces_left (Braces q) h = refl
braces_left Arithmetic h = refl
braces_left Parenthesis h = refl
braces_left Body h = refl

braces_no_ground : (x : Context) → is_braces x ≡ true → is_ground x ≡ false
braces_no_ground Top h = absurd (cc)
braces_no_ground (Commands ts) h = absurd (cc)
braces_no_ground (Word n) h = absurd (cc)
braces_no_ground Quotes h = absurd (cc)
braces_no_ground (Braces q) h = refl
braces_no_ground Arithmetic h = absurd (cc)
braces_no_ground Parenthesis h = absurd (cc)
braces_no_ground Body h = absurd (cc)

pub arithmetic_left : (x : Context) → is_arithmetic x ≡ true → is_text x ≡ false
arithmetic_left Top h = absurd (cc)
arithmetic_left (Commands ts) h = refl
arithmetic_left (Word n) h = refl
arithmetic_left Quotes h = refl
arithmetic_left (Braces q) h = refl
arithmetic_left Arithmetic h = refl
arithmetic_left Parenthesis h = refl
arithmetic_left Body h = refl

arithmetic_no_ground : (x : Context) → is_arithmetic x ≡ true → is_ground x ≡ false
arithmetic_no_ground Top h = absurd (cc)
arithmetic_no_ground (Commands ts) h = absurd (cc)
arithmetic_no_ground (Word n) h = absurd (cc)
arithmetic_no_ground Quotes h = absurd (cc)
arithmetic_no_ground (Braces q) h = absurd (cc)
arithmetic_no_ground Arithmetic h = refl
arithmetic_no_ground Parenthesis h = absurd (cc)
arithmetic_no_ground Body h = absurd (cc)

parenthesis_no_ground : (x : Context) → is_parenthesis x ≡ true → is_ground x ≡ false
parenthesis_no_ground Top h = absurd (cc)
parenthesis_no_ground (Commands ts) h = absurd (cc)
parenthesis_no_ground (Word n) h = absurd (cc)
parenthesis_no_ground Quotes h = absurd (cc)
parenthesis_no_ground (Braces q) h = absurd (cc)
parenthesis_no_ground Arithmetic h = absurd (cc)
parenthesis_no_ground Parenthesis h = refl
parenthesis_no_ground Body h = absurd (cc)

pub closing_left : (x : Context) → may_close x ≡ true → is_text x ≡ false
closing_left Top h = absurd (cc)
closing_left (Commands ts) h = refl
closing_left (Word n) h = refl
closing_left Quotes h = refl
closing_left (Braces q) h = refl
closing_left Arithmetic h = refl
closing_left Parenthesis h = refl
closing_left Body h = refl

closing_no_ground : (x : Context) → may_close x ≡ true → is_ground x ≡ false
closing_no_ground Top h = absurd (cc)
closing_no_ground (Commands ts) h = refl
closing_no_ground (Word n) h = absurd (cc)
closing_no_ground Quotes h = absurd (cc)
closing_no_ground (Braces q) h = absurd (cc)
closing_no_ground Arithmetic h = absurd (cc)
closing_no_ground Parenthesis h = absurd (cc)
closing_no_ground Body h = absurd (cc)

-- a word in what stands between tokens, and everything else in a word
pub nested_word : (n : ℕ) (x : Context) (xs : List Context) → between_tokens x ≡ true → nested (x ∷ xs) ≡ true → nested (Word n ∷ x ∷ xs) ≡ true
nested_word n x xs b h = rw (b, h) refl

nested_in : (x : Context) (xs : List Context) → in_word x ≡ true → nested (x ∷ xs) ≡ true → (in_word x && nested (x ∷ xs)) ≡ true
nested_in x xs b h = and_both (in_word x) (nested (x ∷ xs)) b h

parenthesis_nested : (b : ℕ) (x : Context) (xs : List Context) → in_word x ≡ true → nested (x ∷ xs) ≡ true → nested (behind_byte b x xs) ≡ true
parenthesis_nested b x xs w h = go (nat_eq b 40 && (is_arithmetic x || is_parenthesis x)) (nat_eq b 41 && is_parenthesis x) refl
  where
    go : (c d : Bool) → (nat_eq b 41 && is_parenthesis x) ≡ d → nested (cond c (Parenthesis ∷ x ∷ xs) (cond d xs (x ∷ xs))) ≡ true
    go true d i = nested_in x xs w h
    go false true i = below x xs (parenthesis_no_ground x (and_true (nat_eq b 41) (is_parenthesis x) i).1) h
    go false false i = h

pub stands_in_word : (x : Context) (b : ℕ) (next : Ahead) → stands x b next ≡ true → in_word x ≡ true
stands_in_word Top b next h = absurd (cc)
stands_in_word (Commands ts) b next h = absurd (cc)
stands_in_word (Word n) b next h = refl
stands_in_word Quotes b next h = refl
stands_in_word (Braces q) b next h = refl
stands_in_word Arithmetic b next h = refl
stands_in_word Parenthesis b next h = refl
stands_in_word Body b next h = refl

close_nested : (r : Bool) (done : List Piece) (x : Context) (xs : List Context) → is_word x ≡ true → nested (x ∷ xs) ≡ true → nested (word_over r done (x ∷ xs)) ≡ true
close_nested r done Top xs w h = absurd (cc)
close_nested r done (Commands ts) xs w h = absurd (cc)
close_nested r done (Word n) xs w h = nested_token (OfWord r (drop (suc n) done)) xs (below (Word n) xs refl h)
close_nested r done Quotes xs w h = absurd (cc)
close_nested r done (Braces q) xs w h = absurd (cc)
close_nested r done Arithmetic xs w h = absurd (cc)
close_nested r done Parenthesis xs w h = absurd (cc)
close_nested r done Body xs w h = absurd (cc)

braces_nested : (h : Option Head) (q : Bool) (x : Context) (xs : List Context) → in_word x ≡ true → nested (x ∷ xs) ≡ true → nested (braces_of q h ∷ x ∷ xs) ≡ true
braces_nested None q x xs w n = nested_in x xs w n
braces_nested (Some h) q x xs w n = nested_in x xs w n

-- each piece that fits keeps them nested
pub nested_behind : (e : Bool) (done : List Piece) (x : Context) (xs : List Context) (m : Piece) (after : List ℕ) → nested (x ∷ xs) ≡ true → fits e x m after ≡ true → nested (behind done x xs m) ≡ true
nested_behind e done x xs (Byte b) after n f = parenthesis_nested b x xs (stands_in_word x b _ f) n
nested_behind e done x xs (Escaped b) after n f = n
nested_behind e done x xs (Backslash b) after n f = n
nested_behind e done x xs (SingleQuoted bs) after n f = n
nested_behind e done x xs DoubleQuotesOpen after n f = nested_in x xs (double_in_word x f) n
nested_behind e done x xs DoubleQuotesClose after n f = below x xs (quotes_no_ground x f) n
nested_behind e done x xs Dollar after n f = n
nested_behind e done x xs (Variable bs) after n f = n
nested_behind e done x xs (Parameter b) after n f = n
nested_behind e done x xs (BraceOpen bs) after n f = braces_nested (head_of bs) (is_quoted x) x xs (and_true (in_word x) _ f).0 n
nested_behind e done x xs BraceClose after n f = below x xs (braces_no_ground x f) n
nested_behind e done x xs ArithmeticOpen after n f = nested_in x xs f n
nested_behind e done x xs ArithmeticClose after n f = below x xs (arithmetic_no_ground x f) n
nested_behind e done x xs CommandsOpen after n f = nested_in x xs (and_true (in_word x) _ f).0 n
nested_behind e done x xs CommandsClose after n f = below x xs (closing_no_ground x f) n
nested_behind e done x xs (Backquoted bs) after n f = n
nested_behind e done x xs WordOpen after n f = nested_word (length done) x xs (and_true (between_tokens x) _ f).0 n
nested_behind e done x xs (WordClose r) after n f = close_nested r done x xs (and_true (is_word x) (ends_word (ahead e after) && same_as r (next_is is_redirection (ahead e after))) f).0 n
nested_behind e done x xs (Blank b) after n f = n
nested_behind e done x xs (Comment bs) after n f = n
nested_behind e done x xs (Bodies bs) after n f = nested_token OfBodies (x ∷ xs) n
nested_behind e done x xs (Piece.Operator o) after n f = nested_token (OfOperator o) (x ∷ xs) n

-- an operator that is neither a `)` nor a newline is nothing more
pub more_none : (o : Operator) (x : Context) → is_right_parenthesis o ≡ false → is_newline o ≡ false → is_more o x ≡ false
more_none o x h g = rw (h, g) refl

pub or_none : (a b : Bool) → a ≡ false → b ≡ false → (a || b) ≡ false
or_none a b h g = rw (h, g) refl
