-- The pieces of a word that the scanner finds close each form that they open, and so do those of a body.
use Rattle.std.proofs.Common.{◌≡◌, ℕ, suc, Bool, true, false, List, [], ◌∷◌, ◌++◌, ◌&&◌, ◌||◌, length, Option, Some, None, refl, sym, ap, ◌∙◌, subst, append-nil, append_assoc, drop}
use Rattle.std.specs.List.{list_all}
use Rattle.std.specs.Prelude.{if◌then◌else◌, nat_eq, not}
use Rattle.sh_token_pieces.specs.declared.head.Head.{Head}
use Rattle.sh_token_pieces.specs.declared.context.Context.{Context}
use Rattle.sh_token_pieces.specs.declared.context.Context.TheVariants.{Top, Commands, Word, Quotes, Braces, Arithmetic, Parenthesis, Body}
use Rattle.sh_token_pieces.specs.declared.piece.Piece.{Piece}
use Rattle.sh_token_pieces.specs.declared.piece.Piece.TheVariants as piece
use Rattle.sh_token_pieces.specs.Bytes.{is_short_parameter}
use Rattle.std.specs.Char.{is_ascii_digit}
use Rattle.sh_base.specs.Names.{begins_name}
use Rattle.sh_token_pieces.specs.Heads.{head_of}
use Rattle.sh_token_pieces.specs.Nested.{Nested as Tokens, none_yet}
use Rattle.sh_token_pieces.specs.TokenClasses.{OfBodies, OfOperator, OfWord, Told, is_byte, with_told}
use Rattle.sh_token_pieces.specs.Pieces.{ArePieces, behind, between_tokens, braces_of, contexts_behind, ends_none, ends_token, fits, has_due, in_word, is_arithmetic, is_body, is_braces, is_parenthesis, is_quoted, is_quotes, is_text, is_word, may_close, top_of, with_class, with_token}
use Rattle.sh_token.specs.declared.token.TokenKind.{TokenKind}
use Rattle.sh_token.specs.Body.{IsPrefix}
use Rattle.sh_token.specs.Tokens.{HasToken, IsToken, is_number}
use Rattle.sh_token.specs.Tokens as tokens
use Rattle.sh_parse_words.specs.Parameters.{short}
use Rattle.sh_laws.specs.Spelled.{Nested, Unclosed, has_value, is_alone}
use Rattle.sh_laws.specs.Spelled as spells

-- ---- truth
both : (a b : Bool) → (a && b) ≡ true → (a ≡ true) × (b ≡ true)
both true b h = (refl, h)
both false b h = cc

-- ---- a parameter of one byte
short_by : {A : Type 0} (name digit at asterisk count status options process background : Bool) (a b c d e f g h i : A)
    → ((at || (asterisk || (status || (options || (process || background))))) || (count || digit)) ≡ true
    → has_value (if name then Some a else if digit then Some b else if at then Some c else if asterisk then Some d else if count then Some e else if status then Some f else if options then Some g else if process then Some h else if background then Some i else None) ≡ true
short_by true digit at asterisk count status options process background a b c d e f g h i k = refl
short_by false true at asterisk count status options process background a b c d e f g h i k = refl
short_by false false true asterisk count status options process background a b c d e f g h i k = refl
short_by false false false true count status options process background a b c d e f g h i k = refl
short_by false false false false true status options process background a b c d e f g h i k = refl
short_by false false false false false true options process background a b c d e f g h i k = refl
short_by false false false false false false true process background a b c d e f g h i k = refl
short_by false false false false false false false true background a b c d e f g h i k = refl
short_by false false false false false false false false true a b c d e f g h i k = refl
short_by false false false false false false false false false a b c d e f g h i k = cc

short_is : (b : ℕ) → is_short_parameter b ≡ true → has_value (short b) ≡ true
short_is b h = short_by (begins_name b) (is_ascii_digit b) (nat_eq b 64) (nat_eq b 42) (nat_eq b 35) (nat_eq b 63) (nat_eq b 45) (nat_eq b 36) (nat_eq b 33) _ _ _ _ _ _ _ _ _ h

-- ---- forms that are open, from the contexts of a word or of a body on
data Base : List Context → Type 0 where
  of_word : (n : ℕ) → Base (Word n ∷ Top ∷ [])
  of_body : Base (Body ∷ [])

data Path (base : List Context) : List Piece → List Context → Type 0 where
  flat : (ms : List Piece) → Nested ms → Path base ms base
  quoted : (ms inside : List Piece) (xs : List Context) → Path base ms xs → Nested inside → Path base (ms ++ piece.DoubleQuotesOpen ∷ inside) (Quotes ∷ xs)
  braced : (ms inside : List Piece) (head : List ℕ) (q : Bool) (xs : List Context) → Path base ms xs → Nested inside → Path base (ms ++ piece.BraceOpen head ∷ inside) (Braces q ∷ xs)
  reckoned : (ms inside : List Piece) (xs : List Context) → Path base ms xs → Nested inside → Path base (ms ++ piece.ArithmeticOpen ∷ inside) (Arithmetic ∷ xs)
  within : (ms : List Piece) (xs : List Context) → Path base ms xs → Path base ms (Parenthesis ∷ xs)

-- more pieces in the innermost form
extend : (base : List Context) (ms : List Piece) (xs : List Context) → Path base ms xs → (g : List Piece) → ((ns : List Piece) → Nested ns → Nested (ns ++ g)) → Path base (ms ++ g) xs
extend base ms xs (flat ns w) g f = flat (ns ++ g) (f ns w)
extend base ms xs (quoted ns inside ys p w) g f =
    subst (λ ls. Path base ls (Quotes ∷ ys)) (sym (append_assoc ns (piece.DoubleQuotesOpen ∷ inside) g)) (quoted ns (inside ++ g) ys p (f inside w))
extend base ms xs (braced ns inside head q ys p w) g f =
    subst (λ ls. Path base ls (Braces q ∷ ys)) (sym (append_assoc ns (piece.BraceOpen head ∷ inside) g)) (braced ns (inside ++ g) head q ys p (f inside w))
extend base ms xs (reckoned ns inside ys p w) g f =
    subst (λ ls. Path base ls (Arithmetic ∷ ys)) (sym (append_assoc ns (piece.ArithmeticOpen ∷ inside) g)) (reckoned ns (inside ++ g) ys p (f inside w))
extend base ms xs (within ns ys p) g f = within (ns ++ g) ys (extend base ns ys p g f)

grow : (base : List Context) (ms : List Piece) (xs : List Context) → Path base ms xs → (m : Piece) → is_alone m ≡ true → Path base (ms ++ m ∷ []) xs
grow base ms xs p m h = extend base ms xs p (m ∷ []) (λ ns w. spells.alone ns m w h)

rest_same : (x y : Context) (xs ys : List Context) → x ∷ xs ≡ y ∷ ys → xs ≡ ys
rest_same x y xs ys h = ap rest_of h
  where
    rest_of : List Context → List Context
    rest_of [] = []
    rest_of (z ∷ zs) = zs

top_same : (x y : Context) (xs ys : List Context) → x ∷ xs ≡ y ∷ ys → x ≡ y
top_same x y xs ys h = ap top_of h

-- what is on top of a base
no_base : (base : List Context) → Base base → (f : Context → Bool) → ((n : ℕ) → f (Word n) ≡ false) → f Body ≡ false → (x : Context) (xs : List Context) → base ≡ x ∷ xs → f x ≡ true → ⊥
no_base base (of_word n) f w b x xs h k = differ (sym (w n) ∙ ap f (top_same _ _ _ _ h) ∙ k)
  where
    differ : false ≡ true → ⊥
    differ e = cc
no_base base of_body f w b x xs h k = differ (sym b ∙ ap f (top_same _ _ _ _ h) ∙ k)
  where
    differ : false ≡ true → ⊥
    differ e = cc

close_quotes : (base : List Context) → Base base → (ms : List Piece) (all xs : List Context) → Path base ms all → all ≡ Quotes ∷ xs → Path base (ms ++ piece.DoubleQuotesClose ∷ []) xs
close_quotes base b ms all xs (flat ns w) h = absurd (no_base base b is_quotes (λ n. refl) refl Quotes xs h refl)
close_quotes base b ms all xs (quoted ns inside ys p w) h =
    subst (λ zs. Path base ((ns ++ piece.DoubleQuotesOpen ∷ inside) ++ piece.DoubleQuotesClose ∷ []) zs) (rest_same _ _ _ _ h)
    (subst (λ ls. Path base ls ys) (sym (append_assoc ns (piece.DoubleQuotesOpen ∷ inside) (piece.DoubleQuotesClose ∷ [])))
    (extend base ns ys p (piece.DoubleQuotesOpen ∷ (inside ++ piece.DoubleQuotesClose ∷ [])) (λ ls v. spells.within_quotes ls inside v w)))
close_quotes base b ms all xs (braced ns inside head q ys p w) h = absurd (cc)
close_quotes base b ms all xs (reckoned ns inside ys p w) h = absurd (cc)
close_quotes base b ms all xs (within ns ys p) h = absurd (cc)

close_braces : (base : List Context) → Base base → (ms : List Piece) (all : List Context) (q : Bool) (xs : List Context) → Path base ms all → all ≡ Braces q ∷ xs → Path base (ms ++ piece.BraceClose ∷ []) xs
close_braces base b ms all q xs (flat ns w) h = absurd (no_base base b is_braces (λ n. refl) refl (Braces q) xs h refl)
close_braces base b ms all q xs (quoted ns inside ys p w) h = absurd (cc)
close_braces base b ms all q xs (braced ns inside head r ys p w) h =
    subst (λ zs. Path base ((ns ++ piece.BraceOpen head ∷ inside) ++ piece.BraceClose ∷ []) zs) (rest_same _ _ _ _ h)
    (subst (λ ls. Path base ls ys) (sym (append_assoc ns (piece.BraceOpen head ∷ inside) (piece.BraceClose ∷ [])))
    (extend base ns ys p (piece.BraceOpen head ∷ (inside ++ piece.BraceClose ∷ [])) (λ ls v. spells.within_braces ls inside head v w)))
close_braces base b ms all q xs (reckoned ns inside ys p w) h = absurd (cc)
close_braces base b ms all q xs (within ns ys p) h = absurd (cc)

close_arithmetic : (base : List Context) → Base base → (ms : List Piece) (all xs : List Context) → Path base ms all → all ≡ Arithmetic ∷ xs → Path base (ms ++ piece.ArithmeticClose ∷ []) xs
close_arithmetic base b ms all xs (flat ns w) h = absurd (no_base base b is_arithmetic (λ n. refl) refl Arithmetic xs h refl)
close_arithmetic base b ms all xs (quoted ns inside ys p w) h = absurd (cc)
close_arithmetic base b ms all xs (braced ns inside head q ys p w) h = absurd (cc)
close_arithmetic base b ms all xs (reckoned ns inside ys p w) h =
    subst (λ zs. Path base ((ns ++ piece.ArithmeticOpen ∷ inside) ++ piece.ArithmeticClose ∷ []) zs) (rest_same _ _ _ _ h)
    (subst (λ ls. Path base ls ys) (sym (append_assoc ns (piece.ArithmeticOpen ∷ inside) (piece.ArithmeticClose ∷ [])))
    (extend base ns ys p (piece.ArithmeticOpen ∷ (inside ++ piece.ArithmeticClose ∷ [])) (λ ls v. spells.within_arithmetic ls inside v w)))
close_arithmetic base b ms all xs (within ns ys p) h = absurd (cc)

-- a parenthesis of arithmetic closes
close_parenthesis : (base : List Context) → Base base → (ms : List Piece) (all xs : List Context) → Path base ms all → all ≡ Parenthesis ∷ xs → Path base ms xs
close_parenthesis base b ms all xs (flat ns w) h = absurd (no_base base b is_parenthesis (λ n. refl) refl Parenthesis xs h refl)
close_parenthesis base b ms all xs (quoted ns inside ys p w) h = absurd (cc)
close_parenthesis base b ms all xs (braced ns inside head q ys p w) h = absurd (cc)
close_parenthesis base b ms all xs (reckoned ns inside ys p w) h = absurd (cc)
close_parenthesis base b ms all xs (within ns ys p) h = subst (λ zs. Path base ns zs) (rest_same _ _ _ _ h) p

-- what stands on top of a base is the base
at_base : (base : List Context) (ms : List Piece) (all : List Context) → Path base ms all → (is_word (top_of all) || is_body (top_of all)) ≡ true → Nested ms × (all ≡ base)
at_base base ms all (flat ns w) h = (w, refl)
at_base base ms all (quoted ns inside ys p w) h = absurd (cc)
at_base base ms all (braced ns inside head q ys p w) h = absurd (cc)
at_base base ms all (reckoned ns inside ys p w) h = absurd (cc)
at_base base ms all (within ns ys p) h = absurd (cc)

-- ---- the contexts of a command substitution
abbrev counted : Context → ℕ → ℕ
counted Top n = n
counted (Commands ts) n = suc n
counted (Word m) n = n
counted Quotes n = n
counted (Braces q) n = n
counted Arithmetic n = n
counted Parenthesis n = n
counted Body n = n

abbrev count : List Context → ℕ
count [] = 0
count (x ∷ xs) = counted x (count xs)

abbrev no_text : List Context → Bool
no_text [] = true
no_text (x ∷ xs) = not (is_text x) && no_text xs

-- contexts that stand in a substitution round which these stand, so many substitutions being open in it
record Inside (tail : List Context) (depth : ℕ) (all : List Context) : Type 0 where
  pub inner : List Context
  pub told : Tokens
  pub joined : all ≡ inner ++ Commands told ∷ tail
  pub depths : count inner ≡ depth
  pub clean : no_text inner ≡ true

quotes_count : (x : Context) (n : ℕ) → is_quotes x ≡ true → counted x n ≡ n
quotes_count Quotes n h = refl
quotes_count x n h = cc

braces_count : (x : Context) (n : ℕ) → is_braces x ≡ true → counted x n ≡ n
braces_count (Braces q) n h = refl
braces_count x n h = cc

arithmetic_count : (x : Context) (n : ℕ) → is_arithmetic x ≡ true → counted x n ≡ n
arithmetic_count Arithmetic n h = refl
arithmetic_count x n h = cc

parenthesis_count : (x : Context) (n : ℕ) → is_parenthesis x ≡ true → counted x n ≡ n
parenthesis_count Parenthesis n h = refl
parenthesis_count x n h = cc

commands_count : (x : Context) (n : ℕ) → may_close x ≡ true → counted x n ≡ suc n
commands_count (Commands ts) n h = refl
commands_count x n h = cc

told_count : (t : Told) (x : Context) (n : ℕ) → counted (with_class t x) n ≡ counted x n
told_count t Top n = refl
told_count t (Commands ts) n = refl
told_count t (Word m) n = refl
told_count t Quotes n = refl
told_count t (Braces q) n = refl
told_count t Arithmetic n = refl
told_count t Parenthesis n = refl
told_count t Body n = refl

told_text : (t : Told) (x : Context) → is_text (with_class t x) ≡ is_text x
told_text t Top = refl
told_text t (Commands ts) = refl
told_text t (Word m) = refl
told_text t Quotes = refl
told_text t (Braces q) = refl
told_text t Arithmetic = refl
told_text t Parenthesis = refl
told_text t Body = refl

-- a context that closes; one that is told of a token
popped : (tail : List Context) (x : Context) (inner : List Context) (ts : Tokens) (d : ℕ) → counted x (count inner) ≡ d → counted x (count inner) ≡ count inner → no_text (x ∷ inner) ≡ true → Inside tail d (inner ++ Commands ts ∷ tail)
popped tail x inner ts d h k c = record { inner = inner; told = ts; joined = refl; depths = sym k ∙ h; clean = (both (not (is_text x)) (no_text inner) c).1 }

same : (tail : List Context) (x : Context) (inner : List Context) (ts : Tokens) (d : ℕ) → counted x (count inner) ≡ d → no_text (x ∷ inner) ≡ true → Inside tail d (x ∷ (inner ++ Commands ts ∷ tail))
same tail x inner ts d h c = record { inner = x ∷ inner; told = ts; joined = refl; depths = h; clean = c }

pushed : (tail : List Context) (y x : Context) (inner : List Context) (ts : Tokens) (d e : ℕ) → counted y d ≡ e → is_text y ≡ false → counted x (count inner) ≡ d → no_text (x ∷ inner) ≡ true → Inside tail e (y ∷ x ∷ (inner ++ Commands ts ∷ tail))
pushed tail y x inner ts d e k t h c =
    record {
      inner = y ∷ x ∷ inner;
      told = ts;
      joined = refl;
      depths = ap (counted y) h ∙ k;
      clean = ap (λ b. not b && no_text (x ∷ inner)) t ∙ c;
    }

told_inside : (tail : List Context) (t : Told) (inner : List Context) (ts : Tokens) (d : ℕ) → count inner ≡ d → no_text inner ≡ true → Inside tail d (with_token t (inner ++ Commands ts ∷ tail))
told_inside tail t [] ts d h c = record { inner = []; told = with_told t ts; joined = refl; depths = h; clean = refl }
told_inside tail t (x ∷ inner) ts d h c =
    record {
      inner = with_class t x ∷ inner;
      told = ts;
      joined = refl;
      depths = told_count t x (count inner) ∙ h;
      clean = ap (λ b. not b && no_text inner) (told_text t x) ∙ c;
    }

-- a byte, which opens or closes a parenthesis of arithmetic, or neither
byte_inside : (tail : List Context) (a b : Bool) (x : Context) (inner : List Context) (ts : Tokens) (d : ℕ) → (b ≡ true → is_parenthesis x ≡ true) → counted x (count inner) ≡ d → no_text (x ∷ inner) ≡ true
    → Inside tail d (if a then Parenthesis ∷ x ∷ (inner ++ Commands ts ∷ tail) else if b then inner ++ Commands ts ∷ tail else x ∷ (inner ++ Commands ts ∷ tail))
byte_inside tail true b x inner ts d f h c = pushed tail Parenthesis x inner ts d d refl refl h c
byte_inside tail false true x inner ts d f h c = popped tail x inner ts d h (parenthesis_count x (count inner) (f refl)) c
byte_inside tail false false x inner ts d f h c = same tail x inner ts d h c

braces_are : (q : Bool) (o : Option Head) (n : ℕ) → (counted (braces_of q o) n ≡ n) × (is_text (braces_of q o) ≡ false)
braces_are q None n = (refl, refl)
braces_are q (Some h) n = (refl, refl)

word_inside : (tail : List Context) (r : Bool) (done : List Piece) (x : Context) (inner : List Context) (ts : Tokens) (d : ℕ) → is_word x ≡ true → counted x (count inner) ≡ d → no_text (x ∷ inner) ≡ true → Inside tail d (behind done x (inner ++ Commands ts ∷ tail) (piece.WordClose r))
word_inside tail r done (Word n) inner ts d w h c = told_inside tail (OfWord r (drop (suc n) done)) inner ts d h (both true (no_text inner) c).1
word_inside tail r done x inner ts d w h c = cc

-- a piece other than `$(` and its `)`, in contexts that stand in a substitution
deeper : (e : Bool) (after : List ℕ) (tail : List Context) (done : List Piece) (m : Piece) (x : Context) (inner : List Context) (ts : Tokens) (d : ℕ) → fits e x m after ≡ true → spells.is_plain m ≡ true → counted x (count inner) ≡ d → no_text (x ∷ inner) ≡ true → Inside tail d (behind done x (inner ++ Commands ts ∷ tail) m)
deeper e after tail done (piece.Byte b) x inner ts d f p h c = byte_inside tail _ _ x inner ts d (λ k. (both _ _ k).1) h c
deeper e after tail done (piece.Escaped b) x inner ts d f p h c = same tail x inner ts d h c
deeper e after tail done (piece.Backslash b) x inner ts d f p h c = same tail x inner ts d h c
deeper e after tail done (piece.SingleQuoted bs) x inner ts d f p h c = same tail x inner ts d h c
deeper e after tail done piece.DoubleQuotesOpen x inner ts d f p h c = pushed tail Quotes x inner ts d d refl refl h c
deeper e after tail done piece.DoubleQuotesClose x inner ts d f p h c = popped tail x inner ts d h (quotes_count x _ f) c
deeper e after tail done piece.Dollar x inner ts d f p h c = same tail x inner ts d h c
deeper e after tail done (piece.Variable bs) x inner ts d f p h c = same tail x inner ts d h c
deeper e after tail done (piece.Parameter b) x inner ts d f p h c = same tail x inner ts d h c
deeper e after tail done (piece.BraceOpen bs) x inner ts d f p h c = pushed tail (braces_of (is_quoted x) (head_of bs)) x inner ts d d (braces_are (is_quoted x) (head_of bs) d).0 (braces_are (is_quoted x) (head_of bs) d).1 h c
deeper e after tail done piece.BraceClose x inner ts d f p h c = popped tail x inner ts d h (braces_count x _ f) c
deeper e after tail done piece.ArithmeticOpen x inner ts d f p h c = pushed tail Arithmetic x inner ts d d refl refl h c
deeper e after tail done piece.ArithmeticClose x inner ts d f p h c = popped tail x inner ts d h (arithmetic_count x _ f) c
deeper e after tail done piece.CommandsOpen x inner ts d f p h c = cc
deeper e after tail done piece.CommandsClose x inner ts d f p h c = cc
deeper e after tail done (piece.Backquoted bs) x inner ts d f p h c = same tail x inner ts d h c
deeper e after tail done piece.WordOpen x inner ts d f p h c = pushed tail (Word (length done)) x inner ts d d refl refl h c
deeper e after tail done (piece.WordClose r) x inner ts d f p h c = word_inside tail r done x inner ts d (both _ _ f).0 h c
deeper e after tail done (piece.Blank b) x inner ts d f p h c = same tail x inner ts d h c
deeper e after tail done (piece.Comment bs) x inner ts d f p h c = same tail x inner ts d h c
deeper e after tail done (piece.Bodies bs) x inner ts d f p h c = told_inside tail OfBodies (x ∷ inner) ts d h c
deeper e after tail done (piece.Operator o) x inner ts d f p h c = told_inside tail (OfOperator o) (x ∷ inner) ts d h c

-- the same directly in the substitution
directly : (e : Bool) (after : List ℕ) (tail : List Context) (done : List Piece) (m : Piece) (ts : Tokens) → fits e (Commands ts) m after ≡ true → spells.is_plain m ≡ true → Inside tail 0 (behind done (Commands ts) tail m)
directly e after tail done piece.WordOpen ts f p = record { inner = Word (length done) ∷ []; told = ts; joined = refl; depths = refl; clean = refl }
directly e after tail done (piece.Blank b) ts f p = record { inner = []; told = ts; joined = refl; depths = refl; clean = refl }
directly e after tail done (piece.Comment bs) ts f p = record { inner = []; told = ts; joined = refl; depths = refl; clean = refl }
directly e after tail done (piece.Bodies bs) ts f p = told_inside tail OfBodies [] ts 0 refl refl
directly e after tail done (piece.Operator o) ts f p = told_inside tail (OfOperator o) [] ts 0 refl refl
directly e after tail done m ts f p = cc

-- ---- where pieces lead: into forms of a word, or into a substitution there
record Substituting (base : List Context) (ms : List Piece) (all : List Context) : Type 0 where
  pub before : List Piece
  pub inside : List Piece
  pub tail : List Context
  pub depth : ℕ
  pub pieces : ms ≡ before ++ piece.CommandsOpen ∷ inside
  pub path : Path base before tail
  pub opened : Unclosed inside depth
  pub contexts : Inside tail depth all

data State (base : List Context) (ms : List Piece) (all : List Context) : Type 0 where
  in_forms : Path base ms all → State base ms all
  in_substitution : Substituting base ms all → State base ms all

quotes_is : (x : Context) → is_quotes x ≡ true → x ≡ Quotes
quotes_is Quotes h = refl
quotes_is x h = cc

arithmetic_is : (x : Context) → is_arithmetic x ≡ true → x ≡ Arithmetic
arithmetic_is Arithmetic h = refl
arithmetic_is x h = cc

parenthesis_is : (x : Context) → is_parenthesis x ≡ true → x ≡ Parenthesis
parenthesis_is Parenthesis h = refl
parenthesis_is x h = cc

braces_is : (x : Context) → is_braces x ≡ true → (q : Bool) × (x ≡ Braces q)
braces_is (Braces q) h = (q, refl)
braces_is x h = cc

no_word_between : (x : Context) → in_word x ≡ true → between_tokens x ≡ true → ⊥
no_word_between (Word n) w h = cc
no_word_between Quotes w h = cc
no_word_between (Braces q) w h = cc
no_word_between Arithmetic w h = cc
no_word_between Parenthesis w h = cc
no_word_between Body w h = cc
no_word_between x w h = cc

no_word_closes : (x : Context) → in_word x ≡ true → may_close x ≡ true → ⊥
no_word_closes (Commands ts) w h = cc
no_word_closes x w h = cc

no_word_due : (x : Context) → in_word x ≡ true → has_due x ≡ true → ⊥
no_word_due (Commands ts) w h = cc
no_word_due x w h = cc

-- what stands in a form is a part of a word
top_in_word : (base : List Context) → Base base → (ms : List Piece) (all : List Context) → Path base ms all → in_word (top_of all) ≡ true
top_in_word base (of_word n) ms all (flat ns w) = refl
top_in_word base of_body ms all (flat ns w) = refl
top_in_word base b ms all (quoted ns inside ys p w) = refl
top_in_word base b ms all (braced ns inside head q ys p w) = refl
top_in_word base b ms all (reckoned ns inside ys p w) = refl
top_in_word base b ms all (within ns ys p) = refl

byte_state : (base : List Context) → Base base → (ms : List Piece) (n : ℕ) (a c : Bool) (x : Context) (xs : List Context) → Path base ms (x ∷ xs) → (c ≡ true → is_parenthesis x ≡ true)
    → State base (ms ++ piece.Byte n ∷ []) (if a then Parenthesis ∷ x ∷ xs else if c then xs else x ∷ xs)
byte_state base b ms n true c x xs p f = in_forms (within (ms ++ piece.Byte n ∷ []) (x ∷ xs) (grow base ms (x ∷ xs) p (piece.Byte n) refl))
byte_state base b ms n false true x xs p f =
    in_forms (close_parenthesis base b (ms ++ piece.Byte n ∷ []) (x ∷ xs) xs (grow base ms (x ∷ xs) p (piece.Byte n) refl) (ap (λ y. y ∷ xs) (parenthesis_is x (f refl))))
byte_state base b ms n false false x xs p f = in_forms (grow base ms (x ∷ xs) p (piece.Byte n) refl)

braces_path : (base : List Context) (ms : List Piece) (head : List ℕ) (q : Bool) (o : Option Head) (xs : List Context) → Path base ms xs → Path base (ms ++ piece.BraceOpen head ∷ []) (braces_of q o ∷ xs)
braces_path base ms head q None xs p = braced ms [] head q xs p spells.none
braces_path base ms head q (Some h) xs p = braced ms [] head _ xs p spells.none

-- of a word, the text goes on behind no piece
abbrev GoesOn : List Context → Bool → Type 0
GoesOn base ends = is_body (top_of base) ≡ false → ends ≡ false

-- the end of a word comes back to the text
word_ends : (base : List Context) → Base base → (ms done : List Piece) (r : Bool) (x : Context) (xs : List Context) → Path base ms (x ∷ xs) → is_word x ≡ true → GoesOn base (ends_token (piece.WordClose r) (behind done x xs (piece.WordClose r))) → ⊥
word_ends base b ms done r x xs p w h = by base b (at_base base ms (x ∷ xs) p (ap (λ t. t || is_body x) w)).1 h
  where
    by : (base : List Context) → Base base → x ∷ xs ≡ base → GoesOn base (ends_token (piece.WordClose r) (behind done x xs (piece.WordClose r))) → ⊥
    by base (of_word n) e g = over x xs (top_same _ _ _ _ e) (rest_same _ _ _ _ e) (g refl)
      where
        over : (y : Context) (ys : List Context) → y ≡ Word n → ys ≡ Top ∷ [] → ends_token (piece.WordClose r) (behind done y ys (piece.WordClose r)) ≡ false → ⊥
        over y ys e f k = differ (sym (ap (λ z. ends_token (piece.WordClose r) (behind done z ys (piece.WordClose r))) e ∙ ap (λ zs. ends_token (piece.WordClose r) (behind done (Word n) zs (piece.WordClose r))) f) ∙ k)
          where
            differ : true ≡ false → ⊥
            differ q = cc
    by base of_body e g = differ (sym w ∙ ap is_word (top_same _ _ _ _ e))
      where
        differ : true ≡ false → ⊥
        differ q = cc

-- a piece more in a form
in_form : (base : List Context) → Base base → (e : Bool) (after : List ℕ) (done ms : List Piece) (m : Piece) (x : Context) (xs : List Context) → Path base ms (x ∷ xs) → fits e x m after ≡ true → GoesOn base (ends_token m (behind done x xs m)) → State base (ms ++ m ∷ []) (behind done x xs m)
in_form base b e after done ms (piece.Byte n) x xs p f k = byte_state base b ms n (nat_eq n 40 && (is_arithmetic x || is_parenthesis x)) (nat_eq n 41 && is_parenthesis x) x xs p (λ h. (both (nat_eq n 41) (is_parenthesis x) h).1)
in_form base b e after done ms (piece.Escaped n) x xs p f k = in_forms (grow base ms _ p (piece.Escaped n) refl)
in_form base b e after done ms (piece.Backslash n) x xs p f k = in_forms (grow base ms _ p (piece.Backslash n) refl)
in_form base b e after done ms (piece.SingleQuoted bs) x xs p f k = in_forms (grow base ms _ p (piece.SingleQuoted bs) refl)
in_form base b e after done ms piece.DoubleQuotesOpen x xs p f k = in_forms (quoted ms [] (x ∷ xs) p spells.none)
in_form base b e after done ms piece.DoubleQuotesClose x xs p f k = in_forms (close_quotes base b ms (x ∷ xs) xs p (ap (λ y. y ∷ xs) (quotes_is x f)))
in_form base b e after done ms piece.Dollar x xs p f k = in_forms (grow base ms _ p piece.Dollar refl)
in_form base b e after done ms (piece.Variable bs) x xs p f k = in_forms (grow base ms _ p (piece.Variable bs) refl)
in_form base b e after done ms (piece.Parameter n) x xs p f k = in_forms (grow base ms _ p (piece.Parameter n) (short_is n (both (in_word x) (is_short_parameter n) f).1))
in_form base b e after done ms (piece.BraceOpen bs) x xs p f k = in_forms (braces_path base ms bs (is_quoted x) (head_of bs) (x ∷ xs) p)
in_form base b e after done ms piece.BraceClose x xs p f k = let q = braces_is x f in in_forms (close_braces base b ms (x ∷ xs) q.0 xs p (ap (λ y. y ∷ xs) q.1))
in_form base b e after done ms piece.ArithmeticOpen x xs p f k = in_forms (reckoned ms [] (x ∷ xs) p spells.none)
in_form base b e after done ms piece.ArithmeticClose x xs p f k = in_forms (close_arithmetic base b ms (x ∷ xs) xs p (ap (λ y. y ∷ xs) (arithmetic_is x f)))
in_form base b e after done ms piece.CommandsOpen x xs p f k =
    in_substitution (record {
      before = ms;
      inside = [];
      tail = x ∷ xs;
      depth = 0;
      pieces = refl;
      path = p;
      opened = spells.empty;
      contexts = record { inner = []; told = none_yet; joined = refl; depths = refl; clean = refl };
    })
in_form base b e after done ms piece.CommandsClose x xs p f k = absurd (no_word_closes x (top_in_word base b ms (x ∷ xs) p) f)
in_form base b e after done ms (piece.Backquoted bs) x xs p f k = in_forms (grow base ms _ p (piece.Backquoted bs) refl)
in_form base b e after done ms piece.WordOpen x xs p f k = absurd (no_word_between x (top_in_word base b ms (x ∷ xs) p) (both (between_tokens x) _ f).0)
in_form base b e after done ms (piece.WordClose r) x xs p f k = absurd (word_ends base b ms done r x xs p (both (is_word x) _ f).0 k)
in_form base b e after done ms (piece.Blank n) x xs p f k = absurd (no_word_between x (top_in_word base b ms (x ∷ xs) p) (both (between_tokens x) _ f).0)
in_form base b e after done ms (piece.Comment bs) x xs p f k = absurd (no_word_between x (top_in_word base b ms (x ∷ xs) p) (both (between_tokens x) _ f).0)
in_form base b e after done ms (piece.Bodies bs) x xs p f k = absurd (no_word_due x (top_in_word base b ms (x ∷ xs) p) (both (has_due x) _ f).0)
in_form base b e after done ms (piece.Operator o) x xs p f k = absurd (no_word_between x (top_in_word base b ms (x ∷ xs) p) (both (between_tokens x) _ f).0)

-- ---- a piece more in a substitution
abbrev all_behind : List Piece → List Context → Piece → List Context
all_behind done [] m = []
all_behind done (x ∷ xs) m = behind done x xs m

abbrev top_fits : Bool → List Context → Piece → List ℕ → Bool
top_fits e [] m after = false
top_fits e (x ∷ xs) m after = fits e x m after

regroup : (before inside : List Piece) (m : Piece) → (before ++ piece.CommandsOpen ∷ inside) ++ m ∷ [] ≡ before ++ piece.CommandsOpen ∷ (inside ++ m ∷ [])
regroup before inside m = append_assoc before (piece.CommandsOpen ∷ inside) (m ∷ [])

still : (base : List Context) (before inside : List Piece) (tail : List Context) (depth : ℕ) (m : Piece) (all : List Context) → Path base before tail → Unclosed (inside ++ m ∷ []) depth → Inside tail depth all → State base ((before ++ piece.CommandsOpen ∷ inside) ++ m ∷ []) all
still base before inside tail depth m all p u c =
    in_substitution (record {
      before = before;
      inside = inside ++ m ∷ [];
      tail = tail;
      depth = depth;
      pieces = regroup before inside m;
      path = p;
      opened = u;
      contexts = c;
    })

over_by : (base : List Context) (before inside : List Piece) (tail : List Context) → Path base before tail → Unclosed inside 0 → State base ((before ++ piece.CommandsOpen ∷ inside) ++ piece.CommandsClose ∷ []) tail
over_by base before inside tail p u =
    in_forms (subst (λ ls. Path base ls tail) (sym (regroup before inside piece.CommandsClose))
    (extend base before tail p (piece.CommandsOpen ∷ (inside ++ piece.CommandsClose ∷ [])) (λ ns v. spells.within_commands ns inside v u)))

-- directly in the substitution
first_in : (base : List Context) (e : Bool) (after : List ℕ) (done before inside : List Piece) (tail : List Context) (m : Piece) (ts : Tokens) → Path base before tail → Unclosed inside 0 → fits e (Commands ts) m after ≡ true → State base ((before ++ piece.CommandsOpen ∷ inside) ++ m ∷ []) (behind done (Commands ts) tail m)
first_in base e after done before inside tail piece.CommandsOpen ts p u f = cc
first_in base e after done before inside tail piece.CommandsClose ts p u f = over_by base before inside tail p u
first_in base e after done before inside tail m ts p u f =
    still base before inside tail 0 m (behind done (Commands ts) tail m) p (spells.plain inside 0 m u refl) (directly e after tail done m ts f refl)

-- deeper in it
next_in : (base : List Context) (e : Bool) (after : List ℕ) (done before inside : List Piece) (tail : List Context) (m : Piece) (x : Context) (inner : List Context) (ts : Tokens) (d : ℕ) → Path base before tail → Unclosed inside d → counted x (count inner) ≡ d → no_text (x ∷ inner) ≡ true → fits e x m after ≡ true
    → State base ((before ++ piece.CommandsOpen ∷ inside) ++ m ∷ []) (behind done x (inner ++ Commands ts ∷ tail) m)
next_in base e after done before inside tail piece.CommandsOpen x inner ts d p u h c f =
    still base before inside tail (suc d) piece.CommandsOpen (Commands none_yet ∷ x ∷ (inner ++ Commands ts ∷ tail)) p (spells.opens inside d u) (pushed tail (Commands none_yet) x inner ts d (suc d) refl refl h c)
next_in base e after done before inside tail piece.CommandsClose x inner ts d p u h c f =
    still base before inside tail (count inner) piece.CommandsClose (inner ++ Commands ts ∷ tail) p
    (spells.closes inside (count inner) (subst (λ n. Unclosed inside n) (sym h ∙ commands_count x (count inner) f) u))
    (record { inner = inner; told = ts; joined = refl; depths = refl; clean = (both (not (is_text x)) (no_text inner) c).1 })
next_in base e after done before inside tail m x inner ts d p u h c f =
    still base before inside tail d m (behind done x (inner ++ Commands ts ∷ tail) m) p (spells.plain inside d m u refl) (deeper e after tail done m x inner ts d f refl h c)

in_by : (base : List Context) (e : Bool) (after : List ℕ) (done before inside : List Piece) (tail : List Context) (m : Piece) (inner : List Context) (ts : Tokens) (d : ℕ) → Path base before tail → Unclosed inside d → count inner ≡ d → no_text inner ≡ true → top_fits e (inner ++ Commands ts ∷ tail) m after ≡ true
    → State base ((before ++ piece.CommandsOpen ∷ inside) ++ m ∷ []) (all_behind done (inner ++ Commands ts ∷ tail) m)
in_by base e after done before inside tail m [] ts d p u h c f = first_in base e after done before inside tail m ts p (subst (λ n. Unclosed inside n) (sym h) u) f
in_by base e after done before inside tail m (x ∷ inner) ts d p u h c f = next_in base e after done before inside tail m x inner ts d p u h c f

in_commands : (base : List Context) (e : Bool) (after : List ℕ) (done ms : List Piece) (m : Piece) (all : List Context) → Substituting base ms all → top_fits e all m after ≡ true → State base (ms ++ m ∷ []) (all_behind done all m)
in_commands base e after done ms m all s f =
    let same = s.contexts.joined in
    subst (λ ls. State base (ls ++ m ∷ []) (all_behind done all m)) (sym s.pieces)
    (subst (λ zs. State base ((s.before ++ piece.CommandsOpen ∷ s.inside) ++ m ∷ []) (all_behind done zs m)) (sym same)
    (in_by base e after done s.before s.inside s.tail m s.contexts.inner s.contexts.told s.depth s.path s.opened s.contexts.depths s.contexts.clean (ap (λ zs. top_fits e zs m after) (sym same) ∙ f)))

-- ---- all pieces
a_piece : (base : List Context) → Base base → (e : Bool) (after : List ℕ) (done ms : List Piece) (m : Piece) (x : Context) (xs all : List Context) → all ≡ x ∷ xs → State base ms all → fits e x m after ≡ true → GoesOn base (ends_token m (behind done x xs m)) → State base (ms ++ m ∷ []) (behind done x xs m)
a_piece base b e after done ms m x xs all same (in_forms p) f g = in_form base b e after done ms m x xs (subst (λ zs. Path base ms zs) same p) f g
a_piece base b e after done ms m x xs all same (in_substitution s) f g = in_commands base e after done ms m (x ∷ xs) (subst (λ zs. Substituting base ms zs) same s) f

no_end : (a b : Bool) → (not a && b) ≡ true → (a ≡ false) × (b ≡ true)
no_end true b h = cc
no_end false b h = (refl, h)

run : (base : List Context) → Base base → (e : Bool) (limit : ℕ) (ms before done : List Piece) (xs : List Context) (bytes rest : List ℕ) → State base before xs → ArePieces e limit done xs ms bytes rest → (is_body (top_of base) ≡ false → ends_none done xs ms ≡ true) → State base (before ++ ms) (contexts_behind done xs ms)
run base b e limit [] before done xs bytes rest s a g = subst (λ ls. State base ls xs) (sym (append-nil before)) s
run base b e limit (m ∷ ms) before done [] bytes rest s a g = absurd a
run base b e limit (m ∷ ms) before done (x ∷ xs) bytes rest s a g =
    let next = a_piece base b e a.0 done before m x xs (x ∷ xs) refl s a.1.fits (λ h. (no_end (ends_token m (behind done x xs m)) (ends_none (done ++ m ∷ []) (behind done x xs m) ms) (g h)).0) in
    subst (λ ls. State base ls (contexts_behind (done ++ m ∷ []) (behind done x xs m) ms)) (append_assoc before (m ∷ []) ms)
    (run base b e limit ms (before ++ m ∷ []) (done ++ m ∷ []) (behind done x xs m) a.0 rest next a.2 (λ h. (no_end (ends_token m (behind done x xs m)) (ends_none (done ++ m ∷ []) (behind done x xs m) ms) (g h)).1))

-- ---- words and bodies
no_commands_below : (x : Context) (xs inner tail : List Context) (ts : Tokens) → x ∷ xs ≡ inner ++ Commands ts ∷ tail → no_text inner ≡ true → is_word x ≡ true → is_text (top_of xs) ≡ true → ⊥
no_commands_below x xs [] tail ts h c w t = by x (top_same _ _ _ _ h) w
  where
    by : (y : Context) → y ≡ Commands ts → is_word y ≡ true → ⊥
    by y e k = differ (sym (ap is_word e) ∙ k)
      where
        differ : false ≡ true → ⊥
        differ q = cc
no_commands_below x xs (y ∷ []) tail ts h c w t = differ (sym (ap (λ zs. is_text (top_of zs)) (rest_same _ _ _ _ h)) ∙ t)
  where
    differ : false ≡ true → ⊥
    differ q = cc
no_commands_below x xs (y ∷ z ∷ inner) tail ts h c w t =
    differ (is_text z) (sym (ap (λ zs. is_text (top_of zs)) (rest_same _ _ _ _ h)) ∙ t) (both (not (is_text z)) (no_text inner) (both (not (is_text y)) (not (is_text z) && no_text inner) c).1).0
  where
    differ : (b : Bool) → b ≡ true → not b ≡ true → ⊥
    differ true p q = cc
    differ false p q = cc

finished_word : (base : List Context) (ms : List Piece) (all : List Context) → State base ms all → (x : Context) (xs : List Context) → all ≡ x ∷ xs → is_word x ≡ true → is_text (top_of xs) ≡ true → Nested ms
finished_word base ms all (in_forms p) x xs h w t = (at_base base ms all p (ap (λ zs. is_word (top_of zs) || is_body (top_of zs)) h ∙ ap (λ b. b || is_body x) w)).0
finished_word base ms all (in_substitution s) x xs h w t = absurd (no_commands_below x xs s.contexts.inner s.tail s.contexts.told (sym h ∙ s.contexts.joined) s.contexts.clean w t)

no_commands_in_body : (inner tail : List Context) (ts : Tokens) → Body ∷ [] ≡ inner ++ Commands ts ∷ tail → ⊥
no_commands_in_body [] tail ts h = cc
no_commands_in_body (y ∷ []) tail ts h = cc
no_commands_in_body (y ∷ z ∷ inner) tail ts h = cc

finished_body : (base : List Context) (ms : List Piece) (all : List Context) → State base ms all → all ≡ Body ∷ [] → Nested ms
finished_body base ms all (in_forms p) h = (at_base base ms all p (ap (λ zs. is_word (top_of zs) || is_body (top_of zs)) h)).0
finished_body base ms all (in_substitution s) h = absurd (no_commands_in_body s.contexts.inner s.tail s.contexts.told (sym h ∙ s.contexts.joined))

abbrev NestedKind : TokenKind → Type 0
NestedKind (TokenKind.Word ms) = Nested ms
NestedKind k = Unit {0}

kind_by : (number : Bool) (ms : List Piece) → Nested ms → NestedKind (if number then TokenKind.Number else TokenKind.Word ms)
kind_by true ms w = tt
kind_by false ms w = w

token_nested : (e : Bool) (limit : ℕ) (gap : List Piece) (prefix rest : List ℕ) (kind : TokenKind) → IsToken e limit gap prefix rest kind → NestedKind kind
token_nested e limit gap prefix rest kind (tokens.ending a b c) = tt
token_nested e limit gap prefix rest kind (tokens.operator o m) = tt
token_nested e limit gap prefix rest kind (tokens.word ms r x xs middle pieces going contexts last text) =
    let base = Word (length gap) ∷ Top ∷ [] in
    let s = run base (of_word (length gap)) e limit ms [] (gap ++ piece.WordOpen ∷ []) base pieces.0 middle (in_forms (flat [] spells.none)) pieces.2 (λ h. going) in
    kind_by (is_number r ms) ms (finished_word base ms _ s x xs contexts (both (is_word x) _ last.fits).0 text)

pub word_nested : (e : Bool) (limit : ℕ) (bytes prefix rest : List ℕ) (ms : List Piece) → HasToken e limit bytes prefix rest (TokenKind.Word ms) → Nested ms
word_nested e limit bytes prefix rest ms w = token_nested e limit w.gap prefix rest (TokenKind.Word ms) w.token

pub body_nested : (limit : ℕ) (bytes : List ℕ) (ms : List Piece) (place : List ℕ) → IsPrefix limit bytes ms place → Nested ms
body_nested limit bytes ms place w =
    finished_body (Body ∷ []) ms _ (run (Body ∷ []) of_body true limit ms [] [] (Body ∷ []) bytes w.last (in_forms (flat [] spells.none)) w.pieces (λ h. absurd (cc))) w.closed

-- ---- behind bytes at the front
data Cut (before g : List Piece) (m : Piece) (ms : List Piece) : Type 0 where
  at_prefix : before ≡ [] → g ≡ m ∷ ms → Cut before g m ms
  behind_it : (others : List Piece) → before ≡ m ∷ others → others ++ g ≡ ms → Cut before g m ms

piece_same : (x y : Piece) (xs ys : List Piece) → x ∷ xs ≡ y ∷ ys → x ≡ y
piece_same x y xs ys h = ap (first_or x) h
  where
    first_or : Piece → List Piece → Piece
    first_or z [] = z
    first_or z (l ∷ ls) = l

pieces_same : (x y : Piece) (xs ys : List Piece) → x ∷ xs ≡ y ∷ ys → xs ≡ ys
pieces_same x y xs ys h = ap others h
  where
    others : List Piece → List Piece
    others [] = []
    others (l ∷ ls) = ls

cut : (before g : List Piece) (m : Piece) (ms : List Piece) → before ++ g ≡ m ∷ ms → Cut before g m ms
cut [] g m ms h = at_prefix refl h
cut (x ∷ before) g m ms h = behind_it before (ap (λ y. y ∷ before) (piece_same _ _ _ _ h)) (pieces_same _ _ _ _ h)

-- a form isn't a byte
no_byte : (m n : Piece) → is_byte m ≡ true → is_byte n ≡ false → m ≡ n → ⊥
no_byte m n h k e = differ (sym h ∙ ap is_byte e ∙ k)
  where
    differ : true ≡ false → ⊥
    differ q = cc

form_behind : (before g ms : List Piece) (m n : Piece) (rest : List Piece) → g ≡ n ∷ rest → is_byte m ≡ true → is_byte n ≡ false → before ++ g ≡ m ∷ ms → ((others : List Piece) → before ≡ m ∷ others → Nested (others ++ g)) → Nested ms
form_behind before g ms m n rest is h k e f = by (cut before g m ms e)
  where
    by : Cut before g m ms → Nested ms
    by (at_prefix a b) = absurd (no_byte m n h k (piece_same _ _ _ _ (sym b ∙ is)))
    by (behind_it others a b) = subst Nested b (f others a)

alone_behind : (before : List Piece) (n m : Piece) (ms : List Piece) → is_alone n ≡ true → Cut before (n ∷ []) m ms → ((others : List Piece) → before ≡ m ∷ others → Nested others) → Nested ms
alone_behind before n m ms k (at_prefix a b) f = subst Nested (pieces_same _ _ _ _ b) spells.none
alone_behind before n m ms k (behind_it others a b) f = subst Nested b (spells.alone others n (f others a) k)

strip : (all : List Piece) → Nested all → (m : Piece) (ms : List Piece) → all ≡ m ∷ ms → is_byte m ≡ true → Nested ms
strip all spells.none m ms e h = cc
strip all (spells.alone before n w k) m ms e h = alone_behind before n m ms k (cut before (n ∷ []) m ms e) (λ others a. strip before w m others a h)
strip all (spells.within_quotes before inside w v) m ms e h =
    form_behind before (piece.DoubleQuotesOpen ∷ (inside ++ piece.DoubleQuotesClose ∷ [])) ms m piece.DoubleQuotesOpen _ refl h refl e (λ others a. spells.within_quotes others inside (strip before w m others a h) v)
strip all (spells.within_braces before inside head w v) m ms e h =
    form_behind before (piece.BraceOpen head ∷ (inside ++ piece.BraceClose ∷ [])) ms m (piece.BraceOpen head) _ refl h refl e (λ others a. spells.within_braces others inside head (strip before w m others a h) v)
strip all (spells.within_arithmetic before inside w v) m ms e h =
    form_behind before (piece.ArithmeticOpen ∷ (inside ++ piece.ArithmeticClose ∷ [])) ms m piece.ArithmeticOpen _ refl h refl e (λ others a. spells.within_arithmetic others inside (strip before w m others a h) v)
strip all (spells.within_commands before inside w v) m ms e h =
    form_behind before (piece.CommandsOpen ∷ (inside ++ piece.CommandsClose ∷ [])) ms m piece.CommandsOpen _ refl h refl e (λ others a. spells.within_commands others inside (strip before w m others a h) v)

pub value_nested : (prefix ms : List Piece) → list_all is_byte prefix ≡ true → Nested (prefix ++ ms) → Nested ms
value_nested [] ms h w = w
value_nested (m ∷ prefix) ms h w =
    let p = both (is_byte m) (list_all is_byte prefix) h in
    value_nested prefix ms p.1 (strip (m ∷ (prefix ++ ms)) w m (prefix ++ ms) refl p.0)
