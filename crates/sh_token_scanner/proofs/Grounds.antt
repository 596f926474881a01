-- What lies below all other contexts stays there alone.
use Rattle.std.proofs.Common.{◌≡◌, ℕ, Bool, true, false, ◌||◌, ◌&&◌, not, nat_eq, suc, List, [], ◌∷◌, ◌++◌, length, drop, Option, Some, None, refl, cond}
use Rattle.sh_token_pieces.specs.declared.context.Context.{Context}
use Rattle.sh_token_pieces.specs.declared.context.Context.TheVariants.{Top, Commands, Word, Quotes, Braces, Arithmetic, Parenthesis, Body}
use Rattle.sh_token_pieces.specs.declared.head.Head.{Head}
use Rattle.sh_token_pieces.specs.declared.piece.Piece.{Piece}
use Rattle.sh_token_pieces.specs.declared.piece.Piece.TheVariants.{Byte, Escaped, Backslash, SingleQuoted, DoubleQuotesOpen, DoubleQuotesClose, Dollar, Variable, Parameter, BraceOpen, BraceClose, ArithmeticOpen, ArithmeticClose, CommandsOpen, CommandsClose, Backquoted, WordOpen, WordClose, Blank, Comment, Bodies}
use Rattle.sh_token_pieces.specs.Heads.{head_of, reads_bare}
use Rattle.sh_token_pieces.specs.Nested.{Nested, none_yet}
use Rattle.sh_token_pieces.specs.Pieces.{behind, contexts_behind, with_token, word_over, behind_byte, braces_of, is_text, is_body, is_word, is_arithmetic, is_parenthesis, is_quoted, top_of}
use Rattle.sh_token_pieces.specs.TokenClasses.{Told, OfOperator, OfWord, OfBodies, with_told}
use Rattle.sh_token_scanner.proofs.Tests.{and_true, and_both, not_false, nested}

-- the test holds for no context that is gone into
pub record Never (f : Context → Bool) : Type 0 where
  pub commands : (ts : Nested) → f (Commands ts) ≡ false
  pub word : (n : ℕ) → f (Word n) ≡ false
  pub quotes : f Quotes ≡ false
  pub braces : (q : Bool) → f (Braces q) ≡ false
  pub arithmetic : f Arithmetic ≡ false
  pub parenthesis : f Parenthesis ≡ false

pub never_text : Never is_text
never_text = record { commands = λ ts. refl; word = λ n. refl; quotes = refl; braces = λ q. refl; arithmetic = refl; parenthesis = refl }

pub never_body : Never is_body
never_body = record { commands = λ ts. refl; word = λ n. refl; quotes = refl; braces = λ q. refl; arithmetic = refl; parenthesis = refl }

abbrev pub free : (Context → Bool) → List Context → Bool
free f [] = true
free f (x ∷ xs) = not (f x) && free f xs

free_in : (f : Context → Bool) (x : Context) (xs : List Context) → f x ≡ false → free f xs ≡ true → free f (x ∷ xs) ≡ true
free_in f x xs h g = and_both (not (f x)) (free f xs) (not_false (f x) h) g

free_out : (f : Context → Bool) (x : Context) (xs : List Context) → free f (x ∷ xs) ≡ true → free f xs ≡ true
free_out f x xs h = (and_true (not (f x)) (free f xs) h).1

free_token : (f : Context → Bool) → Never f → (c : Told) (xs : List Context) → free f xs ≡ true → free f (with_token c xs) ≡ true
free_token f v c [] h = refl
free_token f v c (Top ∷ xs) h = h
free_token f v c (Commands ts ∷ xs) h = free_in f (Commands (with_told c ts)) xs (v.commands (with_told c ts)) (free_out f (Commands ts) xs h)
free_token f v c (Word n ∷ xs) h = h
free_token f v c (Quotes ∷ xs) h = h
free_token f v c (Braces q ∷ xs) h = h
free_token f v c (Arithmetic ∷ xs) h = h
free_token f v c (Parenthesis ∷ xs) h = h
free_token f v c (Body ∷ xs) h = h

free_over : (f : Context → Bool) → Never f → (r : Bool) (done : List Piece) (x : Context) (xs : List Context) → free f (x ∷ xs) ≡ true → free f (word_over r done (x ∷ xs)) ≡ true
free_over f v r done Top xs h = free_out f Top xs h
free_over f v r done (Commands ts) xs h = free_out f (Commands ts) xs h
free_over f v r done (Word n) xs h = free_token f v (OfWord r (drop (suc n) done)) xs (free_out f (Word n) xs h)
free_over f v r done Quotes xs h = free_out f Quotes xs h
free_over f v r done (Braces q) xs h = free_out f (Braces q) xs h
free_over f v r done Arithmetic xs h = free_out f Arithmetic xs h
free_over f v r done Parenthesis xs h = free_out f Parenthesis xs h
free_over f v r done Body xs h = free_out f Body xs h

free_parenthesized : (f : Context → Bool) → Never f → (b : ℕ) (x : Context) (xs : List Context) → free f (x ∷ xs) ≡ true → free f (behind_byte b x xs) ≡ true
free_parenthesized f v b x xs h = go (nat_eq b 40 && (is_arithmetic x || is_parenthesis x)) (nat_eq b 41 && is_parenthesis x)
  where
    go : (c d : Bool) → free f (cond c (Parenthesis ∷ x ∷ xs) (cond d xs (x ∷ xs))) ≡ true
    go true d = free_in f Parenthesis (x ∷ xs) v.parenthesis h
    go false true = free_out f x xs h
    go false false = h

free_braces : (f : Context → Bool) → Never f → (q : Bool) (g : Option Head) (xs : List Context) → free f xs ≡ true → free f (braces_of q g ∷ xs) ≡ true
free_braces f v q None xs h = free_in f (Braces q) xs (v.braces q) h
free_braces f v q (Some g) xs h = free_in f (Braces (q && not (reads_bare g))) xs (v.braces (q && not (reads_bare g))) h

pub free_behind : (f : Context → Bool) → Never f → (done : List Piece) (x : Context) (xs : List Context) (m : Piece) → free f (x ∷ xs) ≡ true → free f (behind done x xs m) ≡ true
free_behind f v done x xs (Byte b) h = free_parenthesized f v b x xs h
free_behind f v done x xs (Escaped b) h = h
free_behind f v done x xs (Backslash b) h = h
free_behind f v done x xs (SingleQuoted bs) h = h
free_behind f v done x xs DoubleQuotesOpen h = free_in f Quotes (x ∷ xs) v.quotes h
free_behind f v done x xs DoubleQuotesClose h = free_out f x xs h
free_behind f v done x xs Dollar h = h
free_behind f v done x xs (Variable bs) h = h
free_behind f v done x xs (Parameter b) h = h
free_behind f v done x xs (BraceOpen bs) h = free_braces f v (is_quoted x) (head_of bs) (x ∷ xs) h
free_behind f v done x xs BraceClose h = free_out f x xs h
free_behind f v done x xs ArithmeticOpen h = free_in f Arithmetic (x ∷ xs) v.arithmetic h
free_behind f v done x xs ArithmeticClose h = free_out f x xs h
free_behind f v done x xs CommandsOpen h = free_in f (Commands none_yet) (x ∷ xs) (v.commands none_yet) h
free_behind f v done x xs CommandsClose h = free_out f x xs h
free_behind f v done x xs (Backquoted bs) h = h
free_behind f v done x xs WordOpen h = free_in f (Word (length done)) (x ∷ xs) (v.word (length done)) h
free_behind f v done x xs (WordClose r) h = free_over f v r done x xs h
free_behind f v done x xs (Blank b) h = h
free_behind f v done x xs (Comment bs) h = h
free_behind f v done x xs (Bodies bs) h = free_token f v OfBodies (x ∷ xs) h
free_behind f v done x xs (Piece.Operator o) h = free_token f v (OfOperator o) (x ∷ xs) h

pub free_contexts : (f : Context → Bool) → Never f → (ms done : List Piece) (xs : List Context) → free f xs ≡ true → free f (contexts_behind done xs ms) ≡ true
free_contexts f v [] done xs h = h
free_contexts f v (m ∷ ms) done [] h = refl
free_contexts f v (m ∷ ms) done (x ∷ xs) h = free_contexts f v ms (done ++ m ∷ []) (behind done x xs m) (free_behind f v done x xs m h)

-- where the text itself is not below, no token of it ends
pub no_token_over : (x : Context) (xs : List Context) → free is_text (x ∷ xs) ≡ true → nested (x ∷ xs) ≡ true → is_word x ≡ true → is_text (top_of xs) ≡ true → ⊥
no_token_over x (y ∷ ys) f n w t =
    let p = and_true (not (is_text x)) (not (is_text y) && free is_text ys) f in
    let q = and_true (not (is_text y)) (free is_text ys) p.1 in
    both (is_text y) t q.0
  where
    both : (c : Bool) → c ≡ true → not c ≡ true → ⊥
    both true h g = absurd (cc)
    both false h g = absurd (cc)
no_token_over Top [] f n w t = absurd (cc)
no_token_over (Commands ts) [] f n w t = absurd (cc)
no_token_over (Word k) [] f n w t = absurd (cc)
no_token_over Quotes [] f n w t = absurd (cc)
no_token_over (Braces q) [] f n w t = absurd (cc)
no_token_over Arithmetic [] f n w t = absurd (cc)
no_token_over Parenthesis [] f n w t = absurd (cc)
no_token_over Body [] f n w t = absurd (cc)
