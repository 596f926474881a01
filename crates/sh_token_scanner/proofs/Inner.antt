-- Pieces of a word, one behind another, are run to their end.
use Rattle.std.proofs.Common.{◌≡◌, ℕ, suc, Bool, true, false, ◌||◌, ◌&&◌, not, nat_eq, List, [], ◌∷◌, ◌++◌, length, drop, Option, Some, None, refl, sym, ◌∙◌, subst, append_assoc, cond}
use Rattle.std.specs.List.{list_all}
use Rattle.std.proofs.lemmas.List.{append-nil}
use Rattle.sh_base.specs.Names.{is_name, continues_name}
use Rattle.sh_token_pieces.specs.Here.{lines, are_bodies}
use Rattle.sh_token_pieces.specs.declared.head.Head.{Head}
use Rattle.sh_token_pieces.specs.declared.context.Context.{Context}
use Rattle.sh_token_pieces.specs.declared.context.Context.TheVariants.{Top, Commands, Word, Quotes, Braces, Arithmetic, Parenthesis, Body}
use Rattle.sh_token_pieces.specs.declared.piece.Piece.{Piece}
use Rattle.sh_token_pieces.specs.declared.piece.Piece.TheVariants.{Byte, Escaped, Backslash, SingleQuoted, DoubleQuotesOpen, DoubleQuotesClose, Dollar, Variable, Parameter, BraceOpen, BraceClose, ArithmeticOpen, ArithmeticClose, CommandsOpen, CommandsClose, Backquoted, WordOpen, WordClose, Blank, Comment, Bodies}
use Rattle.sh_token_pieces.specs.Bytes.{is_blank, is_redirection, is_short_parameter, is_form, is_no_quote, is_no_newline}
use Rattle.sh_token_pieces.specs.Characters.{ahead, next_is}
use Rattle.sh_token_pieces.specs.Heads.{head_of}
use Rattle.sh_token_pieces.specs.Pieces.{fits, quotes, IsPiece, ArePieces, behind, contexts_behind, ends_token, ends_none, in_word, is_text, top_of, between_tokens, is_quotes, is_braces, is_arithmetic, is_parenthesis, has_single_quotes, is_quoted, may_close, is_backquoted, is_head, braces_of, levels, begins_word, ends_word, same_as, ends_comment, ends_operator, with_token, is_more, has_due, due_in}
use Rattle.sh_token_pieces.specs.TokenClasses.{OfWord, OfBodies}
use Rattle.sh_token_scanner.proofs.Tests.{and_true, not_true, nested, nested_behind, below_word, word_no_text, text_token}
use Rattle.sh_token_scanner.proofs.Leads.{settled, Leads, stay, joined}
use Rattle.sh_token_scanner.proofs.Pieces.{level_open, byte_leads, escaped_leads, backslash_leads, single_leads, open_leads, close_leads, brace_leads, dollar_leads, variable_leads, parameter_leads, head_leads, arithmetic_leads, commands_leads, arithmetic_over, backquoted_leads}
use Rattle.sh_token_scanner.proofs.Between.{blank_leads, comment_leads, commands_over, word_leads, operator_leads, word_over_leads, bodies_leads}

-- what is left stands in a word
quotes_popped : (x : Context) (xs : List Context) → nested (x ∷ xs) ≡ true → is_quotes x ≡ true → is_text (top_of xs) ≡ false
quotes_popped Top xs n h = absurd (cc)
quotes_popped (Commands ts) xs n h = absurd (cc)
quotes_popped (Word k) xs n h = absurd (cc)
quotes_popped Quotes xs n h = word_no_text (top_of xs) (and_true (in_word (top_of xs)) (nested xs) n).0
quotes_popped (Braces q) xs n h = absurd (cc)
quotes_popped Arithmetic xs n h = absurd (cc)
quotes_popped Parenthesis xs n h = absurd (cc)
quotes_popped Body xs n h = absurd (cc)

braces_popped : (x : Context) (xs : List Context) → nested (x ∷ xs) ≡ true → is_braces x ≡ true → is_text (top_of xs) ≡ false
braces_popped Top xs n h = absurd (cc)
braces_popped (Commands ts) xs n h = absurd (cc)
braces_popped (Word k) xs n h = absurd (cc)
braces_popped Quotes xs n h = absurd (cc)
braces_popped (Braces q) xs n h = word_no_text (top_of xs) (and_true (in_word (top_of xs)) (nested xs) n).0
braces_popped Arithmetic xs n h = absurd (cc)
braces_popped Parenthesis xs n h = absurd (cc)
braces_popped Body xs n h = absurd (cc)

arithmetic_popped : (x : Context) (xs : List Context) → nested (x ∷ xs) ≡ true → is_arithmetic x ≡ true → is_text (top_of xs) ≡ false
arithmetic_popped Top xs n h = absurd (cc)
arithmetic_popped (Commands ts) xs n h = absurd (cc)
arithmetic_popped (Word k) xs n h = absurd (cc)
arithmetic_popped Quotes xs n h = absurd (cc)
arithmetic_popped (Braces q) xs n h = absurd (cc)
arithmetic_popped Arithmetic xs n h = word_no_text (top_of xs) (and_true (in_word (top_of xs)) (nested xs) n).0
arithmetic_popped Parenthesis xs n h = absurd (cc)
arithmetic_popped Body xs n h = absurd (cc)

parenthesis_popped : (x : Context) (xs : List Context) → nested (x ∷ xs) ≡ true → is_parenthesis x ≡ true → is_text (top_of xs) ≡ false
parenthesis_popped Top xs n h = absurd (cc)
parenthesis_popped (Commands ts) xs n h = absurd (cc)
parenthesis_popped (Word k) xs n h = absurd (cc)
parenthesis_popped Quotes xs n h = absurd (cc)
parenthesis_popped (Braces q) xs n h = absurd (cc)
parenthesis_popped Arithmetic xs n h = absurd (cc)
parenthesis_popped Parenthesis xs n h = word_no_text (top_of xs) (and_true (in_word (top_of xs)) (nested xs) n).0
parenthesis_popped Body xs n h = absurd (cc)

commands_popped : (x : Context) (xs : List Context) → nested (x ∷ xs) ≡ true → may_close x ≡ true → is_text (top_of xs) ≡ false
commands_popped Top xs n h = absurd (cc)
commands_popped (Commands ts) xs n h = word_no_text (top_of xs) (and_true (in_word (top_of xs)) (nested xs) n).0
commands_popped (Word k) xs n h = absurd (cc)
commands_popped Quotes xs n h = absurd (cc)
commands_popped (Braces q) xs n h = absurd (cc)
commands_popped Arithmetic xs n h = absurd (cc)
commands_popped Parenthesis xs n h = absurd (cc)
commands_popped Body xs n h = absurd (cc)

-- a piece that ends no token of the text itself stays in it
pub still_inside : (e : Bool) (done : List Piece) (x : Context) (xs : List Context) (m : Piece) (after : List ℕ) → nested (x ∷ xs) ≡ true → is_text x ≡ false → fits e x m after ≡ true
    → ends_token m (behind done x xs m) ≡ false → is_text (top_of (behind done x xs m)) ≡ false
still_inside e done x xs (Byte b) after n t f h = go (nat_eq b 40 && (is_arithmetic x || is_parenthesis x)) (nat_eq b 41 && is_parenthesis x) refl
  where
    go : (d c : Bool) → (nat_eq b 41 && is_parenthesis x) ≡ c → is_text (top_of (cond d (Parenthesis ∷ x ∷ xs) (cond c xs (x ∷ xs)))) ≡ false
    go true c i = refl
    go false true i = parenthesis_popped x xs n (and_true (nat_eq b 41) (is_parenthesis x) i).1
    go false false i = t
still_inside e done x xs (Escaped b) after n t f h = t
still_inside e done x xs (Backslash b) after n t f h = t
still_inside e done x xs (SingleQuoted bs) after n t f h = t
still_inside e done x xs DoubleQuotesOpen after n t f h = refl
still_inside e done x xs DoubleQuotesClose after n t f h = quotes_popped x xs n f
still_inside e done x xs Dollar after n t f h = t
still_inside e done x xs (Variable bs) after n t f h = t
still_inside e done x xs (Parameter b) after n t f h = t
still_inside e done x xs (BraceOpen bs) after n t f h = go (head_of bs)
  where
    go : (hd : Option Head) → is_text (braces_of (is_quoted x) hd) ≡ false
    go None = refl
    go (Some g) = refl
still_inside e done x xs BraceClose after n t f h = braces_popped x xs n f
still_inside e done x xs ArithmeticOpen after n t f h = refl
still_inside e done x xs ArithmeticClose after n t f h = arithmetic_popped x xs n f
still_inside e done x xs CommandsOpen after n t f h = refl
still_inside e done x xs CommandsClose after n t f h = commands_popped x xs n f
still_inside e done x xs (Backquoted bs) after n t f h = t
still_inside e done x xs WordOpen after n t f h = refl
still_inside e done x xs (WordClose r) after n t f h = h
still_inside e done x xs (Blank b) after n t f h = t
still_inside e done x xs (Comment bs) after n t f h = t
still_inside e done x xs (Bodies bs) after n t f h = text_token OfBodies (x ∷ xs) ∙ t
still_inside e done x xs (Piece.Operator o) after n t f h = h

close_piece : (e : Bool) (limit : ℕ) (done : List Piece) (x : Context) (xs : List Context) (r : Bool) (bytes after : List ℕ) → nested (x ∷ xs) ≡ true → IsPiece e limit done x xs (WordClose r) bytes after
    → ends_token (WordClose r) (behind done x xs (WordClose r)) ≡ false → Leads true e (settled limit done (x ∷ xs)) bytes (settled limit (done ++ WordClose r ∷ []) (behind done x xs (WordClose r))) after
close_piece e limit done Top xs r bytes after n i h = let f = i.fits in absurd (cc)
close_piece e limit done (Commands ts) xs r bytes after n i h = let f = i.fits in absurd (cc)
close_piece e limit done (Word k) xs r bytes after n i h =
    let p = and_true (ends_word (ahead e after)) (same_as r (next_is is_redirection (ahead e after))) i.fits in
    let c = OfWord r (drop (suc k) done) in
    subst (λ z. Leads true e (settled limit done (Word k ∷ xs)) z (settled limit (done ++ WordClose r ∷ []) (with_token c xs)) after) (sym i.written)
    (word_over_leads true e limit k xs done r after i.compound (below_word k xs n) (sym (text_token c xs) ∙ h) p.0 p.1)
close_piece e limit done Quotes xs r bytes after n i h = let f = i.fits in absurd (cc)
close_piece e limit done (Braces q) xs r bytes after n i h = let f = i.fits in absurd (cc)
close_piece e limit done Arithmetic xs r bytes after n i h = let f = i.fits in absurd (cc)
close_piece e limit done Parenthesis xs r bytes after n i h = let f = i.fits in absurd (cc)
close_piece e limit done Body xs r bytes after n i h = let f = i.fits in absurd (cc)

pub inner_piece : (e : Bool) (limit : ℕ) (done : List Piece) (x : Context) (xs : List Context) (m : Piece) (bytes after : List ℕ) → nested (x ∷ xs) ≡ true → is_text x ≡ false → IsPiece e limit done x xs m bytes after
    → ends_token m (behind done x xs m) ≡ false → Leads true e (settled limit done (x ∷ xs)) bytes (settled limit (done ++ m ∷ []) (behind done x xs m)) after
inner_piece e limit done x xs (Byte b) bytes after n t i h = byte_leads true e limit x xs done b bytes after i.fits i.written
inner_piece e limit done x xs (Escaped b) bytes after n t i h = escaped_leads true e limit x xs done b bytes after i.fits i.written
inner_piece e limit done x xs (Backslash b) bytes after n t i h =
    let p = and_true (in_word x) (not (quotes x b)) i.fits in backslash_leads true e limit x xs done b bytes after p.0 (not_true (quotes x b) p.1) i.written
inner_piece e limit done x xs (SingleQuoted bs) bytes after n t i h =
    let p = and_true (has_single_quotes x) (list_all is_no_quote bs) i.fits in single_leads true e limit x xs done bs bytes after p.0 p.1 i.written
inner_piece e limit done x xs DoubleQuotesOpen bytes after n t i h = open_leads true e limit x xs done bytes after i.fits i.written
inner_piece e limit done x xs DoubleQuotesClose bytes after n t i h = close_leads true e limit x xs done bytes after i.fits i.written
inner_piece e limit done x xs Dollar bytes after n t i h =
    let p = and_true (in_word x) (not (next_is is_form (ahead e after))) i.fits in dollar_leads true e limit x xs done bytes after p.0 (not_true (next_is is_form (ahead e after)) p.1) i.written
inner_piece e limit done x xs (Variable bs) bytes after n t i h =
    let p = and_true (in_word x) (is_name bs && not (next_is continues_name (ahead e after))) i.fits in
    let q = and_true (is_name bs) (not (next_is continues_name (ahead e after))) p.1 in
    variable_leads true e limit x xs done bs bytes after p.0 q.0 (not_true (next_is continues_name (ahead e after)) q.1) i.written
inner_piece e limit done x xs (Parameter b) bytes after n t i h = let p = and_true (in_word x) (is_short_parameter b) i.fits in parameter_leads true e limit x xs done b bytes after p.0 p.1 i.written
inner_piece e limit done x xs (BraceOpen bs) bytes after n t i h =
    let p = and_true (in_word x) (is_head (head_of bs) (ahead e after)) i.fits in
    head_leads true e limit x xs done bs (head_of bs) bytes after refl p.0 (level_open limit (levels (x ∷ xs)) i.level) p.1 i.written
inner_piece e limit done x xs BraceClose bytes after n t i h = brace_leads true e limit x xs done bytes after i.fits i.written
inner_piece e limit done x xs ArithmeticOpen bytes after n t i h = arithmetic_leads true e limit x xs done bytes after i.fits (level_open limit (levels (x ∷ xs)) i.level) i.written
inner_piece e limit done x xs ArithmeticClose bytes after n t i h = arithmetic_over true e limit x xs done bytes after i.fits i.written
inner_piece e limit done x xs CommandsOpen bytes after n t i h =
    let p = and_true (in_word x) (not (next_is (λ b. nat_eq b 40) (ahead e after))) i.fits in
    commands_leads true e limit x xs done bytes after p.0 (level_open limit (levels (x ∷ xs)) i.level) (not_true (next_is (λ b. nat_eq b 40) (ahead e after)) p.1) i.written
inner_piece e limit done x xs CommandsClose bytes after n t i h = commands_over true e limit x xs done bytes after i.fits i.written
inner_piece e limit done x xs (Backquoted bs) bytes after n t i h =
    let p = and_true (in_word x) (is_backquoted bs) i.fits in backquoted_leads true e limit x xs done bs bytes after p.0 (level_open limit (levels (x ∷ xs)) i.level) p.1 i.written
inner_piece e limit done x xs WordOpen bytes after n t i h =
    let p = and_true (between_tokens x) (begins_word (ahead e after)) i.fits in
    subst (λ z. Leads true e (settled limit done (x ∷ xs)) z (settled limit (done ++ WordOpen ∷ []) (Word (length done) ∷ x ∷ xs)) after) (sym i.written) (word_leads true e limit x xs done after t p.0 p.1)
inner_piece e limit done x xs (WordClose r) bytes after n t i h = close_piece e limit done x xs r bytes after n i h
inner_piece e limit done x xs (Blank b) bytes after n t i h =
    let p = and_true (between_tokens x) (is_blank b) i.fits in blank_leads true e limit x xs done b bytes after (λ z. t) p.0 p.1 i.written
inner_piece e limit done x xs (Comment bs) bytes after n t i h =
    let p = and_true (between_tokens x) (list_all is_no_newline bs && ends_comment e after) i.fits in
    let q = and_true (list_all is_no_newline bs) (ends_comment e after) p.1 in
    comment_leads true e limit x xs done bs bytes after (λ z. t) p.0 q.0 q.1 i.written
inner_piece e limit done x xs (Bodies bs) bytes after n t i h =
    let p = and_true (has_due x) (are_bodies (due_in x) false (lines [] bs)) i.fits in bodies_leads true e limit x xs done bs bytes after t p.0 p.1 i.written
inner_piece e limit done x xs (Piece.Operator o) bytes after n t i h =
    let p = and_true (between_tokens x) (ends_operator o (ahead e after) && not (is_more o x)) i.fits in
    let q = and_true (ends_operator o (ahead e after)) (not (is_more o x)) p.1 in
    operator_leads true e limit x xs done o bytes after i.compound t p.0 q.0 (not_true (is_more o x) q.1) i.written

-- where such pieces lead
pub record Inside (xs : List Context) : Type 0 where
  pub order : nested xs ≡ true
  pub inner : is_text (top_of xs) ≡ false

pub inside_behind : (e : Bool) (limit : ℕ) (done : List Piece) (x : Context) (xs : List Context) (m : Piece) (bytes after : List ℕ) → Inside (x ∷ xs) → IsPiece e limit done x xs m bytes after
    → ends_token m (behind done x xs m) ≡ false → Inside (behind done x xs m)
inside_behind e limit done x xs m bytes after i f h =
    record { order = nested_behind e done x xs m after i.order f.fits; inner = still_inside e done x xs m after i.order i.inner f.fits h }

pub inside_all : (e : Bool) (limit : ℕ) (ms done : List Piece) (xs : List Context) (bytes rest : List ℕ) → Inside xs → ArePieces e limit done xs ms bytes rest → ends_none done xs ms ≡ true
    → Inside (contexts_behind done xs ms)
inside_all e limit [] done xs bytes rest i a h = i
inside_all e limit (m ∷ ms) done [] bytes rest i a h = absurd a
inside_all e limit (m ∷ ms) done (x ∷ xs) bytes rest i a h =
    let p = and_true (not (ends_token m (behind done x xs m))) (ends_none (done ++ m ∷ []) (behind done x xs m) ms) h in
    inside_all e limit ms (done ++ m ∷ []) (behind done x xs m) a.0 rest (inside_behind e limit done x xs m bytes a.0 i a.1 (not_true (ends_token m (behind done x xs m)) p.0)) a.2 p.1

pub inner_all : (e : Bool) (limit : ℕ) (ms done : List Piece) (xs : List Context) (bytes rest : List ℕ) → Inside xs → ArePieces e limit done xs ms bytes rest → ends_none done xs ms ≡ true
    → Leads true e (settled limit done xs) bytes (settled limit (done ++ ms) (contexts_behind done xs ms)) rest
inner_all e limit [] done xs bytes rest i a h = subst (λ z. Leads true e (settled limit done xs) bytes (settled limit z xs) rest) (sym (append-nil done)) (stay true e (settled limit done xs) bytes rest a)
inner_all e limit (m ∷ ms) done [] bytes rest i a h = absurd a
inner_all e limit (m ∷ ms) done (x ∷ xs) bytes rest i a h =
    let p = and_true (not (ends_token m (behind done x xs m))) (ends_none (done ++ m ∷ []) (behind done x xs m) ms) h in
    let u = not_true (ends_token m (behind done x xs m)) p.0 in
    let ys = behind done x xs m in
    subst (λ z. Leads true e (settled limit done (x ∷ xs)) bytes (settled limit z (contexts_behind (done ++ m ∷ []) ys ms)) rest) (append_assoc done (m ∷ []) ms)
    (joined true e (settled limit done (x ∷ xs)) (settled limit (done ++ m ∷ []) ys) (settled limit ((done ++ m ∷ []) ++ ms) (contexts_behind (done ++ m ∷ []) ys ms)) bytes a.0 rest
    (inner_piece e limit done x xs m bytes a.0 i.order i.inner a.1 u)
    (inner_all e limit ms (done ++ m ∷ []) ys a.0 rest (inside_behind e limit done x xs m bytes a.0 i a.1 u) a.2 p.1))
