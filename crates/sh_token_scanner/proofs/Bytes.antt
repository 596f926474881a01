-- What the machine does with single bytes.
use Rattle.std.proofs.Common.{◌≡◌, ℕ, Bool, true, false, ◌||◌, ◌&&◌, not, nat_eq, List, [], ◌∷◌, ◌++◌, refl, subst, cond, eqb-true}
use Rattle.sh_token_pieces.specs.declared.context.Context.{Context}
use Rattle.sh_token_pieces.specs.declared.context.Context.TheVariants.{Top, Commands, Word, Quotes, Braces, Arithmetic, Parenthesis, Body}
use Rattle.sh_token_pieces.specs.declared.piece.Piece.{Piece}
use Rattle.sh_token_pieces.specs.declared.piece.Piece.TheVariants.{Byte, Escaped, Backslash, DoubleQuotesOpen, DoubleQuotesClose, BraceClose}
use Rattle.sh_token_pieces.specs.declared.pending.Pending.{Pending}
use Rattle.sh_token_pieces.specs.Bytes.{is_end}
use Rattle.sh_token_pieces.specs.Characters.{Ahead, next_is}
use Rattle.sh_token_pieces.specs.Pieces.{stands, quotes, in_word, between_tokens, is_word, is_quotes, is_braces, is_arithmetic, is_parenthesis, has_single_quotes, has_double_quotes, behind_byte, levels}
use Rattle.sh_token_scanner.specs.Machine.{State, On, inner_byte, word_byte, plain_byte, quoted_byte, pend, same, into, out, out_level}
use Rattle.sh_token_scanner.proofs.Tests.{and_true, not_true, not_or, or_false, and_false, and_left, word_no_gap}
use Rattle.sh_token_scanner.proofs.Leads.{begun, kept}

-- what a byte that stands for itself is not
pub record Stood (x : Context) (b : ℕ) : Type 0 where
  pub single : (nat_eq b 39 && has_single_quotes x) ≡ false
  pub double : (nat_eq b 34 && has_double_quotes x) ≡ false
  pub quote : (nat_eq b 34 && is_quotes x) ≡ false
  pub brace : (nat_eq b 125 && is_braces x) ≡ false
  pub dollar : nat_eq b 36 ≡ false
  pub backquote : nat_eq b 96 ≡ false
  pub within : between_tokens x ≡ false
  pub going : (is_word x && is_end b) ≡ false

pub stood : (x : Context) (b : ℕ) (next : Ahead) → stands x b next ≡ true → Stood x b
stood Top b next h = absurd (cc)
stood (Commands ts) b next h = absurd (cc)
stood (Word n) b next h =
    let p = and_true (not (nat_eq b 34 || (nat_eq b 36 || nat_eq b 96))) (not (nat_eq b 39 || is_end b)) h in
    let q = not_or (nat_eq b 34) (nat_eq b 36 || nat_eq b 96) p.0 in
    let r = or_false (nat_eq b 36) (nat_eq b 96) q.1 in
    let t = not_or (nat_eq b 39) (is_end b) p.1 in
    record {
      single = and_left (nat_eq b 39) true t.0;
      double = and_left (nat_eq b 34) true q.0;
      quote = and_false (nat_eq b 34);
      brace = and_false (nat_eq b 125);
      dollar = r.0;
      backquote = r.1;
      within = refl;
      going = t.1;
    }
stood Quotes b next h =
    let q = not_or (nat_eq b 34) (nat_eq b 36 || nat_eq b 96) h in
    let r = or_false (nat_eq b 36) (nat_eq b 96) q.1 in
    record {
      single = and_false (nat_eq b 39);
      double = and_false (nat_eq b 34);
      quote = and_left (nat_eq b 34) true q.0;
      brace = and_false (nat_eq b 125);
      dollar = r.0;
      backquote = r.1;
      within = refl;
      going = refl;
    }
stood (Braces false) b next h =
    let p = and_true (not (nat_eq b 34 || (nat_eq b 36 || nat_eq b 96))) (not (nat_eq b 39 || nat_eq b 125)) h in
    let q = not_or (nat_eq b 34) (nat_eq b 36 || nat_eq b 96) p.0 in
    let r = or_false (nat_eq b 36) (nat_eq b 96) q.1 in
    let t = not_or (nat_eq b 39) (nat_eq b 125) p.1 in
    record {
      single = and_left (nat_eq b 39) true t.0;
      double = and_left (nat_eq b 34) true q.0;
      quote = and_false (nat_eq b 34);
      brace = and_left (nat_eq b 125) true t.1;
      dollar = r.0;
      backquote = r.1;
      within = refl;
      going = refl;
    }
stood (Braces true) b next h =
    let p = and_true (not (nat_eq b 34 || (nat_eq b 36 || nat_eq b 96))) (not (nat_eq b 125)) h in
    let q = not_or (nat_eq b 34) (nat_eq b 36 || nat_eq b 96) p.0 in
    let r = or_false (nat_eq b 36) (nat_eq b 96) q.1 in
    record {
      single = and_false (nat_eq b 39);
      double = and_left (nat_eq b 34) true q.0;
      quote = and_false (nat_eq b 34);
      brace = and_left (nat_eq b 125) true (not_true (nat_eq b 125) p.1);
      dollar = r.0;
      backquote = r.1;
      within = refl;
      going = refl;
    }
stood Arithmetic b next h =
    let p = and_true (not (nat_eq b 36 || nat_eq b 96)) (not (nat_eq b 41 && next_is (λ c. nat_eq c 41) next)) h in
    let r = not_or (nat_eq b 36) (nat_eq b 96) p.0 in
    record {
      single = and_false (nat_eq b 39);
      double = and_false (nat_eq b 34);
      quote = and_false (nat_eq b 34);
      brace = and_false (nat_eq b 125);
      dollar = r.0;
      backquote = r.1;
      within = refl;
      going = refl;
    }
stood Parenthesis b next h =
    let r = not_or (nat_eq b 36) (nat_eq b 96) h in
    record {
      single = and_false (nat_eq b 39);
      double = and_false (nat_eq b 34);
      quote = and_false (nat_eq b 34);
      brace = and_false (nat_eq b 125);
      dollar = r.0;
      backquote = r.1;
      within = refl;
      going = refl;
    }
stood Body b next h =
    let r = not_or (nat_eq b 36) (nat_eq b 96) h in
    record {
      single = and_false (nat_eq b 39);
      double = and_false (nat_eq b 34);
      quote = and_false (nat_eq b 34);
      brace = and_false (nat_eq b 125);
      dollar = r.0;
      backquote = r.1;
      within = refl;
      going = refl;
    }

module _ (limit : ℕ) (x : Context) (xs : List Context) (done : List Piece) (lv : ℕ) where
  abbrev pub here : State
  here = kept limit (x ∷ xs) done lv

  -- a byte of a word or of a part of one
  pub byte_in : (b : ℕ) → between_tokens x ≡ false → (is_word x && is_end b) ≡ false → plain_byte here b ≡ word_byte x here b
  unfolding plain_byte
  byte_in b h g = rw (h, g) refl

  pub byte_stood : (b : ℕ) → Stood x b → plain_byte here b ≡ inner_byte x here b
  unfolding plain_byte word_byte
  byte_stood b h = rw (h.within, h.going, h.single, h.double, h.quote, h.brace, h.dollar, h.backquote) refl

  pub inner_on : (b : ℕ) → (nat_eq b 41 && is_arithmetic x) ≡ false → inner_byte x here b ≡ On (kept limit (behind_byte b x xs) (done ++ Byte b ∷ []) lv)
  unfolding inner_byte
  inner_on b h = rw h (go (nat_eq b 41 && is_parenthesis x) (nat_eq b 40 && (is_arithmetic x || is_parenthesis x)) refl refl)
    where
      go : (c d : Bool) → (nat_eq b 41 && is_parenthesis x) ≡ c → (nat_eq b 40 && (is_arithmetic x || is_parenthesis x)) ≡ d
          → cond c (On (out (Byte b) here)) (cond d (On (into Parenthesis (Byte b) here)) (On (same (Byte b) here)))
          ≡ On (kept limit (cond d (Parenthesis ∷ x ∷ xs) (cond c xs (x ∷ xs))) (done ++ Byte b ∷ []) lv)
      go true true i j =
          let p = eqb-true b 41 (and_true (nat_eq b 41) (is_parenthesis x) i).0 in
          let q = (and_true (nat_eq b 40) (is_arithmetic x || is_parenthesis x) j).0 in
          let z : nat_eq 41 40 ≡ true = subst (λ y. nat_eq y 40 ≡ true) p q in
          absurd (cc)
      go true false i j = refl
      go false true i j = refl
      go false false i j = refl

  -- a `)` that may end arithmetic
  pub inner_parenthesis : (b : ℕ) → (nat_eq b 41 && is_arithmetic x) ≡ true → inner_byte x here b ≡ On (pend Pending.Parenthesis here)
  unfolding inner_byte
  inner_parenthesis b h = rw h refl

  pub levels_parenthesized : (b : ℕ) → levels (behind_byte b x xs) ≡ levels (x ∷ xs)
  levels_parenthesized b = go (nat_eq b 40 && (is_arithmetic x || is_parenthesis x)) (nat_eq b 41 && is_parenthesis x) refl
    where
      none : (y : Context) → is_parenthesis y ≡ true → levels xs ≡ levels (y ∷ xs)
      none Top h = absurd (cc)
      none (Commands ts) h = absurd (cc)
      none (Word n) h = absurd (cc)
      none Quotes h = absurd (cc)
      none (Braces q) h = absurd (cc)
      none Arithmetic h = absurd (cc)
      none Parenthesis h = refl
      none Body h = absurd (cc)

      go : (d c : Bool) → (nat_eq b 41 && is_parenthesis x) ≡ c → levels (cond d (Parenthesis ∷ x ∷ xs) (cond c xs (x ∷ xs))) ≡ levels (x ∷ xs)
      go true c i = refl
      go false true i = none x (and_true (nat_eq b 41) (is_parenthesis x) i).1
      go false false i = refl

  -- a byte behind a backslash
  pub escaped_in : (b : ℕ) → quotes x b ≡ true → quoted_byte here b ≡ On (kept limit (x ∷ xs) (done ++ Escaped b ∷ []) lv)
  unfolding quoted_byte
  escaped_in b h = rw (within x h, h) refl
    where
      within : (y : Context) → quotes y b ≡ true → between_tokens y ≡ false
      within Top h = absurd (cc)
      within (Commands ts) h = absurd (cc)
      within (Word n) h = refl
      within Quotes h = refl
      within (Braces q) h = refl
      within Arithmetic h = refl
      within Parenthesis h = refl
      within Body h = refl

  pub backslash_in : (b : ℕ) → in_word x ≡ true → quotes x b ≡ false → quoted_byte here b ≡ On (kept limit (x ∷ xs) (done ++ Backslash b ∷ []) lv)
  unfolding quoted_byte
  backslash_in b w h = rw (word_no_gap x w, h) refl

-- the bytes that open and close forms
pub single_opens : (limit : ℕ) (x : Context) (xs : List Context) (done : List Piece) (lv : ℕ) → has_single_quotes x ≡ true → plain_byte (kept limit (x ∷ xs) done lv) 39 ≡ On (begun limit (x ∷ xs) done lv Pending.Single [])
unfolding plain_byte word_byte
single_opens limit Top xs done lv h = absurd (cc)
single_opens limit (Commands ts) xs done lv h = absurd (cc)
single_opens limit (Word n) xs done lv h = refl
single_opens limit Quotes xs done lv h = absurd (cc)
single_opens limit (Braces true) xs done lv h = absurd (cc)
single_opens limit (Braces false) xs done lv h = refl
single_opens limit Arithmetic xs done lv h = absurd (cc)
single_opens limit Parenthesis xs done lv h = absurd (cc)
single_opens limit Body xs done lv h = absurd (cc)

pub double_opens : (limit : ℕ) (x : Context) (xs : List Context) (done : List Piece) (lv : ℕ) → has_double_quotes x ≡ true
    → plain_byte (kept limit (x ∷ xs) done lv) 34 ≡ On (kept limit (Quotes ∷ x ∷ xs) (done ++ DoubleQuotesOpen ∷ []) lv)
unfolding plain_byte word_byte
double_opens limit Top xs done lv h = absurd (cc)
double_opens limit (Commands ts) xs done lv h = absurd (cc)
double_opens limit (Word n) xs done lv h = refl
double_opens limit Quotes xs done lv h = absurd (cc)
double_opens limit (Braces q) xs done lv h = refl
double_opens limit Arithmetic xs done lv h = absurd (cc)
double_opens limit Parenthesis xs done lv h = absurd (cc)
double_opens limit Body xs done lv h = absurd (cc)

pub double_closes : (limit : ℕ) (x : Context) (xs : List Context) (done : List Piece) (lv : ℕ) → is_quotes x ≡ true
    → plain_byte (kept limit (x ∷ xs) done lv) 34 ≡ On (kept limit xs (done ++ DoubleQuotesClose ∷ []) lv)
unfolding plain_byte word_byte
double_closes limit Top xs done lv h = absurd (cc)
double_closes limit (Commands ts) xs done lv h = absurd (cc)
double_closes limit (Word n) xs done lv h = absurd (cc)
double_closes limit Quotes xs done lv h = refl
double_closes limit (Braces q) xs done lv h = absurd (cc)
double_closes limit Arithmetic xs done lv h = absurd (cc)
double_closes limit Parenthesis xs done lv h = absurd (cc)
double_closes limit Body xs done lv h = absurd (cc)

pub brace_closes : (limit : ℕ) (x : Context) (xs : List Context) (done : List Piece) (lv : ℕ) → is_braces x ≡ true
    → plain_byte (kept limit (x ∷ xs) done lv) 125 ≡ On (out_level BraceClose (kept limit (x ∷ xs) done lv))
unfolding plain_byte word_byte
brace_closes limit Top xs done lv h = absurd (cc)
brace_closes limit (Commands ts) xs done lv h = absurd (cc)
brace_closes limit (Word n) xs done lv h = absurd (cc)
brace_closes limit Quotes xs done lv h = absurd (cc)
brace_closes limit (Braces q) xs done lv h = refl
brace_closes limit Arithmetic xs done lv h = absurd (cc)
brace_closes limit Parenthesis xs done lv h = absurd (cc)
brace_closes limit Body xs done lv h = absurd (cc)

pub dollar_in : (limit : ℕ) (x : Context) (xs : List Context) (done : List Piece) (lv : ℕ) → in_word x ≡ true → plain_byte (kept limit (x ∷ xs) done lv) 36 ≡ On (begun limit (x ∷ xs) done lv Pending.Dollar [])
unfolding plain_byte word_byte
dollar_in limit Top xs done lv h = absurd (cc)
dollar_in limit (Commands ts) xs done lv h = absurd (cc)
dollar_in limit (Word n) xs done lv h = refl
dollar_in limit Quotes xs done lv h = refl
dollar_in limit (Braces q) xs done lv h = refl
dollar_in limit Arithmetic xs done lv h = refl
dollar_in limit Parenthesis xs done lv h = refl
dollar_in limit Body xs done lv h = refl
