-- Each piece of a word is run to its end.
use Rattle.std.proofs.Common.{◌≡◌, ◌⊎◌, ℕ, suc, Bool, true, false, ◌||◌, ◌&&◌, not, nat_eq, nat_lt, nat_le, List, [], ◌∷◌, ◌++◌, ◌-◌, ◌≤◌, inl, inr, arith, Option, Some, None, refl, sym, ap, ◌∙◌, subst, eqb-true}
use Rattle.std.specs.List.{list_all}
use Rattle.std.proofs.lemmas.Bool.{leb-true}
use Rattle.sh_base.specs.Names.{is_name, begins_name, continues_name}
use Rattle.std.specs.Char.{is_ascii_digit}
use Rattle.sh_token_pieces.specs.declared.character.Character.{Character}
use Rattle.sh_token_pieces.specs.declared.character.Character.TheVariants.{Plain, Quoted, Raw}
use Rattle.sh_token_pieces.specs.declared.head.Head.{Head}
use Rattle.sh_token_pieces.specs.declared.context.Context.{Context}
use Rattle.sh_token_pieces.specs.declared.context.Context.TheVariants.{Top, Commands, Word, Quotes, Braces, Arithmetic, Parenthesis, Body}
use Rattle.sh_token_pieces.specs.declared.piece.Piece.{Piece}
use Rattle.sh_token_pieces.specs.declared.piece.Piece.TheVariants.{Byte, Escaped, Backslash, SingleQuoted, DoubleQuotesOpen, DoubleQuotesClose, Dollar, Variable, Parameter, BraceOpen, BraceClose, ArithmeticOpen, ArithmeticClose, CommandsOpen, Backquoted}
use Rattle.sh_token_pieces.specs.declared.pending.Pending.{Pending}
use Rattle.sh_token_pieces.specs.Bytes.{is_special, is_short_parameter, is_form, is_no_quote}
use Rattle.sh_token_pieces.specs.Characters.{Reads, Written, plain, raw, Ahead, Next, ahead, next_is}
use Rattle.sh_token_pieces.specs.Pendings.{is_raw}
use Rattle.sh_token_pieces.specs.Heads.{head_of, grown_head, is_some_head, grows_head, reads_bare}
use Rattle.sh_token_pieces.specs.Nested.{none_yet}
use Rattle.sh_token_pieces.specs.Pieces.{stands, quotes, in_word, is_text, is_body, is_word, is_quotes, is_braces, is_arithmetic, has_single_quotes, has_double_quotes, is_quoted, is_backquoted, is_head, braces_of, behind_byte, levels, compounds_in}
use Rattle.sh_token_scanner.specs.Machine.{State, On, step, opens, inner_byte, word_byte, plain_byte, form_byte, after_dollar, after_parenthesis, in_name, head_byte, in_head, in_single, in_backquotes, at_parenthesis, same}
use Rattle.sh_token_scanner.specs.Run.{is_gap_state}
use Rattle.sh_token_scanner.proofs.Running.{is_raw_character, Alike}
use Rattle.sh_token_scanner.proofs.Tests.{and_true, not_true, or_false, stands_in_word, word_no_text, single_in_word, double_in_word, quotes_left, braces_left, arithmetic_left, levels_opened}
use Rattle.sh_token_scanner.proofs.Leads.{begun, kept, settled, Leads, stay, joined, goes, same_ahead, raw_keeps, plain_keeps, head_keeps, back_keeps}
use Rattle.sh_token_scanner.proofs.Bytes.{Stood, stood, byte_stood, inner_on, inner_parenthesis, levels_parenthesized, escaped_in, backslash_in, single_opens, double_opens, double_closes, brace_closes, dollar_in}

-- forms behind a dollar
no_form : (b : ℕ) → is_form b ≡ false → (begins_name b ≡ false) × (is_short_parameter b ≡ false) × (nat_eq b 123 ≡ false) × (nat_eq b 40 ≡ false)
no_form b h =
    let p = or_false (begins_name b) (is_short_parameter b || (nat_eq b 123 || nat_eq b 40)) h in
    let q = or_false (is_short_parameter b) (nat_eq b 123 || nat_eq b 40) p.1 in
    let r = or_false (nat_eq b 123) (nat_eq b 40) q.1 in
    (p.0, q.0, r.0, r.1)

pub form_over : (s : State) (b : ℕ) → is_form b ≡ false → form_byte s b ≡ plain_byte (same Dollar s) b
form_over s b h = let p = no_form b h in rw (p.0, p.1, p.2, p.3) refl

-- written characters put together are written one behind the other
pub record Split (e : Bool) (cs ds : List Character) (m rest : List ℕ) : Type 0 where
  pub middle : List ℕ
  pub left : Written e cs m middle
  pub right : Written e ds middle rest

pub written_split : (e : Bool) (cs ds : List Character) (m rest : List ℕ) → Written e (cs ++ ds) m rest → Split e cs ds m rest
written_split e [] ds m rest h = record { middle = m; left = refl; right = h }
written_split e (c ∷ cs) ds m rest h = let s = written_split e cs ds h.0 rest h.2 in record { middle = s.middle; left = (h.0, h.1, s.left); right = s.right }

-- the level of what is left
pub before : (n : ℕ) → suc n - 1 ≡ n
before n = omega arith

level_left : (n : ℕ) → (suc n - 0) - 1 ≡ n
level_left n = omega arith

pub brace_level : (x : Context) (xs : List Context) → is_braces x ≡ true → (levels (x ∷ xs) - compounds_in x) - 1 ≡ levels xs
brace_level Top xs h = absurd (cc)
brace_level (Commands ts) xs h = absurd (cc)
brace_level (Word n) xs h = absurd (cc)
brace_level Quotes xs h = absurd (cc)
brace_level (Braces q) xs h = level_left (levels xs)
brace_level Arithmetic xs h = absurd (cc)
brace_level Parenthesis xs h = absurd (cc)
brace_level Body xs h = absurd (cc)

pub quotes_level : (x : Context) (xs : List Context) → is_quotes x ≡ true → levels (x ∷ xs) ≡ levels xs
quotes_level Top xs h = absurd (cc)
quotes_level (Commands ts) xs h = absurd (cc)
quotes_level (Word n) xs h = absurd (cc)
quotes_level Quotes xs h = refl
quotes_level (Braces q) xs h = absurd (cc)
quotes_level Arithmetic xs h = absurd (cc)
quotes_level Parenthesis xs h = absurd (cc)
quotes_level Body xs h = absurd (cc)

arithmetic_closes : (limit : ℕ) (x : Context) (xs : List Context) (done : List Piece) (lv : ℕ) → is_arithmetic x ≡ true
    → plain_byte (kept limit (x ∷ xs) done lv) 41 ≡ On (begun limit (x ∷ xs) done lv Pending.Parenthesis [])
unfolding plain_byte word_byte inner_byte
arithmetic_closes limit Top xs done lv h = absurd (cc)
arithmetic_closes limit (Commands ts) xs done lv h = absurd (cc)
arithmetic_closes limit (Word n) xs done lv h = absurd (cc)
arithmetic_closes limit Quotes xs done lv h = absurd (cc)
arithmetic_closes limit (Braces q) xs done lv h = absurd (cc)
arithmetic_closes limit Arithmetic xs done lv h = refl
arithmetic_closes limit Parenthesis xs done lv h = absurd (cc)
arithmetic_closes limit Body xs done lv h = absurd (cc)

pub arithmetic_level : (x : Context) (xs : List Context) → is_arithmetic x ≡ true → (levels (x ∷ xs) - compounds_in x) - 1 ≡ levels xs
arithmetic_level Top xs h = absurd (cc)
arithmetic_level (Commands ts) xs h = absurd (cc)
arithmetic_level (Word n) xs h = absurd (cc)
arithmetic_level Quotes xs h = absurd (cc)
arithmetic_level (Braces q) xs h = absurd (cc)
arithmetic_level Arithmetic xs h = level_left (levels xs)
arithmetic_level Parenthesis xs h = absurd (cc)
arithmetic_level Body xs h = absurd (cc)

pub backquote_in : (limit : ℕ) (x : Context) (xs : List Context) (done : List Piece) (lv : ℕ) → in_word x ≡ true → plain_byte (kept limit (x ∷ xs) done lv) 96 ≡ opens Pending.Backquotes (kept limit (x ∷ xs) done lv)
unfolding plain_byte word_byte
backquote_in limit Top xs done lv h = absurd (cc)
backquote_in limit (Commands ts) xs done lv h = absurd (cc)
backquote_in limit (Word n) xs done lv h = refl
backquote_in limit Quotes xs done lv h = refl
backquote_in limit (Braces q) xs done lv h = refl
backquote_in limit Arithmetic xs done lv h = refl
backquote_in limit Parenthesis xs done lv h = refl
backquote_in limit Body xs done lv h = refl

arithmetic_no_word : (x : Context) → is_arithmetic x ≡ true → is_word x ≡ false
arithmetic_no_word Top h = refl
arithmetic_no_word (Commands ts) h = refl
arithmetic_no_word (Word n) h = absurd (cc)
arithmetic_no_word Quotes h = refl
arithmetic_no_word (Braces q) h = refl
arithmetic_no_word Arithmetic h = refl
arithmetic_no_word Parenthesis h = refl
arithmetic_no_word Body h = refl

arithmetic_no_body : (x : Context) → is_arithmetic x ≡ true → is_body x ≡ false
arithmetic_no_body Top h = refl
arithmetic_no_body (Commands ts) h = refl
arithmetic_no_body (Word n) h = refl
arithmetic_no_body Quotes h = refl
arithmetic_no_body (Braces q) h = refl
arithmetic_no_body Arithmetic h = refl
arithmetic_no_body Parenthesis h = refl
arithmetic_no_body Body h = absurd (cc)

-- a `)` that stands for itself in arithmetic has no other behind it
no_close : (x : Context) (b : ℕ) (next : Ahead) → is_arithmetic x ≡ true → nat_eq b 41 ≡ true → stands x b next ≡ true → next_is (λ c. nat_eq c 41) next ≡ false
no_close Top b next a i h = absurd (cc)
no_close (Commands ts) b next a i h = absurd (cc)
no_close (Word n) b next a i h = absurd (cc)
no_close Quotes b next a i h = absurd (cc)
no_close (Braces q) b next a i h = absurd (cc)
no_close Arithmetic b next a i h =
    let p = and_true (not (nat_eq b 36 || nat_eq b 96)) (not (nat_eq b 41 && next_is (λ c. nat_eq c 41) next)) h in
    let q = not_true (nat_eq b 41 && next_is (λ c. nat_eq c 41) next) p.1 in
    go (nat_eq b 41) (next_is (λ c. nat_eq c 41) next) i q
  where
    go : (c d : Bool) → c ≡ true → (c && d) ≡ false → d ≡ false
    go true d i q = q
    go false d i q = absurd (cc)
no_close Parenthesis b next a i h = absurd (cc)
no_close Body b next a i h = absurd (cc)

-- what comes next passes no test that it is known to fail
pub fails : (f : ℕ → Bool) (next : Ahead) (b : ℕ) → next_is f next ≡ false → next ≡ Next (Plain b) → f b ≡ false
fails f next b h w = sym (ap (next_is f) w) ∙ h

no_growth : (h : Head) (b : ℕ) → grows_head h b ≡ false → grown_head h b ≡ None
no_growth h b w = go (grown_head h b) w
  where
    go : (y : Option Head) → is_some_head y ≡ false → y ≡ None
    go None i = refl
    go (Some g) i = absurd (cc)

or_either : (c d : Bool) → (c || d) ≡ true → (c ≡ true) ⊎ (d ≡ true)
or_either true d h = inl refl
or_either false d h = inr h

small : (b c : ℕ) → nat_eq b c ≡ true → c ≤ 64 → b ≤ 64
small b c h l = let y = eqb-true b c h in omega arith

special_small : (b : ℕ) → is_special b ≡ true → b ≤ 64
special_small b h = either_of (or_either (nat_eq b 64) _ h)
  where
    last_of : ((nat_eq b 36 ≡ true) ⊎ (nat_eq b 33 ≡ true)) → b ≤ 64
    last_of (inl x) = small b 36 x (omega arith)
    last_of (inr x) = small b 33 x (omega arith)

    fourth : ((nat_eq b 45 ≡ true) ⊎ ((nat_eq b 36 || nat_eq b 33) ≡ true)) → b ≤ 64
    fourth (inl x) = small b 45 x (omega arith)
    fourth (inr x) = last_of (or_either (nat_eq b 36) (nat_eq b 33) x)

    third : ((nat_eq b 63 ≡ true) ⊎ ((nat_eq b 45 || (nat_eq b 36 || nat_eq b 33)) ≡ true)) → b ≤ 64
    third (inl x) = small b 63 x (omega arith)
    third (inr x) = fourth (or_either (nat_eq b 45) (nat_eq b 36 || nat_eq b 33) x)

    second : ((nat_eq b 42 ≡ true) ⊎ ((nat_eq b 63 || (nat_eq b 45 || (nat_eq b 36 || nat_eq b 33))) ≡ true)) → b ≤ 64
    second (inl x) = small b 42 x (omega arith)
    second (inr x) = third (or_either (nat_eq b 63) (nat_eq b 45 || (nat_eq b 36 || nat_eq b 33)) x)

    either_of : ((nat_eq b 64 ≡ true) ⊎ ((nat_eq b 42 || (nat_eq b 63 || (nat_eq b 45 || (nat_eq b 36 || nat_eq b 33)))) ≡ true)) → b ≤ 64
    either_of (inl x) = small b 64 x (omega arith)
    either_of (inr x) = second (or_either (nat_eq b 42) (nat_eq b 63 || (nat_eq b 45 || (nat_eq b 36 || nat_eq b 33))) x)

parameter_small : (b : ℕ) → is_short_parameter b ≡ true → b ≤ 64
parameter_small b h = go (or_either (is_special b) (nat_eq b 35 || is_ascii_digit b) h)
  where
    digit : ((nat_eq b 35 ≡ true) ⊎ (is_ascii_digit b ≡ true)) → b ≤ 64
    digit (inl x) = small b 35 x (omega arith)
    digit (inr x) = let l = leb-true b 57 (and_true (nat_le 48 b) (nat_le b 57) x).1 in omega arith

    go : ((is_special b ≡ true) ⊎ ((nat_eq b 35 || is_ascii_digit b) ≡ true)) → b ≤ 64
    go (inl x) = special_small b x
    go (inr x) = digit (or_either (nat_eq b 35) (is_ascii_digit b) x)

name_large : (b : ℕ) → begins_name b ≡ true → 65 ≤ b
name_large b h = go (or_either (nat_le 97 b && nat_le b 122) ((nat_le 65 b && nat_le b 90) || nat_eq b 95) h)
  where
    upper : (((nat_le 65 b && nat_le b 90) ≡ true) ⊎ (nat_eq b 95 ≡ true)) → 65 ≤ b
    upper (inl x) = leb-true 65 b (and_true (nat_le 65 b) (nat_le b 90) x).0
    upper (inr x) = let y = eqb-true b 95 x in omega arith

    go : (((nat_le 97 b && nat_le b 122) ≡ true) ⊎ (((nat_le 65 b && nat_le b 90) || nat_eq b 95) ≡ true)) → 65 ≤ b
    go (inl x) = let l = leb-true 97 b (and_true (nat_le 97 b) (nat_le b 122) x).0 in omega arith
    go (inr x) = upper (or_either (nat_le 65 b && nat_le b 90) (nat_eq b 95) x)

pub no_name : (b : ℕ) → is_short_parameter b ≡ true → begins_name b ≡ false
no_name b h = go (begins_name b) refl
  where
    go : (c : Bool) → begins_name b ≡ c → c ≡ false
    go false i = refl
    go true i = let l = name_large b i in let s = parameter_small b h in absurd (omega arith)

pub level_open : (limit : ℕ) (lv : ℕ) → (true && not (nat_lt lv limit)) ≡ false → nat_lt lv limit ≡ true
level_open limit lv h = go (nat_lt lv limit) h
  where
    go : (c : Bool) → not c ≡ false → c ≡ true
    go true i = refl
    go false i = absurd (cc)

pub open_on : (limit : ℕ) (p : Pending) (xs : List Context) (done : List Piece) (lv : ℕ) (q : Pending) → nat_lt lv limit ≡ true → opens p (begun limit xs done lv q []) ≡ On (begun limit xs done (suc lv) p [])
open_on limit p xs done lv q h = rw h refl

module _ (k e : Bool) where
  -- one character
  pub one : (s t : State) (m rest : List ℕ) (c : Character) → (k ≡ true → is_gap_state s ≡ false) → is_raw s.pending ≡ is_raw_character c → Written e (c ∷ []) m rest → step s c ≡ On t
      → Leads k e s m t rest
  one s t m rest c g r w h = joined k e s t t m w.0 rest (goes k e s t m w.0 c g r w.1 h) (stay k e t w.0 rest w.2)

module _ (k e : Bool) (limit : ℕ) (x : Context) (xs : List Context) (done : List Piece) where
  abbrev lv : ℕ
  lv = levels (x ∷ xs)

  abbrev at_start : State
  at_start = settled limit done (x ∷ xs)

  pub byte_leads : (b : ℕ) (m rest : List ℕ) → stands x b (ahead e rest) ≡ true → Written e (Plain b ∷ []) m rest
      → Leads k e at_start m (settled limit (done ++ Byte b ∷ []) (behind_byte b x xs)) rest
  unfolding at_parenthesis
  byte_leads b m rest h w = go (nat_eq b 41 && is_arithmetic x) refl
    where
      s : Stood x b
      s = stood x b (ahead e rest) h

      word : in_word x ≡ true
      word = stands_in_word x b (ahead e rest) h

      text : k ≡ true → is_gap_state at_start ≡ false
      text t = word_no_text x word

      over : Pending → State
      over p = begun limit (x ∷ xs) done lv p []

      parenthesis : nat_eq b 41 ≡ true → is_arithmetic x ≡ true → Alike e false (over Pending.Parenthesis) (kept limit (x ∷ xs) (done ++ Byte 41 ∷ []) lv) rest
      parenthesis i a =
          record {
            plains = λ c j. let z = fails (λ c. nat_eq c 41) (ahead e rest) c (no_close x b (ahead e rest) a i h) j in rw z refl;
            quoteds = λ c j. refl;
            ends = λ j. rw (word_no_text x word, arithmetic_no_body x a, arithmetic_no_word x a) refl;
          }

      go : (c : Bool) → (nat_eq b 41 && is_arithmetic x) ≡ c → Leads k e at_start m (settled limit (done ++ Byte b ∷ []) (behind_byte b x xs)) rest
      go false i =
          subst (λ l. Leads k e at_start m (kept limit (behind_byte b x xs) (done ++ Byte b ∷ []) l) rest) (sym (levels_parenthesized limit x xs done lv b))
          (one k e at_start (kept limit (behind_byte b x xs) (done ++ Byte b ∷ []) lv) m rest (Plain b) text refl w (byte_stood limit x xs done lv b s ∙ inner_on limit x xs done lv b i))
      go true i =
          let t = and_true (nat_eq b 41) (is_arithmetic x) i in
          let y = eqb-true b 41 t.0 in
          let z : behind_byte 41 x xs ≡ x ∷ xs = no_parenthesis x t.1 in
          subst (λ b. Leads k e at_start m (settled limit (done ++ Byte b ∷ []) (behind_byte b x xs)) rest) (sym y)
          (subst (λ ys. Leads k e at_start m (settled limit (done ++ Byte 41 ∷ []) ys) rest) (sym z)
          (joined k e at_start (over Pending.Parenthesis) (kept limit (x ∷ xs) (done ++ Byte 41 ∷ []) lv) m rest rest
          (one k e at_start (over Pending.Parenthesis) m rest (Plain b) text refl w (byte_stood limit x xs done lv b s ∙ inner_parenthesis limit x xs done lv b i))
          (same_ahead k e (over Pending.Parenthesis) (kept limit (x ∷ xs) (done ++ Byte 41 ∷ []) lv) rest (record { left = refl; right = refl; gap = sym (word_no_text x word) })
          (parenthesis t.0 t.1))))
        where
          no_parenthesis : (y : Context) → is_arithmetic y ≡ true → behind_byte 41 y xs ≡ y ∷ xs
          no_parenthesis Top a = refl
          no_parenthesis (Commands ts) a = refl
          no_parenthesis (Word n) a = refl
          no_parenthesis Quotes a = refl
          no_parenthesis (Braces q) a = refl
          no_parenthesis Arithmetic a = refl
          no_parenthesis Parenthesis a = absurd (cc)
          no_parenthesis Body a = absurd (cc)

  pub escaped_leads : (b : ℕ) (m rest : List ℕ) → quotes x b ≡ true → Written e (Quoted b ∷ []) m rest → Leads k e at_start m (settled limit (done ++ Escaped b ∷ []) (x ∷ xs)) rest
  escaped_leads b m rest h w = one k e at_start (settled limit (done ++ Escaped b ∷ []) (x ∷ xs)) m rest (Quoted b) (λ t. quoting_no_text x b h) refl w (escaped_in limit x xs done lv b h)
    where
      quoting_no_text : (y : Context) (b : ℕ) → quotes y b ≡ true → is_text y ≡ false
      quoting_no_text Top b h = absurd (cc)
      quoting_no_text (Commands ts) b h = absurd (cc)
      quoting_no_text (Word n) b h = refl
      quoting_no_text Quotes b h = refl
      quoting_no_text (Braces q) b h = refl
      quoting_no_text Arithmetic b h = refl
      quoting_no_text Parenthesis b h = refl
      quoting_no_text Body b h = refl

  pub backslash_leads : (b : ℕ) (m rest : List ℕ) → in_word x ≡ true → quotes x b ≡ false → Written e (Quoted b ∷ []) m rest
      → Leads k e at_start m (settled limit (done ++ Backslash b ∷ []) (x ∷ xs)) rest
  backslash_leads b m rest i h w = one k e at_start (settled limit (done ++ Backslash b ∷ []) (x ∷ xs)) m rest (Quoted b) (λ t. word_no_text x i) refl w (backslash_in limit x xs done lv b i h)

  pub single_leads : (bs m rest : List ℕ) → has_single_quotes x ≡ true → list_all is_no_quote bs ≡ true → Written e (Plain 39 ∷ (raw bs ++ Raw 39 ∷ [])) m rest
      → Leads k e at_start m (settled limit (done ++ SingleQuoted bs ∷ []) (x ∷ xs)) rest
  unfolding in_single
  single_leads bs m rest h a w =
      let s = written_split e (raw bs) (Raw 39 ∷ []) w.0 rest w.2 in
      joined k e at_start (within []) (settled limit (done ++ SingleQuoted bs ∷ []) (x ∷ xs)) m w.0 rest
      (goes k e at_start (within []) m w.0 (Plain 39) (λ t. word_no_text x (single_in_word x h)) refl w.1 (single_opens limit x xs done lv h))
      (joined k e (within []) (within bs) (settled limit (done ++ SingleQuoted bs ∷ []) (x ∷ xs)) w.0 s.middle rest
      (raw_keeps k e limit (x ∷ xs) done lv Pending.Single is_no_quote (λ t. refl) refl keeps bs [] w.0 s.middle a s.left)
      (one k e (within bs) (settled limit (done ++ SingleQuoted bs ∷ []) (x ∷ xs)) s.middle rest (Raw 39) (λ t. refl) refl s.right closes))
    where
      within : List ℕ → State
      within acc = begun limit (x ∷ xs) done lv Pending.Single acc

      keeps : (acc : List ℕ) (b : ℕ) → is_no_quote b ≡ true → step (begun limit (x ∷ xs) done lv Pending.Single acc) (Raw b) ≡ On (begun limit (x ∷ xs) done lv Pending.Single (acc ++ b ∷ []))
      keeps acc b h = rw (not_true (nat_eq b 39) h) refl

      closes : step (begun limit (x ∷ xs) done lv Pending.Single bs) (Raw 39) ≡ On (settled limit (done ++ SingleQuoted bs ∷ []) (x ∷ xs))
      closes = refl

  pub open_leads : (m rest : List ℕ) → has_double_quotes x ≡ true → Written e (Plain 34 ∷ []) m rest → Leads k e at_start m (settled limit (done ++ DoubleQuotesOpen ∷ []) (Quotes ∷ x ∷ xs)) rest
  open_leads m rest h w =
      one k e at_start (settled limit (done ++ DoubleQuotesOpen ∷ []) (Quotes ∷ x ∷ xs)) m rest (Plain 34) (λ t. word_no_text x (double_in_word x h)) refl w (double_opens limit x xs done lv h)

  pub close_leads : (m rest : List ℕ) → is_quotes x ≡ true → Written e (Plain 34 ∷ []) m rest → Leads k e at_start m (settled limit (done ++ DoubleQuotesClose ∷ []) xs) rest
  close_leads m rest h w =
      subst (λ l. Leads k e at_start m (kept limit xs (done ++ DoubleQuotesClose ∷ []) l) rest) (quotes_level x xs h)
      (one k e at_start (kept limit xs (done ++ DoubleQuotesClose ∷ []) lv) m rest (Plain 34) (λ t. quotes_left x h) refl w (double_closes limit x xs done lv h))

  pub brace_leads : (m rest : List ℕ) → is_braces x ≡ true → Written e (Plain 125 ∷ []) m rest → Leads k e at_start m (settled limit (done ++ BraceClose ∷ []) xs) rest
  brace_leads m rest h w =
      subst (λ l. Leads k e at_start m (kept limit xs (done ++ BraceClose ∷ []) l) rest) (brace_level x xs h)
      (one k e at_start (kept limit xs (done ++ BraceClose ∷ []) ((lv - compounds_in x) - 1)) m rest (Plain 125) (λ t. braces_left x h) refl w (brace_closes limit x xs done lv h))

  -- behind a `$`
  abbrev dollar : State
  dollar = begun limit (x ∷ xs) done lv Pending.Dollar []

  pub to_dollar : (m rest : List ℕ) → in_word x ≡ true → Reads e (Plain 36) m rest → Leads k e at_start m dollar rest
  to_dollar m rest h r = goes k e at_start dollar m rest (Plain 36) (λ t. word_no_text x h) refl r (dollar_in limit x xs done lv h)

  pub dollar_leads : (m rest : List ℕ) → in_word x ≡ true → next_is is_form (ahead e rest) ≡ false → Written e (Plain 36 ∷ []) m rest
      → Leads k e at_start m (settled limit (done ++ Dollar ∷ []) (x ∷ xs)) rest
  unfolding after_dollar
  dollar_leads m rest h f w =
      joined k e at_start dollar (settled limit (done ++ Dollar ∷ []) (x ∷ xs)) m rest rest
      (one k e at_start dollar m rest (Plain 36) (λ t. word_no_text x h) refl w (dollar_in limit x xs done lv h))
      (same_ahead k e dollar (settled limit (done ++ Dollar ∷ []) (x ∷ xs)) rest (record { left = refl; right = refl; gap = sym (word_no_text x h) }) alike_dollar)
    where
      alike_dollar : Alike e false (begun limit (x ∷ xs) done lv Pending.Dollar []) (settled limit (done ++ Dollar ∷ []) (x ∷ xs)) rest
      alike_dollar =
          record {
            plains = λ b j. form_over (begun limit (x ∷ xs) done lv Pending.Dollar []) b (fails is_form (ahead e rest) b f j);
            quoteds = λ b j. refl;
            ends = λ j. rw (word_no_text x h) refl;
          }

  pub variable_leads : (bs m rest : List ℕ) → in_word x ≡ true → is_name bs ≡ true → next_is continues_name (ahead e rest) ≡ false → Written e (Plain 36 ∷ plain bs) m rest
      → Leads k e at_start m (settled limit (done ++ Variable bs ∷ []) (x ∷ xs)) rest
  unfolding after_dollar in_name
  variable_leads [] m rest h i f w = absurd (cc)
  variable_leads (b ∷ bs) m rest h i f w =
      let t = and_true (begins_name b) (list_all continues_name bs) i in
      joined k e at_start dollar (settled limit (done ++ Variable (b ∷ bs) ∷ []) (x ∷ xs)) m w.0 rest
      (to_dollar m w.0 h w.1)
      (joined k e dollar (within (b ∷ [])) (settled limit (done ++ Variable (b ∷ bs) ∷ []) (x ∷ xs)) w.0 w.2.0 rest
      (goes k e dollar (within (b ∷ [])) w.0 w.2.0 (Plain b) (λ t. refl) refl w.2.1 (starts t.0))
      (joined k e (within (b ∷ [])) (within (b ∷ bs)) (settled limit (done ++ Variable (b ∷ bs) ∷ []) (x ∷ xs)) w.2.0 rest rest
      (plain_keeps k e limit (x ∷ xs) done lv Pending.Name continues_name (λ t. refl) refl keeps bs (b ∷ []) w.2.0 rest t.1 w.2.2)
      (same_ahead k e (within (b ∷ bs)) (settled limit (done ++ Variable (b ∷ bs) ∷ []) (x ∷ xs)) rest (record { left = refl; right = refl; gap = sym (word_no_text x h) }) alike_name)))
    where
      within : List ℕ → State
      within acc = begun limit (x ∷ xs) done lv Pending.Name acc

      starts : begins_name b ≡ true → step (begun limit (x ∷ xs) done lv Pending.Dollar []) (Plain b) ≡ On (begun limit (x ∷ xs) done lv Pending.Name (b ∷ []))
      starts h = rw h refl

      keeps : (acc : List ℕ) (b : ℕ) → continues_name b ≡ true → step (begun limit (x ∷ xs) done lv Pending.Name acc) (Plain b) ≡ On (begun limit (x ∷ xs) done lv Pending.Name (acc ++ b ∷ []))
      keeps acc b h = rw h refl

      alike_name : Alike e false (begun limit (x ∷ xs) done lv Pending.Name (b ∷ bs)) (settled limit (done ++ Variable (b ∷ bs) ∷ []) (x ∷ xs)) rest
      alike_name =
          record {
            plains = λ c j. let z = fails continues_name (ahead e rest) c f j in rw z refl;
            quoteds = λ c j. refl;
            ends = λ j. rw (word_no_text x h) refl;
          }

  pub parameter_leads : (b : ℕ) (m rest : List ℕ) → in_word x ≡ true → is_short_parameter b ≡ true → Written e (Plain 36 ∷ Plain b ∷ []) m rest
      → Leads k e at_start m (settled limit (done ++ Parameter b ∷ []) (x ∷ xs)) rest
  unfolding after_dollar
  parameter_leads b m rest h i w =
      joined k e at_start dollar (settled limit (done ++ Parameter b ∷ []) (x ∷ xs)) m w.0 rest
      (to_dollar m w.0 h w.1)
      (one k e dollar (settled limit (done ++ Parameter b ∷ []) (x ∷ xs)) w.0 rest (Plain b) (λ t. refl) refl w.2 takes)
    where
      takes : step (begun limit (x ∷ xs) done lv Pending.Dollar []) (Plain b) ≡ On (settled limit (done ++ Parameter b ∷ []) (x ∷ xs))
      takes = rw (no_name b i, i) refl

  -- `${`
  pub to_head : (m rest : List ℕ) → in_word x ≡ true → nat_lt lv limit ≡ true → Written e (Plain 36 ∷ Plain 123 ∷ []) m rest
      → Leads k e at_start m (begun limit (x ∷ xs) done (suc lv) (Pending.Head Head.Start) []) rest
  unfolding after_dollar
  to_head m rest h l w =
      joined k e at_start dollar (begun limit (x ∷ xs) done (suc lv) (Pending.Head Head.Start) []) m w.0 rest
      (to_dollar m w.0 h w.1)
      (one k e dollar (begun limit (x ∷ xs) done (suc lv) (Pending.Head Head.Start) []) w.0 rest (Plain 123) (λ t. refl) refl w.2 takes)
    where
      takes : step (begun limit (x ∷ xs) done lv Pending.Dollar []) (Plain 123) ≡ On (begun limit (x ∷ xs) done (suc lv) (Pending.Head Head.Start) [])
      takes = rw l refl

  pub head_leads : (bs : List ℕ) (h : Option Head) (m rest : List ℕ) → head_of bs ≡ h → in_word x ≡ true → nat_lt lv limit ≡ true → is_head h (ahead e rest) ≡ true
      → Written e (Plain 36 ∷ Plain 123 ∷ plain bs) m rest → Leads k e at_start m (settled limit (done ++ BraceOpen bs ∷ []) (braces_of (is_quoted x) h ∷ x ∷ xs)) rest
  unfolding in_head
  head_leads bs None m rest q i l f w = absurd (cc)
  head_leads bs (Some h) m rest q i l f w =
      joined k e at_start (begun limit (x ∷ xs) done (suc lv) (Pending.Head Head.Start) []) (settled limit (done ++ BraceOpen bs ∷ []) (Braces (is_quoted x && not (reads_bare h)) ∷ x ∷ xs)) m w.2.0 rest
      (to_head m w.2.0 i l (w.0, w.1, (w.2.0, w.2.1, refl)))
      (joined k e (begun limit (x ∷ xs) done (suc lv) (Pending.Head Head.Start) []) (begun limit (x ∷ xs) done (suc lv) (Pending.Head h) bs) (settled limit (done ++ BraceOpen bs ∷ []) (Braces (is_quoted x && not (reads_bare h)) ∷ x ∷ xs)) w.2.0 rest rest
      (head_keeps k e limit (x ∷ xs) done (suc lv) bs Head.Start h [] w.2.0 rest q w.2.2)
      (same_ahead k e (begun limit (x ∷ xs) done (suc lv) (Pending.Head h) bs) (settled limit (done ++ BraceOpen bs ∷ []) (Braces (is_quoted x && not (reads_bare h)) ∷ x ∷ xs)) rest (record { left = refl; right = refl; gap = refl }) alike_head))
    where
      alike_head : Alike e false (begun limit (x ∷ xs) done (suc lv) (Pending.Head h) bs) (settled limit (done ++ BraceOpen bs ∷ []) (Braces (is_quoted x && not (reads_bare h)) ∷ x ∷ xs)) rest
      alike_head =
          record {
            plains = λ b j. ap (λ z. head_byte h (begun limit (x ∷ xs) done (suc lv) (Pending.Head h) bs) b z) (no_growth h b (fails (grows_head h) (ahead e rest) b (not_true (next_is (grows_head h) (ahead e rest)) f) j));
            quoteds = λ b j. refl;
            ends = λ j. refl;
          }

  -- `$(`
  pub to_parenthesis : (m rest : List ℕ) → in_word x ≡ true → nat_lt lv limit ≡ true → Written e (Plain 36 ∷ Plain 40 ∷ []) m rest
      → Leads k e at_start m (begun limit (x ∷ xs) done (suc lv) Pending.DollarParenthesis []) rest
  unfolding after_dollar
  to_parenthesis m rest h l w =
      joined k e at_start dollar (begun limit (x ∷ xs) done (suc lv) Pending.DollarParenthesis []) m w.0 rest
      (to_dollar m w.0 h w.1)
      (one k e dollar (begun limit (x ∷ xs) done (suc lv) Pending.DollarParenthesis []) w.0 rest (Plain 40) (λ t. refl) refl w.2 takes)
    where
      takes : step (begun limit (x ∷ xs) done lv Pending.Dollar []) (Plain 40) ≡ On (begun limit (x ∷ xs) done (suc lv) Pending.DollarParenthesis [])
      takes = rw l refl

  pub arithmetic_leads : (m rest : List ℕ) → in_word x ≡ true → nat_lt lv limit ≡ true → Written e (Plain 36 ∷ Plain 40 ∷ Plain 40 ∷ []) m rest
      → Leads k e at_start m (settled limit (done ++ ArithmeticOpen ∷ []) (Arithmetic ∷ x ∷ xs)) rest
  unfolding after_parenthesis
  arithmetic_leads m rest h l w =
      joined k e at_start (begun limit (x ∷ xs) done (suc lv) Pending.DollarParenthesis []) (settled limit (done ++ ArithmeticOpen ∷ []) (Arithmetic ∷ x ∷ xs)) m w.2.0 rest
      (to_parenthesis m w.2.0 h l (w.0, w.1, (w.2.0, w.2.1, refl)))
      (one k e (begun limit (x ∷ xs) done (suc lv) Pending.DollarParenthesis []) (settled limit (done ++ ArithmeticOpen ∷ []) (Arithmetic ∷ x ∷ xs)) w.2.0 rest (Plain 40) (λ t. refl) refl w.2.2 takes)
    where
      takes : step (begun limit (x ∷ xs) done (suc lv) Pending.DollarParenthesis []) (Plain 40) ≡ On (settled limit (done ++ ArithmeticOpen ∷ []) (Arithmetic ∷ x ∷ xs))
      takes = refl

  abbrev in_commands : State
  in_commands = kept limit (Commands none_yet ∷ x ∷ xs) (done ++ CommandsOpen ∷ []) (suc lv)

  pub commands_leads : (m rest : List ℕ) → in_word x ≡ true → nat_lt lv limit ≡ true → next_is (λ b. nat_eq b 40) (ahead e rest) ≡ false → Written e (Plain 36 ∷ Plain 40 ∷ []) m rest
      → Leads k e at_start m (settled limit (done ++ CommandsOpen ∷ []) (Commands none_yet ∷ x ∷ xs)) rest
  unfolding after_parenthesis
  commands_leads m rest h l f w =
      subst (λ n. Leads k e at_start m (kept limit (Commands none_yet ∷ x ∷ xs) (done ++ CommandsOpen ∷ []) n) rest) (sym (levels_opened lv))
      (joined k e at_start (begun limit (x ∷ xs) done (suc lv) Pending.DollarParenthesis []) in_commands m rest rest
      (to_parenthesis m rest h l w)
      (same_ahead k e (begun limit (x ∷ xs) done (suc lv) Pending.DollarParenthesis []) in_commands rest (record { left = refl; right = refl; gap = refl }) alike_parenthesis))
    where
      alike_parenthesis : Alike e false (begun limit (x ∷ xs) done (suc lv) Pending.DollarParenthesis []) in_commands rest
      alike_parenthesis =
          record {
            plains = λ b j. let z = fails (λ b. nat_eq b 40) (ahead e rest) b f j in rw z refl;
            quoteds = λ b j. refl;
            ends = λ j. refl;
          }

  pub arithmetic_over : (m rest : List ℕ) → is_arithmetic x ≡ true → Written e (Plain 41 ∷ Plain 41 ∷ []) m rest → Leads k e at_start m (settled limit (done ++ ArithmeticClose ∷ []) xs) rest
  unfolding at_parenthesis
  arithmetic_over m rest h w =
      subst (λ l. Leads k e at_start m (kept limit xs (done ++ ArithmeticClose ∷ []) l) rest) (arithmetic_level x xs h)
      (joined k e at_start (begun limit (x ∷ xs) done lv Pending.Parenthesis []) (kept limit xs (done ++ ArithmeticClose ∷ []) ((lv - compounds_in x) - 1)) m w.0 rest
      (goes k e at_start (begun limit (x ∷ xs) done lv Pending.Parenthesis []) m w.0 (Plain 41) (λ t. arithmetic_left x h) refl w.1 (arithmetic_closes limit x xs done lv h))
      (one k e (begun limit (x ∷ xs) done lv Pending.Parenthesis []) (kept limit xs (done ++ ArithmeticClose ∷ []) ((lv - compounds_in x) - 1)) w.0 rest (Plain 41) (λ t. refl) refl w.2 takes))
    where
      takes : step (begun limit (x ∷ xs) done lv Pending.Parenthesis []) (Plain 41) ≡ On (kept limit xs (done ++ ArithmeticClose ∷ []) ((lv - compounds_in x) - 1))
      takes = refl

  -- backquotes
  pub backquoted_leads : (bs m rest : List ℕ) → in_word x ≡ true → nat_lt lv limit ≡ true → is_backquoted bs ≡ true → Written e (Plain 96 ∷ (raw bs ++ Raw 96 ∷ [])) m rest
      → Leads k e at_start m (settled limit (done ++ Backquoted bs ∷ []) (x ∷ xs)) rest
  unfolding in_backquotes
  backquoted_leads bs m rest h l a w =
      let s = written_split e (raw bs) (Raw 96 ∷ []) w.0 rest w.2 in
      joined k e at_start (within []) (settled limit (done ++ Backquoted bs ∷ []) (x ∷ xs)) m w.0 rest
      (goes k e at_start (within []) m w.0 (Plain 96) (λ t. word_no_text x h) refl w.1 (backquote_in limit x xs done lv h ∙ open_on limit Pending.Backquotes (x ∷ xs) done lv Pending.Nothing l))
      (joined k e (within []) (within bs) (settled limit (done ++ Backquoted bs ∷ []) (x ∷ xs)) w.0 s.middle rest
      (back_keeps k e limit (x ∷ xs) done (suc lv) bs [] w.0 s.middle a s.left)
      (one k e (within bs) (settled limit (done ++ Backquoted bs ∷ []) (x ∷ xs)) s.middle rest (Raw 96) (λ t. refl) refl s.right closes))
    where
      within : List ℕ → State
      within acc = begun limit (x ∷ xs) done (suc lv) Pending.Backquotes acc

      closes : step (begun limit (x ∷ xs) done (suc lv) Pending.Backquotes bs) (Raw 96) ≡ On (settled limit (done ++ Backquoted bs ∷ []) (x ∷ xs))
      closes = ap (λ l. On (kept limit (x ∷ xs) (done ++ Backquoted bs ∷ []) l)) (before lv)
