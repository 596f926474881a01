-- How the machine goes through a text.
use Rattle.std.specs.Prelude.{ℕ, suc, Bool, true, false, ◌&&◌, nat_eq, length, List, [], ◌∷◌, Option, Some, None, if◌then◌else◌}
use Rattle.sh_token_pieces.specs.declared.character.Character.TheVariants.{Plain, Quoted, Raw}
use Rattle.sh_token_pieces.specs.declared.context.Context.{Context}
use Rattle.sh_token_pieces.specs.declared.context.Context.TheVariants.{Top}
use Rattle.sh_token_pieces.specs.declared.piece.Piece.TheVariants.{Variable, Dollar, Comment}
use Rattle.sh_token_pieces.specs.declared.pending.Pending.{Pending}
use Rattle.sh_token_pieces.specs.Pieces.{is_text, is_body, is_word, word_begins, word_place, top_of}
use Rattle.sh_token_pieces.specs.Pendings.{is_raw, is_gap_pending}
use Rattle.sh_token_scanner.specs.Machine.{State, Stepped, On, Before, After, TooDeep, DollarTooDeep, WordTooDeep, step, is_top, is_over_full, same, word_out, operator_out}

-- a scanner between two bytes; held: a backslash came, and not yet the byte after it
pub record Scan : Type 0 where
  pub state : State
  pub held : Bool

pub data Fed : Type 0 where
  -- the byte waits for the next one, or was a joined line
  Waits : (held : Bool) → (state : State) → Fed
  Takes : (stepped : Stepped) → Fed

unfoldable pub byte_step : Scan → ℕ → Fed
byte_step s b =
    if s.held then (if nat_eq b 10 then Waits false s.state else Takes (step s.state (Quoted b)))
    else if is_raw s.state.pending then Takes (step s.state (Raw b))
    else if nat_eq b 92 then Waits true s.state
    else Takes (step s.state (Plain b))

-- what a scan finds: a token, the text from its first byte on, and the text after it; or the text from the
-- place where a level too many opens; or, where the text ends first, the text from the place where a form of
-- a body began last
pub data Scanned : Type 0 where
  Ended : (state : State) → (prefix rest : List ℕ) → Scanned
  Deep : (rest : List ℕ) → Scanned
  Open : (form : List ℕ) → Scanned

abbrev pub is_gap_state : State → Bool
is_gap_state s = is_gap_pending s.pending && is_text (top_of s.contexts)

-- a form of a body may have begun with the last character
abbrev pub begins_in : Pending → List ℕ → Bool
begins_in Pending.Dollar bs = true
begins_in Pending.Backquotes [] = true
begins_in Pending.Backquotes (b ∷ bs) = false
begins_in Pending.Nothing bs = false
begins_in Pending.DollarParenthesis bs = false
begins_in Pending.Name bs = false
begins_in (Pending.Head h) bs = false
begins_in Pending.Single bs = false
begins_in Pending.BackquotesEscape bs = false
begins_in Pending.Parenthesis bs = false
begins_in (Pending.Operator o) bs = false
begins_in Pending.Comment bs = false
begins_in (Pending.Body l n j) bs = false

abbrev pub begins_form : State → Bool
begins_form s = is_body (top_of s.contexts) && begins_in s.pending s.bytes

-- a word of a substitution may have begun with the last character
abbrev pub is_nothing : Pending → Bool
is_nothing Pending.Nothing = true
is_nothing Pending.Dollar = false
is_nothing Pending.DollarParenthesis = false
is_nothing Pending.Name = false
is_nothing (Pending.Head h) = false
is_nothing Pending.Single = false
is_nothing Pending.Backquotes = false
is_nothing Pending.BackquotesEscape = false
is_nothing Pending.Parenthesis = false
is_nothing (Pending.Operator o) = false
is_nothing Pending.Comment = false
is_nothing (Pending.Body l n j) = false

abbrev pub is_first_piece : Option ℕ → ℕ → Bool
is_first_piece None n = false
is_first_piece (Some k) n = nat_eq n (suc (suc k))

abbrev pub begins_word : State → Bool
begins_word s = is_nothing s.pending && is_first_piece (word_place (top_of s.contexts)) (length s.done)

-- ends of the text that are kept, in the order of the fields: from the token's first byte on; from the first
-- byte of the last character on; after that character; from the first byte of the next character on; from the
-- last byte on with which a form of a body may begin; from the first byte on of the word that began last, if
-- this byte stands for itself
pub record Places : Type 0 where
  pub prefix : List ℕ
  pub previous : List ℕ
  pub behind : List ℕ
  pub next : List ℕ
  pub form : List ℕ
  pub word : List ℕ

-- what the end of the input ends: a token, a word of a substitution that opens a level too many, or neither
pub data Ending : Type 0 where
  EndsIn : (s : State) → Ending
  EndsDeep : Ending
  EndsNot : Ending

-- a word has ended; begins: a compound command may begin with it
abbrev pub word_end : Bool → State → Ending
word_end begins s =
    if is_top s.contexts then EndsIn s
    else if begins && is_over_full s then EndsDeep
    else EndsNot

-- a body, or a word, ends at the end of the input
abbrev pub word_ended : State → Ending
word_ended s =
    if is_body (top_of s.contexts) then EndsIn s
    else if is_word (top_of s.contexts) then word_end (word_begins false s.done (top_of s.contexts)) (word_out false s)
    else EndsNot

abbrev pub gap_ended : State → Ending
gap_ended s = if is_top s.contexts then EndsIn s else word_ended s

-- the token that the end of the input ends
abbrev pub ended_in : Pending → State → Ending
ended_in Pending.Nothing s = gap_ended s
ended_in Pending.Comment s = gap_ended (same (Comment s.bytes) s)
ended_in Pending.Dollar s = word_ended (same Dollar s)
ended_in Pending.Name s = word_ended (same (Variable s.bytes) s)
ended_in (Pending.Operator o) s = if is_top s.contexts then EndsIn (operator_out o s) else EndsNot
ended_in Pending.DollarParenthesis s = EndsNot
ended_in (Pending.Head h) s = EndsNot
ended_in Pending.Single s = EndsNot
ended_in Pending.Backquotes s = EndsNot
ended_in Pending.BackquotesEscape s = EndsNot
ended_in Pending.Parenthesis s = EndsNot
ended_in (Pending.Body l n j) s = EndsNot

-- where no token has begun, the token begins with the next character
abbrev pub with_next_prefix : Bool → Places → Places
with_next_prefix true p = record { prefix = p.next; previous = p.previous; behind = p.next; next = p.next; form = p.form; word = p.word }
with_next_prefix false p = p

abbrev pub with_prefix : State → Places → Places
with_prefix s p = with_next_prefix (is_gap_state s) p

-- after a character that was taken; `after` is the text there; form, word: a form of a body, or a word, may
-- begin with it
abbrev pub after_character : Bool → Bool → List ℕ → Places → Places
after_character form word after p =
    record { prefix = p.prefix; previous = p.next; behind = after; next = after; form = if form then p.next else p.form; word = if word then p.next else p.word }

-- after a byte that waits, or a joined line
abbrev pub after_wait : Bool → List ℕ → Places → Places
after_wait true after p = p
after_wait false after p = record { prefix = p.prefix; previous = p.previous; behind = p.behind; next = after; form = p.form; word = p.word }

abbrev pub last_token : Ending → Places → Scanned
last_token (EndsIn s) p = Ended s p.prefix p.behind
last_token EndsDeep p = Deep p.word
last_token EndsNot p = Open p.form

abbrev pub last_places : State → Places → Scanned
last_places s p = last_token (ended_in s.pending s) p

-- the end of the input, where a backslash that waits stands for itself
abbrev pub last_step : Stepped → Places → Scanned
last_step (On s) p = last_places s (with_prefix s (after_character (begins_form s) (begins_word s) [] p))
last_step (Before s) p = Ended s p.prefix p.behind
last_step (After s) p = Ended s p.prefix []
last_step (TooDeep s) p = Deep p.next
last_step (DollarTooDeep s) p = Deep p.previous
last_step (WordTooDeep s) p = Deep p.word

abbrev pub last : Bool → State → Places → Scanned
last false s p = last_places s p
last true s p = last_step (step s (Plain 92)) p

abbrev pub on : Fed → (Bool → State → Scanned) → (State → Scanned) → (State → Scanned) → (State → Scanned) → Scanned → Scanned → Scanned → Scanned
on (Waits h s) w t b a d g k = w h s
on (Takes (On s)) w t b a d g k = t s
on (Takes (Before s)) w t b a d g k = b s
on (Takes (After s)) w t b a d g k = a s
on (Takes (TooDeep s)) w t b a d g k = d
on (Takes (DollarTooDeep s)) w t b a d g k = g
on (Takes (WordTooDeep s)) w t b a d g k = k

abbrev pub run : Bool → Bool → State → Places → List ℕ → Scanned
run e h s p [] = if e then last h s (with_prefix s p) else Open p.form
run e h s p (b ∷ bs) =
    let q = with_prefix s p in
    on (byte_step (record { state = s; held = h }) b)
    (λ held t. run e held t (after_wait held bs q) bs)
    (λ t. run e false t (after_character (begins_form t) (begins_word t) bs q) bs)
    (λ t. Ended t q.prefix q.behind)
    (λ t. Ended t q.prefix bs)
    (Deep q.next)
    (Deep q.previous)
    (Deep q.word)

abbrev pub start : Context → ℕ → State
start x limit = record { contexts = x ∷ []; done = []; pending = Pending.Nothing; bytes = []; levels = 0; limit = limit }

-- a text that begins in this context, and in which so many levels may be open
abbrev pub scanned_in : Context → Bool → ℕ → List ℕ → Scanned
scanned_in x e limit bytes = run e false (start x limit) (record { prefix = bytes; previous = bytes; behind = bytes; next = bytes; form = bytes; word = bytes }) bytes

abbrev pub scan_of : Bool → ℕ → List ℕ → Scanned
scan_of e limit bytes = scanned_in Top e limit bytes
