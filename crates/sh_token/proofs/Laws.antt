-- The first token is the one of the definition.
use Rattle.std.proofs.Common.{◌≡◌, ◌↔◌, ℕ, ◌+◌, ◌-◌, ◌<◌, ◌≤◌, Bool, List, [], ◌∷◌, ◌++◌, length, refl, sym, ap, ◌∙◌, subst, arith, length-append}
use Rattle.sh_token_pieces.specs.declared.character.Character.{Character}
use Rattle.sh_token_pieces.specs.declared.character.Character.TheVariants.{Plain, Quoted, Raw}
use Rattle.sh_token_pieces.specs.declared.context.Context.{Context}
use Rattle.sh_token_pieces.specs.declared.context.Context.TheVariants.{Top}
use Rattle.sh_token_pieces.specs.declared.piece.Piece.{Piece}
use Rattle.sh_token_pieces.specs.declared.piece.Piece.TheVariants.{WordOpen}
use Rattle.sh_token_pieces.specs.Characters.{joins, Reads, Written, plain}
use Rattle.sh_token_pieces.specs.Operators.{operator_text}
use Rattle.sh_token_pieces.specs.Pieces.{ArePieces, behind}
use Rattle.sh_token_pieces.specs.Spelling.{spell_piece}
use Rattle.sh_token.specs.declared.token.TokenKind.{TokenKind}
use Rattle.sh_token.specs.Tokens.{Joined, IsToken, ending, operator, word, HasToken, IsTooDeep}
use Rattle.sh_token_scanner.specs.Machine.{State}
use Rattle.sh_token_scanner.specs.Run.{Scanned, Ended, Deep, Open, scan_of}
use Rattle.sh_token.specs.FirstToken.{FirstToken, Found, Unfinished, DeepAt, IsFirst}
use Rattle.sh_token.specs.Found.{kind_of, token_of, first_token}
use Rattle.sh_token.proofs.Complete.{complete}
use Rattle.sh_token.proofs.Deep.{deep}
use Rattle.sh_token.proofs.Texts.{Answered, sound}

-- how many bytes pieces take
pub reads_length : (e : Bool) (c : Character) (m middle : List ℕ) → Reads e c m middle → length middle < length m
reads_length e (Plain b) m middle h = omega (arith, ap length h.1, length-append (joins h.0) (b ∷ middle))
reads_length e (Quoted b) m middle h = omega (arith, ap length h.1, length-append (joins h.0) (92 ∷ b ∷ middle))
reads_length e (Raw b) m middle h = omega (arith, ap length h)

pub written_length : (e : Bool) (cs : List Character) (m rest : List ℕ) → Written e cs m rest → length rest ≤ length m
written_length e [] m rest h = omega (arith, ap length h)
written_length e (c ∷ cs) m rest h =
    let a = reads_length e c m h.0 h.1 in
    let b = written_length e cs h.0 rest h.2 in
    omega arith

pub pieces_length : (e : Bool) (limit : ℕ) (ms done : List Piece) (xs : List Context) (m rest : List ℕ) → ArePieces e limit done xs ms m rest → length rest ≤ length m
pieces_length e limit [] done xs m rest h = omega (arith, ap length h)
pieces_length e limit (k ∷ ms) done [] m rest h = absurd h
pieces_length e limit (k ∷ ms) done (x ∷ xs) m rest h =
    let a = written_length e (spell_piece k) m h.0 h.1.written in
    let b = pieces_length e limit ms (done ++ k ∷ []) (behind done x xs k) h.0 rest h.2 in
    omega arith

pub joined_length : (m prefix : List ℕ) → Joined m prefix → length prefix ≤ length m
joined_length m prefix h = omega (arith, ap length h.is, length-append (joins h.lines) prefix)

token_length : (e : Bool) (limit : ℕ) (gap : List Piece) (prefix rest : List ℕ) (k : TokenKind) → IsToken e limit gap prefix rest k → length rest ≤ length prefix
token_length e limit gap prefix rest _ (ending t f r) = omega (arith, ap length f, ap length r)
token_length e limit gap prefix rest _ (operator o i) = written_length e (plain (operator_text o)) prefix rest i.written
token_length e limit gap prefix rest _ (word ms r x xs middle a n k i t) =
    let b = pieces_length e limit (WordOpen ∷ ms) gap (Top ∷ []) prefix middle a in
    omega (arith, ap length i.written)

pub record Ordered (bytes prefix rest : List ℕ) : Type 0 where
  pub start : length prefix ≤ length bytes
  pub stop : length rest ≤ length prefix

pub token_ordered : (e : Bool) (limit : ℕ) (bytes prefix rest : List ℕ) (k : TokenKind) → HasToken e limit bytes prefix rest k → Ordered bytes prefix rest
token_ordered e limit bytes prefix rest k h =
    let a = pieces_length e limit h.gap [] (Top ∷ []) bytes h.middle h.between in
    let b = joined_length h.middle prefix h.joined in
    record { start = omega arith; stop = token_length e limit h.gap prefix rest k h.token }

pub deep_ordered : (e : Bool) (limit : ℕ) (bytes place : List ℕ) → IsTooDeep e limit bytes place → length place ≤ length bytes
deep_ordered e limit bytes place h =
    let a = pieces_length e limit h.gap [] (Top ∷ []) bytes h.middle h.between in
    let b = joined_length h.middle h.prefix h.joined in
    let c = pieces_length e limit (WordOpen ∷ h.pieces) h.gap (Top ∷ []) h.prefix h.last h.before in
    let d = joined_length h.last place h.placed in
    omega arith

-- what is scanned is one of three
not_open : (k : State) (f r o : List ℕ) → Ended k f r ≡ Open o → ⊥
not_open k f r o h = cc

deep_not_open : (r o : List ℕ) → Deep r ≡ Open o → ⊥
deep_not_open r o h = cc

module _ (e : Bool) (limit : ℕ) (bytes : List ℕ) where
  found : (s : Scanned) → scan_of e limit bytes ≡ s → Answered e limit bytes s
  found s h = subst (Answered e limit bytes) h (sound e limit bytes)

  no_token : (o : List ℕ) → scan_of e limit bytes ≡ Open o → (prefix rest : List ℕ) (kind : TokenKind) → HasToken e limit bytes prefix rest kind → ⊥
  no_token o h prefix rest kind u = let c = complete e limit bytes prefix rest kind u in not_open c.state prefix rest o (sym c.is ∙ h)

  no_depth : (o : List ℕ) → scan_of e limit bytes ≡ Open o → (rest : List ℕ) → IsTooDeep e limit bytes rest → ⊥
  no_depth o h rest u = deep_not_open rest o (sym (deep e limit bytes rest u) ∙ h)

  -- the run stops at the one place where a level too many opens
  same_place : (r o : List ℕ) → Deep o ≡ Deep r → o ≡ r
  same_place r o h = cc

  found_deep : (r : List ℕ) → scan_of e limit bytes ≡ Deep r → IsTooDeep e limit bytes r
  found_deep r h = let t = found (Deep r) h in subst (IsTooDeep e limit bytes) (same_place r t.0 (sym (deep e limit bytes t.0 t.1) ∙ h)) t.1

  scanned_first : (s : Scanned) → scan_of e limit bytes ≡ s → IsFirst e limit bytes (token_of bytes s)
  scanned_first (Ended k f r) h =
      let t = found (Ended k f r) h in
      let o = token_ordered e limit bytes f r (kind_of k.done) t in
      let start = o.start in
      let stop = o.stop in
      (f, (r, t, omega arith, omega arith))
  scanned_first (Deep r) h =
      let t = found_deep r h in
      let o = deep_ordered e limit bytes r t in
      (r, t, omega arith)
  scanned_first (Open o) h = (no_token o h, no_depth o h)

  pub is_first : IsFirst e limit bytes (first_token e limit bytes)
  unfolding first_token
  is_first = scanned_first (scan_of e limit bytes) refl

  -- the first token is the answer
  ended_only : (k : TokenKind) (start stop : ℕ) (prefix rest : List ℕ) (t : HasToken e limit bytes prefix rest k) → start + length prefix ≡ length bytes → stop + length rest ≡ length bytes
      → first_token e limit bytes ≡ Found k start stop
  unfolding first_token
  ended_only k start stop prefix rest t s p =
      let c = complete e limit bytes prefix rest k t in
      let x : length bytes - length rest ≡ stop = omega arith in
      let y : length bytes - length prefix ≡ start = omega arith in
      ap (token_of bytes) c.is ∙ (ap (λ x. Found (kind_of c.state.done) (length bytes - length prefix) x) x
      ∙ (ap (λ y. Found (kind_of c.state.done) y stop) y ∙ ap (λ z. Found z start stop) c.kind_is))

  deep_only : (place : ℕ) (rest : List ℕ) → IsTooDeep e limit bytes rest → place + length rest ≡ length bytes → first_token e limit bytes ≡ DeepAt place
  unfolding first_token
  deep_only place rest t p =
      let x : length bytes - length rest ≡ place = omega arith in
      ap (token_of bytes) (deep e limit bytes rest t) ∙ ap (λ x. DeepAt x) x

  open_only : (s : Scanned) → scan_of e limit bytes ≡ s → ((prefix rest : List ℕ) (kind : TokenKind) → HasToken e limit bytes prefix rest kind → ⊥) → ((rest : List ℕ) → IsTooDeep e limit bytes rest → ⊥)
      → token_of bytes s ≡ Unfinished
  open_only (Ended k f r) h none level = absurd (none f r (kind_of k.done) (found (Ended k f r) h))
  open_only (Deep r) h none level = absurd (level r (found_deep r h))
  open_only (Open o) h none level = refl

  pub first_only : (answer : FirstToken) → IsFirst e limit bytes answer → first_token e limit bytes ≡ answer
  unfolding first_token
  first_only (Found k start stop) h = ended_only k start stop h.0 h.1.0 h.1.1 h.1.2 h.1.3
  first_only (DeepAt place) h = deep_only place h.0 h.1 h.2
  first_only Unfinished h = open_only (scan_of e limit bytes) refl h.0 h.1

  pub first_law : (answer : FirstToken) → (first_token e limit bytes ≡ answer) ↔ IsFirst e limit bytes answer
  first_law answer = ((λ h. subst (IsFirst e limit bytes) h is_first), λ h. first_only answer h)
