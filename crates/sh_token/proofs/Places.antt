-- Where tokens stand: each has bytes, but for the end of the input.
use Rattle.std.proofs.Common.{◌≡◌, ◌⊎◌, inl, inr, ℕ, ◌+◌, ◌-◌, ◌<◌, Bool, true, ◌&&◌, not, nat_eq, List, [], ◌∷◌, ◌++◌, length, drop, refl, sym, ap, ◌∙◌, subst, arith}
use Rattle.std.proofs.lemmas.List.{length-drop}
use Rattle.sh_token_pieces.specs.declared.character.Character.{Character}
use Rattle.sh_token_pieces.specs.declared.character.Character.TheVariants.{Plain, Quoted, Raw}
use Rattle.sh_token_pieces.specs.declared.operator.Operator.{Operator}
use Rattle.sh_token_pieces.specs.declared.context.Context.{Context}
use Rattle.sh_token_pieces.specs.declared.context.Context.TheVariants.{Top}
use Rattle.sh_token_pieces.specs.declared.piece.Piece.{Piece}
use Rattle.sh_token_pieces.specs.declared.piece.Piece.TheVariants.{WordOpen}
use Rattle.sh_token_pieces.specs.Bytes.{is_end, is_redirection}
use Rattle.sh_token_pieces.specs.Characters.{Written, plain, Ahead, Next, InputEnd, Unknown, ahead, next_is}
use Rattle.sh_token_pieces.specs.Operators.{operator_text}
use Rattle.sh_token_pieces.specs.Spelling.{spell_piece}
use Rattle.sh_token_pieces.specs.Pieces.{ArePieces, behind, is_word, begins_word, ends_word, same_as}
use Rattle.sh_token.specs.declared.token.TokenKind.{TokenKind}
use Rattle.sh_token.specs.Tokens.{IsToken, ending, operator, word, HasToken}
use Rattle.sh_token_scanner.specs.Machine.{State}
use Rattle.sh_token_scanner.specs.Run.{Ended, scan_of}
use Rattle.sh_token.specs.Found.{kind_of}
use Rattle.sh_token.specs.Placed.{IsPlaced}
use Rattle.sh_token_scanner.proofs.Tests.{and_true, not_true}
use Rattle.sh_token_scanner.proofs.Between.{Made, one_byte, two_bytes, three_bytes, made}
use Rattle.sh_token.proofs.Texts.{Answered, sound}
use Rattle.sh_token.proofs.Laws.{reads_length, written_length, token_ordered}

-- pieces take bytes, or leave them as they are
written_moves : (e : Bool) (cs : List Character) (m rest : List ℕ) → Written e cs m rest → (m ≡ rest) ⊎ (length rest < length m)
written_moves e [] m rest h = inl h
written_moves e (c ∷ cs) m rest h =
    let a = reads_length e c m h.0 h.1 in
    let b = written_length e cs h.0 rest h.2 in
    inr (omega (a, b, arith))

either_moves : (m middle rest : List ℕ) → (m ≡ middle) ⊎ (length middle < length m) → (middle ≡ rest) ⊎ (length rest < length middle) → (m ≡ rest) ⊎ (length rest < length m)
either_moves m middle rest (inl a) (inl b) = inl (a ∙ b)
either_moves m middle rest (inl a) (inr b) = let l = ap length a in inr (omega (l, b, arith))
either_moves m middle rest (inr a) (inl b) = let l = ap length b in inr (omega (l, a, arith))
either_moves m middle rest (inr a) (inr b) = inr (omega (a, b, arith))

pieces_move : (e : Bool) (limit : ℕ) (ms done : List Piece) (xs : List Context) (m rest : List ℕ) → ArePieces e limit done xs ms m rest → (m ≡ rest) ⊎ (length rest < length m)
pieces_move e limit [] done xs m rest h = inl h
pieces_move e limit (k ∷ ms) done [] m rest h = absurd h
pieces_move e limit (k ∷ ms) done (x ∷ xs) m rest h =
    either_moves m h.0 rest (written_moves e (spell_piece k) m h.0 h.1.written) (pieces_move e limit ms (done ++ k ∷ []) (behind done x xs k) h.0 rest h.2)

-- what begins a word ends none
begins_or_ends : (y : Ahead) → begins_word y ≡ true → ends_word y ≡ true → ⊥
begins_or_ends (Next (Plain b)) h g = let n = not_true (is_end b) (and_true (not (is_end b)) (not (nat_eq b 35)) h).0 in cc
begins_or_ends (Next (Quoted b)) h g = cc
begins_or_ends (Next (Raw b)) h g = cc
begins_or_ends InputEnd h g = cc
begins_or_ends Unknown h g = cc

operator_moves : (e : Bool) (o : Operator) (m rest : List ℕ) → Made o → Written e (plain (operator_text o)) m rest → length rest < length m
operator_moves e o m rest (one_byte b s f y z) w = some b [] (subst (λ t. Written e (plain t) m rest) s w)
  where
    some : (b : ℕ) (bs : List ℕ) → Written e (plain (b ∷ bs)) m rest → length rest < length m
    some b bs w = let a = reads_length e (Plain b) m w.0 w.1 in let c = written_length e (plain bs) w.0 rest w.2 in omega (a, c, arith)
operator_moves e o m rest (two_bytes b c p s f y z j l) w =
    let v : Written e (plain (b ∷ c ∷ [])) m rest = subst (λ t. Written e (plain t) m rest) s w in
    let a = reads_length e (Plain b) m v.0 v.1 in
    let d = written_length e (plain (c ∷ [])) v.0 rest v.2 in
    omega (a, d, arith)
operator_moves e o m rest (three_bytes b c d p q s f y z j l n u) w =
    let v : Written e (plain (b ∷ c ∷ d ∷ [])) m rest = subst (λ t. Written e (plain t) m rest) s w in
    let a = reads_length e (Plain b) m v.0 v.1 in
    let t = written_length e (plain (c ∷ d ∷ [])) v.0 rest v.2 in
    omega (a, t, arith)

token_moves : (e : Bool) (limit : ℕ) (gap : List Piece) (prefix rest : List ℕ) (k : TokenKind) → IsToken e limit gap prefix rest k → (k ≡ TokenKind.End → ⊥) → length rest < length prefix
token_moves e limit gap prefix rest _ (ending t f r) n = absurd (n refl)
token_moves e limit gap prefix rest _ (operator o i) n = operator_moves e o prefix rest (made o) i.written
token_moves e limit gap prefix rest _ (word ms r x xs middle a g k i t) n = go (pieces_move e limit (WordOpen ∷ ms) gap (Top ∷ []) prefix middle a)
  where
    ends : ends_word (ahead e rest) ≡ true
    ends = (and_true (ends_word (ahead e rest)) (same_as r (next_is is_redirection (ahead e rest))) (and_true (is_word x) (ends_word (ahead e rest) && same_as r (next_is is_redirection (ahead e rest))) i.fits).1).0

    begins : begins_word (ahead e prefix) ≡ true
    begins = ap (λ z. begins_word (ahead e z)) a.1.written ∙ a.1.fits

    go : (prefix ≡ middle) ⊎ (length middle < length prefix) → length rest < length prefix
    go (inl s) = absurd (begins_or_ends (ahead e prefix) begins (ap (λ z. ends_word (ahead e z)) (s ∙ i.written) ∙ ends))
    go (inr l) = let w = ap length i.written in omega (l, w, arith)

-- the token that is scanned
pub scanned_placed : (e : Bool) (limit : ℕ) (text : List ℕ) (at : ℕ) (k : State) (prefix rest : List ℕ) → scan_of e limit (drop at text) ≡ Ended k prefix rest
    → IsPlaced at (length text) (record { kind = kind_of k.done; span = record { start = at + (length (drop at text) - length prefix); «end» = at + (length (drop at text) - length rest) } })
scanned_placed e limit text at k prefix rest h =
    let t : HasToken e limit (drop at text) prefix rest (kind_of k.done) = subst (Answered e limit (drop at text)) h (sound e limit (drop at text)) in
    let o = token_ordered e limit (drop at text) prefix rest (kind_of k.done) t in
    let start = o.start in
    let stop = o.stop in
    let l = length-drop at text in
    record {
      starts = omega arith;
      ordered = omega (start, stop, arith);
      ends = λ i. omega (start, stop, l, i, arith);
      advances = λ n. let m = token_moves e limit t.gap prefix rest (kind_of k.done) t.token n in omega (start, stop, m, arith);
    }

pub placed_shown : (e : Bool) (limit : ℕ) (text : List ℕ) (at : ℕ) (bytes : List ℕ) (k : State) (prefix rest : List ℕ) (kind : TokenKind) (a b : ℕ) → bytes ≡ drop at text → scan_of e limit bytes ≡ Ended k prefix rest → kind ≡ kind_of k.done
    → a ≡ length bytes - length prefix → b ≡ length bytes - length rest → IsPlaced at (length text) (record { kind = kind; span = record { start = at + a; «end» = at + b } })
placed_shown e limit text at bytes k prefix rest kind a b w s n h i =
    let p = scanned_placed e limit text at k prefix rest (ap (scan_of e limit) (sym w) ∙ s) in
    let x : length (drop at text) - length prefix ≡ a = sym (h ∙ ap (λ z. length z - length prefix) w) in
    let y : length (drop at text) - length rest ≡ b = sym (i ∙ ap (λ z. length z - length rest) w) in
    subst (λ t. IsPlaced at (length text) (record { kind = t; span = record { start = at + a; «end» = at + b } })) (sym n)
    (subst (λ z. IsPlaced at (length text) (record { kind = kind_of k.done; span = record { start = at + z; «end» = at + b } })) x
    (subst (λ z. IsPlaced at (length text) (record { kind = kind_of k.done; span = record { start = at + (length (drop at text) - length prefix); «end» = at + z } })) y p))
