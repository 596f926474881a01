-- What pieces take of the bytes with which they begin.
use Rattle.std.proofs.Common.{◌≡◌, inl, inr, ℕ, zero, suc, ◌+◌, ◌≤◌, nat_eq, Bool, false, List, [], ◌∷◌, ◌++◌, length, take, drop, refl, sym, ap, subst, ◌∙◌, append_assoc, arith}
use Rattle.std.proofs.lemmas.List.{drop_at, length-append}
use Rattle.sh_token_pieces.specs.declared.character.Character.{Character}
use Rattle.sh_token_pieces.specs.declared.character.Character.TheVariants.{Plain, Quoted, Raw}
use Rattle.sh_token_pieces.specs.declared.context.Context.{Context}
use Rattle.sh_token_pieces.specs.declared.piece.Piece.{Piece}
use Rattle.sh_token_pieces.specs.Characters.{Reads, Written, joins}
use Rattle.sh_token_pieces.specs.Pieces.{ArePieces, behind}
use Rattle.sh_token_pieces.specs.Spelling.{spell_piece}
use Rattle.sh_token.proofs.Laws.{written_length}
use Rattle.sh_parse_words.specs.Places.{behind_joins, behind_character, behind_characters, behind_piece}
use Rattle.sh_parse_leaves.specs.Sources.{behind_pieces}

-- ---- joined lines
pub plain_behind : (n b : ℕ) (rest : List ℕ) → nat_eq b 92 ≡ false → behind_joins (joins n ++ b ∷ rest) ≡ b ∷ rest
plain_behind zero b [] h = refl
plain_behind zero b (c ∷ rest) h = rw h refl
plain_behind (suc n) b rest h = plain_behind n b rest h

last_behind : (n b : ℕ) → behind_joins (joins n ++ b ∷ []) ≡ b ∷ []
last_behind zero b = refl
last_behind (suc n) b = last_behind n b

pub quoted_behind : (n b : ℕ) (rest : List ℕ) → nat_eq b 10 ≡ false → behind_joins (joins n ++ 92 ∷ b ∷ rest) ≡ 92 ∷ b ∷ rest
quoted_behind zero b rest h = rw h refl
quoted_behind (suc n) b rest h = quoted_behind n b rest h

pub plain_joins : (e : Bool) (b : ℕ) (bytes rest : List ℕ) → Reads e (Plain b) bytes rest → behind_joins bytes ≡ b ∷ rest
plain_joins e b bytes rest (n, is, inl other) = ap behind_joins is ∙ plain_behind n b rest other
plain_joins e b bytes rest (n, is, inr last) =
    ap behind_joins is ∙ ap (λ z. behind_joins (joins n ++ b ∷ z)) last.2 ∙ last_behind n b ∙ ap (λ z. b ∷ z) (sym last.2)

-- ---- characters
one_read : (e : Bool) (c : Character) (bytes rest : List ℕ) → Reads e c bytes rest → behind_character c bytes ≡ rest
one_read e (Plain b) bytes rest h = ap (drop 1) (plain_joins e b bytes rest h)
one_read e (Quoted b) bytes rest h = ap (drop 2) (ap behind_joins h.1 ∙ quoted_behind h.0 b rest h.2)
one_read e (Raw b) bytes rest h = ap (drop 1) h

all_written : (e : Bool) (cs : List Character) (bytes rest : List ℕ) → Written e cs bytes rest → behind_characters cs bytes ≡ rest
all_written e [] bytes rest h = h
all_written e (c ∷ cs) bytes rest h = ap (behind_characters cs) (one_read e c bytes h.0 h.1) ∙ all_written e cs h.0 rest h.2

pub piece_written : (e : Bool) (m : Piece) (bytes rest : List ℕ) → Written e (spell_piece m) bytes rest → behind_piece m bytes ≡ rest
unfolding behind_piece
piece_written e m bytes rest h = all_written e (spell_piece m) bytes rest h

-- ---- pieces, one behind another
abbrev pub Pieces : Bool → List Piece → List ℕ → List ℕ → Type 0
Pieces e [] bytes rest = bytes ≡ rest
Pieces e (m ∷ ms) bytes rest = (after : List ℕ) × Written e (spell_piece m) bytes after × Pieces e ms after rest

pub pieces_of : (e : Bool) (limit : ℕ) (ms done : List Piece) (xs : List Context) (bytes rest : List ℕ) → ArePieces e limit done xs ms bytes rest → Pieces e ms bytes rest
pieces_of e limit [] done xs bytes rest a = a
pieces_of e limit (m ∷ ms) done [] bytes rest a = absurd a
pieces_of e limit (m ∷ ms) done (x ∷ xs) bytes rest a = (a.0, a.1.written, pieces_of e limit ms (done ++ m ∷ []) (behind done x xs m) a.0 rest a.2)

pub pieces_length : (e : Bool) (ms : List Piece) (bytes rest : List ℕ) → Pieces e ms bytes rest → length rest ≤ length bytes
pieces_length e [] bytes rest h = subst (λ z. length z ≤ length bytes) h (omega arith)
pieces_length e (m ∷ ms) bytes rest h =
    let a = written_length e (spell_piece m) bytes h.0 h.1 in
    let b = pieces_length e ms h.0 rest h.2 in
    omega (a, b, arith)

-- those behind the first so many
pub record Others (e : Bool) (k : ℕ) (ms : List Piece) (bytes rest : List ℕ) : Type 0 where
  pub others : Pieces e (drop k ms) (behind_pieces (take k ms) bytes) rest
  pub shorter : length (behind_pieces (take k ms) bytes) ≤ length bytes

pub other_pieces : (e : Bool) (k : ℕ) (ms : List Piece) (bytes rest : List ℕ) → Pieces e ms bytes rest → Others e k ms bytes rest
other_pieces e zero ms bytes rest h = record { others = h; shorter = omega arith }
other_pieces e (suc k) [] bytes rest h = record { others = h; shorter = omega arith }
other_pieces e (suc k) (m ∷ ms) bytes rest h =
    let w = piece_written e m bytes h.0 h.1 in
    let o = other_pieces e k ms h.0 rest h.2 in
    let l = written_length e (spell_piece m) bytes h.0 h.1 in
    let s : length (behind_pieces (take k ms) h.0) ≤ length h.0 = o.shorter in
    record {
      others = subst (λ z. Pieces e (drop k ms) (behind_pieces (take k ms) z) rest) (sym w) o.others;
      shorter = subst (λ z. length (behind_pieces (take k ms) z) ≤ length bytes) (sym w) (omega (l, s, arith));
    }

-- ---- what is left of bytes stands at their end
abbrev pub EndsWith : List ℕ → List ℕ → Type 0
EndsWith bytes rest = (prefix : List ℕ) × (bytes ≡ prefix ++ rest)

pub both_end : (one two three : List ℕ) → EndsWith one two → EndsWith two three → EndsWith one three
both_end one two three f g = (f.0 ++ g.0, f.1 ∙ ap (λ z. f.0 ++ z) g.1 ∙ sym (append_assoc f.0 g.0 three))

read_ends : (e : Bool) (c : Character) (bytes rest : List ℕ) → Reads e c bytes rest → EndsWith bytes rest
read_ends e (Plain b) bytes rest h = (joins h.0 ++ b ∷ [], h.1 ∙ sym (append_assoc (joins h.0) (b ∷ []) rest))
read_ends e (Quoted b) bytes rest h = (joins h.0 ++ 92 ∷ b ∷ [], h.1 ∙ sym (append_assoc (joins h.0) (92 ∷ b ∷ []) rest))
read_ends e (Raw b) bytes rest h = (b ∷ [], h)

written_ends : (e : Bool) (cs : List Character) (bytes rest : List ℕ) → Written e cs bytes rest → EndsWith bytes rest
written_ends e [] bytes rest h = ([], h)
written_ends e (c ∷ cs) bytes rest h = both_end bytes h.0 rest (read_ends e c bytes h.0 h.1) (written_ends e cs h.0 rest h.2)

pub pieces_end : (e : Bool) (ms : List Piece) (bytes rest : List ℕ) → Pieces e ms bytes rest → EndsWith bytes rest
pieces_end e [] bytes rest h = ([], h)
pieces_end e (m ∷ ms) bytes rest h = both_end bytes h.0 rest (written_ends e (spell_piece m) bytes h.0 h.1) (pieces_end e ms h.0 rest h.2)

pub joins_end : (n : ℕ) (bytes rest : List ℕ) → bytes ≡ joins n ++ rest → EndsWith bytes rest
joins_end n bytes rest h = (joins n, h)

pub end_at : (bytes rest : List ℕ) (start : ℕ) → EndsWith bytes rest → start + length rest ≡ length bytes → drop start bytes ≡ rest
end_at bytes rest start h l =
    let a : length (h.0 ++ rest) ≡ length h.0 + length rest = length-append h.0 rest in
    let b : length bytes ≡ length (h.0 ++ rest) = ap length h.1 in
    ap (drop start) h.1 ∙ drop_at h.0 rest start (omega (a, b, l, arith))
