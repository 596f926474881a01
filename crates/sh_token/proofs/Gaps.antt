-- What lies before a token is run through, and the kind of the token behind it.
use Rattle.std.proofs.Common.{◌≡◌, ℕ, suc, ◌+◌, Bool, true, false, ◌&&◌, List, [], ◌∷◌, ◌++◌, length, drop, reverse, Some, refl, sym, ap, ◌∙◌, subst, append_assoc, arith}
use Rattle.std.specs.List.{list_all, position_from}
use Rattle.std.proofs.lemmas.List.{append-nil, reverse-append, reverse-reverse}
use Rattle.std.proofs.lemmas.List.Folds.{list_all-append}
use Rattle.std.proofs.lemmas.Iterator.Adapters.{position_from-zero}
use Rattle.sh_token_pieces.specs.declared.context.Context.TheVariants.{Top}
use Rattle.sh_token_pieces.specs.declared.piece.Piece.{Piece}
use Rattle.sh_token_pieces.specs.declared.piece.Piece.TheVariants.{Byte, Escaped, Backslash, SingleQuoted, DoubleQuotesOpen, DoubleQuotesClose, Dollar, Variable, Parameter, BraceOpen, BraceClose, ArithmeticOpen, ArithmeticClose, CommandsOpen, CommandsClose, Backquoted, WordOpen, WordClose, Blank, Comment, Bodies}
use Rattle.sh_token_pieces.specs.Bytes.{is_no_newline}
use Rattle.sh_token_pieces.specs.Pieces.{IsPiece, ArePieces, behind, is_gap, ends_comment}
use Rattle.sh_token.specs.declared.token.TokenKind.{TokenKind}
use Rattle.sh_token.specs.Tokens.{word_kind}
use Rattle.sh_token.specs.Found.{is_of_token, place_or, gap_length, kind_by, kind_from, kind_of}
use Rattle.sh_token_scanner.proofs.Tests.{and_true, and_both}
use Rattle.sh_token_scanner.proofs.Leads.{settled, Leads, stay, joined}
use Rattle.sh_token_scanner.proofs.Between.{blank_leads, comment_leads}

gap_piece : (e : Bool) (limit : ℕ) (done : List Piece) (m : Piece) (bytes after : List ℕ) → is_gap m ≡ true → IsPiece e limit done Top [] m bytes after
    → Leads false e (settled limit done (Top ∷ [])) bytes (settled limit (done ++ m ∷ []) (Top ∷ [])) after × (behind done Top [] m ≡ Top ∷ [])
gap_piece e limit done (Byte b) bytes after h i = absurd (cc)
gap_piece e limit done (Escaped b) bytes after h i = absurd (cc)
gap_piece e limit done (Backslash b) bytes after h i = absurd (cc)
gap_piece e limit done (SingleQuoted bs) bytes after h i = absurd (cc)
gap_piece e limit done DoubleQuotesOpen bytes after h i = absurd (cc)
gap_piece e limit done DoubleQuotesClose bytes after h i = absurd (cc)
gap_piece e limit done Dollar bytes after h i = absurd (cc)
gap_piece e limit done (Variable bs) bytes after h i = absurd (cc)
gap_piece e limit done (Parameter b) bytes after h i = absurd (cc)
gap_piece e limit done (BraceOpen bs) bytes after h i = absurd (cc)
gap_piece e limit done BraceClose bytes after h i = absurd (cc)
gap_piece e limit done ArithmeticOpen bytes after h i = absurd (cc)
gap_piece e limit done ArithmeticClose bytes after h i = absurd (cc)
gap_piece e limit done CommandsOpen bytes after h i = absurd (cc)
gap_piece e limit done CommandsClose bytes after h i = absurd (cc)
gap_piece e limit done (Backquoted bs) bytes after h i = absurd (cc)
gap_piece e limit done WordOpen bytes after h i = absurd (cc)
gap_piece e limit done (WordClose r) bytes after h i = absurd (cc)
gap_piece e limit done (Blank b) bytes after h i = (blank_leads false e limit Top [] done b bytes after (λ z. absurd (cc)) refl i.fits i.written, refl)
gap_piece e limit done (Comment bs) bytes after h i =
    let q = and_true (list_all is_no_newline bs) (ends_comment e after) i.fits in
    (comment_leads false e limit Top [] done bs bytes after (λ z. absurd (cc)) refl q.0 q.1 i.written, refl)
gap_piece e limit done (Bodies bs) bytes after h i = absurd (cc)
gap_piece e limit done (Piece.Operator o) bytes after h i = absurd (cc)

pub gap_pieces : (e : Bool) (limit : ℕ) (ms done : List Piece) (bytes rest : List ℕ) → list_all is_gap ms ≡ true → ArePieces e limit done (Top ∷ []) ms bytes rest
    → Leads false e (settled limit done (Top ∷ [])) bytes (settled limit (done ++ ms) (Top ∷ [])) rest
gap_pieces e limit [] done bytes rest h a = subst (λ z. Leads false e (settled limit done (Top ∷ [])) bytes (settled limit z (Top ∷ [])) rest) (sym (append-nil done)) (stay false e (settled limit done (Top ∷ [])) bytes rest a)
gap_pieces e limit (m ∷ ms) done bytes rest h a =
    let p = and_true (is_gap m) (list_all is_gap ms) h in
    let g = gap_piece e limit done m bytes a.0 p.0 a.1 in
    subst (λ z. Leads false e (settled limit done (Top ∷ [])) bytes (settled limit z (Top ∷ [])) rest) (append_assoc done (m ∷ []) ms)
    (joined false e (settled limit done (Top ∷ [])) (settled limit (done ++ m ∷ []) (Top ∷ [])) (settled limit ((done ++ m ∷ []) ++ ms) (Top ∷ [])) bytes a.0 rest g.0
    (gap_pieces e limit ms (done ++ m ∷ []) a.0 rest p.1 (subst (λ xs. ArePieces e limit (done ++ m ∷ []) xs ms a.0 rest) g.1 a.2)))

-- the kind by the last piece
pub kind_last : (ms : List Piece) (m : Piece) → kind_of (ms ++ m ∷ []) ≡ kind_by m ms
kind_last ms m = ap kind_from (reverse-append ms (m ∷ [])) ∙ ap (kind_by m) (reverse-reverse ms)

gap_no_token : (m : Piece) → is_gap m ≡ true → is_of_token m ≡ false
gap_no_token m h = rw h refl

position_behind : (gap ms : List Piece) (i : ℕ) → list_all is_gap gap ≡ true → position_from is_of_token i (gap ++ WordOpen ∷ ms) ≡ Some (i + length gap)
position_behind [] ms i h = ap Some (omega arith)
position_behind (m ∷ gap) ms i h =
    let p = and_true (is_gap m) (list_all is_gap gap) h in
    let r = position_behind gap ms (i + 1) p.1 in
    let l : (i + 1) + length gap ≡ i + suc (length gap) = omega arith in
    rw (gap_no_token m p.0) (r ∙ ap Some l)

pub behind_open : (gap ms : List Piece) → drop (suc (length gap)) (gap ++ WordOpen ∷ ms) ≡ ms
behind_open [] ms = refl
behind_open (m ∷ gap) ms = behind_open gap ms

pub word_kind_of : (gap ms : List Piece) (r : Bool) → list_all is_gap gap ≡ true → kind_of (((gap ++ WordOpen ∷ []) ++ ms) ++ WordClose r ∷ []) ≡ word_kind r ms
word_kind_of gap ms r h =
    let zero_more : 0 + length gap ≡ length gap = omega arith in
    let place : gap_length (gap ++ WordOpen ∷ ms) ≡ length gap = ap (place_or (length (gap ++ WordOpen ∷ ms))) (position_from-zero is_of_token (gap ++ WordOpen ∷ ms) ∙ position_behind gap ms 0 h) ∙ zero_more in
    kind_last ((gap ++ WordOpen ∷ []) ++ ms) (WordClose r)
    ∙ (ap (kind_by (WordClose r)) (append_assoc gap (WordOpen ∷ []) ms)
    ∙ (ap (λ n. word_kind r (drop (suc n) (gap ++ WordOpen ∷ ms))) place ∙ ap (word_kind r) (behind_open gap ms)))

-- behind nothing but a gap comes the end
gap_end : (m : Piece) (ms : List Piece) → is_gap m ≡ true → kind_by m ms ≡ TokenKind.End
gap_end (Byte b) ms h = absurd (cc)
gap_end (Escaped b) ms h = absurd (cc)
gap_end (Backslash b) ms h = absurd (cc)
gap_end (SingleQuoted bs) ms h = absurd (cc)
gap_end DoubleQuotesOpen ms h = absurd (cc)
gap_end DoubleQuotesClose ms h = absurd (cc)
gap_end Dollar ms h = absurd (cc)
gap_end (Variable bs) ms h = absurd (cc)
gap_end (Parameter b) ms h = absurd (cc)
gap_end (BraceOpen bs) ms h = absurd (cc)
gap_end BraceClose ms h = absurd (cc)
gap_end ArithmeticOpen ms h = absurd (cc)
gap_end ArithmeticClose ms h = absurd (cc)
gap_end CommandsOpen ms h = absurd (cc)
gap_end CommandsClose ms h = absurd (cc)
gap_end (Backquoted bs) ms h = absurd (cc)
gap_end WordOpen ms h = absurd (cc)
gap_end (WordClose r) ms h = absurd (cc)
gap_end (Blank b) ms h = refl
gap_end (Comment bs) ms h = refl
gap_end (Bodies bs) ms h = absurd (cc)
gap_end (Piece.Operator o) ms h = absurd (cc)

reversed_end : (ms : List Piece) → list_all is_gap ms ≡ true → kind_from ms ≡ TokenKind.End
reversed_end [] h = refl
reversed_end (m ∷ ms) h = gap_end m (reverse ms) (and_true (is_gap m) (list_all is_gap ms) h).0

all_reversed : (ms : List Piece) → list_all is_gap ms ≡ true → list_all is_gap (reverse ms) ≡ true
all_reversed [] h = refl
all_reversed (m ∷ ms) h =
    let p = and_true (is_gap m) (list_all is_gap ms) h in
    subst (λ z. list_all is_gap z ≡ true) (sym (reverse-append (m ∷ []) ms))
    (list_all-append is_gap (reverse ms) (m ∷ []) ∙ and_both (list_all is_gap (reverse ms)) (is_gap m && true) (all_reversed ms p.1) (and_both (is_gap m) true p.0 refl))

pub gap_kind : (gap : List Piece) → list_all is_gap gap ≡ true → kind_of gap ≡ TokenKind.End
gap_kind gap h = reversed_end (reverse gap) (all_reversed gap h)
