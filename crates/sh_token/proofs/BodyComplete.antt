-- A body of the definition is run to its end, or to where it can't go on.
use Rattle.std.proofs.Common.{◌≡◌, ℕ, ◌≤◌, Bool, true, false, not, List, [], ◌∷◌, ◌++◌, length, refl, sym, ap, ◌∙◌, arith}
use Rattle.sh_token_pieces.specs.declared.context.Context.{Context}
use Rattle.sh_token_pieces.specs.declared.context.Context.TheVariants.{Body}
use Rattle.sh_token_pieces.specs.declared.piece.Piece.{Piece}
use Rattle.sh_token_pieces.specs.declared.piece.Piece.TheVariants.{Byte, Escaped, Backslash, SingleQuoted, DoubleQuotesOpen, DoubleQuotesClose, Dollar, Variable, Parameter, BraceOpen, BraceClose, ArithmeticOpen, ArithmeticClose, CommandsOpen, CommandsClose, Backquoted, WordOpen, WordClose, Blank, Comment, Bodies}
use Rattle.sh_token_pieces.specs.Pieces.{ArePieces, behind, contexts_behind, ends_token, ends_none, is_text, top_of}
use Rattle.sh_token.specs.Body.{IsPrefix, IsBodyTooDeep}
use Rattle.sh_token_scanner.specs.Machine.{State}
use Rattle.sh_token_scanner.specs.Run.{Ended, Deep, Open, Places, run, scanned_in}
use Rattle.sh_token_scanner.proofs.Running.{placed, joins_run}
use Rattle.sh_token_scanner.proofs.Tests.{and_true, and_both, not_true, not_false, nested, nested_behind}
use Rattle.sh_token_scanner.proofs.Grounds.{free, free_behind, never_text}
use Rattle.sh_token_scanner.proofs.Leads.{settled}
use Rattle.sh_token_scanner.proofs.Inner.{Inside, inside_behind, inside_all, inner_all}
use Rattle.sh_token.proofs.Deep.{in_deep}
use Rattle.sh_token_scanner.proofs.Loose.{loose_run}

-- no piece ends a token where the text itself is not below
no_end : (m : Piece) (ys : List Context) → is_text (top_of ys) ≡ false → ends_token m ys ≡ false
no_end (Byte b) ys t = refl
no_end (Escaped b) ys t = refl
no_end (Backslash b) ys t = refl
no_end (SingleQuoted bs) ys t = refl
no_end DoubleQuotesOpen ys t = refl
no_end DoubleQuotesClose ys t = refl
no_end Dollar ys t = refl
no_end (Variable bs) ys t = refl
no_end (Parameter b) ys t = refl
no_end (BraceOpen bs) ys t = refl
no_end BraceClose ys t = refl
no_end ArithmeticOpen ys t = refl
no_end ArithmeticClose ys t = refl
no_end CommandsOpen ys t = refl
no_end CommandsClose ys t = refl
no_end (Backquoted bs) ys t = refl
no_end WordOpen ys t = refl
no_end (WordClose r) ys t = t
no_end (Blank b) ys t = refl
no_end (Comment bs) ys t = refl
no_end (Bodies bs) ys t = refl
no_end (Piece.Operator o) ys t = t

top_free : (ys : List Context) → nested ys ≡ true → free is_text ys ≡ true → is_text (top_of ys) ≡ false
top_free [] n f = absurd (cc)
top_free (y ∷ ys) n f = not_true (is_text y) (and_true (not (is_text y)) (free is_text ys) f).0

none_end : (e : Bool) (limit : ℕ) (ms done : List Piece) (xs : List Context) (bytes rest : List ℕ) → Inside xs → free is_text xs ≡ true → ArePieces e limit done xs ms bytes rest → ends_none done xs ms ≡ true
none_end e limit [] done xs bytes rest i f a = refl
none_end e limit (m ∷ ms) done [] bytes rest i f a = absurd a
none_end e limit (m ∷ ms) done (x ∷ xs) bytes rest i f a =
    let ys = behind done x xs m in
    let g = free_behind is_text never_text done x xs m f in
    let t = no_end m ys (top_free ys (nested_behind e done x xs m a.0 i.order a.1.fits) g) in
    and_both (not (ends_token m ys)) (ends_none (done ++ m ∷ []) ys ms) (not_false (ends_token m ys) t)
    (none_end e limit ms (done ++ m ∷ []) ys a.0 rest (inside_behind e limit done x xs m bytes a.0 i a.1 t) g a.2)

-- the run behind pieces of a body
pub record After (limit : ℕ) (bytes : List ℕ) (pieces : List Piece) (last : List ℕ) : Type 0 where
  pub places : Places
  pub next : places.next ≡ last
  pub inside : Inside (contexts_behind [] (Body ∷ []) pieces)
  pub is : scanned_in Body true limit bytes ≡ run true false (settled limit pieces (contexts_behind [] (Body ∷ []) pieces)) places last

pub behind_pieces : (limit : ℕ) (bytes last : List ℕ) (pieces : List Piece) → ArePieces true limit [] (Body ∷ []) pieces bytes last → After limit bytes pieces last
behind_pieces limit bytes last pieces a =
    let i : Inside (Body ∷ []) = record { order = refl; inner = refl } in
    let n = none_end true limit pieces [] (Body ∷ []) bytes last i refl a in
    let l = inner_all true limit pieces [] (Body ∷ []) bytes last i a n
    (record { prefix = bytes; previous = bytes; behind = bytes; next = bytes; form = bytes; word = bytes }) refl refl in
    record { places = l.places; next = l.next; inside = inside_all true limit pieces [] (Body ∷ []) bytes last i a n; is = l.same }

abbrev body_state : ℕ → List Piece → State
body_state limit pieces = settled limit pieces (Body ∷ [])

-- and behind joined lines
pub record Standing (limit : ℕ) (bytes : List ℕ) (pieces : List Piece) (place : List ℕ) : Type 0 where
  pub places : Places
  pub next : places.next ≡ place
  pub is : scanned_in Body true limit bytes ≡ run true false (body_state limit pieces) places place

pub standing : (limit : ℕ) (bytes place : List ℕ) (pieces : List Piece) → IsPrefix limit bytes pieces place → Standing limit bytes pieces place
standing limit bytes place pieces f =
    let l = behind_pieces limit bytes f.last pieces f.pieces in
    record {
      places = placed place l.places;
      next = refl;
      is = l.is
          ∙ (ap (λ ys. run true false (settled limit pieces ys) l.places f.last) f.closed
          ∙ (ap (run true false (body_state limit pieces) l.places) f.joined.is ∙ joins_run true (body_state limit pieces) l.places f.joined.lines place refl (l.next ∙ f.joined.is)));
    }

pub record Pieced (limit : ℕ) (bytes : List ℕ) (pieces : List Piece) : Type 0 where
  pub prefix : List ℕ
  pub rest : List ℕ
  pub is : scanned_in Body true limit bytes ≡ Ended (body_state limit pieces) prefix rest

pub body_complete : (limit : ℕ) (bytes : List ℕ) (pieces : List Piece) → IsPrefix limit bytes pieces [] → Pieced limit bytes pieces
body_complete limit bytes pieces f = let s = standing limit bytes [] pieces f in record { prefix = s.places.prefix; rest = s.places.behind; is = s.is }

pub body_deep : (limit : ℕ) (bytes place : List ℕ) → IsBodyTooDeep limit bytes place → scanned_in Body true limit bytes ≡ Deep place
body_deep limit bytes place d =
    let l = behind_pieces limit bytes d.last d.pieces d.before in
    l.is ∙ in_deep true limit (contexts_behind [] (Body ∷ []) d.pieces) d.pieces l.places d.last place l.inside.inner l.next d.placed d.opens

-- the last form begins behind each prefix
pub form_behind : (limit : ℕ) (bytes form other : List ℕ) (pieces : List Piece) → scanned_in Body true limit bytes ≡ Open form → IsPrefix limit bytes pieces other → length form ≤ length other
form_behind limit bytes form other pieces h f =
    let s = standing limit bytes other pieces f in
    loose_run (length other) form other (omega arith) false (body_state limit pieces) s.places refl (omega (arith, ap length s.next)) (sym s.is ∙ h)
