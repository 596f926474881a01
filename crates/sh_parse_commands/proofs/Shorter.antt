-- The texts of substitutions and the bodies of here-documents are no longer than the text that they stand in; a text in backquotes is shorter.
use Rattle.std.proofs.Common.{◌≡◌, ℕ, suc, ◌+◌, ◌-◌, ◌≤◌, ◌&&◌, nat_eq, not, Bool, true, false, List, [], ◌∷◌, ◌++◌, length, drop, min, refl, subst, arith, length-append, if◌then◌else◌}
use Rattle.std.proofs.Math.Nat.{min-le_left, min-le_right}
use Rattle.std.proofs.lemmas.List.{length-take, length-drop}
use Rattle.sh_token_pieces.specs.declared.here.Delimiter.{Delimiter}
use Rattle.sh_token_pieces.specs.Here.{lines, is_end_line, joins_next}
use Rattle.sh_parse_documents.specs.declared.document.Document.{Document}
use Rattle.sh_parse_documents.specs.Documents.{Line, lines_at, lines_from, body_line, Cut, over, with_line, cut_of, cut_all, documents, between}
use Rattle.sh_parse_words.specs.declared.build.Request.{Request}
use Rattle.sh_parse_words.specs.declared.build.Substitution.{Substitution}
use Rattle.sh_parse_words.specs.declared.build.Substitution.TheVariants as substitution
use Rattle.sh_parse_words.specs.Backquotes.{is_escape, without_escapes}
use Rattle.sh_parse_words.specs.Building.{backquotes_by}
use Rattle.sh_parse_leaves.specs.Sources.{text_between, inside, backquotes_text}
use Rattle.sh_parse_leaves.specs.Words.{text_by, text_of}
use Rattle.sh_parse_commands.proofs.Within.{kept_size, pushed_size}

-- texts of substitutions
abbrev pub IsBackquotes : Substitution → Type 0
IsBackquotes substitution.Commands = ⊥
IsBackquotes substitution.Backquotes = Unit {0}
IsBackquotes substitution.QuotedBackquotes = Unit {0}

pub backquotes_form : (quoted : Bool) → IsBackquotes (backquotes_by quoted)
backquotes_form true = tt
backquotes_form false = tt

between_size : (text : List ℕ) (start stop : ℕ) → length (text_between text start stop) ≤ length text
between_size text start stop =
    let a : length (text_between text start stop) ≡ min (stop - start) (length (drop start text)) = length-take (stop - start) (drop start text) in
    let b : min (stop - start) (length (drop start text)) ≤ length (drop start text) = min-le_right (stop - start) (length (drop start text)) in
    let c : length (drop start text) ≡ length text - start = length-drop start text in
    omega (a, b, c, arith)

inside_size : (bytes : List ℕ) → length (inside bytes) ≤ length bytes - 2
inside_size bytes =
    let a : length (inside bytes) ≡ min (length bytes - 2) (length (drop 1 bytes)) = length-take (length bytes - 2) (drop 1 bytes) in
    let b : min (length bytes - 2) (length (drop 1 bytes)) ≤ length bytes - 2 = min-le_left (length bytes - 2) (length (drop 1 bytes)) in
    omega (a, b, arith)

unescaped_size : (quoted : Bool) (bytes : List ℕ) → length (without_escapes quoted bytes) ≤ length bytes
unfolding without_escapes
unescaped_size quoted [] = omega arith
unescaped_size quoted (b ∷ []) = omega arith
unescaped_size quoted (b ∷ c ∷ bs) = go (nat_eq b 92 && is_escape quoted c) (unescaped_size quoted bs) (unescaped_size quoted (c ∷ bs))
  where
    go : (z : Bool) → length (without_escapes quoted bs) ≤ length bs → length (without_escapes quoted (c ∷ bs)) ≤ length (c ∷ bs)
        → length (if z then c ∷ without_escapes quoted bs else b ∷ without_escapes quoted (c ∷ bs)) ≤ length (b ∷ c ∷ bs)
    go true h k = omega (h, arith)
    go false h k = omega (k, arith)

backquoted_size : (quoted : Bool) (bytes : List ℕ) → length (backquotes_text quoted bytes) ≤ length bytes - 2
backquoted_size quoted bytes = let a = unescaped_size quoted (inside bytes) in let b = inside_size bytes in omega (a, b, arith)

form_size : (s : Substitution) (bytes : List ℕ) → length (text_by s bytes) ≤ length bytes
form_size substitution.Commands bytes = omega arith
form_size substitution.Backquotes bytes = let a = backquoted_size false bytes in omega (a, arith)
form_size substitution.QuotedBackquotes bytes = let a = backquoted_size true bytes in omega (a, arith)

shorter_by : (s : Substitution) (bytes : List ℕ) → IsBackquotes s → length (text_by s bytes) ≤ length bytes - 2
shorter_by substitution.Commands bytes h = absurd h
shorter_by substitution.Backquotes bytes h = backquoted_size false bytes
shorter_by substitution.QuotedBackquotes bytes h = backquoted_size true bytes

pub text_size : (r : Request) (text : List ℕ) → length (text_of r text) ≤ length text
unfolding text_of
text_size r text =
    let a = form_size r.form (text_between text r.start r.«end») in let b = between_size text r.start r.«end» in omega (a, b, arith)

pub backquotes_size : (r : Request) (text : List ℕ) → IsBackquotes r.form → length (text_of r text) ≤ length text - 2
unfolding text_of
backquotes_size r text h =
    let a = shorter_by r.form (text_between text r.start r.«end») h in let b = between_size text r.start r.«end» in omega (a, b, arith)

-- bodies
abbrev span : List Line → ℕ
span [] = 0
span (l ∷ []) = length l.bytes
span (l ∷ k ∷ ls) = suc (length l.bytes) + span (k ∷ ls)

longer : (l : Line) (ls : List Line) → span (l ∷ ls) ≤ suc (length l.bytes) + span ls
longer l [] = omega arith
longer l (k ∷ ls) = omega arith

placed_span : (n : ℕ) (line bs : List ℕ) → span (lines_at n (lines line bs)) ≤ length line + length bs
placed_span n line [] = omega arith
placed_span n line (b ∷ bs) = go (nat_eq b 10) refl (placed_span (suc (n + length line)) [] bs) (placed_span n (line ++ b ∷ []) bs)
  where
    go : (c : Bool) → nat_eq b 10 ≡ c → span (lines_at (suc (n + length line)) (lines [] bs)) ≤ 0 + length bs
        → span (lines_at n (lines (line ++ b ∷ []) bs)) ≤ length (line ++ b ∷ []) + length bs → span (lines_at n (lines line (b ∷ bs))) ≤ length line + length (b ∷ bs)
    go true e f g = rw e (let k = longer (record { start = n; bytes = line }) (lines_at (suc (n + length line)) (lines [] bs)) in omega (f, k, arith))
    go false e f g = rw e (let k = pushed_size line b in omega (g, k, arith))

record Fits (size : ℕ) (c : Cut) : Type 0 where
  pub text : length c.text ≤ size
  pub rest : span c.rest ≤ size

with_line_fits : (size : ℕ) (d : Delimiter) (joined : Bool) (start : ℕ) (line : List ℕ) (c : Cut) → Fits size c → Fits (length line + size) (with_line d joined start line c)
with_line_fits size d joined start line c h =
    let k = kept_size d joined line in let a = length-append (body_line d joined line) c.text in let t : length c.text ≤ size = h.text in let r : span c.rest ≤ size = h.rest in
    record { text = omega (k, a, t, arith); rest = omega (r, arith) }

none_fits : (size stop : ℕ) → Fits size (over stop (lines_from stop []))
none_fits size stop = record { text = omega arith; rest = omega arith }

cut_fits : (stop : ℕ) (d : Delimiter) (joined : Bool) (ls : List Line) → Fits (span ls) (cut_of stop d joined ls)
cut_fits stop d joined [] = none_fits 0 stop
cut_fits stop d joined (l ∷ []) =
    let e : length l.bytes + 0 ≡ length l.bytes = omega arith in
    go (not joined && is_end_line d l.bytes)
    (subst (λ n. Fits n (with_line d joined l.start l.bytes (over stop (lines_from stop [])))) e
    (with_line_fits 0 d joined l.start l.bytes (over stop (lines_from stop [])) (none_fits 0 stop)))
  where
    go : (c : Bool) → Fits (span (l ∷ [])) (with_line d joined l.start l.bytes (over stop (lines_from stop [])))
        → Fits (span (l ∷ [])) (if c then over l.start (lines_from stop []) else with_line d joined l.start l.bytes (over stop (lines_from stop [])))
    go true x = record { text = omega arith; rest = omega arith }
    go false x = x
cut_fits stop d joined (l ∷ k ∷ ls) =
    let size = pushed_size l.bytes 10 in
    let e : length (l.bytes ++ 10 ∷ []) + span (k ∷ ls) ≡ suc (length l.bytes) + span (k ∷ ls) = omega (size, arith) in
    go (not joined && is_end_line d l.bytes)
    (subst (λ n. Fits n (with_line d joined l.start (l.bytes ++ 10 ∷ []) (cut_of stop d (joins_next d l.bytes) (k ∷ ls)))) e
    (with_line_fits (span (k ∷ ls)) d joined l.start (l.bytes ++ 10 ∷ []) (cut_of stop d (joins_next d l.bytes) (k ∷ ls)) (cut_fits stop d (joins_next d l.bytes) (k ∷ ls))))
  where
    go : (c : Bool) → Fits (span (l ∷ k ∷ ls)) (with_line d joined l.start (l.bytes ++ 10 ∷ []) (cut_of stop d (joins_next d l.bytes) (k ∷ ls)))
        → Fits (span (l ∷ k ∷ ls)) (if c then over l.start (k ∷ ls) else with_line d joined l.start (l.bytes ++ 10 ∷ []) (cut_of stop d (joins_next d l.bytes) (k ∷ ls)))
    go true x = record { text = omega arith; rest = omega arith }
    go false x = x

abbrev pub DocumentsFit : ℕ → List Document → Type 0
DocumentsFit size [] = Unit {0}
DocumentsFit size (d ∷ ds) = (length d.text ≤ size) × DocumentsFit size ds

all_fit : (size stop : ℕ) (due : List Delimiter) (ls : List Line) → span ls ≤ size → DocumentsFit size (cut_all stop due ls)
all_fit size stop [] ls h = tt
all_fit size stop (d ∷ ds) ls h =
    let c = cut_fits stop d false ls in let t : length (cut_of stop d false ls).text ≤ span ls = c.text in let r : span (cut_of stop d false ls).rest ≤ span ls = c.rest in
    (omega (t, h, arith), all_fit size stop ds (cut_of stop d false ls).rest (omega (r, h, arith)))

pub documents_size : (size : ℕ) (text : List ℕ) (due : List Delimiter) (start stop : ℕ) → length text ≤ size → DocumentsFit size (documents due start (between start stop text))
unfolding documents
documents_size size text due start stop s =
    let bytes = between start stop text in
    let a : span (lines_from start bytes) ≤ 0 + length bytes = placed_span start [] bytes in
    let b : length bytes ≤ length text = between_size text start stop in
    all_fit size (start + length bytes) due (lines_from start bytes) (omega (a, b, s, arith))
