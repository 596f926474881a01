-- One body, line by line.
use Rattle.std.proofs.Common.{◌≡◌, ℕ, suc, ◌+◌, ◌-◌, ◌<◌, ◌≤◌, Bool, true, false, ◌&&◌, not, List, [], ◌∷◌, ◌++◌, length, take, drop, Some, None, refl, sym, ap, ◌∙◌, subst, append_assoc, arith}
use Rattle.std.specs.List.{position}
use Rattle.std.proofs.lemmas.List.{append-nil, length-drop, length-take-le}
use Rattle.sh_token_pieces.specs.declared.here.Delimiter.{Delimiter}
use Rattle.sh_token_pieces.specs.Here.{lines, is_end_line, joins_next}
use Rattle.sh_parse_documents.specs.Documents.{Line, lines_at, lines_from, body_line, kept_places, Cut, over, with_line, cut_of, cut_all, documents}
use Rattle.sh_parse_documents.specs.Cutting.{lines_before, behind_taken}
use Rattle.sh_parse_documents.proofs.Lines.{is_line_end, first_line, only_line, Full, full}

module _ (stop : ℕ) (d : Delimiter) (j : Bool) (l : Line) (k : Line) (ks : List Line) where
  line_step : (ls : List Line) → ls ≡ k ∷ ks → (not j && is_end_line d l.bytes) ≡ false
      → cut_of stop d j (l ∷ ls) ≡ with_line d j l.start (l.bytes ++ 10 ∷ []) (cut_of stop d (joins_next d l.bytes) ls)
  line_step ls is h = subst (λ x. cut_of stop d j (l ∷ x) ≡ with_line d j l.start (l.bytes ++ 10 ∷ []) (cut_of stop d (joins_next d l.bytes) x)) (sym is) (rw h refl)

  end_step : (ls : List Line) → ls ≡ k ∷ ks → (not j && is_end_line d l.bytes) ≡ true → cut_of stop d j (l ∷ ls) ≡ over l.start ls
  end_step ls is h = subst (λ x. cut_of stop d j (l ∷ x) ≡ over l.start x) (sym is) (rw h refl)

abbrev line_at : ℕ → List ℕ → Line
line_at start bytes = record { start = start; bytes = bytes }

module _ (stop : ℕ) (d : Delimiter) (j : Bool) (rest : List ℕ) (inside : length rest ≤ stop) where
  module _ (p : ℕ) (h : position is_line_end rest ≡ Some p) (short : p < length rest) where
    split : lines_before stop rest ≡ line_at (stop - length rest) (take p rest) ∷ lines_before stop (drop (suc p) rest)
    split =
        let f = first_line p rest h in
        let t = length-take-le p rest (omega (short, arith)) in
        let r = length-drop (suc p) rest in
        let z : suc ((stop - length rest) + length (take p rest)) ≡ stop - length (drop (suc p) rest) = omega (t, r, short, inside, arith) in
        ap (lines_at (stop - length rest)) f.lines_are ∙ ap (λ n. line_at (stop - length rest) (take p rest) ∷ lines_at n (lines [] (drop (suc p) rest))) z

    others : Full (lines [] (drop (suc p) rest))
    others = full [] (drop (suc p) rest)

    others_are : lines_before stop (drop (suc p) rest)
        ≡ line_at (stop - length (drop (suc p) rest)) others.first ∷ lines_at (suc ((stop - length (drop (suc p) rest)) + length others.first)) others.others
    others_are = ap (lines_at (stop - length (drop (suc p) rest))) others.is

    pub behind_line : (not j && is_end_line d (take p rest)) ≡ false
        → cut_of stop d j (lines_before stop rest) ≡ with_line d j (stop - length rest) (take (suc p) rest) (cut_of stop d (joins_next d (take p rest)) (lines_before stop (drop (suc p) rest)))
    behind_line goes_on =
        ap (cut_of stop d j) split
        ∙ (line_step stop d j (line_at (stop - length rest) (take p rest))
        (line_at (stop - length (drop (suc p) rest)) others.first) (lines_at (suc ((stop - length (drop (suc p) rest)) + length others.first)) others.others)
        (lines_before stop (drop (suc p) rest)) others_are goes_on
        ∙ ap (λ line. with_line d j (stop - length rest) line (cut_of stop d (joins_next d (take p rest)) (lines_before stop (drop (suc p) rest)))) (sym (first_line p rest h).whole_is))

    pub at_end_line : (not j && is_end_line d (take p rest)) ≡ true → cut_of stop d j (lines_before stop rest) ≡ over (stop - length rest) (lines_before stop (drop (suc p) rest))
    at_end_line over_now =
        ap (cut_of stop d j) split
        ∙ end_step stop d j (line_at (stop - length rest) (take p rest))
        (line_at (stop - length (drop (suc p) rest)) others.first) (lines_at (suc ((stop - length (drop (suc p) rest)) + length others.first)) others.others)
        (lines_before stop (drop (suc p) rest)) others_are over_now

  pub at_stop : position is_line_end rest ≡ None → (not j && is_end_line d rest) ≡ false
      → cut_of stop d j (lines_before stop rest) ≡ with_line d j (stop - length rest) rest (over stop (lines_from stop []))
  at_stop h goes_on = ap (λ ls. cut_of stop d j (lines_at (stop - length rest) ls)) (only_line rest h) ∙ (rw goes_on refl)

  pub at_last_line : position is_line_end rest ≡ None → (not j && is_end_line d rest) ≡ true → cut_of stop d j (lines_before stop rest) ≡ over (stop - length rest) (lines_from stop [])
  at_last_line h over_now = ap (λ ls. cut_of stop d j (lines_at (stop - length rest) ls)) (only_line rest h) ∙ (rw over_now refl)

-- what is taken, and what is still to come
module _ (text places : List ℕ) (whole : Cut) where
  pub ended : (c : Cut) (n : ℕ) (ls : List Line) → behind_taken text places c ≡ whole → c ≡ over n ls → record { text = text; places = places; «end» = n; rest = ls } ≡ whole
  ended c n ls e is =
      ap (λ t. record { text = t; places = places; «end» = n; rest = ls }) (sym (append-nil text))
      ∙ (ap (λ q. record { text = text ++ []; places = q; «end» = n; rest = ls }) (sym (append-nil places)) ∙ (ap (behind_taken text places) (sym is) ∙ e))

  pub taken : (d : Delimiter) (j : Bool) (start : ℕ) (line : List ℕ) (b c : Cut) (text' places' : List ℕ) → behind_taken text places b ≡ whole → b ≡ with_line d j start line c
      → text' ≡ text ++ body_line d j line → places' ≡ places ++ kept_places d j start line → behind_taken text' places' c ≡ whole
  taken d j start line b c text' places' e is t p =
      ap (λ x. behind_taken x places' c) t
      ∙ (ap (λ x. behind_taken (text ++ body_line d j line) x c) p
      ∙ (ap (λ x. record { text = x; places = (places ++ kept_places d j start line) ++ c.places; «end» = c.«end»; rest = c.rest }) (append_assoc text (body_line d j line) c.text)
      ∙ (ap (λ x. record { text = text ++ (body_line d j line ++ c.text); places = x; «end» = c.«end»; rest = c.rest }) (append_assoc places (kept_places d j start line) c.places)
      ∙ (ap (behind_taken text places) (sym is) ∙ e))))

-- all bodies
pub all_bodies : (due : List Delimiter) (start : ℕ) (bytes : List ℕ) → cut_all (start + length bytes) due (lines_before (start + length bytes) bytes) ≡ documents due start bytes
unfolding documents
all_bodies due start bytes =
    let z : (start + length bytes) - length bytes ≡ start = omega arith in
    ap (λ n. cut_all (start + length bytes) due (lines_from n bytes)) z

pub none_due : (stop : ℕ) (due : List Delimiter) (ls : List Line) → (0 < length due → false ≡ true) → cut_all stop due ls ≡ []
none_due stop [] ls h = refl
none_due stop (d ∷ ds) ls h = absurd (let z = h (omega arith) in cc)
