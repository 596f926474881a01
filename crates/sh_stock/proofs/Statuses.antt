-- The status of `having`: 0 where some line contains the text, else 1.
use Rattle.std.specs.Prelude.{◌≡◌, ℕ, ◌&&◌, ◌||◌, not, List, [], ◌∷◌, ◌++◌, Bool, true, false, cond, if◌then◌else◌, refl}
use Rattle.std.specs.List.{filter, flat_map, list_any}
use Rattle.sh_stock.specs.Filters.{having_output, having_status, last_line}
use Rattle.sh_stock.specs.Lines.{contains, contents, with_newline, is_empty, kept_lines, last_of, unfinished_line, whole_lines}

empty-append : (xs ys : List ℕ) → is_empty (xs ++ ys) ≡ (is_empty xs && is_empty ys)
empty-append [] ys = refl
empty-append (x ∷ xs) ys = refl

any_step : (first : Bool) (a b c : Bool) → a ≡ (b || c) → (first || a) ≡ ((first || b) || c)
any_step true a b c h = refl
any_step false a b c h = h

any-append : (p : List ℕ → Bool) (xs ys : List (List ℕ)) → list_any p (xs ++ ys) ≡ (list_any p xs || list_any p ys)
any-append p [] ys = refl
any-append p (x ∷ xs) ys = any_step (p x) (list_any p (xs ++ ys)) (list_any p xs) (list_any p ys) (any-append p xs ys)

ended_some : (line more : List ℕ) → is_empty (with_newline line ++ more) ≡ false
ended_some [] more = refl
ended_some (byte ∷ line) more = refl

kept_step : (text line : List ℕ) (lines : List (List ℕ)) (kept : Bool) → is_empty (flat_map with_newline (filter (contains text) lines)) ≡ not (list_any (contains text) lines) → is_empty (flat_map with_newline (cond kept (line ∷ filter (contains text) lines) (filter (contains text) lines))) ≡ not (kept || list_any (contains text) lines)
kept_step text line lines true h = ended_some line (flat_map with_newline (filter (contains text) lines))
kept_step text line lines false h = h

none_kept : (text : List ℕ) (lines : List (List ℕ)) → is_empty (flat_map with_newline (filter (contains text) lines)) ≡ not (list_any (contains text) lines)
none_kept text [] = refl
none_kept text (line ∷ lines) = kept_step text line lines (contains text line) (none_kept text lines)

last_step : (byte : ℕ) (line : List ℕ) (kept : Bool) → is_empty (if kept then byte ∷ line else []) ≡ not (kept || false)
last_step byte line true = refl
last_step byte line false = refl

none_last : (text line : List ℕ) → is_empty (last_line text line) ≡ not (list_any (contains text) (last_of line))
none_last text [] = refl
none_last text (byte ∷ line) = last_step byte line (contains text (byte ∷ line))

told : (a b : Bool) → ◌≡◌ {A = ℕ} (if not a && not b then 1 else 0) (if a || b then 0 else 1)
told true b = refl
told false true = refl
told false false = refl

pub status-told : (text bytes : List ℕ) → having_status (having_output text bytes) ≡ (if list_any (contains text) (contents bytes) then 0 else 1)
status-told text bytes =
    rw (empty-append (kept_lines text [] bytes) (last_line text (unfinished_line [] bytes)), none_kept text (whole_lines [] bytes), none_last text (unfinished_line [] bytes), any-append (contains text) (whole_lines [] bytes) (last_of (unfinished_line [] bytes))) (told (list_any (contains text) (whole_lines [] bytes)) (list_any (contains text) (last_of (unfinished_line [] bytes))))
