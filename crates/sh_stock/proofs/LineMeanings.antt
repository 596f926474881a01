-- What the words on lines mean: the lines of some bytes joined are the bytes, none has a newline inside, the first lines
-- are the first of them, and a line contains a text where it has a part that is the text.
use Rattle.std.specs.Prelude.{◌≡◌, ◌⊎◌, ◌<◌, ◌≤◌, ℕ, zero, suc, ◌+◌, ◌-◌, ◌||◌, List, [], ◌∷◌, ◌++◌, Bool, true, false, nat_eq, take, map, if◌then◌else◌, refl}
use Rattle.std.specs.List.{concat, starts_with}
use Rattle.std.proofs.Common.{ap, ◌∙◌, sym, append-nil, append_assoc, arith, inl, inr}
use Rattle.std.proofs.lemmas.Bool.{cases_lt}
use Rattle.std.proofs.lemmas.Bool.Decides.{nat_tests, Decides-eqb}
use Rattle.std.proofs.lemmas.Slice.Eq.{starts_is}
use Rattle.sh_stock.specs.LineLaws.{first_lines-none, newlines-append, not_zero}
use Rattle.sh_stock.specs.Lines.{HaveNone, IsPart, last_of, lines_behind, contains, with_newline, first_lines, is_empty, is_newline, newlines, unfinished_line, whole_lines}

is_ten : (byte : ℕ) → is_newline byte ≡ true → byte ≡ 10
is_ten byte h = grind (arith, nat_tests)

last-joined : (line : List ℕ) → concat (last_of line) ≡ line
last-joined [] = refl
last-joined (byte ∷ bytes) = append-nil (byte ∷ bytes)

joined_by : (line : List ℕ) (byte : ℕ) (x : List ℕ) (ends : Bool) → is_newline byte ≡ ends → ((prefix : List ℕ) → concat (lines_behind prefix x) ≡ prefix ++ x) → concat (map with_newline (if ends then line ∷ whole_lines [] x else whole_lines (line ++ byte ∷ []) x) ++ last_of (if ends then unfinished_line [] x else unfinished_line (line ++ byte ∷ []) x)) ≡ line ++ byte ∷ x
joined_by line byte x true e rest =
    ap (λ (zs : List ℕ). (line ++ 10 ∷ []) ++ zs) (rest []) ∙ (append_assoc line (10 ∷ []) x ∙ ap (λ (b : ℕ). line ++ b ∷ x) (sym (is_ten byte e)))
joined_by line byte x false e rest = rest (line ++ byte ∷ []) ∙ append_assoc line (byte ∷ []) x

pub lines-joined : (line x : List ℕ) → concat (lines_behind line x) ≡ line ++ x
lines-joined line [] = last-joined line ∙ sym (append-nil line)
lines-joined line (byte ∷ x) = joined_by line byte x (is_newline byte) refl (λ prefix. lines-joined prefix x)

one_more : (line : List ℕ) (byte : ℕ) → is_newline byte ≡ false → newlines line ≡ 0 → newlines (line ++ byte ∷ []) ≡ 0
one_more line byte e h = newlines-append line (byte ∷ []) ∙ (ap (λ (n : ℕ). n + newlines (byte ∷ [])) h ∙ rw e refl)

none_by : (line : List ℕ) (byte : ℕ) (x : List ℕ) (ends : Bool) → is_newline byte ≡ ends → newlines line ≡ 0 → ((prefix : List ℕ) → newlines prefix ≡ 0 → HaveNone (whole_lines prefix x) × (newlines (unfinished_line prefix x) ≡ 0)) → HaveNone (if ends then line ∷ whole_lines [] x else whole_lines (line ++ byte ∷ []) x) × (newlines (if ends then unfinished_line [] x else unfinished_line (line ++ byte ∷ []) x) ≡ 0)
none_by line byte x true e h rest = let later = rest [] refl in ((h, later.0), later.1)
none_by line byte x false e h rest = rest (line ++ byte ∷ []) (one_more line byte e h)

pub lines-none : (line x : List ℕ) → newlines line ≡ 0 → HaveNone (whole_lines line x) × (newlines (unfinished_line line x) ≡ 0)
lines-none line [] h = (tt, h)
lines-none line (byte ∷ x) h = none_by line byte x (is_newline byte) refl h (λ prefix none. lines-none prefix x none)

contains-itself : (text after : List ℕ) → contains text (text ++ after) ≡ true
contains-itself [] [] = refl
contains-itself [] (byte ∷ after) = refl
contains-itself (byte ∷ text) after =
    let begins = (starts_is Decides-eqb (byte ∷ (text ++ after)) (byte ∷ text) (starts_with nat_eq (byte ∷ (text ++ after)) (byte ∷ text)) refl).1 after refl in
    ap (λ (b : Bool). b || contains (byte ∷ text) (text ++ after)) begins

or_true : (a b : Bool) → b ≡ true → (a || b) ≡ true
or_true true b h = refl
or_true false b h = h

pub part-contained : (text before after : List ℕ) → contains text (before ++ (text ++ after)) ≡ true
part-contained text [] after = contains-itself text after
part-contained text (byte ∷ before) after = or_true (starts_with nat_eq (byte ∷ (before ++ (text ++ after))) text) (contains text (before ++ (text ++ after))) (part-contained text before after)

part_by : (text : List ℕ) (byte : ℕ) (line : List ℕ) (begins : Bool) → starts_with nat_eq (byte ∷ line) text ≡ begins → (begins || contains text line) ≡ true → (contains text line ≡ true → IsPart text line) → IsPart text (byte ∷ line)
part_by text byte line true e h rest =
    ([], _, sym ((starts_is Decides-eqb (byte ∷ line) text (starts_with nat_eq (byte ∷ line) text) refl).0 e))
part_by text byte line false e h rest =
    let part = rest h in
    (byte ∷ part.0, part.1, ap (λ (zs : List ℕ). byte ∷ zs) part.2)

no_bytes : (text : List ℕ) → is_empty text ≡ true → text ≡ []
no_bytes [] h = refl
no_bytes (byte ∷ text) h = cc

pub contained-part : (text line : List ℕ) → contains text line ≡ true → IsPart text line
contained-part text [] h = ([], [], append-nil text ∙ no_bytes text h)
contained-part text (byte ∷ line) h = part_by text byte line (starts_with nat_eq (byte ∷ line) text) refl h (λ e. contained-part text line e)

take_some : {X : Type 0} (n : ℕ) (x : X) (xs : List X) → 0 < n → take n (x ∷ xs) ≡ x ∷ take (n - 1) xs
take_some zero x xs h = absurd (omega arith)
take_some (suc m) x xs h = let less : m ≡ suc m - 1 = omega arith in ap (λ (k : ℕ). x ∷ take k xs) less

take_none : {X : Type 0} (n : ℕ) → take n (let xs : List X = [] in xs) ≡ []
take_none zero = refl
take_none (suc m) = refl

last_taken : (n : ℕ) (line : List ℕ) → 0 < n → concat (take n (last_of line)) ≡ line
last_taken n [] h = ap concat (take_none n)
last_taken n (byte ∷ bytes) h = ap concat (take_some n (byte ∷ bytes) [] h ∙ ap (λ (ls : List (List ℕ)). (byte ∷ bytes) ∷ ls) (take_none (n - 1))) ∙ append-nil (byte ∷ bytes)

-- the first lines of bytes behind no line, by what holds where some are wanted
from_start : (m : ℕ) (x : List ℕ) → (0 < m → concat (take m (lines_behind [] x)) ≡ first_lines m x) → (0 < m) ⊎ (m ≤ 0) → concat (take m (lines_behind [] x)) ≡ first_lines m x
from_start m x rest (inl h) = rest h
from_start m x rest (inr h) = let none : m ≡ 0 = omega arith in rw none (sym (first_lines-none x))

taken_by : (n : ℕ) (line : List ℕ) (byte : ℕ) (x : List ℕ) (ends : Bool) → is_newline byte ≡ ends → 0 < n → ((m : ℕ) (prefix : List ℕ) → 0 < m → concat (take m (lines_behind prefix x)) ≡ prefix ++ first_lines m x) → concat (take n (map with_newline (if ends then line ∷ whole_lines [] x else whole_lines (line ++ byte ∷ []) x) ++ last_of (if ends then unfinished_line [] x else unfinished_line (line ++ byte ∷ []) x))) ≡ line ++ byte ∷ first_lines (if ends then n - 1 else n) x
taken_by n line byte x true e h rest =
    ap concat (take_some n (with_newline line) (lines_behind [] x) h)
    ∙ (ap (λ (zs : List ℕ). (line ++ 10 ∷ []) ++ zs) (from_start (n - 1) x (λ some. rest (n - 1) [] some) (cases_lt 0 (n - 1)))
    ∙ (append_assoc line (10 ∷ []) (first_lines (n - 1) x) ∙ ap (λ (b : ℕ). line ++ b ∷ first_lines (n - 1) x) (sym (is_ten byte e))))
taken_by n line byte x false e h rest = rest n (line ++ byte ∷ []) h ∙ append_assoc line (byte ∷ []) (first_lines n x)

some_taken : (n : ℕ) (line x : List ℕ) → 0 < n → concat (take n (lines_behind line x)) ≡ line ++ first_lines n x
some_taken n line [] h = last_taken n line h ∙ sym (append-nil line)
some_taken n line (byte ∷ x) h =
    taken_by n line byte x (is_newline byte) refl h (λ m prefix some. some_taken m prefix x some) ∙ ap (λ (b : Bool). line ++ (if b then [] else byte ∷ first_lines (if is_newline byte then n - 1 else n) x)) (sym (not_zero n h))

pub first-taken : (n : ℕ) (x : List ℕ) → concat (take n (lines_behind [] x)) ≡ first_lines n x
first-taken n x = from_start n x (λ h. some_taken n [] x h) (cases_lt 0 n)
