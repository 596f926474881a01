-- The lines of an image read as the fields that they were written from.
use Rattle.std.proofs.Common.{rules, ◌≡◌, ℕ, suc, zero, ◌+◌, ◌-◌, ◌≤◌, ◌<◌, ◌^◌, List, [], ◌∷◌, ◌++◌, Bool, true, false, cond, length, take, drop, get_or, length-append, length-drop, nat_le, Some, None, Option, refl, sym, ap, ◌∙◌, arith, append_assoc}
use Rattle.std.specs.Prelude.{◌==◌, ◌&&◌, ◌||◌, if◌then◌else◌, decimal, nat_eq, option_map, position}
use Rattle.std.specs.List.{list_all, list_any, position_from, starts_with}
use Rattle.std.proofs.Math.Seq.{drop-append-add, take-append_seam}
use Rattle.std.proofs.lemmas.Bool.Decides.{nat_tests}
use Rattle.std.proofs.lemmas.Iterator.Adapters.{position_from-zero}
use lib.Pointwise.{pointwise_long}
use Rattle.std.proofs.lemmas.Fmt.{decimal-digits_value, decimal_digit, decimal_nonempty, digits_decimal, digits_value-decimal, first_decimal}
use Rattle.std.proofs.lemmas.Str.Parse.{IsNumeralModel, numerals_by_fold}
use Rattle.sh_files_image.specs.declared.node.Flags.{Flags}
use Rattle.sh_files_image.specs.Contents.{Regular}
use Rattle.sh_files_image.specs.Fields.{begins_well, behind, fields_of, file_by, file_fields, flag_of, flags_by, flags_of, prefix_and_length, further, is_decimal, last_space, length_field, line_of, path_and_flags, small}
use Rattle.std.specs.Char.{is_ascii_digit}
use Rattle.sh_base.specs.Decimals.{value_behind}
use Rattle.sh_files_image.specs.Texts.{file_line, flag_text, flags_text}

abbrev pub newline : ℕ → Bool
newline b = b == 10

abbrev split_at : List ℕ → ℕ → List ℕ × List ℕ
split_at xs i = (take i xs, drop (i + 1) xs)

-- ---- the first line
either : (a b : Bool) → (a || b) ≡ false → (a ≡ false) × (b ≡ false)
either true b h = cc
either false b h = (refl, h)

ends_at : (n : ℕ) (line rest : List ℕ) → list_any newline line ≡ false → position_from newline n (line ++ 10 ∷ rest) ≡ Some (n + length line)
ends_at n [] rest h = let z : n ≡ n + 0 = omega arith in ap (λ (k : ℕ). Some k) z
ends_at n (x ∷ xs) rest h =
    let p = either (newline x) (list_any newline xs) h in
    let z : n + 1 + length xs ≡ n + suc (length xs) = omega arith in
    ap (λ b. cond b (Some n) (position_from newline (n + 1) (xs ++ 10 ∷ rest))) p.0
    ∙ ends_at (n + 1) xs rest p.1
    ∙ ap (λ (k : ℕ). Some k) z

-- a line without a newline, and one behind it
pub first_line : (line rest : List ℕ) → list_any newline line ≡ false → line_of (line ++ 10 ∷ rest) ≡ Some (line, rest)
first_line line rest h =
    let z : 0 + length line ≡ length line = omega arith in
    let one : length line + 1 ≡ length line + suc 0 = omega arith in
    ap (option_map (split_at (line ++ 10 ∷ rest))) (position_from-zero newline (line ++ 10 ∷ rest) ∙ ends_at 0 line rest h ∙ ap (λ (k : ℕ). Some k) z)
    ∙ ap (λ (xs : List ℕ). Some (xs, drop (length line + 1) (line ++ 10 ∷ rest))) (take-append_seam line (10 ∷ rest))
    ∙ ap (λ (xs : List ℕ). Some (line, xs)) (drop-append-add line (10 ∷ rest) 1)

-- ---- the last fields
last_of : (xs ys : List ℕ) → last_space ys ≡ None → last_space (xs ++ 32 ∷ ys) ≡ Some (length xs)
last_of [] ys h = ap (further 32) h
last_of (x ∷ xs) ys h = ap (further x) (last_of xs ys h)

pub last_field : (prefix field : List ℕ) → last_space field ≡ None → fields_of (prefix ++ 32 ∷ field) ≡ Some (prefix, field)
last_field prefix field h =
    ap (option_map (split_at (prefix ++ 32 ∷ field))) (last_of prefix field h)
    ∙ ap (λ (xs : List ℕ). Some (xs, drop (length prefix + 1) (prefix ++ 32 ∷ field))) (take-append_seam prefix (32 ∷ field))
    ∙ ap (λ (xs : List ℕ). Some (prefix, xs)) (drop-append-add prefix (32 ∷ field) 1)

-- ---- decimal digits
own : IsNumeralModel (λ ds. list_all is_ascii_digit ds ≡ true) (value_behind 0)
own = numerals_by_fold _ (search rules) value_behind (search rules)

all : (n : ℕ) → n < 2 ^ 64 → list_all is_ascii_digit (decimal n) ≡ true
all n h = digits_decimal own n h

value : (n : ℕ) → n < 2 ^ 64 → value_behind 0 (decimal n) ≡ n
value n h = digits_value-decimal own n h

begins : (ds : List ℕ) → 0 < length ds → 48 < get_or ds 0 0 → begins_well ds ≡ true
begins [] h k = absurd (omega arith)
begins (d ∷ []) h k = refl
begins (d ∷ e ∷ ds) h k = grind (arith, nat_tests)

written_well : (n : ℕ) → n < 2 ^ 64 → begins_well (decimal n) ≡ true
written_well zero h = ap begins_well (decimal_digit 0 (omega arith))
written_well (suc n) h = begins (decimal (suc n)) (decimal_nonempty (suc n) h) (first_decimal (suc n) (omega arith) h)

no_space : (ds : List ℕ) → list_all is_ascii_digit ds ≡ true → last_space ds ≡ None
no_space [] h = refl
no_space (d ∷ ds) h =
    let p = both (is_ascii_digit d) (list_all is_ascii_digit ds) h in
    let q : (d == 32) ≡ false = other d p.0 in
    ap (further d) (no_space ds p.1) ∙ ap (λ b. if b then Some 0 else None) q
  where
    both : (a b : Bool) → (a && b) ≡ true → (a ≡ true) × (b ≡ true)
    both true b k = (refl, k)
    both false b k = cc

    other : (b : ℕ) → is_ascii_digit b ≡ true → (b == 32) ≡ false
    other b k = grind (arith, nat_tests)

fits : (n : ℕ) → n ≤ 268435456 → small n ≡ Some n
fits n h = grind (arith, nat_tests)

read_length : (n : ℕ) → n ≤ 268435456 → length_field (decimal n) ≡ Some (Some n)
read_length n h =
    let b : n < 2 ^ 64 = omega arith in
    ap (λ t. if t && begins_well (decimal n) then Some (small (value_behind 0 (decimal n))) else None) (all n b)
    ∙ ap (λ t. if t then Some (small (value_behind 0 (decimal n))) else None) (written_well n b)
    ∙ ap (λ (k : ℕ). Some (small k)) (value n b)
    ∙ ap (λ (o : Option ℕ). Some o) (fits n h)

-- ---- flags
read_letter : (letter : ℕ) (flag : Bool) → (45 == letter) ≡ false → (letter == letter) ≡ true → flag_of letter (flag_text letter flag) ≡ Some flag
read_letter letter true h k = ap (λ b. if b then Some true else if letter == 45 then Some false else None) k
read_letter letter false h k = ap (λ b. if b then Some true else Some false) h

read_flags : (flags : Flags) → flags_of (flags_text flags) ≡ Some flags
read_flags flags =
    ap (λ (o : Option Bool). flags_by o (flag_of 119 (flag_text 119 flags.write)) (flag_of 120 (flag_text 120 flags.execute))) (read_letter 114 flags.read refl refl)
    ∙ ap (λ (o : Option Bool). flags_by (Some flags.read) o (flag_of 120 (flag_text 120 flags.execute))) (read_letter 119 flags.write refl refl)
    ∙ ap (λ (o : Option Bool). flags_by (Some flags.read) (Some flags.write) o) (read_letter 120 flags.execute refl refl)

letter_spaceless : (letter : ℕ) (flag : Bool) → (letter == 32) ≡ false → (flag_text letter flag == 32) ≡ false
letter_spaceless letter true h = h
letter_spaceless letter false h = refl

spaceless : (flags : Flags) → last_space (flags_text flags) ≡ None
spaceless flags =
    let at : (b : ℕ) → (b == 32) ≡ false → further b None ≡ None = λ b h. ap (λ t. if t then Some 0 else None) h in
    ap (λ (o : Option ℕ). further (flag_text 114 flags.read) (further (flag_text 119 flags.write) o)) (at (flag_text 120 flags.execute) (letter_spaceless 120 flags.execute refl))
    ∙ ap (further (flag_text 114 flags.read)) (at (flag_text 119 flags.write) (letter_spaceless 119 flags.write refl))
    ∙ at (flag_text 114 flags.read) (letter_spaceless 114 flags.read refl)

-- ---- a file's line
abbrev pub file_words : List ℕ → Regular → List ℕ
file_words path file = path ++ 32 ∷ (flags_text file.flags ++ 32 ∷ decimal (length file.bytes))

pub read_file_words : (path : List ℕ) (file : Regular) → length file.bytes ≤ 268435456 → file_fields (file_words path file) ≡ Some (path, (file.flags, Some (length file.bytes)))
read_file_words path file h =
    let digits = decimal (length file.bytes) in
    let words : file_words path file ≡ (path ++ 32 ∷ flags_text file.flags) ++ 32 ∷ digits = sym (append_assoc path (32 ∷ flags_text file.flags) (32 ∷ digits)) in
    let b : length file.bytes < 2 ^ 64 = omega arith in
    ap (λ (xs : List ℕ). file_fields xs) words
    ∙ ap prefix_and_length (last_field (path ++ 32 ∷ flags_text file.flags) digits (no_space digits (all (length file.bytes) b)))
    ∙ ap (path_and_flags digits) (last_field path (flags_text file.flags) (spaceless file.flags))
    ∙ ap (λ (o : Option Flags). file_by path o (length_field digits)) (read_flags file.flags)
    ∙ ap (file_by path (Some file.flags)) (read_length (length file.bytes) h)

-- ---- a file's line is one line
any_append : (xs ys : List ℕ) → list_any newline xs ≡ false → list_any newline ys ≡ false → list_any newline (xs ++ ys) ≡ false
any_append [] ys h k = k
any_append (x ∷ xs) ys h k =
    let p = either (newline x) (list_any newline xs) h in
    ap (λ b. b || list_any newline (xs ++ ys)) p.0 ∙ any_append xs ys p.1 k

no_newline : (ds : List ℕ) → list_all is_ascii_digit ds ≡ true → list_any newline ds ≡ false
no_newline [] h = refl
no_newline (d ∷ ds) h =
    let p = both (is_ascii_digit d) (list_all is_ascii_digit ds) h in
    let q : newline d ≡ false = other d p.0 in
    ap (λ b. b || list_any newline ds) q ∙ no_newline ds p.1
  where
    both : (a b : Bool) → (a && b) ≡ true → (a ≡ true) × (b ≡ true)
    both true b k = (refl, k)
    both false b k = cc

    other : (b : ℕ) → is_ascii_digit b ≡ true → newline b ≡ false
    other b k = grind (arith, nat_tests)

letter_newline : (letter : ℕ) (flag : Bool) → newline letter ≡ false → newline (flag_text letter flag) ≡ false
letter_newline letter true h = h
letter_newline letter false h = refl

flags_newline : (flags : Flags) → list_any newline (flags_text flags) ≡ false
flags_newline flags =
    ap (λ b. b || list_any newline (flag_text 119 flags.write ∷ flag_text 120 flags.execute ∷ [])) (letter_newline 114 flags.read refl)
    ∙ ap (λ b. b || list_any newline (flag_text 120 flags.execute ∷ [])) (letter_newline 119 flags.write refl)
    ∙ ap (λ b. b || false) (letter_newline 120 flags.execute refl)

pub one_line : (path : List ℕ) (file : Regular) → list_any newline path ≡ false → length file.bytes ≤ 268435456 → list_any newline (file_words path file) ≡ false
one_line path file h k =
    any_append path (32 ∷ (flags_text file.flags ++ 32 ∷ decimal (length file.bytes))) h
    (any_append (flags_text file.flags) (32 ∷ decimal (length file.bytes)) (flags_newline file.flags) (no_newline (decimal (length file.bytes)) (all (length file.bytes) (omega arith))))

-- ---- parts of a line have no newline
pub any_take : (k : ℕ) (xs : List ℕ) → list_any newline xs ≡ false → list_any newline (take k xs) ≡ false
any_take zero xs h = refl
any_take (suc k) [] h = refl
any_take (suc k) (x ∷ xs) h =
    let p = either (newline x) (list_any newline xs) h in
    ap (λ b. b || list_any newline (take k xs)) p.0 ∙ any_take k xs p.1

pub any_drop : (k : ℕ) (xs : List ℕ) → list_any newline xs ≡ false → list_any newline (drop k xs) ≡ false
any_drop zero xs h = h
any_drop (suc k) [] h = refl
any_drop (suc k) (x ∷ xs) h = any_drop k xs (either (newline x) (list_any newline xs) h).1

not_lower : (n i : ℕ) (xs : List ℕ) → position_from newline n xs ≡ Some i → n ≤ i
not_lower n i [] h = cc
not_lower n i (x ∷ xs) h =
    elim (newline x) as (λ b. cond b (Some n) (position_from newline (n + 1) xs) ≡ Some i → n ≤ i) [
      | true ↦ λ k. let e : n ≡ i = cc in omega arith
      | false ↦ λ k. let l = not_lower (n + 1) i xs k in omega arith
    ] h

none_first : (n i : ℕ) (xs : List ℕ) → position_from newline n xs ≡ Some i → list_any newline (take (i - n) xs) ≡ false
none_first n i [] h = cc
none_first n i (x ∷ xs) h =
    elim (newline x) as (λ b. newline x ≡ b → cond b (Some n) (position_from newline (n + 1) xs) ≡ Some i → list_any newline (take (i - n) (x ∷ xs)) ≡ false) [
      | true ↦ λ e k. let same : n ≡ i = cc in let z : i - n ≡ 0 = omega arith in rw z refl
      | false ↦ λ e k.
          let l = not_lower (n + 1) i xs k in
          let z : i - n ≡ suc (i - (n + 1)) = omega arith in
          rw z (ap (λ b. b || list_any newline (take (i - (n + 1)) xs)) e ∙ none_first (n + 1) i xs k)
    ] refl h

line_at : (o : Option ℕ) (xs : List ℕ) (p : List ℕ × List ℕ) → position_from newline 0 xs ≡ o → option_map (split_at xs) o ≡ Some p → list_any newline p.0 ≡ false
line_at None xs p e h = cc
line_at (Some i) xs p e h =
    let q : (take i xs, drop (i + 1) xs) ≡ p = cc in
    let z : i - 0 ≡ i = omega arith in
    ap (λ (r : List ℕ × List ℕ). list_any newline r.0) (sym q) ∙ ap (λ k. list_any newline (take k xs)) (sym z) ∙ none_first 0 i xs e

-- the first line has no newline
pub line_is_one : (xs : List ℕ) (p : List ℕ × List ℕ) → line_of xs ≡ Some p → list_any newline p.0 ≡ false
line_is_one xs p h = line_at (position newline xs) xs p (sym (position_from-zero newline xs)) h

behind_by : (b : Bool) (n : ℕ) (line rest : List ℕ) → (if b then Some (drop n line) else None) ≡ Some rest → list_any newline line ≡ false → list_any newline rest ≡ false
behind_by true n line rest e h = let q : drop n line ≡ rest = cc in ap (list_any newline) (sym q) ∙ any_drop n line h
behind_by false n line rest e h = cc

pub behind_is_one : (word line rest : List ℕ) → behind word line ≡ Some rest → list_any newline line ≡ false → list_any newline rest ≡ false
behind_is_one word line rest e h = behind_by (starts_with nat_eq line word) (length word) line rest e h

prefix_at : (o : Option ℕ) (line : List ℕ) (p : List ℕ × List ℕ) → option_map (split_at line) o ≡ Some p → list_any newline line ≡ false → list_any newline p.0 ≡ false
prefix_at None line p e h = cc
prefix_at (Some i) line p e h = let q : (take i line, drop (i + 1) line) ≡ p = cc in ap (λ (r : List ℕ × List ℕ). list_any newline r.0) (sym q) ∙ any_take i line h

abbrev pub File : Type 0
File = List ℕ × (Flags × Option ℕ)

path_of : (path : List ℕ) (a : Option Flags) (b : Option (Option ℕ)) (f : File) → file_by path a b ≡ Some f → path ≡ f.0
path_of path None b f h = cc
path_of path (Some a) None f h = cc
path_of path (Some a) (Some b) f h = let q : (path, (a, b)) ≡ f = cc in ap (λ (r : File). r.0) q

fields_by : (digits prefix : List ℕ) (o : Option (List ℕ × List ℕ)) (f : File) → fields_of prefix ≡ o → path_and_flags digits o ≡ Some f → list_any newline prefix ≡ false → list_any newline f.0 ≡ false
fields_by digits prefix None f e h k = cc
fields_by digits prefix (Some p) f e h k = ap (list_any newline) (sym (path_of p.0 _ _ f h)) ∙ prefix_at (last_space prefix) prefix p e k

whole_by : (line : List ℕ) (o : Option (List ℕ × List ℕ)) (f : File) → fields_of line ≡ o → prefix_and_length o ≡ Some f → list_any newline line ≡ false → list_any newline f.0 ≡ false
whole_by line None f e h k = cc
whole_by line (Some p) f e h k = fields_by p.1 p.0 (fields_of p.0) f refl h (prefix_at (last_space line) line p e k)

-- nor has a file's path
pub file_path_is_one : (line : List ℕ) (f : File) → file_fields line ≡ Some f → list_any newline line ≡ false → list_any newline f.0 ≡ false
file_path_is_one line f h k = whole_by line (fields_of line) f refl h k

-- ---- lengths of lines and fields
long_take : (i : ℕ) (xs : List ℕ) → i ≤ length xs → length (take i xs) ≡ i
long_take zero xs h = refl
long_take (suc i) [] h = absurd (omega arith)
long_take (suc i) (x ∷ xs) h = ap suc (long_take i xs (omega arith))

split_length : (i : ℕ) (xs : List ℕ) (p : List ℕ × List ℕ) → i < length xs → split_at xs i ≡ p → length xs ≡ length p.0 + 1 + length p.1
split_length i xs p h e =
    let a = long_take i xs (omega arith) in
    let b = length-drop (i + 1) xs in
    let c = ap (λ (q : List ℕ × List ℕ). length q.0) e in
    let d = ap (λ (q : List ℕ × List ℕ). length q.1) e in
    omega (arith, a, b, c, d)

newline_within : (n i : ℕ) (xs : List ℕ) → position_from newline n xs ≡ Some i → i < n + length xs
newline_within n i [] h = cc
newline_within n i (x ∷ xs) h =
    elim (newline x) as (λ b. cond b (Some n) (position_from newline (n + 1) xs) ≡ Some i → i < n + length (x ∷ xs)) [
      | true ↦ λ k. let e : n ≡ i = cc in omega arith
      | false ↦ λ k. let l = newline_within (n + 1) i xs k in omega arith
    ] h

line_length_at : (o : Option ℕ) (xs : List ℕ) (p : List ℕ × List ℕ) → position_from newline 0 xs ≡ o → option_map (split_at xs) o ≡ Some p → length p.0 + 1 + length p.1 ≡ length xs
line_length_at None xs p e h = cc
line_length_at (Some i) xs p e h =
    let q : split_at xs i ≡ p = cc in
    let l = newline_within 0 i xs e in
    sym (split_length i xs p (omega arith) q)

pub line_length : (xs : List ℕ) (p : List ℕ × List ℕ) → line_of xs ≡ Some p → length p.0 + 1 + length p.1 ≡ length xs
line_length xs p h = line_length_at (position newline xs) xs p (sym (position_from-zero newline xs)) h

take-le : (n : ℕ) (xs : List ℕ) → length (take n xs) ≤ length xs
take-le zero xs = omega arith
take-le (suc n) [] = omega arith
take-le (suc n) (x ∷ xs) = let l = take-le n xs in omega arith

behind_length_by : (b : Bool) (word line rest : List ℕ) → starts_with nat_eq line word ≡ b → (if b then Some (drop (length word) line) else None) ≡ Some rest → length line ≡ length word + length rest
behind_length_by true word line rest s e =
    let q : drop (length word) line ≡ rest = cc in
    let same = pointwise_long nat_eq word (take (length word) line) s in
    let le = take-le (length word) line in
    let d = length-drop (length word) line in
    let r = ap (λ (xs : List ℕ). length xs) q in
    omega (arith, same, le, d, r)
behind_length_by false word line rest s e = cc

pub behind_length : (word line rest : List ℕ) → behind word line ≡ Some rest → length line ≡ length word + length rest
behind_length word line rest e = behind_length_by (starts_with nat_eq line word) word line rest refl e

space_first : (x i : ℕ) → further x None ≡ Some i → i ≡ 0
space_first x i k = elim (x == 32) as (λ b. (if b then Some 0 else None) ≡ Some i → i ≡ 0) [ true ↦ λ g. cc | false ↦ λ g. cc ] k

last_by : (x i : ℕ) (xs : List ℕ) (o : Option ℕ) → ((j : ℕ) → o ≡ Some j → j < length xs) → further x o ≡ Some i → i < length (x ∷ xs)
last_by x i xs None more k = let z = space_first x i k in omega arith
last_by x i xs (Some j) more k = let z : suc j ≡ i = cc in let l = more j refl in omega arith

last_within : (xs : List ℕ) (i : ℕ) → last_space xs ≡ Some i → i < length xs
last_within [] i h = cc
last_within (x ∷ xs) i h = last_by x i xs (last_space xs) (last_within xs) h

field_length_at : (o : Option ℕ) (line : List ℕ) (p : List ℕ × List ℕ) → last_space line ≡ o → option_map (split_at line) o ≡ Some p → length line ≡ length p.0 + 1 + length p.1
field_length_at None line p e h = cc
field_length_at (Some i) line p e h = let q : split_at line i ≡ p = cc in split_length i line p (last_within line i e) q

field_length : (line : List ℕ) (p : List ℕ × List ℕ) → fields_of line ≡ Some p → length line ≡ length p.0 + 1 + length p.1
field_length line p h = field_length_at (last_space line) line p refl h

three : (bytes : List ℕ) (flags : Flags) → flags_of bytes ≡ Some flags → length bytes ≡ 3
three [] flags h = cc
three (a ∷ []) flags h = cc
three (a ∷ b ∷ []) flags h = cc
three (a ∷ b ∷ c ∷ []) flags h = refl
three (a ∷ b ∷ c ∷ d ∷ more) flags h = cc

true_of : (a b : Bool) → (a && b) ≡ true → (a ≡ true) × (b ≡ true)
true_of true b h = (refl, h)
true_of false b h = cc

not_empty : (ds : List ℕ) → begins_well ds ≡ true → 0 < length ds
not_empty [] h = cc
not_empty (d ∷ ds) h = omega arith

one_zero : (ds : List ℕ) → begins_well ds ≡ true → get_or ds 0 0 ≡ 48 → length ds ≡ 1
one_zero [] h k = cc
one_zero (d ∷ []) h k = refl
one_zero (d ∷ e ∷ ds) h k = grind (arith, nat_tests)

small_is : (v n : ℕ) → small v ≡ Some n → (v ≡ n) × (n ≤ 268435456)
small_is v n h = by (nat_le v 268435456) refl h
  where
    bound : nat_le v 268435456 ≡ true → v ≤ 268435456
    bound e = grind (arith, nat_tests)

    by : (b : Bool) → nat_le v 268435456 ≡ b → (if b then Some v else None) ≡ Some n → (v ≡ n) × (n ≤ 268435456)
    by true e k = let s : v ≡ n = cc in let l = bound e in (s, omega arith)
    by false e k = cc

length_by : (b : Bool) (digits : List ℕ) (n : ℕ) → is_decimal digits ≡ b → (if b then Some (small (value_behind 0 digits)) else None) ≡ Some (Some n) → decimal n ≡ digits
length_by false digits n e h = cc
length_by true digits n e h =
    let t = true_of (list_all is_ascii_digit digits) (begins_well digits) e in
    let inner : small (value_behind 0 digits) ≡ Some n = cc in
    let s = small_is (value_behind 0 digits) n inner in
    ap decimal (sym s.0) ∙ decimal-digits_value own digits t.0 (not_empty digits t.1) (one_zero digits t.1) (omega (arith, s.0, s.1))

size_digits : (digits : List ℕ) (n : ℕ) → length_field digits ≡ Some (Some n) → decimal n ≡ digits
size_digits digits n h = length_by (is_decimal digits) digits n refl h

words_by : (path bytes digits : List ℕ) (a : Option Flags) (b : Option (Option ℕ)) (f : File) (n : ℕ) → flags_of bytes ≡ a → length_field digits ≡ b → file_by path a b ≡ Some f → f.1.1 ≡ Some n → (length path ≡ length f.0) × ((length bytes ≡ 3) × (length digits ≡ length (decimal n)))
words_by path bytes digits None b f n e g h k = cc
words_by path bytes digits (Some a) None f n e g h k = cc
words_by path bytes digits (Some a) (Some b) f n e g h k =
    let q : (path, (a, b)) ≡ f = cc in
    let s : b ≡ Some n = ap (λ (r : File). r.1.1) q ∙ k in (
      ap (λ (r : File). length r.0) q,
      (
        three bytes a e,
        ap (λ (xs : List ℕ). length xs) (sym (size_digits digits n (g ∙ ap (λ (o : Option ℕ). Some o) s))),
      ),
    )

prefix_length : (digits prefix : List ℕ) (o : Option (List ℕ × List ℕ)) (f : File) (n : ℕ) → fields_of prefix ≡ o → path_and_flags digits o ≡ Some f → f.1.1 ≡ Some n → length prefix + length digits ≡ length f.0 + 4 + length (decimal n)
prefix_length digits prefix None f n e h k = cc
prefix_length digits prefix (Some p) f n e h k =
    let a = field_length prefix p e in
    let w = words_by p.0 p.1 digits (flags_of p.1) (length_field digits) f n refl refl h k in
    omega (arith, a, w.0, w.1.0, w.1.1)

whole_length : (line : List ℕ) (o : Option (List ℕ × List ℕ)) (f : File) (n : ℕ) → fields_of line ≡ o → prefix_and_length o ≡ Some f → f.1.1 ≡ Some n → length line ≡ length f.0 + (5 + length (decimal n))
whole_length line None f n e h k = cc
whole_length line (Some p) f n e h k =
    let a = field_length line p e in
    let b = prefix_length p.1 p.0 (fields_of p.0) f n refl h k in
    omega (arith, a, b)

pub fields_length : (line : List ℕ) (f : File) (n : ℕ) → file_fields line ≡ Some f → f.1.1 ≡ Some n → length line ≡ length f.0 + (5 + length (decimal n))
fields_length line f n h k = whole_length line (fields_of line) f n refl h k

pub words_length : (path : List ℕ) (file : Regular) → length (file_line path file) ≡ 5 + (length path + (5 + length (decimal (length file.bytes))))
words_length path file =
    let a = length-append path (32 ∷ (flags_text file.flags ++ 32 ∷ decimal (length file.bytes))) in
    omega (arith, a)
