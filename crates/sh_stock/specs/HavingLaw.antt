-- Proof that having is a filter.
use Rattle.std.specs.Prelude.{◌≡◌, ℕ, ◌&&◌, List, [], ◌∷◌, ◌++◌, Bool, not, true, false, refl, if◌then◌else◌}
use Rattle.std.proofs.Common.{ap, ◌∙◌, sym, append-nil, append_assoc}
use Rattle.sh_stock.specs.Courses.{is_filter}
use Rattle.sh_stock.specs.Filtering.{Course, Fits, Holds, IsFilter, KeepsParts, after}
use Rattle.sh_stock.specs.Filters.{having_filter, having_output, having_status, last_line}
use Rattle.sh_stock.specs.LineLaws.{kept_lines-append, unfinished-append}
use Rattle.sh_stock.specs.Lines.{contains, is_empty, kept_lines, unfinished_line}
use Rattle.sh_stock.specs.Programs.{ends, having_goes_on, programs, writes}
use Rattle.sh_stock.specs.declared.asking.Answer.{Answer}
use Rattle.sh_stock.specs.declared.asking.Answer.TheVariants.{Started, Bytes, Done, Failed}
use Rattle.sh_stock.specs.declared.asking.Ask.TheVariants.{Read, Write, End}
use Rattle.sh_stock.specs.declared.asking.Turn.{Turn}
use Rattle.sh_stock.specs.declared.program.Program.{Program}
use Rattle.sh_stock.specs.declared.program.Program.TheVariants.{Ending, Having}

-- the program when it has read x; `found` says whether it has written
abbrev pub having_at_line : List ℕ → List ℕ → Bool → Program
having_at_line text x found = Having (record { text = text; line = unfinished_line [] x; found = found })

abbrev pub is_kept : List ℕ → List ℕ → Bool
is_kept text line = not (is_empty line) && contains text line

pub data HavingPlace (text : List ℕ) : Type 0 where
  Reading : List ℕ → HavingPlace text
  Writing : (x bytes : List ℕ) (byte : ℕ) (more : List ℕ) → kept_lines text [] (x ++ bytes) ≡ kept_lines text [] x ++ byte ∷ more → HavingPlace text
  Last : (x : List ℕ) → is_kept text (unfinished_line [] x) ≡ true → HavingPlace text
  Ended : (x written : List ℕ) (status : ℕ) → having_output text x ≡ written → having_status (having_output text x) ≡ status → HavingPlace text

abbrev pub having_at : (text : List ℕ) → HavingPlace text → Course Program
having_at text (Reading x) = record { program = having_at_line text x (not (is_empty (kept_lines text [] x))); ask = Read 1024; read = x; ended = false; written = kept_lines text [] x }
having_at text (Writing x bytes byte more h) = record { program = having_at_line text (x ++ bytes) true; ask = Write (byte ∷ more); read = x ++ bytes; ended = false; written = kept_lines text [] x }
having_at text (Last x h) = record { program = Ending 0; ask = Write (unfinished_line [] x); read = x; ended = true; written = kept_lines text [] x }
having_at text (Ended x written status h e) = record { program = Ending status; ask = End status; read = x; ended = true; written = written }

some_written : (xs : List ℕ) (byte : ℕ) (more : List ℕ) → is_empty (xs ++ byte ∷ more) ≡ false
some_written [] byte more = refl
some_written (x ∷ xs) byte more = refl

-- the course after bytes, by the turn at them
abbrev read_course : List ℕ → List ℕ → Turn Program → Course Program
read_course x written turn = record { program = turn.program; ask = turn.ask; read = x; ended = false; written = written }

goes_on : (text x bytes kept : List ℕ) → kept_lines text [] (x ++ bytes) ≡ kept_lines text [] x ++ kept → (later : HavingPlace text) × (read_course (x ++ bytes) (kept_lines text [] x) (having_goes_on (record { text = text; line = unfinished_line [] (x ++ bytes); found = not (is_empty (kept_lines text [] x)) }) kept) ≡ having_at text later)
goes_on text x bytes [] h = (Reading (x ++ bytes), rw (h, append-nil (kept_lines text [] x)) refl)
goes_on text x bytes (byte ∷ more) h = (Writing x bytes byte more h, refl)

having_read_on : (text x : List ℕ) (byte : ℕ) (bytes : List ℕ) → (later : HavingPlace text) × (after programs (having_at text (Reading x)) (Bytes (byte ∷ bytes)) ≡ having_at text later)
having_read_on text x byte bytes =
    let further = goes_on text x (byte ∷ bytes) (kept_lines text (unfinished_line [] x) (byte ∷ bytes)) (kept_lines-append text [] x (byte ∷ bytes)) in
    (further.0, ap (λ (line : List ℕ). read_course (x ++ byte ∷ bytes) (kept_lines text [] x) (having_goes_on (record { text = text; line = line; found = not (is_empty (kept_lines text [] x)) }) (kept_lines text (unfinished_line [] x) (byte ∷ bytes)))) (sym (unfinished-append [] x (byte ∷ bytes))) ∙ further.1)

-- the course at the end of file
abbrev end_course : List ℕ → List ℕ → Turn Program → Course Program
end_course x written turn = record { program = turn.program; ask = turn.ask; read = x; ended = true; written = written }

status_of : (written : List ℕ) → having_status written ≡ (if not (is_empty written) then 0 else 1)
status_of [] = refl
status_of (byte ∷ bytes) = refl

-- where the unfinished line isn't kept, all is written
none_last : (text x : List ℕ) → is_kept text (unfinished_line [] x) ≡ false → having_output text x ≡ kept_lines text [] x
none_last text x h = rw h (append-nil (kept_lines text [] x))

at_end : (text x : List ℕ) (kept : Bool) → is_kept text (unfinished_line [] x) ≡ kept → (later : HavingPlace text) × (end_course x (kept_lines text [] x) (if kept then writes (unfinished_line [] x) (Ending 0) else ends (if not (is_empty (kept_lines text [] x)) then 0 else 1)) ≡ having_at text later)
at_end text x true h = (Last x h, refl)
at_end text x false h =
    let all = none_last text x h in
    (Ended x (kept_lines text [] x) (if not (is_empty (kept_lines text [] x)) then 0 else 1) all (ap having_status all ∙ status_of (kept_lines text [] x)), refl)

having_end : (text x : List ℕ) → (later : HavingPlace text) × (after programs (having_at text (Reading x)) (Bytes []) ≡ having_at text later)
having_end text x =
    let last = at_end text x (is_kept text (unfinished_line [] x)) refl in
    (last.0, rw (append-nil x) last.1)

-- a kept line has bytes
kept_status : (text xs line : List ℕ) → is_kept text line ≡ true → having_status (xs ++ line) ≡ 0
kept_status text xs [] h = cc
kept_status text xs (byte ∷ more) h = rw (some_written xs byte more) refl

having_next : (text : List ℕ) (place : HavingPlace text) (answer : Answer) → Fits (having_at text place).ask (having_at text place).ended answer → (later : HavingPlace text) × (after programs (having_at text place) answer ≡ having_at text later)
having_next text (Reading x) Started fits = absurd fits
having_next text (Reading x) (Bytes []) fits = having_end text x
having_next text (Reading x) (Bytes (byte ∷ bytes)) fits = having_read_on text x byte bytes
having_next text (Reading x) Done fits = absurd fits
having_next text (Reading x) Failed fits = absurd fits
having_next text (Writing x bytes byte more h) Started fits = absurd fits
having_next text (Writing x bytes byte more h) (Bytes others) fits = absurd fits
having_next text (Writing x bytes byte more h) Done fits = (Reading (x ++ bytes), rw (h, some_written (kept_lines text [] x) byte more) refl)
having_next text (Writing x bytes byte more h) Failed fits = absurd fits
having_next text (Last x h) Started fits = absurd fits
having_next text (Last x h) (Bytes bytes) fits = absurd fits
having_next text (Last x h) Done fits =
    let whole : having_output text x ≡ kept_lines text [] x ++ unfinished_line [] x = ap (λ (b : Bool). kept_lines text [] x ++ (if b then unfinished_line [] x else [])) h in
    (Ended x (kept_lines text [] x ++ unfinished_line [] x) 0 whole (ap having_status whole ∙ kept_status text (kept_lines text [] x) (unfinished_line [] x) h), refl)
having_next text (Last x h) Failed fits = absurd fits
having_next text (Ended x written status h e) answer fits = absurd fits

having_holds : (text : List ℕ) (place : HavingPlace text) → Holds (having_filter text) (having_at text place)
having_holds text (Reading x) = record { written = ([], append-nil (kept_lines text [] x)); ends = λ status e. cc }
having_holds text (Writing x bytes byte more h) = record { written = (byte ∷ more, sym h); ends = λ status e. cc }
having_holds text (Last x h) = record { written = (last_line text (unfinished_line [] x), refl); ends = λ status e. cc }
having_holds text (Ended x written status h e) = record { written = ([], append-nil written ∙ sym h); ends = λ other same. (h, cc) }

pub having_is_filter : (text : List ℕ) → IsFilter programs (having_at_line text [] false) (having_filter text)
having_is_filter text = is_filter programs (having_at_line text [] false) (having_filter text) (record { Place = HavingPlace text; at = having_at text; first = (Reading [], refl); next = having_next text }) (having_holds text)

pub having_keeps_parts : (text : List ℕ) → KeepsParts (having_filter text)
having_keeps_parts text =
    record {
      part = λ x y. (kept_lines text (unfinished_line [] x) y, sym (kept_lines-append text [] x y));
      output = λ x y. (kept_lines text (unfinished_line [] x) y ++ last_line text (unfinished_line [] (x ++ y)), sym (append_assoc (kept_lines text [] x) (kept_lines text (unfinished_line [] x) y) (last_line text (unfinished_line [] (x ++ y)))) ∙ ap (λ (zs : List ℕ). zs ++ last_line text (unfinished_line [] (x ++ y))) (sym (kept_lines-append text [] x y)));
    }
