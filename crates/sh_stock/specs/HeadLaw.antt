-- Proof that head is a filter.
use Rattle.std.specs.Prelude.{◌≡◌, ℕ, ◌-◌, ◌<◌, ◌≤◌, ◌⊎◌, List, [], ◌∷◌, ◌++◌, true, false, refl}
use Rattle.std.proofs.Common.{ap, ◌∙◌, sym, inl, inr, append-nil, append_assoc, arith}
use Rattle.std.proofs.lemmas.Bool.{cases_lt}
use Rattle.sh_stock.specs.Courses.{is_filter}
use Rattle.sh_stock.specs.Filtering.{Begins, Course, Fits, Holds, IsFilter, KeepsParts, after, first_course}
use Rattle.sh_stock.specs.Filters.{head_filter}
use Rattle.sh_stock.specs.LineLaws.{first_lines-all, first_lines-enough, first_lines-few, first_lines-none, newlines-append, not_zero}
use Rattle.sh_stock.specs.Lines.{first_lines, newlines}
use Rattle.sh_stock.specs.Programs.{head_of, programs, writes_any}
use Rattle.sh_stock.specs.declared.asking.Answer.{Answer}
use Rattle.sh_stock.specs.declared.asking.Answer.TheVariants.{Started, Bytes, Done, Failed}
use Rattle.sh_stock.specs.declared.asking.Ask.TheVariants.{Read, Write, End}
use Rattle.sh_stock.specs.declared.asking.Turn.{Turn}
use Rattle.sh_stock.specs.declared.program.Program.{Program}
use Rattle.sh_stock.specs.declared.program.Program.TheVariants.{Ending, Head}

pub data HeadPlace (n : ℕ) : Type 0 where
  Reading : (x : List ℕ) → newlines x < n → HeadPlace n
  Writing : (x bytes : List ℕ) → newlines (x ++ bytes) < n → HeadPlace n
  Last : (x bytes taken : List ℕ) → ((y : List ℕ) → first_lines n ((x ++ bytes) ++ y) ≡ x ++ taken) → HeadPlace n
  Early : (x written : List ℕ) → ((y : List ℕ) → first_lines n (x ++ y) ≡ written) → HeadPlace n
  Ended : (x : List ℕ) → first_lines n x ≡ x → HeadPlace n

abbrev pub head_at : (n : ℕ) → HeadPlace n → Course Program
head_at n (Reading x h) = record { program = Head (n - newlines x); ask = Read 1024; read = x; ended = false; written = x }
head_at n (Writing x bytes h) = record { program = Head (n - newlines (x ++ bytes)); ask = Write bytes; read = x ++ bytes; ended = false; written = x }
head_at n (Last x bytes taken h) = record { program = Ending 0; ask = Write taken; read = x ++ bytes; ended = false; written = x }
head_at n (Early x written h) = record { program = Ending 0; ask = End 0; read = x; ended = false; written = written }
head_at n (Ended x h) = record { program = Ending 0; ask = End 0; read = x; ended = true; written = x }

head_of-some : (n : ℕ) → 0 < n → head_of n ≡ Head n
head_of-some n h = rw (not_zero n h) refl

head_of-none : (n : ℕ) → n ≡ 0 → head_of n ≡ Ending 0
head_of-none n h = rw h refl

-- the turn at some bytes, where they don't end as many lines as are left, and where they do
turn-few : (left byte : ℕ) (bytes : List ℕ) → newlines (byte ∷ bytes) < left → writes_any (first_lines left (byte ∷ bytes)) (head_of (left - newlines (byte ∷ bytes))) ≡ record { program = Head (left - newlines (byte ∷ bytes)); ask = Write (byte ∷ bytes) }
turn-few left byte bytes h =
    rw (first_lines-all left (byte ∷ bytes) h, head_of-some (left - newlines (byte ∷ bytes)) (omega arith)) refl

turn-enough : (left byte : ℕ) (bytes : List ℕ) → 0 < left → left ≤ newlines (byte ∷ bytes) → writes_any (first_lines left (byte ∷ bytes)) (head_of (left - newlines (byte ∷ bytes))) ≡ record { program = Ending 0; ask = Write (first_lines left (byte ∷ bytes)) }
turn-enough left byte bytes l h =
    rw (head_of-none (left - newlines (byte ∷ bytes)) (omega arith), not_zero left l) refl

-- the course after bytes, by the turn at them
abbrev read_course : List ℕ → List ℕ → Turn Program → Course Program
read_course x bytes turn = record { program = turn.program; ask = turn.ask; read = x ++ bytes; ended = false; written = x }

read_by : (n : ℕ) (x : List ℕ) (fewer : newlines x < n) (byte : ℕ) (bytes : List ℕ) → (newlines (byte ∷ bytes) < n - newlines x) ⊎ (n - newlines x ≤ newlines (byte ∷ bytes)) → (later : HeadPlace n) × (after programs (head_at n (Reading x fewer)) (Bytes (byte ∷ bytes)) ≡ head_at n later)
read_by n x fewer byte bytes (inl h) =
    let sum = newlines-append x (byte ∷ bytes) in
    let left : (n - newlines x) - newlines (byte ∷ bytes) ≡ n - newlines (x ++ byte ∷ bytes) = omega arith in
    let still : newlines (x ++ byte ∷ bytes) < n = omega arith in
    (Writing x (byte ∷ bytes) still, ap (read_course x (byte ∷ bytes)) (turn-few (n - newlines x) byte bytes h ∙ ap (λ (k : ℕ). record { program = Head k; ask = Write (byte ∷ bytes) }) left))
read_by n x fewer byte bytes (inr h) =
    let some : 0 < n - newlines x = omega arith in (
      Last x (byte ∷ bytes) (first_lines (n - newlines x) (byte ∷ bytes)) (λ y. ap (first_lines n) (append_assoc x (byte ∷ bytes) y) ∙ (first_lines-few n x ((byte ∷ bytes) ++ y) fewer ∙ ap (λ (zs : List ℕ). x ++ zs) (first_lines-enough (n - newlines x) (byte ∷ bytes) y h))),
      ap (read_course x (byte ∷ bytes)) (turn-enough (n - newlines x) byte bytes some h),
    )

head_read : (n : ℕ) (x : List ℕ) (fewer : newlines x < n) (byte : ℕ) (bytes : List ℕ) → (later : HeadPlace n) × (after programs (head_at n (Reading x fewer)) (Bytes (byte ∷ bytes)) ≡ head_at n later)
head_read n x fewer byte bytes =
    read_by n x fewer byte bytes (cases_lt (newlines (byte ∷ bytes)) (n - newlines x))

head_next : (n : ℕ) (place : HeadPlace n) (answer : Answer) → Fits (head_at n place).ask (head_at n place).ended answer → (later : HeadPlace n) × (after programs (head_at n place) answer ≡ head_at n later)
head_next n (Reading x h) Started fits = absurd fits
head_next n (Reading x h) (Bytes []) fits = (Ended x (first_lines-all n x h), rw (append-nil x) refl)
head_next n (Reading x h) (Bytes (byte ∷ bytes)) fits = head_read n x h byte bytes
head_next n (Reading x h) Done fits = absurd fits
head_next n (Reading x h) Failed fits = absurd fits
head_next n (Writing x bytes h) Started fits = absurd fits
head_next n (Writing x bytes h) (Bytes more) fits = absurd fits
head_next n (Writing x bytes h) Done fits = (Reading (x ++ bytes) h, refl)
head_next n (Writing x bytes h) Failed fits = absurd fits
head_next n (Last x bytes taken h) Started fits = absurd fits
head_next n (Last x bytes taken h) (Bytes more) fits = absurd fits
head_next n (Last x bytes taken h) Done fits = (Early (x ++ bytes) (x ++ taken) h, refl)
head_next n (Last x bytes taken h) Failed fits = absurd fits
head_next n (Early x written h) answer fits = absurd fits
head_next n (Ended x h) answer fits = absurd fits

head_holds : (n : ℕ) (place : HeadPlace n) → Holds (head_filter n) (head_at n place)
head_holds n (Reading x h) = record { written = ([], append-nil x ∙ sym (first_lines-all n x h)); ends = λ status e. cc }
head_holds n (Writing x bytes h) = record { written = (bytes, sym (first_lines-all n (x ++ bytes) h)); ends = λ status e. cc }
head_holds n (Last x bytes taken h) = record { written = (taken, sym (h []) ∙ ap (first_lines n) (append-nil (x ++ bytes))); ends = λ status e. cc }
head_holds n (Early x written h) = record { written = ([], append-nil written ∙ (sym (h []) ∙ ap (first_lines n) (append-nil x))); ends = λ status e y. (h y, cc) }
head_holds n (Ended x h) = record { written = ([], append-nil x ∙ sym h); ends = λ status e. (h, cc) }

first_by : (n : ℕ) → (0 < n) ⊎ (n ≤ 0) → (place : HeadPlace n) × (first_course programs (head_of n) ≡ head_at n place)
first_by n (inl h) =
    let same : n ≡ n - 0 = omega arith in
    (Reading [] h, ap (first_course programs) (head_of-some n h) ∙ ap (λ (k : ℕ). first_course programs (Head k)) same)
first_by n (inr h) =
    let none : n ≡ 0 = omega arith in
    (Early [] [] (λ y. ap (λ (k : ℕ). first_lines k y) none ∙ first_lines-none y), ap (first_course programs) (head_of-none n none))

head_first : (n : ℕ) → (place : HeadPlace n) × (first_course programs (head_of n) ≡ head_at n place)
head_first n = first_by n (cases_lt 0 n)

pub head_is_filter : (n : ℕ) → IsFilter programs (head_of n) (head_filter n)
head_is_filter n = is_filter programs (head_of n) (head_filter n) (record { Place = HeadPlace n; at = head_at n; first = head_first n; next = head_next n }) (head_holds n)

begins : (n : ℕ) (x y : List ℕ) → (newlines x < n) ⊎ (n ≤ newlines x) → Begins (first_lines n x) (first_lines n (x ++ y))
begins n x y (inl h) = (first_lines (n - newlines x) y, rw (first_lines-all n x h) (sym (first_lines-few n x y h)))
begins n x y (inr h) = ([], append-nil (first_lines n x) ∙ sym (first_lines-enough n x y h))

pub head_keeps_parts : (n : ℕ) → KeepsParts (head_filter n)
head_keeps_parts n = record { part = λ x y. begins n x y (cases_lt (newlines x) n); output = λ x y. begins n x y (cases_lt (newlines x) n) }
