-- Proof that count is a filter.
use Rattle.std.specs.Prelude.{◌≡◌, ℕ, ◌+◌, List, [], ◌∷◌, ◌++◌, min, length, true, false, refl}
use Rattle.std.proofs.Common.{append-nil, arith, length-append}
use Rattle.sh_stock.specs.Courses.{is_filter}
use Rattle.sh_stock.specs.Filtering.{Course, Fits, Holds, IsFilter, KeepsParts, after}
use Rattle.sh_stock.specs.Filters.{count_filter}
use Rattle.sh_stock.specs.Programs.{count_limit, count_text, programs}
use Rattle.sh_stock.specs.declared.asking.Answer.{Answer}
use Rattle.sh_stock.specs.declared.asking.Answer.TheVariants.{Started, Bytes, Done, Failed}
use Rattle.sh_stock.specs.declared.asking.Ask.TheVariants.{Read, Write, End}
use Rattle.sh_stock.specs.declared.program.Program.{Program}
use Rattle.sh_stock.specs.declared.program.Program.TheVariants.{Count, Ending}

pub data CountPlace : Type 0 where
  Reading : List ℕ → CountPlace
  Writing : List ℕ → CountPlace
  Ended : List ℕ → CountPlace

-- the number that count writes for what it read
abbrev pub count_of : List ℕ → ℕ
count_of x = min count_limit (length x)

abbrev pub count_at : CountPlace → Course Program
count_at (Reading x) = record { program = Count (count_of x); ask = Read 1024; read = x; ended = false; written = [] }
count_at (Writing x) = record { program = Ending 0; ask = Write (count_text (count_of x)); read = x; ended = true; written = [] }
count_at (Ended x) = record { program = Ending 0; ask = End 0; read = x; ended = true; written = count_text (count_of x) }

counted-more : (x bytes : List ℕ) → min count_limit (count_of x + length bytes) ≡ count_of (x ++ bytes)
counted-more x bytes = omega (arith, length-append x bytes)

count_next : (place : CountPlace) (answer : Answer) → Fits (count_at place).ask (count_at place).ended answer → (later : CountPlace) × (after programs (count_at place) answer ≡ count_at later)
count_next (Reading x) Started fits = absurd fits
count_next (Reading x) (Bytes []) fits = (Writing x, rw (append-nil x) refl)
count_next (Reading x) (Bytes (byte ∷ bytes)) fits = (Reading (x ++ byte ∷ bytes), rw (counted-more x (byte ∷ bytes)) refl)
count_next (Reading x) Done fits = absurd fits
count_next (Reading x) Failed fits = absurd fits
count_next (Writing x) Started fits = absurd fits
count_next (Writing x) (Bytes bytes) fits = absurd fits
count_next (Writing x) Done fits = (Ended x, refl)
count_next (Writing x) Failed fits = absurd fits
count_next (Ended x) answer fits = absurd fits

count_holds : (place : CountPlace) → Holds count_filter (count_at place)
count_holds (Reading x) = record { written = ([], refl); ends = λ status h. cc }
count_holds (Writing x) = record { written = (count_text (count_of x), refl); ends = λ status h. cc }
count_holds (Ended x) = record { written = ([], append-nil (count_text (count_of x))); ends = λ status h. (refl, cc) }

pub count_is_filter : IsFilter programs (Count 0) count_filter
count_is_filter = is_filter programs (Count 0) count_filter (record { Place = CountPlace; at = count_at; first = (Reading [], refl); next = count_next }) count_holds

pub count_keeps_parts : KeepsParts count_filter
count_keeps_parts = record { part = λ x y. ([], refl); output = λ x y. (count_text (count_of (x ++ y)), refl) }
