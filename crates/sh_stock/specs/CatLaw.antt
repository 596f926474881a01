-- Proof that cat is a filter.
use Rattle.std.specs.Prelude.{◌≡◌, ℕ, List, [], ◌∷◌, ◌++◌, true, false, refl}
use Rattle.std.proofs.Common.{append-nil}
use Rattle.sh_stock.specs.Courses.{is_filter}
use Rattle.sh_stock.specs.Filtering.{Course, Fits, Holds, IsFilter, KeepsParts, after}
use Rattle.sh_stock.specs.Filters.{cat_filter}
use Rattle.sh_stock.specs.Programs.{programs}
use Rattle.sh_stock.specs.declared.asking.Answer.{Answer}
use Rattle.sh_stock.specs.declared.asking.Answer.TheVariants.{Started, Bytes, Done, Failed}
use Rattle.sh_stock.specs.declared.asking.Ask.TheVariants.{Read, Write, End}
use Rattle.sh_stock.specs.declared.program.Program.{Program}
use Rattle.sh_stock.specs.declared.program.Program.TheVariants.{Cat, Ending}

pub data CatPlace : Type 0 where
  Reading : List ℕ → CatPlace
  Writing : List ℕ → List ℕ → CatPlace
  Ended : List ℕ → CatPlace

abbrev pub cat_at : CatPlace → Course Program
cat_at (Reading x) = record { program = Cat; ask = Read 1024; read = x; ended = false; written = x }
cat_at (Writing x bytes) = record { program = Cat; ask = Write bytes; read = x ++ bytes; ended = false; written = x }
cat_at (Ended x) = record { program = Ending 0; ask = End 0; read = x; ended = true; written = x }

cat_next : (place : CatPlace) (answer : Answer) → Fits (cat_at place).ask (cat_at place).ended answer → (later : CatPlace) × (after programs (cat_at place) answer ≡ cat_at later)
cat_next (Reading x) Started fits = absurd fits
cat_next (Reading x) (Bytes []) fits = (Ended (x ++ []), rw (append-nil x) refl)
cat_next (Reading x) (Bytes (byte ∷ bytes)) fits = (Writing x (byte ∷ bytes), refl)
cat_next (Reading x) Done fits = absurd fits
cat_next (Reading x) Failed fits = absurd fits
cat_next (Writing x bytes) Started fits = absurd fits
cat_next (Writing x bytes) (Bytes more) fits = absurd fits
cat_next (Writing x bytes) Done fits = (Reading (x ++ bytes), refl)
cat_next (Writing x bytes) Failed fits = absurd fits
cat_next (Ended x) answer fits = absurd fits

cat_holds : (place : CatPlace) → Holds cat_filter (cat_at place)
cat_holds (Reading x) = record { written = ([], append-nil x); ends = λ status h. cc }
cat_holds (Writing x bytes) = record { written = (bytes, refl); ends = λ status h. cc }
cat_holds (Ended x) = record { written = ([], append-nil x); ends = λ status h. (refl, cc) }

pub cat_is_filter : IsFilter programs Cat cat_filter
cat_is_filter = is_filter programs Cat cat_filter (record { Place = CatPlace; at = cat_at; first = (Reading [], refl); next = cat_next }) cat_holds

pub cat_keeps_parts : KeepsParts cat_filter
cat_keeps_parts = record { part = λ x y. (y, refl); output = λ x y. (y, refl) }
