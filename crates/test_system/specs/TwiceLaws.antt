-- Proof that `twice`, beside programs that keep the laws, keeps them too, by their laws alone.
use Rattle.std.specs.Prelude.{◌≡◌, ℕ, ◌≤◌, List, [], ◌∷◌, ◌++◌, Bool, true, false, codes, Option, Some, None, IsSome, option_map, length, if◌then◌else◌, refl}
use Rattle.std.specs.Str.{bytes_eq}
use Rattle.std.proofs.Common.{ap, sym, subst, append-nil, arith}
use Rattle.sh_stock.specs.Asking.{KeepsLaws, Meaning}
use Rattle.sh_stock.specs.Courses.{is_filter}
use Rattle.sh_stock.specs.Filtering.{AllFit, Course, Filtering, Fits, Holds, IsFilter, KeepsFilterLaws, KeepsParts, after, course}
use Rattle.test_system.specs.Twice.{twice, twice_ask, twice_filter, with_twice, with_twice_filtering}
use Rattle.sh_stock.specs.declared.asking.Answer.{Answer}
use Rattle.sh_stock.specs.declared.asking.Answer.TheVariants.{Started, Bytes, Done, Failed}
use Rattle.sh_stock.specs.declared.asking.Ask.TheVariants.{Read, Write, End}

twice-reads : (answer : Answer) (n : ℕ) → twice_ask answer ≡ Read n → 1 ≤ n
twice-reads Started n h = grind arith
twice-reads (Bytes []) n h = cc
twice-reads (Bytes (byte ∷ bytes)) n h = cc
twice-reads Done n h = grind arith
twice-reads Failed n h = cc

twice-writes : (answer : Answer) (bytes : List ℕ) → twice_ask answer ≡ Write bytes → 1 ≤ length bytes
twice-writes Started bytes h = cc
twice-writes (Bytes []) bytes h = cc
twice-writes (Bytes (byte ∷ more)) bytes h =
    let same : twice (byte ∷ more) ≡ bytes = cc in
    let P : List ℕ → Type 0 = λ xs. 1 ≤ length xs in
    subst P same (omega arith)
twice-writes Done bytes h = cc
twice-writes Failed bytes h = cc

with_twice-reads : {S : Type 0} (m : Meaning S) → KeepsLaws m → (program : Option S) (answer : Answer) (n : ℕ) → ((with_twice m).turn program answer).ask ≡ Read n → 1 ≤ n
with_twice-reads m laws None answer n h = twice-reads answer n h
with_twice-reads m laws (Some program) answer n h = laws.reads program answer n h

with_twice-writes : {S : Type 0} (m : Meaning S) → KeepsLaws m → (program : Option S) (answer : Answer) (bytes : List ℕ) → ((with_twice m).turn program answer).ask ≡ Write bytes → 1 ≤ length bytes
with_twice-writes m laws None answer bytes h = twice-writes answer bytes h
with_twice-writes m laws (Some program) answer bytes h = laws.writes program answer bytes h

pub with_twice-laws : {S : Type 0} (m : Meaning S) → KeepsLaws m → KeepsLaws (with_twice m)
with_twice-laws m laws = record { reads = with_twice-reads m laws; writes = with_twice-writes m laws }

twice-append : (x y : List ℕ) → twice (x ++ y) ≡ twice x ++ twice y
twice-append [] y = refl
twice-append (byte ∷ x) y = ap (λ (zs : List ℕ). byte ∷ (byte ∷ zs)) (twice-append x y)

pub data TwicePlace : Type 0 where
  Reading : List ℕ → TwicePlace
  Writing : List ℕ → List ℕ → TwicePlace
  Ended : List ℕ → TwicePlace

abbrev pub twice_at : {S : Type 0} → TwicePlace → Course (Option S)
twice_at (Reading x) = record { program = None; ask = Read 1024; read = x; ended = false; written = twice x }
twice_at (Writing x bytes) = record { program = None; ask = Write (twice bytes); read = x ++ bytes; ended = false; written = twice x }
twice_at (Ended x) = record { program = None; ask = End 0; read = x; ended = true; written = twice x }

twice_next : {S : Type 0} (m : Meaning S) (place : TwicePlace) (answer : Answer) → Fits (twice_at {S = S} place).ask (twice_at {S = S} place).ended answer → (later : TwicePlace) × (after (with_twice m) (twice_at place) answer ≡ twice_at later)
twice_next m (Reading x) Started fits = absurd fits
twice_next m (Reading x) (Bytes []) fits = (Ended x, rw (append-nil x) refl)
twice_next m (Reading x) (Bytes (byte ∷ bytes)) fits = (Writing x (byte ∷ bytes), refl)
twice_next m (Reading x) Done fits = absurd fits
twice_next m (Reading x) Failed fits = absurd fits
twice_next m (Writing x bytes) Started fits = absurd fits
twice_next m (Writing x bytes) (Bytes more) fits = absurd fits
twice_next m (Writing x bytes) Done fits = (Reading (x ++ bytes), rw (twice-append x bytes) refl)
twice_next m (Writing x bytes) Failed fits = absurd fits
twice_next m (Ended x) answer fits = absurd fits

twice_holds : {S : Type 0} (place : TwicePlace) → Holds twice_filter (twice_at {S = S} place)
twice_holds (Reading x) = record { written = ([], append-nil (twice x)); ends = λ status h. cc }
twice_holds (Writing x bytes) = record { written = (twice bytes, sym (twice-append x bytes)); ends = λ status h. cc }
twice_holds (Ended x) = record { written = ([], append-nil (twice x)); ends = λ status h. (refl, cc) }

twice_is_filter : {S : Type 0} (m : Meaning S) → IsFilter (with_twice m) None twice_filter
twice_is_filter m = is_filter (with_twice m) None twice_filter (record { Place = TwicePlace; at = twice_at; first = (Reading [], refl); next = twice_next m }) twice_holds

twice_keeps_parts : KeepsParts twice_filter
twice_keeps_parts = record { part = λ x y. (twice y, sym (twice-append x y)); output = λ x y. (twice y, sym (twice-append x y)) }

-- the course of another program, beside twice
abbrev pub beside : {S : Type 0} → Course S → Course (Option S)
beside c = record { program = Some c.program; ask = c.ask; read = c.read; ended = c.ended; written = c.written }

course_beside : {S : Type 0} (m : Meaning S) (program : S) (answers : List Answer) → course (with_twice m) (Some program) answers ≡ beside (course m program answers)
course_beside m program [] = refl
course_beside {S} m program (answer ∷ answers) = ap (λ (c : Course (Option S)). after (with_twice m) c answer) (course_beside m program answers)

fit_beside : {S : Type 0} (m : Meaning S) (program : S) (answers : List Answer) → AllFit (with_twice m) (Some program) answers → AllFit m program answers
fit_beside m program [] fits = tt
fit_beside {S} m program (answer ∷ answers) fits =
    let P : Course (Option S) → Type 0 = λ c. Fits c.ask c.ended answer in
    (subst P (course_beside m program answers) fits.0, fit_beside m program answers fits.1)

holds_beside : {S : Type 0} (f : Filtering) (c : Course S) → Holds f c → Holds f (beside c)
holds_beside f c h = record { written = h.written; ends = h.ends }

filter_beside : {S : Type 0} (m : Meaning S) (program : S) (f : Filtering) → IsFilter m program f → IsFilter (with_twice m) (Some program) f
filter_beside {S} m program f filters answers fits =
    let P : Course (Option S) → Type 0 = λ c. Holds f c in
    subst P (sym (course_beside m program answers)) (holds_beside f (course m program answers) (filters answers (fit_beside m program answers fits)))

parts_by : (named : Bool) (other : Option Filtering) → ((f : Filtering) → other ≡ Some f → KeepsParts f) → (f : Filtering) → (if named then Some twice_filter else other) ≡ Some f → KeepsParts f
parts_by true other keeps f h = let same : twice_filter ≡ f = cc in subst (λ (g : Filtering). KeepsParts g) same twice_keeps_parts
parts_by false other keeps f h = keeps f h

starts_by : {S : Type 0} (named : Bool) (other : Option Filtering) (start : Option S) → ((f : Filtering) → other ≡ Some f → IsSome start) → (f : Filtering) → (if named then Some twice_filter else other) ≡ Some f → IsSome (if named then Some None else option_map (λ (program : S). Some program) start)
starts_by true other start starts f h = refl
starts_by false other None starts f h = starts f h
starts_by false other (Some program) starts f h = refl

filters_by : {S : Type 0} (m : Meaning S) (named : Bool) (other : Option Filtering) (start : Option S) → ((f : Filtering) (program : S) → other ≡ Some f → start ≡ Some program → IsFilter m program f) → (f : Filtering) (program : Option S) → (if named then Some twice_filter else other) ≡ Some f → (if named then Some None else option_map (λ (p : S). Some p) start) ≡ Some program → IsFilter (with_twice m) program f
filters_by {S} m true other start filters f program h e =
    let same : twice_filter ≡ f = cc in
    let one : None ≡ program = cc in
    subst (λ (p : Option S). IsFilter (with_twice m) p f) one (subst (λ (g : Filtering). IsFilter (with_twice m) None g) same (twice_is_filter m))
filters_by m false other None filters f program h e = cc
filters_by {S} m false other (Some started) filters f program h e =
    let one : Some started ≡ program = cc in
    subst (λ (p : Option S). IsFilter (with_twice m) p f) one (filter_beside m started f (filters f started h refl))

pub with_twice-filter_laws : {S : Type 0} (m : Meaning S) (filtering : List ℕ → List (List ℕ) → Option Filtering) → KeepsFilterLaws m filtering → KeepsFilterLaws (with_twice m) (with_twice_filtering filtering)
with_twice-filter_laws m filtering laws =
    record {
      parts = λ name operands f h. parts_by (bytes_eq name (codes "twice")) (filtering name operands) (laws.parts name operands) f h;
      starts = λ name operands f h. starts_by (bytes_eq name (codes "twice")) (filtering name operands) (m.start name operands) (laws.starts name operands) f h;
      filters = λ name operands f program h e. filters_by m (bytes_eq name (codes "twice")) (filtering name operands) (m.start name operands) (laws.filters name operands) f program h e;
    }
