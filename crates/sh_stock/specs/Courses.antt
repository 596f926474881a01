-- A law of courses: what holds at the start and is kept by each answer holds all along.
use Rattle.std.specs.Prelude.{◌≡◌, ℕ, List, [], ◌∷◌, ◌++◌}
use Rattle.std.proofs.Common.{ap, ◌∙◌, sym, subst}
use Rattle.sh_stock.specs.Asking.{Meaning}
use Rattle.sh_stock.specs.Filtering.{AllFit, Begins, Course, Filtering, Fits, Holds, IsFilter, after, first_course, certain, course, written_after}
use Rattle.sh_stock.specs.declared.asking.Answer.{Answer}
use Rattle.sh_stock.specs.declared.asking.Answer.TheVariants.{Done}
use Rattle.sh_stock.specs.declared.asking.Ask.{Ask}
use Rattle.sh_stock.specs.declared.asking.Ask.TheVariants.{Write}

-- the places that a program reaches, each with its course
pub record Places {S : Type 0} (m : Meaning S) (program : S) : Type 1 where
  pub Place : Type 0
  pub at : Place → Course S
  pub first : (place : Place) × (first_course m program ≡ at place)
  pub next : (place : Place) (answer : Answer) → Fits (at place).ask (at place).ended answer → (later : Place) × (after m (at place) answer ≡ at later)

pub course_place : {S : Type 0} (m : Meaning S) (program : S) (p : Places m program) (answers : List Answer) → AllFit m program answers → (place : p.Place) × (course m program answers ≡ p.at place)
course_place m program p [] fits = p.first
course_place {S} m program p (answer ∷ answers) fits =
    let before = course_place m program p answers fits.1 in
    let P : Course S → Type 0 = λ c. Fits c.ask c.ended answer in
    let step = p.next before.0 answer (subst P before.1 fits.0) in
    (step.0, ap (λ (c : Course S). after m c answer) before.1 ∙ step.1)

pub is_filter : {S : Type 0} (m : Meaning S) (program : S) (f : Filtering) (p : Places m program) → ((place : p.Place) → Holds f (p.at place)) → IsFilter m program f
is_filter {S} m program f p holds answers fits =
    let where_it_is = course_place m program p answers fits in
    let P : Course S → Type 0 = λ c. Holds f c in
    subst P (sym where_it_is.1) (holds where_it_is.0)

-- what a filter asks to write is certain too, so a machine may write it in parts
pub pending_is_certain : {S : Type 0} (m : Meaning S) (program : S) (f : Filtering) → IsFilter m program f → (answers : List Answer) → AllFit m program answers → (bytes : List ℕ) → (course m program answers).ask ≡ Write bytes → Begins ((course m program answers).written ++ bytes) (certain f (course m program answers).ended (course m program answers).read)
pending_is_certain m program f filters answers fits bytes asks =
    let c = course m program answers in
    let IsAnswered : Ask → Type 0 = λ ask. Fits ask c.ended Done in
    let done : Fits c.ask c.ended Done = subst IsAnswered (sym asks) tt in
    let Certain : Ask → Type 0 = λ ask. Begins (written_after c.written ask) (certain f c.ended c.read) in
    subst Certain asks (filters (Done ∷ answers) (done, fits)).written
