-- More answers than an expansion needs change nothing but what is left of them.
use Rattle.std.proofs.Common.{◌≡◌, ℕ, Bool, true, false, List, [], ◌∷◌, ◌++◌, Some, refl, sym, ap, subst}
use Rattle.sh_vars.specs.Environment.{Environment}
use Rattle.sh_syntax.specs.declared.tree.CompoundList.{CompoundList}
use Rattle.sh_expand_parts.specs.Closings.{closing_for}
use Rattle.sh_expand_parts.specs.declared.closing.Closed.{Closed}
use Rattle.sh_expand_parts.specs.declared.closing.Closed.TheVariants as closed_as
use Rattle.sh_expand_parts.specs.declared.closing.Purpose.{Purpose}
use Rattle.sh_expand_parts.specs.declared.context.Context.{Context}
use Rattle.sh_expand_parts.specs.declared.draft.Draft.{Draft}
use Rattle.sh_expand_parts.specs.declared.forms.Begun.{Begun}
use Rattle.sh_expand_parts.specs.declared.forms.Begun.TheVariants.{Adds, Enters, Fails}
use Rattle.sh_expand.specs.declared.place.Place.{Place}
use Rattle.sh_expand.specs.Expansion.{State, Outcome, Need, Done, Stops, Piece, Run, command_substitution, asks, begins, begins_alone, closes, ended_as, enters, fresh, is_end, place, run_from, then}

abbrev pub with_more : State → List (List ℕ) → State
with_more s m = record s { answers = s.answers ++ m }

abbrev pub Grown : List (List ℕ) → Outcome → Outcome → Type 0
Grown m (Need p e) o = Unit {0}
Grown m (Done t) o = o ≡ Done (with_more t m)
Grown m (Stops f e) o = o ≡ Stops f e

abbrev pub Grows : Run → Type 0
Grows r = (s : State) (m : List (List ℕ)) → Grown m (r s) (r (with_more s m))

abbrev pub AllGrow : List Piece → Type 0
AllGrow [] = Unit {0}
AllGrow (p ∷ ps) = ((at : Place) → Grows (p at)) × AllGrow ps

pub then_grows : (o other : Outcome) (f : Run) (m : List (List ℕ)) → Grown m o other → Grows f → Grown m (then o f) (then other f)
then_grows (Need p e) other f m g h = tt
then_grows (Done t) other f m g h = subst (λ x. Grown m (f t) (then x f)) (sym g) (h t m)
then_grows (Stops d e) other f m g h = ap (λ x. then x f) g

pub run_from_grows : (context : Context) (first : Bool) (ps : List Piece) → AllGrow ps → Grows (run_from context first ps)
run_from_grows context first [] a s m = refl
run_from_grows context first (p ∷ ps) a s m =
    then_grows (p (place context first (is_end ps)) s) (p (place context first (is_end ps)) (with_more s m)) (run_from context false ps) m
    (a.0 (place context first (is_end ps)) s m) (run_from_grows context false ps a.1)

ended_grows : (c : Closed) (e : Environment) → Grows (ended_as c e)
ended_grows (closed_as.Goes d) e s m = refl
ended_grows (closed_as.Ends w) e s m = refl
ended_grows (closed_as.Fails f) e s m = refl

closes_grows : (purpose : Purpose) (saved : Draft) → Grows (closes purpose saved)
closes_grows purpose saved s m = let c = closing_for purpose saved s.draft s.env in ended_grows c.closed c.env s m

pub enters_grows : (purpose : Purpose) (context : Context) (inner : List Piece) → AllGrow inner → Grows (enters purpose context inner)
enters_grows purpose context inner a s m =
    then_grows (run_from context true inner (fresh s)) (run_from context true inner (with_more (fresh s) m)) (closes purpose s.draft) m
    (run_from_grows context true inner a (fresh s) m) (closes_grows purpose s.draft)

pub begins_grows : (b : Begun) (inner : List Piece) → AllGrow inner → Grows (begins b inner)
begins_grows (Adds d) inner a s m = refl
begins_grows (Enters purpose context) inner a s m = enters_grows purpose context inner a s m
begins_grows (Fails f) inner a s m = refl

pub begins_alone_grows : (b : Begun) → Grows (begins_alone b)
begins_alone_grows (Adds d) s m = refl
begins_alone_grows (Enters purpose context) s m = refl
begins_alone_grows (Fails f) s m = refl

answered_grows : (context : Context) (program : CompoundList) (xs : List (List ℕ)) (s : State) (m : List (List ℕ))
    → Grown m (command_substitution context program xs s) (command_substitution context program (xs ++ m) (with_more s m))
answered_grows context program [] s m = tt
answered_grows context program (x ∷ xs) s m = refl

pub asks_grows : (context : Context) (program : CompoundList) → Grows (asks context (Some program))
asks_grows context program s m = answered_grows context program s.answers s m
