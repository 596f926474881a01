-- The expansion of words with answers (XCU 2.6): always from the first word; the answers of substitutions are
-- used in order.
use Rattle.std.specs.Prelude.{ℕ, List, [], ◌∷◌, ◌++◌, Bool, true, false, Option, Some, None}
use Rattle.sh_vars.specs.Environment.{Environment}
use Rattle.sh_syntax.specs.declared.tree.CompoundList.{CompoundList}
use Rattle.sh_expand_parts.specs.Answers.{answer_text}
use Rattle.sh_expand_parts.specs.Closings.{Closing, closing_for}
use Rattle.sh_expand_parts.specs.Drafts.{concatenation, nothing, plain, text_items}
use Rattle.sh_expand_parts.specs.declared.context.Context.{Context}
use Rattle.sh_expand_parts.specs.declared.draft.Draft.{Draft}
use Rattle.sh_expand_parts.specs.declared.fault.Fault.{Fault}
use Rattle.sh_expand_parts.specs.declared.fault.Fault.TheVariants as fault
use Rattle.sh_expand_parts.specs.declared.forms.Begun.{Begun}
use Rattle.sh_expand_parts.specs.declared.forms.Begun.TheVariants.{Adds, Enters, Fails}
use Rattle.sh_expand_parts.specs.declared.closing.Closed.{Closed}
use Rattle.sh_expand_parts.specs.declared.closing.ExpandedWord.{ExpandedWord}
use Rattle.sh_expand_parts.specs.declared.closing.Closed.TheVariants as closed_as
use Rattle.sh_expand_parts.specs.declared.closing.Purpose.{Purpose}
use Rattle.sh_expand.specs.declared.place.Place.{Place}

-- what an expansion has made: the shell's variables, the word so far, the words before it, and the answers that are left
pub record State : Type 0 where
  pub env : Environment
  pub draft : Draft
  pub words : List ExpandedWord
  pub answers : List (List ℕ)

-- a program's output is needed; or the expansion is done so far; or it can't be done
pub data Outcome : Type 0 where
  Need : (program : CompoundList) → (env : Environment) → Outcome
  Done : State → Outcome
  Stops : (fault : Fault) → (env : Environment) → Outcome

-- an outcome, and then what follows it
abbrev pub then : Outcome → (State → Outcome) → Outcome
then (Need p env) f = Need p env
then (Done s) f = f s
then (Stops e env) f = Stops e env

abbrev pub Run : Type 0
Run = State → Outcome

-- what a part does, by its place in the word
abbrev pub Piece : Type 0
Piece = Place → Run

abbrev pub place : Context → Bool → Bool → Place
place context first last = record { context = context; first = first; last = last }

abbrev pub is_end : List Piece → Bool
is_end [] = true
is_end (p ∷ ps) = false

-- the parts of a word one after another; `first` says whether the first of them is the word's first
abbrev pub run_from : Context → (first : Bool) → List Piece → Run
run_from context first [] s = Done s
run_from context first (p ∷ ps) s = then (p (place context first (is_end ps)) s) (run_from context false ps)

abbrev pub adds : Draft → Run
adds d s = Done (record s { draft = concatenation s.draft d })

abbrev pub ended_as : Closed → Environment → Run
ended_as (closed_as.Goes d) env s = Done (record s { env = env; draft = d })
ended_as (closed_as.Ends word) env s = Done (record s { env = env; draft = nothing; words = s.words ++ word ∷ [] })
ended_as (closed_as.Fails f) env s = Stops f env

abbrev pub closing_run : Closing → Run
closing_run c = ended_as c.closed c.env

-- the end of a word inside; `saved` is the word before it
abbrev pub closes : Purpose → Draft → Run
closes purpose saved s = closing_run (closing_for purpose saved s.draft s.env) s

-- the word so far is set aside
abbrev pub fresh : State → State
fresh s = record s { draft = nothing }

-- a word inside is expanded, and then its purpose is done
abbrev pub enters : Purpose → Context → List Piece → Run
enters purpose context inner s = then (run_from context true inner (fresh s)) (closes purpose s.draft)

-- a form that may have a word inside
abbrev pub begins : Begun → List Piece → Run
begins (Adds d) inner s = adds d s
begins (Enters purpose context) inner s = enters purpose context inner s
begins (Fails f) inner s = Stops f s.env

-- a form that has none
abbrev pub begins_alone : Begun → Run
begins_alone (Adds d) s = adds d s
begins_alone (Enters purpose context) s = Stops fault.BadSubstitution s.env
begins_alone (Fails f) s = Stops f s.env

-- an answer is added to the word so far
abbrev pub with_answer : Context → (answer : List ℕ) → (more : List (List ℕ)) → Run
with_answer context answer more s =
    Done (record s { draft = concatenation s.draft (plain (text_items context (answer_text answer))); answers = more })

-- a command substitution (2.6.3) takes the next answer, and waits where there is none
abbrev pub command_substitution : Context → CompoundList → List (List ℕ) → Run
command_substitution context program [] s = Need program s.env
command_substitution context program (a ∷ more) s = with_answer context a more s

abbrev pub asks : Context → Option CompoundList → Run
asks context None s = Stops fault.BadSubstitution s.env
asks context (Some program) s = command_substitution context program s.answers s
