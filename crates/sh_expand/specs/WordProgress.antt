-- The progress of an expansion: what is left to do, and its outcome.
use Rattle.std.specs.Prelude.{◌≡◌, ℕ, ◌+◌, ◌==◌, List, [], ◌∷◌, ◌++◌, Bool, Option, Some, None, drop, length}
use Rattle.sh_vars.specs.Environment.{Environment}
use Rattle.sh_syntax.specs.declared.tree.Part.{Part}
use Rattle.sh_syntax.specs.declared.tree.Parts.{Parts}
use Rattle.sh_expand_parts.specs.declared.closing.Purpose.{Purpose}
use Rattle.sh_expand_parts.specs.declared.context.Context.{Context}
use Rattle.sh_expand_parts.specs.declared.draft.Draft.{Draft}
use Rattle.sh_expand_parts.specs.declared.fault.Fault.{Fault}
use Rattle.sh_expand.specs.Expansion.{State, Outcome, Need, Done, Stops, Run, command_substitution, closes, with_answer, enters, place, run_from, then}
use Rattle.sh_expand.specs.Parts.{expand, parts_of, pieces, run_words}
use Rattle.sh_expand.specs.Weights.{parts_weight}
use Rattle.sh_expand.specs.declared.place.Place.{Place}
use Rattle.sh_expand.specs.declared.part.Act.{Act}
use Rattle.sh_expand.specs.declared.part.Act.TheVariants as act
use Rattle.sh_expand.specs.declared.words.Frame.{Frame}
use Rattle.sh_expand.specs.declared.words.Step.{Step}
use Rattle.sh_expand.specs.declared.words.Step.TheVariants as step
use Rattle.sh_expand.specs.declared.wanted.Wanted.{Wanted}
use Rattle.sh_expand.specs.declared.words.WordExpansion.{WordExpansion}

-- the outcome at a part that was begun
abbrev pub outcome_at : Act → Run
outcome_at act.Went s = Done s
outcome_at (act.Enter word purpose context) s = enters purpose context (pieces (parts_of word)) s
outcome_at (act.Ask program context) s = command_substitution context program s.answers s
outcome_at (act.Fail f) s = Stops f s.env

abbrev pub left_of : Frame → List Part
left_of f = drop f.at (parts_of f.parts)

abbrev pub run_left : Frame → (first : Bool) → List Part → Run
run_left f first ps s = then (run_from f.context first (pieces ps) s) (closes f.purpose f.saved)

-- the place of the next part of a frame
abbrev pub place_of : Frame → Place
place_of f = place f.context (f.at == 0) (f.at + 1 == length (parts_of f.parts))

-- the frame of a word that is begun
abbrev pub entered_frame : Parts → Purpose → Context → Draft → Frame
entered_frame parts purpose context saved =
    record { parts = parts; at = 0; context = context; purpose = purpose; saved = saved }

-- what is left of a frame
abbrev pub run_frame : Frame → Run
run_frame f = run_left f (f.at == 0) (left_of f)

-- the outcome of frames, from the outcome inside them; the list has the outermost frame first
abbrev pub around : List Frame → Outcome → Outcome
around [] o = o
around (f ∷ fs) o = then (around fs o) (run_frame f)

-- all that is left to do
abbrev pub rest : WordExpansion → Outcome → Outcome
rest e o = then (around e.frames o) (run_words (drop e.next e.words))

abbrev pub state_of : WordExpansion → Environment → List (List ℕ) → State
state_of e env answers = record { env = env; draft = e.draft; words = e.done; answers = answers }

-- the outcome, if these answers are still to come
abbrev pub outcome_of : Step → WordExpansion → Environment → List (List ℕ) → Outcome
outcome_of (step.Need p) e env bs = rest e (command_substitution e.asked p bs (state_of e env bs))
outcome_of step.Words e env bs = Done (state_of e env bs)
outcome_of (step.Fault f) e env bs = Stops f env

-- the same after a turn that may go on
abbrev pub outcome_after : Option Step → WordExpansion → Environment → List (List ℕ) → Outcome
outcome_after None e env bs = rest e (Done (state_of e env bs))
outcome_after (Some s) e env bs = outcome_of s e env bs

-- the end of a word inside
abbrev pub outcome_closed : Option Fault → WordExpansion → Environment → List (List ℕ) → Outcome
outcome_closed None e env bs = Done (state_of e env bs)
outcome_closed (Some f) e env bs = Stops f env

-- the expansion waits for an answer, after the answers `given`
pub record Waits (e : WordExpansion) (env : Environment) (words : List Wanted) (before : Environment) (given : List (List ℕ)) : Type 0 where
  pub goes_on : (a : List ℕ) (bs : List (List ℕ)) → expand words before (given ++ a ∷ bs) ≡ rest e (with_answer e.asked a bs (state_of e env (a ∷ bs)))

-- what an expansion depends on: its words, the environment before it, and the answers so far
pub record Inputs : Type 0 where
  pub words : List Wanted
  pub before : Environment
  pub given : List (List ℕ)

abbrev pub inputs : List Wanted → Environment → List (List ℕ) → Inputs
inputs words before given = record { words = words; before = before; given = given }

-- a step is the outcome of the expansion with the answers so far
abbrev pub IsStep : Step → WordExpansion → Environment → Inputs → Type 0
IsStep (step.Need p) e env i = (expand i.words i.before i.given ≡ Need p env) × Waits e env i.words i.before i.given
IsStep step.Words e env i = expand i.words i.before i.given ≡ Done (state_of e env [])
IsStep (step.Fault f) e env i = expand i.words i.before i.given ≡ Stops f env

abbrev pub act_weight : Act → ℕ
act_weight act.Went = 0
act_weight (act.Enter word purpose context) = 1 + parts_weight (parts_of word)
act_weight (act.Ask program context) = 0
act_weight (act.Fail f) = 0

abbrev pub frames_weight : List Frame → ℕ
frames_weight [] = 0
frames_weight (f ∷ fs) = 1 + parts_weight (left_of f) + frames_weight fs

abbrev pub words_weight : List Wanted → ℕ
words_weight [] = 0
words_weight (w ∷ ws) = 2 + parts_weight (parts_of w.parts) + words_weight ws

abbrev pub weight : WordExpansion → ℕ
weight e = frames_weight e.frames + words_weight (drop e.next e.words)
