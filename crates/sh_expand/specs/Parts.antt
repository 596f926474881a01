-- What each part of a word does in the expansion (XCU 2.6), by what the parts inside it do; and the expansion of words.
use Rattle.std.specs.Prelude.{ℕ, List, [], ◌∷◌, Option, Some, None, map}
use Rattle.sh_vars.specs.Environment.{Environment}
use Rattle.sh_expand_fields.specs.declared.item.Item.TheVariants as item
use Rattle.sh_syntax.specs.declared.tree.Part.{Part}
use Rattle.sh_syntax.specs.declared.tree.Parts.{Parts}
use Rattle.sh_syntax.specs.declared.tree.CompoundList.{CompoundList}
use Rattle.sh_syntax.specs.declared.tree.Command.{Command}
use Rattle.sh_syntax.specs.declared.tree.CompoundForm.{CompoundForm}
use Rattle.sh_syntax.specs.declared.tree.SimpleItem.{SimpleItem}
use Rattle.sh_syntax.specs.declared.tree.Target.{Target}
use Rattle.sh_syntax.specs.declared.tree.AndOr.{AndOr}
use Rattle.sh_syntax.specs.declared.tree.CaseItem.{CaseItem}
use Rattle.sh_syntax.specs.declared.tree.Compound.{Compound}
use Rattle.sh_syntax.specs.declared.tree.Connected.{Connected}
use Rattle.sh_syntax.specs.declared.tree.ElseIf.{ElseIf}
use Rattle.sh_syntax.specs.declared.tree.ListItem.{ListItem}
use Rattle.sh_syntax.specs.declared.tree.Pipeline.{Pipeline}
use Rattle.sh_syntax.specs.declared.tree.Redirect.{Redirect}
use Rattle.sh_syntax.specs.declared.tree.Word.{Word}
use Rattle.sh_syntax.specs.declared.tree.Command.TheOpen as layer
use Rattle.sh_syntax.specs.declared.tree.Command.TheViews as view
use Rattle.sh_syntax.specs.declared.tree.Command.TheFolds as folds
use Rattle.sh_expand_parts.specs.Contexts.{inside_quotes}
use Rattle.sh_expand_parts.specs.Drafts.{field_items, nothing, plain}
use Rattle.sh_expand_parts.specs.Forms.{conditional_begun, length_begun, parameter_begun, removal_begun}
use Rattle.sh_expand_parts.specs.Tildes.{literal_begun}
use Rattle.sh_expand_parts.specs.declared.context.Context.TheVariants.{QuotedSingle}
use Rattle.sh_expand_parts.specs.declared.closing.Purpose.TheVariants as purpose
use Rattle.sh_expand.specs.declared.wanted.Wanted.{Wanted}
use Rattle.sh_expand.specs.Expansion.{State, Outcome, Done, Piece, Run, adds, asks, begins, begins_alone, enters, is_end, then}

-- the form of a part, with its own parts and programs
abbrev pub Form : Type 0
Form = layer.Part-F Command CompoundForm Part SimpleItem Target AndOr CaseItem Compound CompoundList Connected ElseIf ListItem Parts Pipeline Redirect Word

abbrev pub parts_of : Parts → List Part
parts_of w = (view.out-Parts w).items

-- the parts inside a part
abbrev pub inside : Form → List Part
inside (layer.Literal text) = []
inside (layer.Escaped b) = []
inside (layer.SingleQuoted text) = []
inside (layer.DoubleQuoted w) = parts_of w
inside (layer.Parameter p) = []
inside (layer.Length p) = []
inside (layer.Conditional p absence action w) = parts_of w
inside (layer.Removal p affix extent w) = parts_of w
inside (layer.Substitution program) = []
inside (layer.Backquoted program) = []
inside (layer.Arithmetic w) = parts_of w

-- the program of a command substitution
abbrev pub program_of : Form → Option CompoundList
program_of (layer.Literal text) = None
program_of (layer.Escaped b) = None
program_of (layer.SingleQuoted text) = None
program_of (layer.DoubleQuoted w) = None
program_of (layer.Parameter p) = None
program_of (layer.Length p) = None
program_of (layer.Conditional p absence action w) = None
program_of (layer.Removal p affix extent w) = None
program_of (layer.Substitution program) = Some program
program_of (layer.Backquoted program) = Some program
program_of (layer.Arithmetic w) = None

-- what a part does, given itself
abbrev pub Meaning : Type 0
Meaning = Part → Piece

-- each part with its own meaning
abbrev pub each : List Meaning → List Part → List Piece
each [] ps = []
each (f ∷ fs) [] = []
each (f ∷ fs) (p ∷ ps) = f p ∷ each fs ps

abbrev pub U : Type 0
U = Unit {0}

-- a form whose parts are replaced by their meanings
abbrev pub Layer : (Type 0 → Type 0 → Type 0 → Type 0 → Type 0 → Type 0 → Type 0 → Type 0
    → Type 0 → Type 0 → Type 0 → Type 0 → Type 0 → Type 0 → Type 0 → Type 0 → Type 0) → Type 0
Layer F = F U U Meaning U U U U U U U U U (List Meaning) U U U

-- what a part does, by its form; the parts inside are taken from the part itself
abbrev pub part_step : Layer layer.Part-F → Meaning
part_step (layer.Literal text) p at s = adds (literal_begun at.context s.env at.first at.last text) s
part_step (layer.Escaped b) p at s = adds (plain (item.Quoted b ∷ [])) s
part_step (layer.SingleQuoted text) p at s = adds (plain (field_items text)) s
part_step (layer.DoubleQuoted w) p at s = enters purpose.Quotes (inside_quotes at.context) (each w (inside (view.out-Part p))) s
part_step (layer.Parameter q) p at s = begins_alone (parameter_begun at.context s.env q) s
part_step (layer.Length q) p at s = begins_alone (length_begun at.context s.env q) s
part_step (layer.Conditional q absence action w) p at s =
    begins (conditional_begun at.context s.env q absence action (is_end (each w (inside (view.out-Part p))))) (each w (inside (view.out-Part p))) s
part_step (layer.Removal q affix extent w) p at s =
    begins (removal_begun at.context s.env q affix extent) (each w (inside (view.out-Part p))) s
part_step (layer.Substitution program) p at s = asks at.context (program_of (view.out-Part p)) s
part_step (layer.Backquoted program) p at s = asks at.context (program_of (view.out-Part p)) s
part_step (layer.Arithmetic w) p at s = enters (purpose.Compute at.context) QuotedSingle (each w (inside (view.out-Part p))) s

abbrev pub parts_step : Layer layer.Parts-F → List Meaning
parts_step w = w.items

-- the rest of the syntax has no part in it
abbrev pub other_step : {A : Type 0} → A → U
other_step x = tt

unfoldable pub meaning : Part → Meaning
meaning = folds.fold-Part U U Meaning U U U U U U U U U (List Meaning) U U U
    other_step other_step part_step other_step other_step other_step other_step other_step other_step other_step other_step other_step parts_step other_step other_step other_step

-- what a part does
unfoldable pub run_part : Part → Piece
run_part p = meaning p p

abbrev pub pieces : List Part → List Piece
pieces ps = map run_part ps

-- the expansion of a word, for its context
unfoldable pub run_word : Wanted → Run
run_word w = enters (purpose.Word w.context) w.context (pieces (parts_of w.parts))

abbrev pub run_words : List Wanted → Run
run_words [] s = Done s
run_words (w ∷ ws) s = then (run_word w s) (run_words ws)

abbrev pub start : Environment → List (List ℕ) → State
start env answers = record { env = env; draft = nothing; words = []; answers = answers }

-- the expansion of words, as far as the answers go
abbrev pub expand : List Wanted → Environment → List (List ℕ) → Outcome
expand words env answers = run_words words (start env answers)
