-- The parts of a simple command in its tree (XCU 2.9.1), and the redirections of a compound command.
use Rattle.std.specs.Prelude.{ℕ, List, [], ◌∷◌, ◌-◌, Option, Some, None, Bool, is_some, length, option_map, take, drop, unwrap_or}
use Rattle.sh_exec_parts.specs.declared.simple.Assignment.{Assignment}
use Rattle.sh_expand.specs.Context.TheVariants.{Fields, Single, QuotedSingle}
use Rattle.sh_expand.specs.declared.wanted.Wanted.{Wanted}
use Rattle.sh_syntax.specs.declared.tree.AndOr.{AndOr}
use Rattle.sh_syntax.specs.declared.tree.CaseItem.{CaseItem}
use Rattle.sh_syntax.specs.declared.tree.Command.{Command}
use Rattle.sh_syntax.specs.declared.tree.CompoundList.{CompoundList}
use Rattle.sh_syntax.specs.declared.tree.Compound.{Compound}
use Rattle.sh_syntax.specs.declared.tree.CompoundForm.{CompoundForm}
use Rattle.sh_syntax.specs.declared.tree.Connected.{Connected}
use Rattle.sh_syntax.specs.declared.tree.ElseIf.{ElseIf}
use Rattle.sh_syntax.specs.declared.tree.ListItem.{ListItem}
use Rattle.sh_syntax.specs.declared.tree.Part.{Part}
use Rattle.sh_syntax.specs.declared.tree.Parts.{Parts}
use Rattle.sh_syntax.specs.declared.tree.Pipeline.{Pipeline}
use Rattle.sh_syntax.specs.declared.tree.Redirect.{Redirect}
use Rattle.sh_syntax.specs.declared.tree.SimpleItem.{SimpleItem}
use Rattle.sh_syntax.specs.declared.tree.Target.{Target}
use Rattle.sh_syntax.specs.declared.tree.Word.{Word}
use Rattle.sh_syntax.specs.declared.tree.Command.TheOpen as layer
use Rattle.sh_syntax.specs.declared.tree.Command.TheViews as view

-- a form whose parts are those of the tree
abbrev pub Opened : (Type 0 → Type 0 → Type 0 → Type 0 → Type 0 → Type 0 → Type 0 → Type 0
    → Type 0 → Type 0 → Type 0 → Type 0 → Type 0 → Type 0 → Type 0 → Type 0 → Type 0) → Type 0
Opened F = F Command CompoundForm Part SimpleItem Target AndOr CaseItem Compound CompoundList Connected ElseIf ListItem Parts Pipeline Redirect Word

-- the items of a simple command
abbrev pub items_in : Opened layer.Command-F → Option (List SimpleItem)
items_in (layer.Simple items) = Some items
items_in (layer.Compound compound) = None
items_in (layer.Function name body) = None

abbrev pub simple_items : Command → Option (List SimpleItem)
simple_items command = items_in (view.out-Command command)

-- a command of another form has none
abbrev pub items_of : Command → List SimpleItem
items_of command = unwrap_or (simple_items command) []

-- an item that is a word
abbrev pub word_in : Opened layer.SimpleItem-F → Option Parts
word_in (layer.Assignment name value source) = None
word_in (layer.Word word) = Some (view.out-Word word).parts
word_in (layer.Redirect redirect) = None

abbrev pub word_of : SimpleItem → Option Parts
word_of item = word_in (view.out-SimpleItem item)

-- an item that is an assignment: its name and its value
abbrev pub assignment_in : Opened layer.SimpleItem-F → Option (List ℕ × Parts)
assignment_in (layer.Assignment name value source) = Some (name, value)
assignment_in (layer.Word word) = None
assignment_in (layer.Redirect redirect) = None

abbrev pub assignment_of : SimpleItem → Option (List ℕ × Parts)
assignment_of item = assignment_in (view.out-SimpleItem item)

-- an item that is a redirection
abbrev pub redirect_in : Opened layer.SimpleItem-F → Option Redirect
redirect_in (layer.Assignment name value source) = None
redirect_in (layer.Word word) = None
redirect_in (layer.Redirect redirect) = Some redirect

abbrev pub redirect_of : SimpleItem → Option Redirect
redirect_of item = redirect_in (view.out-SimpleItem item)

abbrev pub is_word : SimpleItem → Bool
is_word item = is_some (word_of item)

abbrev pub is_redirect : SimpleItem → Bool
is_redirect item = is_some (redirect_of item)

-- ---- the words, the redirections and the assignments of a command, each in the order of the source
abbrev pub before : {A : Type 0} → Option A → List A → List A
before None xs = xs
before (Some x) xs = x ∷ xs

abbrev pub words_of : List SimpleItem → List Parts
words_of [] = []
words_of (item ∷ items) = before (word_of item) (words_of items)

abbrev pub redirects_of : List SimpleItem → List Redirect
redirects_of [] = []
redirects_of (item ∷ items) = before (redirect_of item) (redirects_of items)

abbrev pub to_assign : List ℕ × Parts → Assignment
to_assign assignment = record { name = assignment.0; value = assignment.1 }

abbrev pub assignments_of : List SimpleItem → List Assignment
assignments_of [] = []
assignments_of (item ∷ items) = before (option_map to_assign (assignment_of item)) (assignments_of items)

-- ---- what is expanded of words and redirections
abbrev pub word_wanted : Parts → Wanted
word_wanted parts = record { parts = parts; context = Fields }

-- of a here-document its body (2.7.4); where the delimiter is quoted the body is a literal part
abbrev pub target_wanted : Opened layer.Target-F → Wanted
target_wanted (layer.Named operator word) = record { parts = (view.out-Word word).parts; context = Single }
target_wanted (layer.Here operator delimiter body) = record { parts = body; context = QuotedSingle }

abbrev pub redirect_wanted : Redirect → Wanted
redirect_wanted redirect = target_wanted (view.out-Target (view.out-Redirect redirect).target)

-- ---- the fields that come back: a redirection's word gives one, so the last ones are those of the redirections
abbrev pub word_fields : List (List ℕ) → ℕ → List (List ℕ)
word_fields fields redirections = take (length fields - redirections) fields

abbrev pub redirect_fields : List (List ℕ) → ℕ → List (List ℕ)
redirect_fields fields redirections = drop (length fields - redirections) fields

-- ---- the redirections of a compound command (2.9.4); a command of another form has none
abbrev pub compound_redirects_in : Opened layer.Command-F → List Redirect
compound_redirects_in (layer.Simple items) = []
compound_redirects_in (layer.Compound compound) = (view.out-Compound compound).redirects
compound_redirects_in (layer.Function name body) = []

abbrev pub compound_redirects : Command → List Redirect
compound_redirects command = compound_redirects_in (view.out-Command command)
