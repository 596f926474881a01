-- A program whose output an expansion needs begins with an action, if what is expanded does.
use Rattle.std.proofs.Common.{◌≡◌, ℕ, List, [], ◌∷◌, ◌++◌, Option, Some, None, Bool, true, false, sym, subst, option_map}
use Rattle.sh_exec_parts.specs.Declarations.{declares}
use Rattle.sh_exec_parts.specs.Simple.{Opened, before, redirect_in, redirect_of, redirect_wanted, target_wanted, word_in, word_of}
use Rattle.sh_exec_parts.specs.Wants.{argument_wanted, redirects_wanted, wanted_of, words_wanted}
use Rattle.sh_expand_parts.specs.Closings.{closing_for}
use Rattle.sh_expand_parts.specs.Contexts.{inside_quotes}
use Rattle.sh_expand_parts.specs.Forms.{conditional_begun, length_begun, parameter_begun, removal_begun}
use Rattle.sh_expand_parts.specs.declared.closing.Closed.{Closed}
use Rattle.sh_expand_parts.specs.declared.closing.Closed.TheVariants as closed_as
use Rattle.sh_expand_parts.specs.declared.closing.Purpose.{Purpose}
use Rattle.sh_expand_parts.specs.declared.closing.Purpose.TheVariants as purpose
use Rattle.sh_expand_parts.specs.declared.context.Context.{Context}
use Rattle.sh_expand_parts.specs.declared.context.Context.TheVariants.{QuotedSingle}
use Rattle.sh_expand_parts.specs.declared.draft.Draft.{Draft}
use Rattle.sh_expand_parts.specs.declared.forms.Begun.{Begun}
use Rattle.sh_expand_parts.specs.declared.forms.Begun.TheVariants.{Adds, Enters, Fails}
use Rattle.sh_expand.proofs.Forms as form
use Rattle.sh_expand.specs.Expanding as expanding
use Rattle.sh_expand.specs.Expansion.{Outcome, Need, Done, Stops, Piece, Run, State, asks, begins, begins_alone, closes, command_substitution, ended_as, enters, fresh, is_end, place, run_from, then}
use Rattle.sh_expand.specs.Parts.{Form, expand, inside, parts_of, pieces, program_of, run_part, run_word, run_words, start}
use Rattle.sh_expand.specs.declared.place.Place.{Place}
use Rattle.sh_expand.specs.declared.wanted.Wanted.{Wanted}
use Rattle.sh_files.specs.Nodes.{FileMap}
use Rattle.sh_syntax.specs.declared.tree.Command.TheOpen as layer
use Rattle.sh_syntax.specs.declared.tree.Command.TheViews as view
use Rattle.sh_syntax.specs.declared.tree.CompoundList.{CompoundList}
use Rattle.sh_syntax.specs.declared.tree.Part.{Part}
use Rattle.sh_syntax.specs.declared.tree.Part.TheVariants as part
use Rattle.sh_syntax.specs.declared.tree.SimpleItem.{SimpleItem}
use Rattle.sh_vars.specs.Environment.{Environment}
use Rattle.sh_laws.specs.BeforeAction.{WantedBegin}
use Rattle.sh_laws.specs.Beginnings.{ItemsBegin, PartsBegin, ProgramBegins, WordsBegin, item_parts, more_parts, more_words, no_parts, no_words, of_program, target_parts}

abbrev pub ItsItems : CompoundList → Type 0
ItsItems program = ItemsBegin (view.out-CompoundList program).items

abbrev pub OutcomeBegins : Outcome → Type 0
OutcomeBegins (Need program env) = ItsItems program
OutcomeBegins (Done s) = Unit {0}
OutcomeBegins (Stops fault env) = Unit {0}

abbrev pub RunBegins : Run → Type 0
RunBegins r = (s : State) → OutcomeBegins (r s)

abbrev PiecesBegin : List Piece → Type 0
PiecesBegin [] = Unit {0}
PiecesBegin (p ∷ ps) = ((at : Place) → RunBegins (p at)) × PiecesBegin ps

then_begins : (o : Outcome) (f : Run) → OutcomeBegins o → RunBegins f → OutcomeBegins (then o f)
then_begins (Need program env) f g h = g
then_begins (Done s) f g h = h s
then_begins (Stops fault env) f g h = tt

run_from_begins : (context : Context) (first : Bool) (ps : List Piece) → PiecesBegin ps → RunBegins (run_from context first ps)
run_from_begins context first [] a s = tt
run_from_begins context first (p ∷ ps) a s =
    then_begins (p (place context first (is_end ps)) s) (run_from context false ps) (a.0 (place context first (is_end ps)) s) (run_from_begins context false ps a.1)

ended_begins : (c : Closed) (env : Environment) → RunBegins (ended_as c env)
ended_begins (closed_as.Goes d) env s = tt
ended_begins (closed_as.Ends w) env s = tt
ended_begins (closed_as.Fails f) env s = tt

closes_begins : (purpose : Purpose) (saved : Draft) → RunBegins (closes purpose saved)
closes_begins purpose saved s = let c = closing_for purpose saved s.draft s.env in ended_begins c.closed c.env s

enters_begins : (purpose : Purpose) (context : Context) (inner : List Piece) → PiecesBegin inner → RunBegins (enters purpose context inner)
enters_begins purpose context inner a s =
    then_begins (run_from context true inner (fresh s)) (closes purpose s.draft) (run_from_begins context true inner a (fresh s)) (closes_begins purpose s.draft)

begins_begins : (b : Begun) (inner : List Piece) → PiecesBegin inner → RunBegins (begins b inner)
begins_begins (Adds d) inner a s = tt
begins_begins (Enters purpose context) inner a s = enters_begins purpose context inner a s
begins_begins (Fails f) inner a s = tt

begins_alone_begins : (b : Begun) → RunBegins (begins_alone b)
begins_alone_begins (Adds d) s = tt
begins_alone_begins (Enters purpose context) s = tt
begins_alone_begins (Fails f) s = tt

answered_begins : (context : Context) (program : CompoundList) (answers : List (List ℕ)) (s : State) → ItsItems program → OutcomeBegins (command_substitution context program answers s)
answered_begins context program [] s b = b
answered_begins context program (a ∷ more) s b = tt

asks_begins : (context : Context) (program : CompoundList) → ProgramBegins (Some program) → RunBegins (asks context (Some program))
asks_begins context program (of_program _ b) s = answered_begins context program s.answers s b

-- ---- parts
abbrev PartBegins : Part → Type 0
PartBegins p = (at : Place) → RunBegins (run_part p at)

by_law : (r f : Run) → ((s : State) → r s ≡ f s) → RunBegins f → RunBegins r
by_law r f e g s = subst OutcomeBegins (sym (e s)) (g s)

by_form : (z : Form) → PiecesBegin (pieces (inside z)) → ProgramBegins (program_of z) → PartBegins (view.roll-Part z)
by_form (layer.Literal t) i g = subst PartBegins (sym (part.rolls-Literal t)) (λ at. by_law (run_part (part.Literal t) at) _ (form.literal_is t at) (λ s. tt))
by_form (layer.Escaped b) i g = subst PartBegins (sym (part.rolls-Escaped b)) (λ at. by_law (run_part (part.Escaped b) at) _ (form.escaped_is b at) (λ s. tt))
by_form (layer.SingleQuoted t) i g =
    subst PartBegins (sym (part.rolls-SingleQuoted t)) (λ at. by_law (run_part (part.SingleQuoted t) at) _ (form.singlequoted_is t at) (λ s. tt))
by_form (layer.DoubleQuoted w) i g =
    subst PartBegins (sym (part.rolls-DoubleQuoted w)) (λ at.
    by_law (run_part (part.DoubleQuoted w) at) _ (form.doublequoted_is w at) (enters_begins purpose.Quotes (inside_quotes at.context) (pieces (parts_of w)) i))
by_form (layer.Parameter q) i g =
    subst PartBegins (sym (part.rolls-Parameter q)) (λ at.
    by_law (run_part (part.Parameter q) at) (λ s. begins_alone (parameter_begun at.context s.env q) s) (form.parameter_is q at) (λ s. begins_alone_begins (parameter_begun at.context s.env q) s))
by_form (layer.Length q) i g =
    subst PartBegins (sym (part.rolls-Length q)) (λ at.
    by_law (run_part (part.Length q) at) (λ s. begins_alone (length_begun at.context s.env q) s) (form.length_is q at) (λ s. begins_alone_begins (length_begun at.context s.env q) s))
by_form (layer.Conditional q a x w) i g =
    subst PartBegins (sym (part.rolls-Conditional q a x w)) (λ at.
    by_law (run_part (part.Conditional q a x w) at) (λ s. begins (conditional_begun at.context s.env q a x (is_end (pieces (parts_of w)))) (pieces (parts_of w)) s) (form.conditional_is q a x w at)
    (λ s. begins_begins (conditional_begun at.context s.env q a x (is_end (pieces (parts_of w)))) (pieces (parts_of w)) i s))
by_form (layer.Removal q a x w) i g =
    subst PartBegins (sym (part.rolls-Removal q a x w)) (λ at.
    by_law (run_part (part.Removal q a x w) at) (λ s. begins (removal_begun at.context s.env q a x) (pieces (parts_of w)) s) (form.removal_is q a x w at)
    (λ s. begins_begins (removal_begun at.context s.env q a x) (pieces (parts_of w)) i s))
by_form (layer.Substitution program) i g =
    subst PartBegins (sym (part.rolls-Substitution program)) (λ at. by_law (run_part (part.Substitution program) at) _ (form.substitution_is program at) (asks_begins at.context program g))
by_form (layer.Backquoted program) i g =
    subst PartBegins (sym (part.rolls-Backquoted program)) (λ at. by_law (run_part (part.Backquoted program) at) _ (form.backquoted_is program at) (asks_begins at.context program g))
by_form (layer.Arithmetic w) i g =
    subst PartBegins (sym (part.rolls-Arithmetic w)) (λ at.
    by_law (run_part (part.Arithmetic w) at) _ (form.arithmetic_is w at) (enters_begins (purpose.Compute at.context) QuotedSingle (pieces (parts_of w)) i))

pieces_begin : (ps : List Part) → PartsBegin ps → PiecesBegin (pieces ps)
pieces_begin _ no_parts = tt
pieces_begin _ (more_parts p others i g b) =
    (subst PartBegins (view.roll-out-Part p) (by_form (view.out-Part p) (pieces_begin (inside (view.out-Part p)) i) g), pieces_begin others b)

-- ---- words
word_begins : (w : Wanted) → PartsBegin (parts_of w.parts) → RunBegins (run_word w)
unfolding run_word
word_begins w b = enters_begins (purpose.Word w.context) w.context (pieces (parts_of w.parts)) (pieces_begin (parts_of w.parts) b)

words_begin : (ws : List Wanted) → WantedBegin ws → RunBegins (run_words ws)
words_begin [] b s = tt
words_begin (w ∷ ws) b s = then_begins (run_word w s) (run_words ws) (word_begins w b.0 s) (words_begin ws b.1)

abbrev pub ResultBegins : expanding.Result → Type 0
ResultBegins (expanding.Need program env) = ItsItems program
ResultBegins (expanding.Fields fields env) = Unit {0}
ResultBegins (expanding.Stops fault env) = Unit {0}

pub result_begins : (files : FileMap) (o : Outcome) → OutcomeBegins o → ResultBegins (expanding.result_of files o)
result_begins files (Need program env) b = b
result_begins files (Done s) b = tt
result_begins files (Stops fault env) b = tt

pub expansion_begins : (ws : List Wanted) (env : Environment) (answers : List (List ℕ)) → WantedBegin ws → OutcomeBegins (expand ws env answers)
expansion_begins ws env answers b = words_begin ws b (start env answers)

-- ---- what is wanted of a simple command
abbrev OneBegins : Option Wanted → Type 0
OneBegins None = Unit {0}
OneBegins (Some w) = PartsBegin (parts_of w.parts)

before_begins : (o : Option Wanted) (ws : List Wanted) → OneBegins o → WantedBegin ws → WantedBegin (before o ws)
before_begins None ws f g = g
before_begins (Some w) ws f g = (f, g)

word_in_begins : (d : Bool) (z : Opened layer.SimpleItem-F) → PartsBegin (item_parts z) → OneBegins (option_map (argument_wanted d) (word_in z))
word_in_begins d (layer.Assignment name value source) b = tt
word_in_begins d (layer.Word word) b = b
word_in_begins d (layer.Redirect redirect) b = tt

pub target_begins : (z : Opened layer.Target-F) → PartsBegin (target_parts z) → PartsBegin (parts_of (target_wanted z).parts)
target_begins (layer.Named operator word) b = b
target_begins (layer.Here operator delimiter body) b = b

redirect_in_begins : (z : Opened layer.SimpleItem-F) → PartsBegin (item_parts z) → OneBegins (option_map redirect_wanted (redirect_in z))
redirect_in_begins (layer.Assignment name value source) b = tt
redirect_in_begins (layer.Word word) b = tt
redirect_in_begins (layer.Redirect redirect) b = target_begins (view.out-Target (view.out-Redirect redirect).target) b

words_wanted_begin : (d : Bool) (items : List SimpleItem) → WordsBegin items → WantedBegin (words_wanted d items)
words_wanted_begin d _ no_words = tt
words_wanted_begin d _ (more_words item others b r) =
    before_begins (option_map (argument_wanted d) (word_of item)) (words_wanted d others) (word_in_begins d (view.out-SimpleItem item) b) (words_wanted_begin d others r)

redirects_wanted_begin : (items : List SimpleItem) → WordsBegin items → WantedBegin (redirects_wanted items)
redirects_wanted_begin _ no_words = tt
redirects_wanted_begin _ (more_words item others b r) =
    before_begins (option_map redirect_wanted (redirect_of item)) (redirects_wanted others) (redirect_in_begins (view.out-SimpleItem item) b) (redirects_wanted_begin others r)

wanted_then : (ws vs : List Wanted) → WantedBegin ws → WantedBegin vs → WantedBegin (ws ++ vs)
wanted_then [] vs f g = g
wanted_then (w ∷ ws) vs f g = (f.0, wanted_then ws vs f.1 g)

pub wanted_begin : (items : List SimpleItem) → WordsBegin items → WantedBegin (wanted_of items)
unfolding wanted_of
wanted_begin items b = wanted_then (words_wanted (declares items) items) (redirects_wanted items) (words_wanted_begin (declares items) items b) (redirects_wanted_begin items b)
