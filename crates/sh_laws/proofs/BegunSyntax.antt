-- Syntax begins with an action if the syntax in it does.
use Rattle.std.proofs.Common.{ℕ, List, ◌∷◌, Option, Bool, sym, ap, ◌∙◌, subst}
use Rattle.sh_syntax.specs.declared.tree.AndOr.{AndOr}
use Rattle.sh_syntax.specs.declared.tree.Command.{Command}
use Rattle.sh_syntax.specs.declared.tree.Command.TheOpen as layer
use Rattle.sh_syntax.specs.declared.tree.Command.TheVariants as command
use Rattle.sh_syntax.specs.declared.tree.Command.TheViews as view
use Rattle.sh_syntax.specs.declared.tree.Compound.{Compound}
use Rattle.sh_syntax.specs.declared.tree.CompoundForm.{CompoundForm}
use Rattle.sh_syntax.specs.declared.tree.CompoundForm.TheVariants as form
use Rattle.sh_syntax.specs.declared.tree.CompoundList.{CompoundList}
use Rattle.sh_syntax.specs.declared.tree.Connected.{Connected}
use Rattle.sh_syntax.specs.declared.tree.Connector.{Connector}
use Rattle.sh_syntax.specs.declared.tree.CaseItem.{CaseItem}
use Rattle.sh_syntax.specs.declared.tree.ElseIf.{ElseIf}
use Rattle.sh_syntax.specs.declared.tree.HereDocumentOperator.{HereDocumentOperator}
use Rattle.sh_syntax.specs.declared.tree.ListItem.{ListItem}
use Rattle.sh_syntax.specs.declared.tree.LoopKind.{LoopKind}
use Rattle.sh_syntax.specs.declared.tree.Name.{Name}
use Rattle.sh_syntax.specs.declared.tree.Parts.{Parts}
use Rattle.sh_syntax.specs.declared.tree.Pipeline.{Pipeline}
use Rattle.sh_syntax.specs.declared.tree.Redirect.{Redirect}
use Rattle.sh_syntax.specs.declared.tree.RedirectOperator.{RedirectOperator}
use Rattle.sh_syntax.specs.declared.tree.Separator.{Separator}
use Rattle.sh_syntax.specs.declared.tree.SimpleItem.{SimpleItem}
use Rattle.sh_syntax.specs.declared.tree.SimpleItem.TheVariants as item
use Rattle.sh_syntax.specs.declared.tree.Target.{Target}
use Rattle.sh_syntax.specs.declared.tree.Target.TheVariants as target
use Rattle.sh_syntax.specs.declared.tree.Word.{Word}
use Rattle.sh_parse_actions.specs.Forms.{and_or, case_item, compound_list, compound, connected_pipeline, else_if, list_item, pipeline, redirect}
use Rattle.sh_parse_actions.specs.declared.value.ItemBody.{ItemBody}
use Rattle.sh_exec_parts.specs.Simple.{Opened}
use Rattle.sh_expand.specs.Parts.{parts_of}
use Rattle.sh_laws.specs.Beginnings.{AndOrBegins, CaseItemsBegin, CommandBegins, CommandsBegin, ConnectedBegin, ElseBegins, ElseIfsBegin, FormBegins, ItemsBegin, ListBegins, PartsBegin, PipelineBegins, RedirectsBegin, SeriesBegin, WordsBegin, begins_list, by_definition, by_form, by_words, in_case, in_for, in_for_parameters, in_group, in_if, in_loop, in_subshell, joined, more_case_items, more_connected, more_else_ifs, more_items, more_series, item_parts, parts_in_item, redirect_parts, staged, target_parts, word_parts}

-- ---- a form of syntax begins with an action where this of it does
abbrev pub BodyFits : Compound → Type 0
BodyFits x = FormBegins (view.out-Compound x).form × RedirectsBegin (view.out-Compound x).redirects

-- the list of an item of a `case`, or of a command substitution, of which there may be no commands
abbrev pub ProgramFits : CompoundList → Type 0
ProgramFits x = ItemsBegin (view.out-CompoundList x).items

abbrev pub PartsFit : Parts → Type 0
PartsFit x = PartsBegin (parts_of x)

abbrev pub WordFits : Word → Type 0
WordFits x = PartsBegin (word_parts x)

abbrev pub ItemFits : SimpleItem → Type 0
ItemFits x = PartsBegin (parts_in_item x)

abbrev pub TargetFits : Target → Type 0
TargetFits x = PartsBegin (target_parts (view.out-Target x))

abbrev pub RedirectFits : Redirect → Type 0
RedirectFits x = PartsBegin (redirect_parts x)

-- ---- lists
pub list_fits : (first : ListItem) (others : List ListItem) → ItemsBegin (first ∷ others) → ListBegins (compound_list (first ∷ others))
list_fits first others f =
    let is = ap (λ (z : Opened layer.CompoundList-F). z.items) (view.out-roll-CompoundList (record { items = first ∷ others })) in
    begins_list (compound_list (first ∷ others)) first others is f

pub whole_fits : (items : List ListItem) → ItemsBegin items → ProgramFits (compound_list items)
whole_fits items f =
    let is = ap (λ (z : Opened layer.CompoundList-F). z.items) (view.out-roll-CompoundList (record { items = items })) in
    subst ItemsBegin (sym is) f

pub items_fit : (list : AndOr) (separator : Separator) (others : List ListItem) → AndOrBegins list → ItemsBegin others → ItemsBegin (list_item list separator ∷ others)
items_fit list separator others f g =
    let is = ap (λ (z : Opened layer.ListItem-F). z.list) (view.out-roll-ListItem (record { list = list; separator = separator })) in
    more_items (list_item list separator) others (subst AndOrBegins (sym is) f) g

pub and_or_fits : (first : Pipeline) (rest : List Connected) → PipelineBegins first → ConnectedBegin rest → AndOrBegins (and_or first rest)
and_or_fits first rest f g =
    let is = view.out-roll-AndOr (record { first = first; rest = rest }) in
    joined (and_or first rest) (subst (λ (z : Opened layer.AndOr-F). PipelineBegins z.first) (sym is) f) (subst (λ (z : Opened layer.AndOr-F). ConnectedBegin z.rest) (sym is) g)

pub connected_fit : (connector : Connector) (next : Pipeline) (others : List Connected) → PipelineBegins next → ConnectedBegin others → ConnectedBegin (connected_pipeline connector next ∷ others)
connected_fit connector next others f g =
    let is = view.out-roll-Connected (record { connector = connector; pipeline = next }) in
    more_connected (connected_pipeline connector next) others (subst (λ (z : Opened layer.Connected-F). PipelineBegins z.pipeline) (sym is) f) g

-- ---- pipelines
pub pipeline_fits : (is_negated : Bool) (first : Command) (rest : List Command) → CommandBegins first → CommandsBegin rest → PipelineBegins (pipeline is_negated first rest)
pipeline_fits is_negated first rest f g =
    let is = view.out-roll-Pipeline (record { is_negated = is_negated; first = first; rest = rest }) in
    staged (pipeline is_negated first rest) (subst (λ (z : Opened layer.Pipeline-F). CommandBegins z.first) (sym is) f) (subst (λ (z : Opened layer.Pipeline-F). CommandsBegin z.rest) (sym is) g)

-- ---- commands
pub simple_fits : (items : List SimpleItem) → WordsBegin items → CommandBegins (command.Simple items)
simple_fits items f = by_words (command.Simple items) items (ap view.out-Command (sym (command.rolls-Simple items)) ∙ view.out-roll-Command (layer.Simple items)) f

pub body_fits : (x : CompoundForm) (redirects : List Redirect) → FormBegins x → RedirectsBegin redirects → BodyFits (compound x redirects)
body_fits x redirects f g =
    let is = view.out-roll-Compound (record { form = x; redirects = redirects }) in
    (subst (λ (z : Opened layer.Compound-F). FormBegins z.form) (sym is) f, subst (λ (z : Opened layer.Compound-F). RedirectsBegin z.redirects) (sym is) g)

pub compound_fits : (x : CompoundForm) (redirects : List Redirect) → FormBegins x → RedirectsBegin redirects → CommandBegins (command.Compound (compound x redirects))
compound_fits x redirects f g =
    let c = compound x redirects in
    let begins = body_fits x redirects f g in
    by_form (command.Compound c) c (ap view.out-Command (sym (command.rolls-Compound c)) ∙ view.out-roll-Command (layer.Compound c)) begins.0 begins.1

pub function_fits : (name : Name) (body : Compound) → BodyFits body → CommandBegins (command.Function name body)
function_fits name body f =
    by_definition (command.Function name body) name body (ap view.out-Command (sym (command.rolls-Function name body)) ∙ view.out-roll-Command (layer.Function name body)) f.0 f.1

-- ---- compound commands
pub group_fits : (body : CompoundList) → ListBegins body → FormBegins (form.Group body)
group_fits body f = in_group (form.Group body) body (ap view.out-CompoundForm (sym (form.rolls-Group body)) ∙ view.out-roll-CompoundForm (layer.Group body)) f

pub subshell_fits : (body : CompoundList) → ListBegins body → FormBegins (form.Subshell body)
subshell_fits body f = in_subshell (form.Subshell body) body (ap view.out-CompoundForm (sym (form.rolls-Subshell body)) ∙ view.out-roll-CompoundForm (layer.Subshell body)) f

pub if_fits : (condition body : CompoundList) (else_ifs : List ElseIf) (else_body : Option CompoundList) → ListBegins condition → ListBegins body → ElseIfsBegin else_ifs → ElseBegins else_body
    → FormBegins (form.If condition body else_ifs else_body)
if_fits condition body else_ifs else_body f g i j =
    in_if (form.If condition body else_ifs else_body) condition body else_ifs else_body
    (ap view.out-CompoundForm (sym (form.rolls-If condition body else_ifs else_body)) ∙ view.out-roll-CompoundForm (layer.If condition body else_ifs else_body)) f g i j

pub loop_fits : (kind : LoopKind) (condition body : CompoundList) → ListBegins condition → ListBegins body → FormBegins (form.Loop kind condition body)
loop_fits kind condition body f g =
    in_loop (form.Loop kind condition body) kind condition body
    (ap view.out-CompoundForm (sym (form.rolls-Loop kind condition body)) ∙ view.out-roll-CompoundForm (layer.Loop kind condition body)) f g

pub for_fits : (name : Name) (words : List Word) (body : CompoundList) → SeriesBegin words → ListBegins body → FormBegins (form.For name words body)
for_fits name words body f g =
    in_for (form.For name words body) name words body (ap view.out-CompoundForm (sym (form.rolls-For name words body)) ∙ view.out-roll-CompoundForm (layer.For name words body)) f g

pub for_parameters_fits : (name : Name) (is_separated : Bool) (body : CompoundList) → ListBegins body → FormBegins (form.ForParameters name is_separated body)
for_parameters_fits name is_separated body f =
    in_for_parameters (form.ForParameters name is_separated body) name is_separated body
    (ap view.out-CompoundForm (sym (form.rolls-ForParameters name is_separated body)) ∙ view.out-roll-CompoundForm (layer.ForParameters name is_separated body)) f

pub case_fits : (word : Word) (items : List CaseItem) → WordFits word → CaseItemsBegin items → FormBegins (form.Case word items)
case_fits word items f g =
    in_case (form.Case word items) word items (ap view.out-CompoundForm (sym (form.rolls-Case word items)) ∙ view.out-roll-CompoundForm (layer.Case word items)) f g

pub case_items_fit : (has_parenthesis : Bool) (pattern : Word) (more : List Word) (behind : ItemBody) (others : List CaseItem) → WordFits pattern → SeriesBegin more
    → ProgramFits behind.body → CaseItemsBegin others → CaseItemsBegin (case_item has_parenthesis pattern more behind ∷ others)
case_items_fit has_parenthesis pattern more behind others f g i j =
    let x = case_item has_parenthesis pattern more behind in
    let is = view.out-roll-CaseItem (record { has_parenthesis = has_parenthesis; pattern = pattern; more_patterns = more; body = behind.body; end = behind.end.end }) in
    more_case_items x others
    (more_series (view.out-CaseItem x).pattern (view.out-CaseItem x).more_patterns
    (subst (λ (z : Opened layer.CaseItem-F). WordFits z.pattern) (sym is) f) (subst (λ (z : Opened layer.CaseItem-F). SeriesBegin z.more_patterns) (sym is) g))
    (subst (λ (z : Opened layer.CaseItem-F). ProgramFits z.body) (sym is) i) j

pub else_ifs_fit : (condition body : CompoundList) (others : List ElseIf) → ListBegins condition → ListBegins body → ElseIfsBegin others → ElseIfsBegin (else_if condition body ∷ others)
else_ifs_fit condition body others f g i =
    let is = view.out-roll-ElseIf (record { condition = condition; body = body }) in
    more_else_ifs (else_if condition body) others
    (subst (λ (z : Opened layer.ElseIf-F). ListBegins z.condition) (sym is) f) (subst (λ (z : Opened layer.ElseIf-F). ListBegins z.body) (sym is) g) i

-- ---- words
pub word_fits : (parts : Parts) (source : List ℕ) → PartsFit parts → WordFits (view.roll-Word (record { parts = parts; source = source }))
word_fits parts source f = subst (λ (z : Opened layer.Word-F). PartsFit z.parts) (sym (view.out-roll-Word (record { parts = parts; source = source }))) f

pub item_word_fits : (word : Word) → WordFits word → ItemFits (item.Word word)
item_word_fits word f =
    subst (λ (z : Opened layer.SimpleItem-F). PartsBegin (item_parts z)) (sym (ap view.out-SimpleItem (sym (item.rolls-Word word)) ∙ view.out-roll-SimpleItem (layer.Word word))) f

pub assignment_fits : (name : List ℕ) (value : Parts) (source : List ℕ) → PartsFit value → ItemFits (item.Assignment name value source)
assignment_fits name value source f =
    subst (λ (z : Opened layer.SimpleItem-F). PartsBegin (item_parts z))
    (sym (ap view.out-SimpleItem (sym (item.rolls-Assignment name value source)) ∙ view.out-roll-SimpleItem (layer.Assignment name value source))) f

pub item_redirect_fits : (r : Redirect) → RedirectFits r → ItemFits (item.Redirect r)
item_redirect_fits r f =
    subst (λ (z : Opened layer.SimpleItem-F). PartsBegin (item_parts z)) (sym (ap view.out-SimpleItem (sym (item.rolls-Redirect r)) ∙ view.out-roll-SimpleItem (layer.Redirect r))) f

-- ---- redirections
pub named_fits : (operator : RedirectOperator) (word : Word) → WordFits word → TargetFits (target.Named operator word)
named_fits operator word f =
    subst (λ (z : Opened layer.Target-F). PartsBegin (target_parts z)) (sym (ap view.out-Target (sym (target.rolls-Named operator word)) ∙ view.out-roll-Target (layer.Named operator word))) f

pub here_fits : (operator : HereDocumentOperator) (delimiter : Word) (body : Parts) → PartsFit body → TargetFits (target.Here operator delimiter body)
here_fits operator delimiter body f =
    subst (λ (z : Opened layer.Target-F). PartsBegin (target_parts z))
    (sym (ap view.out-Target (sym (target.rolls-Here operator delimiter body)) ∙ view.out-roll-Target (layer.Here operator delimiter body))) f

pub redirect_fits : (number : Option (List ℕ)) (to : Target) → TargetFits to → RedirectFits (redirect number to)
redirect_fits number to f = subst (λ (z : Opened layer.Redirect-F). TargetFits z.target) (sym (view.out-roll-Redirect (record { number = number; target = to }))) f
