-- The tokens of each form, by those of its parts.
use Rattle.std.proofs.Common.{◌≡◌, sym, ap, ◌∙◌, ℕ, Bool, List, [], ◌∷◌, ◌++◌, Some, None}
use Rattle.std.specs.Prelude.{codes}
use Rattle.std.specs.List.{flat_map}
use Rattle.std.proofs.lemmas.List.Folds.{flat_map-map}
use Rattle.sh_syntax.specs.Tokens.{Spelled}
use Rattle.sh_syntax.specs.Spelling.{operator_spelling, here_spelling, loop_spelling, connector_spelling, separator_spelling, number_tokens, case_end_tokens, optional, sign}
use Rattle.sh_syntax.specs.Text.{and_or_tokens, case_item_tokens, command_tokens, compound_list_tokens, compound_tokens, form_tokens, connected_tokens, else_if_tokens, list_item_tokens, pipeline_tokens, redirect_tokens, item_tokens, target_tokens, word_tokens}
use Rattle.sh_syntax.specs.Forms.{Tokens, behind_bar, and_or_step, case_item_step, command_step, compound_list_step, compound_step, connected_step, else_if_step, form_step, item_step, list_item_step, part_step, parts_step, pipeline_step, redirect_step, target_step, word_step}
use Rattle.sh_syntax.specs.declared.tree.AndOr.{AndOr}
use Rattle.sh_syntax.specs.declared.tree.CaseItem.{CaseItem}
use Rattle.sh_syntax.specs.declared.tree.CompoundList.{CompoundList}
use Rattle.sh_syntax.specs.declared.tree.Compound.{Compound}
use Rattle.sh_syntax.specs.declared.tree.Connected.{Connected}
use Rattle.sh_syntax.specs.declared.tree.ElseIf.{ElseIf}
use Rattle.sh_syntax.specs.declared.tree.ListItem.{ListItem}
use Rattle.sh_syntax.specs.declared.tree.Pipeline.{Pipeline}
use Rattle.sh_syntax.specs.declared.tree.Redirect.{Redirect}
use Rattle.sh_syntax.specs.declared.tree.SimpleItem.{SimpleItem}
use Rattle.sh_syntax.specs.declared.tree.Word.{Word}
use Rattle.sh_syntax.specs.declared.tree.Parts.{Parts}
use Rattle.sh_syntax.specs.declared.tree.RedirectOperator.{RedirectOperator}
use Rattle.sh_syntax.specs.declared.tree.HereDocumentOperator.{HereDocumentOperator}
use Rattle.sh_syntax.specs.declared.tree.LoopKind.{LoopKind}
use Rattle.sh_syntax.specs.declared.tree.Name.{Name}
use Rattle.sh_syntax.specs.declared.tree.Command.TheVariants as command
use Rattle.sh_syntax.specs.declared.tree.CompoundForm.TheVariants as form
use Rattle.sh_syntax.specs.declared.tree.SimpleItem.TheVariants as item
use Rattle.sh_syntax.specs.declared.tree.Target.TheVariants as target
use Rattle.sh_syntax.specs.declared.tree.Command.TheOpen as layer
use Rattle.sh_syntax.specs.declared.tree.Command.TheViews as view
use Rattle.sh_syntax.specs.declared.tree.Command.TheFolds as folds

pub word_is : (x : Word) → word_tokens x ≡ Spelled (view.out-Word x).source ∷ []
unfolding word_tokens
word_is x = folds.fold_out-Word
    Tokens Tokens Tokens Tokens Tokens Tokens Tokens Tokens Tokens Tokens Tokens Tokens Tokens Tokens Tokens Tokens
    command_step form_step part_step item_step target_step and_or_step case_item_step compound_step compound_list_step connected_step else_if_step list_item_step parts_step pipeline_step redirect_step word_step
    x

pub redirect_is : (x : Redirect) → redirect_tokens x ≡ number_tokens (view.out-Redirect x).number ++ target_tokens (view.out-Redirect x).target
unfolding redirect_tokens target_tokens
redirect_is x = folds.fold_out-Redirect
    Tokens Tokens Tokens Tokens Tokens Tokens Tokens Tokens Tokens Tokens Tokens Tokens Tokens Tokens Tokens Tokens
    command_step form_step part_step item_step target_step and_or_step case_item_step compound_step compound_list_step connected_step else_if_step list_item_step parts_step pipeline_step redirect_step word_step
    x

pub compound_list_is : (x : CompoundList) → compound_list_tokens x ≡ flat_map list_item_tokens (view.out-CompoundList x).items
unfolding compound_list_tokens list_item_tokens
compound_list_is x = folds.fold_out-CompoundList
    Tokens Tokens Tokens Tokens Tokens Tokens Tokens Tokens Tokens Tokens Tokens Tokens Tokens Tokens Tokens Tokens
    command_step form_step part_step item_step target_step and_or_step case_item_step compound_step compound_list_step connected_step else_if_step list_item_step parts_step pipeline_step redirect_step word_step
    x
    ∙ flat_map-map (λ t. t) list_item_tokens (view.out-CompoundList x).items

pub and_or_is : (x : AndOr) → and_or_tokens x ≡ pipeline_tokens (view.out-AndOr x).first ++ flat_map connected_tokens (view.out-AndOr x).rest
unfolding and_or_tokens pipeline_tokens connected_tokens
and_or_is x = folds.fold_out-AndOr
    Tokens Tokens Tokens Tokens Tokens Tokens Tokens Tokens Tokens Tokens Tokens Tokens Tokens Tokens Tokens Tokens
    command_step form_step part_step item_step target_step and_or_step case_item_step compound_step compound_list_step connected_step else_if_step list_item_step parts_step pipeline_step redirect_step word_step
    x
    ∙ ap (λ rest. pipeline_tokens (view.out-AndOr x).first ++ rest)
    (flat_map-map (λ t. t) connected_tokens (view.out-AndOr x).rest)

pub connected_is : (x : Connected) → connected_tokens x ≡ sign (connector_spelling (view.out-Connected x).connector) ++ pipeline_tokens (view.out-Connected x).pipeline
unfolding connected_tokens pipeline_tokens
connected_is x = folds.fold_out-Connected
    Tokens Tokens Tokens Tokens Tokens Tokens Tokens Tokens Tokens Tokens Tokens Tokens Tokens Tokens Tokens Tokens
    command_step form_step part_step item_step target_step and_or_step case_item_step compound_step compound_list_step connected_step else_if_step list_item_step parts_step pipeline_step redirect_step word_step
    x

pub list_item_is : (x : ListItem) → list_item_tokens x ≡ and_or_tokens (view.out-ListItem x).list ++ sign (separator_spelling (view.out-ListItem x).separator)
unfolding list_item_tokens and_or_tokens
list_item_is x = folds.fold_out-ListItem
    Tokens Tokens Tokens Tokens Tokens Tokens Tokens Tokens Tokens Tokens Tokens Tokens Tokens Tokens Tokens Tokens
    command_step form_step part_step item_step target_step and_or_step case_item_step compound_step compound_list_step connected_step else_if_step list_item_step parts_step pipeline_step redirect_step word_step
    x

pub else_if_is : (x : ElseIf) → else_if_tokens x ≡ sign (codes "elif") ++ compound_list_tokens (view.out-ElseIf x).condition ++ sign (codes "then") ++ compound_list_tokens (view.out-ElseIf x).body
unfolding else_if_tokens compound_list_tokens
else_if_is x = folds.fold_out-ElseIf
    Tokens Tokens Tokens Tokens Tokens Tokens Tokens Tokens Tokens Tokens Tokens Tokens Tokens Tokens Tokens Tokens
    command_step form_step part_step item_step target_step and_or_step case_item_step compound_step compound_list_step connected_step else_if_step list_item_step parts_step pipeline_step redirect_step word_step
    x

pub compound_is : (x : Compound) → compound_tokens x ≡ form_tokens (view.out-Compound x).form ++ flat_map redirect_tokens (view.out-Compound x).redirects
unfolding compound_tokens form_tokens redirect_tokens
compound_is x = folds.fold_out-Compound
    Tokens Tokens Tokens Tokens Tokens Tokens Tokens Tokens Tokens Tokens Tokens Tokens Tokens Tokens Tokens Tokens
    command_step form_step part_step item_step target_step and_or_step case_item_step compound_step compound_list_step connected_step else_if_step list_item_step parts_step pipeline_step redirect_step word_step
    x
    ∙ ap (λ rest. form_tokens (view.out-Compound x).form ++ rest)
    (flat_map-map (λ t. t) redirect_tokens (view.out-Compound x).redirects)

pub pipeline_is : (x : Pipeline) → pipeline_tokens x ≡ optional (view.out-Pipeline x).is_negated (codes "!") ++ command_tokens (view.out-Pipeline x).first ++ flat_map (λ c. behind_bar (command_tokens c)) (view.out-Pipeline x).rest
unfolding pipeline_tokens command_tokens
pipeline_is x = folds.fold_out-Pipeline
    Tokens Tokens Tokens Tokens Tokens Tokens Tokens Tokens Tokens Tokens Tokens Tokens Tokens Tokens Tokens Tokens
    command_step form_step part_step item_step target_step and_or_step case_item_step compound_step compound_list_step connected_step else_if_step list_item_step parts_step pipeline_step redirect_step word_step
    x
    ∙ ap (λ rest. optional (view.out-Pipeline x).is_negated (codes "!") ++ command_tokens (view.out-Pipeline x).first ++ rest)
    (flat_map-map behind_bar _ (view.out-Pipeline x).rest)

pub case_item_is : (x : CaseItem) → case_item_tokens x ≡ optional (view.out-CaseItem x).has_parenthesis (codes "(") ++ word_tokens (view.out-CaseItem x).pattern ++ flat_map (λ w. behind_bar (word_tokens w)) (view.out-CaseItem x).more_patterns ++ sign (codes ")") ++ compound_list_tokens (view.out-CaseItem x).body ++ case_end_tokens (view.out-CaseItem x).end
unfolding case_item_tokens word_tokens compound_list_tokens
case_item_is x = folds.fold_out-CaseItem
    Tokens Tokens Tokens Tokens Tokens Tokens Tokens Tokens Tokens Tokens Tokens Tokens Tokens Tokens Tokens Tokens
    command_step form_step part_step item_step target_step and_or_step case_item_step compound_step compound_list_step connected_step else_if_step list_item_step parts_step pipeline_step redirect_step word_step
    x
    ∙ ap (λ others. optional (view.out-CaseItem x).has_parenthesis (codes "(") ++ word_tokens (view.out-CaseItem x).pattern ++ others ++ sign (codes ")")
    ++ compound_list_tokens (view.out-CaseItem x).body ++ case_end_tokens (view.out-CaseItem x).end)
    (flat_map-map behind_bar word_tokens (view.out-CaseItem x).more_patterns)

pub named_is : (operator : RedirectOperator) (word : Word) → target_tokens (target.Named operator word) ≡ sign (operator_spelling operator) ++ word_tokens word
unfolding target_tokens word_tokens
named_is operator word = ap target_tokens (sym (target.rolls-Named operator word))
    ∙ folds.fold-roll-Target
    Tokens Tokens Tokens Tokens Tokens Tokens Tokens Tokens Tokens Tokens Tokens Tokens Tokens Tokens Tokens Tokens
    command_step form_step part_step item_step target_step and_or_step case_item_step compound_step compound_list_step connected_step else_if_step list_item_step parts_step pipeline_step redirect_step word_step
    (layer.Named operator word)

pub here_is : (operator : HereDocumentOperator) (delimiter : Word) (body : Parts) → target_tokens (target.Here operator delimiter body) ≡ sign (here_spelling operator) ++ word_tokens delimiter
unfolding target_tokens word_tokens
here_is operator delimiter body = ap target_tokens (sym (target.rolls-Here operator delimiter body))
    ∙ folds.fold-roll-Target
    Tokens Tokens Tokens Tokens Tokens Tokens Tokens Tokens Tokens Tokens Tokens Tokens Tokens Tokens Tokens Tokens
    command_step form_step part_step item_step target_step and_or_step case_item_step compound_step compound_list_step connected_step else_if_step list_item_step parts_step pipeline_step redirect_step word_step
    (layer.Here operator delimiter body)

pub assignment_is : (name : List ℕ) (value : Parts) (source : List ℕ) → item_tokens (item.Assignment name value source) ≡ Spelled source ∷ []
unfolding item_tokens
assignment_is name value source = ap item_tokens (sym (item.rolls-Assignment name value source))
    ∙ folds.fold-roll-SimpleItem
    Tokens Tokens Tokens Tokens Tokens Tokens Tokens Tokens Tokens Tokens Tokens Tokens Tokens Tokens Tokens Tokens
    command_step form_step part_step item_step target_step and_or_step case_item_step compound_step compound_list_step connected_step else_if_step list_item_step parts_step pipeline_step redirect_step word_step
    (layer.Assignment name value source)

pub item-word_is : (word : Word) → item_tokens (item.Word word) ≡ word_tokens word
unfolding item_tokens word_tokens
item-word_is word = ap item_tokens (sym (item.rolls-Word word))
    ∙ folds.fold-roll-SimpleItem
    Tokens Tokens Tokens Tokens Tokens Tokens Tokens Tokens Tokens Tokens Tokens Tokens Tokens Tokens Tokens Tokens
    command_step form_step part_step item_step target_step and_or_step case_item_step compound_step compound_list_step connected_step else_if_step list_item_step parts_step pipeline_step redirect_step word_step
    (layer.Word word)

pub item-redirect_is : (redirect : Redirect) → item_tokens (item.Redirect redirect) ≡ redirect_tokens redirect
unfolding item_tokens redirect_tokens
item-redirect_is redirect = ap item_tokens (sym (item.rolls-Redirect redirect))
    ∙ folds.fold-roll-SimpleItem
    Tokens Tokens Tokens Tokens Tokens Tokens Tokens Tokens Tokens Tokens Tokens Tokens Tokens Tokens Tokens Tokens
    command_step form_step part_step item_step target_step and_or_step case_item_step compound_step compound_list_step connected_step else_if_step list_item_step parts_step pipeline_step redirect_step word_step
    (layer.Redirect redirect)

pub simple_is : (items : List SimpleItem) → command_tokens (command.Simple items) ≡ flat_map item_tokens items
unfolding command_tokens item_tokens
simple_is items = ap command_tokens (sym (command.rolls-Simple items))
    ∙ folds.fold-roll-Command
    Tokens Tokens Tokens Tokens Tokens Tokens Tokens Tokens Tokens Tokens Tokens Tokens Tokens Tokens Tokens Tokens
    command_step form_step part_step item_step target_step and_or_step case_item_step compound_step compound_list_step connected_step else_if_step list_item_step parts_step pipeline_step redirect_step word_step
    (layer.Simple items)
    ∙ flat_map-map (λ t. t) item_tokens items

pub command-compound_is : (compound : Compound) → command_tokens (command.Compound compound) ≡ compound_tokens compound
unfolding command_tokens compound_tokens
command-compound_is compound = ap command_tokens (sym (command.rolls-Compound compound))
    ∙ folds.fold-roll-Command
    Tokens Tokens Tokens Tokens Tokens Tokens Tokens Tokens Tokens Tokens Tokens Tokens Tokens Tokens Tokens Tokens
    command_step form_step part_step item_step target_step and_or_step case_item_step compound_step compound_list_step connected_step else_if_step list_item_step parts_step pipeline_step redirect_step word_step
    (layer.Compound compound)

pub function_is : (name : Name) (body : Compound) → command_tokens (command.Function name body) ≡ Spelled name.source ∷ (sign (codes "(") ++ sign (codes ")") ++ compound_tokens body)
unfolding command_tokens compound_tokens
function_is name body = ap command_tokens (sym (command.rolls-Function name body))
    ∙ folds.fold-roll-Command
    Tokens Tokens Tokens Tokens Tokens Tokens Tokens Tokens Tokens Tokens Tokens Tokens Tokens Tokens Tokens Tokens
    command_step form_step part_step item_step target_step and_or_step case_item_step compound_step compound_list_step connected_step else_if_step list_item_step parts_step pipeline_step redirect_step word_step
    (layer.Function name body)

pub group_is : (list : CompoundList) → form_tokens (form.Group list) ≡ sign (codes "{") ++ compound_list_tokens list ++ sign (codes "}")
unfolding form_tokens compound_list_tokens
group_is list = ap form_tokens (sym (form.rolls-Group list))
    ∙ folds.fold-roll-CompoundForm
    Tokens Tokens Tokens Tokens Tokens Tokens Tokens Tokens Tokens Tokens Tokens Tokens Tokens Tokens Tokens Tokens
    command_step form_step part_step item_step target_step and_or_step case_item_step compound_step compound_list_step connected_step else_if_step list_item_step parts_step pipeline_step redirect_step word_step
    (layer.Group list)

pub subshell_is : (list : CompoundList) → form_tokens (form.Subshell list) ≡ sign (codes "(") ++ compound_list_tokens list ++ sign (codes ")")
unfolding form_tokens compound_list_tokens
subshell_is list = ap form_tokens (sym (form.rolls-Subshell list))
    ∙ folds.fold-roll-CompoundForm
    Tokens Tokens Tokens Tokens Tokens Tokens Tokens Tokens Tokens Tokens Tokens Tokens Tokens Tokens Tokens Tokens
    command_step form_step part_step item_step target_step and_or_step case_item_step compound_step compound_list_step connected_step else_if_step list_item_step parts_step pipeline_step redirect_step word_step
    (layer.Subshell list)

pub loop_is : (kind : LoopKind) (condition : CompoundList) (body : CompoundList) → form_tokens (form.Loop kind condition body) ≡ sign (loop_spelling kind) ++ compound_list_tokens condition ++ sign (codes "do") ++ compound_list_tokens body ++ sign (codes "done")
unfolding form_tokens compound_list_tokens
loop_is kind condition body = ap form_tokens (sym (form.rolls-Loop kind condition body))
    ∙ folds.fold-roll-CompoundForm
    Tokens Tokens Tokens Tokens Tokens Tokens Tokens Tokens Tokens Tokens Tokens Tokens Tokens Tokens Tokens Tokens
    command_step form_step part_step item_step target_step and_or_step case_item_step compound_step compound_list_step connected_step else_if_step list_item_step parts_step pipeline_step redirect_step word_step
    (layer.Loop kind condition body)

pub for-parameters_is : (name : Name) (is_separated : Bool) (body : CompoundList) → form_tokens (form.ForParameters name is_separated body) ≡ sign (codes "for") ++ sign name.source ++ optional is_separated (codes ";") ++ sign (codes "do") ++ compound_list_tokens body ++ sign (codes "done")
unfolding form_tokens compound_list_tokens
for-parameters_is name is_separated body = ap form_tokens (sym (form.rolls-ForParameters name is_separated body))
    ∙ folds.fold-roll-CompoundForm
    Tokens Tokens Tokens Tokens Tokens Tokens Tokens Tokens Tokens Tokens Tokens Tokens Tokens Tokens Tokens Tokens
    command_step form_step part_step item_step target_step and_or_step case_item_step compound_step compound_list_step connected_step else_if_step list_item_step parts_step pipeline_step redirect_step word_step
    (layer.ForParameters name is_separated body)

pub for_is : (name : Name) (words : List Word) (body : CompoundList) → form_tokens (form.For name words body) ≡ sign (codes "for") ++ sign name.source ++ sign (codes "in") ++ flat_map word_tokens words ++ sign (codes ";") ++ sign (codes "do") ++ compound_list_tokens body ++ sign (codes "done")
unfolding form_tokens compound_list_tokens word_tokens
for_is name words body = ap form_tokens (sym (form.rolls-For name words body))
    ∙ folds.fold-roll-CompoundForm
    Tokens Tokens Tokens Tokens Tokens Tokens Tokens Tokens Tokens Tokens Tokens Tokens Tokens Tokens Tokens Tokens
    command_step form_step part_step item_step target_step and_or_step case_item_step compound_step compound_list_step connected_step else_if_step list_item_step parts_step pipeline_step redirect_step word_step
    (layer.For name words body)
    ∙ ap (λ shown. sign (codes "for") ++ sign name.source ++ sign (codes "in") ++ shown ++ sign (codes ";")
    ++ sign (codes "do") ++ compound_list_tokens body ++ sign (codes "done"))
    (flat_map-map (λ t. t) word_tokens words)

pub case_is : (word : Word) (items : List CaseItem) → form_tokens (form.Case word items) ≡ sign (codes "case") ++ word_tokens word ++ sign (codes "in") ++ flat_map case_item_tokens items ++ sign (codes "esac")
unfolding form_tokens word_tokens case_item_tokens
case_is word items = ap form_tokens (sym (form.rolls-Case word items))
    ∙ folds.fold-roll-CompoundForm
    Tokens Tokens Tokens Tokens Tokens Tokens Tokens Tokens Tokens Tokens Tokens Tokens Tokens Tokens Tokens Tokens
    command_step form_step part_step item_step target_step and_or_step case_item_step compound_step compound_list_step connected_step else_if_step list_item_step parts_step pipeline_step redirect_step word_step
    (layer.Case word items)
    ∙ ap (λ shown. sign (codes "case") ++ word_tokens word ++ sign (codes "in") ++ shown ++ sign (codes "esac"))
    (flat_map-map (λ t. t) case_item_tokens items)

pub if_is : (condition : CompoundList) (body : CompoundList) (else_ifs : List ElseIf) → form_tokens (form.If condition body else_ifs None) ≡ sign (codes "if") ++ compound_list_tokens condition ++ sign (codes "then") ++ compound_list_tokens body ++ flat_map else_if_tokens else_ifs ++ [] ++ sign (codes "fi")
unfolding form_tokens compound_list_tokens else_if_tokens
if_is condition body else_ifs = ap form_tokens (sym (form.rolls-If condition body else_ifs None))
    ∙ folds.fold-roll-CompoundForm
    Tokens Tokens Tokens Tokens Tokens Tokens Tokens Tokens Tokens Tokens Tokens Tokens Tokens Tokens Tokens Tokens
    command_step form_step part_step item_step target_step and_or_step case_item_step compound_step compound_list_step connected_step else_if_step list_item_step parts_step pipeline_step redirect_step word_step
    (layer.If condition body else_ifs None)
    ∙ ap (λ shown. sign (codes "if") ++ compound_list_tokens condition ++ sign (codes "then") ++ compound_list_tokens body ++ shown ++ [] ++ sign (codes "fi"))
    (flat_map-map (λ t. t) else_if_tokens else_ifs)

pub if-else_is : (condition : CompoundList) (body : CompoundList) (else_ifs : List ElseIf) (else_body : CompoundList) → form_tokens (form.If condition body else_ifs (Some else_body)) ≡ sign (codes "if") ++ compound_list_tokens condition ++ sign (codes "then") ++ compound_list_tokens body ++ flat_map else_if_tokens else_ifs ++ (sign (codes "else") ++ compound_list_tokens else_body) ++ sign (codes "fi")
unfolding form_tokens compound_list_tokens else_if_tokens
if-else_is condition body else_ifs else_body = ap form_tokens (sym (form.rolls-If condition body else_ifs (Some else_body)))
    ∙ folds.fold-roll-CompoundForm
    Tokens Tokens Tokens Tokens Tokens Tokens Tokens Tokens Tokens Tokens Tokens Tokens Tokens Tokens Tokens Tokens
    command_step form_step part_step item_step target_step and_or_step case_item_step compound_step compound_list_step connected_step else_if_step list_item_step parts_step pipeline_step redirect_step word_step
    (layer.If condition body else_ifs (Some else_body))
    ∙ ap (λ shown. sign (codes "if") ++ compound_list_tokens condition ++ sign (codes "then") ++ compound_list_tokens body ++ shown ++ (sign (codes "else") ++ compound_list_tokens else_body) ++ sign (codes "fi"))
    (flat_map-map (λ t. t) else_if_tokens else_ifs)
