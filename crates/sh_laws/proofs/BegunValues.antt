-- What productions make begins with an action if what they are given does.
use Rattle.std.proofs.Common.{ℕ, zero, suc, List, [], ◌∷◌, Option, Some, None, Bool, true, false, option_map}
use Rattle.std.specs.Option.{option_and_then, option_zip}
use Rattle.std.specs.Prelude.{take, drop, slice_get}
use Rattle.sh_grammar.specs.Grammar.{Tree, Forest, Leaf as Last, Node, Empty, And}
use Rattle.sh_parse_actions.specs.Actions.{list_items, made_for, made_named, made_of_one, made_of_three, made_of_two, made_one, made_redirect, made_simple, made_three, made_two, production_value}
use Rattle.sh_parse_actions.specs.Forms.{compound_list, list_item}
use Rattle.sh_parse_actions.specs.Values.{and_or_in, body_in, case_items_in, item_body_in, item_end_in, loop_in, number_in, patterns_in, redirects_in, command_in, commands_in, compound_list_in, else_in, form_in, item_in, items_in, leaf_assignment, leaf_in, leaf_target, leaf_word, list_in, name_in, parameters_in, pipeline_in, pipelines_in, redirect_in, tail_in, target_in, values_in, word_in}
use Rattle.sh_parse_actions.specs.declared.kind.Binary.{Binary}
use Rattle.sh_parse_actions.specs.declared.kind.Binary.TheVariants as two
use Rattle.sh_parse_actions.specs.declared.kind.Item.{Item}
use Rattle.sh_parse_actions.specs.declared.kind.Item.TheVariants as kind
use Rattle.sh_parse_actions.specs.declared.kind.Kind.{Kind}
use Rattle.sh_parse_actions.specs.declared.kind.Kind.TheVariants.{Nothing, One, Two, Three}
use Rattle.sh_parse_actions.specs.declared.kind.Ternary.{Ternary}
use Rattle.sh_parse_actions.specs.declared.kind.Ternary.TheVariants as three
use Rattle.sh_parse_actions.specs.declared.kind.Unary.{Unary}
use Rattle.sh_parse_actions.specs.declared.kind.Unary.TheVariants as one
use Rattle.sh_parse_actions.specs.declared.leaf.Leaf.{Leaf}
use Rattle.sh_parse_actions.specs.declared.leaf.Leaf.TheVariants as leaf
use Rattle.sh_parse_actions.specs.declared.value.ElsePart.{ElsePart}
use Rattle.sh_parse_actions.specs.declared.value.ItemBody.{ItemBody}
use Rattle.sh_parse_actions.specs.declared.value.ItemEnd.{ItemEnd}
use Rattle.sh_parse_actions.specs.declared.value.Parameters.{Parameters}
use Rattle.sh_parse_actions.specs.declared.value.Tail.{Tail}
use Rattle.sh_parse_actions.specs.declared.value.Value.{Value}
use Rattle.sh_parse_actions.specs.declared.value.Value.TheVariants as value
use Rattle.sh_parse_actions.specs.declared.value.Values.{Values}
use Rattle.sh_parse_words.specs.Meaning.{kept_by, kept_values, no_values, only, syntax_of, value_made, value_of, values_of, whole_list, width}
use Rattle.sh_parse_words.specs.Productions.{kinds}
use Rattle.sh_syntax.specs.declared.tree.Command.TheViews as view
use Rattle.sh_syntax.specs.declared.tree.Compound.{Compound}
use Rattle.sh_syntax.specs.declared.tree.Name.{Name}
use Rattle.sh_syntax.specs.declared.tree.Word.{Word}
use Rattle.sh_laws.specs.Beginnings.{AndOrBegins, CaseItemsBegin, CommandBegins, CommandsBegin, ConnectedBegin, ElseBegins, ElseIfsBegin, FormBegins, ItemsBegin, ListBegins, PipelineBegins, RedirectsBegin, SeriesBegin, WordsBegin, more_commands, more_redirects, more_series, more_words, no_case_items, no_commands, no_else, no_else_ifs, no_items, no_more, no_redirects, no_series, no_words, with_else}
use Rattle.sh_laws.proofs.BegunSyntax.{BodyFits, ItemFits, PartsFit, ProgramFits, RedirectFits, TargetFits, WordFits, and_or_fits, assignment_fits, body_fits, case_fits, case_items_fit, compound_fits, connected_fit, else_ifs_fit, for_fits, for_parameters_fits, function_fits, group_fits, here_fits, if_fits, item_redirect_fits, item_word_fits, items_fit, list_fits, loop_fits, named_fits, pipeline_fits, redirect_fits, simple_fits, subshell_fits, whole_fits}

-- ---- of what is there
abbrev pub Where : {A : Type 0} → (A → Type 0) → Option A → Type 0
Where P None = Unit {0}
Where P (Some x) = P x

mapped : {A B : Type 0} (P : A → Type 0) (Q : B → Type 0) (f : A → B) (o : Option A) → ((x : A) → P x → Q (f x)) → Where P o → Where Q (option_map f o)
mapped P Q f None g h = tt
mapped P Q f (Some x) g h = g x h

chained : {A B : Type 0} (P : A → Type 0) (Q : B → Type 0) (f : A → Option B) (o : Option A) → ((x : A) → P x → Where Q (f x)) → Where P o → Where Q (option_and_then f o)
chained P Q f None g h = tt
chained P Q f (Some x) g h = g x h

zipped : {A B : Type 0} (P : A → Type 0) (Q : B → Type 0) (o : Option A) (p : Option B) → Where P o → Where Q p → Where (λ (z : A × B). P z.0 × Q z.1) (option_zip o p)
zipped P Q None p f g = tt
zipped P Q (Some x) None f g = tt
zipped P Q (Some x) (Some y) f g = (f, g)

second : {A B : Type 0} (Q : B → Type 0) (o : Option A) (p : Option B) → Where Q p → Where (λ (z : A × B). Q z.1) (option_zip o p)
second Q None p g = tt
second Q (Some x) None g = tt
second Q (Some x) (Some y) g = g

abbrev Any : {A : Type 0} → A → Type 0
Any x = Unit {0}

any : {A : Type 0} (o : Option A) → Where Any o
any None = tt
any (Some x) = tt

-- ---- leaves
abbrev pub LeafFits : Leaf → Type 0
LeafFits leaf.Operator = Unit {0}
LeafFits (leaf.Redirection operator) = Unit {0}
LeafFits (leaf.HereDocument operator body) = PartsFit body
LeafFits (leaf.Number digits) = Unit {0}
LeafFits (leaf.Word word) = WordFits word
LeafFits (leaf.Name word name) = WordFits word
LeafFits (leaf.Assignment word name parts) = WordFits word × PartsFit parts

abbrev pub LeavesFit : List Leaf → Type 0
LeavesFit [] = Unit {0}
LeavesFit (l ∷ ls) = LeafFits l × LeavesFit ls

leaf_word_fits : (l : Leaf) → LeafFits l → Where WordFits (leaf_word l)
leaf_word_fits (leaf.Word word) f = f
leaf_word_fits (leaf.Name word name) f = f
leaf_word_fits (leaf.Assignment word name parts) f = f.0
leaf_word_fits l f = tt

leaf_target_fits : (word : Word) (l : Leaf) → WordFits word → LeafFits l → Where TargetFits (leaf_target word l)
leaf_target_fits word (leaf.Redirection operator) w f = named_fits operator word w
leaf_target_fits word (leaf.HereDocument operator body) w f = here_fits operator word body f
leaf_target_fits word l w f = tt

leaf_assignment_fits : (l : Leaf) → LeafFits l → Where ItemFits (leaf_assignment l)
leaf_assignment_fits (leaf.Assignment word name parts) f = assignment_fits name parts (view.out-Word word).source f.1
leaf_assignment_fits l f = tt

-- ---- values
abbrev pub TailFits : Tail → Type 0
TailFits tail = ItemsBegin tail.items

abbrev pub ElsePartFits : ElsePart → Type 0
ElsePartFits part = ElseIfsBegin part.else_ifs × ElseBegins part.else_body

abbrev pub ValuesFit : Values → Type 0
ValuesFit values = SeriesBegin values.words × ListBegins values.body

abbrev pub ParametersFit : Parameters → Type 0
ParametersFit parameters = ListBegins parameters.body

abbrev pub ItemEndFits : ItemEnd → Type 0
ItemEndFits end = CaseItemsBegin end.items

abbrev pub ItemBodyFits : ItemBody → Type 0
ItemBodyFits behind = ProgramFits behind.body × ItemEndFits behind.end

abbrev pub ValueFits : Value → Type 0
ValueFits value.Nothing = Unit {0}
ValueFits (value.Token class l) = LeafFits l
ValueFits (value.Redirect x) = RedirectFits x
ValueFits (value.Redirects xs) = RedirectsBegin xs
ValueFits (value.Items xs) = WordsBegin xs
ValueFits (value.Body x) = BodyFits x
ValueFits (value.Command x) = CommandBegins x
ValueFits (value.Commands xs) = CommandsBegin xs
ValueFits (value.Pipeline x) = PipelineBegins x
ValueFits (value.Pipelines xs) = ConnectedBegin xs
ValueFits (value.AndOr x) = AndOrBegins x
ValueFits (value.Tail x) = TailFits x
ValueFits (value.List xs) = ItemsBegin xs
ValueFits (value.CompoundList x) = ListBegins x
ValueFits (value.Form x) = FormBegins x
ValueFits (value.Else x) = ElsePartFits x
ValueFits (value.Values x) = ValuesFit x
ValueFits (value.Parameters x) = ParametersFit x
ValueFits (value.Patterns xs) = SeriesBegin xs
ValueFits (value.CaseItems xs) = CaseItemsBegin xs
ValueFits (value.ItemEnd x) = ItemEndFits x
ValueFits (value.ItemBody x) = ItemBodyFits x

abbrev pub AllFit : List Value → Type 0
AllFit [] = Unit {0}
AllFit (v ∷ vs) = ValueFits v × AllFit vs

leaf_in_fits : (v : Value) → ValueFits v → Where LeafFits (leaf_in v)
unfolding leaf_in
leaf_in_fits (value.Token class l) f = f
leaf_in_fits v f = tt

word_in_fits : (v : Value) → ValueFits v → Where WordFits (word_in v)
unfolding word_in
word_in_fits v f = chained LeafFits WordFits leaf_word (leaf_in v) leaf_word_fits (leaf_in_fits v f)

target_in_fits : (v : Value) (word : Word) → ValueFits v → WordFits word → Where TargetFits (target_in v word)
unfolding target_in
target_in_fits v word f w = chained LeafFits TargetFits (leaf_target word) (leaf_in v) (λ l g. leaf_target_fits word l w g) (leaf_in_fits v f)

redirect_in_fits : (v : Value) → ValueFits v → Where RedirectFits (redirect_in v)
unfolding redirect_in
redirect_in_fits (value.Redirect x) f = f
redirect_in_fits v f = tt

item_in_fits : (k : Item) (v : Value) → ValueFits v → Where ItemFits (item_in k v)
unfolding item_in
item_in_fits kind.Word v f = mapped WordFits ItemFits _ (word_in v) item_word_fits (word_in_fits v f)
item_in_fits kind.Assignment v f = chained LeafFits ItemFits leaf_assignment (leaf_in v) leaf_assignment_fits (leaf_in_fits v f)
item_in_fits kind.Redirect v f = mapped RedirectFits ItemFits _ (redirect_in v) item_redirect_fits (redirect_in_fits v f)

command_in_fits : (v : Value) → ValueFits v → Where CommandBegins (command_in v)
unfolding command_in
command_in_fits (value.Command x) f = f
command_in_fits v f = tt

pipeline_in_fits : (v : Value) → ValueFits v → Where PipelineBegins (pipeline_in v)
unfolding pipeline_in
pipeline_in_fits (value.Pipeline x) f = f
pipeline_in_fits v f = tt

and_or_in_fits : (v : Value) → ValueFits v → Where AndOrBegins (and_or_in v)
unfolding and_or_in
and_or_in_fits (value.AndOr x) f = f
and_or_in_fits v f = tt

compound_list_in_fits : (v : Value) → ValueFits v → Where ListBegins (compound_list_in v)
unfolding compound_list_in
compound_list_in_fits (value.CompoundList x) f = f
compound_list_in_fits v f = tt

form_in_fits : (v : Value) → ValueFits v → Where FormBegins (form_in v)
unfolding form_in
form_in_fits (value.Form x) f = f
form_in_fits v f = tt

values_in_fits : (v : Value) → ValueFits v → Where ValuesFit (values_in v)
unfolding values_in
values_in_fits (value.Values x) f = f
values_in_fits v f = tt

parameters_in_fits : (v : Value) → ValueFits v → Where ParametersFit (parameters_in v)
unfolding parameters_in
parameters_in_fits (value.Parameters x) f = f
parameters_in_fits v f = tt

items_in_fits : (v : Value) → ValueFits v → Where WordsBegin (items_in v)
unfolding items_in
items_in_fits value.Nothing f = no_words
items_in_fits (value.Items xs) f = f
items_in_fits v f = tt

commands_in_fits : (v : Value) → ValueFits v → Where CommandsBegin (commands_in v)
unfolding commands_in
commands_in_fits value.Nothing f = no_commands
commands_in_fits (value.Commands xs) f = f
commands_in_fits v f = tt

pipelines_in_fits : (v : Value) → ValueFits v → Where ConnectedBegin (pipelines_in v)
unfolding pipelines_in
pipelines_in_fits value.Nothing f = no_more
pipelines_in_fits (value.Pipelines xs) f = f
pipelines_in_fits v f = tt

list_in_fits : (v : Value) → ValueFits v → Where ItemsBegin (list_in v)
unfolding list_in
list_in_fits value.Nothing f = no_items
list_in_fits (value.List xs) f = f
list_in_fits v f = tt

tail_in_fits : (v : Value) → ValueFits v → Where TailFits (tail_in v)
unfolding tail_in
tail_in_fits value.Nothing f = no_items
tail_in_fits (value.Tail x) f = f
tail_in_fits v f = tt

body_in_fits : (v : Value) → ValueFits v → Where BodyFits (body_in v)
unfolding body_in
body_in_fits (value.Body x) f = f
body_in_fits v f = tt

redirects_in_fits : (v : Value) → ValueFits v → Where RedirectsBegin (redirects_in v)
unfolding redirects_in
redirects_in_fits value.Nothing f = no_redirects
redirects_in_fits (value.Redirects xs) f = f
redirects_in_fits v f = tt

patterns_in_fits : (v : Value) → ValueFits v → Where SeriesBegin (patterns_in v)
unfolding patterns_in
patterns_in_fits value.Nothing f = no_series
patterns_in_fits (value.Patterns xs) f = f
patterns_in_fits v f = tt

case_items_in_fits : (v : Value) → ValueFits v → Where CaseItemsBegin (case_items_in v)
unfolding case_items_in
case_items_in_fits value.Nothing f = no_case_items
case_items_in_fits (value.CaseItems xs) f = f
case_items_in_fits v f = tt

item_end_in_fits : (v : Value) → ValueFits v → Where ItemEndFits (item_end_in v)
unfolding item_end_in
item_end_in_fits value.Nothing f = no_case_items
item_end_in_fits (value.ItemEnd x) f = f
item_end_in_fits v f = tt

item_body_in_fits : (v : Value) → ValueFits v → Where ItemBodyFits (item_body_in v)
unfolding item_body_in
item_body_in_fits (value.ItemBody x) f = f
item_body_in_fits v f = tt

else_in_fits : (v : Value) → ValueFits v → Where ElsePartFits (else_in v)
unfolding else_in
else_in_fits value.Nothing f = (no_else_ifs, no_else)
else_in_fits (value.Else x) f = f
else_in_fits v f = tt

-- ---- productions
paired : {A B : Type 0} (P : A → Type 0) (Q : B → Type 0) (f : A × B → Value) (o : Option A) (p : Option B) → ((x : A) (y : B) → P x → Q y → ValueFits (f (x, y)))
    → Where P o → Where Q p → Where ValueFits (option_map f (option_zip o p))
paired P Q f None p g h i = tt
paired P Q f (Some x) None g h i = tt
paired P Q f (Some x) (Some y) g h i = g x y h i

tripled : {A B C : Type 0} (P : A → Type 0) (Q : B → Type 0) (R : C → Type 0) (f : (A × B) × C → Value) (o : Option A) (p : Option B) (q : Option C)
    → ((x : A) (y : B) (z : C) → P x → Q y → R z → ValueFits (f ((x, y), z))) → Where P o → Where Q p → Where R q
    → Where ValueFits (option_map f (option_zip (option_zip o p) q))
tripled P Q R f None p q g h i j = tt
tripled P Q R f (Some x) None q g h i j = tt
tripled P Q R f (Some x) (Some y) None g h i j = tt
tripled P Q R f (Some x) (Some y) (Some z) g h i j = g x y z h i j

made_one_fits : (k : Unary) (a : Value) → ValueFits a → Where ValueFits (made_one k a)
made_one_fits one.Same a f = f
made_one_fits (one.Separated separator) a f = mapped ItemsBegin ValueFits _ (list_in a) (λ items g. g) (list_in_fits a f)
made_one_fits one.Else a f = mapped ListBegins ValueFits _ (compound_list_in a) (λ body g. (no_else_ifs, with_else body g)) (compound_list_in_fits a f)
made_one_fits (one.Parameters is_separated) a f = mapped ListBegins ValueFits _ (compound_list_in a) (λ body g. g) (compound_list_in_fits a f)
made_one_fits one.LastValue a f = mapped ListBegins ValueFits _ (compound_list_in a) (λ body g. (no_series, g)) (compound_list_in_fits a f)
made_one_fits one.Group a f = mapped ListBegins ValueFits _ (compound_list_in a) group_fits (compound_list_in_fits a f)
made_one_fits one.Subshell a f = mapped ListBegins ValueFits _ (compound_list_in a) subshell_fits (compound_list_in_fits a f)
made_one_fits one.EmptyItem a f = mapped ItemEndFits ValueFits _ (item_end_in a) (λ end g. (whole_fits [] no_items, g)) (item_end_in_fits a f)
made_one_fits one.Break a f = mapped CaseItemsBegin ValueFits _ (case_items_in a) (λ items g. g) (case_items_in_fits a f)

made_simple_fits : (k : Item) (a b : Value) → ValueFits a → ValueFits b → Where ValueFits (made_simple k a b)
made_simple_fits k a b f g =
    paired ItemFits WordsBegin _ (item_in k a) (items_in b) (λ x y h i. simple_fits (x ∷ y) (more_words x y h i)) (item_in_fits k a f) (items_in_fits b g)

made_named_fits : (body : Option Compound) (a b : Value) → Where BodyFits body → ValueFits a → ValueFits b → Where ValueFits (made_named body a b)
made_named_fits (Some body) a b i f g = mapped Any ValueFits _ (name_in a) (λ name h. function_fits name body i) (any (name_in a))
made_named_fits None a b i f g = made_simple_fits kind.Word a b f g

made_for_fits : (p : Option Parameters) (v : Option Values) (name : Name) → Where ParametersFit p → Where ValuesFit v → Where ValueFits (made_for p v name)
made_for_fits (Some p) v name f g = for_parameters_fits name p.is_separated p.body f
made_for_fits None v name f g = mapped ValuesFit ValueFits _ v (λ x h. for_fits name x.words x.body h.0 h.1) g

made_redirect_fits : (number : Option (List ℕ)) (operator : Value) (word : Word) → ValueFits operator → WordFits word → Where ValueFits (made_redirect number operator word)
made_redirect_fits number operator word f w = mapped TargetFits ValueFits _ (target_in operator word) (redirect_fits number) (target_in_fits operator word f w)

made_two_fits : (k : Binary) (a b : Value) → ValueFits a → ValueFits b → Where ValueFits (made_two k a b)
made_two_fits two.List a b f g =
    paired AndOrBegins TailFits _ (and_or_in a) (tail_in b) (λ x y h i. items_fit x y.separator y.items h i) (and_or_in_fits a f) (tail_in_fits b g)
made_two_fits two.CompoundList a b f g =
    paired AndOrBegins TailFits _ (and_or_in a) (tail_in b) (λ x y h i. list_fits (list_item x y.separator) y.items (items_fit x y.separator y.items h i)) (and_or_in_fits a f) (tail_in_fits b g)
made_two_fits two.AndOr a b f g = paired PipelineBegins ConnectedBegin _ (pipeline_in a) (pipelines_in b) and_or_fits (pipeline_in_fits a f) (pipelines_in_fits b g)
made_two_fits (two.Connected connector) a b f g =
    paired PipelineBegins ConnectedBegin _ (pipeline_in a) (pipelines_in b) (connected_fit connector) (pipeline_in_fits a f) (pipelines_in_fits b g)
made_two_fits (two.Pipeline is_negated) a b f g =
    paired CommandBegins CommandsBegin _ (command_in a) (commands_in b) (pipeline_fits is_negated) (command_in_fits a f) (commands_in_fits b g)
made_two_fits two.Piped a b f g = paired CommandBegins CommandsBegin _ (command_in a) (commands_in b) more_commands (command_in_fits a f) (commands_in_fits b g)
made_two_fits two.Compound a b f g = paired FormBegins RedirectsBegin _ (form_in a) (redirects_in b) compound_fits (form_in_fits a f) (redirects_in_fits b g)
made_two_fits two.Body a b f g = paired FormBegins RedirectsBegin _ (form_in a) (redirects_in b) body_fits (form_in_fits a f) (redirects_in_fits b g)
made_two_fits two.Named a b f g = made_named_fits (body_in b) a b (body_in_fits b g) f g
made_two_fits (two.Simple k) a b f g = made_simple_fits k a b f g
made_two_fits (two.Items k) a b f g = paired ItemFits WordsBegin _ (item_in k a) (items_in b) more_words (item_in_fits k a f) (items_in_fits b g)
made_two_fits two.Redirects a b f g = paired RedirectFits RedirectsBegin _ (redirect_in a) (redirects_in b) more_redirects (redirect_in_fits a f) (redirects_in_fits b g)
made_two_fits two.Redirect a b f g = chained WordFits ValueFits (made_redirect None a) (word_in b) (λ word w. made_redirect_fits None a word f w) (word_in_fits b g)
made_two_fits two.For a b f g =
    chained Any ValueFits (made_for (parameters_in b) (values_in b)) (name_in a) (λ name h. made_for_fits (parameters_in b) (values_in b) name (parameters_in_fits b g) (values_in_fits b g))
    (any (name_in a))
made_two_fits two.Value a b f g =
    paired WordFits ValuesFit _ (word_in a) (values_in b) (λ x y h i. (more_series x y.words h i.0, i.1)) (word_in_fits a f) (values_in_fits b g)
made_two_fits two.Case a b f g = paired WordFits CaseItemsBegin _ (word_in a) (case_items_in b) case_fits (word_in_fits a f) (case_items_in_fits b g)
made_two_fits two.Patterns a b f g = paired WordFits SeriesBegin _ (word_in a) (patterns_in b) more_series (word_in_fits a f) (patterns_in_fits b g)

made_three_fits : (k : Ternary) (a b c : Value) → ValueFits a → ValueFits b → ValueFits c → Where ValueFits (made_three k a b c)
made_three_fits three.Redirect a b c f g h =
    chained (λ (p : List ℕ × Word). WordFits p.1) ValueFits (λ p. made_redirect (Some p.0) b p.1) (option_zip (number_in a) (word_in c)) (λ p i. made_redirect_fits (Some p.0) b p.1 g i)
    (second WordFits (number_in a) (word_in c) (word_in_fits c h))
made_three_fits three.If a b c f g h =
    tripled ListBegins ListBegins ElsePartFits _ (compound_list_in a) (compound_list_in b) (else_in c) (λ x y z i j k. if_fits x y z.else_ifs z.else_body i j k.0 k.1)
    (compound_list_in_fits a f) (compound_list_in_fits b g) (else_in_fits c h)
made_three_fits three.ElseIf a b c f g h =
    tripled ListBegins ListBegins ElsePartFits _ (compound_list_in a) (compound_list_in b) (else_in c) (λ x y z i j k. (else_ifs_fit x y z.else_ifs i j k.0, k.1))
    (compound_list_in_fits a f) (compound_list_in_fits b g) (else_in_fits c h)
made_three_fits three.Loop a b c f g h =
    tripled Any ListBegins ListBegins _ (loop_in a) (compound_list_in b) (compound_list_in c) (λ x y z i j k. loop_fits x y z j k)
    (any (loop_in a)) (compound_list_in_fits b g) (compound_list_in_fits c h)
made_three_fits (three.CaseItem has_parenthesis) a b c f g h =
    tripled WordFits SeriesBegin ItemBodyFits _ (word_in a) (patterns_in b) (item_body_in c) (λ x y z i j k. case_items_fit has_parenthesis x y z z.end.items i j k.0 k.1)
    (word_in_fits a f) (patterns_in_fits b g) (item_body_in_fits c h)
made_three_fits three.ItemList a b c f g h =
    tripled AndOrBegins TailFits ItemEndFits _ (and_or_in a) (tail_in b) (item_end_in c) (λ x y z i j k. (whole_fits (list_items x y) (items_fit x y.separator y.items i j), k))
    (and_or_in_fits a f) (tail_in_fits b g) (item_end_in_fits c h)

of_one_fits : (k : Unary) (vs : List Value) → AllFit vs → Where ValueFits (made_of_one k vs)
of_one_fits k (a ∷ []) f = made_one_fits k a f.0
of_one_fits k vs f = tt

of_two_fits : (k : Binary) (vs : List Value) → AllFit vs → Where ValueFits (made_of_two k vs)
of_two_fits k (a ∷ b ∷ []) f = made_two_fits k a b f.0 f.1.0
of_two_fits k vs f = tt

of_three_fits : (k : Ternary) (vs : List Value) → AllFit vs → Where ValueFits (made_of_three k vs)
of_three_fits k (a ∷ b ∷ c ∷ []) f = made_three_fits k a b c f.0 f.1.0 f.1.1.0
of_three_fits k vs f = tt

production_fits : (k : Kind) (vs : List Value) → AllFit vs → Where ValueFits (production_value k vs)
production_fits Nothing vs f = tt
production_fits (One k) vs f = of_one_fits k vs f
production_fits (Two k) vs f = of_two_fits k vs f
production_fits (Three k) vs f = of_three_fits k vs f

-- ---- derivations
kept_fit : (kept : List Bool) (vs : List Value) → AllFit vs → AllFit (kept_values kept vs)
kept_fit [] vs f = tt
kept_fit (keeps ∷ kept) [] f = tt
kept_fit (true ∷ kept) (v ∷ vs) f = (f.0, kept_fit kept vs f.1)
kept_fit (false ∷ kept) (v ∷ vs) f = kept_fit kept vs f.1

value_made_fits : (p : ℕ) (vs : List Value) → AllFit vs → Where ValueFits (value_made p vs)
value_made_fits p vs f =
    chained Any ValueFits (λ k. production_value k (kept_values (kept_by p) vs)) (slice_get kinds p) (λ k h. production_fits k (kept_values (kept_by p) vs) (kept_fit (kept_by p) vs f)) (any (slice_get kinds p))

pub taken_fit : (n : ℕ) (ls : List Leaf) → LeavesFit ls → LeavesFit (take n ls)
taken_fit zero ls f = tt
taken_fit (suc n) [] f = tt
taken_fit (suc n) (l ∷ ls) f = (f.0, taken_fit n ls f.1)

pub dropped_fit : (n : ℕ) (ls : List Leaf) → LeavesFit ls → LeavesFit (drop n ls)
dropped_fit zero ls f = f
dropped_fit (suc n) [] f = tt
dropped_fit (suc n) (l ∷ ls) f = dropped_fit n ls f.1

only_fits : (ls : List Leaf) → LeavesFit ls → Where LeafFits (only ls)
only_fits [] f = tt
only_fits (l ∷ []) f = f.0
only_fits (l ∷ m ∷ ls) f = tt

no_values_fit : (ls : List Leaf) → Where AllFit (no_values ls)
no_values_fit [] = tt
no_values_fit (l ∷ ls) = tt

mutual
  value_fits : (x : Tree) (ls : List Leaf) → LeavesFit ls → Where ValueFits (value_of x ls)
  value_fits (Last t) ls f = mapped LeafFits ValueFits _ (only ls) (λ l g. g) (only_fits ls f)
  value_fits (Node p children) ls f = chained AllFit ValueFits (value_made p) (values_of children ls) (value_made_fits p) (values_fit children ls f)

  values_fit : (xs : Forest) (ls : List Leaf) → LeavesFit ls → Where AllFit (values_of xs ls)
  values_fit Empty ls f = no_values_fit ls
  values_fit (And x others) ls f =
      mapped (λ (p : Value × List Value). ValueFits p.0 × AllFit p.1) AllFit (λ p. p.0 ∷ p.1) (option_zip (value_of x (take (width x) ls)) (values_of others (drop (width x) ls))) (λ p g. g)
      (zipped ValueFits AllFit (value_of x (take (width x) ls)) (values_of others (drop (width x) ls))
      (value_fits x (take (width x) ls) (taken_fit (width x) ls f)) (values_fit others (drop (width x) ls) (dropped_fit (width x) ls f)))

-- the commands of a text, of which there may be none
pub syntax_fits : (x : Tree) (ls : List Leaf) → LeavesFit ls → Where ProgramFits (syntax_of x ls)
syntax_fits x ls f =
    chained ValueFits ProgramFits whole_list (value_of x ls) (λ v g. mapped ItemsBegin ProgramFits compound_list (list_in v) whole_fits (list_in_fits v g)) (value_fits x ls f)
