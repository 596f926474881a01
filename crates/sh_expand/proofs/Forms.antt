-- What each part does, and what it weighs, by its form.
use Rattle.std.proofs.Common.{◌≡◌, ℕ, ◌+◌, List, [], ◌∷◌, map, refl, sym, ap, ◌∙◌}
use Rattle.std.specs.Prelude.{Some}
use Rattle.sh_syntax.specs.declared.tree.Part.{Part}
use Rattle.sh_syntax.specs.declared.tree.Parts.{Parts}
use Rattle.sh_syntax.specs.declared.tree.CompoundList.{CompoundList}
use Rattle.sh_syntax.specs.declared.tree.Parameter.{Parameter}
use Rattle.sh_syntax.specs.declared.tree.Absence.{Absence}
use Rattle.sh_syntax.specs.declared.tree.Affix.{Affix}
use Rattle.sh_syntax.specs.declared.tree.Extent.{Extent}
use Rattle.sh_syntax.specs.declared.tree.ConditionalAction.{ConditionalAction}
use Rattle.sh_syntax.specs.declared.tree.Part.TheVariants as part
use Rattle.sh_syntax.specs.declared.tree.Command.TheOpen as layer
use Rattle.sh_syntax.specs.declared.tree.Command.TheViews as view
use Rattle.sh_syntax.specs.declared.tree.Command.TheFolds as folds
use Rattle.sh_expand_fields.specs.declared.item.Item.TheVariants as item
use Rattle.sh_expand_parts.specs.Contexts.{inside_quotes}
use Rattle.sh_expand_parts.specs.Drafts.{field_items, plain}
use Rattle.sh_expand_parts.specs.Forms.{conditional_begun, length_begun, parameter_begun, removal_begun}
use Rattle.sh_expand_parts.specs.Tildes.{literal_begun}
use Rattle.sh_expand_parts.specs.declared.context.Context.TheVariants.{QuotedSingle}
use Rattle.sh_expand_parts.specs.declared.closing.Purpose.TheVariants as purpose
use Rattle.sh_expand.specs.declared.place.Place.{Place}
use Rattle.sh_expand.specs.Expansion.{State, adds, asks, begins, begins_alone, enters, is_end}
use Rattle.sh_expand.specs.Parts.{Meaning, U, each, inside, meaning, other_step, part_step, parts_of, parts_step, pieces, program_of, run_part}
use Rattle.sh_expand.specs.Weights.{part_weight, parts_weight, weight_step, weights_step}

meanings : Parts → List Meaning
meanings = folds.fold-Parts U U Meaning U U U U U U U U U (List Meaning) U U U
    other_step other_step part_step other_step other_step other_step other_step other_step other_step other_step other_step other_step parts_step other_step other_step other_step

meanings_are : (w : Parts) → meanings w ≡ map meaning (parts_of w)
unfolding meanings meaning
meanings_are w = folds.fold_out-Parts U U Meaning U U U U U U U U U (List Meaning) U U U
    other_step other_step part_step other_step other_step other_step other_step other_step other_step other_step other_step other_step parts_step other_step other_step other_step w

each_is : (ps : List Part) → each (map meaning ps) ps ≡ pieces ps
unfolding run_part
each_is [] = refl
each_is (p ∷ ps) = ap (λ l. meaning p p ∷ l) (each_is ps)

-- the parts inside a part, by its form
inside_at : (p : Part) (w : Parts) → inside (view.out-Part p) ≡ parts_of w → each (meanings w) (inside (view.out-Part p)) ≡ pieces (parts_of w)
inside_at p w e = ap (each (meanings w)) e ∙ ap (λ l. each l (parts_of w)) (meanings_are w) ∙ each_is (parts_of w)

weight_of : Parts → ℕ
weight_of = folds.fold-Parts U U ℕ U U U U U U U U U ℕ U U U
    other_step other_step weight_step other_step other_step other_step other_step other_step other_step other_step other_step other_step weights_step other_step other_step other_step

weight_is : (w : Parts) → weight_of w ≡ parts_weight (parts_of w)
unfolding weight_of part_weight
weight_is w = folds.fold_out-Parts U U ℕ U U U U U U U U U ℕ U U U
    other_step other_step weight_step other_step other_step other_step other_step other_step other_step other_step other_step other_step weights_step other_step other_step other_step w

-- Literal
pub literal_is : (t : List ℕ) (at : Place) (s : State) → run_part (part.Literal t) at s ≡ adds (literal_begun at.context s.env at.first at.last t) s
unfolding run_part meaning
literal_is t at s = ap (λ f. f (part.Literal t) at s) (ap meaning (sym (part.rolls-Literal t)) ∙ folds.fold-roll-Part U U Meaning U U U U U U U U U (List Meaning) U U U
    other_step other_step part_step other_step other_step other_step other_step other_step other_step other_step other_step other_step parts_step other_step other_step other_step (layer.Literal t))

pub literal_weight : (t : List ℕ) → part_weight (part.Literal t) ≡ 2
unfolding part_weight
literal_weight t = ap part_weight (sym (part.rolls-Literal t)) ∙ folds.fold-roll-Part U U ℕ U U U U U U U U U ℕ U U U
    other_step other_step weight_step other_step other_step other_step other_step other_step other_step other_step other_step other_step weights_step other_step other_step other_step (layer.Literal t)

-- Escaped
pub escaped_is : (b : ℕ) (at : Place) (s : State) → run_part (part.Escaped b) at s ≡ adds (plain (item.Quoted b ∷ [])) s
unfolding run_part meaning
escaped_is b at s = ap (λ f. f (part.Escaped b) at s) (ap meaning (sym (part.rolls-Escaped b)) ∙ folds.fold-roll-Part U U Meaning U U U U U U U U U (List Meaning) U U U
    other_step other_step part_step other_step other_step other_step other_step other_step other_step other_step other_step other_step parts_step other_step other_step other_step (layer.Escaped b))

pub escaped_weight : (b : ℕ) → part_weight (part.Escaped b) ≡ 2
unfolding part_weight
escaped_weight b = ap part_weight (sym (part.rolls-Escaped b)) ∙ folds.fold-roll-Part U U ℕ U U U U U U U U U ℕ U U U
    other_step other_step weight_step other_step other_step other_step other_step other_step other_step other_step other_step other_step weights_step other_step other_step other_step (layer.Escaped b)

-- SingleQuoted
pub singlequoted_is : (t : List ℕ) (at : Place) (s : State) → run_part (part.SingleQuoted t) at s ≡ adds (plain (field_items t)) s
unfolding run_part meaning
singlequoted_is t at s = ap (λ f. f (part.SingleQuoted t) at s) (ap meaning (sym (part.rolls-SingleQuoted t)) ∙ folds.fold-roll-Part U U Meaning U U U U U U U U U (List Meaning) U U U
    other_step other_step part_step other_step other_step other_step other_step other_step other_step other_step other_step other_step parts_step other_step other_step other_step (layer.SingleQuoted t))

pub singlequoted_weight : (t : List ℕ) → part_weight (part.SingleQuoted t) ≡ 2
unfolding part_weight
singlequoted_weight t = ap part_weight (sym (part.rolls-SingleQuoted t)) ∙ folds.fold-roll-Part U U ℕ U U U U U U U U U ℕ U U U
    other_step other_step weight_step other_step other_step other_step other_step other_step other_step other_step other_step other_step weights_step other_step other_step other_step (layer.SingleQuoted t)

-- DoubleQuoted
doublequoted_inside : (w : Parts) → inside (view.out-Part (part.DoubleQuoted w)) ≡ parts_of w
doublequoted_inside w = ap (λ p. inside (view.out-Part p)) (sym (part.rolls-DoubleQuoted w)) ∙ ap inside (view.out-roll-Part (layer.DoubleQuoted w))

pub doublequoted_is : (w : Parts) (at : Place) (s : State) → run_part (part.DoubleQuoted w) at s ≡ enters purpose.Quotes (inside_quotes at.context) (pieces (parts_of w)) s
unfolding run_part meaning meanings
doublequoted_is w at s =
    let P : Part = part.DoubleQuoted w in
    ap (λ f. f P at s) (ap meaning (sym (part.rolls-DoubleQuoted w)) ∙ folds.fold-roll-Part U U Meaning U U U U U U U U U (List Meaning) U U U
    other_step other_step part_step other_step other_step other_step other_step other_step other_step other_step other_step other_step parts_step other_step other_step other_step (layer.DoubleQuoted w))
    ∙ ap (λ inner. enters purpose.Quotes (inside_quotes at.context) inner s) (inside_at P w (doublequoted_inside w))

pub doublequoted_weight : (w : Parts) → part_weight (part.DoubleQuoted w) ≡ 2 + parts_weight (parts_of w)
unfolding part_weight weight_of
doublequoted_weight w = ap part_weight (sym (part.rolls-DoubleQuoted w)) ∙ folds.fold-roll-Part U U ℕ U U U U U U U U U ℕ U U U
    other_step other_step weight_step other_step other_step other_step other_step other_step other_step other_step other_step other_step weights_step other_step other_step other_step (layer.DoubleQuoted w)
    ∙ ap (λ n. 2 + n) (weight_is w)

-- Parameter
pub parameter_is : (q : Parameter) (at : Place) (s : State) → run_part (part.Parameter q) at s ≡ begins_alone (parameter_begun at.context s.env q) s
unfolding run_part meaning
parameter_is q at s = ap (λ f. f (part.Parameter q) at s) (ap meaning (sym (part.rolls-Parameter q)) ∙ folds.fold-roll-Part U U Meaning U U U U U U U U U (List Meaning) U U U
    other_step other_step part_step other_step other_step other_step other_step other_step other_step other_step other_step other_step parts_step other_step other_step other_step (layer.Parameter q))

pub parameter_weight : (q : Parameter) → part_weight (part.Parameter q) ≡ 2
unfolding part_weight
parameter_weight q = ap part_weight (sym (part.rolls-Parameter q)) ∙ folds.fold-roll-Part U U ℕ U U U U U U U U U ℕ U U U
    other_step other_step weight_step other_step other_step other_step other_step other_step other_step other_step other_step other_step weights_step other_step other_step other_step (layer.Parameter q)

-- Length
pub length_is : (q : Parameter) (at : Place) (s : State) → run_part (part.Length q) at s ≡ begins_alone (length_begun at.context s.env q) s
unfolding run_part meaning
length_is q at s = ap (λ f. f (part.Length q) at s) (ap meaning (sym (part.rolls-Length q)) ∙ folds.fold-roll-Part U U Meaning U U U U U U U U U (List Meaning) U U U
    other_step other_step part_step other_step other_step other_step other_step other_step other_step other_step other_step other_step parts_step other_step other_step other_step (layer.Length q))

pub length_weight : (q : Parameter) → part_weight (part.Length q) ≡ 2
unfolding part_weight
length_weight q = ap part_weight (sym (part.rolls-Length q)) ∙ folds.fold-roll-Part U U ℕ U U U U U U U U U ℕ U U U
    other_step other_step weight_step other_step other_step other_step other_step other_step other_step other_step other_step other_step weights_step other_step other_step other_step (layer.Length q)

-- Conditional
conditional_inside : (q : Parameter) (a : Absence) (x : ConditionalAction) (w : Parts) → inside (view.out-Part (part.Conditional q a x w)) ≡ parts_of w
conditional_inside q a x w = ap (λ p. inside (view.out-Part p)) (sym (part.rolls-Conditional q a x w)) ∙ ap inside (view.out-roll-Part (layer.Conditional q a x w))

pub conditional_is : (q : Parameter) (a : Absence) (x : ConditionalAction) (w : Parts) (at : Place) (s : State) → run_part (part.Conditional q a x w) at s ≡ begins (conditional_begun at.context s.env q a x (is_end (pieces (parts_of w)))) (pieces (parts_of w)) s
unfolding run_part meaning meanings
conditional_is q a x w at s =
    let P : Part = part.Conditional q a x w in
    ap (λ f. f P at s) (ap meaning (sym (part.rolls-Conditional q a x w)) ∙ folds.fold-roll-Part U U Meaning U U U U U U U U U (List Meaning) U U U
    other_step other_step part_step other_step other_step other_step other_step other_step other_step other_step other_step other_step parts_step other_step other_step other_step (layer.Conditional q a x w))
    ∙ ap (λ inner. begins (conditional_begun at.context s.env q a x (is_end inner)) inner s) (inside_at P w (conditional_inside q a x w))

pub conditional_weight : (q : Parameter) (a : Absence) (x : ConditionalAction) (w : Parts) → part_weight (part.Conditional q a x w) ≡ 2 + parts_weight (parts_of w)
unfolding part_weight weight_of
conditional_weight q a x w = ap part_weight (sym (part.rolls-Conditional q a x w)) ∙ folds.fold-roll-Part U U ℕ U U U U U U U U U ℕ U U U
    other_step other_step weight_step other_step other_step other_step other_step other_step other_step other_step other_step other_step weights_step other_step other_step other_step (layer.Conditional q a x w)
    ∙ ap (λ n. 2 + n) (weight_is w)

-- Removal
removal_inside : (q : Parameter) (a : Affix) (x : Extent) (w : Parts) → inside (view.out-Part (part.Removal q a x w)) ≡ parts_of w
removal_inside q a x w = ap (λ p. inside (view.out-Part p)) (sym (part.rolls-Removal q a x w)) ∙ ap inside (view.out-roll-Part (layer.Removal q a x w))

pub removal_is : (q : Parameter) (a : Affix) (x : Extent) (w : Parts) (at : Place) (s : State) → run_part (part.Removal q a x w) at s ≡ begins (removal_begun at.context s.env q a x) (pieces (parts_of w)) s
unfolding run_part meaning meanings
removal_is q a x w at s =
    let P : Part = part.Removal q a x w in
    ap (λ f. f P at s) (ap meaning (sym (part.rolls-Removal q a x w)) ∙ folds.fold-roll-Part U U Meaning U U U U U U U U U (List Meaning) U U U
    other_step other_step part_step other_step other_step other_step other_step other_step other_step other_step other_step other_step parts_step other_step other_step other_step (layer.Removal q a x w))
    ∙ ap (λ inner. begins (removal_begun at.context s.env q a x) inner s) (inside_at P w (removal_inside q a x w))

pub removal_weight : (q : Parameter) (a : Affix) (x : Extent) (w : Parts) → part_weight (part.Removal q a x w) ≡ 2 + parts_weight (parts_of w)
unfolding part_weight weight_of
removal_weight q a x w = ap part_weight (sym (part.rolls-Removal q a x w)) ∙ folds.fold-roll-Part U U ℕ U U U U U U U U U ℕ U U U
    other_step other_step weight_step other_step other_step other_step other_step other_step other_step other_step other_step other_step weights_step other_step other_step other_step (layer.Removal q a x w)
    ∙ ap (λ n. 2 + n) (weight_is w)

-- Substitution
substitution_program : (program : CompoundList) → program_of (view.out-Part (part.Substitution program)) ≡ Some program
substitution_program program = ap (λ p. program_of (view.out-Part p)) (sym (part.rolls-Substitution program)) ∙ ap program_of (view.out-roll-Part (layer.Substitution program))

pub substitution_is : (program : CompoundList) (at : Place) (s : State) → run_part (part.Substitution program) at s ≡ asks at.context (Some program) s
unfolding run_part meaning
substitution_is program at s = ap (λ f. f (part.Substitution program) at s) (ap meaning (sym (part.rolls-Substitution program)) ∙ folds.fold-roll-Part U U Meaning U U U U U U U U U (List Meaning) U U U
    other_step other_step part_step other_step other_step other_step other_step other_step other_step other_step other_step other_step parts_step other_step other_step other_step (layer.Substitution program))
    ∙ ap (λ q. asks at.context q s) (substitution_program program)

pub substitution_weight : (program : CompoundList) → part_weight (part.Substitution program) ≡ 2
unfolding part_weight
substitution_weight program = ap part_weight (sym (part.rolls-Substitution program)) ∙ folds.fold-roll-Part U U ℕ U U U U U U U U U ℕ U U U
    other_step other_step weight_step other_step other_step other_step other_step other_step other_step other_step other_step other_step weights_step other_step other_step other_step (layer.Substitution program)

-- Backquoted
backquoted_program : (program : CompoundList) → program_of (view.out-Part (part.Backquoted program)) ≡ Some program
backquoted_program program = ap (λ p. program_of (view.out-Part p)) (sym (part.rolls-Backquoted program)) ∙ ap program_of (view.out-roll-Part (layer.Backquoted program))

pub backquoted_is : (program : CompoundList) (at : Place) (s : State) → run_part (part.Backquoted program) at s ≡ asks at.context (Some program) s
unfolding run_part meaning
backquoted_is program at s = ap (λ f. f (part.Backquoted program) at s) (ap meaning (sym (part.rolls-Backquoted program)) ∙ folds.fold-roll-Part U U Meaning U U U U U U U U U (List Meaning) U U U
    other_step other_step part_step other_step other_step other_step other_step other_step other_step other_step other_step other_step parts_step other_step other_step other_step (layer.Backquoted program))
    ∙ ap (λ q. asks at.context q s) (backquoted_program program)

pub backquoted_weight : (program : CompoundList) → part_weight (part.Backquoted program) ≡ 2
unfolding part_weight
backquoted_weight program = ap part_weight (sym (part.rolls-Backquoted program)) ∙ folds.fold-roll-Part U U ℕ U U U U U U U U U ℕ U U U
    other_step other_step weight_step other_step other_step other_step other_step other_step other_step other_step other_step other_step weights_step other_step other_step other_step (layer.Backquoted program)

-- Arithmetic
arithmetic_inside : (w : Parts) → inside (view.out-Part (part.Arithmetic w)) ≡ parts_of w
arithmetic_inside w = ap (λ p. inside (view.out-Part p)) (sym (part.rolls-Arithmetic w)) ∙ ap inside (view.out-roll-Part (layer.Arithmetic w))

pub arithmetic_is : (w : Parts) (at : Place) (s : State) → run_part (part.Arithmetic w) at s ≡ enters (purpose.Compute at.context) QuotedSingle (pieces (parts_of w)) s
unfolding run_part meaning meanings
arithmetic_is w at s =
    let P : Part = part.Arithmetic w in
    ap (λ f. f P at s) (ap meaning (sym (part.rolls-Arithmetic w)) ∙ folds.fold-roll-Part U U Meaning U U U U U U U U U (List Meaning) U U U
    other_step other_step part_step other_step other_step other_step other_step other_step other_step other_step other_step other_step parts_step other_step other_step other_step (layer.Arithmetic w))
    ∙ ap (λ inner. enters (purpose.Compute at.context) QuotedSingle inner s) (inside_at P w (arithmetic_inside w))

pub arithmetic_weight : (w : Parts) → part_weight (part.Arithmetic w) ≡ 2 + parts_weight (parts_of w)
unfolding part_weight weight_of
arithmetic_weight w = ap part_weight (sym (part.rolls-Arithmetic w)) ∙ folds.fold-roll-Part U U ℕ U U U U U U U U U ℕ U U U
    other_step other_step weight_step other_step other_step other_step other_step other_step other_step other_step other_step other_step weights_step other_step other_step other_step (layer.Arithmetic w)
    ∙ ap (λ n. 2 + n) (weight_is w)
