use Rattle.std.proofs.Common.{refl, ap, ◌∙◌, ◌∷◌, []}
use Rattle.sh_expand_fields.specs.declared.item.Item.TheVariants.{Quoted}
use Rattle.sh_syntax.specs.declared.tree.Part.TheVariants as part
use Rattle.sh_expand_parts.specs.Contexts.{inside_quotes}
use Rattle.sh_expand_parts.specs.Drafts.{field_items, plain}
use Rattle.sh_expand_parts.specs.Forms.{conditional_begun, length_begun, parameter_begun, removal_begun}
use Rattle.sh_expand_parts.specs.Tildes.{literal_begun}
use Rattle.sh_expand_parts.specs.declared.context.Context.TheVariants as context
use Rattle.sh_expand_parts.specs.declared.closing.Purpose.TheVariants as purpose
use Rattle.sh_expand.specs.declared.part.Act.TheVariants as act
use Rattle.sh_expand.specs.Expansion.{is_end}
use Rattle.sh_expand.specs.Parts.{parts_of, pieces}
use Rattle.sh_expand.specs.WordProgress.{act_weight}
use Rattle.sh_expand.proofs.Begins.{added, asked, entered, opened, settled, weighs_nothing, weighs_opened, weighs_word}
use Rattle.sh_expand.proofs.Forms as form
use Rattle.sh_expand.proofs.part.begin.Goals as goal

pub returns-in_ok-act-in-Literal-clause-run : goal.returns-in_ok-act-in-Literal-clause-run
returns-in_ok-act-in-Literal-clause-run c s e o =
    let t = c.in-Literal.text in
    let at = c.args.place in
    added c.args.part.now (part.Literal t) at s (λ env. literal_begun at.context env at.first at.last t) c.args.vars.now c.args.draft.now _ c.in_ok-more-in-Literal.more c.in_ok-act-in-Literal.act
    c.in-Literal.is (form.literal_is t at s) e o
    (c.in_ok-more-in-Literal.ensures ∙ ap (literal_begun at.context c.args.vars.now at.first at.last) c.as_slice.ensures)
    c.in_ok-act-in-Literal.ensures.draft c.in_ok-act-in-Literal.ensures.went

pub returns-in_ok-act-in-Literal-clause-weight : goal.returns-in_ok-act-in-Literal-clause-weight
returns-in_ok-act-in-Literal-clause-weight c =
    weighs_nothing _ (part.Literal c.in-Literal.text) c.in_ok-act-in-Literal.act c.in-Literal.is (form.literal_weight c.in-Literal.text) (ap act_weight c.in_ok-act-in-Literal.ensures.went)

pub returns-in_ok-act-in-Escaped-clause-run : goal.returns-in_ok-act-in-Escaped-clause-run
returns-in_ok-act-in-Escaped-clause-run c s e o =
    added c.args.part.now (part.Escaped c.in-Escaped.byte) c.args.place s (λ env. plain (Quoted c.in-Escaped.byte ∷ [])) c.args.vars.now c.args.draft.now _ c.in_ok-more-in-Escaped.more c.in_ok-act-in-Escaped.act
    c.in-Escaped.is (form.escaped_is c.in-Escaped.byte c.args.place s) e o c.in_ok-more-in-Escaped.ensures c.in_ok-act-in-Escaped.ensures.draft c.in_ok-act-in-Escaped.ensures.went

pub returns-in_ok-act-in-Escaped-clause-weight : goal.returns-in_ok-act-in-Escaped-clause-weight
returns-in_ok-act-in-Escaped-clause-weight c =
    weighs_nothing _ (part.Escaped c.in-Escaped.byte) c.in_ok-act-in-Escaped.act c.in-Escaped.is (form.escaped_weight c.in-Escaped.byte) (ap act_weight c.in_ok-act-in-Escaped.ensures.went)

pub returns-in_ok-act-in-SingleQuoted-clause-run : goal.returns-in_ok-act-in-SingleQuoted-clause-run
returns-in_ok-act-in-SingleQuoted-clause-run c s e o =
    let t = c.in-SingleQuoted.text in
    added c.args.part.now (part.SingleQuoted t) c.args.place s (λ env. plain (field_items t)) c.args.vars.now c.args.draft.now _ c.in_ok-more-in-SingleQuoted.more c.in_ok-act-in-SingleQuoted.act
    c.in-SingleQuoted.is (form.singlequoted_is t c.args.place s) e o
    (c.in_ok-more-in-SingleQuoted.ensures ∙ ap (λ x. plain (field_items x)) c.as_slice-in-SingleQuoted.ensures)
    c.in_ok-act-in-SingleQuoted.ensures.draft c.in_ok-act-in-SingleQuoted.ensures.went

pub returns-in_ok-act-in-SingleQuoted-clause-weight : goal.returns-in_ok-act-in-SingleQuoted-clause-weight
returns-in_ok-act-in-SingleQuoted-clause-weight c =
    weighs_nothing _ (part.SingleQuoted c.in-SingleQuoted.text) c.in_ok-act-in-SingleQuoted.act c.in-SingleQuoted.is (form.singlequoted_weight c.in-SingleQuoted.text) (ap act_weight c.in_ok-act-in-SingleQuoted.ensures.went)

pub returns-in_ok-share-in-DoubleQuoted-clause-run : goal.returns-in_ok-share-in-DoubleQuoted-clause-run
returns-in_ok-share-in-DoubleQuoted-clause-run c s e o =
    let w = c.in-DoubleQuoted.word in
    opened c.args.part.now (part.DoubleQuoted w) c.args.place s w c.in_ok-share-in-DoubleQuoted.field-0 purpose.Quotes (inside_quotes c.args.place.context) c.inside_quotes.result c.args.draft.now
    c.in-DoubleQuoted.is (form.doublequoted_is w c.args.place s) c.in_ok-share-in-DoubleQuoted.ensures c.inside_quotes.ensures o

pub returns-in_ok-share-in-DoubleQuoted-clause-weight : goal.returns-in_ok-share-in-DoubleQuoted-clause-weight
returns-in_ok-share-in-DoubleQuoted-clause-weight c =
    let w = c.in-DoubleQuoted.word in
    weighs_opened c.args.part.now (part.DoubleQuoted w) w c.in_ok-share-in-DoubleQuoted.field-0 purpose.Quotes context.Single c.in-DoubleQuoted.is (form.doublequoted_weight w) c.in_ok-share-in-DoubleQuoted.ensures

pub returns-in_ok-act-in-Parameter-clause-run : goal.returns-in_ok-act-in-Parameter-clause-run
returns-in_ok-act-in-Parameter-clause-run c s e o =
    let q = c.in-Parameter.parameter in
    settled c.args.part.now (part.Parameter q) c.args.place s (λ env. parameter_begun c.args.place.context env q) c.args.vars.now c.in_ok-begun-in-Parameter.begun _
    c.in-Parameter.is (form.parameter_is q c.args.place s) e c.in_ok-begun-in-Parameter.ensures (c.in_ok-act-in-Parameter.ensures.run s o)

pub returns-in_ok-act-in-Parameter-clause-weight : goal.returns-in_ok-act-in-Parameter-clause-weight
returns-in_ok-act-in-Parameter-clause-weight c =
    weighs_nothing _ (part.Parameter c.in-Parameter.parameter) c.in_ok-act-in-Parameter.act c.in-Parameter.is (form.parameter_weight c.in-Parameter.parameter) c.in_ok-act-in-Parameter.ensures.weight

pub returns-in_ok-act-in-Length-clause-run : goal.returns-in_ok-act-in-Length-clause-run
returns-in_ok-act-in-Length-clause-run c s e o =
    let q = c.in-Length.parameter in
    settled c.args.part.now (part.Length q) c.args.place s (λ env. length_begun c.args.place.context env q) c.args.vars.now c.in_ok-begun-in-Length.begun _
    c.in-Length.is (form.length_is q c.args.place s) e c.in_ok-begun-in-Length.ensures (c.in_ok-act-in-Length.ensures.run s o)

pub returns-in_ok-act-in-Length-clause-weight : goal.returns-in_ok-act-in-Length-clause-weight
returns-in_ok-act-in-Length-clause-weight c =
    weighs_nothing _ (part.Length c.in-Length.parameter) c.in_ok-act-in-Length.act c.in-Length.is (form.length_weight c.in-Length.parameter) c.in_ok-act-in-Length.ensures.weight

pub returns-in_ok-act-in-Conditional-clause-run : goal.returns-in_ok-act-in-Conditional-clause-run
returns-in_ok-act-in-Conditional-clause-run c s e o =
    let q = c.in-Conditional.parameter in
    let a = c.in-Conditional.absence in
    let x = c.in-Conditional.action in
    let w = c.in-Conditional.word in
    let at = c.args.place in
    entered c.args.part.now (part.Conditional q a x w) at s (λ env. conditional_begun at.context env q a x (is_end (pieces (parts_of w)))) w c.args.vars.now c.in_ok-begun-in-Conditional.begun _
    c.in-Conditional.is (form.conditional_is q a x w at s) e
    (c.in_ok-begun-in-Conditional.ensures ∙ ap (conditional_begun at.context c.args.vars.now q a x) (c.has_no_part-no_word.ensures ∙ ap (λ y. is_end (pieces (parts_of y))) c.get.ensures))
    (c.in_ok-act-in-Conditional.ensures.run s o)

pub returns-in_ok-act-in-Conditional-clause-weight : goal.returns-in_ok-act-in-Conditional-clause-weight
returns-in_ok-act-in-Conditional-clause-weight c =
    let q = c.in-Conditional.parameter in
    let a = c.in-Conditional.absence in
    let x = c.in-Conditional.action in
    let w = c.in-Conditional.word in
    weighs_word _ (part.Conditional q a x w) w c.in_ok-act-in-Conditional.act c.in-Conditional.is (form.conditional_weight q a x w) c.in_ok-act-in-Conditional.ensures.weight

pub returns-in_ok-act-in-Removal-clause-run : goal.returns-in_ok-act-in-Removal-clause-run
returns-in_ok-act-in-Removal-clause-run c s e o =
    let q = c.in-Removal.parameter in
    let a = c.in-Removal.affix in
    let x = c.in-Removal.extent in
    let w = c.in-Removal.pattern in
    let at = c.args.place in
    entered c.args.part.now (part.Removal q a x w) at s (λ env. removal_begun at.context env q a x) w c.args.vars.now c.in_ok-begun-in-Removal.begun _
    c.in-Removal.is (form.removal_is q a x w at s) e c.in_ok-begun-in-Removal.ensures (c.in_ok-act-in-Removal.ensures.run s o)

pub returns-in_ok-act-in-Removal-clause-weight : goal.returns-in_ok-act-in-Removal-clause-weight
returns-in_ok-act-in-Removal-clause-weight c =
    let q = c.in-Removal.parameter in
    let a = c.in-Removal.affix in
    let x = c.in-Removal.extent in
    let w = c.in-Removal.pattern in
    weighs_word _ (part.Removal q a x w) w c.in_ok-act-in-Removal.act c.in-Removal.is (form.removal_weight q a x w) c.in_ok-act-in-Removal.ensures.weight

pub returns-in_ok-share-in-Substitution-clause-run : goal.returns-in_ok-share-in-Substitution-clause-run
returns-in_ok-share-in-Substitution-clause-run c s e o =
    let w = c.in-Substitution.program in
    asked c.args.part.now (part.Substitution w) c.args.place s w c.in_ok-share-in-Substitution.field-0 c.args.draft.now
    c.in-Substitution.is (form.substitution_is w c.args.place s) c.in_ok-share-in-Substitution.ensures o

pub returns-in_ok-share-in-Substitution-clause-weight : goal.returns-in_ok-share-in-Substitution-clause-weight
returns-in_ok-share-in-Substitution-clause-weight c =
    let w = c.in-Substitution.program in
    weighs_nothing c.args.part.now (part.Substitution w) (act.Ask c.in_ok-share-in-Substitution.field-0 c.args.place.context) c.in-Substitution.is (form.substitution_weight w) refl

pub returns-in_ok-share-in-Backquoted-clause-run : goal.returns-in_ok-share-in-Backquoted-clause-run
returns-in_ok-share-in-Backquoted-clause-run c s e o =
    let w = c.in-Backquoted.program in
    asked c.args.part.now (part.Backquoted w) c.args.place s w c.in_ok-share-in-Backquoted.field-0 c.args.draft.now
    c.in-Backquoted.is (form.backquoted_is w c.args.place s) c.in_ok-share-in-Backquoted.ensures o

pub returns-in_ok-share-in-Backquoted-clause-weight : goal.returns-in_ok-share-in-Backquoted-clause-weight
returns-in_ok-share-in-Backquoted-clause-weight c =
    let w = c.in-Backquoted.program in
    weighs_nothing c.args.part.now (part.Backquoted w) (act.Ask c.in_ok-share-in-Backquoted.field-0 c.args.place.context) c.in-Backquoted.is (form.backquoted_weight w) refl

pub returns-in_ok-share-in-Arithmetic-clause-run : goal.returns-in_ok-share-in-Arithmetic-clause-run
returns-in_ok-share-in-Arithmetic-clause-run c s e o =
    let w = c.in-Arithmetic.word in
    opened c.args.part.now (part.Arithmetic w) c.args.place s w c.in_ok-share-in-Arithmetic.field-0 (purpose.Compute c.args.place.context) context.QuotedSingle context.QuotedSingle c.args.draft.now
    c.in-Arithmetic.is (form.arithmetic_is w c.args.place s) c.in_ok-share-in-Arithmetic.ensures refl o

pub returns-in_ok-share-in-Arithmetic-clause-weight : goal.returns-in_ok-share-in-Arithmetic-clause-weight
returns-in_ok-share-in-Arithmetic-clause-weight c =
    let w = c.in-Arithmetic.word in
    weighs_opened c.args.part.now (part.Arithmetic w) w c.in_ok-share-in-Arithmetic.field-0 purpose.Quotes context.Single c.in-Arithmetic.is (form.arithmetic_weight w) c.in_ok-share-in-Arithmetic.ensures
