use Rattle.std.proofs.Common.{◌∙◌, ◌∷◌, [], sym, false}
use Rattle.sh_expand_fields.specs.Walk.{Leads, Taken}
use Rattle.sh_expand_fields.proofs.Names.{listing, texts}
use Rattle.sh_expand_fields.proofs.Leading.{prefixes_literal, prefixes_taken}
use Rattle.sh_expand_fields.proofs.Ones.{adds_one, adds_same}
use Rattle.sh_expand_fields.proofs.pathnames.add_prefixes.Goals as goal

pub returns-then-not-is_pattern : goal.returns-then-not-is_pattern
returns-then-not-is_pattern c =
    adds_one _ _ _ (Leads false c.args.files.now c.args.directory.now c.args.before.now c.args.component.now) c.in_ok-add_path.ensures
    (prefixes_literal c.args.files.now c.args.directory.now c.args.before.now c.args.component.now c.deref.result.now (sym c.is_pattern.ensures ∙ c.if-not-is_pattern.true) (c.deref.ensures.value ∙ c.in_ok-name.ensures))

pub returns : goal.returns
returns c =
    adds_same _ _ (Taken c.args.before.now (47 ∷ []) c.args.component.now (texts c.deref-2.result.now)) (Leads false c.args.files.now c.args.directory.now c.args.before.now c.args.component.now) c.in_ok-add_taken.ensures
    (prefixes_taken c.args.files.now c.args.directory.now c.args.before.now c.args.component.now (texts c.deref-2.result.now) (sym c.is_pattern.ensures ∙ c.if-not-is_pattern.false) (listing _ _ _ _ c.in_ok-names.ensures c.in-Some.is c.deref-2.ensures.value))
