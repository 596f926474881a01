use Rattle.std.proofs.Common.{refl, sym, ◌∙◌}
use Rattle.sh_expand_fields.proofs.Names.{is_behind, is_here}
use Rattle.sh_expand_fields.proofs.Sorting.{other_bytes, same_bytes}
use Rattle.sh_expand_fields.proofs.pathnames.is_one.Goals as goal

pub returns-then-eq : goal.returns-then-eq
returns-then-eq c = (
  λ _. c.names.invariant.0 (is_here c.args.name.now c.args.names.now c.names.other-index _ c.names-test.true (sym (same_bytes _ _ (sym c.eq.ensures ∙ c.if-eq.true)))),
  λ _. refl,
)

pub names-preserved : goal.names-preserved
names-preserved c = is_behind c.args.name.now c.args.names.now c.names.other-index _ _ c.names-test.true (λ e. other_bytes _ _ (sym e) (sym c.eq.ensures ∙ c.if-eq.false)) c.names.invariant
