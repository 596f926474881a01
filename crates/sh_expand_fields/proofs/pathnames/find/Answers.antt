use Rattle.std.proofs.Common.{sym, subst}
use Rattle.sh_expand_fields.specs.Pathnames.{components_of}
use Rattle.sh_expand_fields.proofs.Reaching.{Stand, stands_last, stands_next, starts}
use Rattle.sh_expand_fields.proofs.Sorting.{bytes, only_empty}
use Rattle.sh_expand_fields.proofs.pathnames.find.Goals as goal

pub components-init : goal.components-init
components-init c = starts c.args.files.now c.args.directory.now c.args.pattern.now (bytes c.push.new.self.items) (only_empty c.push.new.self.items c.new-prefixes.result.items c.new.result c.in_ok-push.ensures.items c.new-prefixes.ensures.items c.new.ensures.items)

pub components-preserved : goal.components-preserved
components-preserved c =
    stands_next c.args.files.now c.args.directory.now c.args.pattern.now c.components.rest.now (c.in-Some.component.now, c.in-Some.behind.now) (bytes c.deref.result.now) (bytes c.in_ok-prefixes.prefixes.items) c.in-Some.ensures.parts
    (subst (λ x. Stand c.args.files.now c.args.directory.now (bytes x) (components_of c.components.rest.now) c.args.pattern.now) (sym c.deref.ensures.value) c.components.invariant) c.in_ok-prefixes.ensures

pub returns : goal.returns
returns c =
    stands_last c.args.files.now c.args.directory.now c.args.pattern.now c.components.rest.now (bytes c.deref-2.result.now) (bytes c.in_ok-paths.paths.items) c.in_default.ensures.parts
    (subst (λ x. Stand c.args.files.now c.args.directory.now (bytes x) (components_of c.components.rest.now) c.args.pattern.now) (sym c.deref-2.ensures.value) c.components.invariant) c.in_ok-paths.ensures
