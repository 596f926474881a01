use Rattle.std.proofs.Common.{◌∷◌, ◌∙◌, sym, ap, List, ℕ}
use Rattle.sh_expand_fields.specs.Walk.{LeadsFrom}
use Rattle.sh_expand_fields.proofs.Leading.{leads_end, leads_step}
use Rattle.sh_expand_fields.proofs.Names.{none_left}
use Rattle.sh_expand_fields.proofs.Sorting.{bytes}
use Rattle.sh_expand_fields.proofs.pathnames.lead.Goals as goal

pub prefixes-preserved : goal.prefixes-preserved
prefixes-preserved c =
    leads_step c.args.last c.args.files.now c.args.directory.now c.deref.result.now (bytes c.in-Some.behind.now) (bytes c.prefixes.rest.now) c.args.component.now (bytes c.prefixes.paths.items) (bytes c.add_behind.new.paths.items) (LeadsFrom c.args.last c.args.files.now c.args.directory.now (bytes c.args.prefixes.now) c.args.component.now)
    (ap bytes c.in-Some.ensures.cases.0 ∙ ap (λ (x : List ℕ). x ∷ bytes c.in-Some.behind.now) (sym c.deref.ensures.value)) c.prefixes.invariant c.in_ok-add_behind.ensures

pub returns : goal.returns
returns c =
    leads_end c.args.last c.args.files.now c.args.directory.now (bytes c.prefixes.rest.now) c.args.component.now (bytes c.prefixes.paths.items) (LeadsFrom c.args.last c.args.files.now c.args.directory.now (bytes c.args.prefixes.now) c.args.component.now)
    (none_left c.prefixes.rest.now c.in_default.ensures.cases) c.prefixes.invariant
