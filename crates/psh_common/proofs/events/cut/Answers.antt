use Rattle.std.proofs.Common.{ap, ◌∙◌, sym, ◌∷◌, take, ◌+◌}
use Rattle.psh_common.specs.Lines.{parts}
use Rattle.psh_common.proofs.Lines.{parts-found, parts-single, take-rest}
use Rattle.psh_common.proofs.events.cut.Goals as goal

pub returns-in-Some-clause-parts : goal.returns-in-Some-clause-parts
returns-in-Some-clause-parts c =
    parts-found c.args.separator c.in-Some.i c.args.bytes.now c.in-Some.ensures.place
    ∙ ap (λ xs. take c.in-Some.i c.args.bytes.now ∷ parts c.args.separator xs) (sym (take-rest (c.in-Some.i + 1) c.args.bytes.now))

pub returns-in-None-clause-parts : goal.returns-in-None-clause-parts
returns-in-None-clause-parts c = parts-single c.args.separator c.args.bytes.now c.in-None.ensures.place
