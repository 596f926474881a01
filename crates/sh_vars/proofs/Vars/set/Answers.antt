use Rattle.std.proofs.Common.{ap, ◌∙◌}
use Rattle.sh_vars.specs.Environment.{Environment, VariableMap, value_of}
use Rattle.sh_vars.proofs.Readings.{read, read_put, read_other}
use Rattle.sh_vars.proofs.Vars.set.Goals as goal

pub returns-clause-reads : goal.returns-clause-reads
returns-clause-reads c =
    ap (λ (m : VariableMap). read m c.args.name.now) c.in_ok-assign.ensures ∙ read_put c.self.inside.variables c.args.name.now _

pub returns-clause-reads_others : goal.returns-clause-reads_others
returns-clause-reads_others c = λ other apart.
    ap (λ (m : VariableMap). read m other) c.in_ok-assign.ensures
    ∙ read_other c.self.inside.variables c.args.name.now _ other apart
    ∙ ap (λ (env : Environment). value_of env other) c.self.view_is
