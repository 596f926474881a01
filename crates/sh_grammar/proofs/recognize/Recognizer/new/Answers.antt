use Rattle.std.proofs.Common.{◌++◌, ◌∷◌, [], ap, ◌∙◌}
use Rattle.sh_grammar.specs.declared.Symbol.TheVariants.{Nonterminal}
use Rattle.sh_grammar.specs.Tabulation.{tabulation_of}
use Rattle.sh_grammar.proofs.Counts.{counted_start}
use Rattle.sh_grammar.proofs.Kept.{keeps_start}
use Rattle.sh_grammar.proofs.recognize.Recognizer.new.Goals as goal

pub invariant_of-result : goal.invariant_of-result
invariant_of-result c =
    let start = c.in_ok-push.ensures.items ∙ ap (λ x. x ++ Nonterminal c.args.tables.start ∷ []) c.new-stack.ensures.items in
    (keeps_start (tabulation_of c.args.tables) c.new.result.items c.push.new.self.items c.requires c.new.ensures.items start, counted_start c.args.tables.start c.push.new.self.items start)
