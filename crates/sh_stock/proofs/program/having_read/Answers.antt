use Rattle.std.proofs.Common.{rules, ◌∙◌}
use Rattle.sh_stock.proofs.Searches.{goes_on}
use Rattle.sh_stock.proofs.program.having_read.Goals as goal

pub returns : goal.returns
returns c = c.having_goes_on.ensures ∙ goes_on c.args.search c.args.bytes.now c.as_slice.result.now c.keep_lines.new.line c.in_ok-kept.kept (search rules) (search rules) c.in_ok-kept.ensures.line c.in_ok-kept.ensures.kept
