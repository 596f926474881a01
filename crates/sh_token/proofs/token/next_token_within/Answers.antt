use Rattle.std.proofs.Common.{rules, ◌≡◌}
use Rattle.sh_token_scanner.specs.Run.{Ended, scan_of}
use Rattle.sh_token.specs.Found.{kind_of}
use Rattle.sh_token.proofs.Places.{placed_shown}
use Rattle.sh_token.proofs.token.next_token_within.Goals as goal

pub returns-in_ok-kind-in-Ended-clause-placed : goal.returns-in_ok-kind-in-Ended-clause-placed
returns-in_ok-kind-in-Ended-clause-placed c =
    let s : scan_of c.args.at_end c.args.levels c.bytes_from-bytes.result.now ≡ Ended c.in-Ended.state c.in-Ended.prefix.now c.in-Ended.rest.now = rw c.in-Ended.is at c.in_ok-state.ensures in
    let k : c.in_ok-kind-in-Ended.kind ≡ kind_of c.in-Ended.state.done = search rules in
    placed_shown c.args.at_end c.args.levels c.args.text.now c.args.at c.bytes_from-bytes.result.now c.in-Ended.state c.in-Ended.prefix.now c.in-Ended.rest.now c.in_ok-kind-in-Ended.kind c.saturating_sub-start.result c.saturating_sub-end.result
    c.bytes_from-bytes.ensures s k c.saturating_sub-start.ensures c.saturating_sub-end.ensures
