use Rattle.sh_expand_parts.proofs.Matching.{longest_back, longest_front, shortest_back, shortest_front}
use Rattle.sh_expand_parts.proofs.removal.matched.Goals as goal

pub returns-in-Smallest-clause-length : goal.returns-in-Smallest-clause-length
returns-in-Smallest-clause-length c = shortest_front c.args.affix c.args.extent c.args.pattern.now c.args.text.now c.shortest_front.result c.in-Prefix.is c.in-Smallest.is c.shortest_front.ensures

pub returns-in-Largest-clause-length : goal.returns-in-Largest-clause-length
returns-in-Largest-clause-length c = longest_front c.args.affix c.args.extent c.args.pattern.now c.args.text.now c.longest_front.result c.in-Prefix.is c.in-Largest.is c.longest_front.ensures

pub returns-in-Smallest-extent-clause-length : goal.returns-in-Smallest-extent-clause-length
returns-in-Smallest-extent-clause-length c = shortest_back c.args.affix c.args.extent c.args.pattern.now c.args.text.now c.shortest_back.result c.in-Suffix.is c.in-Smallest-extent.is c.shortest_back.ensures

pub returns-in-Largest-extent-clause-length : goal.returns-in-Largest-extent-clause-length
returns-in-Largest-extent-clause-length c = longest_back c.args.affix c.args.extent c.args.pattern.now c.args.text.now c.longest_back.result c.in-Suffix.is c.in-Largest-extent.is c.longest_back.ensures
