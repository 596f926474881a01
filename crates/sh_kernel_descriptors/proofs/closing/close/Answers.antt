use Rattle.std.proofs.Common.{List, subst}
use Rattle.sh_kernel_descriptors.specs.Gone.{Gone}
use Rattle.sh_kernel_descriptors.specs.declared.kept.Held.{Held}
use Rattle.sh_kernel_descriptors.proofs.Going.{pipes_gone}
use Rattle.sh_kernel_descriptors.proofs.Leaving.{counted_left, linked_left, listed_left}
use Rattle.sh_kernel_descriptors.proofs.Pairs.{paired_left}
use Rattle.sh_kernel_descriptors.proofs.closing.close.Goals as goal

went : (c : goal.After-keep) → Gone c.args.pid c.args.closing c.args.held.now.items c.args.entries.now c.close_each.new.entries c.args.pipes.now.entries c.close_each.new.pipes.entries
went c = subst (λ (hs : List Held). Gone c.args.pid c.args.closing hs c.args.entries.now c.close_each.new.entries c.args.pipes.now.entries c.close_each.new.pipes.entries) c.deref.ensures.value c.close_each.ensures

pub returns-clause-listed : goal.returns-clause-listed
returns-clause-listed c = listed_left c.args.pid c.args.closing c.args.held.now.items _ c.keep.ensures.items

pub returns-clause-at : goal.returns-clause-at
returns-clause-at c = (went c).at

pub returns-clause-counted : goal.returns-clause-counted
returns-clause-counted c = counted_left c.args.pid c.args.closing c.args.held.now.items _ c.args.entries.now c.close_each.new.entries c.keep.ensures.items (went c).at

pub returns-clause-linked : goal.returns-clause-linked
returns-clause-linked c = linked_left c.args.pid c.args.closing c.args.held.now.items _ c.args.entries.now c.close_each.new.entries c.keep.ensures.items (went c).at

pub returns-clause-paired : goal.returns-clause-paired
returns-clause-paired c = paired_left c.args.pid c.args.closing c.args.held.now.items c.args.entries.now c.close_each.new.entries (went c).at

pub returns-clause-pipes : goal.returns-clause-pipes
returns-clause-pipes c = pipes_gone c.args.pid c.args.closing c.args.held.now.items c.args.entries.now c.close_each.new.entries c.args.pipes.now.entries c.close_each.new.pipes.entries (went c)

pub returns-clause-room : goal.returns-clause-room
returns-clause-room c = (went c).room
