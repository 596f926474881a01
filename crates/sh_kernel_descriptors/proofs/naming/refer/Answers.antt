use Rattle.std.proofs.Common.{List, refl, subst, sym}
use Rattle.std.specs.Prelude.{◌++◌}
use Rattle.sh_kernel_descriptors.specs.Counts.{given, held_left}
use Rattle.sh_kernel_descriptors.specs.Kept.{Among}
use Rattle.sh_kernel_descriptors.specs.declared.descriptor.Closing.TheVariants.{Named}
use Rattle.sh_kernel_descriptors.specs.declared.descriptor.DescriptorRef.TheVariants.{Number}
use Rattle.sh_kernel_descriptors.specs.declared.kept.Held.{Held}
use Rattle.sh_kernel_descriptors.proofs.Coming.{alike_shared, counted_last, counted_shared, few_left, linked_last, linked_shared}
use Rattle.sh_kernel_descriptors.proofs.Giving.{listed_given}
use Rattle.sh_kernel_descriptors.proofs.Pairs.{paired_shared}
use Rattle.sh_kernel_descriptors.proofs.naming.refer.Goals as goal

abbrev new-of : goal.After-push_reserved → Held
new-of c = given c.args.pid c.args.number c.args.to.descriptor.description c.args.to.key

left : (c : goal.After-push_reserved) (more : List Held) → Among c.args.to (more ++ held_left c.args.pid (Named (Number c.args.number)) c.args.held.now.items) → Among c.args.to (more ++ c.close.new.held.items)
left c more a = subst (λ (hs : List Held). Among c.args.to (more ++ hs)) (sym c.close.ensures.held) a

pub returns-clause-listed : goal.returns-clause-listed
returns-clause-listed c = listed_given c.close.new.held.items c.push_reserved.new.self.items (new-of c) _ c.close.ensures.listed c.push_reserved.ensures.items

pub returns-clause-counted : goal.returns-clause-counted
returns-clause-counted c more fit a n =
    counted_last more c.close.new.held.items c.push_reserved.new.self.items (new-of c) c.share.new.entries c.push_reserved.ensures.items
    (counted_shared (more ++ c.close.new.held.items) c.close.new.entries c.share.new.entries c.args.to (new-of c) (few_left c.args.pid (Named (Number c.args.number)) more c.args.held.now.items c.close.new.held.items c.args.entries.now c.args.to.key c.close.ensures.held fit n)
    refl c.share.ensures.at c.share.ensures.others (left c more a) (c.close.ensures.counted more n))

pub returns-clause-linked : goal.returns-clause-linked
returns-clause-linked c more es a n l =
    linked_last more c.close.new.held.items c.push_reserved.new.self.items (new-of c) c.share.new.entries es c.push_reserved.ensures.items
    (linked_shared (more ++ c.close.new.held.items) c.close.new.entries c.share.new.entries es c.args.to (new-of c) (alike_shared c.close.new.entries c.share.new.entries c.args.to.key c.share.ensures.at c.share.ensures.others)
    refl refl (left c more a) (c.close.ensures.linked more es n l))

pub returns-clause-paired : goal.returns-clause-paired
returns-clause-paired c made pair = paired_shared c.close.new.entries c.share.new.entries c.args.to.key c.share.ensures.at c.share.ensures.others made (c.close.ensures.paired made pair)
