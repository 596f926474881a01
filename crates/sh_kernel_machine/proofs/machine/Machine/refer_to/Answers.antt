use Rattle.std.proofs.Common.{List, refl, subst, sym}
use Rattle.std.specs.Prelude.{◌≡◌, true, vec_len}
use Rattle.slab.specs.Slab.{get}
use Rattle.sh_kernel_descriptors.specs.Counts.{fits}
use Rattle.sh_kernel_descriptors.specs.Kept.{Among, IsCounted}
use Rattle.sh_kernel_descriptors.specs.declared.kept.Held.{Held}
use Rattle.sh_kernel_machine.specs.Machine.{MachineKept, StandsAt}
use Rattle.sh_kernel_machine.specs.Tables.{AreOwn, held_in}
use Rattle.sh_kernel_machine.proofs.Standing.{refers, with_room}
use Rattle.sh_kernel_machine.proofs.machine.Machine.refer_to.Goals as goal

-- the descriptor is in the list that has room
among : (c : goal.After-refer_in) → Among c.args.h (held_in c.reserve_in.new.tables.entries)
among c =
    subst (λ (hs : List Held). Among c.args.h hs) (sym c.reserve_in.ensures.held)
    (subst (λ (m : MachineKept). Among c.args.h m.held) (sym c.self.view_is) c.requires.0)

counted : (c : goal.After-refer_in) → IsCounted c.self.inside.entries (held_in c.reserve_in.new.tables.entries)
counted c = subst (λ (hs : List Held). IsCounted c.self.inside.entries hs) (sym c.reserve_in.ensures.held) c.self.invariant.0

mine : (c : goal.After-refer_in) → AreOwn c.reserve_in.new.tables.entries
mine c = c.reserve_in.ensures.own c.self.invariant.2

room : (c : goal.After-refer_in) → fits 1 (get c.self.inside.entries c.args.h.key) ≡ true
room c = sym c.if-not-may_share.ensures

pub invariant_of-self-2 : goal.invariant_of-self-2
invariant_of-self-2 c = (c.refer_in.ensures.counted (room c) (among c) c.requires.1 (counted c), c.refer_in.ensures.paired _ c.self.invariant.1, c.refer_in.ensures.own (mine c))

pub returns-clause-ok : goal.returns-clause-ok
returns-clause-ok c s st =
    let before = subst (λ m. StandsAt m s) (sym c.self.view_is) st in
    refers _ (held_in c.refer_in.new.tables.entries) c.refer_in.new.entries c.refer_in.new.pipes.entries s c.args.pid c.args.to c.args.h.descriptor.description
    (with_room _ (held_in c.reserve_in.new.tables.entries) c.self.inside.entries s c.reserve_in.ensures.held refl before)
    (c.refer_in.ensures.listed (mine c)) (λ es l. c.refer_in.ensures.linked es (among c) c.requires.1 (counted c) l)
    (λ es ps l agree. c.refer_in.ensures.pipes (vec_len c.self.inside.piped) es ps (mine c) c.self.invariant.1 (counted c) l agree)
