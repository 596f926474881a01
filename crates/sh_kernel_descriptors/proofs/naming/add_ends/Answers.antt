use Rattle.std.proofs.Common.{◌≡◌, ◌+◌, ◌++◌, [], ◌∷◌, length, true, false, None, Some, sym, ap, ◌∙◌, subst, append_assoc, List}
use Rattle.sh_kernel_descriptors.specs.Closings.{Pipes, descriptors_left, pipes_left}
use Rattle.sh_kernel_descriptors.specs.Counts.{first_listed, given, held_left, with_ends}
use Rattle.sh_kernel_descriptors.specs.Kept.{IsPaired, Linked, NoneOf, PipesAgree, listed}
use Rattle.sh_kernel_descriptors.specs.Naming.{end_of}
use Rattle.sh_kernel_descriptors.specs.declared.descriptor.Closing.TheVariants.{Named}
use Rattle.sh_kernel_descriptors.specs.declared.descriptor.DescriptorRef.TheVariants.{Number}
use Rattle.sh_kernel_descriptors.specs.declared.description.Description.{Description}
use Rattle.sh_kernel_descriptors.specs.declared.description.Target.TheVariants.{ReadEnd, WriteEnd}
use Rattle.sh_kernel_descriptors.specs.declared.kept.Held.{Held}
use Rattle.sh_kernel_descriptors.proofs.Coming.{length_more, linked_alike, linked_longer}
use Rattle.sh_kernel_descriptors.proofs.Giving.{listed_append, listed_given}
use Rattle.sh_kernel_descriptors.proofs.Going.{left_behind}
use Rattle.sh_kernel_descriptors.proofs.Leaving.{listed_of}
use Rattle.sh_kernel_descriptors.proofs.Pairs.{alike_joined, counted_joined, paired_first, paired_left, paired_two}
use Rattle.sh_kernel_descriptors.proofs.naming.add_ends.Goals as goal

-- the table between
mid-listed : (c : goal.After-join) → listed c.add_one-first.new.held.items ≡ first_listed c.args.pid c.args.from c.args.k (listed c.args.held.now.items)
mid-listed c =
    listed_given (held_left c.args.pid (Named (Number c.args.from)) c.args.held.now.items) c.add_one-first.new.held.items (given c.args.pid c.args.from c.args.k c.add_one-first.result) _
    (listed_of c.args.pid (Named (Number c.args.from)) c.args.held.now.items) c.add_one-first.ensures.items

-- the same behind the descriptors of other processes
mid-behind : (c : goal.After-join) (more : List Held) → NoneOf c.args.pid more → listed (more ++ c.add_one-first.new.held.items) ≡ first_listed c.args.pid c.args.from c.args.k (listed (more ++ c.args.held.now.items))
mid-behind c more none =
    listed_append more c.add_one-first.new.held.items ∙ ap (λ ds. listed more ++ ds) (mid-listed c)
    ∙ sym (append_assoc (listed more) (descriptors_left c.args.pid (Named (Number c.args.from)) (listed c.args.held.now.items)) (record { pid = c.args.pid; number = Some c.args.from; description = c.args.k } ∷ []))
    ∙ ap (λ ds. ds ++ record { pid = c.args.pid; number = Some c.args.from; description = c.args.k } ∷ []) (sym (left_behind c.args.pid (Named (Number c.args.from)) more c.args.held.now.items none))

ends : (c : goal.After-join) (es : List Description) → (es ++ c.end_of-reads.result ∷ []) ++ c.end_of-writes.result ∷ [] ≡ with_ends c.args.pipe es
ends c es =
    append_assoc es (c.end_of-reads.result ∷ []) (c.end_of-writes.result ∷ []) ∙ ap (λ d. es ++ d ∷ c.end_of-writes.result ∷ []) c.end_of-reads.ensures
    ∙ ap (λ d. es ++ end_of (ReadEnd c.args.pipe) true ∷ d ∷ []) c.end_of-writes.ensures

number : (c : goal.After-join) (es : List Description) → c.args.k ≡ length es → c.args.k + 1 ≡ length (es ++ c.end_of-reads.result ∷ [])
number c es k = ap (λ m. m + 1) k ∙ sym (length_more es c.end_of-reads.result)

mid-paired : (c : goal.After-join) → IsPaired c.args.pipe c.args.entries.now → IsPaired (c.args.pipe + 1) c.add_one-first.new.entries
mid-paired c pair =
    let added = c.add_one-first.ensures.added in
    paired_first c.args.pipe c.add_one-first.result added.between c.add_one-first.new.entries (record { description = c.end_of-reads.result; count = 1; other = None }) (ap (λ d. d.target) c.end_of-reads.ensures) added.updates
    (paired_left c.args.pid (Named (Number c.args.from)) c.args.held.now.items c.args.entries.now added.between added.gone c.args.pipe pair)

pub returns-clause-listed : goal.returns-clause-listed
returns-clause-listed c =
    listed_given (held_left c.args.pid (Named (Number c.args.to)) c.add_one-first.new.held.items) c.add_one-second.new.held.items (given c.args.pid c.args.to (c.args.k + 1) c.add_one-second.result) _
    (listed_of c.args.pid (Named (Number c.args.to)) c.add_one-first.new.held.items) c.add_one-second.ensures.items
    ∙ ap (λ ds. descriptors_left c.args.pid (Named (Number c.args.to)) ds ++ record { pid = c.args.pid; number = Some c.args.to; description = c.args.k + 1 } ∷ []) (mid-listed c)

pub returns-clause-counted : goal.returns-clause-counted
returns-clause-counted c more n =
    counted_joined (more ++ c.add_one-second.new.held.items) c.add_one-second.new.entries c.join.new.entries c.add_one-first.result c.add_one-second.result c.join.ensures.at c.join.ensures.others
    (c.add_one-second.ensures.counted more (c.add_one-first.ensures.counted more n))

pub returns-clause-linked : goal.returns-clause-linked
returns-clause-linked c more es k n l =
    linked_alike (more ++ c.add_one-second.new.held.items) c.add_one-second.new.entries c.join.new.entries (with_ends c.args.pipe es)
    (alike_joined c.add_one-second.new.entries c.join.new.entries c.add_one-first.result c.add_one-second.result c.join.ensures.at c.join.ensures.others)
    (subst (λ xs. Linked (more ++ c.add_one-second.new.held.items) c.add_one-second.new.entries xs) (ends c es)
    (c.add_one-second.ensures.linked more (es ++ c.end_of-reads.result ∷ []) (number c es k) (c.add_one-first.ensures.counted more n) (c.add_one-first.ensures.linked more es k n l)))

pub returns-clause-paired : goal.returns-clause-paired
returns-clause-paired c pair =
    paired_two c.args.pipe c.add_one-first.result c.add_one-second.result c.args.pid c.args.from c.args.to c.end_of-reads.result c.end_of-writes.result c.args.held.now.items c.add_one-first.new.held.items
    c.args.entries.now c.add_one-first.new.entries c.add_one-second.new.entries c.join.new.entries (ap (λ d. d.target) c.end_of-reads.ensures) (ap (λ d. d.target) c.end_of-writes.ensures)
    c.add_one-first.ensures.added c.add_one-second.ensures.added c.join.ensures.at c.join.ensures.others pair

pub returns-clause-pipes : goal.returns-clause-pipes
returns-clause-pipes c more es ps none k pair n l agree p =
    let all = with_ends c.args.pipe es in
    let n1 = c.add_one-first.ensures.counted more n in
    let before : Linked (more ++ c.args.held.now.items) c.args.entries.now all = linked_longer (more ++ c.args.held.now.items) c.args.entries.now es (end_of (ReadEnd c.args.pipe) true ∷ end_of (WriteEnd c.args.pipe) false ∷ []) n l in
    let mid : Linked (more ++ c.add_one-first.new.held.items) c.add_one-first.new.entries all =
    subst (λ xs. Linked (more ++ c.add_one-first.new.held.items) c.add_one-first.new.entries xs) (ends c es)
    (linked_longer (more ++ c.add_one-first.new.held.items) c.add_one-first.new.entries (es ++ c.end_of-reads.result ∷ []) (c.end_of-writes.result ∷ []) n1 (c.add_one-first.ensures.linked more es k n l)) in
    let left : Pipes = pipes_left c.args.pid (Named (Number c.args.from)) (listed (more ++ c.args.held.now.items)) all ps in
    let agree1 : PipesAgree c.add_one-first.new.pipes.entries left = c.add_one-first.ensures.pipes more c.args.pipe all ps none pair n before agree in
    let agree2 : PipesAgree c.add_one-second.new.pipes.entries (pipes_left c.args.pid (Named (Number c.args.to)) (listed (more ++ c.add_one-first.new.held.items)) all left) =
    c.add_one-second.ensures.pipes more (c.args.pipe + 1) all left none (mid-paired c pair) n1 mid agree1 in
    subst (λ ds. PipesAgree c.add_one-second.new.pipes.entries (pipes_left c.args.pid (Named (Number c.args.to)) ds all left)) (mid-behind c more none) agree2 p

pub add_one-second-requires-clause-room : goal.add_one-second-requires-clause-room
add_one-second-requires-clause-room c = c.add_one-first.ensures.room 1 c.requires.room
