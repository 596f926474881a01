use Rattle.std.proofs.Common.{arith, length}
use Rattle.std.proofs.lemmas.Bool.{cases_lt}
use Rattle.sh_jobs.specs.Marks.{AreMarked}
use Rattle.sh_jobs.specs.Table.{IsLeastFree}
use Rattle.sh_jobs.proofs.Marked.{all_marked, first_is_least, found_is_least, least_is_number}
use Rattle.sh_jobs.proofs.Numbers.{as_many}
use Rattle.sh_jobs.proofs.marks.Marks.free_number.Goals as goal

pub overflow_add-self : goal.overflow_add-self
overflow_add-self c = omega (arith, as_many c.args.self.now.filled c.args.jobs.now c.requires.taken)

pub returns-then-number-len-clause-value : goal.returns-then-number-len-clause-value
returns-then-number-len-clause-value c =
    least_is_number c.args.jobs.now c.first_unmarked-number.result (
    found_is_least c.args.jobs.now c.as_slice.result.now c.args.self.now.filled c.first_unmarked-number.result
    (rw c.as_slice.ensures.value c.requires) c.first_unmarked-number.ensures.from c.first_unmarked-number.ensures.marked (omega arith) (c.first_unmarked-number.ensures.unmarked (omega arith)))

least_found : (c : goal.After-first_unmarked) → IsLeastFree c.args.jobs.now c.first_unmarked.result
least_found c =
    let marked : AreMarked c.args.jobs.now c.as_slice-2.result.now c.args.self.now.filled =
    rw c.as_slice-2.ensures.value (all_marked c.args.jobs.now c.in_ok-self.field-0.items c.args.self.now.filled c.requires.taken c.in_ok-self.ensures.marked) in
    first_is_least c.args.jobs.now c.as_slice-2.result.now c.args.self.now.filled c.first_unmarked.result marked
    c.first_unmarked.ensures.from c.first_unmarked.ensures.marked c.first_unmarked.ensures.unmarked c.first_unmarked.ensures.bound
    (rw c.as_slice-2.ensures.value c.in_ok-self.ensures.length) (cases_lt c.first_unmarked.result (length c.as_slice-2.result.now))

pub returns-clause-value : goal.returns-clause-value
returns-clause-value c = least_is_number c.args.jobs.now c.first_unmarked.result (least_found c)

pub returns-clause-least : goal.returns-clause-least
returns-clause-least c = least_found c
