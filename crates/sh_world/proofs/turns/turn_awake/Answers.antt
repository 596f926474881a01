use Rattle.std.proofs.Common.{List, ap, ◌∙◌, subst}
use Rattle.sh_exec.specs.Processes.{place_of, with_child}
use Rattle.sh_exec.specs.declared.task.Task.{Task}
use Rattle.sh_world.specs.Awake.{IsKept}
use Rattle.sh_world.proofs.Among.{turned_to, written_back}
use Rattle.sh_world.proofs.Keeping.{kept_turn, kept_watch}
use Rattle.sh_world.proofs.Watching.{place_is}
use Rattle.sh_world.proofs.turns.turn_awake.Goals as goal

pub turn_at-requires : goal.turn_at-requires
turn_at-requires g c =
    ap (λ (ts : List (Task _)). place_of c.args.pid ts) c.as_mut_slice.ensures.value
    ∙ place_is 0 c.requires.watched.last c.args.tasks.now.items c.args.place c.args.pid c.requires.watched.rise c.requires.among.at

-- the process is the only one that has changed
pub returns-then-is_kept-clause-turned : goal.returns-then-is_kept-clause-turned
returns-then-is_kept-clause-turned g c = λ s h.
    kept_turn g.S.Stock.meaning s c.args.kernel.now c.turn_at.new.kernel c.args.tasks.now.items c.as_mut_slice.result.now c.turn_at.new.tasks _ c.args.places.now c.args.pid c.args.place
    c.in_ok-child.child c.requires.watched c.requires.among c.in_ok-child.ensures.watch c.as_mut_slice.ensures.value c.in_ok-child.ensures.others
    (written_back c.turn_at.new.tasks _ c.args.tasks.now.len (c.turn_at.auto.tasks ∙ c.as_mut_slice.ensures.len))
    (subst (λ (ts : List (Task _)). IsKept c.turn_at.new.kernel ts c.in_ok-child.child c.args.place c.args.pid) c.as_slice.ensures.value (c.is_kept.ensures c.if-is_kept.true)) (c.in_ok-child.ensures.state s h)

pub returns-then-is_kept-clause-known : goal.returns-then-is_kept-clause-known
returns-then-is_kept-clause-known g c = λ known.
    kept_watch c.args.kernel.now c.turn_at.new.kernel c.args.tasks.now.items c.as_mut_slice.result.now c.turn_at.new.tasks _ c.args.places.now c.args.pid c.args.place
    c.in_ok-child.child c.requires.watched c.requires.among c.in_ok-child.ensures.watch c.as_mut_slice.ensures.value c.in_ok-child.ensures.others
    (written_back c.turn_at.new.tasks _ c.args.tasks.now.len (c.turn_at.auto.tasks ∙ c.as_mut_slice.ensures.len))
    (subst (λ (ts : List (Task _)). IsKept c.turn_at.new.kernel ts c.in_ok-child.child c.args.place c.args.pid) c.as_slice.ensures.value (c.is_kept.ensures c.if-is_kept.true))

-- the processes are those that the turn left, with the one that it made, less those that have ended
pub returns-clause-turned : goal.returns-clause-turned
returns-clause-turned g c = λ s h.
    turned_to g.S.Stock.meaning s c.turn_at.new.kernel c.args.tasks.now.items c.as_mut_slice.result.now c.turn_at.new.tasks c.put_child.new.tasks.items c.keep_living.new.tasks.items
    c.args.pid c.in_ok-child.child c.as_mut_slice.ensures.value (c.in_ok-child.ensures.state s h)
    (c.in_ok-put_child.ensures
    ∙ ap (λ these. with_child these c.in_ok-child.child) (written_back c.turn_at.new.tasks _ c.args.tasks.now.len (c.turn_at.auto.tasks ∙ c.as_mut_slice.ensures.len)))
    (λ t k. c.keep_living.ensures t k)
