use Rattle.std.proofs.Common.{◌∙◌, ap, map, option_map}
use Rattle.sh_jobs.specs.Order.{best, current_of, first_of_two, rank_of}
use Rattle.sh_jobs.proofs.Best.{all_kept}
use Rattle.sh_jobs.proofs.order.current.Goals as goal

pub returns : goal.returns
unfolding current_of
returns c = λ s h.
    c.number_of.ensures
    ∙ ap (option_map (λ rank. rank.number))
    (c.first_rank.ensures s h ∙ ap (λ jobs. best first_of_two (map (rank_of s.machine.processes) jobs)) (all_kept c.args.jobs.now))
