-- The order of jobs: none is ahead of the best of a list.
use Rattle.std.proofs.Common.{◌≡◌, ℕ, inl, inr, List, [], ◌∷◌, Bool, true, false, cond, Some, map, refl, ap, ◌∙◌, arith}
use Rattle.std.proofs.lemmas.Bool.Decides.{nat_tests}
use Rattle.sh_kernel_processes.specs.declared.process.Process.{Process}
use Rattle.sh_jobs.specs.Laws.{IsAmong, IsFirst, NoneAhead}
use Rattle.sh_jobs.specs.Order.{ahead_by, best, first_number, first_of_two, is_ahead, is_later, rank_of}
use Rattle.sh_jobs.specs.declared.job.Job.{Job}
use Rattle.sh_jobs.proofs.Best.{some_same}
use Rattle.sh_jobs.specs.declared.order.Rank.{Rank}

later_self : (x : Rank) → is_later x x ≡ false
later_self x = grind (arith, nat_tests)

later_turned : (x y : Rank) → is_later x y ≡ true → is_later y x ≡ false
later_turned x y h = grind (arith, nat_tests)

later_chain : (x y z : Rank) → is_later x y ≡ false → is_later y z ≡ false → is_later x z ≡ false
later_chain x y z h k = grind (arith, nat_tests)

self_by : (s l : Bool) → l ≡ false → ahead_by s s l ≡ false
self_by true l h = h
self_by false l h = h

turned_by : (s t l m : Bool) → (l ≡ true → m ≡ false) → ahead_by s t l ≡ true → ahead_by t s m ≡ false
turned_by true true l m f h = f h
turned_by true false l m f h = refl
turned_by false true l m f h = absurd (cc)
turned_by false false l m f h = f h

chain_by : (s t u l m n : Bool) → (l ≡ false → m ≡ false → n ≡ false) → ahead_by s t l ≡ false → ahead_by t u m ≡ false → ahead_by s u n ≡ false
chain_by true true true l m n f h k = f h k
chain_by true true false l m n f h k = absurd (cc)
chain_by true false true l m n f h k = absurd (cc)
chain_by true false false l m n f h k = absurd (cc)
chain_by false true true l m n f h k = refl
chain_by false true false l m n f h k = absurd (cc)
chain_by false false true l m n f h k = refl
chain_by false false false l m n f h k = f h k

self : (x : Rank) → is_ahead x x ≡ false
self x = self_by x.suspended (is_later x x) (later_self x)

turned : (x y : Rank) → is_ahead x y ≡ true → is_ahead y x ≡ false
turned x y h = turned_by x.suspended y.suspended (is_later x y) (is_later y x) (later_turned x y) h

chain : (x y z : Rank) → is_ahead x y ≡ false → is_ahead y z ≡ false → is_ahead x z ≡ false
chain x y z h k = chain_by x.suspended y.suspended z.suspended (is_later x y) (is_later y z) (is_later x z) (later_chain x y z) h k

-- the first of these jobs, which has this rank
record Leads (ps : List Process) (jobs : List Job) (rank : Rank) : Type 0 where
  job : Job
  among : IsAmong job jobs
  ranked : rank_of ps job ≡ rank
  ahead : NoneAhead ps job jobs

all_behind : (ps : List Process) (job first : Job) (jobs : List Job) → is_ahead (rank_of ps first) (rank_of ps job) ≡ false → NoneAhead ps first jobs → NoneAhead ps job jobs
all_behind ps job first [] h none = tt
all_behind ps job first (other ∷ jobs) h none =
    (chain (rank_of ps other) (rank_of ps first) (rank_of ps job) none.0 h, all_behind ps job first jobs h none.1)

one_more_by : (ps : List Process) (job : Job) (jobs : List Job) (other : Rank) (b : Bool) → is_ahead other (rank_of ps job) ≡ b → Leads ps jobs other
    → Leads ps (job ∷ jobs) (cond b other (rank_of ps job))
one_more_by ps job jobs other true e first = record {
  job = first.job;
  among = inr first.among;
  ranked = first.ranked;
  ahead = (ap (λ rank. is_ahead (rank_of ps job) rank) first.ranked ∙ turned other (rank_of ps job) e, first.ahead);
}
one_more_by ps job jobs other false e first = record {
  job = job;
  among = inl refl;
  ranked = refl;
  ahead = (self (rank_of ps job), all_behind ps job first.job jobs (ap (λ rank. is_ahead rank (rank_of ps job)) first.ranked ∙ e) first.ahead);
}

one_more : (ps : List Process) (job : Job) (jobs : List Job) (other : Rank) → Leads ps jobs other → Leads ps (job ∷ jobs) (first_of_two (rank_of ps job) (Some other))
one_more ps job jobs other first = one_more_by ps job jobs other (is_ahead other (rank_of ps job)) refl first

leads : (ps : List Process) (job : Job) (jobs : List Job) → Leads ps (job ∷ jobs) (first_of_two (rank_of ps job) (best first_of_two (map (rank_of ps) jobs)))
leads ps job [] = record { job = job; among = inl refl; ranked = refl; ahead = (self (rank_of ps job), tt) }
leads ps job (other ∷ jobs) =
    one_more ps job (other ∷ jobs) (first_of_two (rank_of ps other) (best first_of_two (map (rank_of ps) jobs))) (leads ps other jobs)

pub first_is : (ps : List Process) (jobs : List Job) (number : ℕ) → first_number ps jobs ≡ Some number → IsFirst ps jobs number
first_is ps [] number h = absurd (cc)
first_is ps (job ∷ jobs) number h =
    let first = leads ps job jobs in
    record { job = first.job; among = first.among; numbered = ap (λ rank. rank.number) first.ranked ∙ some_same _ number h; ahead = first.ahead }
