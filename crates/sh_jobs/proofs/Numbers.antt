-- The least free number: n jobs leave one of the first n + 1 numbers free.
use Rattle.std.proofs.Common.{◌≡◌, ℕ, zero, suc, ◌+◌, ◌<◌, ◌≤◌, ◌⊎◌, inl, inr, List, [], ◌∷◌, Bool, true, false, length, refl, sym, arith}
use Rattle.std.proofs.lemmas.Bool.{cases_lt}
use Rattle.std.proofs.lemmas.Grind.{common_steps}
use Rattle.sh_jobs.specs.Table.{IsLeastFree, free_from, free_number, has_number, is_taken, without}
use Rattle.sh_jobs.specs.declared.job.Job.{Job}

no_longer : (jobs : List Job) (v : ℕ) → length (without jobs v) ≤ length jobs
no_longer [] v = omega arith
no_longer (job ∷ jobs) v = grind (arith, no_longer jobs v)

shorter_by : (job : Job) (jobs : List Job) (v : ℕ) (b : Bool) → has_number v job ≡ b → (is_taken jobs v ≡ true → length (without jobs v) + 1 ≤ length jobs)
    → is_taken (job ∷ jobs) v ≡ true → length (without (job ∷ jobs) v) + 1 ≤ length (job ∷ jobs)
shorter_by job jobs v true e rest h = let l = no_longer jobs v in rw e (omega arith)
shorter_by job jobs v false e rest h = let l = rest (rw e at h) in rw e (omega arith)

shorter : (jobs : List Job) (v : ℕ) → is_taken jobs v ≡ true → length (without jobs v) + 1 ≤ length jobs
shorter [] v h = absurd (cc)
shorter (job ∷ jobs) v h = shorter_by job jobs v (has_number v job) refl (shorter jobs v) h

still_taken_by : (job : Job) (jobs : List Job) (v k : ℕ) (b : Bool) → has_number v job ≡ b → (k ≡ v → ⊥) → (is_taken jobs k ≡ true → is_taken (without jobs v) k ≡ true)
    → is_taken (job ∷ jobs) k ≡ true → is_taken (without (job ∷ jobs) v) k ≡ true
still_taken_by job jobs v k true e apart rest h = grind (arith, common_steps)
still_taken_by job jobs v k false e apart rest h = grind (arith, common_steps)

still_taken : (jobs : List Job) (v k : ℕ) → (k ≡ v → ⊥) → is_taken jobs k ≡ true → is_taken (without jobs v) k ≡ true
still_taken [] v k apart h = h
still_taken (job ∷ jobs) v k apart h = still_taken_by job jobs v k (has_number v job) refl apart (still_taken jobs v k apart) h

pub as_many : (m : ℕ) (jobs : List Job) → ((k : ℕ) → 1 ≤ k → k ≤ m → is_taken jobs k ≡ true) → m ≤ length jobs
as_many zero jobs h = omega arith
as_many (suc m) jobs h =
    let fewer = as_many m (without jobs (suc m)) (λ k from to. still_taken jobs (suc m) k (λ e. omega arith) (h k from (omega arith))) in
    let less = shorter jobs (suc m) (h (suc m) (omega arith) (omega arith)) in
    omega arith

-- a number that is free, where all before it from this one on are taken
further_on : (jobs : List Job) (more number n : ℕ) → is_taken jobs n ≡ false → ((is_taken jobs number ≡ true) × (number + 1 ≤ n)) ⊎ (number ≡ n)
    → (number + 1 ≤ n → free_from jobs more (number + 1) ≡ n) → free_from jobs (suc more) number ≡ n
further_on jobs more number n free (inl (taken, below)) rest = rw taken (rest below)
further_on jobs more number n free (inr e) rest = let f : is_taken jobs number ≡ false = rw e free in rw f e

here_or_later : (jobs : List Job) (number n : ℕ) → number ≤ n → ((k : ℕ) → number ≤ k → k < n → is_taken jobs k ≡ true)
    → (number < n) ⊎ (n ≤ number) → ((is_taken jobs number ≡ true) × (number + 1 ≤ n)) ⊎ (number ≡ n)
here_or_later jobs number n from taken (inl l) = inl (taken number (omega arith) l, omega arith)
here_or_later jobs number n from taken (inr l) = inr (omega arith)

pub free_from_is : (jobs : List Job) (more number n : ℕ) → number ≤ n → n ≤ number + more → ((k : ℕ) → number ≤ k → k < n → is_taken jobs k ≡ true)
    → is_taken jobs n ≡ false → free_from jobs more number ≡ n
free_from_is jobs zero number n from to taken free = omega arith
free_from_is jobs (suc more) number n from to taken free =
    further_on jobs more number n free (here_or_later jobs number n from taken (cases_lt number n))
    (λ below. free_from_is jobs more (number + 1) n below (omega arith) (λ k a b. taken k (omega arith) b) free)

-- the first free number is the least
pub least_is : (jobs : List Job) (n : ℕ) → 1 ≤ n → n ≤ length jobs + 1 → ((k : ℕ) → 1 ≤ k → k < n → is_taken jobs k ≡ true)
    → is_taken jobs n ≡ false → n ≡ free_number jobs
least_is jobs n from to taken free = sym (free_from_is jobs (length jobs) 1 n from (omega arith) taken free)

-- the number after as many as there are jobs is free, where those are taken
taken_or : (jobs : List Job) (k : ℕ) → ((k : ℕ) → 1 ≤ k → k < length jobs + 1 → is_taken jobs k ≡ true) → 1 ≤ k → is_taken jobs (length jobs + 1) ≡ true
    → (k < length jobs + 1) ⊎ (length jobs + 1 ≤ k) → k ≤ length jobs + 1 → is_taken jobs k ≡ true
taken_or jobs k taken from here (inl l) to = taken k from l
taken_or jobs k taken from here (inr l) to = let e : k ≡ length jobs + 1 = omega arith in rw e here

last_by : (jobs : List Job) → ((k : ℕ) → 1 ≤ k → k < length jobs + 1 → is_taken jobs k ≡ true) → (b : Bool) → is_taken jobs (length jobs + 1) ≡ b → b ≡ false
last_by jobs taken false e = refl
last_by jobs taken true e =
    let more = as_many (length jobs + 1) jobs (λ k from to. taken_or jobs k taken from e (cases_lt k (length jobs + 1)) to) in absurd (omega arith)

pub last_is_free : (jobs : List Job) → ((k : ℕ) → 1 ≤ k → k < length jobs + 1 → is_taken jobs k ≡ true) → is_taken jobs (length jobs + 1) ≡ false
last_is_free jobs taken = last_by jobs taken (is_taken jobs (length jobs + 1)) refl

-- ---- the first free number is free, and from 1 on
least_by : (jobs : List Job) (more number : ℕ) (b : Bool) → is_taken jobs number ≡ b → 1 ≤ number → ((k : ℕ) → 1 ≤ k → k < number → is_taken jobs k ≡ true)
    → (is_taken jobs number ≡ true → IsLeastFree jobs (free_from jobs more (number + 1))) → IsLeastFree jobs (free_from jobs (suc more) number)
least_by jobs more number true e from taken rest = rw e (rest e)
least_by jobs more number false e from taken rest = rw e (record { from_one = from; free = e; least = taken })

one_more_taken : (jobs : List Job) (number : ℕ) → is_taken jobs number ≡ true → ((k : ℕ) → 1 ≤ k → k < number → is_taken jobs k ≡ true)
    → (k : ℕ) → 1 ≤ k → k < number + 1 → (k < number) ⊎ (number ≤ k) → is_taken jobs k ≡ true
one_more_taken jobs number here taken k from to (inl l) = taken k from l
one_more_taken jobs number here taken k from to (inr l) = let e : k ≡ number = omega arith in rw e here

least_from : (jobs : List Job) (more number : ℕ) → number + more ≡ length jobs + 1 → 1 ≤ number → ((k : ℕ) → 1 ≤ k → k < number → is_taken jobs k ≡ true)
    → IsLeastFree jobs (free_from jobs more number)
least_from jobs zero number sum from taken =
    let e : number ≡ length jobs + 1 = omega arith in
    record { from_one = from; free = rw e (last_is_free jobs (λ k a b. taken k a (omega arith))); least = taken }
least_from jobs (suc more) number sum from taken =
    least_by jobs more number (is_taken jobs number) refl from taken
    (λ here. least_from jobs more (number + 1) (omega arith) (omega arith) (λ k a b. one_more_taken jobs number here taken k a b (cases_lt k number)))

pub free_number_is_least : (jobs : List Job) → IsLeastFree jobs (free_number jobs)
free_number_is_least jobs = least_from jobs (length jobs) 1 (omega arith) (omega arith) (λ k a b. absurd (omega arith))
