-- The next job that has changed has the least number.
use Rattle.std.proofs.Common.{◌≡◌, ℕ, ◌≤◌, inl, inr, List, [], ◌∷◌, Bool, true, false, cond, Option, Some, None, refl, sym, ◌∙◌, arith}
use Rattle.std.specs.Prelude.{nat_lt}
use Rattle.std.proofs.lemmas.Bool.Decides.{nat_tests}
use Rattle.sh_kernel_processes.specs.declared.process.Process.{Process}
use Rattle.sh_jobs.specs.Laws.{IsNext, NoneBefore, NoneHasChanged}
use Rattle.sh_jobs.specs.News.{has_changed, lesser, next_changed}
use Rattle.sh_jobs.specs.declared.job.Job.{Job}
use Rattle.sh_jobs.proofs.Best.{some_same}

-- ---- where there is none
none_by : (ps : List Process) (job : Job) (jobs : List Job) (b : Bool) → has_changed ps job ≡ b → (next_changed ps jobs ≡ None → NoneHasChanged ps jobs)
    → next_changed ps (job ∷ jobs) ≡ None → NoneHasChanged ps (job ∷ jobs)
none_by ps job jobs true e rest h = absurd (let k = rw e at h in cc)
none_by ps job jobs false e rest h = let k = rw e at h in (e, rest k)

pub none_is_next : (ps : List Process) (jobs : List Job) → next_changed ps jobs ≡ None → NoneHasChanged ps jobs
none_is_next ps [] h = tt
none_is_next ps (job ∷ jobs) h = none_by ps job jobs (has_changed ps job) refl (none_is_next ps jobs) h

none_before : (ps : List Process) (jobs : List Job) (number : ℕ) → NoneHasChanged ps jobs → NoneBefore ps number jobs
none_before ps [] number none = tt
none_before ps (job ∷ jobs) number none = (λ h. absurd (let e = sym none.0 ∙ h in cc), none_before ps jobs number none.1)

-- ---- where there is one
lower : (ps : List Process) (jobs : List Job) (m n : ℕ) → n ≤ m → NoneBefore ps m jobs → NoneBefore ps n jobs
lower ps [] m n le none = tt
lower ps (job ∷ jobs) m n le none =
    (λ h. let k : m ≤ job.number = none.0 h in omega arith, lower ps jobs m n le none.1)

-- the job itself has not changed
past : (ps : List Process) (job : Job) (jobs : List Job) (number : ℕ) → has_changed ps job ≡ false → IsNext ps jobs number → IsNext ps (job ∷ jobs) number
past ps job jobs number e next = record {
  job = next.job;
  among = inr next.among;
  changed = next.changed;
  numbered = next.numbered;
  least = (λ h. absurd (let k = sym e ∙ h in cc), next.least);
}

-- it has, and none after it has
alone : (ps : List Process) (job : Job) (jobs : List Job) → has_changed ps job ≡ true → NoneHasChanged ps jobs → IsNext ps (job ∷ jobs) job.number
alone ps job jobs e none =
    record { job = job; among = inl refl; changed = e; numbered = refl; least = (λ h. omega arith, none_before ps jobs job.number none) }

-- it has, and another one after it
either_by : (ps : List Process) (job : Job) (jobs : List Job) (other : ℕ) (b : Bool) → nat_lt other job.number ≡ b → has_changed ps job ≡ true → IsNext ps jobs other
    → IsNext ps (job ∷ jobs) (cond b other job.number)
either_by ps job jobs other true l e next = record {
  job = next.job;
  among = inr next.among;
  changed = next.changed;
  numbered = next.numbered;
  least = (λ h. grind (arith, nat_tests), next.least);
}
either_by ps job jobs other false l e next = record {
  job = job;
  among = inl refl;
  changed = e;
  numbered = refl;
  least = (λ h. omega arith, lower ps jobs other job.number (grind (arith, nat_tests)) next.least);
}

with_rest : (ps : List Process) (job : Job) (jobs : List Job) (rest : Option ℕ) → next_changed ps jobs ≡ rest → has_changed ps job ≡ true
    → ((n : ℕ) → rest ≡ Some n → IsNext ps jobs n) → IsNext ps (job ∷ jobs) (lesser job.number rest)
with_rest ps job jobs None f e next = alone ps job jobs e (none_is_next ps jobs f)
with_rest ps job jobs (Some other) f e next = either_by ps job jobs other (nat_lt other job.number) refl e (next other refl)

next_by : (ps : List Process) (job : Job) (jobs : List Job) (number : ℕ) (b : Bool) → has_changed ps job ≡ b → ((n : ℕ) → next_changed ps jobs ≡ Some n → IsNext ps jobs n)
    → next_changed ps (job ∷ jobs) ≡ Some number → IsNext ps (job ∷ jobs) number
next_by ps job jobs number true e next h =
    let k : Some (lesser job.number (next_changed ps jobs)) ≡ Some number = rw e at h in
    rw (← some_same (lesser job.number (next_changed ps jobs)) number k) (with_rest ps job jobs (next_changed ps jobs) refl e next)
next_by ps job jobs number false e next h = let k = rw e at h in past ps job jobs number e (next number k)

pub next_is : (ps : List Process) (jobs : List Job) (number : ℕ) → next_changed ps jobs ≡ Some number → IsNext ps jobs number
next_is ps [] number h = absurd (cc)
next_is ps (job ∷ jobs) number h = next_by ps job jobs number (has_changed ps job) refl (λ n k. next_is ps jobs n k) h
