-- What is left of a list, worked out from its end.
use Rattle.std.proofs.Common.{◌≡◌, ℕ, List, [], ◌∷◌, ◌++◌, Bool, true, false, cond, Option, Some, None, map, refl, sym, ap, ◌∙◌}
use Rattle.std.specs.Prelude.{filter}
use Rattle.sh_jobs.specs.Order.{best, is_kept}
use Rattle.sh_jobs.specs.declared.job.Job.{Job}

-- what is left of a list, where this is left of what follows it
abbrev pub best_before : {X : Type 0} → (X → Option X → X) → Option X → List X → Option X
best_before pick last [] = last
best_before pick last (x ∷ xs) = Some (pick x (best_before pick last xs))

pub before_none : {X : Type 0} (pick : X → Option X → X) (xs : List X) → best_before pick None xs ≡ best pick xs
before_none pick [] = refl
before_none pick (x ∷ xs) = ap (λ last. Some (pick x last)) (before_none pick xs)

abbrev pub among : {X : Type 0} → (X → Option X → X) → (Job → X) → (Job → Bool) → Option X → List Job → Option X
among pick value keep last jobs = best_before pick last (map value (filter keep jobs))

-- the job before what is left of those after it
abbrev pub with_last : {X : Type 0} → (X → Option X → X) → (Job → X) → (Job → Bool) → Option X → Job → Option X
with_last pick value keep last job = cond (keep job) (Some (pick (value job) last)) last

first_by : {X : Type 0} (pick : X → Option X → X) (value : Job → X) (keep : Job → Bool) (last next : Option X) (job : Job) (xs ys : List Job) (b : Bool)
    → keep job ≡ b → among pick value keep last ys ≡ among pick value keep next xs
    → among pick value keep last (job ∷ ys) ≡ among pick value keep next (job ∷ xs)
first_by pick value keep last next job xs ys true e h = rw e (ap (λ left. Some (pick (value job) left)) h)
first_by pick value keep last next job xs ys false e h = rw e h

alone_by : {X : Type 0} (pick : X → Option X → X) (value : Job → X) (keep : Job → Bool) (last : Option X) (job : Job) (b : Bool)
    → keep job ≡ b → among pick value keep last (job ∷ []) ≡ cond b (Some (pick (value job) last)) last
alone_by pick value keep last job true e = rw e refl
alone_by pick value keep last job false e = rw e refl

pub from_the_end : {X : Type 0} (pick : X → Option X → X) (value : Job → X) (keep : Job → Bool) (last : Option X) (others : List Job) (job : Job)
    → among pick value keep last (others ++ job ∷ []) ≡ among pick value keep (with_last pick value keep last job) others
from_the_end pick value keep last [] job = alone_by pick value keep last job (keep job) refl
from_the_end pick value keep last (other ∷ others) job =
    first_by pick value keep last (with_last pick value keep last job) other others (others ++ job ∷ []) (keep other) refl
    (from_the_end pick value keep last others job)

-- a step of a walk from the end
pub one_more : {X : Type 0} (pick : X → Option X → X) (value : Job → X) (keep : Job → Bool) (last next whole : Option X) (rest others : List Job) (job : Job)
    → rest ≡ others ++ job ∷ [] → next ≡ with_last pick value keep last job → among pick value keep last rest ≡ whole
    → among pick value keep next others ≡ whole
one_more pick value keep last next whole rest others job e n h =
    ap (λ x. among pick value keep x others) n ∙ sym (from_the_end pick value keep last others job) ∙ ap (λ jobs. among pick value keep last jobs) (sym e) ∙ h

pub all_kept : (jobs : List Job) → filter (is_kept None) jobs ≡ jobs
all_kept [] = refl
all_kept (job ∷ jobs) = ap (λ others. job ∷ others) (all_kept jobs)

pub some_same : (m n : ℕ) → Some m ≡ Some n → m ≡ n
some_same m n h = cc
