-- Marks of the numbers that are taken.
use Rattle.std.proofs.Common.{◌≡◌, ◌∙◌, ◌⊎◌, inl, inr, ℕ, zero, suc, ◌+◌, ◌-◌, ◌≤◌, ◌<◌, List, [], ◌∷◌, ◌++◌, Bool, true, false, get_or, set, length, map, take, ap, refl, sym, arith}
use Rattle.std.specs.Prelude.{◌==◌, ◌||◌}
use Rattle.std.proofs.Math.Seq.{take-append_seam}
use Rattle.std.proofs.lemmas.Bool.{cases_lt}
use Rattle.sh_jobs.specs.Marks.{AreMarked}
use Rattle.sh_jobs.specs.Table.{IsLeastFree, free_number, has_number, is_taken}
use Rattle.sh_jobs.specs.declared.job.Job.{Job}
use Rattle.sh_jobs.proofs.Apart.{taken_mapped}
use Rattle.sh_jobs.proofs.Numbers.{as_many, last_is_free, least_is}

-- jobs that keep their numbers keep their marks
pub mapped_marked : (change : Job → Job) → ((job : Job) → (change job).number ≡ job.number) → (jobs : List Job) (marks : List Bool) (filled : ℕ)
    → AreMarked jobs marks filled → AreMarked (map change jobs) marks filled
mapped_marked change same jobs marks filled marked = record {
  taken = λ k from to. taken_mapped change same jobs k ∙ marked.taken k from to;
  marked = λ k from to. marked.marked k from to ∙ sym (taken_mapped change same jobs k);
}

-- so do jobs of the same numbers
pub same_marked : (jobs new : List Job) (marks : List Bool) (filled : ℕ) → ((k : ℕ) → is_taken new k ≡ is_taken jobs k)
    → AreMarked jobs marks filled → AreMarked new marks filled
same_marked jobs new marks filled same marked = record {
  taken = λ k from to. same k ∙ marked.taken k from to;
  marked = λ k from to. marked.marked k from to ∙ sym (same k);
}

-- another job of the same number, at its place
by_number : (job : Job) (n k : ℕ) (b : Bool) → job.number ≡ n → (has_number k job || b) ≡ ((n == k) || b)
by_number job n k b e = ap (λ m. (m == k) || b) e

pub taken_set : (jobs : List Job) (i : ℕ) (old new : Job) (k : ℕ) → i < length jobs → get_or jobs i old ≡ old → new.number ≡ old.number
    → is_taken (set jobs i new) k ≡ is_taken jobs k
taken_set [] i old new k l h e = refl
taken_set (job ∷ jobs) zero old new k l h e = by_number new old.number k (is_taken jobs k) e ∙ ap (λ (one : Job). has_number k one || is_taken jobs k) (sym h)
taken_set (job ∷ jobs) (suc i) old new k l h e = ap (λ b. has_number k job || b) (taken_set jobs i old new k (omega arith) h e)

-- jobs that are written back to where they came from
pub written_marked : (jobs new after rest : List Job) (n : ℕ) (marks : List Bool) (filled : ℕ) → length new ≡ length jobs → length jobs ≡ n → new ≡ after
    → AreMarked after marks filled → AreMarked (take n (new ++ rest)) marks filled
written_marked jobs new after rest n marks filled same count e marked =
    let k : take n (new ++ rest) ≡ after = ap (λ m. take m (new ++ rest)) (sym (same ∙ count)) ∙ take-append_seam new rest ∙ e in
    rw k marked

-- all marks are right
pub all_marked : (jobs : List Job) (marks : List Bool) (filled : ℕ) → ((k : ℕ) → 1 ≤ k → k ≤ filled → is_taken jobs k ≡ true)
    → ((k : ℕ) → k < length marks → get_or marks k false ≡ is_taken jobs k) → AreMarked jobs marks filled
all_marked jobs marks filled taken marked = record { taken = taken; marked = λ k from to. marked k to }

-- ---- the first number without a mark
taken_before : (jobs : List Job) (marks : List Bool) (filled number k : ℕ) → AreMarked jobs marks filled
    → ((k : ℕ) → filled + 1 ≤ k → k < number → get_or marks k false ≡ true) → number ≤ length marks
    → 1 ≤ k → k < number → (k < filled + 1) ⊎ (filled + 1 ≤ k) → is_taken jobs k ≡ true
taken_before jobs marks filled number k marked first to a b (inl l) = marked.taken k a (omega arith)
taken_before jobs marks filled number k marked first to a b (inr l) = sym (marked.marked k (omega arith) (omega arith)) ∙ first k l b

pub found_is_least : (jobs : List Job) (marks : List Bool) (filled number : ℕ) → AreMarked jobs marks filled → filled + 1 ≤ number
    → ((k : ℕ) → filled + 1 ≤ k → k < number → get_or marks k false ≡ true) → number < length marks → get_or marks number false ≡ false
    → IsLeastFree jobs number
found_is_least jobs marks filled number marked from first to free = record {
  from_one = omega arith;
  free = sym (marked.marked number (omega arith) to) ∙ free;
  least = λ k a b. taken_before jobs marks filled number k marked first (omega arith) a b (cases_lt k (filled + 1));
}

-- all that have marks are taken
pub end_is_least : (jobs : List Job) (marks : List Bool) (filled number : ℕ) → AreMarked jobs marks filled → filled + 1 ≤ number
    → ((k : ℕ) → filled + 1 ≤ k → k < number → get_or marks k false ≡ true) → number ≡ length marks → length jobs + 1 ≤ length marks
    → IsLeastFree jobs number
end_is_least jobs marks filled number marked from first here enough =
    let before : (k : ℕ) → 1 ≤ k → k < number → is_taken jobs k ≡ true =
    λ k a b. taken_before jobs marks filled number k marked first (omega arith) a b (cases_lt k (filled + 1)) in
    let most = as_many (number - 1) jobs (λ k a b. before k a (omega arith)) in
    let e : number ≡ length jobs + 1 = omega arith in
    record { from_one = omega arith; free = rw e (last_is_free jobs (λ k a b. before k a (omega arith))); least = before }

pub first_is_least : (jobs : List Job) (marks : List Bool) (filled number : ℕ) → AreMarked jobs marks filled → filled + 1 ≤ number
    → ((k : ℕ) → filled + 1 ≤ k → k < number → get_or marks k false ≡ true) → (number < length marks → get_or marks number false ≡ false)
    → (filled + 1 ≤ length marks → number ≤ length marks) → length jobs + 1 ≤ length marks → (number < length marks) ⊎ (length marks ≤ number)
    → IsLeastFree jobs number
first_is_least jobs marks filled number marked from first unmarked bound enough (inl l) = found_is_least jobs marks filled number marked from first l (unmarked l)
first_is_least jobs marks filled number marked from first unmarked bound enough (inr l) =
    let most = as_many filled jobs marked.taken in end_is_least jobs marks filled number marked from first (omega arith) enough

-- the least free number is the first free one
pub least_is_number : (jobs : List Job) (number : ℕ) → IsLeastFree jobs number → number ≡ free_number jobs
least_is_number jobs number least =
    let most = as_many (number - 1) jobs (λ k from to. least.least k from (omega arith)) in
    least_is jobs number least.from_one (omega arith) least.least least.free
