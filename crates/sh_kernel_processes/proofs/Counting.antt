-- How many processes live, as they come and end.
use Rattle.std.proofs.Common.{◌≡◌, ℕ, zero, suc, ◌+◌, ◌-◌, ◌<◌, ◌≤◌, List, [], ◌∷◌, ◌++◌, length, filter, Bool, true, false, cond, Option, Some, None, nat_le, slice_get, slice_set, refl, ap, arith}
use Rattle.std.specs.Option.{option_map}
use Rattle.sh_kernel_processes.specs.Living.{living_after}
use Rattle.sh_kernel_processes.specs.Processes.{is_live, is_living, live_count, process_at, status_at, with_status, with_status_of}
use Rattle.sh_kernel_processes.specs.declared.process.Process.{Process}
use Rattle.sh_kernel_processes.specs.declared.process.Status.{Status}
use Rattle.sh_kernel_processes.specs.declared.process.Status.TheVariants.{Running}

abbrev pub one : Bool → ℕ
one true = 1
one false = 0

counted : (p : Process) (ps : List Process) → live_count (p ∷ ps) ≡ one (is_living p) + live_count ps
counted p ps = of_test (is_living p)
  where
    of_test : (b : Bool) → length (cond b (p ∷ filter is_living ps) (filter is_living ps)) ≡ one b + length (filter is_living ps)
    of_test true = omega arith
    of_test false = omega arith

pub within : (ps : List Process) → live_count ps ≤ length ps
within [] = omega arith
within (p ∷ ps) = of_test (is_living p) (counted p ps) (within ps)
  where
    of_test : (b : Bool) → live_count (p ∷ ps) ≡ one b + live_count ps → live_count ps ≤ length ps → live_count (p ∷ ps) ≤ suc (length ps)
    of_test true e h = omega (arith, e, h)
    of_test false e h = omega (arith, e, h)

pub one_more : (maker : ℕ) (ps : List Process) → live_count (ps ++ record { maker = maker; status = Running } ∷ []) ≡ live_count ps + 1
one_more maker [] = refl
one_more maker (p ∷ ps) = of_test (is_living p) (counted p ps) (counted p (ps ++ record { maker = maker; status = Running } ∷ [])) (one_more maker ps)
  where
    of_test : (b : Bool) → live_count (p ∷ ps) ≡ one b + live_count ps → live_count (p ∷ (ps ++ record { maker = maker; status = Running } ∷ [])) ≡ one b + live_count (ps ++ record { maker = maker; status = Running } ∷ [])
        → live_count (ps ++ record { maker = maker; status = Running } ∷ []) ≡ live_count ps + 1
        → live_count (p ∷ (ps ++ record { maker = maker; status = Running } ∷ [])) ≡ live_count (p ∷ ps) + 1
    of_test true e f h = omega (arith, e, f, h)
    of_test false e f h = omega (arith, e, f, h)

-- one of the processes gets another status
changed_at : (ps : List Process) (i : ℕ) (p q : Process) → slice_get ps i ≡ Some p → live_count (slice_set ps i q) + one (is_living p) ≡ live_count ps + one (is_living q)
changed_at [] i p q e = absurd (cc)
changed_at (x ∷ ps) zero p q e = let same : x ≡ p = cc in omega (arith, counted x ps, counted q ps, ap (λ y. one (is_living y)) same)
changed_at (x ∷ ps) (suc i) p q e = omega (arith, counted x ps, counted x (slice_set ps i q), changed_at ps i p q e)

stays_within : (ps : List Process) (i : ℕ) (q : Process) → length (slice_set ps i q) ≡ length ps
stays_within [] i q = refl
stays_within (x ∷ ps) zero q = refl
stays_within (x ∷ ps) (suc i) q = ap (λ n. suc n) (stays_within ps i q)

after : (n m : ℕ) (a b : Bool) → m + one a ≡ n + one b → m < 18446744073709551616 → living_after n a b ≡ m
after n m true true e h = omega (arith, e)
after n m true false e h = omega (arith, e)
after n m false true e h = omega (arith, e, h)
after n m false false e h = omega (arith, e)

pub changed : (ps : List Process) (pid : ℕ) (before status : Status) (n : ℕ) → n ≡ live_count ps → length ps < 18446744073709551616 → status_at ps pid ≡ Some before
    → living_after n (is_live before) (is_live status) ≡ live_count (with_status ps pid status)
changed ps pid before status n c small e = of_test (nat_le 100 pid) e
  where
    of_found : (o : Option Process) → slice_get ps (pid - 100) ≡ o → option_map (λ (p : Process). p.status) o ≡ Some before → living_after n (is_live before) (is_live status) ≡ live_count (with_status_of ps pid status o)
    of_found None g f = absurd (cc)
    of_found (Some p) g f =
        let q : Process = record p { status = status } in
        let same : p.status ≡ before = cc in
        let d = changed_at ps (pid - 100) p q g in
        let t = ap (λ s. one (is_live s)) same in
        after n (live_count (slice_set ps (pid - 100) q)) (is_live before) (is_live status) (omega (arith, d, t, c))
        (omega (arith, within (slice_set ps (pid - 100) q), stays_within ps (pid - 100) q, small))

    of_test : (b : Bool) → option_map (λ (p : Process). p.status) (cond b (slice_get ps (pid - 100)) None) ≡ Some before → living_after n (is_live before) (is_live status) ≡ live_count (with_status_of ps pid status (cond b (slice_get ps (pid - 100)) None))
    of_test true f = of_found (slice_get ps (pid - 100)) refl f
    of_test false f = absurd (cc)

pub unknown : (ps : List Process) (pid : ℕ) (status : Status) → status_at ps pid ≡ None → with_status ps pid status ≡ ps
unknown ps pid status e = of_found (process_at ps pid) e
  where
    of_found : (o : Option Process) → option_map (λ (p : Process). p.status) o ≡ None → with_status_of ps pid status o ≡ ps
    of_found None f = refl
    of_found (Some p) f = absurd (cc)
