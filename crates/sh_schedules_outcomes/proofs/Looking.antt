-- The statuses of processes, one after the other.
use Rattle.std.proofs.Common.{◌≡◌, ℕ, zero, suc, ◌+◌, ◌-◌, ◌<◌, ◌≤◌, List, [], ◌∷◌, ◌++◌, length, map, take, Some, None, slice_get, Bool, true, nat_le, refl, sym, ap, ◌∙◌, arith, if◌then◌else◌, take_all}
use Rattle.std.specs.Option.{option_map}
use Rattle.sh_kernel_processes.specs.Processes.{status_at}
use Rattle.sh_kernel_processes.specs.declared.process.Process.{Process}
use Rattle.sh_kernel_processes.specs.declared.process.Status.{Status}
use Rattle.sh_schedules_outcomes.specs.declared.outcome.Ending.{Ending}
use Rattle.sh_schedules_outcomes.specs.declared.outcome.Outcome.{Outcome}
use Rattle.sh_schedules_outcomes.specs.declared.outcome.Waiter.{Waiter}

abbrev pub statuses_of : List Process → List Status
statuses_of ps = map (λ p. p.status) ps

get_here : (ps : List Process) (i : ℕ) → status_at ps (100 + i) ≡ option_map (λ p. p.status) (slice_get ps i)
get_here ps i =
    let at : 100 + i - 100 ≡ i = omega arith in
    let above : nat_le 100 (100 + i) ≡ true = grind arith in
    ap (λ (b : Bool). option_map (λ p. p.status) (if b then slice_get ps (100 + i - 100) else None)) above
    ∙ ap (λ (j : ℕ). option_map (λ p. p.status) (slice_get ps j)) at

some_there : (ps : List Process) (i : ℕ) (v : Status) → option_map (λ p. p.status) (slice_get ps i) ≡ Some v → take (suc i) (statuses_of ps) ≡ take i (statuses_of ps) ++ v ∷ []
some_there [] i v h = cc
some_there (p ∷ ps) zero v h = let e : p.status ≡ v = cc in ap (λ (w : Status). w ∷ []) e
some_there (p ∷ ps) (suc i) v h = ap (λ (ws : List Status). p.status ∷ ws) (some_there ps i v h)

some_within : (ps : List Process) (i : ℕ) (v : Status) → option_map (λ p. p.status) (slice_get ps i) ≡ Some v → i < length ps
some_within [] i v h = cc
some_within (p ∷ ps) zero v h = omega arith
some_within (p ∷ ps) (suc i) v h = let rest = some_within ps i v h in omega arith

none_within : (ps : List Process) (i : ℕ) → option_map (λ p. p.status) (slice_get ps i) ≡ None → length ps ≤ i
none_within [] i h = omega arith
none_within (p ∷ ps) zero h = cc
none_within (p ∷ ps) (suc i) h = let rest = none_within ps i h in omega arith

-- one status more
status_more : (ps : List Process) (i : ℕ) (v : Status) (statuses : List Status) → status_at ps (100 + i) ≡ Some v → statuses ≡ take i (statuses_of ps) →
    (statuses ++ v ∷ [] ≡ take (i + 1) (statuses_of ps)) × (i + 1 ≤ length ps)
status_more ps i v statuses h is =
    let there = sym (get_here ps i) ∙ h in
    let within = some_within ps i v there in
    let e : suc i ≡ i + 1 = omega arith in
    (ap (λ (ws : List Status). ws ++ v ∷ []) is ∙ sym (some_there ps i v there) ∙ ap (λ (j : ℕ). take j (statuses_of ps)) e, omega arith)

-- the same, of statuses that this one was added to
pub status_pushed : (ps : List Process) (i : ℕ) (v : Status) (statuses pushed : List Status) → Some v ≡ status_at ps (100 + i) → statuses ≡ take i (statuses_of ps) →
    pushed ≡ statuses ++ v ∷ [] → (pushed ≡ take (i + 1) (statuses_of ps)) × (i + 1 ≤ length ps)
status_pushed ps i v statuses pushed h is push = let more = status_more ps i v statuses (sym h) is in (push ∙ more.0, more.1)

as_long : (ps : List Process) → length (statuses_of ps) ≡ length ps
as_long [] = refl
as_long (p ∷ ps) = ap suc (as_long ps)

-- all statuses
pub status_none : (ps : List Process) (i most : ℕ) (statuses : List Status) → status_at ps (100 + i) ≡ None → i ≤ most → statuses ≡ take i (statuses_of ps) →
    statuses ≡ take most (statuses_of ps)
status_none ps i most statuses h few is =
    let within = none_within ps i (sym (get_here ps i) ∙ h) in
    let longer = as_long ps in
    let all : length (statuses_of ps) ≤ i = omega arith in
    let beyond : length (statuses_of ps) ≤ most = omega arith in
    is ∙ take_all _ _ all ∙ sym (take_all _ _ beyond)

-- an outcome by its parts
pub by_parts : (terminal terminal' image image' : List ℕ) (statuses statuses' : List Status) (ending ending' : Ending) (waiters waiters' : List Waiter) → terminal ≡ terminal' → image ≡ image'
    → statuses ≡ statuses' → ending ≡ ending' → waiters ≡ waiters' →
    ◌≡◌ {A = Outcome} (record { terminal = terminal; image = image; statuses = statuses; ending = ending; waiters = waiters })
    (record { terminal = terminal'; image = image'; statuses = statuses'; ending = ending'; waiters = waiters' })
by_parts terminal terminal' image image' statuses statuses' ending ending' waiters waiters' a b c d e = cc
