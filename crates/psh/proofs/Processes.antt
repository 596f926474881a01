-- The lines of the processes, one more at a time.
use Rattle.std.proofs.Common.{◌≡◌, ℕ, zero, suc, ◌+◌, ◌-◌, ◌<◌, ◌≤◌, List, [], ◌∷◌, ◌++◌, append_assoc, length, take, take_all, Some, None, slice_get, Bool, true, nat_le, refl, sym, ap, ◌∙◌, arith, if◌then◌else◌}
use Rattle.std.specs.Option.{option_map}
use Rattle.sh_kernel_processes.specs.Processes.{status_at}
use Rattle.sh_kernel_processes.specs.declared.process.Process.{Process}
use Rattle.sh_kernel_processes.specs.declared.process.Status.{Status}
use Rattle.psh_common.specs.Processes.{process_line}
use Rattle.psh.specs.Report.{process_lines, shown_processes}

-- ---- the process at a place
get_here : (ps : List Process) (i : ℕ) → status_at ps (100 + i) ≡ option_map (λ p. p.status) (slice_get ps i)
get_here ps i =
    let at : 100 + i - 100 ≡ i = omega arith in
    let above : nat_le 100 (100 + i) ≡ true = grind arith in
    ap (λ (b : Bool). option_map (λ p. p.status) (if b then slice_get ps (100 + i - 100) else None)) above
    ∙ ap (λ (j : ℕ). option_map (λ p. p.status) (slice_get ps j)) at

some_within : (ps : List Process) (i : ℕ) (v : Status) → option_map (λ p. p.status) (slice_get ps i) ≡ Some v → i < length ps
some_within [] i v h = cc
some_within (p ∷ ps) zero v h = omega arith
some_within (p ∷ ps) (suc i) v h = let rest = some_within ps i v h in omega arith

none_within : (ps : List Process) (i : ℕ) → option_map (λ p. p.status) (slice_get ps i) ≡ None → length ps ≤ i
none_within [] i h = omega arith
none_within (p ∷ ps) zero h = cc
none_within (p ∷ ps) (suc i) h = let rest = none_within ps i h in omega arith

-- ---- its line is behind those of the processes before it
append_none : (xs : List ℕ) → xs ++ [] ≡ xs
append_none [] = refl
append_none (x ∷ xs) = ap (λ ys. x ∷ ys) (append_none xs)

line_behind : (pid : ℕ) (ps : List Process) (i : ℕ) (v : Status) → option_map (λ p. p.status) (slice_get ps i) ≡ Some v →
    process_lines pid (take (suc i) ps) ≡ process_lines pid (take i ps) ++ process_line (pid + i) v
line_behind pid [] i v h = cc
line_behind pid (p ∷ ps) zero v h =
    let e : p.status ≡ v = cc in
    let same : pid ≡ pid + 0 = omega arith in
    append_none (process_line pid p.status) ∙ ap (process_line pid) e ∙ ap (λ (n : ℕ). process_line n v) same
line_behind pid (p ∷ ps) (suc i) v h =
    let same : pid + 1 + i ≡ pid + suc i = omega arith in
    ap (λ xs. process_line pid p.status ++ xs) (line_behind (pid + 1) ps i v h)
    ∙ sym (append_assoc (process_line pid p.status) (process_lines (pid + 1) (take i ps)) (process_line (pid + 1 + i) v))
    ∙ ap (λ (n : ℕ). (process_line pid p.status ++ process_lines (pid + 1) (take i ps)) ++ process_line n v) same

-- ---- one more is told, there is none, there are as many as there may be
pub told_more : (ps : List Process) (i : ℕ) (v : Status) (told more before : List ℕ) → Some v ≡ status_at ps (100 + i) → told ≡ before ++ process_lines 100 (take i ps)
    → more ≡ told ++ process_line (100 + i) v → (more ≡ before ++ process_lines 100 (take (i + 1) ps)) × (i + 1 ≤ length ps)
told_more ps i v told more before h is add =
    let there = sym (get_here ps i) ∙ sym h in
    let within = some_within ps i v there in
    let e : suc i ≡ i + 1 = omega arith in (
      add ∙ ap (λ xs. xs ++ process_line (100 + i) v) is
          ∙ append_assoc before (process_lines 100 (take i ps)) (process_line (100 + i) v)
          ∙ ap (λ xs. before ++ xs) (sym (line_behind 100 ps i v there))
          ∙ ap (λ (j : ℕ). before ++ process_lines 100 (take j ps)) e,
      omega arith,
    )

pub told_all : (ps : List Process) (i : ℕ) (told before : List ℕ) → status_at ps (100 + i) ≡ None → i ≤ 2147483548 → told ≡ before ++ process_lines 100 (take i ps)
    → told ≡ before ++ process_lines 100 (shown_processes ps)
told_all ps i told before h few is =
    let within = none_within ps i (sym (get_here ps i) ∙ h) in
    let beyond : length ps ≤ 2147483548 = omega arith in
    is ∙ ap (λ (qs : List Process). before ++ process_lines 100 qs) (take_all _ _ within ∙ sym (take_all _ _ beyond))

pub told_full : (ps : List Process) (i : ℕ) (told before : List ℕ) → i ≡ 2147483548 → told ≡ before ++ process_lines 100 (take i ps) → told ≡ before ++ process_lines 100 (shown_processes ps)
told_full ps i told before e is = is ∙ ap (λ (j : ℕ). before ++ process_lines 100 (take j ps)) e
