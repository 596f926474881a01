-- How many processes live is counted as they come and end.
use Rattle.std.specs.Prelude.{ℕ, ◌+◌, ◌-◌, List, min, Bool, true, false}
use Rattle.sh_kernel_processes.specs.declared.process.Process.{Process}

-- all processes that ever were, and how many more can be kept without more memory
pub record ProcessesKept : Type 0 where
  pub all : List Process
  pub room : ℕ

-- so many live after one got another status: whether it lived before, and whether it lives now
abbrev pub living_after : ℕ → (before : Bool) → (after : Bool) → ℕ
living_after n true true = n
living_after n true false = n - 1
living_after n false true = min (n + 1) 18446744073709551615
living_after n false false = n
