-- How many schedules the shards tried, and whether each tried all of its own, one shard after another.
use Rattle.std.proofs.Common.{◌≡◌, ◌<◌, ◌+◌, ◌&&◌, ◌∙◌, ℕ, List, Bool, length, min, take, get_or, ap, sym, arith}
use Rattle.std.proofs.lemmas.List.Folds.{list_all_more}
use Rattle.std.proofs.lemmas.List.Sums.{sum_by_more}
use Rattle.std.specs.List.{list_all, sum_by}

-- a sum that stays at its bound once it has come to it
bounded : (a b most : ℕ) → min (min a most + b) most ≡ min (a + b) most
bounded a b most = omega arith

pub tried_next : {X : Type 0} (tried : X → ℕ) (files : List X) (i : ℕ) (file : X) (most old new : ℕ) → i < length files → file ≡ get_or files i file →
    old ≡ min (sum_by tried (take i files)) most → new ≡ min (old + tried file) most → new ≡ min (sum_by tried (take (i + 1) files)) most
tried_next tried files i file most old new within is so_far added =
    let all : sum_by tried (take (i + 1) files) ≡ sum_by tried (take i files) + tried file =
    sum_by_more tried files i file within ∙ ap (λ n. sum_by tried (take i files) + n) (sym (ap tried is)) in
    added ∙ ap (λ n. min (n + tried file) most) so_far ∙ bounded (sum_by tried (take i files)) (tried file) most ∙ ap (λ n. min n most) (sym all)

pub complete_next : {X : Type 0} (complete : X → Bool) (files : List X) (i : ℕ) (file : X) (old new : Bool) → i < length files → file ≡ get_or files i file →
    old ≡ list_all complete (take i files) → new ≡ (old && complete file) → new ≡ list_all complete (take (i + 1) files)
complete_next complete files i file old new within is so_far added =
    added ∙ ap (λ b. b && complete file) so_far ∙ ap (λ b. list_all complete (take i files) && b) (ap complete is) ∙ sym (list_all_more complete files i file within)
