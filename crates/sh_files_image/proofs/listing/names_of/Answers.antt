use Rattle.std.proofs.Common.{◌≡◌, ◌∙◌, ◌++◌, ◌∷◌, [], ℕ, List, ap, drop, length, sym, true}
use Rattle.std.specs.FinMap as paths
use Rattle.sh_files_image.specs.Blocks.{head}
use Rattle.sh_files_image.specs.Listing.{from}
use Rattle.sh_files_image.specs.Paths.{has_slash}
use Rattle.sh_files_image.proofs.Held.{begins, from_rises}
use Rattle.sh_files_image.proofs.Turns.{begin, fewer_one, fewer_over, moved, skipped, step_one, step_over, stopped}
use Rattle.sh_files_image.proofs.listing.names_of.Goals as goal

pub paths-init : goal.paths-init
paths-init c =
    begin c.args.prefix.now c.in_ok-text.text.items c.new-names.result.items (paths.entries c.args.table.now) (paths.entries_sorted c.args.table.now) c.new-names.ensures.items c.in_ok-text.ensures.items

pub returns-then-not-starts_with : goal.returns-then-not-starts_with
returns-then-not-starts_with c =
    let es = paths.entries c.args.table.now in
    stopped c.args.prefix.now _ _ c.in-Some.entry.now (from c.paths.text.items es) (from_rises c.paths.text.items es (paths.entries_sorted c.args.table.now)) c.paths.invariant
    (c.in-Some.ensures ∙ ap (λ (t : List ℕ). head (from t es)) c.deref.ensures.value)
    (ap (λ (p : List ℕ). begins p c.args.prefix.now) (sym c.path-path.ensures) ∙ sym c.starts_with.ensures.value ∙ c.if-not-starts_with.true)

pub paths-smaller-in-Some-slash_behind : goal.paths-smaller-in-Some-slash_behind
paths-smaller-in-Some-slash_behind c =
    let es = paths.entries c.args.table.now in
    let s = c.first.result.now in
    let first = c.in-Some.ensures ∙ ap (λ (t : List ℕ). head (from t es)) c.deref.ensures.value in
    let b : begins c.in-Some.entry.now.0 (s ++ 47 ∷ []) ≡ true =
    ap (λ (x : List ℕ). begins x (s ++ 47 ∷ [])) (sym c.path-path.ensures) ∙ ap (λ (y : List ℕ). begins c.path-path.result.now (y ++ 47 ∷ [])) c.first.ensures.value ∙ c.in-Some-slash_behind.ensures.some in
    fewer_over s c.in-Some.entry.now (from c.paths.text.items es) _ first b
    (step_over c.paths.text.items c.in_ok-text-in-Some-slash_behind.text.items s c.in-Some.entry.now es (paths.entries_sorted c.args.table.now) first b c.in_ok-text-in-Some-slash_behind.ensures)

pub paths-preserved-in-Some-slash_behind : goal.paths-preserved-in-Some-slash_behind
paths-preserved-in-Some-slash_behind c =
    let es = paths.entries c.args.table.now in
    let s = c.first.result.now in
    let first = c.in-Some.ensures ∙ ap (λ (t : List ℕ). head (from t es)) c.deref.ensures.value in
    let b : begins c.in-Some.entry.now.0 (s ++ 47 ∷ []) ≡ true =
    ap (λ (x : List ℕ). begins x (s ++ 47 ∷ [])) (sym c.path-path.ensures) ∙ ap (λ (y : List ℕ). begins c.path-path.result.now (y ++ 47 ∷ [])) c.first.ensures.value ∙ c.in-Some-slash_behind.ensures.some in
    skipped c.args.prefix.now s _ _ (from c.paths.text.items es) _ c.paths.invariant
    (step_over c.paths.text.items c.in_ok-text-in-Some-slash_behind.text.items s c.in-Some.entry.now es (paths.entries_sorted c.args.table.now) first b c.in_ok-text-in-Some-slash_behind.ensures)
    (ap (λ (y : List ℕ). has_slash (drop (length c.args.prefix.now) (y ++ 47 ∷ []))) c.first.ensures.value ∙ c.in-Some-slash_behind.ensures.slash)

pub paths-smaller : goal.paths-smaller
paths-smaller c =
    let es = paths.entries c.args.table.now in
    let first = c.in-Some.ensures ∙ ap (λ (t : List ℕ). head (from t es)) c.deref.ensures.value in
    fewer_one c.in-Some.entry.now (from c.paths.text.items es) _ first
    (step_one c.paths.text.items c.in_ok-text-in-None.text.items c.in-Some.entry.now es (paths.entries_sorted c.args.table.now) first
    (c.in_ok-text-in-None.ensures ∙ ap (λ (x : List ℕ). x ++ 0 ∷ []) c.path-path.ensures))

pub paths-preserved : goal.paths-preserved
paths-preserved c =
    let es = paths.entries c.args.table.now in
    let first = c.in-Some.ensures ∙ ap (λ (t : List ℕ). head (from t es)) c.deref.ensures.value in
    moved c.args.prefix.now c.skip.result.now _ _ _ c.in-Some.entry.now (from c.paths.text.items es) _ c.paths.invariant first
    (ap (λ (p : List ℕ). begins p c.args.prefix.now) (sym c.path-path.ensures) ∙ sym c.starts_with.ensures.value ∙ c.if-not-starts_with.false)
    (c.skip.ensures.value ∙ ap (λ (p : List ℕ). drop (length c.args.prefix.now) p) c.path-path.ensures) c.in_ok-add_name-in-None.ensures
    (step_one c.paths.text.items c.in_ok-text-in-None.text.items c.in-Some.entry.now es (paths.entries_sorted c.args.table.now) first
    (c.in_ok-text-in-None.ensures ∙ ap (λ (x : List ℕ). x ++ 0 ∷ []) c.path-path.ensures))
