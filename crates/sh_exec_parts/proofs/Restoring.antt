-- The last one of some is restored first.
use Rattle.std.proofs.Common.{◌≡◌, List, [], ◌∷◌, ◌++◌, refl, sym, ap, ◌∙◌}
use Rattle.sh_exec_parts.specs.Saving.{all_restored, with_saved}
use Rattle.sh_exec_parts.specs.declared.saved.Saved.{Saved}
use Rattle.sh_vars.specs.Environment.{Environment}

all_restored-last : (ss : List Saved) (s : Saved) (env : Environment) → all_restored (ss ++ s ∷ []) env ≡ all_restored ss (with_saved s env)
all_restored-last [] s env = refl
all_restored-last (t ∷ ts) s env = ap (with_saved t) (all_restored-last ts s env)

pub goes_on : (ss ss' : List Saved) (s : Saved) (env env' : Environment) → ss ≡ ss' ++ s ∷ [] → env' ≡ with_saved s env → all_restored ss' env' ≡ all_restored ss env
goes_on ss ss' s env env' e step = ap (all_restored ss') step ∙ sym (all_restored-last ss' s env) ∙ ap (λ xs. all_restored xs env) (sym e)
