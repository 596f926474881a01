-- Steps along a path.
use Rattle.std.proofs.Common.{◌≡◌, ℕ, List, Some, None, Result, Ok, Err, IsErrAnd, IfErr, sym, ap, subst, ◌∙◌}
use Rattle.sh_files_image.specs.Paths.{components, path_split, next_place}
use Rattle.sh_files.specs.Nodes.{FileMap, entrance, behind_entrance, node_at, walk_end}
use Rattle.sh_files.specs.declared.fault.FileFault.{FileFault}
use Rattle.sh_files_image.proofs.Slashes.{first_part, only_part}

pub on_step : (files : FileMap) (place next rest : List ℕ) (p : List ℕ × List ℕ) (u : Unit {0}) → Some p ≡ path_split rest → Ok u ≡ entrance (node_at files place) → next ≡ next_place place p.0 → walk_end files place (components rest) ≡ walk_end files next (components p.1)
on_step files place next rest p u h e n =
    ap (walk_end files place) (first_part rest p h)
    ∙ ap (λ (r : Result (Unit {0}) FileFault). behind_entrance r (walk_end files (next_place place p.0) (components p.1))) (sym e)
    ∙ ap (λ (x : List ℕ). walk_end files x (components p.1)) (sym n)

pub on_refusal : (files : FileMap) (place rest : List ℕ) (p : List ℕ × List ℕ) (fault : FileFault) → Some p ≡ path_split rest → Err fault ≡ entrance (node_at files place) → walk_end files place (components rest) ≡ Err fault
on_refusal files place rest p fault h e =
    ap (walk_end files place) (first_part rest p h)
    ∙ ap (λ (r : Result (Unit {0}) FileFault). behind_entrance r (walk_end files (next_place place p.0) (components p.1))) (sym e)

pub last_step : (files : FileMap) (place next rest : List ℕ) (u : Unit {0}) → None ≡ path_split rest → Ok u ≡ entrance (node_at files place) → next ≡ next_place place rest → walk_end files place (components rest) ≡ Ok next
last_step files place next rest u h e n =
    ap (walk_end files place) (only_part rest h)
    ∙ ap (λ (r : Result (Unit {0}) FileFault). behind_entrance r (Ok (next_place place rest))) (sym e)
    ∙ ap (λ (x : List ℕ). Ok x) (sym n)

pub last_refusal : (files : FileMap) (place rest : List ℕ) (fault : FileFault) → None ≡ path_split rest → Err fault ≡ entrance (node_at files place) → walk_end files place (components rest) ≡ Err fault
last_refusal files place rest fault h e =
    ap (walk_end files place) (only_part rest h)
    ∙ ap (λ (r : Result (Unit {0}) FileFault). behind_entrance r (Ok (next_place place rest))) (sym e)

-- an error that is passed on
pub passed : {A : Type 0} (r : Result A FileFault) (fault : FileFault) (P : FileFault → Type 0) → IsErrAnd r (λ x. x ≡ fault) → P fault → IfErr r P
passed (Ok a) fault P e h = absurd e
passed (Err x) fault P e h = subst P (sym e) h
