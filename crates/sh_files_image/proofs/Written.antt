-- What is written of entries that stand in blocks.
use Rattle.std.proofs.Common.{◌≡◌, ℕ, List, [], ◌∷◌, ◌++◌, refl, sym, ap, ◌∙◌}
use Rattle.sh_files_image.specs.Blocks.{flat}
use Rattle.sh_files_image.specs.Places.{Entries}
use Rattle.sh_files_image.specs.declared.node.Node.{Node}
use Rattle.sh_files_image.specs.Writing.{path_text, paths_text}

assoc : (xs ys zs : List ℕ) → (xs ++ ys) ++ zs ≡ xs ++ (ys ++ zs)
assoc [] ys zs = refl
assoc (x ∷ xs) ys zs = ap (λ (bs : List ℕ). x ∷ bs) (assoc xs ys zs)

text_parts : (nodes : List Node) (es more : Entries) → paths_text nodes (es ++ more) ≡ paths_text nodes es ++ paths_text nodes more
text_parts nodes [] more = refl
text_parts nodes (e ∷ es) more = ap (λ (bs : List ℕ). path_text nodes e ++ bs) (text_parts nodes es more) ∙ sym (assoc (path_text nodes e) (paths_text nodes es) (paths_text nodes more))

pub block_written : (nodes : List Node) (image new all : List ℕ) (block : Entries) (rest behind : List Entries) → rest ≡ block ∷ behind → new ≡ image ++ paths_text nodes block → image ++ paths_text nodes (flat rest) ≡ all → new ++ paths_text nodes (flat behind) ≡ all
block_written nodes image new all block rest behind is more same =
    ap (λ (bs : List ℕ). bs ++ paths_text nodes (flat behind)) more
    ∙ assoc image (paths_text nodes block) (paths_text nodes (flat behind))
    ∙ ap (λ (bs : List ℕ). image ++ bs) (sym (text_parts nodes block (flat behind)))
    ∙ ap (λ (bs : List Entries). image ++ paths_text nodes (flat bs)) (sym is)
    ∙ same
