-- Copies of the first items of a list.
use Rattle.std.proofs.Common.{◌≡◌, ℕ, ◌+◌, ◌<◌, List, [], ◌∷◌, ◌++◌, length, take, get_or, sym, ap, ◌∙◌, add-one}
use Rattle.std.proofs.Math.Seq.{take-suc}

-- one copy more
pub one_more : {X : Type 0} (all copies more : List X) (k : ℕ) (x y : X) → copies ≡ take k all → more ≡ copies ++ y ∷ [] → y ≡ x → x ≡ get_or all k x → k < length all → more ≡ take (k + 1) all
one_more all copies more k x y c m e g h =
    rw add-one (m ∙ ap (λ l. l ++ y ∷ []) c ∙ ap (λ z. take k all ++ z ∷ []) (e ∙ g) ∙ sym (take-suc all k x h))
