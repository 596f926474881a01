-- A new pipe, and its ends.
use Rattle.std.proofs.Common.{◌≡◌, ◌≢◌, ℕ, zero, suc, List, [], ◌∷◌, ◌++◌, length, Bool, true, false, ◌==◌, cond, Some, slice_get, refl, sym, ap, ◌∙◌}
use Rattle.std.proofs.lemmas.Bool.{eqb-true}
use Rattle.std.specs.Option.{option_and_then}
use Rattle.sh_pipe.specs.Pipe.{PipeState}
use Rattle.sh_kernel_descriptors.specs.Closings.{Pipes}
use Rattle.sh_kernel_descriptors.specs.Kept.{PipesAgree, pipe_kept, pipe_made}
use Rattle.sh_kernel_descriptors.proofs.Places.{apart}

past_end : {X : Type 0} (xs : List X) (x : X) (n : ℕ) → n ≢ length xs → slice_get (xs ++ x ∷ []) n ≡ slice_get xs n
past_end [] x zero e = absurd (e refl)
past_end [] x (suc n) e = refl
past_end (y ∷ xs) x zero e = refl
past_end (y ∷ xs) x (suc n) e = past_end xs x n (λ t. e (ap (λ k. suc k) t))

at_end : {X : Type 0} (xs : List X) (x : X) → slice_get (xs ++ x ∷ []) (length xs) ≡ Some x
at_end [] x = refl
at_end (y ∷ xs) x = at_end xs x

pub kept_new : (pipes pipes' : List (ℕ × PipeState)) (ps : Pipes) (p : ℕ) (made : PipeState) → p ≡ length ps → ((q : ℕ) → pipe_kept pipes' q ≡ cond (p == q) (Some made) (pipe_kept pipes q)) → PipesAgree pipes ps → PipesAgree pipes' (ps ++ Some made ∷ [])
kept_new pipes pipes' ps p made e r agree q = r q ∙ of_test (p == q) refl
  where
    of_test : (b : Bool) → (p == q) ≡ b → cond b (Some made) (pipe_kept pipes q) ≡ pipe_made (ps ++ Some made ∷ []) q
    of_test true t =
        let s : p ≡ q = eqb-true p q t in
        sym (ap (λ o. option_and_then (λ slot. slot) o) (at_end ps (Some made))) ∙ ap (λ n. pipe_made (ps ++ Some made ∷ []) n) (sym e ∙ s)
    of_test false t =
        agree q ∙ ap (λ o. option_and_then (λ slot. slot) o) (sym (past_end ps (Some made) q (λ s. apart p q t (e ∙ sym s))))
