-- A pipe that is kept, and the slot of its number among all that were made.
use Rattle.std.proofs.Common.{◌≡◌, ℕ, ◌==◌, List, Bool, true, false, Option, Some, None, slice_get, slice_set, Result, Ok, Err, refl, sym, ap, ◌∙◌, subst}
use Rattle.std.proofs.lemmas.Bool.{eqb-true}
use Rattle.std.specs.Option.{option_and_then}
use Rattle.sh_pipe.specs.Pipe.{PipeState}
use Rattle.sh_kernel_descriptors.specs.Closings.{Pipes}
use Rattle.sh_kernel_descriptors.specs.Kept.{PipesAgree, pipe_kept, pipe_made}
use Rattle.sh_kernel_descriptors.specs.Outcomes.{Done, Gives, GivesRead, GivesReadTo, GivesTo}
use Rattle.sh_kernel_descriptors.specs.Reading.{read_pipe, read_pipe_of, read_slot}
use Rattle.sh_kernel_descriptors.specs.Writing.{write_pipe, write_pipe_of, write_slot}
use Rattle.sh_kernel_descriptors.specs.declared.fault.KernelFault.{KernelFault}
use Rattle.sh_kernel_descriptors.proofs.Places.{apart, other_place, same_place}

pub read_alike : (pipes : List (ℕ × PipeState)) (ps : Pipes) (p n : ℕ) (writer : Bool) → PipesAgree pipes ps → (read_slot writer n (pipe_kept pipes p)).answer ≡ (read_pipe ps p writer n).answer
read_alike pipes ps p n writer agree = of_slot (slice_get ps p) (agree p)
  where
    of_slot : (o : Option (Option PipeState)) → pipe_kept pipes p ≡ option_and_then (λ slot. slot) o → (read_slot writer n (pipe_kept pipes p)).answer ≡ (read_pipe_of ps p writer n o).answer
    of_slot None e = ap (λ x. (read_slot writer n x).answer) e
    of_slot (Some slot) e = ap (λ x. (read_slot writer n x).answer) e

pub write_alike : (pipes : List (ℕ × PipeState)) (ps : Pipes) (p : ℕ) (bytes : List ℕ) → PipesAgree pipes ps → (write_slot bytes (pipe_kept pipes p)).answer ≡ (write_pipe ps p bytes).answer
write_alike pipes ps p bytes agree = of_slot (slice_get ps p) (agree p)
  where
    of_slot : (o : Option (Option PipeState)) → pipe_kept pipes p ≡ option_and_then (λ slot. slot) o → (write_slot bytes (pipe_kept pipes p)).answer ≡ (write_pipe_of ps p bytes o).answer
    of_slot None e = ap (λ x. (write_slot bytes x).answer) e
    of_slot (Some slot) e = ap (λ x. (write_slot bytes x).answer) e

-- what is kept has changed at one number alone, as the slot of that number has
pub set_alike : (pipes pipes' : List (ℕ × PipeState)) (ps : Pipes) (p : ℕ) (slot slot' : Option PipeState) → slice_get ps p ≡ Some slot → pipe_kept pipes' p ≡ slot' → ((q : ℕ) → (p == q) ≡ false → pipe_kept pipes' q ≡ pipe_kept pipes q) → PipesAgree pipes ps → PipesAgree pipes' (slice_set ps p slot')
set_alike pipes pipes' ps p slot slot' found at others agree q = of_test (p == q) refl
  where
    of_test : (b : Bool) → (p == q) ≡ b → pipe_kept pipes' q ≡ pipe_made (slice_set ps p slot') q
    of_test true t = subst (λ r. pipe_kept pipes' r ≡ pipe_made (slice_set ps p slot') r) (eqb-true p q t) (at ∙ sym (ap (λ o. option_and_then (λ s. s) o) (same_place ps p slot' slot found)))
    of_test false t = others q t ∙ agree q ∙ sym (ap (λ o. option_and_then (λ s. s) o) (other_place ps p q slot' (apart p q t)))

-- nothing has changed at a number that no pipe ever had
none_alike : (pipes pipes' : List (ℕ × PipeState)) (ps : Pipes) (p : ℕ) → pipe_kept pipes' p ≡ pipe_kept pipes p → ((q : ℕ) → (p == q) ≡ false → pipe_kept pipes' q ≡ pipe_kept pipes q) → PipesAgree pipes ps → PipesAgree pipes' ps
none_alike pipes pipes' ps p at others agree q = of_test (p == q) refl
  where
    of_test : (b : Bool) → (p == q) ≡ b → pipe_kept pipes' q ≡ pipe_made ps q
    of_test true t = subst (λ r. pipe_kept pipes' r ≡ pipe_made ps r) (eqb-true p q t) (at ∙ agree p)
    of_test false t = others q t ∙ agree q

pub read_after : (pipes pipes' : List (ℕ × PipeState)) (ps : Pipes) (p n : ℕ) (writer : Bool) → PipesAgree pipes ps → ((q : ℕ) → (p == q) ≡ false → pipe_kept pipes' q ≡ pipe_kept pipes q) → pipe_kept pipes' p ≡ (read_slot writer n (pipe_kept pipes p)).after → PipesAgree pipes' (read_pipe ps p writer n).after
read_after pipes pipes' ps p n writer agree others at = of_slot (slice_get ps p) refl
  where
    of_slot : (o : Option (Option PipeState)) → slice_get ps p ≡ o → PipesAgree pipes' (read_pipe_of ps p writer n o).after
    of_slot None g =
        let e : pipe_kept pipes p ≡ None = agree p ∙ ap (λ x. option_and_then (λ s. s) x) g in
        none_alike pipes pipes' ps p (at ∙ ap (λ x. (read_slot writer n x).after) e ∙ sym e) others agree
    of_slot (Some slot) g =
        let e : pipe_kept pipes p ≡ slot = agree p ∙ ap (λ x. option_and_then (λ s. s) x) g in
        set_alike pipes pipes' ps p slot (read_slot writer n slot).after g (at ∙ ap (λ x. (read_slot writer n x).after) e) others agree

pub write_after : (pipes pipes' : List (ℕ × PipeState)) (ps : Pipes) (p : ℕ) (bytes : List ℕ) → PipesAgree pipes ps → ((q : ℕ) → (p == q) ≡ false → pipe_kept pipes' q ≡ pipe_kept pipes q) → pipe_kept pipes' p ≡ (write_slot bytes (pipe_kept pipes p)).after → PipesAgree pipes' (write_pipe ps p bytes).after
write_after pipes pipes' ps p bytes agree others at = of_slot (slice_get ps p) refl
  where
    of_slot : (o : Option (Option PipeState)) → slice_get ps p ≡ o → PipesAgree pipes' (write_pipe_of ps p bytes o).after
    of_slot None g =
        let e : pipe_kept pipes p ≡ None = agree p ∙ ap (λ x. option_and_then (λ s. s) x) g in
        none_alike pipes pipes' ps p (at ∙ ap (λ x. (write_slot bytes x).after) e ∙ sym e) others agree
    of_slot (Some slot) g =
        let e : pipe_kept pipes p ≡ slot = agree p ∙ ap (λ x. option_and_then (λ s. s) x) g in
        set_alike pipes pipes' ps p slot (write_slot bytes slot).after g (at ∙ ap (λ x. (write_slot bytes x).after) e) others agree

-- ---- the calls
pub gives_write : (pipes pipes' : List (ℕ × PipeState)) (ps : Pipes) (p : ℕ) (bytes : List ℕ) (result : Result ℕ KernelFault) → Gives result (pipe_kept pipes' p) (write_slot bytes (pipe_kept pipes p)) → ((q : ℕ) → (p == q) ≡ false → pipe_kept pipes' q ≡ pipe_kept pipes q) → PipesAgree pipes ps → GivesTo (PipesAgree pipes') result (write_pipe ps p bytes)
gives_write pipes pipes' ps p bytes result g others agree =
    (sym (write_alike pipes ps p bytes agree) ∙ ap (λ (d : Done (Option PipeState) ℕ). d.answer) g, write_after pipes pipes' ps p bytes agree others (sym (ap (λ (d : Done (Option PipeState) ℕ). d.after) g)))

pub gives_read : (pipes pipes' : List (ℕ × PipeState)) (ps : Pipes) (p n : ℕ) (writer : Bool) (buf buf' : List ℕ) (result : Result ℕ KernelFault) → GivesRead result buf buf' (pipe_kept pipes' p) (read_slot writer n (pipe_kept pipes p)) → ((q : ℕ) → (p == q) ≡ false → pipe_kept pipes' q ≡ pipe_kept pipes q) → PipesAgree pipes ps → GivesReadTo (PipesAgree pipes') result buf buf' (read_pipe ps p writer n)
gives_read pipes pipes' ps p n writer buf buf' (Ok k) g others agree =
    (sym (read_alike pipes ps p n writer agree) ∙ ap (λ (d : Done (Option PipeState) (List ℕ)). d.answer) g.0, g.1, read_after pipes pipes' ps p n writer agree others (sym (ap (λ (d : Done (Option PipeState) (List ℕ)). d.after) g.0)))
gives_read pipes pipes' ps p n writer buf buf' (Err fault) g others agree =
    (sym (read_alike pipes ps p n writer agree) ∙ ap (λ (d : Done (Option PipeState) (List ℕ)). d.answer) g.0, g.1, read_after pipes pipes' ps p n writer agree others (sym (ap (λ (d : Done (Option PipeState) (List ℕ)). d.after) g.0)))
