-- What begins an expression, and what stops one.
use Rattle.sh_base.specs.Memory.{no_memory}
use Rattle.std.proofs.Common.{◌≡◌, ◌≢◌, true, false, List, [], ◌∷◌, ◌++◌, refl, sym, ap, ◌∙◌, subst, inl, inr, ⊎_elim}
use Rattle.std.specs.Prelude.{Bool, not, ◌&&◌}
use Rattle.std.proofs.lemmas.Bool.{and_parts}
use Rattle.sh_grammar.specs.declared.Token.{Token}
use Rattle.sh_grammar.specs.Grammar.{Node, Empty}
use Rattle.sh_grammar.specs.Tabulation.{Tabulation}
use Rattle.sh_grammar.specs.Text.{BeginsText}
use Rattle.sh_arith_grammar.specs.Grammar.{arithmetic}
use Rattle.sh_arith_grammar.specs.Productions.{productions}
use Rattle.sh_arith_grammar.specs.Levels.{Open, are_shallow, is_deep, none_open, open_after, open_behind}
use Rattle.sh_arith.specs.declared.faults.ArithFault.{ArithFault}
use Rattle.sh_arith.specs.declared.faults.ArithFault.TheVariants.{NoMemory, Syntax, TooDeep}
use Rattle.sh_arith.specs.Evaluation.{GoesOn, IsRefusedWithin}
use Rattle.sh_arith.specs.Taking.{Reached, Stopped}

empty_begins : BeginsText arithmetic []
unfolding arithmetic productions
empty_begins = ([], Node 0 Empty, record { shape = ([], record { there = refl }, refl, tt); text = refl })

pub starts : (d : Tabulation) (tokens : List Token) (o : Open) → d ≡ arithmetic → tokens ≡ [] → o ≡ none_open → Reached d tokens o
starts d tokens o g e f =
    record {
      begins = subst (λ x. BeginsText x tokens) (sym g) (subst (BeginsText arithmetic) (sym e) empty_begins);
      levels = f ∙ ap (open_after none_open) (sym e);
      shallow = ap (are_shallow none_open) e;
    }

pub started_with : (tokens more : List Token) → tokens ≡ [] → tokens ++ more ≡ more
started_with tokens more e = ap (λ t. t ++ more) e

-- ---- one token more

open_after-append : (o : Open) (front : List Token) (t : Token) → open_after o (front ++ t ∷ []) ≡ open_behind (open_after o front) t
open_after-append o [] t = refl
open_after-append o (u ∷ front) t = open_after-append (open_behind o u) front t

both : {x y : Bool} → x ≡ true → y ≡ true → x && y ≡ true
both {x} {y} p q = subst (λ z. z && y ≡ true) (sym p) q

still_shallow : (o : Open) (front : List Token) (t : Token) → are_shallow o front ≡ true → is_deep (open_behind (open_after o front) t) ≡ false → are_shallow o (front ++ t ∷ []) ≡ true
still_shallow o [] t h k = cc
still_shallow o (u ∷ front) t h k =
    let b = and_parts (not (is_deep (open_behind o u))) (are_shallow (open_behind o u) front) h in
    both b.0 (still_shallow (open_behind o u) front t b.1 k)

pub goes : (d g : Tabulation) (taken now : List Token) (o n : Open) (t : Token) → g ≡ d → now ≡ taken ++ t ∷ [] → BeginsText d (taken ++ t ∷ []) → n ≡ open_behind o t → is_deep n ≡ false → Reached d taken o → Reached g now n
goes d g taken now o n t f i b e k r =
    subst (λ x. Reached x now n) (sym f) (subst (λ x. Reached d x n) (sym i) (
    let same : n ≡ open_behind (open_after none_open taken) t = e ∙ ap (λ x. open_behind x t) r.levels in
    record {
      begins = b;
      levels = same ∙ sym (open_after-append none_open taken t);
      shallow = still_shallow none_open taken t r.shallow (ap is_deep (sym same) ∙ k);
    }))

-- ---- what stops a reading

pub goes_on : (d : Tabulation) (taken whole : List Token) (o : Open) → d ≡ arithmetic → taken ≡ whole → Reached d taken o → GoesOn whole
goes_on d taken whole o g e r = record { begins = subst (λ x. BeginsText x whole) g (subst (BeginsText d) e r.begins); shallow = ap (are_shallow none_open) (sym e) ∙ r.shallow }

pub stops : (d : Tabulation) (taken tokens whole : List Token) (o : Open) (f : ArithFault) → d ≡ arithmetic → Reached d taken o → tokens ≡ whole → (f ≢ NoMemory no_memory → Stopped d taken o tokens f) → f ≢ NoMemory no_memory → IsRefusedWithin whole f
stops d taken tokens whole o f g r e h n = by_cases (h n)
  where
    by_cases : Stopped d taken o tokens f → IsRefusedWithin whole f
    by_cases s = ⊎_elim
        (λ (k : (f ≡ Syntax s.token.id) × (BeginsText d (taken ++ s.token ∷ []) → ⊥)). inl (
          s.token.id,
          k.0,
          record {
            front = taken;
            token = s.token;
            others = s.others;
            parts = s.parts ∙ e;
            at = refl;
            before = goes_on d taken taken o g refl r;
            none = subst (λ x. BeginsText x (taken ++ s.token ∷ []) → ⊥) g k.1;
          },
        ))
        (λ (k : (f ≡ TooDeep) × BeginsText d (taken ++ s.token ∷ []) × (is_deep (open_behind o s.token) ≡ true)). inr (
          k.0,
          record {
            front = taken;
            token = s.token;
            others = s.others;
            parts = s.parts ∙ e;
            before = goes_on d taken taken o g refl r;
            begins = subst (λ x. BeginsText x (taken ++ s.token ∷ [])) g k.1;
            deep = ap is_deep (open_after-append none_open taken s.token ∙ ap (λ x. open_behind x s.token) (sym r.levels)) ∙ k.2;
          },
        ))
        s.refuses
