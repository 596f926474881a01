-- The expansion of each part, and of words, with more answers.
use Rattle.std.proofs.Common.{◌≡◌, ℕ, zero, suc, ◌≤◌, List, [], ◌∷◌, ◌++◌, refl, sym, subst, arith}
use Rattle.sh_vars.specs.Environment.{Environment}
use Rattle.sh_syntax.specs.declared.tree.Part.{Part}
use Rattle.sh_syntax.specs.declared.tree.Part.TheVariants as part
use Rattle.sh_syntax.specs.declared.tree.Command.TheOpen as layer
use Rattle.sh_syntax.specs.declared.tree.Command.TheViews as view
use Rattle.sh_expand_parts.specs.Contexts.{inside_quotes}
use Rattle.sh_expand_parts.specs.Forms.{conditional_begun, length_begun, parameter_begun, removal_begun}
use Rattle.sh_expand_parts.specs.declared.closing.Purpose.TheVariants as purpose
use Rattle.sh_expand_parts.specs.declared.context.Context.TheVariants.{QuotedSingle}
use Rattle.sh_expand.specs.declared.place.Place.{Place}
use Rattle.sh_expand.specs.declared.wanted.Wanted.{Wanted}
use Rattle.sh_expand.specs.Expansion.{State, Run, begins, begins_alone, is_end}
use Rattle.sh_expand.specs.Parts.{Form, expand, parts_of, pieces, run_part, run_word, run_words, start}
use Rattle.sh_expand.specs.Weights.{part_weight, parts_weight}
use Rattle.sh_expand.proofs.Forms as form
use Rattle.sh_laws.proofs.FurtherAnswers.{AllGrow, Grown, Grows, asks_grows, begins_alone_grows, begins_grows, enters_grows, then_grows, with_more}

abbrev PartGrows : Part → Type 0
PartGrows p = (at : Place) → Grows (run_part p at)

abbrev PartsGrow : List Part → Type 0
PartsGrow [] = Unit {0}
PartsGrow (p ∷ ps) = PartGrows p × PartsGrow ps

pieces_grow : (ps : List Part) → PartsGrow ps → AllGrow (pieces ps)
pieces_grow [] a = tt
pieces_grow (p ∷ ps) a = (a.0, pieces_grow ps a.1)

by_law : (r f : Run) → ((s : State) → r s ≡ f s) → Grows f → Grows r
by_law r f e g s m = subst (λ x. Grown m x (r (with_more s m))) (sym (e s)) (subst (λ x. Grown m (f s) x) (sym (e (with_more s m))) (g s m))

module _ (n : ℕ) (below : (q : Part) → suc (part_weight q) ≤ n → PartGrows q) where
  all_below : (ps : List Part) → suc (parts_weight ps) ≤ n → PartsGrow ps
  all_below [] h = tt
  all_below (p ∷ ps) h = (below p (omega (arith, h)), all_below ps (omega (arith, h)))

  abbrev Within : Part → Type 0
  Within p = part_weight p ≤ n → PartGrows p

  by_form : (x : Form) → Within (view.roll-Part x)
  by_form (layer.Literal t) = subst Within (sym (part.rolls-Literal t)) (λ h at. by_law (run_part (part.Literal t) at) _ (form.literal_is t at) (λ s m. refl))
  by_form (layer.Escaped b) = subst Within (sym (part.rolls-Escaped b)) (λ h at. by_law (run_part (part.Escaped b) at) _ (form.escaped_is b at) (λ s m. refl))
  by_form (layer.SingleQuoted t) =
      subst Within (sym (part.rolls-SingleQuoted t)) (λ h at. by_law (run_part (part.SingleQuoted t) at) _ (form.singlequoted_is t at) (λ s m. refl))
  by_form (layer.DoubleQuoted w) =
      subst Within (sym (part.rolls-DoubleQuoted w)) (λ h at.
      by_law (run_part (part.DoubleQuoted w) at) _ (form.doublequoted_is w at)
      (enters_grows purpose.Quotes (inside_quotes at.context) (pieces (parts_of w))
      (pieces_grow (parts_of w) (all_below (parts_of w) (omega (arith, h, form.doublequoted_weight w))))))
  by_form (layer.Parameter q) =
      subst Within (sym (part.rolls-Parameter q)) (λ h at.
      by_law (run_part (part.Parameter q) at) (λ s. begins_alone (parameter_begun at.context s.env q) s) (form.parameter_is q at)
      (λ s m. begins_alone_grows (parameter_begun at.context s.env q) s m))
  by_form (layer.Length q) =
      subst Within (sym (part.rolls-Length q)) (λ h at.
      by_law (run_part (part.Length q) at) (λ s. begins_alone (length_begun at.context s.env q) s) (form.length_is q at)
      (λ s m. begins_alone_grows (length_begun at.context s.env q) s m))
  by_form (layer.Conditional q a x w) =
      subst Within (sym (part.rolls-Conditional q a x w)) (λ h at.
      let inner = pieces (parts_of w) in
      by_law (run_part (part.Conditional q a x w) at) (λ s. begins (conditional_begun at.context s.env q a x (is_end inner)) inner s) (form.conditional_is q a x w at)
      (λ s m. begins_grows (conditional_begun at.context s.env q a x (is_end inner)) inner
      (pieces_grow (parts_of w) (all_below (parts_of w) (omega (arith, h, form.conditional_weight q a x w)))) s m))
  by_form (layer.Removal q a x w) =
      subst Within (sym (part.rolls-Removal q a x w)) (λ h at.
      let inner = pieces (parts_of w) in
      by_law (run_part (part.Removal q a x w) at) (λ s. begins (removal_begun at.context s.env q a x) inner s) (form.removal_is q a x w at)
      (λ s m. begins_grows (removal_begun at.context s.env q a x) inner
      (pieces_grow (parts_of w) (all_below (parts_of w) (omega (arith, h, form.removal_weight q a x w)))) s m))
  by_form (layer.Substitution program) =
      subst Within (sym (part.rolls-Substitution program)) (λ h at.
      by_law (run_part (part.Substitution program) at) _ (form.substitution_is program at) (asks_grows at.context program))
  by_form (layer.Backquoted program) =
      subst Within (sym (part.rolls-Backquoted program)) (λ h at.
      by_law (run_part (part.Backquoted program) at) _ (form.backquoted_is program at) (asks_grows at.context program))
  by_form (layer.Arithmetic w) =
      subst Within (sym (part.rolls-Arithmetic w)) (λ h at.
      by_law (run_part (part.Arithmetic w) at) _ (form.arithmetic_is w at)
      (enters_grows (purpose.Compute at.context) QuotedSingle (pieces (parts_of w))
      (pieces_grow (parts_of w) (all_below (parts_of w) (omega (arith, h, form.arithmetic_weight w))))))

  step : (p : Part) → Within p
  step p = subst Within (view.roll-out-Part p) (by_form (view.out-Part p))

within : (n : ℕ) (p : Part) → part_weight p ≤ n → PartGrows p
within zero p h = step zero (λ q i. absurd (omega (arith, i))) p h
within (suc n) p h = step (suc n) (λ q i. within n q (omega (arith, i))) p h

parts_grow : (ps : List Part) → PartsGrow ps
parts_grow [] = tt
parts_grow (p ∷ ps) = (within (part_weight p) p (omega arith), parts_grow ps)

word_grows : (w : Wanted) → Grows (run_word w)
unfolding run_word
word_grows w = enters_grows (purpose.Word w.context) w.context (pieces (parts_of w.parts)) (pieces_grow (parts_of w.parts) (parts_grow (parts_of w.parts)))

words_grow : (ws : List Wanted) → Grows (run_words ws)
words_grow [] s m = refl
words_grow (w ∷ ws) s m = then_grows (run_word w s) (run_word w (with_more s m)) (run_words ws) m (word_grows w s m) (words_grow ws)

pub expansion_grows : (ws : List Wanted) (env : Environment) (answers more : List (List ℕ)) → Grown more (expand ws env answers) (expand ws env (answers ++ more))
expansion_grows ws env answers more = words_grow ws (start env answers) more
