-- What the actions of a derivation make is its syntax.
use Rattle.std.proofs.Common.{◌≡◌, inl, inr, refl, sym, ap, ◌∙◌, arith, ℕ, List, [], ◌∷◌, length, reverse, Option, Some, None, option_map, option_and_then}
use Rattle.std.proofs.lemmas.Bool.{cases_eq}
use Rattle.std.proofs.lemmas.List.{append-nil, length-reverse}
use Rattle.sh_grammar.specs.declared.Action.{Action}
use Rattle.sh_grammar.specs.declared.Token.{Token}
use Rattle.sh_grammar.specs.Grammar.{Tree}
use Rattle.sh_grammar.specs.Leftmost.{preorder}
use Rattle.sh_grammar.specs.Tabulation.{Tabulation, grammar_of}
use Rattle.sh_grammar.specs.Text.{IsTreeOf}
use Rattle.sh_token_grammar.specs.Shell.{complete, substitution}
use Rattle.sh_syntax.specs.declared.tree.CompoundList.{CompoundList}
use Rattle.sh_parse_actions.specs.declared.leaf.Leaf.{Leaf as TokenLeaf}
use Rattle.sh_parse_actions.specs.declared.value.Value.{Value}
use Rattle.sh_parse_words.specs.declared.stack.Making.{Making}
use Rattle.sh_parse_words.specs.Meaning.{IsSyntaxWhere, whole_list, syntax_of, value_of, width}
use Rattle.sh_parse_words.specs.Stack.{whole_tree, finished_with, made_all, run_from, at_start}
use Rattle.sh_parse_words.proofs.Counted.{all_shifts, used, value_width}
use Rattle.sh_parse_words.proofs.Counts.{complete_counts, substitution_counts}
use Rattle.sh_parse_words.proofs.Run.{making, tree_run}
use Rattle.sh_parse_words.proofs.Whole.{Counts, Whole, whole}

finished_value : (o : Option Value) → option_and_then whole_tree (option_map (λ v. making [] (v ∷ [])) o) ≡ option_and_then whole_list o
finished_value None = refl
finished_value (Some v) = refl

-- where there are as many leaves as tokens
same_width : (x : Tree) → Whole x → (ls : List TokenLeaf) → length ls ≡ width x → made_all (preorder x) ls ≡ syntax_of x ls
same_width x w ls n =
    ap (λ (ks : List TokenLeaf). option_and_then whole_tree (run_from (reverse (preorder x)) (making ks []))) (sym (append-nil (reverse ls)))
    ∙ ap (option_and_then whole_tree) (tree_run x w ls [] [] n) ∙ finished_value (value_of x ls)

-- where there are more or fewer

none_finished : (ls : List TokenLeaf) (vs : List Value) → (length ls ≡ 0 → ⊥) → finished_with ls vs ≡ None
none_finished [] vs h = absurd (h refl)
none_finished (leaf ∷ ls) vs h = refl

none_made : (n : ℕ) (o : Option Making) → ((m : Making) → o ≡ Some m → length m.leaves ≡ 0 → ⊥) → option_and_then whole_tree o ≡ None
none_made n None h = refl
none_made n (Some m) h = none_finished m.leaves m.values (h m refl)

none_meant : (o : Option Value) → ((v : Value) → o ≡ Some v → ⊥) → option_and_then whole_list o ≡ None
none_meant None h = refl
none_meant (Some v) h = absurd (h v refl)

left_over : (x : Tree) (ls : List TokenLeaf) → (length ls ≡ width x → ⊥) → (m : Making) → run_from (reverse (preorder x)) (at_start ls) ≡ Some m → length m.leaves ≡ 0 → ⊥
left_over x ls h m e z = h (omega (arith, used (reverse (preorder x)) (at_start ls) m e, all_shifts x, length-reverse ls))

other_width : (x : Tree) (ls : List TokenLeaf) → (length ls ≡ width x → ⊥) → made_all (preorder x) ls ≡ syntax_of x ls
other_width x ls h =
    none_made 0 (run_from (reverse (preorder x)) (at_start ls)) (left_over x ls h)
    ∙ sym (none_meant (value_of x ls) (λ v e. h (value_width x ls v e)))

pub made_is : (x : Tree) → Whole x → (ls : List TokenLeaf) → made_all (preorder x) ls ≡ syntax_of x ls
made_is x w ls =
    elim (cases_eq (length ls) (width x)) [ inl e ↦ same_width x w ls e | inr h ↦ other_width x ls h ]

made_syntax : (d : Tabulation) → Counts (grammar_of d) → (actions : List Action) (ls : List TokenLeaf) (found : Option CompoundList) → found ≡ made_all actions ls
    → (tokens : List Token) (tree : Tree) → IsTreeOf d tokens tree → preorder tree ≡ actions → found ≡ syntax_of tree ls
made_syntax d h actions ls found e tokens tree derives is =
    e ∙ ap (λ (xs : List Action). made_all xs ls) (sym is) ∙ made_is tree (whole (grammar_of d) h tree _ _ derives.shape) ls

pub made_command : (actions : List Action) (ls : List TokenLeaf) (found : Option CompoundList) → found ≡ made_all actions ls → IsSyntaxWhere complete actions ls found
made_command = made_syntax complete complete_counts

pub made_substitution : (actions : List Action) (ls : List TokenLeaf) (found : Option CompoundList) → found ≡ made_all actions ls → IsSyntaxWhere substitution actions ls found
made_substitution = made_syntax substitution substitution_counts
