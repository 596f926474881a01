-- The tree of tokens that have no fault and derive; and the list of commands of a text.
use Rattle.std.proofs.Common.{◌≡◌, ◌⊎◌, inl, inr, ◌↔◌, ℕ, zero, suc, ◌+◌, Bool, true, false, ◌&&◌, List, [], ◌∷◌, ◌++◌, length, drop, Option, Some, None, is_some, Result, Ok, Err, refl, sym, ap, subst, ◌∙◌, if◌then◌else◌}
use Rattle.std.specs.Option.{unwrap_or}
use Rattle.std.proofs.lemmas.Bool.{and_from, false_from_ne_true}
use Rattle.std.proofs.lemmas.List.{append-nil}
use Rattle.sh_token_grammar.specs.Shell.{substitution}
use Rattle.sh_grammar.specs.declared.Token.{Token as Input}
use Rattle.sh_grammar.specs.Computed.{is_whole}
use Rattle.sh_grammar.specs.Derived.{tree_of}
use Rattle.sh_grammar.specs.Grammar.{Tree}
use Rattle.sh_grammar.specs.Tabulation.{Tabulation}
use Rattle.sh_grammar.specs.Text.{IsTreeOf}
use Rattle.sh_grammar.proofs.Computing.{tree_once_only, whole_text}
use Rattle.sh_grammar.proofs.Deriving.{tree_computed}
use Rattle.sh_syntax.specs.declared.tree.CompoundList.{CompoundList}
use Rattle.sh_syntax.specs.declared.tree.Parts.{Parts}
use Rattle.sh_token.specs.declared.token.TokenKind.{TokenKind}
use Rattle.sh_parse_actions.specs.declared.leaf.Leaf.{Leaf}
use Rattle.sh_parse_actions.specs.declared.leaf.Leaf.TheVariants as leaf
use Rattle.sh_parse_actions.specs.Forms.{compound_list}
use Rattle.sh_parse_words.specs.Fitting.{FittingHaveSyntax, all_fit, fits}
use Rattle.sh_parse_words.specs.Meaning.{syntax_of}
use Rattle.sh_parse_words.proofs.Fitted.{command_syntax, substitution_syntax}
use Rattle.sh_parse_documents.specs.declared.item.Item.{Item}
use Rattle.sh_parse_documents.specs.Waiting.{Waiting, nothing, behind_token}
use Rattle.sh_parse_documents.specs.Items.{FirstItem, FoundItem, NoItem, first_item}
use Rattle.sh_parse_documents.specs.Stream.{Ending, AtEnd, Cut, Items, with_item, with_first, items_from, items_of, waiting_behind}
use Rattle.sh_parse_words.specs.declared.fault.PartFault.{PartFault}
use Rattle.sh_parse_words.specs.declared.fault.PartFault.TheVariants as fault
use Rattle.sh_parse_leaves.specs.Inputs.{input_of, inputs_of}
use Rattle.sh_parse_leaves.specs.Results.{and_then}
use Rattle.sh_parse_leaves.specs.Words.{Reader, within}
use Rattle.sh_parse_commands.specs.Judging.{IsShell, Judged, none_of, with_items, with_body, bodies_behind, with_bodies, are_no, tree_by}
use Rattle.sh_parse_commands.specs.Programs.{ended_by}
use Rattle.sh_parse_commands.specs.Defined.{Judge, Derive, AreTaken, AreFaultless, FirstFault, AreTree, AreTokens, EndIs, inner, IsProgram}
use Rattle.sh_parse_leaves.proofs.Fitting.{leaf_fits}
use Rattle.sh_parse_commands.proofs.Shells.{shell_predictive}
use Rattle.sh_parse_commands.proofs.Taking.{behind}
use Rattle.sh_parse_commands.proofs.Faultless.{judged, JudgedSo, judged_told, faultless_judged, fault_judged}

-- leaves of tokens that are taken fit them, and so they do with their bodies
taken_fit : (g : Judge) (before tokens : List Item) (ls : List Leaf) (bs : List Parts) → AreTaken g before tokens ls bs → AreTokens tokens → all_fit (inputs_of tokens) ls ≡ true
taken_fit g before [] [] bs h n = refl
taken_fit g before [] (l ∷ ls) bs h n = absurd h
taken_fit g before (t ∷ tokens) [] bs h n = absurd h
taken_fit g before (t ∷ tokens) (l ∷ ls) bs (here, others, one, rest, is) n =
    and_from (fits (input_of t).class l) (all_fit (inputs_of tokens) ls) (leaf_fits _ _ g.text t.token.kind t.token.span l n.0 one.leaf)
    (taken_fit g (before ++ t ∷ []) tokens ls others rest n.1)

body_fits : (number : ℕ) (l : Leaf) (bs : List Parts) → fits number l ≡ fits number (with_body l bs)
body_fits number leaf.Operator bs = refl
body_fits number (leaf.Redirection operator) bs = refl
body_fits number (leaf.HereDocument operator body) [] = refl
body_fits number (leaf.HereDocument operator body) (b ∷ bs) = refl
body_fits number (leaf.Number digits) bs = refl
body_fits number (leaf.Word word) bs = refl
body_fits number (leaf.Name word name) bs = refl
body_fits number (leaf.Assignment word name parts) bs = refl

filled_fit : (us : List Input) (ls : List Leaf) (bs : List Parts) → all_fit us ls ≡ true → all_fit us (with_bodies ls bs) ≡ true
filled_fit [] [] bs h = refl
filled_fit [] (l ∷ ls) bs h = absurd (cc)
filled_fit (u ∷ us) [] bs h = absurd (cc)
filled_fit (u ∷ us) (l ∷ ls) bs h =
    let p = both (fits u.class l) (all_fit us ls) h in
    and_from (fits u.class (with_body l bs)) (all_fit us (with_bodies ls (bodies_behind l bs))) (sym (body_fits u.class l bs) ∙ p.0) (filled_fit us ls (bodies_behind l bs) p.1)
  where
    both : (a b : Bool) → (a && b) ≡ true → (a ≡ true) × (b ≡ true)
    both true b e = (refl, e)
    both false b e = absurd (cc)

shell_syntax : (d : Tabulation) → IsShell d → FittingHaveSyntax d
shell_syntax d (inl e) = subst (λ x. FittingHaveSyntax x) (sym e) command_syntax
shell_syntax d (inr e) = subst (λ x. FittingHaveSyntax x) (sym e) substitution_syntax

some_given : (o : Option CompoundList) (c : CompoundList) → is_some o ≡ true → o ≡ Some (unwrap_or o c)
some_given None c h = absurd (cc)
some_given (Some x) c h = refl

by_tree : (d : Tabulation) → IsShell d → (us : List Input) (tree : Tree) (ls : List Leaf) → IsTreeOf d us tree → unwrap_or (syntax_of tree ls) (compound_list []) ≡ unwrap_or (syntax_of (tree_of d us) ls) (compound_list [])
by_tree d s us tree ls h = ap (λ x. unwrap_or (syntax_of x ls) (compound_list [])) (sym (tree_computed d (shell_predictive d s) us tree h))

-- the one derivation of tokens has their tree as its syntax
pub tree_given : (g : Judge) → IsShell g.grammar → (tokens : List Item) (ls : List Leaf) (bs : List Parts) → AreTaken g [] tokens ls bs → AreTokens tokens
    → (tree : Tree) → IsTreeOf g.grammar (inputs_of tokens) tree → (bodies : List Parts) → syntax_of tree (with_bodies ls bodies) ≡ Some (tree_by (behind g tokens ls bodies))
unfolding tree_by
tree_given g s tokens ls bs h n tree d bodies =
    some_given (syntax_of tree (with_bodies ls bodies)) (compound_list [])
    (shell_syntax g.grammar s (inputs_of tokens) tree (with_bodies ls bodies) d (filled_fit (inputs_of tokens) ls bodies (taken_fit g [] tokens ls bs h n)))
    ∙ ap Some (by_tree g.grammar s (inputs_of tokens) tree (with_bodies ls bodies) d)

pub whole_derive : (g : Judge) → IsShell g.grammar → (tokens : List Item) → is_whole g.grammar (inputs_of tokens) ≡ true → Derive g tokens
whole_derive g s tokens h = (whole_text g.grammar (shell_predictive g.grammar s) (inputs_of tokens)).0 h

pub derive_whole : (g : Judge) → IsShell g.grammar → (tokens : List Item) → Derive g tokens → is_whole g.grammar (inputs_of tokens) ≡ true
derive_whole g s tokens h = (whole_text g.grammar (shell_predictive g.grammar s) (inputs_of tokens)).1 h

pub whole_not_derive : (g : Judge) → IsShell g.grammar → (tokens : List Item) → is_whole g.grammar (inputs_of tokens) ≡ false → Derive g tokens → ⊥
whole_not_derive g s tokens h d = let t : is_whole g.grammar (inputs_of tokens) ≡ true = derive_whole g s tokens d in cc

pub derive_not_whole : (g : Judge) → IsShell g.grammar → (tokens : List Item) → (Derive g tokens → ⊥) → is_whole g.grammar (inputs_of tokens) ≡ false
derive_not_whole g s tokens h = false_from_ne_true (is_whole g.grammar (inputs_of tokens)) (λ x. h (whole_derive g s tokens x))

-- tokens without a fault that derive are their tree, and no other
pub tree_found : (g : Judge) → IsShell g.grammar → (tokens : List Item) (x : AreFaultless g tokens) → AreTokens tokens → is_whole g.grammar (inputs_of tokens) ≡ true
    → (others : List Parts) → AreTree g tokens others (tree_by (behind g tokens x.leaves (x.bodies ++ others)))
tree_found g s tokens x n h others =
    let d = whole_derive g s tokens h in
    record { faultless = x; derivation = d.0; derives = d.1; syntax = tree_given g s tokens x.leaves x.bodies x.taken n d.0 d.1 (x.bodies ++ others) }

pub tree_gives : (g : Judge) → IsShell g.grammar → (tokens : List Item) (others : List Parts) (tree : CompoundList) (a : AreTree g tokens others tree)
    → tree_by (behind g tokens a.faultless.leaves (a.faultless.bodies ++ others)) ≡ tree
unfolding tree_by
tree_gives g s tokens others tree a =
    sym (by_tree g.grammar s (inputs_of tokens) a.derivation (with_bodies a.faultless.leaves (a.faultless.bodies ++ others)) a.derives)
    ∙ ap (λ o. unwrap_or o (compound_list [])) a.syntax

pub tree_whole : (g : Judge) → IsShell g.grammar → (tokens : List Item) (others : List Parts) (tree : CompoundList) → AreTree g tokens others tree → is_whole g.grammar (inputs_of tokens) ≡ true
tree_whole g s tokens others tree a = derive_whole g s tokens (a.derivation, a.derives)

-- the same where no bodies come behind
pub tree_alone : (g : Judge) → IsShell g.grammar → (tokens : List Item) (x : AreFaultless g tokens) → AreTokens tokens → is_whole g.grammar (inputs_of tokens) ≡ true
    → AreTree g tokens [] (tree_by (behind g tokens x.leaves x.bodies))
tree_alone g s tokens x n h = subst (λ bs. AreTree g tokens [] (tree_by (behind g tokens x.leaves bs))) (append-nil x.bodies) (tree_found g s tokens x n h [])

pub alone_gives : (g : Judge) → IsShell g.grammar → (tokens : List Item) (tree : CompoundList) (a : AreTree g tokens [] tree)
    → tree_by (behind g tokens a.faultless.leaves a.faultless.bodies) ≡ tree
alone_gives g s tokens tree a = ap (λ bs. tree_by (behind g tokens a.faultless.leaves bs)) (sym (append-nil a.faultless.bodies)) ∙ tree_gives g s tokens [] tree a

-- there are leaves where there are tokens
none_taken : (g : Judge) (before tokens : List Item) (ls : List Leaf) (bs : List Parts) → AreTaken g before tokens ls bs → are_no ls ≡ true → tokens ≡ []
none_taken g before [] ls bs h e = refl
none_taken g before (t ∷ tokens) [] bs h e = absurd h
none_taken g before (t ∷ tokens) (l ∷ ls) bs h e = absurd (cc)

pub none_told : (g : Judge) (tokens : List Item) (x : AreFaultless g tokens) → are_no x.leaves ≡ true → tokens ≡ []
none_told g tokens x e = none_taken g [] tokens x.leaves x.bodies x.taken e

pub some_told : (g : Judge) (tokens : List Item) (x : AreFaultless g tokens) → are_no x.leaves ≡ false → tokens ≡ [] → ⊥
some_told g tokens x e n = let t : are_no x.leaves ≡ true = none_by tokens x.leaves x.bodies n x.taken in cc
  where
    none_by : (tokens : List Item) (ls : List Leaf) (bs : List Parts) → tokens ≡ [] → AreTaken g [] tokens ls bs → are_no ls ≡ true
    none_by [] [] bs n h = refl
    none_by [] (l ∷ ls) bs n h = absurd h
    none_by (t ∷ tokens) ls bs n h = absurd (cc)

pub some_leaves : (g : Judge) (tokens : List Item) (x : AreFaultless g tokens) → (tokens ≡ [] → ⊥) → are_no x.leaves ≡ false
some_leaves g tokens x n = false_from_ne_true (are_no x.leaves) (λ e. n (none_told g tokens x e))

-- no item of a text is its end
item_tokens : (kind : TokenKind) (start stop after : ℕ) (others : Items) → AreTokens others.items → AreTokens (with_item kind start stop after others).items
item_tokens TokenKind.End start stop after others h = tt
item_tokens (TokenKind.Operator o) start stop after others h = ((λ e. cc), h)
item_tokens TokenKind.Number start stop after others h = ((λ e. cc), h)
item_tokens (TokenKind.Word ms) start stop after others h = ((λ e. cc), h)

first_tokens : (others : Waiting → ℕ → Items) (w : Waiting) (at : ℕ) (first : FirstItem) → ((v : Waiting) (place : ℕ) → AreTokens (others v place).items) → AreTokens (with_first others w at first).items
first_tokens others w at (NoItem wrong) h = tt
first_tokens others w at (FoundItem kind start stop after) h = item_tokens kind (at + start) (at + stop) (at + after) _ (h (behind_token kind w) (at + after))

tokens_from : (n : ℕ) (e : Bool) (text : List ℕ) (w : Waiting) (at : ℕ) → AreTokens (items_from n e text w at).items
tokens_from zero e text w at = tt
tokens_from (suc n) e text w at = first_tokens (λ v place. items_from n e text v place) w at (first_item e (length text) w (drop at text)) (λ v place. tokens_from n e text v place)

pub tokens_of : (e : Bool) (text : List ℕ) → AreTokens (items_of e text).items
tokens_of e text = tokens_from (suc (length text)) e text nothing 0

-- what a text is that ends so
module _ (g : Judge) (s : IsShell g.grammar) (tokens : List Item) where
  abbrev ends : Ending → Result CompoundList PartFault
  ends ending = and_then (judged g tokens) (λ j. ended_by g.left g.text (waiting_behind nothing tokens) j ending)

  abbrev Is : Ending → Result CompoundList PartFault → Type 0
  Is ending answer = ((f : PartFault) × FirstFault g tokens f × (answer ≡ Err f)) ⊎ (AreFaultless g tokens × EndIs g tokens ending answer)

  whole_told : (x : AreFaultless g tokens) → AreTokens tokens → (b : Bool) → is_whole g.grammar (inputs_of tokens) ≡ b
      → EndIs g tokens AtEnd (if b then Ok (tree_by (behind g tokens x.leaves x.bodies)) else Err (fault.Refused (length g.text)))
  whole_told x n true h = inl (tree_by (behind g tokens x.leaves x.bodies), tree_alone g s tokens x n h, refl)
  whole_told x n false h = inr (whole_not_derive g s tokens h, refl)

  end_told : (x : AreFaultless g tokens) → AreTokens tokens → (ending : Ending) → EndIs g tokens ending (ended_by g.left g.text (waiting_behind nothing tokens) (behind g tokens x.leaves x.bodies) ending)
  end_told x n AtEnd = whole_told x n (is_whole g.grammar (inputs_of tokens)) refl
  end_told x n (Cut at) = refl

  told : AreTokens tokens → (ending : Ending) (r : Result Judged PartFault) → JudgedSo g tokens r → Is ending (and_then r (λ j. ended_by g.left g.text (waiting_behind nothing tokens) j ending))
  told n ending (Ok k) (x, e) = subst (λ j. Is ending (ended_by g.left g.text (waiting_behind nothing tokens) j ending)) (sym e) (inr (x, end_told x n ending))
  told n ending (Err f) h = inl (f, h, refl)

  whole_gives : (b : Bool) (tree : CompoundList) (wrong : PartFault) → b ≡ true → (if b then Ok tree else Err wrong) ≡ Ok tree
  whole_gives b tree wrong e = rw e refl

  whole_fails : (b : Bool) (tree : CompoundList) (wrong : PartFault) → b ≡ false → (if b then Ok tree else Err wrong) ≡ Err wrong
  whole_fails b tree wrong e = rw e refl

  with_end : (x : AreFaultless g tokens) (ending : Ending) → ends ending ≡ ended_by g.left g.text (waiting_behind nothing tokens) (behind g tokens x.leaves x.bodies) ending
  with_end x ending = ap (λ o. and_then o (λ j. ended_by g.left g.text (waiting_behind nothing tokens) j ending)) (faultless_judged g s tokens x)

  end_said : (x : AreFaultless g tokens) (ending : Ending) (answer : Result CompoundList PartFault) → EndIs g tokens ending answer → ends ending ≡ answer
  end_said x AtEnd answer (inl (tree, a, e)) =
      with_end a.faultless AtEnd
      ∙ (whole_gives (is_whole g.grammar (inputs_of tokens)) (tree_by (behind g tokens a.faultless.leaves a.faultless.bodies)) _ (tree_whole g s tokens [] tree a)
      ∙ (ap Ok (alone_gives g s tokens tree a) ∙ sym e))
  end_said x AtEnd answer (inr (d, e)) =
      with_end x AtEnd
      ∙ (whole_fails (is_whole g.grammar (inputs_of tokens)) (tree_by (behind g tokens x.leaves x.bodies)) _ (derive_not_whole g s tokens d) ∙ sym e)
  end_said x (Cut at) answer h = with_end x (Cut at) ∙ sym h

  said : (ending : Ending) (answer : Result CompoundList PartFault) → Is ending answer → ends ending ≡ answer
  said ending answer (inl (f, h, e)) = ap (λ o. and_then o (λ j. ended_by g.left g.text (waiting_behind nothing tokens) j ending)) (fault_judged g s tokens f h) ∙ sym e
  said ending answer (inr (x, h)) = end_said x ending answer h

pub plain_defined : (read : Reader) (left : ℕ) (text : List ℕ) (answer : Result CompoundList PartFault)
    → (and_then (with_items (within read left text) nothing (items_of true text).items (none_of substitution))
    (λ j. ended_by left text (waiting_behind nothing (items_of true text).items) j (items_of true text).ending) ≡ answer) ↔ IsProgram read left text answer
plain_defined read left text answer =
    let g = inner read left text in
    let items = (items_of true text).items in
    let ending = (items_of true text).ending in (
      (λ h. subst (λ x. IsProgram read left text x) h (told g (inr refl) items (tokens_of true text) ending (judged g items) (judged_told g (inr refl) items))),
      (λ h. said g (inr refl) items ending answer h),
    )

-- the same of tokens that are judged without fault
so_tree : (g : Judge) → IsShell g.grammar → (tokens : List Item) → AreTokens tokens → (j : Judged) → JudgedSo g tokens (Ok j) → (tree : Tree) → IsTreeOf g.grammar (inputs_of tokens) tree
    → (bodies : List Parts) → syntax_of tree (with_bodies j.leaves bodies) ≡ Some (tree_by (record j { bodies = bodies }))
so_tree g s tokens n j (x, e) tree d bodies =
    subst (λ (k : Judged). syntax_of tree (with_bodies k.leaves bodies) ≡ Some (tree_by (record k { bodies = bodies }))) (sym e)
    (tree_given g s tokens x.leaves x.bodies x.taken n tree d bodies)

pub judged_tree : (grammar : Tabulation) → IsShell grammar → (read : Reader) (left : ℕ) (text : List ℕ) (tokens : List Item) (j : Judged) → AreTokens tokens
    → with_items (within read left text) nothing tokens (none_of grammar) ≡ Ok j → (tree : Tree) → IsTreeOf grammar (inputs_of tokens) tree
    → (bodies : List Parts) → syntax_of tree (with_bodies j.leaves bodies) ≡ Some (tree_by (record j { bodies = bodies }))
judged_tree grammar s read left text tokens j n h tree d bodies =
    let g : Judge = record { grammar = grammar; read = read; left = left; text = text } in
    so_tree g s tokens n j (subst (λ r. JudgedSo g tokens r) h (judged_told g s tokens)) tree d bodies

pub one_derivation : (grammar : Tabulation) → IsShell grammar → (tokens : List Item) (x y : Tree) → IsTreeOf grammar (inputs_of tokens) x → IsTreeOf grammar (inputs_of tokens) y → x ≡ y
one_derivation grammar s tokens x y a b = tree_once_only grammar (shell_predictive grammar s) (inputs_of tokens) x y a b
