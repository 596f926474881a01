-- Without aliases tokens stand for themselves, and texts are read as derivations say.
use Rattle.std.proofs.Common.{◌≡◌, ◌↔◌, ℕ, Bool, true, false, List, [], ◌∷◌, Option, Some, None, Result, Ok, Err, refl, sym, ap, ◌∙◌, if◌then◌else◌}
use Rattle.std.specs.List.{list_any}
use Rattle.std.specs.Str.{bytes_eq}
use Rattle.sh_token_grammar.specs.Shell.{substitution}
use Rattle.sh_token_pieces.specs.declared.here.Delimiter.{Delimiter}
use Rattle.sh_syntax.specs.declared.tree.CompoundList.{CompoundList}
use Rattle.sh_parse_documents.specs.declared.item.Item.{Item}
use Rattle.sh_parse_documents.specs.Waiting.{Waiting, nothing, behind_token, due_at}
use Rattle.sh_parse_documents.specs.Stream.{items_of, waiting_behind}
use Rattle.sh_parse_words.specs.declared.fault.PartFault.{PartFault}
use Rattle.sh_aliases.specs.Aliases.{alias_named, no_aliases}
use Rattle.sh_parse_leaves.specs.Results.{and_then}
use Rattle.sh_parse_leaves.specs.Words.{within}
use Rattle.sh_parse_commands.specs.Judging.{Judged, none_of, with_item, with_items}
use Rattle.sh_parse_commands.specs.Replacing.{Inside, Origin, origin, alias_at, alias_of_word, is_eligible, unquoted_text, with_token, with_token_by, with_tokens}
use Rattle.sh_parse_commands.specs.Programs.{ended_by, inside_of, program_in, read_text}
use Rattle.sh_parse_commands.specs.Defined.{IsProgram}
use Rattle.sh_parse_commands.proofs.Nested.{read_fixed}
use Rattle.sh_parse_commands.proofs.Texts.{plain_defined}

-- without aliases no token is replaced
none_eligible : (from : List (List ℕ)) (b c : Bool) (name : List ℕ) → (if b then (if c then None else alias_named no_aliases name) else None) ≡ None
none_eligible from true true name = refl
none_eligible from true false name = refl
none_eligible from false c name = refl

none_of_word : (from : List (List ℕ)) (j : Judged) (text : Option (List ℕ)) → alias_of_word no_aliases from j text ≡ None
none_of_word from j None = refl
none_of_word from j (Some text) = none_eligible from (is_eligible j text) (list_any (λ other. bytes_eq other text) from) text

pub no_alias : (from : List (List ℕ)) (j : Judged) (item : Item) → alias_at no_aliases from j item ≡ None
unfolding alias_at
no_alias from j item = none_of_word from j (unquoted_text item.token.kind)

pub token_without : (inside : Inside) (o : Origin) (due : List Delimiter) (item : Item) (j : Judged)
    → with_token no_aliases inside o due item j ≡ with_item (within (inside.read o.from) o.left o.text) due item j
unfolding with_token
token_without inside o due item j = ap (λ a. with_token_by inside o due item j a) (no_alias o.from j item)

pub tokens_without : (inside : Inside) (o : Origin) (w : Waiting) (items : List Item) (j : Judged)
    → with_tokens no_aliases inside o w items j ≡ with_items (within (inside.read o.from) o.left o.text) w items j
tokens_without inside o w [] j = refl
tokens_without inside o w (i ∷ items) j =
    ap (λ r. and_then r (λ k. with_tokens no_aliases inside o (behind_token i.token.kind w) items k)) (token_without inside o (due_at i.token.kind w) i j)
    ∙ then_each (with_item (within (inside.read o.from) o.left o.text) (due_at i.token.kind w) i j) (λ k. with_tokens no_aliases inside o (behind_token i.token.kind w) items k)
    (λ k. with_items (within (inside.read o.from) o.left o.text) (behind_token i.token.kind w) items k) (λ k. tokens_without inside o (behind_token i.token.kind w) items k)
  where
    then_each : {A B : Type 0} (r : Result A PartFault) (f h : A → Result B PartFault) → ((x : A) → f x ≡ h x) → and_then r f ≡ and_then r h
    then_each (Ok x) f h e = e x
    then_each (Err y) f h e = refl

pub program_without : (inside : Inside) (o : Origin) → program_in no_aliases inside o
    ≡ and_then (with_items (within (inside.read o.from) o.left o.text) nothing (items_of true o.text).items (none_of substitution))
    (λ j. ended_by o.left o.text (waiting_behind nothing (items_of true o.text).items) j (items_of true o.text).ending)
unfolding program_in
program_without inside o =
    ap (λ r. and_then r (λ j. ended_by o.left o.text (waiting_behind nothing (items_of true o.text).items) j (items_of true o.text).ending))
    (tokens_without inside o nothing (items_of true o.text).items (none_of substitution))

pub program_defined : (inside : Inside) (o : Origin) (answer : Result CompoundList PartFault) → (program_in no_aliases inside o ≡ answer) ↔ IsProgram (inside.read o.from) o.left o.text answer
program_defined inside o answer =
    let p = plain_defined (inside.read o.from) o.left o.text answer in
    ((λ h. p.0 (sym (program_without inside o) ∙ h)), (λ h. program_without inside o ∙ p.1 h))

pub text_defined : (left : ℕ) (text : List ℕ) (answer : Result CompoundList PartFault) → (read_text no_aliases left text ≡ answer) ↔ IsProgram (read_text no_aliases) left text answer
text_defined left text answer =
    let p = program_defined (inside_of no_aliases) (origin [] left text) answer in
    ((λ h. p.0 (sym (read_fixed no_aliases [] left text) ∙ h)), (λ h. read_fixed no_aliases [] left text ∙ p.1 h))
