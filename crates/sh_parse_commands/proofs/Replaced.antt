-- The steps of reading tokens of which some are replaced by the values of aliases, each as what is known of its parts.
use Rattle.std.proofs.Common.{◌≡◌, ℕ, suc, true, List, [], ◌∷◌, Option, Some, None, Result, Ok, Err, sym, ap, subst, ◌∙◌}
use Rattle.sh_token_grammar.specs.Shell.{substitution}
use Rattle.sh_token_pieces.specs.declared.here.Delimiter.{Delimiter}
use Rattle.sh_syntax.specs.declared.tree.CompoundList.{CompoundList}
use Rattle.sh_parse_documents.specs.declared.item.Item.{Item}
use Rattle.sh_parse_documents.specs.Waiting.{Waiting, nothing, behind_token, due_at}
use Rattle.sh_parse_documents.specs.Stream.{Items, items_of, waiting_behind}
use Rattle.sh_parse_words.specs.declared.fault.PartFault.{PartFault}
use Rattle.sh_aliases.specs.declared.alias.Alias.{Alias}
use Rattle.sh_aliases.specs.Aliases.{AliasTable}
use Rattle.sh_parse_leaves.specs.Results.{and_then, at_other_place, fault_moved, Changes, GivesFault, Gives}
use Rattle.sh_parse_leaves.specs.Words.{within}
use Rattle.sh_parse_commands.specs.Judging.{Judged, none_of, with_item}
use Rattle.sh_parse_commands.specs.Replacing.{Inside, Origin, alias_at, behind_value, value_origin, with_token, with_token_by, with_tokens}
use Rattle.sh_parse_commands.specs.Programs.{ended_by, inside_at, program_in, program_of, reader_at}
use Rattle.sh_parse_commands.proofs.Steps.{moved_fault, then_fault}

-- one token
pub plain : (table : AliasTable) (inside : Inside) (o : Origin) (due : List Delimiter) (item : Item) (old new : Judged) (result : Result (Unit {0}) PartFault) → alias_at table o.from old item ≡ None
    → Changes result new (with_item (within (inside.read o.from) o.left o.text) due item old) → Changes result new (with_token table inside o due item old)
unfolding with_token
plain table inside o due item old new result e h = subst (λ a. Changes result new (with_token_by inside o due item old a)) (sym e) h

pub replaced : (table : AliasTable) (inside : Inside) (o : Origin) (due : List Delimiter) (item : Item) (alias : Alias) (old middle new : Judged) → alias_at table o.from old item ≡ Some alias
    → inside.value (value_origin o alias) alias.items old ≡ Ok middle → new ≡ behind_value alias middle → with_token table inside o due item old ≡ Ok new
unfolding with_token
replaced table inside o due item alias old middle new e h n =
    ap (λ a. with_token_by inside o due item old a) e
    ∙ ap (λ r. fault_moved (λ at. item.token.span.start) (and_then r (λ k. Ok (behind_value alias k)))) h
    ∙ ap (λ (k : Judged). Ok k) (sym n)

pub value_fault : (table : AliasTable) (inside : Inside) (o : Origin) (due : List Delimiter) (item : Item) (alias : Alias) (old : Judged) (f told : PartFault) → alias_at table o.from old item ≡ Some alias
    → GivesFault f (inside.value (value_origin o alias) alias.items old) → told ≡ at_other_place (λ at. item.token.span.start) f → GivesFault told (with_token table inside o due item old)
unfolding with_token
value_fault table inside o due item alias old f told e g m =
    subst (λ a. GivesFault told (with_token_by inside o due item old a)) (sym e)
    (subst (λ z. GivesFault z (with_token_by inside o due item old (Some alias))) (sym m)
    (moved_fault f (and_then (inside.value (value_origin o alias) alias.items old) (λ k. Ok (behind_value alias k))) (λ at. item.token.span.start)
    (then_fault f (inside.value (value_origin o alias) alias.items old) (λ k. Ok (behind_value alias k)) g)))

-- more tokens
abbrev pub IsSameFrom : AliasTable → Inside → Origin → (w : Waiting) → (rest : List Item) → (j : Judged) → (items : List Item) → (first : Judged) → Type 0
IsSameFrom table inside o w rest j items first = (with_tokens table inside o w rest j ≡ with_tokens table inside o nothing items first) × (waiting_behind w rest ≡ waiting_behind nothing items)

pub tokens_fault : (table : AliasTable) (inside : Inside) (o : Origin) (w : Waiting) (rest items others : List Item) (item : Item) (j first : Judged) (f : PartFault)
    → with_tokens table inside o w rest j ≡ with_tokens table inside o nothing items first → rest ≡ item ∷ others
    → GivesFault f (with_token table inside o (due_at item.token.kind w) item j) → GivesFault f (with_tokens table inside o nothing items first)
tokens_fault table inside o w rest items others item j first f h r g =
    subst (λ z. GivesFault f z) (sym (ap (λ z. with_tokens table inside o w z j) r) ∙ h)
    (then_fault f (with_token table inside o (due_at item.token.kind w) item j) (λ k. with_tokens table inside o (behind_token item.token.kind w) others k) g)

pub tokens_taken : (table : AliasTable) (inside : Inside) (o : Origin) (w : Waiting) (rest items : List Item) (j first : Judged)
    → with_tokens table inside o w rest j ≡ with_tokens table inside o nothing items first → rest ≡ [] → with_tokens table inside o nothing items first ≡ Ok j
tokens_taken table inside o w rest items j first h r = sym h ∙ ap (λ z. with_tokens table inside o w z j) r

pub tokens_next : (table : AliasTable) (inside : Inside) (o : Origin) (w v : Waiting) (rest items others : List Item) (item : Item) (j k first : Judged)
    → IsSameFrom table inside o w rest j items first → rest ≡ item ∷ others → with_token table inside o (due_at item.token.kind w) item j ≡ Ok k → v ≡ behind_token item.token.kind w
    → IsSameFrom table inside o v others k items first
tokens_next table inside o w v rest items others item j k first h r g n = (
  ap (λ z. with_tokens table inside o z others k) n
      ∙ sym (ap (λ z. and_then z (λ i. with_tokens table inside o (behind_token item.token.kind w) others i)) g)
      ∙ sym (ap (λ z. with_tokens table inside o w z j) r) ∙ h.0,
  ap (λ z. waiting_behind z others) n ∙ sym (ap (λ z. waiting_behind w z) r) ∙ h.1,
)

-- a text
pub text_fault : (table : AliasTable) (depth : ℕ) (o : Origin) (found : Items) (f : PartFault) → items_of true o.text ≡ found
    → GivesFault f (with_tokens table (inside_at table depth) o nothing found.items (none_of substitution)) → GivesFault f (reader_at table o.from (suc depth) o.left o.text)
unfolding program_in
text_fault table depth o found f e g =
    subst (λ z. GivesFault f (program_of table (inside_at table depth) o z)) (sym e)
    (then_fault f (with_tokens table (inside_at table depth) o nothing found.items (none_of substitution)) (λ j. ended_by o.left o.text (waiting_behind nothing found.items) j found.ending) g)

pub text_ended : (table : AliasTable) (depth : ℕ) (o : Origin) (found : Items) (w : Waiting) (j : Judged) (result : Result CompoundList PartFault) → items_of true o.text ≡ found
    → with_tokens table (inside_at table depth) o nothing found.items (none_of substitution) ≡ Ok j → w ≡ waiting_behind nothing found.items
    → Gives result (ended_by o.left o.text w j found.ending) → Gives result (reader_at table o.from (suc depth) o.left o.text)
unfolding program_in
text_ended table depth o found w j result e h v g =
    subst (λ z. Gives result (program_of table (inside_at table depth) o z)) (sym e)
    (subst (λ z. Gives result (and_then z (λ k. ended_by o.left o.text (waiting_behind nothing found.items) k found.ending))) (sym h)
    (subst (λ z. Gives result (ended_by o.left o.text z j found.ending)) v g))
