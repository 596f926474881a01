-- Texts and values nest no deeper than their levels, their bytes and the values that aren't replaced yet: what is inside is the same, however
-- deep texts and values may nest.
use Rattle.std.proofs.Common.{◌≡◌, ℕ, zero, suc, ◌+◌, ◌-◌, ◌<◌, ◌≤◌, ◌||◌, Bool, true, false, List, [], ◌∷◌, ◌++◌, length, Option, Some, None, Result, Ok, refl, sym, ap, subst, ◌∙◌, arith, if◌then◌else◌}
use Rattle.std.specs.List.{find, list_any}
use Rattle.std.specs.Str.{bytes_eq}
use Rattle.std.proofs.lemmas.Slice.Eq.{bytes_eq-Decides}
use Rattle.sh_token.specs.Found.{first_token}
use Rattle.sh_token_pieces.specs.declared.here.Delimiter.{Delimiter}
use Rattle.sh_token_grammar.specs.Shell.{substitution as substitutions}
use Rattle.sh_parse_documents.specs.declared.item.Item.{Item}
use Rattle.sh_parse_documents.specs.Waiting.{Waiting, nothing, behind_token, due_at}
use Rattle.sh_parse_documents.specs.Items.{first_item}
use Rattle.sh_parse_documents.specs.Stream.{items_of, waiting_behind}
use Rattle.sh_parse_words.specs.declared.fault.PartFault.{PartFault}
use Rattle.sh_aliases.specs.declared.alias.Alias.{Alias}
use Rattle.sh_aliases.specs.Aliases.{AliasTable, alias_named, has_name}
use Rattle.sh_parse_leaves.specs.Results.{and_then, fault_moved}
use Rattle.sh_parse_commands.specs.Judging.{Judged, none_of}
use Rattle.sh_parse_commands.specs.Replacing.{Inside, Origin, origin, alias_at, alias_of_word, alias_outside, behind_value, is_eligible, unquoted_text, value_origin, with_token, with_token_by, with_tokens}
use Rattle.sh_parse_commands.specs.Programs.{ended_by, inside_at, inside_of, program_in, value_sizes}
use Rattle.sh_parse_commands.proofs.Deeper.{Agree, item_same, then_all}

-- ---- the values that aren't replaced yet
abbrev pub is_among : List (List ℕ) → List ℕ → Bool
is_among from name = list_any (λ other. bytes_eq other name) from

abbrev pub counted : Bool → ℕ → ℕ
counted b size = if b then 0 else size

abbrev pub outside : AliasTable → List (List ℕ) → ℕ
outside [] from = 0
outside (alias ∷ others) from = counted (is_among from alias.name) (suc (suc (length alias.value))) + outside others from

counted_at_most : (b : Bool) (size : ℕ) → counted b size ≤ size
counted_at_most true size = omega arith
counted_at_most false size = omega arith

pub outside_at_most : (table : AliasTable) (from : List (List ℕ)) → outside table from ≤ value_sizes table
outside_at_most [] from = omega arith
outside_at_most (alias ∷ others) from =
    let a = counted_at_most (is_among from alias.name) (suc (suc (length alias.value))) in let k = outside_at_most others from in omega (a, k, arith)

among_push : (from : List (List ℕ)) (more name : List ℕ) → is_among from name ≡ true → is_among (from ++ more ∷ []) name ≡ true
among_push [] more name e = absurd (cc)
among_push (other ∷ from) more name e = go (bytes_eq other name) refl (among_push from more name)
  where
    go : (b : Bool) → bytes_eq other name ≡ b → (is_among from name ≡ true → is_among (from ++ more ∷ []) name ≡ true) → is_among (other ∷ from ++ more ∷ []) name ≡ true
    go true h k = ap (λ c. c || is_among (from ++ more ∷ []) name) h
    go false h k =
        let rest : is_among from name ≡ true = sym (ap (λ c. c || is_among from name) h) ∙ e in
        ap (λ c. c || is_among (from ++ more ∷ []) name) h ∙ k rest

among_last : (from : List (List ℕ)) (name : List ℕ) → is_among (from ++ name ∷ []) name ≡ true
among_last [] name = ap (λ c. c || false) ((bytes_eq-Decides name name).1 refl)
among_last (other ∷ from) name = go (bytes_eq other name) refl (among_last from name)
  where
    go : (b : Bool) → bytes_eq other name ≡ b → is_among (from ++ name ∷ []) name ≡ true → is_among (other ∷ from ++ name ∷ []) name ≡ true
    go true h k = ap (λ c. c || is_among (from ++ name ∷ []) name) h
    go false h k = ap (λ c. c || is_among (from ++ name ∷ []) name) h ∙ k

counted_less : (b c : Bool) (size : ℕ) → (b ≡ true → c ≡ true) → counted c size ≤ counted b size
counted_less true true size h = omega arith
counted_less true false size h = let x : false ≡ true = h refl in absurd (cc)
counted_less false true size h = omega arith
counted_less false false size h = omega arith

outside_push : (table : AliasTable) (from : List (List ℕ)) (name : List ℕ) → outside table (from ++ name ∷ []) ≤ outside table from
outside_push [] from name = omega arith
outside_push (alias ∷ others) from name =
    let a = counted_less (is_among from alias.name) (is_among (from ++ name ∷ []) alias.name) (suc (suc (length alias.value))) (among_push from name alias.name) in
    let k = outside_push others from name in omega (a, k, arith)

-- an alias that is replaced isn't outside any more
abbrev pub Lighter : AliasTable → List (List ℕ) → Alias → Type 0
Lighter table from alias = suc (suc (length alias.value)) + outside table (from ++ alias.name ∷ []) ≤ outside table from

some_same : {A : Type 0} (x y : A) → Some x ≡ Some y → x ≡ y
some_same x y e = cc

module _ (from : List (List ℕ)) (name : List ℕ) (alias : Alias) (fresh : is_among from name ≡ false) where
  at_first : (first : Alias) (others : AliasTable) → bytes_eq first.name name ≡ true → first ≡ alias → Lighter (first ∷ others) from alias
  at_first first others e is =
      let named : first.name ≡ name = (bytes_eq-Decides first.name name).0 e in
      let new : is_among from first.name ≡ false = ap (is_among from) named ∙ fresh in
      let old : is_among (from ++ first.name ∷ []) first.name ≡ true = among_last from first.name in
      let k = outside_push others from first.name in
      subst (λ z. Lighter (first ∷ others) from z) is
      (rw (new, old) (let l : outside others (from ++ first.name ∷ []) ≤ outside others from = k in omega (l, arith)))

  behind_first : (first : Alias) (others : AliasTable) → Lighter others from alias → Lighter (first ∷ others) from alias
  behind_first first others k =
      let a = counted_less (is_among from first.name) (is_among (from ++ alias.name ∷ []) first.name) (suc (suc (length first.value))) (among_push from alias.name first.name) in
      omega (a, k, arith)

  pub lighter : (table : AliasTable) → alias_named table name ≡ Some alias → Lighter table from alias
  lighter [] e = absurd (cc)
  lighter (first ∷ others) e = go (bytes_eq first.name name) refl (lighter others)
    where
      go : (b : Bool) → bytes_eq first.name name ≡ b → (alias_named others name ≡ Some alias → Lighter others from alias) → Lighter (first ∷ others) from alias
      go true h k =
          let is : Some first ≡ Some alias = sym (ap (λ c. if c then Some first else alias_named others name) h) ∙ e in at_first first others h (some_same first alias is)
      go false h k = let rest : alias_named others name ≡ Some alias = sym (ap (λ c. if c then Some first else alias_named others name) h) ∙ e in behind_first first others (k rest)

-- ---- what an alias that replaces a token is
pub record Found (table : AliasTable) (from : List (List ℕ)) (alias : Alias) : Type 0 where
  pub name : List ℕ
  pub fresh : is_among from name ≡ false
  pub named : alias_named table name ≡ Some alias

module _ (table : AliasTable) (from : List (List ℕ)) (j : Judged) (alias : Alias) where
  pub found_fresh : (b : Bool) (name : List ℕ) → is_among from name ≡ b → (if b then None else alias_named table name) ≡ Some alias → Found table from alias
  found_fresh true name e h = absurd (cc)
  found_fresh false name e h = record { name = name; fresh = e; named = h }

  found_eligible : (b : Bool) (text : List ℕ) → (if b then alias_outside table from text else None) ≡ Some alias → Found table from alias
  found_eligible true text h = found_fresh (is_among from text) text refl h
  found_eligible false text h = absurd (cc)

  found_word : (text : Option (List ℕ)) → alias_of_word table from j text ≡ Some alias → Found table from alias
  found_word None h = absurd (cc)
  found_word (Some text) h = found_eligible (is_eligible j text) text h

  found : (item : Item) → alias_at table from j item ≡ Some alias → Found table from alias
  unfolding alias_at
  found item h = found_word (unquoted_text item.token.kind) h

-- ---- two ways to read what is inside, which agree where it nests less than this
module _ (table : AliasTable) where
  abbrev pub size : Origin → ℕ
  size o = o.left + length o.text + outside table o.from

  pub size_at_most : (o : Origin) → size o ≤ o.left + length o.text + value_sizes table
  size_at_most o = let k = outside_at_most table o.from in omega (k, arith)

  pub record Near (n : ℕ) (one other : Inside) : Type 0 where
    pub read : (from : List (List ℕ)) (left : ℕ) (inner : List ℕ) → left + length inner + outside table from < n → one.read from left inner ≡ other.read from left inner
    pub empty : (from : List (List ℕ)) → one.read from 0 [] ≡ other.read from 0 []
    pub value : (o : Origin) (items : List Item) (j : Judged) → suc (size o) < n → one.value o items j ≡ other.value o items j

  pub readers_agree : (one other : Inside) (o : Origin) → Near (size o) one other → Agree (o.left + length o.text) (one.read o.from) (other.read o.from)
  readers_agree one other o near = ((λ left inner l. near.read o.from left inner (omega (l, arith))), near.empty o.from)

  value_smaller : (o : Origin) (j : Judged) (item : Item) (alias : Alias) → alias_at table o.from j item ≡ Some alias → suc (size (value_origin o alias)) < size o
  value_smaller o j item alias e =
      let f = found table o.from j alias item e in
      let k : suc (suc (length alias.value)) + outside table (o.from ++ alias.name ∷ []) ≤ outside table o.from = lighter o.from f.name alias f.fresh table f.named in
      omega (k, arith)

  module _ (one other : Inside) (o : Origin) (near : Near (size o) one other) where
    token_by : (due : List Delimiter) (item : Item) (j : Judged) (a : Option Alias) → alias_at table o.from j item ≡ a → with_token_by one o due item j a ≡ with_token_by other o due item j a
    token_by due item j None e = item_same o.left (one.read o.from) (other.read o.from) o.text (readers_agree one other o near) due item j
    token_by due item j (Some alias) e =
        ap (λ r. fault_moved (λ at. item.token.span.start) (and_then r (λ k. Ok (behind_value alias k)))) (near.value (value_origin o alias) alias.items j (value_smaller o j item alias e))

    pub token_same : (due : List Delimiter) (item : Item) (j : Judged) → with_token table one o due item j ≡ with_token table other o due item j
    unfolding with_token
    token_same due item j = token_by due item j (alias_at table o.from j item) refl

    pub tokens_same : (items : List Item) (w : Waiting) (j : Judged) → with_tokens table one o w items j ≡ with_tokens table other o w items j
    tokens_same [] w j = refl
    tokens_same (i ∷ items) w j =
        then_all (with_token table one o (due_at i.token.kind w) i j) (λ k. with_tokens table one o (behind_token i.token.kind w) items k)
        (λ k. with_tokens table other o (behind_token i.token.kind w) items k) (λ k. tokens_same items (behind_token i.token.kind w) k)
        ∙ ap (λ r. and_then r (λ k. with_tokens table other o (behind_token i.token.kind w) items k)) (token_same (due_at i.token.kind w) i j)

    pub program_same : program_in table one o ≡ program_in table other o
    unfolding program_in
    program_same =
        ap (λ r. and_then r (λ j. ended_by o.left o.text (waiting_behind nothing (items_of true o.text).items) j (items_of true o.text).ending))
        (tokens_same (items_of true o.text).items nothing (none_of substitutions))

  -- nothing is read in a text without bytes
  empty_same : (one other : Inside) (from : List (List ℕ)) (left : ℕ) → program_in table one (origin from left []) ≡ program_in table other (origin from left [])
  unfolding program_in first_item first_token
  empty_same one other from left = refl

  -- ---- at a depth that is enough
  abbrev at : ℕ → Inside
  at depth = inside_at table depth

  record Same (d : ℕ) : Type 0 where
    pub read : (from : List (List ℕ)) (left : ℕ) (text : List ℕ) → left + length text + outside table from ≤ d → (at (suc d)).read from left text ≡ (at (suc (suc d))).read from left text
    pub value : (o : Origin) (items : List Item) (j : Judged) → suc (size o) ≤ d → (at (suc d)).value o items j ≡ (at (suc (suc d))).value o items j

  read_nothing : (from : List (List ℕ)) (left : ℕ) (text : List ℕ) → left + length text + outside table from ≤ 0 → (at 1).read from left text ≡ (at 2).read from left text
  read_nothing from left [] l = empty_same (at 0) (at 1) from left
  read_nothing from left (b ∷ text) l = absurd (omega (l, arith))

  same : (d : ℕ) → Same d
  same zero = record { read = read_nothing; value = λ o items j l. absurd (omega (l, arith)) }
  same (suc d) =
      let k = same d in
      let near : (o : Origin) → size o ≤ suc d → Near (size o) (at (suc d)) (at (suc (suc d))) =
      λ o l. record {
        read = λ from left inner m. k.read from left inner (omega (m, l, arith));
        empty = λ from. empty_same (at d) (at (suc d)) from 0;
        value = λ p items j m. k.value p items j (omega (m, l, arith));
      } in
      record {
        read = λ from left text l. program_same (at (suc d)) (at (suc (suc d))) (origin from left text) (near (origin from left text) l);
        value = λ o items j l. tokens_same (at (suc d)) (at (suc (suc d))) o (near o (omega (l, arith))) items nothing j;
      }

  read_down : (k : ℕ) (from : List (List ℕ)) (left : ℕ) (text : List ℕ)
      → (at (suc (k + (left + length text + outside table from)))).read from left text ≡ (at (suc (left + length text + outside table from))).read from left text
  read_down zero from left text =
      let e : zero + (left + length text + outside table from) ≡ left + length text + outside table from = omega arith in ap (λ n. (at (suc n)).read from left text) e
  read_down (suc k) from left text =
      let e : suc (suc k + (left + length text + outside table from)) ≡ suc (suc (k + (left + length text + outside table from))) = omega arith in
      ap (λ n. (at n).read from left text) e ∙ sym ((same (k + (left + length text + outside table from))).read from left text (omega arith)) ∙ read_down k from left text

  read_at : (d : ℕ) (from : List (List ℕ)) (left : ℕ) (text : List ℕ) → left + length text + outside table from ≤ d
      → (at (suc d)).read from left text ≡ (at (suc (left + length text + outside table from))).read from left text
  read_at d from left text l =
      let e : d ≡ d - (left + length text + outside table from) + (left + length text + outside table from) = omega (l, arith) in
      ap (λ n. (at (suc n)).read from left text) e ∙ read_down (d - (left + length text + outside table from)) from left text

  value_down : (k : ℕ) (o : Origin) (items : List Item) (j : Judged) → (at (suc (k + suc (size o)))).value o items j ≡ (at (suc (suc (size o)))).value o items j
  value_down zero o items j = let e : zero + suc (size o) ≡ suc (size o) = omega arith in ap (λ n. (at (suc n)).value o items j) e
  value_down (suc k) o items j =
      let e : suc (suc k + suc (size o)) ≡ suc (suc (k + suc (size o))) = omega arith in
      ap (λ n. (at n).value o items j) e ∙ sym ((same (k + suc (size o))).value o items j (omega arith)) ∙ value_down k o items j

  value_at : (d : ℕ) (o : Origin) (items : List Item) (j : Judged) → suc (size o) ≤ d → (at (suc d)).value o items j ≡ (at (suc (suc (size o)))).value o items j
  value_at d o items j l =
      let e : d ≡ d - suc (size o) + suc (size o) = omega (l, arith) in ap (λ n. (at (suc n)).value o items j) e ∙ value_down (d - suc (size o)) o items j

  -- what nests so deep is read as by `inside_of`
  pub near_whole : (d : ℕ) (o : Origin) → size o ≤ suc d → Near (size o) (at (suc d)) (inside_of table)
  near_whole d o l =
      record {
        read = λ from left inner m.
            read_at d from left inner (omega (m, l, arith))
            ∙ sym (read_at (left + length inner + value_sizes table) from left inner (let k = outside_at_most table from in omega (k, arith)));
        empty = λ from. empty_same (at d) (at (0 + 0 + value_sizes table)) from 0;
        value = λ p items j m.
            value_at d p items j (omega (m, l, arith))
            ∙ sym (value_at (suc (p.left + length p.text + value_sizes table)) p items j (let k = size_at_most p in omega (k, arith)));
      }

  -- so a text is read by the same rules, however deep it nests
  fixed_at : (d : ℕ) (o : Origin) → size o ≤ d → program_in table (at d) o ≡ program_in table (inside_of table) o
  fixed_at zero o l = go o.from o.left o.text refl
    where
      go : (from : List (List ℕ)) (left : ℕ) (text : List ℕ) → o ≡ origin from left text → program_in table (at zero) o ≡ program_in table (inside_of table) o
      go from left [] e = subst (λ z. program_in table (at zero) z ≡ program_in table (inside_of table) z) (sym e) (empty_same (at zero) (inside_of table) from left)
      go from left (b ∷ text) e = absurd (let k : size (origin from left (b ∷ text)) ≤ zero = subst (λ z. size z ≤ zero) e l in omega (k, arith))
  fixed_at (suc d) o l = program_same (at (suc d)) (inside_of table) o (near_whole d o l)

  pub read_fixed : (from : List (List ℕ)) (left : ℕ) (text : List ℕ) → (inside_of table).read from left text ≡ program_in table (inside_of table) (origin from left text)
  read_fixed from left text = fixed_at (left + length text + value_sizes table) (origin from left text) (size_at_most (origin from left text))

  pub value_fixed : (o : Origin) (items : List Item) (j : Judged) → (inside_of table).value o items j ≡ with_tokens table (inside_of table) o nothing items j
  value_fixed o items j =
      tokens_same (at (suc (o.left + length o.text + value_sizes table))) (inside_of table) o
      (near_whole (o.left + length o.text + value_sizes table) o (let k = size_at_most o in omega (k, arith))) items nothing j
