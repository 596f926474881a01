-- Rewriting ends: each value that replaces a token has tokens in which less aliases may be replaced.
use Rattle.std.proofs.Common.{◌≡◌, ℕ, zero, suc, ◌+◌, ◌<◌, ◌≤◌, ◌||◌, Bool, true, false, List, [], ◌∷◌, ◌++◌, length, Option, Some, None, refl, sym, ap, subst, ◌∙◌, append_assoc, arith, if◌then◌else◌}
use Rattle.std.proofs.lemmas.List.{append-nil}
use Rattle.sh_grammar.specs.Tabulation.{Tabulation}
use Rattle.sh_parse_documents.specs.declared.item.Item.{Item}
use Rattle.sh_parse_documents.specs.Waiting.{Waiting, behind_token, nothing}
use Rattle.sh_aliases.specs.declared.alias.Alias.{Alias}
use Rattle.sh_aliases.specs.Aliases.{AliasTable, ends_in_blank}
use Rattle.sh_parse_commands.specs.Judging.{Judged, none_of}
use Rattle.sh_parse_commands.specs.Replacing.{Origin, alias_outside, unquoted_text, value_origin}
use Rattle.sh_parse_commands.specs.Programs.{value_sizes}
use Rattle.sh_parse_commands.specs.Rewriting.{Sourced, sourced, marked, told_place, replaced_by, alias_of_text, alias_there, is_replaceable, NoneReplaced, IsStep, IsRewritten, Finished, Stepped}
use Rattle.sh_parse_commands.proofs.Nested.{Found, Lighter, found_fresh, is_among, lighter, outside, outside_at_most}

-- ---- marks
or_same : (a b c : Bool) → ((a || c) || b) ≡ (a || (c || b))
or_same true b c = refl
or_same false b c = refl

or_false : (b : Bool) → (b || false) ≡ b
or_false true = refl
or_false false = refl

marked_marked : (b c : Bool) (ts : List Sourced) → marked b (marked c ts) ≡ marked (c || b) ts
marked_marked b c [] = refl
marked_marked b c (t ∷ ts) = ap (λ d. record t { is_behind_blank = d } ∷ ts) (or_same t.is_behind_blank b c)

marked_false : (ts : List Sourced) → marked false ts ≡ ts
marked_false [] = refl
marked_false (t ∷ ts) = ap (λ d. record t { is_behind_blank = d } ∷ ts) (or_false t.is_behind_blank)

module _ (table : AliasTable) (grammar : Tabulation) where
  -- ---- a token that is replaced has an alias that wasn't before
  found_text : (before : List Sourced) (t : Sourced) (alias : Alias) (b : Bool) (text : List ℕ) → (if b then alias_outside table t.origin.from text else None) ≡ Some alias → Found table t.origin.from alias
  found_text before t alias true text h = found_fresh table t.origin.from (none_of grammar) alias (is_among t.origin.from text) text refl h
  found_text before t alias false text h = absurd (cc)

  found_word : (before : List Sourced) (t : Sourced) (alias : Alias) (text : Option (List ℕ)) → alias_of_text table grammar before t text ≡ Some alias → Found table t.origin.from alias
  found_word before t alias None h = absurd (cc)
  found_word before t alias (Some text) h = found_text before t alias (is_replaceable grammar before t text) text h

  found : (before : List Sourced) (t : Sourced) (alias : Alias) → alias_there table grammar before t ≡ Some alias → Found table t.origin.from alias
  unfolding alias_there
  found before t alias h = found_word before t alias (unquoted_text t.item.token.kind) h

  abbrev AllBelow : ℕ → List Sourced → Type 0
  AllBelow n [] = Unit {0}
  AllBelow n (t ∷ ts) = (outside table t.origin.from < n) × AllBelow n ts

  sourced_below : (n : ℕ) (o : Origin) (place : Option ℕ) → outside table o.from < n → (w : Waiting) (items : List Item) → AllBelow n (sourced o place w items)
  sourced_below n o place l w [] = tt
  sourced_below n o place l w (i ∷ items) = (l, sourced_below n o place l (behind_token i.token.kind w) items)

  value_below : (n : ℕ) (before : List Sourced) (t : Sourced) (alias : Alias) → alias_there table grammar before t ≡ Some alias → outside table t.origin.from < suc n
      → AllBelow n (sourced (value_origin t.origin alias) (Some (told_place t)) nothing alias.items)
  value_below n before t alias h l =
      let f = found before t alias h in
      let k : suc (suc (length alias.value)) + outside table (t.origin.from ++ alias.name ∷ []) ≤ outside table t.origin.from = lighter t.origin.from f.name alias f.fresh table f.named in
      sourced_below n (value_origin t.origin alias) (Some (told_place t)) (omega (k, l, arith)) nothing alias.items

  -- ---- rewriting
  abbrev Ends : List Sourced → List Sourced → Type 0
  Ends done ts = (us : List Sourced) × IsRewritten table grammar (done ++ ts) us

  none_push : (pre done : List Sourced) (t : Sourced) → NoneReplaced table grammar pre done → alias_there table grammar (pre ++ done) t ≡ None → NoneReplaced table grammar pre (done ++ t ∷ [])
  none_push pre [] t n h = (subst (λ x. alias_there table grammar x t ≡ None) (append-nil pre) h, tt)
  none_push pre (d ∷ done) t n h = (n.0, none_push (pre ++ d ∷ []) done t n.1 (subst (λ x. alias_there table grammar x t ≡ None) (sym (append_assoc pre (d ∷ []) done)) h))

  abbrev Others : List Sourced → Type 0
  Others rest = (done : List Sourced) (b : Bool) → NoneReplaced table grammar [] done → Ends done (marked b rest)

  -- a token, and those behind it
  by_token : (n : ℕ) (done : List Sourced) (t : Sourced) (after : List Sourced) → NoneReplaced table grammar [] done → outside table t.origin.from < suc n
      → ((vs : List Sourced) → AllBelow n vs → (b c : Bool) → Ends done (marked b (vs ++ marked c after))) → Others after
      → (a : Option Alias) → alias_there table grammar done t ≡ a → Ends done (t ∷ after)
  by_token n done t after none l values others None h =
      let e = others (done ++ t ∷ []) false (none_push [] done t none h) in
      (e.0, subst (λ x. IsRewritten table grammar x e.0) (ap (λ x. (done ++ t ∷ []) ++ x) (marked_false after) ∙ append_assoc done (t ∷ []) after) e.1)
  by_token n done t after none l values others (Some alias) h =
      let e = values (sourced (value_origin t.origin alias) (Some (told_place t)) nothing alias.items) (value_below n done t alias h l) t.is_behind_blank (ends_in_blank alias.value) in (
        e.0,
        Stepped (done ++ t ∷ after) (done ++ replaced_by t alias after) e.0
            (record { before = done; token = t; after = after; alias = alias; joined = refl; first = none; replaced = h; gives = refl }) e.1,
      )

  abbrev At : ℕ → Type 0
  At n = (vs rest : List Sourced) → AllBelow n vs → Others rest → (done : List Sourced) (b c : Bool) → NoneReplaced table grammar [] done → Ends done (marked b (vs ++ marked c rest))

  nothing_more : (rest : List Sourced) → Others rest → (done : List Sourced) (b c : Bool) → NoneReplaced table grammar [] done → Ends done (marked b (marked c rest))
  nothing_more rest others done b c none = subst (λ x. Ends done x) (sym (marked_marked b c rest)) (others done (c || b) none)

  ends_at : (n : ℕ) → At n
  ends_at n [] rest below others done b c none = nothing_more rest others done b c none
  ends_at zero (v ∷ vs) rest below others done b c none = absurd (let l : outside table v.origin.from < zero = below.0 in omega (l, arith))
  ends_at (suc n) (v ∷ vs) rest below others done b c none =
      let t = record v { is_behind_blank = v.is_behind_blank || b } in
      let after = vs ++ marked c rest in
      let more : Others after = λ done' b' none'. ends_at (suc n) vs rest below.1 others done' b' c none' in
      by_token n done t after none below.0 (λ values l b' c'. ends_at n values after l more done b' c' none) more (alias_there table grammar done t) refl

  pub rewriting_ends : (o : Origin) (w : Waiting) (items : List Item) → (us : List Sourced) × IsRewritten table grammar (sourced o None w items) us
  rewriting_ends o w items =
      let l : outside table o.from < suc (value_sizes table) = (let k = outside_at_most table o.from in omega (k, arith)) in
      let last : Others [] = λ done b none. (done ++ [], Finished (done ++ []) (subst (λ x. NoneReplaced table grammar [] x) (sym (append-nil done)) none)) in
      let e = ends_at (suc (value_sizes table)) (sourced o None w items) [] (sourced_below (suc (value_sizes table)) o None l w items) last [] false false tt in
      (e.0, subst (λ x. IsRewritten table grammar x e.0) (marked_false (sourced o None w items ++ []) ∙ append-nil (sourced o None w items)) e.1)
