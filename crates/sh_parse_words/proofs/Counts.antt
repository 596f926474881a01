-- The table of symbols that matter has an entry for each symbol of each production of the grammar.
use Rattle.std.proofs.Common.{◌≡◌, refl, subst, ℕ, zero, suc, Bool, List, [], ◌∷◌, length, map, Some, slice_get, slice_index_or}
use Rattle.sh_grammar.specs.declared.Symbol.{Symbol}
use Rattle.sh_grammar.specs.Grammar.{Rule, IsRule}
use Rattle.sh_grammar.specs.Tabulation.{grammar_of}
use Rattle.sh_token_grammar.specs.Shell.{complete, substitution}
use Rattle.sh_parse_words.specs.Productions.{kept_symbols, productions}
use Rattle.sh_parse_words.proofs.Whole.{Counts}

abbrev body_lengths : List Rule → List ℕ
body_lengths rules = map (λ (r : Rule). length r.body) rules

abbrev kept_lengths : List (List Bool) → List ℕ
kept_lengths table = map (λ (k : List Bool). length k) table

same_at : (rules : List Rule) (table : List (List Bool)) (p : ℕ) (r : Rule) → body_lengths rules ≡ kept_lengths table → slice_get rules p ≡ Some r
    → length r.body ≡ length (slice_index_or table p [])
same_at [] table p r e h = absurd (cc)
same_at (x ∷ rules) [] p r e h = absurd (cc)
same_at (x ∷ rules) (k ∷ table) zero r e h =
    let is : x ≡ r = cc in
    let lengths : length x.body ≡ length k = cc in
    subst (λ (y : Rule). length y.body ≡ length k) is lengths
same_at (x ∷ rules) (k ∷ table) (suc p) r e h = same_at rules table p r (cc) h

complete_lengths : body_lengths (grammar_of complete).rules ≡ kept_lengths kept_symbols
unfolding complete productions
complete_lengths = refl

substitution_lengths : body_lengths (grammar_of substitution).rules ≡ kept_lengths kept_symbols
unfolding substitution productions
substitution_lengths = refl

pub complete_counts : Counts (grammar_of complete)
complete_counts =
    record {
      same = λ (p : ℕ) (n : ℕ) (body : List Symbol) (rule : IsRule (grammar_of complete) p n body).
          same_at (grammar_of complete).rules kept_symbols p (record { head = n; body = body }) complete_lengths rule.there;
    }

pub substitution_counts : Counts (grammar_of substitution)
substitution_counts =
    record {
      same = λ (p : ℕ) (n : ℕ) (body : List Symbol) (rule : IsRule (grammar_of substitution) p n body).
          same_at (grammar_of substitution).rules kept_symbols p (record { head = n; body = body }) substitution_lengths rule.there;
    }
