-- The part of a text that a pattern matches, by the definition's four cases.
use Rattle.std.proofs.Common.{◌≡◌, ℕ, List, length, Option, sym, ap, ◌∙◌}
use Rattle.sh_pattern.specs.declared.pattern_byte.PatternByte.{PatternByte}
use Rattle.sh_pattern.specs.Match.{IsLongest, IsShortest, suffix, prefix}
use Rattle.sh_pattern.proofs.Decisions.{longest_both, shortest_both}
use Rattle.sh_syntax.specs.declared.tree.Affix.{Affix}
use Rattle.sh_syntax.specs.declared.tree.Affix.TheVariants.{Prefix, Suffix}
use Rattle.sh_syntax.specs.declared.tree.Extent.{Extent}
use Rattle.sh_syntax.specs.declared.tree.Extent.TheVariants.{Smallest, Largest}
use Rattle.sh_expand_parts.specs.Removals.{match_length}

same : (a b : Affix) (e f : Extent) (p : List PatternByte) (t : List ℕ) (n : Option ℕ) → a ≡ b → e ≡ f → n ≡ match_length b f p t → n ≡ match_length a e p t
same a b e f p t n h k m = m ∙ ap (λ x. match_length x f p t) (sym h) ∙ ap (λ x. match_length a x p t) (sym k)

pub shortest_front : (a : Affix) (e : Extent) (p : List PatternByte) (t : List ℕ) (n : Option ℕ) → a ≡ Prefix → e ≡ Smallest → IsShortest p (prefix t) (length t) n → n ≡ match_length a e p t
shortest_front a e p t n h k s = same a Prefix e Smallest p t n h k ((shortest_both p (prefix t) (length t) n).0 s)

pub longest_front : (a : Affix) (e : Extent) (p : List PatternByte) (t : List ℕ) (n : Option ℕ) → a ≡ Prefix → e ≡ Largest → IsLongest p (prefix t) (length t) n → n ≡ match_length a e p t
longest_front a e p t n h k s = same a Prefix e Largest p t n h k ((longest_both p (prefix t) (length t) n).0 s)

pub shortest_back : (a : Affix) (e : Extent) (p : List PatternByte) (t : List ℕ) (n : Option ℕ) → a ≡ Suffix → e ≡ Smallest → IsShortest p (suffix t) (length t) n → n ≡ match_length a e p t
shortest_back a e p t n h k s = same a Suffix e Smallest p t n h k ((shortest_both p (suffix t) (length t) n).0 s)

pub longest_back : (a : Affix) (e : Extent) (p : List PatternByte) (t : List ℕ) (n : Option ℕ) → a ≡ Suffix → e ≡ Largest → IsLongest p (suffix t) (length t) n → n ≡ match_length a e p t
longest_back a e p t n h k s = same a Suffix e Largest p t n h k ((longest_both p (suffix t) (length t) n).0 s)
