-- A text without the prefix or suffix that a pattern matches (XCU 2.6.2).
use Rattle.std.specs.Prelude.{ℕ, ◌-◌, List, Option, Some, None, drop, take, length}
use Rattle.sh_pattern.specs.declared.pattern_byte.PatternByte.{PatternByte}
use Rattle.sh_pattern.specs.Deciding.{longest, shortest}
use Rattle.sh_pattern.specs.Match.{suffix, prefix}
use Rattle.sh_syntax.specs.declared.tree.Affix.{Affix}
use Rattle.sh_syntax.specs.declared.tree.Affix.TheVariants.{Prefix, Suffix}
use Rattle.sh_syntax.specs.declared.tree.Extent.{Extent}
use Rattle.sh_syntax.specs.declared.tree.Extent.TheVariants.{Smallest, Largest}

-- the length of the part that a pattern matches
abbrev pub match_length : Affix → Extent → List PatternByte → List ℕ → Option ℕ
match_length Prefix Smallest p t = shortest p (prefix t) (length t)
match_length Prefix Largest p t = longest p (prefix t) (length t)
match_length Suffix Smallest p t = shortest p (suffix t) (length t)
match_length Suffix Largest p t = longest p (suffix t) (length t)

-- a text without its prefix or suffix of this length; the whole text where there is no length
abbrev pub without_length : Affix → List ℕ → Option ℕ → List ℕ
without_length affix t None = t
without_length Prefix t (Some n) = drop n t
without_length Suffix t (Some n) = take (length t - n) t

unfoldable pub without_match : Affix → Extent → List PatternByte → List ℕ → List ℕ
without_match affix extent pattern text = without_length affix text (match_length affix extent pattern text)
