-- Leaves that fit the tokens of a derivation: each is what the tree needs of a token of that class (XCU 2.10.2).
use Rattle.std.specs.Prelude.{ℕ, Bool, true, false, ◌&&◌, nat_eq, List, [], ◌∷◌, IsTrue, IsSome}
use Rattle.std.specs.List.{list_any}
use Rattle.sh_grammar.specs.declared.Token.{Token}
use Rattle.sh_grammar.specs.Grammar.{Tree}
use Rattle.sh_grammar.specs.Tabulation.{Tabulation}
use Rattle.sh_grammar.specs.Text.{IsTreeOf}
use Rattle.sh_token_grammar.specs.declared.class.TokenClass.{TokenClass}
use Rattle.sh_token_grammar.specs.declared.class.TokenClass.TheVariants as class
use Rattle.sh_token_grammar.specs.Classes.{class_number}
use Rattle.sh_token_grammar.specs.Shell.{names}
use Rattle.sh_parse_actions.specs.declared.leaf.Leaf.{Leaf}
use Rattle.sh_parse_actions.specs.declared.leaf.Leaf.TheVariants as leaf
use Rattle.sh_parse_words.specs.Meaning.{syntax_of}

-- the operators other than redirection operators, and the newline
abbrev pub signs : List TokenClass
signs =
    class.Semicolon ∷ class.And ∷ class.AndIf ∷ class.OrIf ∷ class.Pipe ∷ class.LeftParenthesis ∷ class.RightParenthesis ∷ class.DoubleSemicolon
    ∷ class.Newline ∷ []

-- words that are neither names nor assignments
abbrev pub other_words : List TokenClass
other_words = class.Other ∷ class.Bang ∷ class.LeftBrace ∷ class.RightBrace ∷ []

abbrev pub is_one_of : List TokenClass → ℕ → Bool
is_one_of classes number = list_any (λ c. nat_eq number (class_number c)) classes

-- the leaf fits a token of the class of this number
abbrev pub fits : ℕ → Leaf → Bool
fits number leaf.Operator = is_one_of signs number
fits number (leaf.Redirection operator) = nat_eq number (class_number class.Redirection)
fits number (leaf.HereDocument operator body) = nat_eq number (class_number class.Redirection)
fits number (leaf.Number digits) = nat_eq number (class_number class.Number)
fits number (leaf.Word word) = is_one_of other_words number
fits number (leaf.Name word name) = is_one_of names number
fits number (leaf.Assignment word name parts) = nat_eq number (class_number class.Assignment)

-- there is a fitting leaf for each token, in the same order
abbrev pub all_fit : List Token → List Leaf → Bool
all_fit [] [] = true
all_fit [] (l ∷ ls) = false
all_fit (t ∷ tokens) [] = false
all_fit (t ∷ tokens) (l ∷ ls) = fits t.class l && all_fit tokens ls

-- each derivation whose tokens have fitting leaves has a syntax
abbrev pub FittingHaveSyntax : Tabulation → Type 0
FittingHaveSyntax grammar =
    (tokens : List Token) (tree : Tree) (ls : List Leaf) → IsTreeOf grammar tokens tree → IsTrue (all_fit tokens ls) → IsSome (syntax_of tree ls)
