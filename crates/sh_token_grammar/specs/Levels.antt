-- How many compound commands (XCU 2.9.4) are open after some tokens. Each is open after each of its tokens,
-- the last one included.
use Rattle.std.specs.Prelude.{◌≡◌, ◌<◌, ℕ, suc, Bool, true, false, List, length, map, take}
use Rattle.sh_grammar.specs.declared.Token.{Token}
use Rattle.sh_grammar.specs.Around.{nodes_around}
use Rattle.sh_grammar.specs.Awaited.{awaited_count}
use Rattle.sh_grammar.specs.Grammar.{Rule, Tree}
use Rattle.sh_grammar.specs.Tabulation.{Tabulation, rules_of}
use Rattle.sh_grammar.specs.Text.{IsTreeOf}
use Rattle.sh_token_grammar.specs.declared.class.TokenClass.{TokenClass}
use Rattle.sh_token_grammar.specs.declared.class.TokenClass.TheVariants.{Semicolon, And, AndIf, OrIf, Pipe, LeftParenthesis, RightParenthesis, DoubleSemicolon, Newline, Redirection, Number, Bang, LeftBrace, RightBrace, If, Then, Elif, Else, Fi, While, Until, Do, Done, For, In, Case, Esac, Name, SpecialName, Assignment, Other, CommandName, End}
use Rattle.sh_token_grammar.specs.Shell.{compound, compound_end, number_of, productions}

-- the compound commands whose end is still awaited after the last token
abbrev pub open_compounds : Tabulation → List Token → ℕ
open_compounds d tokens = awaited_count d (number_of compound_end) tokens

-- the productions of both grammars
abbrev pub rules : List Rule
rules = rules_of (map (λ p. p.head) productions) (map (λ p. p.body) productions)

-- how many compound commands of a tree are around its token of this number, the first being 0
abbrev pub compounds_round : Tree → ℕ → ℕ
compounds_round tree i = nodes_around rules (number_of compound) tree i

-- after each token of a text, as many compound commands are open as there are around that token
abbrev pub OpenAreRound : Tabulation → Type 0
OpenAreRound d =
    (tokens : List Token) (tree : Tree) → IsTreeOf d tokens tree → (i : ℕ) → i < length tokens → open_compounds d (take (suc i) tokens) ≡ compounds_round tree i

-- the tokens with which a compound command begins
abbrev pub begins_compound : TokenClass → Bool
begins_compound Semicolon = false
begins_compound And = false
begins_compound AndIf = false
begins_compound OrIf = false
begins_compound Pipe = false
begins_compound LeftParenthesis = true
begins_compound RightParenthesis = false
begins_compound DoubleSemicolon = false
begins_compound Newline = false
begins_compound Redirection = false
begins_compound Number = false
begins_compound Bang = false
begins_compound LeftBrace = true
begins_compound RightBrace = false
begins_compound If = true
begins_compound Then = false
begins_compound Elif = false
begins_compound Else = false
begins_compound Fi = false
begins_compound While = true
begins_compound Until = true
begins_compound Do = false
begins_compound Done = false
begins_compound For = true
begins_compound In = false
begins_compound Case = true
begins_compound Esac = false
begins_compound Name = false
begins_compound SpecialName = false
begins_compound Assignment = false
begins_compound Other = false
begins_compound CommandName = false
begins_compound End = false
