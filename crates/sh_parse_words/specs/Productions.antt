-- What each production of the grammar (XCU 2.10.2) is to the tree. A row has the head of the production, the
-- symbols of its body, for each symbol whether its value is kept, and the kind of what is made of the kept
-- values. The symbols that aren't kept are the operators and reserved words that the production names,
-- newlines, and the mark of the end of a compound command.
use Rattle.std.specs.Prelude.{◌≡◌, Bool, true, false, List, [], ◌∷◌, map}
use Rattle.sh_grammar.specs.declared.Symbol.{Symbol}
use Rattle.sh_grammar.specs.Grammar.{Rule}
use Rattle.sh_grammar.specs.Tabulation.{Tabulation, grammar_of}
use Rattle.sh_token_grammar.specs.declared.class.TokenClass.TheVariants.{And, AndIf, Bang, Case, Do, Done, DoubleSemicolon, Elif, Else, Esac, Fi, For, If, In, LeftBrace, LeftParenthesis, Newline, Number, OrIf, Pipe, Redirection, RightBrace, RightParenthesis, Semicolon, Then}
use Rattle.sh_token_grammar.specs.Shell.{number_of, token, and_or, any_word, arguments, assignment, behind_name, behind_separator, behind_variable, command, command_word, complete_command, compound, compound_end, compound_list, else_part, for_lines, function_name, item_body, item_end, item_list, items, last_and_ors, loop, more_and_ors, more_commands, more_patterns, more_pipelines, newlines, other_word, others, pattern_word, pipeline, prefix, redirect, redirects, substitution_text, substituted_list, values, variable_name}
use Rattle.sh_syntax.specs.declared.tree.Connector.TheVariants as connector
use Rattle.sh_syntax.specs.declared.tree.Separator.TheVariants as separator
use Rattle.sh_parse_actions.specs.declared.kind.Item.TheVariants as item
use Rattle.sh_parse_actions.specs.declared.kind.Kind.{Kind}
use Rattle.sh_parse_actions.specs.declared.kind.Kind.TheVariants.{Nothing, One, Two, Three}
use Rattle.sh_parse_actions.specs.declared.kind.Unary.TheVariants as one
use Rattle.sh_parse_actions.specs.declared.kind.Binary.TheVariants as two
use Rattle.sh_parse_actions.specs.declared.kind.Ternary.TheVariants as three

-- a symbol of a body
pub record BodySymbol : Type 0 where
  pub symbol : Symbol
  pub is_kept : Bool

abbrev pub keep : Symbol → BodySymbol
keep symbol = record { symbol = symbol; is_kept = true }

abbrev pub skip : Symbol → BodySymbol
skip symbol = record { symbol = symbol; is_kept = false }

pub record Production : Type 0 where
  pub head : Symbol
  pub body : List BodySymbol
  pub kind : Kind

abbrev pub production : Symbol → List BodySymbol → Kind → Production
production head body kind = record { head = head; body = body; kind = kind }

unfoldable pub productions : List Production
productions =
    production complete_command (keep and_or ∷ keep others ∷ []) (Two two.List)
    ∷ production others [] Nothing
    ∷ production others (skip (token Semicolon) ∷ keep behind_separator ∷ []) (One (one.Separated separator.Sequential))
    ∷ production others (skip (token And) ∷ keep behind_separator ∷ []) (One (one.Separated separator.Asynchronous))
    ∷ production behind_separator [] Nothing
    ∷ production behind_separator (keep and_or ∷ keep others ∷ []) (Two two.List)
    ∷ production and_or (keep pipeline ∷ keep more_pipelines ∷ []) (Two two.AndOr)
    ∷ production more_pipelines [] Nothing
    ∷ production more_pipelines (skip (token AndIf) ∷ skip newlines ∷ keep pipeline ∷ keep more_pipelines ∷ []) (Two (two.Connected connector.And))
    ∷ production more_pipelines (skip (token OrIf) ∷ skip newlines ∷ keep pipeline ∷ keep more_pipelines ∷ []) (Two (two.Connected connector.Or))
    ∷ production pipeline (skip (token Bang) ∷ keep command ∷ keep more_commands ∷ []) (Two (two.Pipeline true))
    ∷ production pipeline (keep command ∷ keep more_commands ∷ []) (Two (two.Pipeline false))
    ∷ production more_commands [] Nothing
    ∷ production more_commands (skip (token Pipe) ∷ skip newlines ∷ keep command ∷ keep more_commands ∷ []) (Two two.Piped)
    ∷ production command (keep compound ∷ keep redirects ∷ []) (Two two.Compound)
    ∷ production command (keep function_name ∷ keep behind_name ∷ []) (Two two.Named)
    ∷ production command (keep other_word ∷ keep arguments ∷ []) (Two (two.Simple item.Word))
    ∷ production command (keep assignment ∷ keep prefix ∷ []) (Two (two.Simple item.Assignment))
    ∷ production command (keep redirect ∷ keep prefix ∷ []) (Two (two.Simple item.Redirect))
    ∷ production behind_name (skip (token LeftParenthesis) ∷ skip (token RightParenthesis) ∷ skip newlines ∷ keep compound ∷ keep redirects ∷ []) (Two two.Body)
    ∷ production behind_name (keep arguments ∷ []) (One one.Same)
    ∷ production prefix [] Nothing
    ∷ production prefix (keep assignment ∷ keep prefix ∷ []) (Two (two.Items item.Assignment))
    ∷ production prefix (keep redirect ∷ keep prefix ∷ []) (Two (two.Items item.Redirect))
    ∷ production prefix (keep command_word ∷ keep arguments ∷ []) (Two (two.Items item.Word))
    ∷ production arguments [] Nothing
    ∷ production arguments (keep any_word ∷ keep arguments ∷ []) (Two (two.Items item.Word))
    ∷ production arguments (keep redirect ∷ keep arguments ∷ []) (Two (two.Items item.Redirect))
    ∷ production redirects [] Nothing
    ∷ production redirects (keep redirect ∷ keep redirects ∷ []) (Two two.Redirects)
    ∷ production redirect (keep (token Number) ∷ keep (token Redirection) ∷ keep any_word ∷ []) (Three three.Redirect)
    ∷ production redirect (keep (token Redirection) ∷ keep any_word ∷ []) (Two two.Redirect)
    ∷ production newlines [] Nothing
    ∷ production newlines (skip (token Newline) ∷ skip newlines ∷ []) Nothing
    ∷ production compound_list (skip newlines ∷ keep and_or ∷ keep more_and_ors ∷ []) (Two two.CompoundList)
    ∷ production more_and_ors [] Nothing
    ∷ production more_and_ors (skip (token Semicolon) ∷ skip newlines ∷ keep last_and_ors ∷ []) (One (one.Separated separator.Sequential))
    ∷ production more_and_ors (skip (token And) ∷ skip newlines ∷ keep last_and_ors ∷ []) (One (one.Separated separator.Asynchronous))
    ∷ production more_and_ors (skip (token Newline) ∷ skip newlines ∷ keep last_and_ors ∷ []) (One (one.Separated separator.Sequential))
    ∷ production last_and_ors [] Nothing
    ∷ production last_and_ors (keep and_or ∷ keep more_and_ors ∷ []) (Two two.List)
    ∷ production compound (skip (token LeftBrace) ∷ keep compound_list ∷ skip (token RightBrace) ∷ skip compound_end ∷ []) (One one.Group)
    ∷ production compound (skip (token LeftParenthesis) ∷ keep compound_list ∷ skip (token RightParenthesis) ∷ skip compound_end ∷ []) (One one.Subshell)
    ∷ production compound (skip (token If) ∷ keep compound_list ∷ skip (token Then) ∷ keep compound_list ∷ keep else_part ∷ skip (token Fi) ∷ skip compound_end ∷ []) (Three three.If)
    ∷ production compound (keep loop ∷ keep compound_list ∷ skip (token Do) ∷ keep compound_list ∷ skip (token Done) ∷ skip compound_end ∷ []) (Three three.Loop)
    ∷ production compound (skip (token For) ∷ keep variable_name ∷ keep behind_variable ∷ skip compound_end ∷ []) (Two two.For)
    ∷ production compound (skip (token Case) ∷ keep any_word ∷ skip newlines ∷ skip (token In) ∷ skip newlines ∷ keep items ∷ skip (token Esac) ∷ skip compound_end ∷ []) (Two two.Case)
    ∷ production else_part [] Nothing
    ∷ production else_part (skip (token Elif) ∷ keep compound_list ∷ skip (token Then) ∷ keep compound_list ∷ keep else_part ∷ []) (Three three.ElseIf)
    ∷ production else_part (skip (token Else) ∷ keep compound_list ∷ []) (One one.Else)
    ∷ production behind_variable (skip (token Do) ∷ keep compound_list ∷ skip (token Done) ∷ []) (One (one.Parameters false))
    ∷ production behind_variable (skip (token Semicolon) ∷ skip newlines ∷ skip (token Do) ∷ keep compound_list ∷ skip (token Done) ∷ []) (One (one.Parameters true))
    ∷ production behind_variable (skip (token Newline) ∷ skip newlines ∷ keep for_lines ∷ []) (One one.Same)
    ∷ production behind_variable (skip (token In) ∷ keep values ∷ []) (One one.Same)
    ∷ production for_lines (skip (token Do) ∷ keep compound_list ∷ skip (token Done) ∷ []) (One (one.Parameters true))
    ∷ production for_lines (skip (token In) ∷ keep values ∷ []) (One one.Same)
    ∷ production values (keep any_word ∷ keep values ∷ []) (Two two.Value)
    ∷ production values (skip (token Semicolon) ∷ skip newlines ∷ skip (token Do) ∷ keep compound_list ∷ skip (token Done) ∷ []) (One one.LastValue)
    ∷ production values (skip (token Newline) ∷ skip newlines ∷ skip (token Do) ∷ keep compound_list ∷ skip (token Done) ∷ []) (One one.LastValue)
    ∷ production items [] Nothing
    ∷ production items (skip (token LeftParenthesis) ∷ keep any_word ∷ keep more_patterns ∷ skip (token RightParenthesis) ∷ keep item_body ∷ []) (Three (three.CaseItem true))
    ∷ production items (keep pattern_word ∷ keep more_patterns ∷ skip (token RightParenthesis) ∷ keep item_body ∷ []) (Three (three.CaseItem false))
    ∷ production more_patterns [] Nothing
    ∷ production more_patterns (skip (token Pipe) ∷ keep any_word ∷ keep more_patterns ∷ []) (Two two.Patterns)
    ∷ production item_body (skip newlines ∷ keep item_list ∷ []) (One one.Same)
    ∷ production item_list (keep item_end ∷ []) (One one.EmptyItem)
    ∷ production item_list (keep and_or ∷ keep more_and_ors ∷ keep item_end ∷ []) (Three three.ItemList)
    ∷ production item_end [] Nothing
    ∷ production item_end (skip (token DoubleSemicolon) ∷ skip newlines ∷ keep items ∷ []) (One one.Break)
    ∷ production substitution_text (skip newlines ∷ keep substituted_list ∷ []) (One one.Same)
    ∷ production substituted_list [] Nothing
    ∷ production substituted_list (keep and_or ∷ keep more_and_ors ∷ []) (Two two.List)
    ∷ production compound_end [] Nothing
    ∷ []

-- the rows are the productions of the grammar, all of them and in its order
abbrev pub rule_of : Production → Rule
rule_of p = record { head = number_of p.head; body = map (λ s. s.symbol) p.body }

abbrev pub AreThoseOf : Tabulation → Type 0
AreThoseOf d = (grammar_of d).rules ≡ map rule_of productions

-- which symbols of its body are kept, and the kind
abbrev pub kept_of : Production → List Bool
kept_of p = map (λ s. s.is_kept) p.body

abbrev pub kept_symbols : List (List Bool)
kept_symbols = map kept_of productions

abbrev pub kinds : List Kind
kinds = map (λ p. p.kind) productions
