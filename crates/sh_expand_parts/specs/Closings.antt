-- The result of a word once it is expanded, by its purpose (XCU 2.6.2, 2.6.4, 2.2.3).
use Rattle.std.specs.Prelude.{ℕ, List, Bool, true, false, map, Some, None}
use Rattle.std.specs.Fmt.{signed_decimal}
use Rattle.sh_vars.specs.Environment.{Environment, is_read_only, with_value}
use Rattle.sh_base.specs.Names.{is_name}
use Rattle.sh_arith.specs.declared.faults.ArithFault.{ArithFault}
use Rattle.sh_arith.specs.declared.faults.ArithFault.TheVariants as arith_fault
use Rattle.sh_arith.specs.Evaluated.{evaluation}
use Rattle.sh_arith.specs.Outcome.{Outcome, Gives, Stops}
use Rattle.sh_arith_grammar.specs.Lexical.{word_at}
use Rattle.sh_expand_fields.specs.Text.{marks_of, text_of}
use Rattle.sh_expand_parts.specs.Drafts.{concatenation, joiner, plain, quoted_draft, value_draft, text_items}
use Rattle.sh_expand_parts.specs.Removals.{without_match}
use Rattle.sh_expand_parts.specs.declared.closing.Closed.{Closed}
use Rattle.sh_expand_parts.specs.declared.closing.Closed.TheVariants.{Goes, Ends, Fails}
use Rattle.sh_expand_parts.specs.declared.closing.Purpose.{Purpose}
use Rattle.sh_expand_parts.specs.declared.closing.Purpose.TheVariants.{Word, Default, Quotes, Assign, Report, Remove, Compute}
use Rattle.sh_expand_parts.specs.declared.context.Context.{Context}
use Rattle.sh_expand_parts.specs.declared.draft.Draft.{Draft}
use Rattle.sh_expand_parts.specs.declared.fault.Fault.{Fault}
use Rattle.sh_expand_parts.specs.declared.fault.Fault.TheVariants as fault
use Rattle.sh_expand_parts.specs.declared.fault.ArithmeticError.TheVariants as error
use Rattle.sh_expand_parts.specs.declared.value.Value.{Value}
use Rattle.sh_expand_parts.specs.declared.value.Value.TheVariants as value

-- the result, and the shell's environment after it
pub record Closing : Type 0 where
  pub closed : Closed
  pub env : Environment

abbrev pub closing : Closed → Environment → Closing
closing closed env = record { closed = closed; env = env }

-- the word before the form, with a value after it
abbrev pub behind : Draft → Context → Environment → Value → Closing
behind saved context env v = closing (Goes (concatenation saved (value_draft context (joiner env) v))) env

-- `${x=w}`: the variable gets the text as its value, and the form gives that text
abbrev pub assignment_closing : (is_name : Bool) → (is_read_only : Bool) → List ℕ → Context → Draft → List ℕ → Environment → Closing
assignment_closing false read_only name context saved text env = closing (Fails fault.BadSubstitution) env
assignment_closing true true name context saved text env = closing (Fails (fault.ReadOnly name)) env
assignment_closing true false name context saved text env = behind saved context (with_value env name text) (value.Scalar text)

-- a fault of arithmetic, with the name at its place
abbrev pub fault_of : List ℕ → ArithFault → Fault
fault_of text (arith_fault.Syntax at) = fault.Arithmetic error.Syntax
fault_of text arith_fault.DivideByZero = fault.Arithmetic error.DivisionByZero
fault_of text arith_fault.NotANumber = fault.Arithmetic error.NotANumber
fault_of text (arith_fault.ReadOnly at) = fault.ReadOnly (word_at text at)
fault_of text arith_fault.TooDeep = fault.Arithmetic error.TooDeep
fault_of text (arith_fault.NoMemory _) = fault.Arithmetic error.Syntax
fault_of text (arith_fault.Unset at) = fault.Unset (word_at text at) None

-- `$((w))`
abbrev pub arithmetic_closing : Context → Draft → List ℕ → Outcome → Closing
arithmetic_closing context saved text (Gives v env) = closing (Goes (concatenation saved (plain (text_items context (signed_decimal v))))) env
arithmetic_closing context saved text (Stops f env) = closing (Fails (fault_of text f)) env

-- `${p%w}`: each of several parameters is made shorter
abbrev pub shorter_value : (List ℕ → List ℕ) → Value → Value
shorter_value shorter value.Unset = value.Unset
shorter_value shorter (value.Scalar text) = value.Scalar (shorter text)
shorter_value shorter (value.Each texts) = value.Each (map shorter texts)
shorter_value shorter (value.Joined texts) = value.Joined (map shorter texts)

-- `saved` is the word before the form, and `inner` is the expanded word inside it
abbrev pub closing_for : Purpose → Draft → Draft → Environment → Closing
closing_for (Word context) saved inner env = closing (Ends (record { context = context; items = inner.items })) env
closing_for Default saved inner env = closing (Goes (concatenation saved inner)) env
closing_for Quotes saved inner env = closing (Goes (concatenation saved (quoted_draft inner))) env
closing_for (Assign name context) saved inner env =
    assignment_closing (is_name name) (is_read_only env name) name context saved (text_of inner.items) env
closing_for (Report name) saved inner env = closing (Fails (fault.Unset name (Some (text_of inner.items)))) env
closing_for (Remove v affix extent context) saved inner env =
    behind saved context env (shorter_value (without_match affix extent (marks_of inner.items)) v)
closing_for (Compute context) saved inner env =
    arithmetic_closing context saved (text_of inner.items) (evaluation (text_of inner.items) env)
