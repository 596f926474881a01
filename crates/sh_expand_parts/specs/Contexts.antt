-- Which items the bytes of a word become, by what the word is expanded for (XCU 2.6): literal, quoted or
-- expanded.
use Rattle.std.specs.Prelude.{ℕ}
use Rattle.sh_expand_fields.specs.declared.item.Item.{Item}
use Rattle.sh_expand_fields.specs.declared.item.Item.TheVariants as item
use Rattle.sh_expand_parts.specs.declared.context.Context.{Context}
use Rattle.sh_expand_parts.specs.declared.context.Context.TheVariants.{Fields, Inner, Quoted, Single, Assignment, Operand, QuotedSingle}

-- a byte of the word itself; in the word of an unquoted `${p-w}` it is split as if an expansion gave it
abbrev pub literal_item : Context → ℕ → Item
literal_item Fields b = item.Literal b
literal_item Inner b = item.Expanded b
literal_item Quoted b = item.Quoted b
literal_item Single b = item.Literal b
literal_item Assignment b = item.Literal b
literal_item Operand b = item.Literal b
literal_item QuotedSingle b = item.Quoted b

-- a byte that an expansion gives
abbrev pub value_item : Context → ℕ → Item
value_item Fields b = item.Expanded b
value_item Inner b = item.Expanded b
value_item Quoted b = item.Quoted b
value_item Single b = item.Expanded b
value_item Assignment b = item.Expanded b
value_item Operand b = item.Expanded b
value_item QuotedSingle b = item.Quoted b

-- the context between double quotes
abbrev pub inside_quotes : Context → Context
inside_quotes Fields = Quoted
inside_quotes Inner = Quoted
inside_quotes Quoted = Quoted
inside_quotes Single = QuotedSingle
inside_quotes Assignment = QuotedSingle
inside_quotes Operand = QuotedSingle
inside_quotes QuotedSingle = QuotedSingle

-- the context of the word in `${p-w}` or `${p+w}`
abbrev pub inside_default : Context → Context
inside_default Fields = Inner
inside_default Inner = Inner
inside_default Quoted = Quoted
inside_default Single = Single
inside_default Assignment = Single
inside_default Operand = Single
inside_default QuotedSingle = QuotedSingle

-- the context of the word in `${p=w}` or `${p?w}`: one text
abbrev pub inside_text : Context → Context
inside_text Fields = Single
inside_text Inner = Single
inside_text Quoted = QuotedSingle
inside_text Single = Single
inside_text Assignment = Single
inside_text Operand = Single
inside_text QuotedSingle = QuotedSingle
