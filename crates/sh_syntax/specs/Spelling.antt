-- How the tokens of a tree are spelled (XCU 2.10.2).
use Rattle.std.specs.Prelude.{ℕ, List, [], ◌∷◌, Option, Some, None, Bool, if◌then◌else◌, codes}
use Rattle.sh_syntax.specs.Tokens.{Token, Number, Spelled}
use Rattle.sh_syntax.specs.declared.tree.RedirectOperator.{RedirectOperator}
use Rattle.sh_syntax.specs.declared.tree.RedirectOperator.TheVariants as operator
use Rattle.sh_syntax.specs.declared.tree.HereDocumentOperator.{HereDocumentOperator}
use Rattle.sh_syntax.specs.declared.tree.HereDocumentOperator.TheVariants as here
use Rattle.sh_syntax.specs.declared.tree.CaseEnd.{CaseEnd}
use Rattle.sh_syntax.specs.declared.tree.CaseEnd.TheVariants as end
use Rattle.sh_syntax.specs.declared.tree.LoopKind.{LoopKind}
use Rattle.sh_syntax.specs.declared.tree.LoopKind.TheVariants as kind
use Rattle.sh_syntax.specs.declared.tree.Connector.{Connector}
use Rattle.sh_syntax.specs.declared.tree.Connector.TheVariants as connector
use Rattle.sh_syntax.specs.declared.tree.Separator.{Separator}
use Rattle.sh_syntax.specs.declared.tree.Separator.TheVariants as separator

-- an operator or a reserved word
abbrev pub sign : List ℕ → List Token
sign bytes = Spelled bytes ∷ []

abbrev pub operator_spelling : RedirectOperator → List ℕ
operator_spelling operator.Input = codes "<"
operator_spelling operator.Output = codes ">"
operator_spelling operator.Clobber = codes ">|"
operator_spelling operator.Append = codes ">>"
operator_spelling operator.DuplicateInput = codes "<&"
operator_spelling operator.DuplicateOutput = codes ">&"
operator_spelling operator.ReadWrite = codes "<>"

abbrev pub here_spelling : HereDocumentOperator → List ℕ
here_spelling here.AsWritten = codes "<<"
here_spelling here.TabsStripped = codes "<<-"

abbrev pub loop_spelling : LoopKind → List ℕ
loop_spelling kind.While = codes "while"
loop_spelling kind.Until = codes "until"

abbrev pub connector_spelling : Connector → List ℕ
connector_spelling connector.And = codes "&&"
connector_spelling connector.Or = codes "||"

abbrev pub separator_spelling : Separator → List ℕ
separator_spelling separator.Sequential = codes ";"
separator_spelling separator.Asynchronous = codes "&"

-- what ends an item of a case, where something does
abbrev pub case_end_tokens : CaseEnd → List Token
case_end_tokens end.Omitted = []
case_end_tokens end.Break = sign (codes ";;")

-- a file descriptor's number, where one is given
abbrev pub number_tokens : Option (List ℕ) → List Token
number_tokens None = []
number_tokens (Some digits) = Number digits ∷ []

-- a token that only some of the texts have
abbrev pub optional : Bool → List ℕ → List Token
optional stands bytes = if stands then sign bytes else []
