-- What the productions look like to the levels that their tokens open.
use Rattle.std.specs.Prelude.{ℕ, zero, suc, Bool, true, false, List, [], ◌∷◌}
use Rattle.sh_arith_grammar.specs.declared.operators.Role.{Role}
use Rattle.sh_arith_grammar.specs.declared.operators.Role.TheVariants as role

-- what a symbol stands for: an expression to its end, one without open ends, an operand; what may follow an operand, to the
-- end of its expression or not; nothing; or a token
pub data Sort : Type 0 where
  Expression : Sort
  Closed : Sort
  Operand : Sort
  Trail : Sort
  Chain : Sort
  Mark : Sort
  Shown : (role : Role) → Sort

pub data Form : Type 0 where
  Blank : Form
  Same : Form
  NameTrail : Form
  OperandTrail : Form
  ClosedTrail : Form
  Assigns : Form
  LoadTrail : Form
  Tail : Form
  NoTrail : Form
  Chooses : Form
  ClosedChain : Form
  OperandChain : Form
  NoChain : Form
  LogicChain : Form
  BinaryChain : Form
  FactorChain : Form
  NameOperand : Form
  SameOperand : Form
  NumberOperand : Form
  Within : Form
  Prefix : Form
  NoMark : Form

abbrev pub chains : ℕ → List Sort
chains zero = Trail ∷ []
chains (suc k) = Chain ∷ chains k

abbrev pub head_of : Form → Sort
head_of Blank = Expression
head_of Same = Expression
head_of NameTrail = Expression
head_of OperandTrail = Expression
head_of ClosedTrail = Expression
head_of Assigns = Trail
head_of LoadTrail = Trail
head_of Tail = Trail
head_of NoTrail = Trail
head_of Chooses = Trail
head_of ClosedChain = Closed
head_of OperandChain = Closed
head_of NoChain = Chain
head_of LogicChain = Chain
head_of BinaryChain = Chain
head_of FactorChain = Chain
head_of NameOperand = Operand
head_of SameOperand = Operand
head_of NumberOperand = Operand
head_of Within = Operand
head_of Prefix = Operand
head_of NoMark = Mark

abbrev pub body_of : Form → List Sort
body_of Blank = []
body_of Same = Expression ∷ []
body_of NameTrail = Shown role.Name ∷ Trail ∷ []
body_of OperandTrail = Operand ∷ Trail ∷ []
body_of ClosedTrail = Closed ∷ Trail ∷ []
body_of Assigns = Shown role.Assign ∷ Expression ∷ Mark ∷ []
body_of LoadTrail = Mark ∷ Trail ∷ []
body_of Tail = chains 10
body_of NoTrail = []
body_of Chooses = Shown role.Question ∷ Expression ∷ Shown role.Colon ∷ Expression ∷ Mark ∷ []
body_of ClosedChain = Closed ∷ Chain ∷ []
body_of OperandChain = Operand ∷ Chain ∷ []
body_of NoChain = []
body_of LogicChain = Shown role.Logic ∷ Closed ∷ Mark ∷ Chain ∷ []
body_of BinaryChain = Shown role.Operator ∷ Closed ∷ Mark ∷ Chain ∷ []
body_of FactorChain = Shown role.Operator ∷ Operand ∷ Mark ∷ Chain ∷ []
body_of NameOperand = Shown role.Name ∷ Mark ∷ []
body_of SameOperand = Operand ∷ []
body_of NumberOperand = Shown role.Number ∷ []
body_of Within = Shown role.Opening ∷ Expression ∷ Shown role.Closing ∷ []
body_of Prefix = Shown role.Operator ∷ Operand ∷ Mark ∷ []
body_of NoMark = []

abbrev pub opening_of : Form → Bool
opening_of Blank = false
opening_of Same = false
opening_of NameTrail = false
opening_of OperandTrail = false
opening_of ClosedTrail = false
opening_of Assigns = true
opening_of LoadTrail = false
opening_of Tail = false
opening_of NoTrail = false
opening_of Chooses = true
opening_of ClosedChain = false
opening_of OperandChain = false
opening_of NoChain = false
opening_of LogicChain = false
opening_of BinaryChain = false
opening_of FactorChain = false
opening_of NameOperand = false
opening_of SameOperand = false
opening_of NumberOperand = false
opening_of Within = true
opening_of Prefix = true
opening_of NoMark = false

-- of each production
unfoldable pub FORMS : List Form
FORMS = Blank ∷ Same ∷ NameTrail ∷ OperandTrail ∷ Assigns ∷ LoadTrail ∷ Tail ∷ ClosedTrail ∷ NoTrail ∷ Chooses ∷ ClosedChain ∷ NoChain ∷ LogicChain ∷ ClosedChain ∷ NoChain ∷ LogicChain ∷ ClosedChain ∷ NoChain ∷ BinaryChain ∷ ClosedChain ∷ NoChain ∷ BinaryChain ∷ ClosedChain ∷ NoChain ∷ BinaryChain ∷ ClosedChain ∷ NoChain ∷ BinaryChain ∷ ClosedChain ∷ NoChain ∷ BinaryChain ∷ ClosedChain ∷ NoChain ∷ BinaryChain ∷ ClosedChain ∷ NoChain ∷ BinaryChain ∷ OperandChain ∷ NoChain ∷ FactorChain ∷ NameOperand ∷ SameOperand ∷ NumberOperand ∷ Within ∷ Prefix ∷ NoMark ∷ NoMark ∷ NoMark ∷ NoMark ∷ NoMark ∷ NoMark ∷ []

-- of each nonterminal
unfoldable pub LEVEL_SORTS : List Sort
LEVEL_SORTS = Expression ∷ Expression ∷ Trail ∷ Trail ∷ Expression ∷ Trail ∷ Closed ∷ Chain ∷ Closed ∷ Chain ∷ Closed ∷ Chain ∷ Closed ∷ Chain ∷ Closed ∷ Chain ∷ Closed ∷ Chain ∷ Closed ∷ Chain ∷ Closed ∷ Chain ∷ Closed ∷ Chain ∷ Closed ∷ Chain ∷ Operand ∷ Operand ∷ Mark ∷ Mark ∷ Mark ∷ Mark ∷ Mark ∷ Mark ∷ []
