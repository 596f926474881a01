-- What a text reads as, by derivations: the answer at its first decision place that says anything (XCU 2.1,
-- 2.3, 2.10).
use Rattle.std.specs.Prelude.{◌≡◌, ◌⊎◌, ℕ, Bool, true, false, List, [], ◌∷◌, ◌++◌, length, take, Option, Some, None, Result, Ok, Err}
use Rattle.std.specs.Option.{option_map, unwrap_or}
use Rattle.sh_token_grammar.specs.Shell.{complete}
use Rattle.sh_syntax.specs.declared.tree.CompoundList.{CompoundList as Tree}
use Rattle.sh_syntax.specs.declared.tree.Parts.{Parts}
use Rattle.sh_parse_documents.specs.declared.item.Item.{Item}
use Rattle.sh_parse_documents.specs.Waiting.{nothing, due_at}
use Rattle.sh_parse_documents.specs.Stream.{Ending, AtEnd, Cut, items_of, waiting_behind}
use Rattle.sh_parse_words.specs.declared.fault.PartFault.{PartFault}
use Rattle.sh_parse_commands.specs.Documents.{bodies_of}
use Rattle.sh_parse_commands.specs.Programs.{read_text}
use Rattle.sh_parse_commands.specs.Defined.{Judge, Derive, HasFault, AreFaultless, FirstFault, AreTree, cut_at}
use Rattle.sh_aliases.specs.Aliases.{no_aliases}
use Rattle.sh_parse.specs.Reading.{Answer, fault_of, nul_in, unless_nul, is_newline}
use Rattle.sh_parse.specs.declared.Reading.TheVariants.{Complete, Blank, More}
use Rattle.sh_parse.specs.declared.ParseFault.TheVariants.{Refused, Unclosed}

-- how the tokens of a text are judged
abbrev pub outer : List ℕ → Judge
outer text = record { grammar = complete; read = read_text no_aliases; left = 500; text = text }

-- the bodies after a newline that ends a command of these tokens
abbrev pub last_bodies : List ℕ → List Item → Item → Result (List Parts) PartFault
last_bodies text before newline = bodies_of (read_text no_aliases) 500 text (due_at newline.token.kind (waiting_behind nothing before)) newline

-- what the tokens before a newline say there
pub data TokensSay (text : List ℕ) (before : List Item) (newline : Item) (answer : Answer) : Type 0 where
  -- there are none
  blank_line : before ≡ [] → answer ≡ Ok (Blank newline.«end») → TokensSay text before newline answer
  -- one of them has a fault
  faulty_line : (f : PartFault) → FirstFault (outer text) before f → answer ≡ Err (fault_of newline.«end» f) → TokensSay text before newline answer
  -- they are a complete command, and the bodies after the newline belong to it
  whole_line : (before ≡ [] → ⊥) → (others : List Parts) → last_bodies text before newline ≡ Ok others → (tree : Tree) → AreTree (outer text) before others tree
      → answer ≡ Ok (Complete tree newline.«end») → TokensSay text before newline answer
  -- they derive, and those bodies have a fault
  faulty_bodies : (before ≡ [] → ⊥) → AreFaultless (outer text) before → Derive (outer text) before → (f : PartFault) → last_bodies text before newline ≡ Err f
      → answer ≡ Err (fault_of newline.«end» f) → TokensSay text before newline answer
  -- they don't derive, and the newline after them has a fault, such as that they are no prefix with it
  faulty_newline : (before ≡ [] → ⊥) → AreFaultless (outer text) before → (Derive (outer text) before → ⊥) → (f : PartFault)
      → HasFault (outer text) before newline f → answer ≡ Err (fault_of newline.«end» f) → TokensSay text before newline answer

-- the tokens say nothing
pub record AreOpen (text : List ℕ) (before : List Item) (newline : Item) : Type 0 where
  pub some : before ≡ [] → ⊥
  pub unfinished : Derive (outer text) before → ⊥
  pub faultless : AreFaultless (outer text) (before ++ newline ∷ [])

-- the first NUL up to the newline's end
abbrev pub nul_before : List ℕ → Item → Option ℕ
nul_before text newline = nul_in (take newline.«end» text)

-- what a newline says: what the tokens before it say, unless a NUL is the fault at the lesser place; or that
-- a NUL is before it
pub data Says (text : List ℕ) (before : List Item) (newline : Item) (answer : Answer) : Type 0 where
  of_tokens : (other : Answer) → TokensSay text before newline other → answer ≡ unless_nul (nul_before text newline) newline.«end» other → Says text before newline answer
  of_nul : AreOpen text before newline → (nul : ℕ) → nul_before text newline ≡ Some nul → answer ≡ Err (Refused nul newline.«end») → Says text before newline answer

-- the newline says nothing
pub record IsSilent (text : List ℕ) (before : List Item) (newline : Item) : Type 0 where
  pub open_tokens : AreOpen text before newline
  pub clean : nul_before text newline ≡ None

-- no newline among these tokens, which come after others, says anything
abbrev pub AreSilent : List ℕ → List Item → List Item → Type 0
AreSilent text before [] = Unit {0}
AreSilent text before (t ∷ tokens) = (is_newline t.token.kind ≡ true → IsSilent text before t) × AreSilent text (before ++ t ∷ []) tokens

-- what the end of the input says of the tokens before it
pub data Ends (text : List ℕ) (tokens : List Item) (answer : Answer) : Type 0 where
  blank_text : tokens ≡ [] → answer ≡ Ok (Blank (length text)) → Ends text tokens answer
  faulty_text : (f : PartFault) → FirstFault (outer text) tokens f → answer ≡ Err (fault_of (length text) f) → Ends text tokens answer
  whole_text : (tokens ≡ [] → ⊥) → (tree : Tree) → AreTree (outer text) tokens [] tree → answer ≡ Ok (Complete tree (length text)) → Ends text tokens answer
  open_text : (tokens ≡ [] → ⊥) → AreFaultless (outer text) tokens → (Derive (outer text) tokens → ⊥) → answer ≡ Err (Unclosed (length text)) → Ends text tokens answer

-- the first fault of the tokens, or else this answer
abbrev pub FaultOr : List ℕ → List Item → Answer → Answer → Type 0
FaultOr text tokens other answer =
    ((f : PartFault) × FirstFault (outer text) tokens f × (answer ≡ Err (fault_of (length text) f))) ⊎ (AreFaultless (outer text) tokens × (answer ≡ other))

-- what is told where no token is found after these, from `at` on, at the end of the input: a level too many
-- that opens there, or else that the text is unclosed
abbrev pub cut_answer : List ℕ → List Item → ℕ → Answer
cut_answer text tokens at = Err (unwrap_or (option_map (fault_of (length text)) (cut_at (outer text) tokens at)) (Unclosed (length text)))

-- the tokens say so, unless a NUL of the text is the fault at the lesser place
abbrev pub UnlessNul : List ℕ → (Answer → Type 0) → Answer → Type 0
UnlessNul text Say answer = (other : Answer) × Say other × (answer ≡ unless_nul (nul_in text) (length text) other)

-- what the end of the text says: it is a decision place where nothing comes after it
abbrev pub EndSays : Bool → List ℕ → List Item → Ending → Answer → Type 0
EndSays e text tokens AtEnd answer = UnlessNul text (λ other. Ends text tokens other) answer
EndSays true text tokens (Cut at) answer = UnlessNul text (λ other. FaultOr text tokens (cut_answer text tokens at) other) answer
EndSays false text tokens (Cut at) answer = answer ≡ Ok More

-- a newline is the first decision place that says anything
pub record NewlineDecides (text : List ℕ) (tokens : List Item) (answer : Answer) : Type 0 where
  pub before : List Item
  pub newline : Item
  pub after : List Item
  pub joined : tokens ≡ before ++ newline ∷ after
  pub line : is_newline newline.token.kind ≡ true
  pub first : AreSilent text [] before
  pub says : Says text before newline answer

-- no newline says anything
pub record EndDecides (e : Bool) (text : List ℕ) (tokens : List Item) (ending : Ending) (answer : Answer) : Type 0 where
  pub silent : AreSilent text [] tokens
  pub says : EndSays e text tokens ending answer

-- the text reads as this answer where there are no aliases
abbrev pub IsReading : Bool → List ℕ → Answer → Type 0
IsReading e text answer =
    NewlineDecides text (items_of e text).items answer ⊎ EndDecides e text (items_of e text).items (items_of e text).ending answer
