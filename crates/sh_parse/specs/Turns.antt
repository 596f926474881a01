-- One turn of a reading: the next token, and what it decides. Only proofs need this.
use Rattle.sh_base.specs.Memory.{no_memory}
use Rattle.std.specs.Prelude.{◌≡◌, ℕ, suc, ◌<◌, ◌≤◌, List, ◌∷◌, length, take, Option, Some, None, Result, Ok, Err, if◌then◌else◌}
use Rattle.sh_parse_documents.specs.declared.item.Item.{Item}
use Rattle.sh_parse_documents.specs.Waiting.{behind_token}
use Rattle.sh_parse_documents.specs.Stream.{Ending, items_from}
use Rattle.sh_parse.specs.Reading.{Answer, nul_in, stands_before, Source, Standing, standing, first_answer, Answers}
use Rattle.sh_parse.specs.declared.Reading.{Reading}
use Rattle.sh_parse.specs.declared.ParseFault.{ParseFault}
use Rattle.sh_parse.specs.declared.ParseFault.TheVariants.{Refused, Unclosed, BadSubstitution, TooDeep, NoMemory}
use Rattle.sh_parse.specs.declared.turn.Turn.{Turn}

-- what is read where the reading stands here and the next token is looked for from `at` on; fewer than n
-- tokens are to come
abbrev pub read_from : ℕ → Source → Standing → ℕ → Answer
read_from n from here at =
    first_answer from here (items_from n from.at_end from.text here.waiting at).items (items_from n from.at_end from.text here.waiting at).ending

-- a turn goes on from a later place, and the reading stays what it is; or it gives the reading
abbrev pub Turns : Source → Standing → ℕ → Result Turn ParseFault → Type 0
Turns from here at (Ok (Turn.On k v place nul)) =
    (at < place) × (place ≤ length from.text) × ((n : ℕ) → read_from (suc n) from here at ≡ read_from n from (standing k v) place) × (nul ≡ nul_in (take place from.text))
Turns from here at (Ok (Turn.Read reading)) = (n : ℕ) → read_from (suc n) from here at ≡ Ok reading
Turns from here at (Err fault) = (n : ℕ) → Answers (Err fault) (read_from (suc n) from here at)

-- the same for a token that was found; nul: the first NUL before its end
abbrev pub Takes : Source → Standing → Item → Option ℕ → Result Turn ParseFault → Type 0
Takes from here t nul (Ok (Turn.On k v place next)) =
    (place ≡ t.«end») × (v ≡ behind_token t.token.kind here.waiting) × (next ≡ nul)
    × ((tokens : List Item) (ending : Ending) → first_answer from here (t ∷ tokens) ending ≡ first_answer from (standing k v) tokens ending)
Takes from here t nul (Ok (Turn.Read reading)) =
    (tokens : List Item) (ending : Ending) → first_answer from here (t ∷ tokens) ending ≡ Ok reading
Takes from here t nul (Err fault) =
    (tokens : List Item) (ending : Ending) → Answers (Err fault) (first_answer from here (t ∷ tokens) ending)

-- a turn goes on where the reading stands next, from this place, with this first NUL before it; or memory is
-- wanting
abbrev pub GoesOn : Standing → ℕ → Option ℕ → Result Turn ParseFault → Type 0
GoesOn next at nul (Ok (Turn.On k v place first)) = (place ≡ at) × (v ≡ next.waiting) × (k ≡ next.judged) × (first ≡ nul)
GoesOn next at nul (Ok (Turn.Read reading)) = ⊥
GoesOn next at nul (Err fault) = fault ≡ NoMemory no_memory

-- the turn that decides on this reading
abbrev pub turn_of : Result Reading ParseFault → Result Turn ParseFault
turn_of (Ok reading) = Ok (Turn.Read reading)
turn_of (Err fault) = Err fault

-- this fault is said, unless memory was wanting
abbrev pub SaysFault : ParseFault → Option Answer → Type 0
SaysFault (NoMemory _) answer = Unit {0}
SaysFault (Refused at used) answer = answer ≡ Some (Err (Refused at used))
SaysFault (Unclosed at) answer = answer ≡ Some (Err (Unclosed at))
SaysFault (BadSubstitution at used) answer = answer ≡ Some (Err (BadSubstitution at used))
SaysFault (TooDeep at used) answer = answer ≡ Some (Err (TooDeep at used))

-- a turn tells what is said at a newline, whatever NULs there are; where nothing is said, it goes on where the
-- reading stands next, from this place, with this first NUL before it
abbrev pub Tells : Option Answer → Standing → ℕ → Option ℕ → Result Turn ParseFault → Type 0
Tells said next at nul (Ok (Turn.On k v place first)) = (said ≡ None) × (place ≡ at) × (v ≡ next.waiting) × (k ≡ next.judged) × (first ≡ nul)
Tells said next at nul (Ok (Turn.Read reading)) = said ≡ Some (Ok reading)
Tells said next at nul (Err fault) = SaysFault fault said

-- the fault that is told where a NUL is at `nul` and the tokens alone have this fault or none
abbrev pub fault_with_nul : Option ParseFault → ℕ → ℕ → ParseFault
fault_with_nul None nul used = Refused nul used
fault_with_nul (Some f) nul used = if stands_before f nul then f else Refused nul used

abbrev pub fault_in : {A : Type 0} → Result A ParseFault → Option ParseFault
fault_in (Ok x) = None
fault_in (Err f) = Some f
