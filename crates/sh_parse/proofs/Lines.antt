-- What a newline says.
use Rattle.std.proofs.Common.{◌≡◌, ℕ, Bool, true, false, List, ◌∷◌, Option, Some, None, Result, Ok, Err, sym, ap, subst, ◌∙◌, if◌then◌else◌}
use Rattle.std.specs.Option.{unwrap_or}
use Rattle.sh_parse_documents.specs.declared.item.Item.{Item}
use Rattle.sh_parse_documents.specs.Waiting.{Waiting, behind_token, due_at}
use Rattle.sh_parse_words.specs.declared.fault.PartFault.{PartFault}
use Rattle.sh_parse_commands.specs.Documents.{bodies_of}
use Rattle.sh_parse_commands.specs.Judging.{Judged, is_none, are_whole}
use Rattle.sh_parse_commands.specs.Programs.{read_text}
use Rattle.sh_aliases.specs.Aliases.{AliasTable}
use Rattle.sh_parse.specs.Reading.{Answer, Answers, complete_answer, first_answer, is_newline, newline_says, refusal, answer_at_newline, with_token, source, standing, stands_behind}
use Rattle.sh_parse.specs.Turns.{GoesOn, SaysFault, Takes, Tells, turn_of}
use Rattle.sh_parse.specs.declared.turn.Turn.{Turn}
use Rattle.sh_parse.specs.declared.Reading.{Reading}
use Rattle.sh_parse.specs.declared.ParseFault.{ParseFault}
use Rattle.sh_parse.specs.declared.ParseFault.TheVariants.{Refused, Unclosed, BadSubstitution, TooDeep, NoMemory}

-- a whole command, and bodies behind the newline
pub whole_said : (table : AliasTable) (text : List ℕ) (w : Waiting) (t : Item) (j : Result Judged PartFault) (prefix : Judged)
    → j ≡ Ok prefix → is_none prefix ≡ false → are_whole prefix ≡ true
    → answer_at_newline table text w t j ≡ Some (complete_answer prefix t.«end» (bodies_of (read_text table) 500 text (due_at t.token.kind w) t))
whole_said table text w t j prefix e n h =
    ap (λ z. answer_at_newline table text w t z) e
    ∙ ap (λ b. if b then Some (Ok (Reading.Blank t.«end»)) else if are_whole prefix then Some (complete_answer prefix t.«end» (bodies_of (read_text table) 500 text (due_at t.token.kind w) t)) else refusal t.«end» (with_token table text w t prefix)) n
    ∙ ap (λ b. if b then Some (complete_answer prefix t.«end» (bodies_of (read_text table) 500 text (due_at t.token.kind w) t)) else refusal t.«end» (with_token table text w t prefix)) h

-- a fault that is said is told
pub fault_told : (f : ParseFault) (known : Answer) (said : Option Answer) → Answers (Err f) known → said ≡ Some known → SaysFault f said
fault_told (NoMemory _) known said h s = tt
fault_told (Refused at used) known said h s = s ∙ ap Some h
fault_told (Unclosed at) known said h s = s ∙ ap Some h
fault_told (BadSubstitution at used) known said h s = s ∙ ap Some h
fault_told (TooDeep at used) known said h s = s ∙ ap Some h

-- an answer that is said is told
pub whole_tells : (table : AliasTable) (text : List ℕ) (j : Result Judged PartFault) (w : Waiting) (t : Item) (nul : Option ℕ) (answer : Result Reading ParseFault) (known : Answer)
    → answer_at_newline table text w t j ≡ Some known → Answers answer known → Tells (answer_at_newline table text w t j) (stands_behind table text (standing j w) t) t.«end» nul (turn_of answer)
whole_tells table text j w t nul (Ok r) known s h = s ∙ ap Some h
whole_tells table text j w t nul (Err f) known s h = fault_told f known (answer_at_newline table text w t j) h s

-- a token that ends no line decides nothing
pub on_takes : (table : AliasTable) (e : Bool) (text : List ℕ) (j : Result Judged PartFault) (w : Waiting) (t : Item) (nul : Option ℕ) (answer : Result Turn ParseFault) → is_newline t.token.kind ≡ false
    → GoesOn (stands_behind table text (standing j w) t) t.«end» nul answer → Takes (source table e text) (standing j w) t nul answer
on_takes table e text j w t nul (Ok (Turn.On k v place first)) l (p, a, b, c) = (
  p,
  a,
  c,
  λ tokens ending.
      ap (λ z. unwrap_or (if z then newline_says table text w t j else None) (first_answer (source table e text) (stands_behind table text (standing j w) t) tokens ending)) l
      ∙ ap (λ z. first_answer (source table e text) (standing z (behind_token t.token.kind w)) tokens ending) (sym b)
      ∙ ap (λ z. first_answer (source table e text) (standing k z) tokens ending) (sym a),
)
on_takes table e text j w t nul (Ok (Turn.Read reading)) l g = absurd g
on_takes table e text j w t nul (Err fault) l g = λ tokens ending. subst (λ f. Answers (Err f) (first_answer (source table e text) (standing j w) (t ∷ tokens) ending)) (sym g) tt
