-- Readings without aliases, in which each token stands for itself.
use Rattle.std.proofs.Common.{◌≡◌, ℕ, Bool, List, [], ◌∷◌, ◌++◌, Option, Some, None, Result, Ok, Err, refl, ap, ◌∙◌, if◌then◌else◌}
use Rattle.std.specs.Option.{unwrap_or}
use Rattle.sh_parse_documents.specs.declared.item.Item.{Item}
use Rattle.sh_parse_documents.specs.Waiting.{Waiting, behind_token, due_at}
use Rattle.sh_parse_documents.specs.Stream.{Ending}
use Rattle.sh_parse_words.specs.declared.fault.PartFault.{PartFault}
use Rattle.sh_aliases.specs.Aliases.{no_aliases}
use Rattle.sh_parse_leaves.specs.Results.{and_then}
use Rattle.sh_parse_commands.specs.Documents.{bodies_of}
use Rattle.sh_parse_leaves.specs.Words.{within}
use Rattle.sh_parse_commands.specs.Judging.{Judged, with_item, is_none, are_whole}
use Rattle.sh_parse_commands.specs.Replacing.{origin}
use Rattle.sh_parse_commands.specs.Programs.{inside_of, read_text}
use Rattle.sh_parse_commands.proofs.Without.{token_without}
use Rattle.sh_parse.specs.Reading.{Answer, Standing, answer_at_newline, at_last, complete_answer, fault_of, first_answer, is_newline, newline_says, nul_in, refusal, source, standing, stands_behind, with_nul, with_token}
use Rattle.std.specs.Prelude.{take}
use Rattle.sh_parse.specs.declared.Reading.TheVariants.{Blank}

abbrev pub plain_token : List ℕ → Waiting → Item → Judged → Result Judged PartFault
plain_token text w item j = with_item (within (read_text no_aliases) 500 text) (due_at item.token.kind w) item j

abbrev pub plain_at_newline : List ℕ → Waiting → Item → Result Judged PartFault → Option Answer
plain_at_newline text w newline (Err f) = Some (Err (fault_of newline.«end» f))
plain_at_newline text w newline (Ok j) =
    if is_none j then Some (Ok (Blank newline.«end»))
    else if are_whole j then Some (complete_answer j newline.«end» (bodies_of (read_text no_aliases) 500 text (due_at newline.token.kind w) newline))
    else refusal newline.«end» (plain_token text w newline j)

abbrev pub plain_says : List ℕ → Waiting → Item → Result Judged PartFault → Option Answer
plain_says text w newline j = with_nul (nul_in (take newline.«end» text)) newline.«end» (plain_at_newline text w newline j)

abbrev pub plain_behind : List ℕ → Standing → Item → Standing
plain_behind text here item = standing (and_then here.judged (plain_token text here.waiting item)) (behind_token item.token.kind here.waiting)

abbrev pub plain_first : Bool → List ℕ → Standing → List Item → Ending → Answer
plain_first e text here [] ending = at_last e text here.waiting here.judged ending
plain_first e text here (t ∷ tokens) ending =
    unwrap_or (if is_newline t.token.kind then plain_says text here.waiting t here.judged else None) (plain_first e text (plain_behind text here t) tokens ending)

same_token : (text : List ℕ) (w : Waiting) (t : Item) (j : Judged) → with_token no_aliases text w t j ≡ plain_token text w t j
same_token text w t j = token_without (inside_of no_aliases) (origin [] 500 text) (due_at t.token.kind w) t j

same_next : (text : List ℕ) (w : Waiting) (t : Item) (j : Result Judged PartFault) → and_then j (with_token no_aliases text w t) ≡ and_then j (plain_token text w t)
same_next text w t (Ok j) = same_token text w t j
same_next text w t (Err f) = refl

same_line : (text : List ℕ) (w : Waiting) (t : Item) (j : Result Judged PartFault) → answer_at_newline no_aliases text w t j ≡ plain_at_newline text w t j
same_line text w t (Err f) = refl
same_line text w t (Ok j) =
    ap (λ r. if is_none j then Some (Ok (Blank t.«end»))
    else if are_whole j then Some (complete_answer j t.«end» (bodies_of (read_text no_aliases) 500 text (due_at t.token.kind w) t))
    else refusal t.«end» r) (same_token text w t j)

pub same_first : (e : Bool) (text : List ℕ) (j : Result Judged PartFault) (w : Waiting) (tokens : List Item) (ending : Ending)
    → first_answer (source no_aliases e text) (standing j w) tokens ending ≡ plain_first e text (standing j w) tokens ending
same_first e text j w [] ending = refl
same_first e text j w (t ∷ tokens) ending =
    ap (λ d. unwrap_or (if is_newline t.token.kind then with_nul (nul_in (take t.«end» text)) t.«end» d else None)
    (first_answer (source no_aliases e text) (stands_behind no_aliases text (standing j w) t) tokens ending)) (same_line text w t j)
    ∙ ap (λ k. unwrap_or (if is_newline t.token.kind then plain_says text w t j else None)
    (first_answer (source no_aliases e text) (standing k (behind_token t.token.kind w)) tokens ending)) (same_next text w t j)
    ∙ ap (λ later. unwrap_or (if is_newline t.token.kind then plain_says text w t j else None) later)
    (same_first e text (and_then j (plain_token text w t)) (behind_token t.token.kind w) tokens ending)
