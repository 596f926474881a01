-- A complete command that is read begins with an action.
use Rattle.std.proofs.Common.{ℕ, List, [], ◌∷◌, ◌++◌, length, take, Option, Some, None, Bool}
use Rattle.std.specs.Prelude.{Result, Ok, Err, if◌then◌else◌}
use Rattle.std.specs.Option.{unwrap_or}
use Rattle.sh_token_grammar.specs.Shell.{complete}
use Rattle.sh_parse_documents.specs.Stream.{AtEnd, Cut, Ending, items_of}
use Rattle.sh_parse_documents.specs.Waiting.{Waiting, behind_token, due_at, nothing}
use Rattle.sh_parse_documents.specs.declared.item.Item.{Item}
use Rattle.sh_parse_commands.specs.Documents.{bodies_of}
use Rattle.sh_parse_commands.specs.Judging.{Judged, are_whole, is_none, none_of, tree_by}
use Rattle.sh_parse_commands.specs.Replacing.{origin}
use Rattle.sh_parse_commands.specs.Programs.{inside_of, read_text}
use Rattle.sh_parse_leaves.specs.Results.{and_then}
use Rattle.sh_parse_words.specs.declared.fault.PartFault.{PartFault}
use Rattle.sh_aliases.specs.Aliases.{AliasTable}
use Rattle.sh_parse.specs.Reading.{Answer, answer_at_newline, at_cut, at_end, at_last, before_nul, complete_answer, first_answer, is_newline, newline_says, nul_in, reading, refusal, stands_before, unless_nul, with_nul, with_token, source, standing}
use Rattle.sh_parse.specs.declared.ParseFault.TheVariants.{Refused, Unclosed}
use Rattle.sh_parse.specs.declared.Reading.TheVariants.{Complete, Blank, More}
use Rattle.sh_syntax.specs.declared.tree.Parts.{Parts}
use Rattle.sh_laws.proofs.BegunParts.{Unless, and_then_fits, either}
use Rattle.sh_laws.proofs.BegunSyntax.{ProgramFits}
use Rattle.sh_laws.proofs.BegunTexts.{BodiesFit, TokensFit, bodies_of_fit, bodies_then, inside_fits, read_text_fits, tree_fits, with_token_fits}

abbrev pub AnswerFits : Answer → Type 0
AnswerFits (Ok (Complete tree used)) = ProgramFits tree
AnswerFits (Ok (Blank used)) = Unit {0}
AnswerFits (Ok More) = Unit {0}
AnswerFits (Err f) = Unit {0}

abbrev SaidFits : Option Answer → Type 0
SaidFits None = Unit {0}
SaidFits (Some answer) = AnswerFits answer

abbrev Fits : Judged → Type 0
Fits = TokensFit

-- ---- a NUL
before_nul_fits : (nul used : ℕ) (answer : Answer) → AnswerFits (before_nul nul used answer)
before_nul_fits nul used (Ok r) = tt
before_nul_fits nul used (Err f) = either AnswerFits (stands_before f nul) (Err f) (Err (Refused nul used)) tt tt

unless_nul_fits : (o : Option ℕ) (used : ℕ) (answer : Answer) → AnswerFits answer → AnswerFits (unless_nul o used answer)
unless_nul_fits None used answer f = f
unless_nul_fits (Some nul) used answer f = before_nul_fits nul used answer

with_nul_fits : (o : Option ℕ) (used : ℕ) (said : Option Answer) → SaidFits said → SaidFits (with_nul o used said)
with_nul_fits None used said f = f
with_nul_fits (Some nul) used None f = tt
with_nul_fits (Some nul) used (Some answer) f = before_nul_fits nul used answer

-- ---- decision places
complete_fits : (j : Judged) (used : ℕ) (r : Result (List Parts) PartFault) → Fits j → Unless BodiesFit r → AnswerFits (complete_answer j used r)
complete_fits j used (Ok others) f g = tree_fits (record j { bodies = j.bodies ++ others }) f.0 (bodies_then j.bodies others f.1 g)
complete_fits j used (Err e) f g = tt

refusal_fits : (used : ℕ) (r : Result Judged PartFault) → SaidFits (refusal used r)
refusal_fits used (Ok j) = tt
refusal_fits used (Err f) = tt

at_newline_fits : (table : AliasTable) (text : List ℕ) (w : Waiting) (newline : Item) (r : Result Judged PartFault) → Unless Fits r → SaidFits (answer_at_newline table text w newline r)
at_newline_fits table text w newline (Err e) f = tt
at_newline_fits table text w newline (Ok j) f =
    let whole : Option Answer = Some (complete_answer j newline.«end» (bodies_of (read_text table) 500 text (due_at newline.token.kind w) newline)) in
    let unfit = refusal newline.«end» (with_token table text w newline j) in
    either SaidFits (is_none j) (Some (Ok (Blank newline.«end»))) (if are_whole j then whole else unfit) tt
    (either SaidFits (are_whole j) whole unfit
    (complete_fits j newline.«end» (bodies_of (read_text table) 500 text (due_at newline.token.kind w) newline) f (bodies_of_fit (read_text table) (read_text_fits table) 500 text (due_at newline.token.kind w) newline))
    (refusal_fits newline.«end» (with_token table text w newline j)))

at_end_fits : (text : List ℕ) (r : Result Judged PartFault) → Unless Fits r → AnswerFits (at_end text r)
at_end_fits text (Ok j) f =
    either AnswerFits (is_none j) (Ok (Blank (length text))) (if are_whole j then Ok (Complete (tree_by j) (length text)) else Err (Unclosed (length text))) tt
    (either AnswerFits (are_whole j) (Ok (Complete (tree_by j) (length text))) (Err (Unclosed (length text))) (tree_fits j f.0 f.1) tt)
at_end_fits text (Err e) f = tt

at_cut_fits : (text : List ℕ) (w : Waiting) (r : Result Judged PartFault) (at : ℕ) → AnswerFits (at_cut text w r at)
at_cut_fits text w (Ok j) at = tt
at_cut_fits text w (Err e) at = tt

at_last_fits : (e : Bool) (text : List ℕ) (w : Waiting) (r : Result Judged PartFault) (ending : Ending) → Unless Fits r → AnswerFits (at_last e text w r ending)
at_last_fits e text w r AtEnd f = unless_nul_fits (nul_in text) (length text) (at_end text r) (at_end_fits text r f)
at_last_fits e text w r (Cut at) f =
    either AnswerFits e (unless_nul (nul_in text) (length text) (at_cut text w r at)) (Ok More) (unless_nul_fits (nul_in text) (length text) (at_cut text w r at) (at_cut_fits text w r at)) tt

newline_fits : (table : AliasTable) (text : List ℕ) (w : Waiting) (newline : Item) (r : Result Judged PartFault) → Unless Fits r → SaidFits (newline_says table text w newline r)
newline_fits table text w newline r f = with_nul_fits (nul_in (take newline.«end» text)) newline.«end» (answer_at_newline table text w newline r) (at_newline_fits table text w newline r f)

else_fits : (said : Option Answer) (answer : Answer) → SaidFits said → AnswerFits answer → AnswerFits (unwrap_or said answer)
else_fits None answer f g = g
else_fits (Some x) answer f g = f

first_fits : (table : AliasTable) (e : Bool) (text : List ℕ) (w : Waiting) (r : Result Judged PartFault) (tokens : List Item) (ending : Ending) → Unless Fits r
    → AnswerFits (first_answer (source table e text) (standing r w) tokens ending)
first_fits table e text w r [] ending f = at_last_fits e text w r ending f
first_fits table e text w r (t ∷ tokens) ending f =
    else_fits (if is_newline t.token.kind then newline_says table text w t r else None)
    (first_answer (source table e text) (standing (and_then r (with_token table text w t)) (behind_token t.token.kind w)) tokens ending)
    (either SaidFits (is_newline t.token.kind) (newline_says table text w t r) None (newline_fits table text w t r f) tt)
    (first_fits table e text (behind_token t.token.kind w) (and_then r (with_token table text w t)) tokens ending
    (and_then_fits Fits Fits r (with_token table text w t) f
    (λ j g. with_token_fits table (inside_of table) (inside_fits table) (origin [] 500 text) (due_at t.token.kind w) t j g)))

pub reading_fits : (table : AliasTable) (e : Bool) (text : List ℕ) → AnswerFits (reading table e text)
unfolding reading
reading_fits table e text = first_fits table e text nothing (Ok (none_of complete)) (items_of e text).items (items_of e text).ending (tt, tt)
