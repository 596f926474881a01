-- From what is left to the definition.
use Rattle.std.proofs.Common.{◌≡◌, ℕ, List, [], ◌∷◌, ◌++◌, refl, sym, ap, ◌∙◌, append-nil, append_assoc, drop}
use Rattle.sh_vars.specs.Environment.{Environment}
use Rattle.sh_expand_parts.specs.declared.closing.ExpandedWord.{ExpandedWord}
use Rattle.sh_syntax.specs.declared.tree.CompoundList.{CompoundList}
use Rattle.sh_expand_parts.specs.Answers.{answer_text}
use Rattle.sh_expand_parts.specs.Drafts.{concatenation, nothing, plain, text_items}
use Rattle.sh_expand_parts.specs.declared.draft.Draft.{Draft}
use Rattle.sh_expand.specs.Expansion.{Need, Done, then}
use Rattle.sh_expand.specs.Parts.{expand, run_words, start}
use Rattle.sh_expand.specs.WordProgress.{around, run_frame, rest, state_of, outcome_of, Waits, IsStep, inputs}
use Rattle.sh_expand.specs.declared.wanted.Wanted.{Wanted}
use Rattle.sh_expand.specs.declared.words.Frame.{Frame}
use Rattle.sh_expand.specs.declared.words.WordExpansion.{WordExpansion}
use Rattle.sh_expand.specs.declared.words.Step.{Step}
use Rattle.sh_expand.specs.declared.words.Step.TheVariants as step

around_need : (fs : List Frame) (p : CompoundList) (e : Environment) → around fs (Need p e) ≡ Need p e
around_need [] p e = refl
around_need (g ∷ fs) p e = ap (λ x. then x (run_frame g)) (around_need fs p e)

-- a step whose outcome is that of the definition, whatever answers are still to come
pub step_is : (s : Step) (e : WordExpansion) (env : Environment) (words : List Wanted) (before : Environment) (given : List (List ℕ)) → ((bs : List (List ℕ)) → outcome_of s e env bs ≡ expand words before (given ++ bs)) → IsStep s e env (inputs words before given)
step_is (step.Need p) e env words before given h =
    (ap (expand words before) (sym (append-nil given)) ∙ sym (h []) ∙ ap (λ o. then o (run_words (drop e.next e.words))) (around_need e.frames p env), record { goes_on = λ a bs. sym (h (a ∷ bs)) })
step_is step.Words e env words before given h = ap (expand words before) (sym (append-nil given)) ∙ sym (h [])
step_is (step.Fault f) e env words before given h = ap (expand words before) (sym (append-nil given)) ∙ sym (h [])

pub start_is : (frames : List Frame) (draft : Draft) (done : List ExpandedWord) (words : List Wanted) (env : Environment) (bs : List (List ℕ)) → frames ≡ [] → draft ≡ nothing → done ≡ [] → then (around frames (Done (record { env = env; draft = draft; words = done; answers = bs }))) (run_words words) ≡ run_words words (start env bs)
start_is frames draft done words env bs f o d =
    ap (λ l. then (around l (Done (record { env = env; draft = draft; words = done; answers = bs }))) (run_words words)) f
    ∙ ap (λ l. run_words words (record { env = env; draft = l; words = done; answers = bs })) o
    ∙ ap (λ l. run_words words (record { env = env; draft = nothing; words = l; answers = bs })) d

pub resumed : (e : WordExpansion) (env : Environment) (draft items : Draft) (a : List ℕ) (bs : List (List ℕ)) (words : List Wanted) (before : Environment) (given : List (List ℕ)) → Waits e env words before given → items ≡ plain (text_items e.asked (answer_text a)) → draft ≡ concatenation e.draft items → rest e (Done (record (state_of e env bs) { draft = draft })) ≡ expand words before ((given ++ a ∷ []) ++ bs)
resumed e env draft items a bs words before given w i o =
    ap (λ l. rest e (Done (record (state_of e env bs) { draft = l }))) (o ∙ ap (concatenation e.draft) i)
    ∙ sym (w.goes_on a bs)
    ∙ ap (expand words before) (sym (append_assoc given (a ∷ []) bs))
