-- Answers one after another.
use Rattle.std.proofs.Common.{◌≡◌, ℕ, List, [], ◌∷◌, ◌++◌, sym, ap, ◌∙◌}
use Rattle.std.proofs.lemmas.List.{append-nil, append_assoc}
use Rattle.sh_files.specs.Nodes.{FileMap}
use Rattle.sh_vars.specs.Environment.{Environment}
use Rattle.sh_expand.specs.Expanding.{expand, result_of}
use Rattle.sh_expand.specs.Expansion as words
use Rattle.sh_expand.specs.Parts as words_in
use Rattle.sh_expand.specs.declared.wanted.Wanted.{Wanted}
use Rattle.sh_expand.specs.Answers.{expansion_with, resumption, words_after, words_with}
use Rattle.sh_laws.specs.Answers.{Stays}
use Rattle.sh_laws.proofs.FurtherAnswers.{Grown}
use Rattle.sh_laws.proofs.AnsweredParts.{expansion_grows}

finished_stays : (files : FileMap) (o other : words.Outcome) (m : List (List ℕ)) → Grown m o other → Stays (result_of files o) (result_of files other)
finished_stays files (words.Need p e) other m g = tt
finished_stays files (words.Done s) other m g = ap (result_of files) g
finished_stays files (words.Stops f e) other m g = ap (result_of files) g

pub stays : (files : FileMap) (wanted : List Wanted) (env : Environment) (answers more : List (List ℕ)) → Stays (expand files wanted env answers) (expand files wanted env (answers ++ more))
stays files wanted env answers more =
    finished_stays files (words_in.expand wanted env answers) (words_in.expand wanted env (answers ++ more)) more (expansion_grows wanted env answers more)

resumed_is : (files : FileMap) (now next whole : words.Outcome) → Stays (result_of files now) (result_of files whole) → result_of files next ≡ result_of files whole
    → result_of files (resumption now next) ≡ result_of files whole
resumed_is files (words.Need p e) next whole s h = h
resumed_is files (words.Done t) next whole s h = sym s
resumed_is files (words.Stops f e) next whole s h = sym s

answered_is : (files : FileMap) (wanted : List Wanted) (env : Environment) (given answers : List (List ℕ))
    → result_of files (words_after wanted env given answers) ≡ expand files wanted env (given ++ answers)
answered_is files wanted env given [] = ap (expand files wanted env) (sym (append-nil given))
answered_is files wanted env given (a ∷ others) =
    resumed_is files (words_in.expand wanted env given) (words_after wanted env (given ++ a ∷ []) others) (words_in.expand wanted env (given ++ a ∷ others))
    (stays files wanted env given (a ∷ others))
    (answered_is files wanted env (given ++ a ∷ []) others ∙ ap (expand files wanted env) (append_assoc given (a ∷ []) others))

pub in_order : (files : FileMap) (wanted : List Wanted) (env : Environment) (answers : List (List ℕ)) → expansion_with files wanted env answers ≡ expand files wanted env answers
unfolding expansion_with words_with
in_order files wanted env answers = answered_is files wanted env [] answers
