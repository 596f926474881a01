-- An expansion that goes on with answers, and what it comes to.
use Rattle.std.proofs.Common.{◌≡◌, ℕ, List, [], ◌∷◌, ◌++◌, refl, sym, ap, subst, ◌∙◌, append-nil, append_assoc}
use Rattle.sh_expand.specs.Answers.{Pending, expansion_with, fields_in, pattern_from, pattern_of, pattern_with, resumption, words_after, words_with}
use Rattle.sh_expand.specs.Expanding as expanding
use Rattle.sh_expand.specs.Expansion.{Outcome, Need, Done, Stops}
use Rattle.sh_expand.specs.FieldProgress.{IsStep, Waits, pattern_in}
use Rattle.sh_expand.specs.Parts as words_in
use Rattle.sh_expand.specs.Pendings.{IsAnswered, pattern_progress_of, patterned_by, progress_of, result_of}
use Rattle.sh_expand.specs.Waiting.{IsWaiting}
use Rattle.sh_expand.specs.WordProgress.{inputs}
use Rattle.sh_expand.specs.declared.expansion.Expansion.{Expansion}
use Rattle.sh_expand.specs.declared.expansion.Step.{Step}
use Rattle.sh_expand.specs.declared.expansion.Step.TheVariants as step
use Rattle.sh_expand.specs.declared.pending.Kept.{Kept}
use Rattle.sh_expand.specs.declared.pending.PatternProgress.{PatternProgress}
use Rattle.sh_expand.specs.declared.pending.Progress.{Progress}
use Rattle.sh_expand.specs.declared.wanted.Wanted.{Wanted}
use Rattle.sh_expand_parts.specs.declared.fault.Fault.{Fault}
use Rattle.sh_files.specs.Nodes.{FileMap}
use Rattle.sh_syntax.specs.declared.tree.CompoundList.{CompoundList}
use Rattle.sh_vars.specs.Environment.{Environment}

-- the step to which the answers so far lead, of all of them; those so far all served a need
pub record Stands (files : FileMap) (words : List Wanted) (start : Environment) (all : List (List ℕ)) (reached : Step) (e : Expansion) (env : Environment) (rest : List (List ℕ)) : Type 0 where
  pub given : List (List ℕ)
  pub split : given ++ rest ≡ all
  pub is_step : IsStep files reached e env (inputs words start given)
  pub same_words : e.words.words ≡ words
  pub same : (answers : List (List ℕ)) → words_after words start given answers ≡ words_after words start [] (given ++ answers)

-- ---- what the words came to, from what the fields did
needed : (files : FileMap) (o : Outcome) (program : CompoundList) (env : Environment) → expanding.result_of files o ≡ expanding.Need program env → o ≡ Need program env
needed files (Need p e) program env h = cc
needed files (Done s) program env h = absurd (cc)
needed files (Stops fault e) program env h = absurd (cc)

stopped : (files : FileMap) (o : Outcome) (fault : Fault) (env : Environment) → expanding.result_of files o ≡ expanding.Stops fault env → o ≡ Stops fault env
stopped files (Need p e) fault env h = absurd (cc)
stopped files (Done s) fault env h = absurd (cc)
stopped files (Stops f e) fault env h = cc

-- ---- it begins, or goes on from where it waits
pub begins : (files : FileMap) (words : List Wanted) (start : Environment) (reached : Step) (e : Expansion) (env : Environment)
    → IsStep files reached e env (inputs words start []) → e.words.words ≡ words → Stands files words start [] reached e env []
begins files words start reached e env h k = record { given = []; split = refl; is_step = h; same_words = k; same = λ answers. refl }

-- ---- the next answer serves a need
pub goes_on : (files : FileMap) (words : List Wanted) (start : Environment) (all : List (List ℕ)) (reached next : Step) (program : CompoundList) (e f : Expansion) (env after : Environment) (a : List ℕ) (whole rest : List (List ℕ))
    → reached ≡ step.Need program → whole ≡ a ∷ rest → f.words.words ≡ e.words.words
    → ((wanted : List Wanted) (before : Environment) (given : List (List ℕ)) → Waits e env wanted before given → IsStep files next f after (inputs wanted before (given ++ a ∷ [])))
    → Stands files words start all reached e env whole → Stands files words start all next f after rest
goes_on files words start all reached next program e f env after a whole rest n w k r s =
    let h : IsStep files (step.Need program) e env (inputs words start s.given) = subst (λ x. IsStep files x e env (inputs words start s.given)) n s.is_step in
    let o : words_in.expand words start s.given ≡ Need program env = needed files (words_in.expand words start s.given) program env h.0 in
    record {
      given = s.given ++ a ∷ [];
      split = append_assoc s.given (a ∷ []) rest ∙ ap (λ xs. s.given ++ xs) (sym w) ∙ s.split;
      is_step = r words start s.given h.1;
      same_words = k ∙ s.same_words;
      same = λ answers.
          sym (ap (λ x. resumption x (words_after words start (s.given ++ a ∷ []) answers)) o)
          ∙ s.same (a ∷ answers)
          ∙ ap (words_after words start []) (sym (append_assoc s.given (a ∷ []) answers));
    }

-- ---- a step that is no need serves all answers
abbrev pub IsEnd : Step → Type 0
IsEnd (step.Need program) = ⊥
IsEnd (step.Fields fields) = Unit {0}
IsEnd (step.Fault fault) = Unit {0}

resumed_done : (o next : Outcome) (s : _) → o ≡ Done s → resumption o next ≡ o
resumed_done o next s e = ap (λ x. resumption x next) e ∙ sym e

resumed_stopped : (o next : Outcome) (fault : Fault) (env : Environment) → o ≡ Stops fault env → resumption o next ≡ o
resumed_stopped o next fault env e = ap (λ x. resumption x next) e ∙ sym e

over : (files : FileMap) (words : List Wanted) (start : Environment) (given rest : List (List ℕ)) (reached : Step) (e : Expansion) (env : Environment)
    → IsEnd reached → IsStep files reached e env (inputs words start given) → words_after words start given rest ≡ words_in.expand words start given
over files words start given [] reached e env n h = refl
over files words start given (a ∷ rest) (step.Need program) e env n h = absurd n
over files words start given (a ∷ rest) (step.Fields fields) e env n h = resumed_done _ _ _ h.1
over files words start given (a ∷ rest) (step.Fault fault) e env n h = resumed_stopped _ _ fault env (stopped files _ fault env h)

is_end : (reached : Step) → ((program : CompoundList) → reached ≡ step.Need program → ⊥) → IsEnd reached
is_end (step.Need program) n = n program refl
is_end (step.Fields fields) n = tt
is_end (step.Fault fault) n = tt

-- what the words come to with all answers
ended : (files : FileMap) (words : List Wanted) (start : Environment) (all : List (List ℕ)) (reached : Step) (e : Expansion) (env : Environment) (rest : List (List ℕ))
    → IsEnd reached → (s : Stands files words start all reached e env rest) → words_with words start all ≡ words_in.expand words start s.given
unfolding words_with
ended files words start all reached e env rest n s =
    ap (words_after words start []) (sym s.split) ∙ sym (s.same rest) ∙ over files words start s.given rest reached e env n s.is_step

answered_by : (files : FileMap) (words : List Wanted) (start : Environment) (all : List (List ℕ)) (reached : Step) (e : Expansion) (env : Environment) (rest : List (List ℕ))
    → IsEnd reached → (s : Stands files words start all reached e env rest) → IsAnswered files reached e env words start all
answered_by files words start all (step.Need program) e env rest n s = absurd n
answered_by files words start all (step.Fields fields) e env rest n s = record {
  same_words = s.same_words;
  outcome = (ap (expanding.result_of files) (ended files words start all (step.Fields fields) e env rest n s) ∙ s.is_step.0, ended files words start all (step.Fields fields) e env rest n s ∙ s.is_step.1);
}
answered_by files words start all (step.Fault fault) e env rest n s = record {
  same_words = s.same_words;
  outcome = ended files words start all (step.Fault fault) e env rest n s ∙ stopped files _ fault env s.is_step;
}

pub answered_enough : (files : FileMap) (words : List Wanted) (start : Environment) (all : List (List ℕ)) (reached : Step) (e : Expansion) (env : Environment) (rest : List (List ℕ))
    → ((program : CompoundList) → reached ≡ step.Need program → ⊥) → Stands files words start all reached e env rest → IsAnswered files reached e env words start all
answered_enough files words start all reached e env rest n s = answered_by files words start all reached e env rest (is_end reached n) s

-- ---- no answer is left
all_given : (given rest all : List (List ℕ)) → rest ≡ [] → given ++ rest ≡ all → given ≡ all
all_given given rest all n s = sym (append-nil given) ∙ ap (λ xs. given ++ xs) (sym n) ∙ s

waits : (files : FileMap) (program : CompoundList) (e : Expansion) (env : Environment) (words : List Wanted) (start : Environment) (given : List (List ℕ))
    → e.words.words ≡ words → IsStep files (step.Need program) e env (inputs words start given)
    → ((answers : List (List ℕ)) → words_after words start given answers ≡ words_after words start [] (given ++ answers)) → IsWaiting program e env start given
waits files program e env words start given k h same = record {
  needs = ap (λ w. words_in.expand w start given) k ∙ needed files _ program env h.0;
  waits = subst (λ w. Waits e env w start given) (sym k) h.1;
  same = λ answers. ap (λ w. words_after w start given answers) k ∙ same answers ∙ ap (λ w. words_after w start [] (given ++ answers)) (sym k);
}

pub answered_all : (files : FileMap) (words : List Wanted) (start : Environment) (all : List (List ℕ)) (reached : Step) (e : Expansion) (env : Environment) (rest : List (List ℕ))
    → rest ≡ [] → Stands files words start all reached e env rest → IsAnswered files reached e env words start all
answered_all files words start all (step.Need program) e env rest n s = record {
  same_words = s.same_words;
  outcome = subst (IsWaiting program e env start) (all_given s.given rest all n s.split) (waits files program e env words start s.given s.same_words s.is_step s.same);
}
answered_all files words start all (step.Fields fields) e env rest n s = answered_by files words start all (step.Fields fields) e env rest tt s
answered_all files words start all (step.Fault fault) e env rest n s = answered_by files words start all (step.Fault fault) e env rest tt s

pub begun : (files : FileMap) (words : List Wanted) (start : Environment) (reached : Step) (e : Expansion) (env : Environment)
    → IsStep files reached e env (inputs words start []) → e.words.words ≡ words → IsAnswered files reached e env words start []
begun files words start reached e env h k = answered_all files words start [] reached e env [] refl (begins files words start reached e env h k)

-- ---- what is told and kept of it
waited : (program : CompoundList) (e : Expansion) (env : Environment) (words : List Wanted) (start : Environment) (answers : List (List ℕ))
    → e.words.words ≡ words → IsWaiting program e env start answers → words_with words start answers ≡ Need program env
unfolding words_with
waited program e env words start answers k w =
    ap (λ x. words_after x start [] answers) (sym k) ∙ ap (words_after e.words.words start []) (sym (append-nil answers)) ∙ sym (w.same []) ∙ w.needs

pub told : (files : FileMap) (reached : Step) (e : Expansion) (env : Environment) (words : List Wanted) (start : Environment) (answers : List (List ℕ)) (p : Pending)
    → IsAnswered files reached e env words start answers → result_of (progress_of reached p) env ≡ expansion_with files words start answers
unfolding expansion_with
told files (step.Need program) e env words start answers p h = sym (ap (expanding.result_of files) (waited program e env words start answers h.same_words h.outcome))
told files (step.Fields fields) e env words start answers p h = sym h.outcome.0
told files (step.Fault fault) e env words start answers p h = sym (ap (expanding.result_of files) h.outcome)

pub patterned : (files : FileMap) (reached : Step) (e : Expansion) (env : Environment) (words : List Wanted) (start : Environment) (answers : List (List ℕ)) (p : Pending)
    → IsAnswered files reached e env words start answers → patterned_by (pattern_progress_of reached (pattern_in e) p) env ≡ pattern_with words start answers
unfolding pattern_with
patterned files (step.Need program) e env words start answers p h = sym (ap pattern_of (waited program e env words start answers h.same_words h.outcome))
patterned files (step.Fields fields) e env words start answers p h = sym (ap pattern_of h.outcome.1)
patterned files (step.Fault fault) e env words start answers p h = sym (ap pattern_of h.outcome)

-- ---- it goes on with the answers that it has not had yet
abbrev pub pending_of : Kept → Pending
pending_of k = record { words = k.expansion.words.words; start = k.start; answers = k.answers }

pub resumed : (files : FileMap) (reached : Step) (e : Expansion) (env : Environment) (words : List Wanted) (start : Environment) (given more answers : List (List ℕ)) (p q : Pending) (x : Progress)
    → IsAnswered files reached e env words start (given ++ more) → given ++ more ≡ answers → q ≡ record { words = words; start = start; answers = answers }
    → x ≡ progress_of reached p → result_of x env ≡ fields_in files q
resumed files reached e env words start given more answers p q x h a v k =
    ap (λ y. result_of y env) k ∙ told files reached e env words start answers p (subst (IsAnswered files reached e env words start) a h) ∙ ap (fields_in files) (sym v)

pub resumed_pattern : (files : FileMap) (reached : Step) (e : Expansion) (env : Environment) (words : List Wanted) (start : Environment) (given more answers : List (List ℕ)) (p q : Pending) (x : PatternProgress)
    → IsAnswered files reached e env words start (given ++ more) → given ++ more ≡ answers → q ≡ record { words = words; start = start; answers = answers }
    → x ≡ pattern_progress_of reached (pattern_in e) p → patterned_by x env ≡ pattern_from q
resumed_pattern files reached e env words start given more answers p q x h a v k =
    ap (λ y. patterned_by y env) k ∙ patterned files reached e env words start answers p (subst (IsAnswered files reached e env words start) a h) ∙ ap pattern_from (sym v)
