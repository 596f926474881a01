-- What an expansion comes to that goes on with its answers, and what is kept of it where it needs another one.
use Rattle.std.specs.Prelude.{◌≡◌, ℕ, List, []}
use Rattle.sh_expand.specs.Answers.{Patterned, Needs, Pattern, Fails, Pending, words_with}
use Rattle.sh_expand.specs.Expanding as expanding
use Rattle.sh_expand.specs.Expansion.{Done, Stops}
use Rattle.sh_expand.specs.Waiting.{IsWaiting}
use Rattle.sh_expand.specs.WordProgress.{state_of}
use Rattle.sh_expand.specs.declared.expansion.Expansion.{Expansion}
use Rattle.sh_expand.specs.declared.expansion.Step.{Step}
use Rattle.sh_expand.specs.declared.expansion.Step.TheVariants as step
use Rattle.sh_expand.specs.declared.pending.PatternProgress.{PatternProgress}
use Rattle.sh_expand.specs.declared.pending.PatternProgress.TheVariants as pattern_progress
use Rattle.sh_expand.specs.declared.pending.Progress.{Progress}
use Rattle.sh_expand.specs.declared.pending.Progress.TheVariants as progress
use Rattle.sh_expand.specs.declared.wanted.Wanted.{Wanted}
use Rattle.sh_files.specs.Nodes.{FileMap}
use Rattle.sh_pattern.specs.declared.pattern_byte.PatternByte.{PatternByte}
use Rattle.sh_vars.specs.Environment.{Environment}

-- ---- what is told, with the variables then
abbrev pub result_of : Progress → Environment → expanding.Result
result_of (progress.Need program pending) env = expanding.Need program env
result_of (progress.Fields fields) env = expanding.Fields fields env
result_of (progress.Fault fault) env = expanding.Stops fault env

abbrev pub patterned_by : PatternProgress → Environment → Patterned
patterned_by (pattern_progress.Need program pending) env = Needs program env
patterned_by (pattern_progress.Pattern pattern) env = Pattern pattern env
patterned_by (pattern_progress.Fault fault) env = Fails fault env

-- ---- what waits is this expansion
abbrev pub IsKept : Progress → Pending → Type 0
IsKept (progress.Need program pending) p = pending ≡ p
IsKept (progress.Fields fields) p = Unit {0}
IsKept (progress.Fault fault) p = Unit {0}

abbrev pub IsPatternKept : PatternProgress → Pending → Type 0
IsPatternKept (pattern_progress.Need program pending) p = pending ≡ p
IsPatternKept (pattern_progress.Pattern pattern) p = Unit {0}
IsPatternKept (pattern_progress.Fault fault) p = Unit {0}

-- ---- inside: a step that is a need waits
abbrev pub IsNeeding : Step → Expansion → Environment → Environment → List (List ℕ) → Type 0
IsNeeding (step.Need program) e env start answers = IsWaiting program e env start answers
IsNeeding (step.Fields fields) e env start answers = Unit {0}
IsNeeding (step.Fault fault) e env start answers = Unit {0}

-- what has been done with these answers comes to the step
abbrev pub IsOutcome : FileMap → Step → Expansion → Environment → List Wanted → Environment → List (List ℕ) → Type 0
IsOutcome files (step.Need program) e env words start answers = IsWaiting program e env start answers
IsOutcome files (step.Fields fields) e env words start answers =
    (expanding.result_of files (words_with words start answers) ≡ expanding.Fields fields env) × (words_with words start answers ≡ Done (state_of e.words env []))
IsOutcome files (step.Fault fault) e env words start answers = words_with words start answers ≡ Stops fault env

pub record IsAnswered (files : FileMap) (reached : Step) (e : Expansion) (env : Environment) (words : List Wanted) (start : Environment) (answers : List (List ℕ)) : Type 0 where
  pub same_words : e.words.words ≡ words
  pub outcome : IsOutcome files reached e env words start answers

-- what is told of a step, and what is kept where it is a need
abbrev pub progress_of : Step → Pending → Progress
progress_of (step.Need program) p = progress.Need program p
progress_of (step.Fields fields) p = progress.Fields fields
progress_of (step.Fault fault) p = progress.Fault fault

abbrev pub pattern_progress_of : Step → List PatternByte → Pending → PatternProgress
pattern_progress_of (step.Need program) pattern p = pattern_progress.Need program p
pattern_progress_of (step.Fields fields) pattern p = pattern_progress.Pattern pattern
pattern_progress_of (step.Fault fault) pattern p = pattern_progress.Fault fault
