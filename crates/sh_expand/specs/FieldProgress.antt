-- The progress of an expansion to fields.
use Rattle.std.specs.Prelude.{◌≡◌, ℕ, List, [], ◌∷◌, map}
use Rattle.std.specs.declared.vec.Vec.{Vec}
use Rattle.std.specs.declared.alloc.Global.{Global}
use Rattle.sh_vars.specs.Environment.{Environment}
use Rattle.sh_files.specs.Nodes.{FileMap}
use Rattle.sh_expand.specs.WordProgress as words
use Rattle.sh_expand.specs.WordProgress.{Inputs}
use Rattle.sh_expand.specs.Parts as words_in
use Rattle.sh_expand.specs.Expansion.{Done}
use Rattle.sh_expand.specs.declared.wanted.Wanted.{Wanted}
use Rattle.sh_pattern.specs.declared.pattern_byte.PatternByte.{PatternByte}
use Rattle.sh_expand_fields.specs.Text.{marks_of}
use Rattle.sh_expand_parts.specs.declared.closing.ExpandedWord.{ExpandedWord}
use Rattle.sh_expand.specs.Expanding.{Need, Fields, Stops, expand}
use Rattle.sh_expand.specs.declared.expansion.Expansion.{Expansion}
use Rattle.sh_expand.specs.declared.expansion.Step.{Step}
use Rattle.sh_expand.specs.declared.expansion.Step.TheVariants as step

abbrev pub texts_of : List (Vec ℕ Global) → List (List ℕ)
texts_of fields = map (λ f. f.items) fields

-- the expansion waits for an answer, after the answers `given`
abbrev pub Waits : Expansion → Environment → List Wanted → Environment → List (List ℕ) → Type 0
Waits e env wanted before given = words.Waits e.words env wanted before given

-- the expansion has the words that the definition gives, before they are split
abbrev pub HasWords : Expansion → Environment → List Wanted → Environment → List (List ℕ) → Type 0
HasWords e env wanted before given = words_in.expand wanted before given ≡ Done (words.state_of e.words env [])

-- the first word as a pattern (2.14.1)
abbrev pub first_pattern : List ExpandedWord → List PatternByte
first_pattern [] = []
first_pattern (w ∷ ws) = marks_of w.items

abbrev pub pattern_in : Expansion → List PatternByte
pattern_in e = first_pattern e.words.done

-- a step is the expansion with the answers so far
abbrev pub IsStep : FileMap → Step → Expansion → Environment → Inputs → Type 0
IsStep files (step.Need program) e env i =
    (expand files i.words i.before i.given ≡ Need program env) × Waits e env i.words i.before i.given
IsStep files (step.Fields fields) e env i =
    (expand files i.words i.before i.given ≡ Fields fields env) × HasWords e env i.words i.before i.given
IsStep files (step.Fault fault) e env i = expand files i.words i.before i.given ≡ Stops fault env
