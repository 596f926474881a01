-- What is found in a text, by the answer of one reading.
use Rattle.std.proofs.Common.{◌≡◌, ◌<◌, length, arith, ℕ, zero, suc, List, [], ◌∷◌, drop, true, false, ◌==◌, refl, sym, ap, ◌∙◌}
use Rattle.sh_aliases.specs.Aliases.{AliasTable}
use Rattle.sh_parse.specs.Reading.{reading}
use Rattle.sh_syntax.specs.declared.tree.CompoundList.{CompoundList}
use Rattle.sh_exec_command.specs.declared.found.Found.TheVariants.{Nothing, Command, Fault}
use Rattle.sh_exec_parts.specs.declared.message.Refusal.{Refusal}
use Rattle.sh_exec_parts.specs.declared.message.Refusal.TheVariants as refusal
use Rattle.sh_exec_command.specs.declared.found.Answer.{Answer}
use Rattle.sh_exec_command.specs.declared.found.Answer.TheVariants as answer
use Rattle.sh_exec_command.specs.Reading.{answer_of, found_by, found_behind, next_command}

pub found_behind-drop : (aliases : AliasTable) (text : List ℕ) (count : ℕ) → found_behind aliases text count ≡ next_command aliases (drop count text)
found_behind-drop aliases [] zero = refl
found_behind-drop aliases [] (suc count) = refl
found_behind-drop aliases (byte ∷ bytes) zero = refl
found_behind-drop aliases (byte ∷ bytes) (suc count) = found_behind-drop aliases bytes count

-- a text with a byte at least
pub record IsText (text : List ℕ) : Type 0 where
  pub first : ℕ
  pub others : List ℕ
  pub is : text ≡ first ∷ others

pub by_command : (aliases : AliasTable) (text : List ℕ) → IsText text → (tree : CompoundList) (used : ℕ) → answer.Command tree used ≡ answer_of (reading aliases true text) → Command tree (drop used text) ≡ next_command aliases text
by_command aliases text t tree used e =
    rw t.is (ap (λ a. found_by a (t.first ∷ t.others) (found_behind aliases t.others)) (e ∙ ap (λ x. answer_of (reading aliases true x)) t.is))

pub by_fault : (aliases : AliasTable) (text : List ℕ) → IsText text → (refusal : Refusal) (used : ℕ) → answer.Fault refusal used ≡ answer_of (reading aliases true text) → Fault refusal (drop used text) ≡ next_command aliases text
by_fault aliases text t refusal used e =
    rw t.is (ap (λ a. found_by a (t.first ∷ t.others) (found_behind aliases t.others)) (e ∙ ap (λ x. answer_of (reading aliases true x)) t.is))

pub by_unclosed : (aliases : AliasTable) (text : List ℕ) → IsText text → answer.Unclosed ≡ answer_of (reading aliases true text) → Fault refusal.Syntax [] ≡ next_command aliases text
by_unclosed aliases text t e =
    rw t.is (ap (λ a. found_by a (t.first ∷ t.others) (found_behind aliases t.others)) (e ∙ ap (λ x. answer_of (reading aliases true x)) t.is))

pub by_nothing : (aliases : AliasTable) (text : List ℕ) → IsText text → answer.Blank 0 ≡ answer_of (reading aliases true text) → Nothing ≡ next_command aliases text
by_nothing aliases text t e =
    rw t.is (ap (λ a. found_by a (t.first ∷ t.others) (found_behind aliases t.others)) (e ∙ ap (λ x. answer_of (reading aliases true x)) t.is))

pub by_blank : (aliases : AliasTable) (text : List ℕ) → IsText text → (used : ℕ) → 0 < used → answer.Blank used ≡ answer_of (reading aliases true text) → next_command aliases text ≡ next_command aliases (drop used text)
by_blank aliases text t zero h e = absurd (omega arith)
by_blank aliases text t (suc count) h e =
    rw t.is (sym (ap (λ a. found_by a (t.first ∷ t.others) (found_behind aliases t.others)) (e ∙ ap (λ x. answer_of (reading aliases true x)) t.is)) ∙ found_behind-drop aliases t.others count)

-- a text whose slice isn't empty
pub not_empty : (text slice : List ℕ) → slice ≡ text → (length slice == 0) ≡ false → IsText text
not_empty text [] e h = absurd (cc)
not_empty text (byte ∷ bytes) e h = record { first = byte; others = bytes; is = sym e }

pub told_of : (aliases : AliasTable) (text slice : List ℕ) (a b : Answer) → slice ≡ text → a ≡ answer_of (reading aliases true slice) → a ≡ b → b ≡ answer_of (reading aliases true text)
told_of aliases text slice a b e told is = sym is ∙ told ∙ ap (λ x. answer_of (reading aliases true x)) e
