-- Of some processes those that have ended close all their descriptors.
use Rattle.std.proofs.Common.{◌≡◌, ℕ, List, [], ◌∷◌, length, filter, Bool, true, false, cond, ◌==◌, slice_get, refl, sym, ap, ◌∙◌}
use Rattle.sh_kernel_descriptors.specs.Machine.{MachineState, after_close}
use Rattle.sh_kernel_processes.specs.Processes.{has_ended}
use Rattle.sh_kernel_descriptors.specs.declared.descriptor.Closing.TheVariants.{All}
use Rattle.sh_kernel_descriptors.specs.declared.description.Description.{Description}
use Rattle.sh_kernel_processes.specs.declared.process.Process.{Process}
use Rattle.sh_kernel.specs.Laws.{IsOwned}
use Rattle.sh_kernel.specs.Reaching.{is_end, reaches}
use Rattle.sh_kernel_machine.specs.Signals.{after_ending, after_endings, with_processes}
use Rattle.sh_kernel_machine.proofs.Closing.{others_left, pipes_left_length, true≢false}
use Rattle.sh_kernel.proofs.Closing.{filter_owned, pipes_left_other, reaches_left}

-- of these processes those that have ended closed all their descriptors, and nothing else happened
pub record Endings (m : MachineState) (ps : List Process) (m' : MachineState) : Type 0 where
  pub processes : m'.processes ≡ ps
  pub files : m'.files ≡ m.files
  pub descriptions : m'.descriptions ≡ m.descriptions
  pub room : length m'.pipes ≡ length m.pipes
  pub pipes : (pipe : ℕ) → ((q : ℕ) → has_ended ps q ≡ true → reaches m.descriptors q (is_end m.descriptions pipe) ≡ false) → slice_get m'.pipes pipe ≡ slice_get m.pipes pipe
  pub descriptors : (q : ℕ) → has_ended ps q ≡ false → filter (λ d. d.pid == q) m'.descriptors ≡ filter (λ d. d.pid == q) m.descriptors
  pub reaches_less : (q : ℕ) (test : ℕ → Bool) → reaches m.descriptors q test ≡ false → reaches m'.descriptors q test ≡ false
  pub owned : (pid : ℕ) (test : ℕ → Bool) → IsOwned pid test m.descriptors → IsOwned pid test m'.descriptors

ending_closes : (m : MachineState) (ps : List Process) (m' : MachineState) (pid : ℕ) → has_ended m'.processes pid ≡ true → Endings m ps m' → Endings m ps (after_close m' pid All)
ending_closes m ps m' pid h e =
    let ended : has_ended ps pid ≡ true = sym (ap (λ (xs : List Process). has_ended xs pid) e.processes) ∙ h in
    record {
      processes = e.processes;
      files = e.files;
      descriptions = e.descriptions;
      room = pipes_left_length pid All m'.descriptors m'.descriptions m'.pipes ∙ e.room;
      pipes = λ pipe none.
          let unreached : reaches m'.descriptors pid (is_end m'.descriptions pipe) ≡ false = ap (λ (es : List Description). reaches m'.descriptors pid (is_end es pipe)) e.descriptions ∙ e.reaches_less pid (is_end m.descriptions pipe) (none pid ended) in
          pipes_left_other pid All m'.descriptors m'.descriptions m'.pipes pipe unreached ∙ e.pipes pipe none;
      descriptors = λ q alive. others_left pid All m'.descriptors q (λ same. true≢false (has_ended ps q) (ap (λ (n : ℕ). has_ended ps n) same ∙ ended) alive) ∙ e.descriptors q alive;
      reaches_less = λ q test r. reaches_left pid All m'.descriptors q test (e.reaches_less q test r);
      owned = λ q test own. filter_owned q test _ m'.descriptors (e.owned q test own);
    }

endings_of : (m : MachineState) (ps : List Process) (m' : MachineState) (pids : List ℕ) → Endings m ps m' → Endings m ps (after_endings m' pids)
endings_of m ps m' [] e = e
endings_of m ps m' (pid ∷ pids) e = endings_of m ps (after_ending m' pid) pids (of_test (has_ended m'.processes pid) refl)
  where
    of_test : (b : Bool) → has_ended m'.processes pid ≡ b → Endings m ps (cond b (after_close m' pid All) m')
    of_test true h = ending_closes m ps m' pid h e
    of_test false h = e

pub endings : (m : MachineState) (ps : List Process) (pids : List ℕ) → Endings m ps (with_processes m ps pids)
endings m ps pids = endings_of m ps (record m { processes = ps }) pids (record {
  processes = refl;
  files = refl;
  descriptions = refl;
  room = refl;
  pipes = λ pipe none. refl;
  descriptors = λ q alive. refl;
  reaches_less = λ q test r. r;
  owned = λ pid test own. own;
})
