-- What one process alone has stays its own.
use Rattle.std.proofs.Common.{◌≡◌, ◌≢◌, ℕ, zero, suc, ◌+◌, List, [], ◌∷◌, ◌++◌, length, map, filter, Bool, true, false, cond, ◌&&◌, ◌||◌, ◌==◌, Option, Some, None, position, slice_get, slice_set, refl, sym, ap, ◌∙◌, arith}
use Rattle.std.proofs.lemmas.Bool.{eqb-true}
use Rattle.sh_kernel_descriptors.specs.Closings.{descriptors_left}
use Rattle.sh_kernel_descriptors.specs.Descriptors.{is_named}
use Rattle.sh_kernel_descriptors.specs.Machine.{MachineState}
use Rattle.sh_kernel_descriptors.specs.Naming.{after_renaming, renamed_at, after_renumbering, with_number, with_pipe}
use Rattle.sh_kernel_descriptors.specs.Opening.{for_reading, with_node}
use Rattle.sh_kernel_descriptors.specs.Copies.{copies, is_copied, of_process}
use Rattle.sh_kernel_processes.specs.Processes.{next_pid}
use Rattle.sh_kernel_descriptors.specs.declared.descriptor.Closing.TheVariants.{Named}
use Rattle.sh_kernel_descriptors.specs.declared.descriptor.Descriptor.{Descriptor}
use Rattle.sh_kernel_descriptors.specs.declared.descriptor.DescriptorRef.{DescriptorRef}
use Rattle.sh_kernel_descriptors.specs.declared.descriptor.DescriptorRef.TheVariants.{Number, Aside}
use Rattle.sh_kernel.specs.Laws.{IsOwned, OwnedStaysOwned}
use Rattle.sh_kernel.specs.Reaching.{reaches}
use Rattle.sh_kernel_machine.proofs.Closing.{true≢false}
use Rattle.sh_kernel.proofs.Closing.{filter_owned}
use Rattle.sh_kernel.proofs.Endings.{endings}
use Rattle.sh_kernel.proofs.Requesting.{by_cases}

not_reached : (ds : List Descriptor) (q pid : ℕ) (test : ℕ → Bool) → q ≢ pid → IsOwned pid test ds → reaches ds q test ≡ false
not_reached [] q pid test n own = refl
not_reached (d ∷ ds) q pid test n own = of_test (d.pid == q) (test d.description) refl refl (not_reached ds q pid test n own.1)
  where
    of_test : (a b : Bool) → (d.pid == q) ≡ a → test d.description ≡ b → reaches ds q test ≡ false → ((a && b) || reaches ds q test) ≡ false
    of_test true true e t rest = absurd (n (sym (eqb-true d.pid q e) ∙ own.0 t))
    of_test true false e t rest = rest
    of_test false b e t rest = rest

append_owned : (pid : ℕ) (test : ℕ → Bool) (xs ys : List Descriptor) → IsOwned pid test xs → IsOwned pid test ys → IsOwned pid test (xs ++ ys)
append_owned pid test [] ys h k = k
append_owned pid test (x ∷ xs) ys h k = (h.0, append_owned pid test xs ys h.1 k)

-- a child of another process has nothing of it either
copies_owned : (ds : List Descriptor) (q child pid : ℕ) (test : ℕ → Bool) → q ≢ pid → IsOwned pid test ds → IsOwned pid test (copies ds q child)
copies_owned [] q child pid test n own = tt
copies_owned (d ∷ ds) q child pid test n own = of_test (is_copied q d) refl (copies_owned ds q child pid test n own.1)
  where
    own_pid : (a b : Bool) → (a && b) ≡ true → a ≡ true
    own_pid true b h = refl
    own_pid false b h = absurd (cc)

    of_test : (b : Bool) → is_copied q d ≡ b → IsOwned pid test (copies ds q child) → IsOwned pid test (map (of_process child) (cond b (d ∷ filter (is_copied q) ds) (filter (is_copied q) ds)))
    of_test true e rest = (λ t. absurd (n (sym (eqb-true d.pid q (own_pid (d.pid == q) _ e)) ∙ own.0 t)), rest)
    of_test false e rest = rest

-- an entry of the same process and description in its place
set_owned : (ds : List Descriptor) (i : ℕ) (d : Descriptor) (number : Option ℕ) (pid : ℕ) (test : ℕ → Bool) → slice_get ds i ≡ Some d → IsOwned pid test ds → IsOwned pid test (slice_set ds i (record d { number = number }))
set_owned [] i d number pid test h own = tt
set_owned (y ∷ ds) zero d number pid test h own =
    let same : y ≡ d = cc in
    ((λ t. sym (ap (λ (z : Descriptor). z.pid) same) ∙ own.0 (ap (λ (z : Descriptor). test z.description) same ∙ t)), own.1)
set_owned (y ∷ ds) (suc i) d number pid test h own = (own.0, set_owned ds i d number pid test h own.1)

renamed_owned : (ds : List Descriptor) (q : ℕ) (name : DescriptorRef) (number : Option ℕ) (pid : ℕ) (test : ℕ → Bool) → IsOwned pid test ds → IsOwned pid test (after_renaming ds q name number)
renamed_owned ds q name number pid test own = of_place (position (is_named q name) ds)
  where
    of_entry : (i : ℕ) (o : Option Descriptor) → slice_get ds i ≡ o → IsOwned pid test (after_renumbering ds number i o)
    of_entry i None is = own
    of_entry i (Some d) is = set_owned ds i d number pid test is own

    of_place : (o : Option ℕ) → IsOwned pid test (renamed_at ds number o)
    of_place None = own
    of_place (Some i) = of_entry i (slice_get ds i) refl

-- a number of another process may refer to what doesn't pass
number_owned : (m : MachineState) (q number k pid : ℕ) (test : ℕ → Bool) → (test k ≡ true → ⊥) → IsOwned pid test m.descriptors → IsOwned pid test (with_number m q number k).descriptors
number_owned m q number k pid test fails own =
    append_owned pid test (descriptors_left q (Named (Number number)) m.descriptors) _ (filter_owned pid test _ m.descriptors own) (λ t. absurd (fails t), tt)

pub owned_stays : OwnedStaysOwned
owned_stays s pid q r test n within own =
    let m = s.machine in
    let unreached = not_reached m.descriptors q pid test n own in
    let new : test (length m.descriptions) ≡ true → ⊥ = λ t. omega (arith, within (length m.descriptions) t) in
    let newer : test (length m.descriptions + 1) ≡ true → ⊥ = λ t. omega (arith, within (length m.descriptions + 1) t) in (
      by_cases s q r (λ m'. IsOwned pid test m'.descriptors) (record {
        same = own;
        goes_on = λ k offset held. own;
        pipe = λ k pipe slot held end. own;
        file = λ k node start end bytes files held file written. own;
        closes = λ closing. filter_owned pid test _ m.descriptors own;
        signals = λ ps pids only signalled. (endings m ps pids).owned pid test own;
        numbers = λ number k held. number_owned m q number k pid test (λ t. true≢false (test k) t (held.fails test unreached)) own;
        renames = λ name number. renamed_owned m.descriptors q name number pid test own;
        back = λ k number. renamed_owned (descriptors_left q (Named (Number number)) m.descriptors) q (Aside k) (Some number) pid test (filter_owned pid test _ m.descriptors own);
        forks = append_owned pid test m.descriptors _ own (copies_owned m.descriptors q (next_pid m.processes) pid test n own);
        makes_pipe = λ from to.
            number_owned (with_number (with_pipe m) q from (length m.descriptions)) q to (length m.descriptions + 1) pid test newer (number_owned (with_pipe m) q from (length m.descriptions) pid test new own);
        opens = λ directory path how append number o is at. number_owned (with_node m how append o.0 o.1) q number (length m.descriptions) pid test new own;
        heres = λ bytes number o is at. number_owned (with_node m for_reading false o.0 o.1) q number (length m.descriptions) pid test new own;
      }),
      unreached,
    )
