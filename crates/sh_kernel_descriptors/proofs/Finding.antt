-- A descriptor that is found in the list.
use Rattle.std.proofs.Common.{◌≡◌, ℕ, List, [], ◌∷◌, Bool, true, false, cond, Some, refl, inl, inr}
use Rattle.std.specs.Prelude as prelude
use Rattle.std.specs.Option.{option_map}
use Rattle.sh_kernel_descriptors.specs.Counts as counts
use Rattle.sh_kernel_descriptors.specs.Descriptors as names
use Rattle.sh_kernel_descriptors.specs.Kept.{Among, listed}
use Rattle.sh_kernel_descriptors.specs.declared.descriptor.Descriptor.{Descriptor}
use Rattle.sh_kernel_descriptors.specs.declared.descriptor.DescriptorRef.{DescriptorRef}
use Rattle.sh_kernel_descriptors.specs.declared.kept.Held.{Held}

pub found_number : (hs : List Held) (pid : ℕ) (name : DescriptorRef) → option_map (λ h. h.descriptor.description) (counts.find hs pid name) ≡ names.description_number (listed hs) pid name
found_number [] pid name = refl
found_number (h ∷ hs) pid name = of_test (counts.is_of_name pid name h) (found_number hs pid name)
  where
    of_test : (b : Bool) → option_map (λ (x : Held). x.descriptor.description) (counts.find hs pid name) ≡ names.description_number (listed hs) pid name
        → option_map (λ (x : Held). x.descriptor.description) (option_map (λ (x : Held). x) (cond b (Some h) (prelude.find (counts.is_of_name pid name) hs))) ≡ option_map (λ (x : Descriptor). x.description) (cond b (Some h.descriptor) (prelude.find (names.is_named pid name) (listed hs)))
    of_test true e = refl
    of_test false e = e

pub found_among : (hs : List Held) (pid : ℕ) (name : DescriptorRef) (g : Held) → counts.find hs pid name ≡ Some g → Among g hs
found_among [] pid name g e = absurd (cc)
found_among (h ∷ hs) pid name g e = of_test (counts.is_of_name pid name h) (found_among hs pid name g) e
  where
    of_test : (b : Bool) → (counts.find hs pid name ≡ Some g → Among g hs) → option_map (λ (x : Held). x) (cond b (Some h) (prelude.find (counts.is_of_name pid name) hs)) ≡ Some g → Among g (h ∷ hs)
    of_test true f t = inl (cc)
    of_test false f t = inr (f t)
