-- A copy of a machine keeps the same; how many more entries it has room for doesn't matter.
use Rattle.std.proofs.Common.{◌≡◌, ℕ, List, [], ◌∷◌, ◌++◌, refl, sym, ap, subst, ◌∙◌}
use Rattle.std.specs.Prelude.{Vec, vec_len}
use Rattle.std.specs.List.{AllZip, each_same}
use Rattle.slab.specs.Slab.{Slab}
use Rattle.sh_kernel_descriptors.specs.Kept.{IsCounted, IsPaired, listed}
use Rattle.sh_kernel_descriptors.specs.declared.kept.Entry.{Entry}
use Rattle.sh_kernel_descriptors.specs.declared.kept.Held.{Held}
use Rattle.sh_kernel_machine.specs.Tables.{AreOwn, held_in, own}

-- ---- tables
module _ {Y : Type 0} where
  -- the second is a copy of the first table, under the same number
  abbrev pub IsTable : ℕ × Vec Held Y → ℕ × Vec Held Y → Type 0
  IsTable e f = (f.0 ≡ e.0) × (AllZip (λ (x y : Held). y ≡ x) e.1.items f.1.items × (vec_len f.1 ≡ vec_len e.1))

  pub held_copied : (es fs : List (ℕ × Vec Held Y)) → AllZip IsTable es fs → held_in fs ≡ held_in es
  held_copied [] [] z = refl
  held_copied [] (f ∷ fs) z = absurd z
  held_copied (e ∷ es) [] z = absurd z
  held_copied (e ∷ es) (f ∷ fs) z = ap (λ hs. hs ++ held_in fs) (each_same e.1.items f.1.items z.0.1.0) ∙ ap (λ hs. e.1.items ++ hs) (held_copied es fs z.1)

  pub own_copied : (es fs : List (ℕ × Vec Held Y)) → AllZip IsTable es fs → AreOwn es → AreOwn fs
  own_copied [] [] z o = o
  own_copied [] (f ∷ fs) z o = absurd z
  own_copied (e ∷ es) [] z o = absurd z
  own_copied (e ∷ es) (f ∷ fs) z o = (ap (λ pid. own pid (listed f.1.items)) z.0.0 ∙ ap (λ hs. own e.0 (listed hs)) same ∙ o.0 ∙ ap (λ hs. listed hs) (sym same), own_copied es fs z.1 o.1)
    where
      same : f.1.items ≡ e.1.items
      same = each_same e.1.items f.1.items z.0.1.0

-- ---- entries with another room
paired_copied : (made : ℕ) (entries : Slab Entry) (n : ℕ) → IsPaired made entries → IsPaired made (record entries { capacity = n })
paired_copied made entries n p = record { keys = p.keys; reads = p.reads; writes = p.writes; numbers = p.numbers }

pub kept_copied : (entries copy : Slab Entry) (hs is : List Held) (made made' : ℕ) → copy ≡ record entries { capacity = copy.capacity } → is ≡ hs → made' ≡ made → IsCounted entries hs → IsPaired made entries
    → IsCounted copy is × IsPaired made' copy
kept_copied entries copy hs is made made' e h m c p = (
  subst (λ s. IsCounted s is) (sym e) (subst (λ xs. IsCounted entries xs) (sym h) c),
  subst (λ s. IsPaired made' s) (sym e) (subst (λ k. IsPaired k (record entries { capacity = copy.capacity })) (sym m) (paired_copied made entries copy.capacity p)),
)
