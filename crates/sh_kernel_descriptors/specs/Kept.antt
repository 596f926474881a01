-- What is kept of descriptors, open file descriptions and pipes: those that are referred to. All that were ever made are
-- listed by number; what is kept agrees with these lists on all that descriptors name.
use Rattle.std.specs.Prelude.{◌≡◌, ◌<◌, ◌⊎◌, ℕ, zero, suc, ◌==◌, List, [], ◌∷◌, false, ⊤, Option, Some, None, if◌then◌else◌, slice_get}
use Rattle.std.specs.Option.{option_map, option_and_then}
use Rattle.std.specs.Ordering.{nat_cmp}
use Rattle.std.specs.BTreeMap.{is_at}
use Rattle.std.specs.Map.{lookup}
use Rattle.slab.specs.Slab.{Slab}
use Rattle.slab.specs.Slab as slab
use Rattle.sh_pipe.specs.Pipe.{PipeState}
use Rattle.sh_kernel_descriptors.specs.Closings.{Pipes, pipe_of}
use Rattle.sh_kernel_descriptors.specs.declared.descriptor.Descriptor.{Descriptor}
use Rattle.sh_kernel_descriptors.specs.declared.description.Description.{Description}
use Rattle.sh_kernel_descriptors.specs.declared.description.Target.{Target}
use Rattle.sh_kernel_descriptors.specs.declared.description.Target.TheVariants.{ReadEnd, WriteEnd}
use Rattle.sh_kernel_descriptors.specs.declared.kept.Entry.{Entry}
use Rattle.sh_kernel_descriptors.specs.declared.kept.Held.{Held}

-- the descriptors without the keys of their entries
abbrev pub listed : List Held → List Descriptor
listed [] = []
listed (h ∷ hs) = h.descriptor ∷ listed hs

abbrev pub Among : Held → List Held → Type 0
Among h [] = ⊥
Among h (g ∷ gs) = (g ≡ h) ⊎ Among h gs

abbrev pub Within : List Held → List Held → Type 0
Within hs all = (h : Held) → Among h hs → Among h all

-- none of these descriptors is this process's
abbrev pub NoneOf : ℕ → List Held → Type 0
NoneOf pid [] = ⊤
NoneOf pid (h ∷ hs) = ((h.descriptor.pid == pid) ≡ false) × NoneOf pid hs

-- ---- counts
-- how many descriptors, numbered or set aside, name the entry of a key
abbrev pub named : ℕ → List Held → ℕ
named key [] = 0
named key (h ∷ hs) = if h.key == key then suc (named key hs) else named key hs

-- the count of an entry that so many descriptors name: without one there is no entry
abbrev pub count_of : ℕ → Option ℕ
count_of zero = None
count_of (suc n) = Some (suc n)

-- each entry's count is the number of descriptors that name it, and there is no entry without one
abbrev pub IsCounted : Slab Entry → List Held → Type 0
IsCounted entries hs = (key : ℕ) → option_map (λ e. e.count) (slab.get entries key) ≡ count_of (named key hs)

-- ---- what is kept, and all that was ever made
abbrev pub description_at : Slab Entry → ℕ → Option Description
description_at entries key = option_map (λ e. e.description) (slab.get entries key)

-- the entry that a descriptor names has the description of its number; and two descriptors name one entry where their
-- descriptions have one number
pub record Linked (hs : List Held) (entries : Slab Entry) (es : List Description) : Type 0 where
  pub descriptions : (h : Held) → Among h hs → description_at entries h.key ≡ slice_get es h.descriptor.description
  pub keys : (h i : Held) → Among h hs → Among i hs → (h.key == i.key) ≡ (h.descriptor.description == i.descriptor.description)

-- ---- the ends of pipes
abbrev pub target_at : Slab Entry → ℕ → Option Target
target_at entries key = option_map (λ e. e.target) (description_at entries key)

abbrev pub other_at : Slab Entry → ℕ → Option ℕ
other_at entries key = option_and_then (λ e. e.other) (slab.get entries key)

-- what is open at a key, and the key of the other end
abbrev pub end_at : Slab Entry → ℕ → Option (Target × Option ℕ)
end_at entries key = option_map (λ e. (e.description.target, e.other)) (slab.get entries key)

-- where both ends of a pipe are kept, each has the key of the other; no end is kept under two keys; and so many pipes were ever made
pub record IsPaired (made : ℕ) (entries : Slab Entry) : Type 0 where
  pub keys : (pipe reads writes : ℕ) (o o' : Option ℕ) → end_at entries reads ≡ Some (ReadEnd pipe, o) → end_at entries writes ≡ Some (WriteEnd pipe, o') → (o ≡ Some writes) × (o' ≡ Some reads)
  pub reads : (pipe k j : ℕ) (o o' : Option ℕ) → end_at entries k ≡ Some (ReadEnd pipe, o) → end_at entries j ≡ Some (ReadEnd pipe, o') → k ≡ j
  pub writes : (pipe k j : ℕ) (o o' : Option ℕ) → end_at entries k ≡ Some (WriteEnd pipe, o) → end_at entries j ≡ Some (WriteEnd pipe, o') → k ≡ j
  pub numbers : (pipe key : ℕ) (target : Target) (o : Option ℕ) → end_at entries key ≡ Some (target, o) → pipe_of target ≡ Some pipe → pipe < made

-- ---- pipes
-- the pipes that are left, by number
abbrev pub pipe_kept : List (ℕ × PipeState) → ℕ → Option PipeState
pipe_kept pipes p = lookup (is_at (nat_cmp p)) pipes

-- the pipe of which the description at a key is an end
abbrev pub number_at : Slab Entry → ℕ → Option ℕ
number_at entries key = option_and_then (λ e. pipe_of e.target) (description_at entries key)

abbrev pub pipe_at : Slab Entry → List (ℕ × PipeState) → ℕ → Option PipeState
pipe_at entries pipes key = option_and_then (λ p. pipe_kept pipes p) (number_at entries key)

abbrev pub pipe_made : Pipes → ℕ → Option PipeState
pipe_made ps p = option_and_then (λ slot. slot) (slice_get ps p)

abbrev pub PipesAgree : List (ℕ × PipeState) → Pipes → Type 0
PipesAgree pipes ps = (p : ℕ) → pipe_kept pipes p ≡ pipe_made ps p
