-- Descriptors of a table that were closed one after another.
use Rattle.std.specs.Prelude.{◌≡◌, ℕ, ◌&&◌, ◌++◌, List, Bool, not, None, Some, if◌then◌else◌}
use Rattle.std.specs.List.{list_any}
use Rattle.slab.specs.Slab.{HasRoomFor, Slab, Updates, get}
use Rattle.sh_pipe.specs.Pipe.{PipeState}
use Rattle.sh_kernel_descriptors.specs.Closings as closings
use Rattle.sh_kernel_descriptors.specs.Counts.{held_left, is_pipe, released}
use Rattle.sh_kernel_descriptors.specs.Kept.{IsCounted, IsPaired, Linked, pipe_kept}
use Rattle.sh_kernel_descriptors.specs.declared.descriptor.Closing.{Closing}
use Rattle.sh_kernel_descriptors.specs.declared.descriptor.Closing.TheVariants.{Named}
use Rattle.sh_kernel_descriptors.specs.declared.descriptor.DescriptorRef.TheVariants.{Number}
use Rattle.sh_kernel_descriptors.specs.declared.description.Description.{Description}
use Rattle.sh_kernel_descriptors.specs.declared.kept.Entry.{Entry}
use Rattle.sh_kernel_descriptors.specs.declared.kept.Held.{Held}

-- the descriptor refers to an end of the pipe
abbrev pub is_end : List Description → ℕ → Held → Bool
is_end es p h = closings.is_end es p h.descriptor

-- and it is closed
abbrev pub is_closed_end : ℕ → Closing → List Description → ℕ → Held → Bool
is_closed_end pid closing es p h = closings.goes pid closing h.descriptor && is_pipe p (closings.pipe_at es h.descriptor.description)

-- these were gone through, whatever other descriptors there are: a pipe has gone where one that was closed referred to an end of it, and
-- none that stays does
pub record Gone (pid : ℕ) (closing : Closing) (hs : List Held) (old new : Slab Entry) (pipes pipes' : List (ℕ × PipeState)) : Type 0 where
  pub at : (k : ℕ) → get new k ≡ released pid closing k hs (get old k)
  pub room : (n : ℕ) → HasRoomFor old n → HasRoomFor new n
  pub left : (more : List Held) (made : ℕ) (es : List Description) → IsPaired made old → IsCounted old (more ++ hs) → Linked (more ++ hs) old es → (p : ℕ)
      → pipe_kept pipes' p ≡ (if list_any (is_closed_end pid closing es p) hs && not (list_any (is_end es p) (more ++ held_left pid closing hs)) then None else pipe_kept pipes p)

-- a description came under a key that was free, after what the number referred to was closed
pub record Added (pid number : ℕ) (hs : List Held) (old new : Slab Entry) (key : ℕ) (e : Entry) : Type 0 where
  pub between : Slab Entry
  pub gone : (k : ℕ) → get between k ≡ released pid (Named (Number number)) k hs (get old k)
  pub free : get between key ≡ None
  pub updates : Updates between new key (Some e)
