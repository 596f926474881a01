-- How what is kept changes at one key, or at one number of a pipe, as descriptors come and go.
use Rattle.std.specs.Prelude as prelude
use Rattle.std.specs.Prelude.{ℕ, ◌==◌, ◌&&◌, ◌+◌, ◌-◌, ◌++◌, List, [], ◌∷◌, map, filter, length, min, Bool, true, false, not, Option, Some, None, if◌then◌else◌, nat_le, position, slice_get, slice_set}
use Rattle.std.specs.List.{list_all}
use Rattle.std.specs.Option.{option_and_then, option_map, option_map_or}
use Rattle.slab.specs.Slab.{Slab, get}
use Rattle.sh_kernel_descriptors.specs.Descriptors.{is_named, reads_from, writes_to}
use Rattle.sh_kernel_descriptors.specs.declared.descriptor.DescriptorRef.{DescriptorRef}
use Rattle.sh_kernel_descriptors.specs.Closings as closings
use Rattle.sh_kernel_descriptors.specs.declared.description.Description.{Description}
use Rattle.sh_kernel_descriptors.specs.Kept.{other_at, target_at}
use Rattle.sh_kernel_descriptors.specs.Naming as naming
use Rattle.sh_kernel_descriptors.specs.Copies as fork_copies
use Rattle.sh_kernel_descriptors.specs.declared.descriptor.Closing.TheVariants.{Named}
use Rattle.sh_kernel_descriptors.specs.declared.descriptor.Descriptor.{Descriptor}
use Rattle.sh_kernel_descriptors.specs.declared.descriptor.DescriptorRef.TheVariants.{Number}
use Rattle.sh_kernel_descriptors.specs.declared.description.Target.{Target}
use Rattle.sh_kernel_descriptors.specs.declared.description.Target.TheVariants.{File, Terminal, Null, ReadEnd, WriteEnd}
use Rattle.sh_kernel_descriptors.specs.declared.descriptor.Closing.{Closing}
use Rattle.sh_kernel_descriptors.specs.declared.kept.Entry.{Entry}
use Rattle.sh_kernel_descriptors.specs.declared.kept.Held.{Held}

-- ---- one descriptor more at an entry, and one less
abbrev pub raised : Option Entry → Option Entry
raised None = None
raised (Some e) = Some (record e { count = min (e.count + 1) 18446744073709551615 })

abbrev pub lowered : Option Entry → Option Entry
lowered None = None
lowered (Some e) = if nat_le e.count 1 then None else Some (record e { count = e.count - 1 })

-- so many descriptors more can be counted
abbrev pub fits : ℕ → Option Entry → Bool
fits n None = true
fits n (Some e) = nat_le (e.count + n) 18446744073709551615

abbrev pub may_come : Slab Entry → List Held → Bool
may_come entries hs = list_all (λ h. fits (length hs) (get entries h.key)) hs

-- what is at a key after each of these descriptors came
abbrev pub shared : ℕ → List Held → Option Entry → Option Entry
shared key [] o = o
shared key (h ∷ hs) o = shared key hs (if h.key == key then raised o else o)

-- what is at a key after the closed ones of these descriptors went
abbrev pub closes : ℕ → Closing → ℕ → Held → Bool
closes pid closing key h = closings.goes pid closing h.descriptor && (h.key == key)

abbrev pub released : ℕ → Closing → ℕ → List Held → Option Entry → Option Entry
released pid closing key [] o = o
released pid closing key (h ∷ hs) o = released pid closing key hs (if closes pid closing key h then lowered o else o)

-- the descriptors that stay
abbrev pub stays : ℕ → Closing → Held → Bool
stays pid closing h = not (closings.goes pid closing h.descriptor)

abbrev pub held_left : ℕ → Closing → List Held → List Held
held_left pid closing hs = filter (stays pid closing) hs

-- what a fork copies
abbrev pub is_copied : ℕ → Held → Bool
is_copied pid h = fork_copies.is_copied pid h.descriptor

abbrev pub of_process : ℕ → Held → Held
of_process pid h = record h { descriptor = fork_copies.of_process pid h.descriptor }

abbrev pub copies : List Held → ℕ → ℕ → List Held
copies hs pid child = map (of_process child) (filter (is_copied pid) hs)

abbrev pub is_of_name : ℕ → DescriptorRef → Held → Bool
is_of_name pid name h = is_named pid name h.descriptor

-- a descriptor of a number, where the description of this number has this key
abbrev pub given : ℕ → ℕ → ℕ → ℕ → Held
given pid number k key = record { descriptor = record { pid = pid; number = Some number; description = k }; key = key }

-- the first descriptor of this name gets another number, or none
abbrev pub renumbered : List Held → Option ℕ → ℕ → Option Held → List Held
renumbered hs number i None = hs
renumbered hs number i (Some h) = slice_set hs i (record h { descriptor = record h.descriptor { number = number } })

abbrev pub renamed_at : List Held → Option ℕ → Option ℕ → List Held
renamed_at hs number None = hs
renamed_at hs number (Some i) = renumbered hs number i (slice_get hs i)

abbrev pub renamed : List Held → ℕ → DescriptorRef → Option ℕ → List Held
renamed hs pid name number = renamed_at hs number (position (is_of_name pid name) hs)

-- an entry's description has this offset now
abbrev pub moved : ℕ → Option Entry → Option Entry
moved offset None = None
moved offset (Some e) = Some (record e { description = record e.description { offset = offset } })

-- an end of a pipe has the key of the other end now
abbrev pub joined : ℕ → Option Entry → Option Entry
joined key None = None
joined key (Some e) = Some (record e { other = Some key })

-- the process's descriptor of this name
abbrev pub find : List Held → ℕ → DescriptorRef → Option Held
find hs pid name = option_map (λ h. h) (prelude.find (is_of_name pid name) hs)

-- ---- the ends of a pipe
abbrev pub is_read_end : ℕ → Option Target → Bool
is_read_end p target = option_map_or (λ t. reads_from p t) target false

abbrev pub is_write_end : ℕ → Option Target → Bool
is_write_end p target = option_map_or (λ t. writes_to p t) target false

-- what is open at the other end
abbrev pub other_target : Slab Entry → ℕ → Option Target
other_target entries key = option_and_then (λ k. target_at entries k) (other_at entries key)

abbrev pub is_reader : Slab Entry → ℕ → Held → Bool
is_reader entries p h = is_read_end p (target_at entries h.key)

abbrev pub is_writer : Slab Entry → ℕ → Held → Bool
is_writer entries p h = is_write_end p (target_at entries h.key)

-- ---- a pipe goes with the last descriptor that refers to one of its ends
-- one descriptor at most names the entry
abbrev pub is_last : Option Entry → Bool
is_last None = true
is_last (Some e) = nat_le e.count 1

abbrev pub ending_pipe : (last : Bool) → (is_open : Bool) → ℕ → Option ℕ
ending_pipe last is_open p = if last && not is_open then Some p else None

abbrev pub ending_of : (last : Bool) → (other : Option Target) → Option Target → Option ℕ
ending_of last other None = None
ending_of last other (Some (File node)) = None
ending_of last other (Some Terminal) = None
ending_of last other (Some Null) = None
ending_of last other (Some (ReadEnd p)) = ending_pipe last (is_write_end p other) p
ending_of last other (Some (WriteEnd p)) = ending_pipe last (is_read_end p other) p

-- the pipe that goes with one descriptor less at a key: it was the last one of an end, and the other end isn't open
abbrev pub ending : Slab Entry → ℕ → Option ℕ
ending entries key = ending_of (is_last (get entries key)) (other_target entries key) (target_at entries key)

abbrev pub is_pipe : ℕ → Option ℕ → Bool
is_pipe p o = option_map_or (λ q. q == p) o false

-- the descriptor is closed, and takes the pipe along
abbrev pub takes : ℕ → Closing → Slab Entry → ℕ → Held → Bool
takes pid closing entries p h = closings.goes pid closing h.descriptor && is_pipe p (ending entries h.key)

-- ---- a new pipe
abbrev pub with_ends : ℕ → List Description → List Description
with_ends p es = es ++ naming.end_of (ReadEnd p) true ∷ naming.end_of (WriteEnd p) false ∷ []

abbrev pub with_new : closings.Pipes → closings.Pipes
with_new ps = ps ++ Some (record { bytes = []; capacity = 4096 }) ∷ []

abbrev pub first_listed : ℕ → ℕ → ℕ → List Descriptor → List Descriptor
first_listed pid from k ds = closings.descriptors_left pid (Named (Number from)) ds ++ record { pid = pid; number = Some from; description = k } ∷ []

abbrev pub ends_listed : ℕ → ℕ → ℕ → ℕ → List Descriptor → List Descriptor
ends_listed pid from to k ds = closings.descriptors_left pid (Named (Number to)) (first_listed pid from k ds) ++ record { pid = pid; number = Some to; description = k + 1 } ∷ []

abbrev pub ends_pipes : ℕ → ℕ → ℕ → ℕ → List Descriptor → List Description → closings.Pipes → closings.Pipes
ends_pipes pid from to k ds es ps = closings.pipes_left pid (Named (Number to)) (first_listed pid from k ds) es (closings.pipes_left pid (Named (Number from)) ds es ps)
