-- Closing descriptors (XSH close): a pipe goes with the last descriptor that refers to one of its ends.
use Rattle.std.specs.Prelude.{ℕ, ◌==◌, ◌&&◌, ◌||◌, List, [], ◌∷◌, filter, Bool, not, Option, Some, None, is_none, if◌then◌else◌, slice_get, slice_set}
use Rattle.std.specs.List.{list_any}
use Rattle.std.specs.Option.{option_and_then}
use Rattle.sh_pipe.specs.Pipe.{PipeState}
use Rattle.sh_kernel_descriptors.specs.Descriptors.{is_named, is_reader, is_writer}
use Rattle.sh_kernel_descriptors.specs.declared.descriptor.Descriptor.{Descriptor}
use Rattle.sh_kernel_descriptors.specs.declared.descriptor.Closing.{Closing}
use Rattle.sh_kernel_descriptors.specs.declared.descriptor.Closing.TheVariants.{Named, Asides, All}
use Rattle.sh_kernel_descriptors.specs.declared.description.Description.{Description}
use Rattle.sh_kernel_descriptors.specs.declared.description.Target.{Target}
use Rattle.sh_kernel_descriptors.specs.declared.description.Target.TheVariants.{File, Terminal, Null, ReadEnd, WriteEnd}

-- the descriptor is closed
abbrev pub goes : ℕ → Closing → Descriptor → Bool
goes pid (Named name) d = is_named pid name d
goes pid Asides d = (d.pid == pid) && is_none d.number
goes pid All d = d.pid == pid

abbrev pub stays : ℕ → Closing → Descriptor → Bool
stays pid closing d = not (goes pid closing d)

-- the pipe of which this is an end
abbrev pub pipe_of : Target → Option ℕ
pipe_of (File node) = None
pipe_of Terminal = None
pipe_of Null = None
pipe_of (ReadEnd pipe) = Some pipe
pipe_of (WriteEnd pipe) = Some pipe

abbrev pub pipe_at : List Description → ℕ → Option ℕ
pipe_at es k = option_and_then (λ e. pipe_of e.target) (slice_get es k)

abbrev pub is_end : List Description → ℕ → Descriptor → Bool
is_end es pipe d = is_reader es pipe d || is_writer es pipe d

-- some descriptor that stays refers to an end of the pipe
abbrev pub holds : ℕ → Closing → List Description → ℕ → Descriptor → Bool
holds pid closing es pipe d = stays pid closing d && is_end es pipe d

abbrev pub is_held : ℕ → Closing → List Descriptor → List Description → ℕ → Bool
is_held pid closing ds es pipe = list_any (holds pid closing es pipe) ds

-- all pipes ever made, each at its number; `None` where the pipe is gone
abbrev pub Pipes : Type 0
Pipes = List (Option PipeState)

abbrev pub let_go_pipe : ℕ → Closing → List Descriptor → List Description → Pipes → ℕ → Pipes
let_go_pipe pid closing ds es ps pipe = if is_held pid closing ds es pipe then ps else slice_set ps pipe None

abbrev pub let_go : ℕ → Closing → List Descriptor → List Description → Pipes → Option ℕ → Pipes
let_go pid closing ds es ps None = ps
let_go pid closing ds es ps (Some pipe) = let_go_pipe pid closing ds es ps pipe

abbrev pub let_go_of : ℕ → Closing → List Descriptor → List Description → Pipes → Descriptor → Pipes
let_go_of pid closing ds es ps d = if goes pid closing d then let_go pid closing ds es ps (pipe_at es d.description) else ps

-- the pipes after this part of the descriptors was gone through: the closed ones take their pipes along
abbrev pub let_go_each : ℕ → Closing → List Descriptor → List Description → Pipes → List Descriptor → Pipes
let_go_each pid closing ds es ps [] = ps
let_go_each pid closing ds es ps (d ∷ gone) = let_go_each pid closing ds es (let_go_of pid closing ds es ps d) gone

-- the descriptors and the pipes that are left
abbrev pub descriptors_left : ℕ → Closing → List Descriptor → List Descriptor
descriptors_left pid closing ds = filter (stays pid closing) ds

abbrev pub pipes_left : ℕ → Closing → List Descriptor → List Description → Pipes → Pipes
pipes_left pid closing ds es ps = let_go_each pid closing ds es ps ds
