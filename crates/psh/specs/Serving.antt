-- What the program does with an image and events: what it writes, and its exit status.
use Rattle.std.specs.Prelude.{◌≡◌, ◌⊎◌, ℕ, Bool, List, [], ◌∷◌, ◌++◌, Ok, Err, codes, decimal, take}
use Rattle.sh_files.specs.Image.{read_image}
use Rattle.sh_files.specs.Nodes.{FileMap}
use Rattle.sh_files_image.specs.Faults.{name_of}
use Rattle.sh_files_image.specs.declared.image_fault.ImageFault.{ImageFault}
use Rattle.sh_stock.specs.Asking.{Meaning}
use Rattle.sh_exec.specs.State.{run, start, terminal_of}
use Rattle.sh_exec.specs.declared.event.Event.{Event}
use Rattle.sh_exec.specs.declared.settings.Settings.{Settings}
use Rattle.psh_common.specs.Events.{each_event, events_of}
use Rattle.psh_common.specs.declared.events.EventFault.TheVariants.{BadEvent}
use Rattle.psh.specs.Report.{shown_text}
use Rattle.psh_common.specs.declared.events.Turns.{Turns}

-- why an input is refused: what is wrong, and in which line
abbrev pub refusal : List ℕ → ℕ → List ℕ
refusal name line = codes "psh: " ++ name ++ codes ": line " ++ decimal line ++ 10 ∷ []

-- what is said where memory is wanting: one line, which is dropped where there is no memory for it either
abbrev pub SaysLack : List ℕ → List ℕ → Type 0
SaysLack old new = (new ≡ old ++ codes "psh: out of memory\n") ⊎ (new ≡ old)

-- the events of a run
abbrev pub events_by : List Turns → List Event
events_by all = each_event all

-- the image and the events are in order, and this is what they hold
pub record AreRead (image events : List ℕ) (files : FileMap) (all : List Turns) : Type 0 where
  pub image_is : read_image image ≡ Ok files
  pub events_are : events_of events ≡ Ok all

-- the output grew by the terminal's bytes after all events, and by the report of the state then where that is asked for
abbrev pub Shows : {S : Type 0} → Meaning S → (report : Bool) → FileMap → Settings → List Turns → List ℕ → List ℕ → Type 0
Shows m report files settings all old new = new ≡ old ++ shown_text report (run m (start files settings) (events_by all))

-- it grew by the terminal's bytes after some of the events, or by nothing
pub data ShowsSome {S : Type 0} (m : Meaning S) (files : FileMap) (settings : Settings) (all : List Turns) (old new : List ℕ) : Type 0 where
  nothing_shown : new ≡ old → ShowsSome m files settings all old new
  some_shown : (j : ℕ) → new ≡ old ++ terminal_of (run m (start files settings) (take j (events_by all))) → ShowsSome m files settings all old new

-- status 0: the run is done
pub record WasRun {S : Type 0} (m : Meaning S) (report : Bool) (image events : List ℕ) (settings : Settings) (old new : List ℕ) : Type 0 where
  pub files : FileMap
  pub all : List Turns
  pub read : AreRead image events files all
  pub shown : Shows m report files settings all old new

-- status 3: memory was wanting, before anything was shown or in the run
pub data WasCut {S : Type 0} (m : Meaning S) (image events : List ℕ) (settings : Settings) (old new : List ℕ) : Type 0 where
  cut_before : new ≡ old → WasCut m image events settings old new
  cut_within : (files : FileMap) (all : List Turns) → AreRead image events files all → ShowsSome m files settings all old new → WasCut m image events settings old new

-- status 1: the image is refused, or it is in order and a line is no event; the fault is told by its name and its line
pub data WasRefused (image events old new : List ℕ) : Type 0 where
  image_refused : (fault : ImageFault) → read_image image ≡ Err fault → new ≡ old ++ refusal (name_of fault.kind) fault.line → WasRefused image events old new
  events_refused : (files : FileMap) (line : ℕ) → read_image image ≡ Ok files → events_of events ≡ Err (BadEvent line) → new ≡ old ++ refusal (codes "BadEvent") line
      → WasRefused image events old new
