-- Why there is no exploration.
use Rattle.std.specs.Prelude.{◌≡◌, ◌≢◌, ℕ, List, Err}
use Rattle.sh_files.specs.Image.{read_image}
use Rattle.sh_files_image.specs.declared.image_fault.ImageFault.{ImageFault}
use Rattle.sh_schedules_outcomes.specs.declared.fault.ExploreFault.{ExploreFault}
use Rattle.sh_schedules_outcomes.specs.declared.fault.ExploreFault.TheVariants.{Image, TooMany}

-- if it says that the image is refused, the image is refused with this fault
abbrev pub IsRefusedImage : List ℕ → ExploreFault → Type 0
IsRefusedImage image fault = (f : ImageFault) → fault ≡ Image f → read_image image ≡ Err f

-- the same, of a call that doesn't try all schedules; it never says that there are too many
abbrev pub IsRefusal : List ℕ → ExploreFault → Type 0
IsRefusal image fault = IsRefusedImage image fault × (fault ≢ TooMany)
