-- What is wrong with an image, as it is told.
use Rattle.std.specs.Prelude.{ℕ, List, codes}
use Rattle.sh_files_image.specs.declared.image_fault.FaultKind.{FaultKind}
use Rattle.sh_files_image.specs.declared.image_fault.FaultKind.TheVariants.{BadHeader, BadLine, BadPath, NoParent, Duplicate, Truncated, TooLarge, Trailing, NoMemory}

abbrev pub name_of : FaultKind → List ℕ
name_of BadHeader = codes "BadHeader"
name_of BadLine = codes "BadLine"
name_of BadPath = codes "BadPath"
name_of NoParent = codes "NoParent"
name_of Duplicate = codes "Duplicate"
name_of Truncated = codes "Truncated"
name_of TooLarge = codes "TooLarge"
name_of Trailing = codes "Trailing"
name_of (NoMemory _) = codes "NoMemory"
