-- The image of files: the line `psh image 1`, a line for each directory and file, and the line `end`.
use Rattle.std.specs.Prelude.{ℕ, suc, zero, ◌+◌, List, [], ◌∷◌, ◌&&◌, ◌==◌, not, Bool, true, false, if◌then◌else◌, is_some, Option, Some, None, Result, Ok, Err, codes, length, nat_le, nat_lt, take, slice_get, unwrap_or}
use Rattle.std.specs.Str.{bytes_eq}
use Rattle.std.specs.FinMap.{get}
use Rattle.sh_files_image.specs.Fields.{behind, file_fields, line_before, line_of, newlines}
use Rattle.sh_files_image.specs.Paths.{is_image_path, parent}
use Rattle.sh_files.specs.Nodes.{FileMap, node_at, with_new, starting}
use Rattle.sh_files_image.specs.declared.node.Flags.{Flags}
use Rattle.sh_files_image.specs.declared.node.Node.{Node}
use Rattle.sh_files_image.specs.declared.node.Node.TheVariants.{Directory, File, Null, Terminal}
use Rattle.sh_files_image.specs.declared.image_fault.FaultKind.{FaultKind}
use Rattle.sh_files_image.specs.declared.image_fault.FaultKind.TheVariants.{BadHeader, BadLine, BadPath, NoParent, Duplicate, Truncated, TooLarge, Trailing, NoMemory}
use Rattle.sh_files.specs.declared.image.Stop.{Stop}
use Rattle.sh_files_image.specs.declared.image_fault.ImageFault.{ImageFault}

-- ---- one line
abbrev pub is_directory : Option Node → Bool
is_directory None = false
is_directory (Some Directory) = true
is_directory (Some (File file)) = false
is_directory (Some Null) = false
is_directory (Some Terminal) = false

-- what is wrong with naming a path
abbrev pub path_fault : FileMap → List ℕ → Option FaultKind
path_fault files path =
    if not (is_image_path path) then Some BadPath
    else if not (is_directory (node_at files (parent path))) then Some NoParent
    else if is_some (get files.paths path) then Some Duplicate
    else None

-- a node at a path, unless something is wrong
abbrev pub node_entry : FileMap → List ℕ → Node → ℕ → Option FaultKind → Result (FileMap × ℕ) FaultKind
node_entry files path node used None = Ok (with_new files path node, used)
node_entry files path node used (Some kind) = Err kind

-- a file's bytes and the newline after them
abbrev pub content_fault : ℕ → Option ℕ → Option FaultKind
content_fault size None = Some Truncated
content_fault size (Some byte) = if byte == 10 then None else Some BadLine

abbrev pub first_fault : Option FaultKind → Option FaultKind → Option FaultKind
first_fault (Some kind) next = Some kind
first_fault None next = next

abbrev pub file_entry : FileMap → List ℕ → List ℕ → Flags → Option ℕ → Result (FileMap × ℕ) FaultKind
file_entry files after path flags None = Err (unwrap_or (path_fault files path) TooLarge)
file_entry files after path flags (Some size) =
    node_entry files path (File (record { flags = flags; bytes = take size after })) (size + 1)
    (first_fault (path_fault files path) (content_fault size (slice_get after size)))

abbrev pub by_file : FileMap → List ℕ → Option (List ℕ × (Flags × Option ℕ)) → Result (FileMap × ℕ) FaultKind
by_file files after None = Err BadLine
by_file files after (Some f) = file_entry files after f.0 f.1.0 f.1.1

abbrev pub not_directory : FileMap → List ℕ → Option (List ℕ) → Result (FileMap × ℕ) FaultKind
not_directory files after None = Err BadLine
not_directory files after (Some fields) = by_file files after (file_fields fields)

abbrev pub by_directory : FileMap → List ℕ → List ℕ → Option (List ℕ) → Result (FileMap × ℕ) FaultKind
by_directory files line after (Some path) = node_entry files path Directory 0 (path_fault files path)
by_directory files line after None = not_directory files after (behind (codes "file ") line)

-- the files after a line, and how many of the bytes after the line belong to it
abbrev pub entry : FileMap → List ℕ → List ℕ → Result (FileMap × ℕ) FaultKind
entry files line after = by_directory files line after (behind (codes "dir ") line)

-- ---- all lines
abbrev pub files_at_end : FileMap → List ℕ → Result FileMap Stop
files_at_end files [] = Ok files
files_at_end files (b ∷ bs) = Err (record { kind = Trailing; left = length (b ∷ bs) })

abbrev pub behind_entry : ℕ → ℕ → Result (FileMap × ℕ) FaultKind → (FileMap → ℕ → Result FileMap Stop) → Result FileMap Stop
behind_entry left size (Ok p) next = next p.0 (size + p.1)
behind_entry left size (Err kind) next = Err (record { kind = kind; left = left })

abbrev pub by_line : FileMap → List ℕ → Option (List ℕ × List ℕ) → (FileMap → ℕ → Result FileMap Stop) → Result FileMap Stop
by_line files rest None next = Err (record { kind = Truncated; left = length rest })
by_line files rest (Some p) next =
    if bytes_eq p.0 (codes "end") then files_at_end files p.1
    else behind_entry (length rest) (length p.0) (entry files p.0 p.1) next

-- the lines after so many bytes
abbrev pub entries : FileMap → ℕ → List ℕ → Result FileMap Stop
entries files skip [] = Err (record { kind = Truncated; left = 0 })
entries files (suc skip) (b ∷ bs) = entries files skip bs
entries files zero (b ∷ bs) = by_line files (b ∷ bs) (line_of (b ∷ bs)) (λ after used. entries after used bs)

abbrev pub by_header : List ℕ → Option (List ℕ × List ℕ) → Result FileMap Stop
by_header bytes None = Err (record { kind = Truncated; left = length bytes })
by_header bytes (Some p) =
    if bytes_eq p.0 (codes "psh image 1") then entries starting 0 p.1
    else Err (record { kind = BadHeader; left = length bytes })

abbrev pub numbered_line : List ℕ → Result FileMap Stop → Result FileMap ImageFault
numbered_line bytes (Ok files) = Ok files
numbered_line bytes (Err stop) = Err (record { kind = stop.kind; line = line_before bytes stop.left })

-- an image of at most 2^28 bytes
abbrev pub image_of : List ℕ → Result FileMap ImageFault
image_of bytes = numbered_line bytes (by_header bytes (line_of bytes))

-- ---- images that are too long
-- the image ends too early
abbrev pub is_cut : FaultKind → Bool
is_cut BadHeader = false
is_cut BadLine = false
is_cut BadPath = false
is_cut NoParent = false
is_cut Duplicate = false
is_cut Truncated = true
is_cut TooLarge = false
is_cut Trailing = false
is_cut (NoMemory _) = false

-- the fault is in a line before this one, and isn't that the image ends too early
abbrev pub stands : ImageFault → ℕ → Bool
stands fault line = not (is_cut fault.kind) && nat_lt fault.line line

abbrev pub beyond : ℕ → Result FileMap ImageFault → Result FileMap ImageFault
beyond line (Ok files) = Err (record { kind = TooLarge; line = line })
beyond line (Err fault) = if stands fault line then Err fault else Err (record { kind = TooLarge; line = line })

-- an image has at most 2^28 bytes; the line of the first byte beyond is too large if no line before has a fault
abbrev pub read_image : List ℕ → Result FileMap ImageFault
read_image bytes =
    if nat_le (length bytes) 268435456 then image_of bytes
    else beyond (1 + newlines (take 268435456 bytes)) (image_of (take 268435456 bytes))
