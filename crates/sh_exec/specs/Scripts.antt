-- The script that a shell is given as its operand (the page of sh): the text of its file, which need not be executable.
use Rattle.std.specs.Prelude.{ℕ, List, [], codes, Option, Some, None, if◌then◌else◌}
use Rattle.sh_exec_actions.specs.Statuses as statuses
use Rattle.sh_exec_parts.specs.Messages.{cannot_execute, message, not_found}
use Rattle.sh_exec_actions.specs.declared.action.Finish.TheVariants.{Fault}
use Rattle.sh_exec_actions.specs.declared.action.Action.{Action}
use Rattle.sh_exec_actions.specs.declared.action.Action.TheVariants.{Reading, Writing}
use Rattle.sh_files.specs.Nodes.{FileMap, node_of_path}
use Rattle.sh_files.specs.Search.{may_be_read}
use Rattle.sh_files_image.specs.declared.node.Node.{Node}
use Rattle.sh_files_image.specs.declared.node.Node.TheVariants.{Directory, File, Null, Terminal}

abbrev pub missing : List ℕ → Action
missing path = Writing (message (not_found path)) (Fault statuses.not_found)

abbrev pub unreadable : List ℕ → Action
unreadable path = Writing (message (cannot_execute path)) (Fault statuses.cannot_execute)

-- /dev/null is an empty script
abbrev pub place_by : List ℕ → Option Node → Action
place_by path None = missing path
place_by path (Some Directory) = unreadable path
place_by path (Some (File file)) = if may_be_read file then Reading file.bytes 0 else unreadable path
place_by path (Some Null) = Reading [] 0
place_by path (Some Terminal) = unreadable path

-- the path goes from the root, the first shell's working directory
unfoldable pub script_place : FileMap → List ℕ → Action
script_place files path = place_by path (node_of_path files (codes "/") path)
