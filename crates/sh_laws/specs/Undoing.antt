-- Redirections end (XCU 2.9.1, 2.15 exec) by requests of the shell's process, at most two for each, the newest first.
use Rattle.std.specs.Prelude.{List, [], ◌∷◌, ◌++◌, Bool, true, false}
use Rattle.sh_kernel_descriptors.specs.declared.descriptor.DescriptorRef.TheVariants.{Number}
use Rattle.sh_kernel.specs.Requests as request
use Rattle.sh_kernel.specs.Requests.{Request}
use Rattle.sh_exec_machine.specs.declared.undone.Undone.{Undone}
use Rattle.sh_exec_machine.specs.declared.undone.Undone.TheVariants.{Restore, Close}

-- what was set aside gets its number back, and a number that referred to nothing does so again; where the redirection stays, what was set
-- aside is closed, as the number 10
abbrev pub undoing_one : (stays : Bool) → Undone → List Request
undoing_one false (Restore aside number) = request.PutBack aside number ∷ []
undoing_one false (Close number) = request.Close (Number number) ∷ []
undoing_one true (Restore aside number) = request.PutBack aside 10 ∷ request.Close (Number 10) ∷ []
undoing_one true (Close number) = []

-- the list is in the order in which the redirections were made
abbrev pub undoing : (stay : Bool) → List Undone → List Request
undoing stay [] = []
undoing stay (u ∷ us) = undoing stay us ++ undoing_one stay u
