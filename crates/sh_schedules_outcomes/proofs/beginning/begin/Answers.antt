use Rattle.std.proofs.Common.{◌≡◌, Ok, Result, sym, ◌∙◌, subst}
use Rattle.sh_files.specs.Nodes.{FileMap}
use Rattle.sh_files_image.specs.declared.image_fault.ImageFault.{ImageFault}
use Rattle.sh_world.specs.World.{WorldStands}
use Rattle.sh_world.specs.State.{start}
use Rattle.sh_world.specs.Settings.{Settings}
use Rattle.sh_schedules_outcomes.proofs.beginning.begin.Goals as goal

same_files : (read : Result FileMap ImageFault) (a b : FileMap) → read ≡ Ok a → read ≡ Ok b → a ≡ b
same_files read a b x y = let e : ◌≡◌ {A = Result FileMap ImageFault} (Ok a) (Ok b) = sym x ∙ y in cc

-- the world is begun on the files that the image holds, and on a copy of the settings
pub returns-in-Ok-clause-stands : goal.returns-in-Ok-clause-stands
returns-in-Ok-clause-stands g c = λ files is.
    subst (λ (these : FileMap). WorldStands c.in-Ok.world (start these c.args.settings.now)) (same_files _ _ _ c.in_ok-files.ensures.read is)
    (subst (λ (those : Settings). WorldStands c.in-Ok.world (start c.in_ok-files.files those)) c.in_ok-settings.ensures c.in-Ok.ensures)
