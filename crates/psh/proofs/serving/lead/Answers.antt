use Rattle.sh_world.specs.World.{shown_of}
use Rattle.psh_common.specs.Events.{each_event}
use Rattle.psh.proofs.Driving.{shows_all, shows_part}
use Rattle.psh.proofs.serving.lead.Goals as goal

-- the terminal after all turns is shown, or nothing
pub returns-in-Err-shown-clause-cut : goal.returns-in-Err-shown-clause-cut
returns-in-Err-shown-clause-cut g c = λ s h e.
    shows_all g.S.Stock.meaning s (each_event c.args.all.now) c.args.out.now.items c.show_all-shown.new.out.items
    (c.in-Err-shown.ensures.cut _ (c.in-Ok.ensures.run s h))

-- the terminal after some turns is shown, or nothing
pub returns-in-Err-clause-cut : goal.returns-in-Err-clause-cut
returns-in-Err-clause-cut g c = λ s h e.
    shows_part g.S.Stock.meaning c.show-shown.result s (each_event c.args.all.now) c.args.out.now.items c.show-shown.new.out.items (shown_of c.drive.new.world)
    c.show-shown.ensures.shown c.show-shown.ensures.kept (c.in-Err.ensures.shown s h)
