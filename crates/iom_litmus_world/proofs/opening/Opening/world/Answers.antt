use Rattle.std.proofs.Common.{List, map, subst}
use Rattle.iom_machine.specs.declared.event.Event.{Event}
use Rattle.iom_litmus_world.specs.Openings.{GoesThrough}
use Rattle.iom_world.specs.PowerOn.{BeginsAt}
use Rattle.iom_world.specs.Shown.{shown_of}
use Rattle.iom_litmus_world.proofs.opening.Opening.world.Goals as goal

pub returns : goal.returns
returns g c = record {
  first = c.in-Ok.world;
  begins = subst (λ disks. BeginsAt c.args.self.now.frames c.args.self.now.levels (map g.D.Disk.shown disks) (shown_of g.D.Disk.shown c.in-Ok.world)) c.new.ensures.items c.in-Ok.ensures.begins;
  through = subst (λ (events : List Event). GoesThrough c.in-Ok.world events c.go_through.new.world) c.as_slice.ensures c.in_ok-go_through.ensures;
}
