use Rattle.std.proofs.Common.{List, sym, subst}
use Rattle.iom_stepped_world.specs.Sound.{AreSound}
use Rattle.iom_stepped_world.proofs.HappensLemmas.{sound_at_first}
use Rattle.iom_walks.specs.Walks.{WalkRow}
use Rattle.iom_stepped_world.proofs.world.SteppedWorld.new.Goals as goal

pub invariant_of-result : goal.invariant_of-result
invariant_of-result g c = record {
  sound =
      subst (λ (rows : List WalkRow). AreSound g.D.Disk.shown c.in_ok-world.world rows) (sym c.in-Ok.ensures)
      (sound_at_first g.D.Disk.shown c.idle_law.ensures.sound c.events_stay_beside.ensures.power_on c.in_ok-world.world c.in_ok-world.ensures.begins.devices);
}
