use Rattle.iom_stepped_machine.specs.Machine.{Answer, Whole}
use Rattle.iom_stepped_world.proofs.HappensLemmas.{sound_still}
use Rattle.iom_stepped_world.proofs.SettlingLemmas.{effect_by, names}
use Rattle.iom_world.specs.Shown.{disks_of, parts_of}
use Rattle.iom_world_effects.proofs.DriverLemmas.{driver_invariant}
use Rattle.iom_world_effects.proofs.PartsLemmas.{reported_of}
use Rattle.iom_world_refinement.proofs.CommandsStay.{commands_stay}
use Rattle.iom_stepped_world.proofs.settling.SteppedWorldTakesEvents.take.Goals as goal

pub returns : goal.returns
returns g c =
    let old = c.args.self.now.world in
    let new = c.take_settling-outcome.new.world in
    let reply = c.take_settling-outcome.result in
    let does = c.take_settling-outcome.ensures.does in
    let effect = effect_by (disks_of old) (parts_of old) (parts_of new) c.args.self.now.walks c.take_settling-outcome.new.walks c.args.event.now reply c.requires.settling does.leads.effect in (
      reply,
      record {
        settling = c.requires.settling;
        does = does;
        effect = effect;
        walks = c.take_settling-outcome.ensures.walks;
        commands = commands_stay (disks_of old) (parts_of old) (parts_of new) old.hardware.board.events c.args.event.now reply old.invariants (driver_invariant old.driver)
            (reported_of c.laws_below.ensures.reported old.driver) effect;
      },
      c.brief.ensures,
    )

pub invariant_of-self : goal.invariant_of-self
invariant_of-self g c = record {
  sound =
      sound_still g.D.Disk.shown c.facts_law.ensures c.runs_law.ensures.step c.args.self.now.world c.take_settling-outcome.new.world c.args.self.now.walks c.take_settling-outcome.new.walks
      (Whole c.args.event.now) (Answer c.take_settling-outcome.result) c.facts.ensures c.take_settling-outcome.ensures.walks c.args.self.now.sound (names c.args.event.now c.requires.settling)
      c.take_settling-outcome.ensures.does c.take_settling-outcome.ensures.beside;
}
