use Rattle.iom_world.proofs.FetchLemmas.{looked_fits}
use Rattle.iom_world.proofs.InParts.{fetched_in_parts}
use Rattle.iom_world.proofs.OfHardware.{with_driver, hardware_sound}
use Rattle.iom_driver.specs.StateOf.{state_of}
use Rattle.iom_iommu.specs.declared.fetched.Fetched.TheVariants as fetched
use Rattle.std.proofs.Common.{refl}
use Rattle.iom_world.specs.Shown.{parts_of}
use Rattle.iom_world.proofs.world.World.fetch.Goals as goal

pub look-requires-clause-invariants : goal.look-requires-clause-invariants
look-requires-clause-invariants g c = let world = c.args.self.now in hardware_sound (parts_of world) world.hardware.board.events world.invariants

pub invariant_of-self : goal.invariant_of-self
invariant_of-self g c =
    let world = c.args.self.now in
    let fits = looked_fits c.laws_below.ensures.unchanged world c.look.new.self c.look.result c.look.ensures in
    record { invariants = fits.invariants; agrees = fits.agrees; room = world.room }

pub returns-in-Stopped-clause-effect : goal.returns-in-Stopped-clause-effect
returns-in-Stopped-clause-effect g c =
    let world = c.args.self.now in
    fetched_in_parts (parts_of world) (with_driver c.look.new.self (state_of world.driver)) refl fetched.Stopped c.in-Stopped.ensures.effect

pub returns-in-Empty-clause-effect : goal.returns-in-Empty-clause-effect
returns-in-Empty-clause-effect g c =
    let world = c.args.self.now in
    fetched_in_parts (parts_of world) (with_driver c.look.new.self (state_of world.driver)) refl fetched.Empty c.in-Empty.ensures.effect
