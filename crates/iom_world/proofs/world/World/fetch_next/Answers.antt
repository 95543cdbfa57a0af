use Rattle.std.proofs.Common.{refl, sym, subst}
use Rattle.iom_machine.specs.declared.outcome.Outcome.TheVariants as outcome
use Rattle.iom_world_effects.specs.Effect.{FetchesNext}
use Rattle.iom_world.proofs.FetchLemmas.{fetched_fits}
use Rattle.iom_world.proofs.InParts.{fetched_in_parts}
use Rattle.iom_world.proofs.OfHardware.{with_driver, hardware_sound}
use Rattle.iom_world.specs.Shown.{parts_of}
use Rattle.iom_driver.specs.StateOf.{state_of}
use Rattle.iom_world.proofs.world.World.fetch_next.Goals as goal

pub fetch_next-requires-clause-invariants : goal.fetch_next-requires-clause-invariants
fetch_next-requires-clause-invariants g c = let world = c.args.self.now in hardware_sound (parts_of world) world.hardware.board.events world.invariants

pub invariant_of-self : goal.invariant_of-self
invariant_of-self g c =
    let world = c.args.self.now in
    let fits = fetched_fits c.laws_below.ensures.unchanged world c.fetch_next.new.self c.fetch_next.result record { effect = c.fetch_next.ensures.effect; invariants = c.fetch_next.ensures.invariants; counted = c.fetch_next.ensures.counted } in
    record { invariants = fits.invariants; agrees = fits.agrees; room = world.room }

pub returns-clause-effect : goal.returns-clause-effect
returns-clause-effect g c =
    let world = c.args.self.now in
    let new = with_driver c.fetch_next.new.self (state_of world.driver) in
    subst (λ f. FetchesNext (parts_of world) (outcome.Fetched f) new) (sym c.named.ensures) (fetched_in_parts (parts_of world) new refl c.fetch_next.result c.fetch_next.ensures.effect)
