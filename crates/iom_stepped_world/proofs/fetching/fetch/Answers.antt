use Rattle.std.proofs.Common.{ap, refl, sym, subst}
use Rattle.iom_driver.specs.StateOf.{state_of}
use Rattle.iom_machine.specs.declared.event.Event.TheVariants as events
use Rattle.iom_machine.specs.declared.outcome.Outcome.TheVariants as outcome
use Rattle.iom_stepped_machine.specs.Machine.{Answer, Whole}
use Rattle.iom_stepped_world.specs.Happens.{Does}
use Rattle.iom_stepped_world.specs.Shown.{stepped_of}
use Rattle.iom_stepped_world.proofs.After.{shown_after}
use Rattle.iom_stepped_world.proofs.Around.{Around, leads}
use Rattle.iom_world.proofs.FetchLemmas.{fetched_fits}
use Rattle.iom_world.proofs.IommuStays.{flights_left}
use Rattle.iom_world.proofs.OfHardware.{hardware_invariant}
use Rattle.iom_world_effects.specs.Effect.{FetchesNext, fetch_named}
use Rattle.iom_stepped_world.proofs.fetching.fetch.Goals as goal

pub fetch-requires-clause-invariants : goal.fetch-requires-clause-invariants
fetch-requires-clause-invariants g c = hardware_invariant c.args.world.now

pub invariant_of-world : goal.invariant_of-world
invariant_of-world g c =
    let world = c.args.world.now in
    let fits = fetched_fits c.laws_below.ensures.unchanged world c.fetch.new.hardware.board c.fetch.result
    record { effect = c.fetch.ensures.effect; invariants = c.fetch.ensures.invariants.board; counted = c.fetch.ensures.counted } in
    record { invariants = fits.invariants; agrees = c.fetch.ensures.invariants.agrees; room = c.fetch.ensures.invariants.room }

pub returns-clause-does : goal.returns-clause-does
returns-clause-does g c =
    let world = c.args.world.now in
    let old = stepped_of g.D.Disk.shown world c.args.walks.now in
    let new = shown_after g.D.Disk.shown c.fetch.new.hardware (state_of world.driver) c.fetch.new.walks in
    let fits = fetched_fits c.laws_below.ensures.unchanged world c.fetch.new.hardware.board c.fetch.result
    record { effect = c.fetch.ensures.effect; invariants = c.fetch.ensures.invariants.board; counted = c.fetch.ensures.counted } in
    let around : Around old new = record { before = world.invariants; after = fits.invariants; counted = c.fetch.ensures.counted.events } in
    let takes = c.fetch.ensures.effect in
    let fetches : FetchesNext old.world.parts (outcome.Fetched (fetch_named c.fetch.result)) new.world.parts =
    record { answer = c.fetch.result; reply_is = refl; call = takes.call; driver = refl; devices = takes.devices; fabric = takes.fabric } in
    let told = outcome.Fetched (fetch_named c.fetch.result) in
    subst (λ f. Does old (Whole events.Fetch) (Answer (outcome.Fetched f)) new) (sym c.named.ensures) (record {
      leads = leads old new (Whole events.Fetch) (Answer told) around tt (record { answered = told; told = refl; fetches = fetches; anew = c.fetch.ensures.anew }) c.fetch.ensures.counted.disks
          (ap (λ kept. kept.1) (flights_left old.world.disks old.world.parts new.world.parts events.Fetch told tt fetches));
      inside = c.fetch.ensures.inside;
      refused = tt;
    })
