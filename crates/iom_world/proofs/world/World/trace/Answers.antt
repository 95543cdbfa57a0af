-- The counts are those of the ledger machine's state.
use Rattle.std.proofs.Common.{◌∙◌, sym, subst}
use Rattle.iom_driver.specs.Calls.{IsFreeFrame}
use Rattle.iom_table_frames.specs.Owners.{AreSoMany}
use Rattle.iom_world.specs.Shown.{parts_of}
use Rattle.iom_world_refinement.proofs.CountLemmas.{flights_counted, free_shown}
use Rattle.iom_world.proofs.world.World.trace.Goals as goal

pub returns : goal.returns
returns g c state shows =
    let world = c.args.self.now in
    let parts = parts_of world in (
      record {
        tickets = rw (shows.0.given, shows.0.confirmed) c.pending.ensures;
        flight = c.all_in_flight.ensures.count ∙ flights_counted parts state shows.0 c.facts.ensures.invariants.distinct world.invariants.known.iommu;
        free = free_shown parts state c.from.result shows.0 world.invariants.ready.stand.size (subst (λ n. AreSoMany (IsFreeFrame parts.driver) n) (sym c.from.ensures) c.count_free.ensures);
      },
      c.len.ensures,
    )
