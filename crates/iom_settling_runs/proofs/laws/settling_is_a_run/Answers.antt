use Rattle.iom_world.specs.Shown.{shown_of}
use Rattle.iom_settling_runs.proofs.RunLemmas.{settles}
use Rattle.iom_settling_runs.proofs.laws.settling_is_a_run.Goals as goal

pub returns : goal.returns
returns g c = λ old new answer state shows settled.
    settles (shown_of g.D.Disk.shown) (λ world. (world.invariants.known.own_ids, world.invariants.known.iommu)) old new answer state shows settled
