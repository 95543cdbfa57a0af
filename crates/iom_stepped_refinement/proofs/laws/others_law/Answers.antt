use Rattle.iom_world_invariant.proofs.AskedLemmas.{service_laws}
use Rattle.iom_world_walks.proofs.LawLemmas.{drivers}
use Rattle.iom_stepped_refinement.proofs.OtherSteps.{other_step}
use Rattle.iom_stepped_refinement.proofs.laws.others_law.Goals as goal

pub returns : goal.returns
returns c = λ driver disks old new events later event answered rows new_rows state is stands afterwards none fits other size at_hand effect leaves shows.
    let own = drivers c.laws_below.ensures c.others_leave_standing.ensures.others c.others_leave_standing.ensures.records driver old.driver is in
    other_step (service_laws c.laws_below.ensures) disks old new events later rows new_rows stands.1 own.own own.reported afterwards.1 size event answered state none fits other at_hand effect leaves shows
