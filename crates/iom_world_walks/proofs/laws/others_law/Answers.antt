use Rattle.iom_world_walks.proofs.EventKeeps.{event_keeps}
use Rattle.iom_world_walks.proofs.LawLemmas.{drivers}
use Rattle.iom_world_walks.proofs.laws.others_law.Goals as goal

pub returns : goal.returns
returns c = λ driver disks old new events event answered rows new_rows is stands counted other fits ready size effect leaves.
    let own = drivers c.laws_below.ensures c.others_leave_standing.ensures.others c.others_leave_standing.ensures.records driver old.driver is in
    event_keeps c.laws_below.ensures driver old new events stands.1 is own ready counted c.driven_law.ensures disks event answered rows new_rows other fits size effect leaves stands.2
