use Rattle.iom_world_walks.proofs.LawLemmas.{drivers}
use Rattle.iom_stepped_refinement.proofs.AnewSteps.{anew_step}
use Rattle.iom_stepped_refinement.proofs.laws.fetches_law.Goals as goal

pub returns : goal.returns
returns c = λ driver old new events reply rows new_rows state is stands fetches size begins shows.
    let own = drivers c.laws_below.ensures c.others_leave_standing.ensures.others c.others_leave_standing.ensures.records driver old.driver is in
    anew_step c.bound_law.ensures.ends old new events reply rows new_rows stands.1 own.own fetches size begins state shows
