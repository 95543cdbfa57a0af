use Rattle.iom_world_walks.proofs.LawLemmas.{drivers, row_laws}
use Rattle.iom_stepped_refinement.proofs.BeginSteps.{begin_step}
use Rattle.iom_stepped_refinement.proofs.laws.begins_law.Goals as goal

pub returns : goal.returns
returns c = λ driver old new events id rows new_rows asking begun state is stands of_request fits asks alone begins shows.
    let own = drivers c.laws_below.ensures c.others_leave_standing.ensures.others c.others_leave_standing.ensures.records driver old.driver is in
    begin_step (row_laws c.laws_below.ensures c.standing_law.ensures.load c.leaf_law.ensures.first c.leaf_law.ensures.second c.leaf_law.ensures.entry c.leaf_law.ensures.page c.fault_law.ensures.entry c.fault_law.ensures.page c.fault_law.ensures.guest_entry c.directory_law.ensures.ends c.directory_law.ensures.goes_on c.driven_law.ensures) c.bound_law.ensures.ends old new events id rows new_rows stands.1 own.own
    own.stays_ready own.reported own.records of_request.driver of_request.devices of_request.fabric of_request.below stands.2 asking fits asks alone state shows begun begins
