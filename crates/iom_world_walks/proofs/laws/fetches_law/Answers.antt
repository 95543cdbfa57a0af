use Rattle.std.proofs.Common.{[]}
use Rattle.iom_world_walks.proofs.LawLemmas.{drivers}
use Rattle.iom_world_walks.proofs.AnewKeeps.{fetch_keeps}
use Rattle.iom_world_walks.proofs.laws.fetches_law.Goals as goal
use Rattle.iom_machine.specs.declared.event.Event.TheVariants.{Fetch}
use Rattle.iom_world_walks.proofs.EffectsLeave.{effects_leave}

pub returns : goal.returns
returns c = λ driver old new events reply rows new_rows is stands below fetches size begins.
    let own = drivers c.laws_below.ensures c.others_leave_standing.ensures.others c.others_leave_standing.ensures.records driver old.driver is in
    fetch_keeps c.driven_law.ensures old new events reply rows new_rows stands.1 own.own own.stays_ready below fetches
    (effects_leave old new events stands.1 own.own own.reported own.others own.records [] Fetch reply size fetches) begins stands.2
