use Rattle.std.proofs.Common.{◌≡◌, ℕ, List, length, sym, subst}
use Rattle.iom_driver.specs.Laws.{OthersLeaveStanding, RecordsLeaveStanding, ReadyAfterRecord}
use Rattle.iom_driver.specs.declared.driver.Driver.{Driver}
use Rattle.iom_driver.specs.StateOf.{state_of}
use Rattle.iom_machine.specs.declared.event.Event.{Event}
use Rattle.iom_machine.specs.declared.outcome.Outcome.{Outcome}
use Rattle.iom_standing_walks.specs.Driven.{DrivenWalksStand}
use Rattle.iom_walk_coherence.specs.Walks.{Walk}
use Rattle.iom_walks.specs.Walks.{WalkRow}
use Rattle.iom_world_effects.specs.Effect.{Effect}
use Rattle.iom_world_effects.specs.Invariant.{InvariantWith}
use Rattle.iom_world_effects.specs.Parts.{Parts}
use Rattle.iom_world_effects.proofs.DriverLemmas.{DriverInvariant, driver_invariant}
use Rattle.iom_world_effects.proofs.PartsLemmas.{StaysReported, reported_of}
use Rattle.iom_world_walks.specs.Standing.{RowsStand}
use Rattle.iom_world_walks.proofs.EffectsLeave.{OthersLeave, RecordsLeave, effects_leave}
use Rattle.iom_world_walks.proofs.StillLemmas.{rows_still}
use Rattle.iom_world_walks.proofs.laws.events_law.Goals as goal

stand_after : DrivenWalksStand → OthersLeaveStanding → RecordsLeaveStanding → ReadyAfterRecord
    → (driver : Driver) (disks : List ℕ) (old new : Parts) (events later : ℕ) (event : Event) (answered : Outcome) (walks under_way : List Walk) (rows : List WalkRow)
    → old.driver ≡ state_of driver → InvariantWith walks old events → length new.memory ≡ length old.memory → Effect disks old event answered new
    → InvariantWith under_way new later → RowsStand old.driver old.memory under_way rows → RowsStand new.driver new.memory under_way rows
stand_after driven others records reported driver disks old new events later event answered walks under_way rows is invariants size effect after stand =
    let own : DriverInvariant old.driver = subst DriverInvariant (sym is) (driver_invariant driver) in
    let told : StaysReported old.driver = subst StaysReported (sym is) (reported_of reported driver) in
    let left : OthersLeave old.driver = subst OthersLeave (sym is) (others driver) in
    let recorded : RecordsLeave old.driver = subst RecordsLeave (sym is) (records driver) in
    rows_still driven old new later under_way invariants.started (effects_leave old new events invariants own told left recorded disks event answered size effect) after rows stand

pub returns : goal.returns
returns c = stand_after c.driven_law.ensures c.others_leave_standing.ensures.others c.others_leave_standing.ensures.records c.ready_after_record.ensures
