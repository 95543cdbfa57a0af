-- What settling a world is for the ledger machine.
use Rattle.std.specs.Prelude.{ℕ, Result}
use Rattle.iom_base.specs.declared.refusal.Refusal.{Refusal}
use Rattle.iom_machine.specs.declared.event.Event.{Event}
use Rattle.iom_machine.specs.declared.outcome.Outcome.{Outcome}
use Rattle.iom_machine.specs.declared.state.State.{State}
use Rattle.iom_settling.specs.Settles.{Ran, Settles, ran_in}
use Rattle.iom_settling.specs.Stages.{Settled}
use Rattle.iom_virtio_blk.specs.declared.disk.Disk.{Ghosts}
use Rattle.iom_world.specs.declared.world.World.{World}
use Rattle.iom_world.specs.Happens.{Happens}
use Rattle.iom_world.specs.Runs.{GoesThrough, uncounted}
use Rattle.iom_world.specs.Shown.{Shown, parts_of, shown_of}
use Rattle.iom_world.specs.Shows.{Shows}

-- the world goes through these events, with no counts beside them
abbrev pub GoesThroughAll : (state : State) → Shown → (last : State) → Ran state last → Shown → Type 0
GoesThroughAll state old last ran new = GoesThrough state old ran.events ran.outcomes (uncounted ran.events) last ran.run new

-- WHAT SETTLES A WORLD IS A RUN of the ledger machine, from every state that it shows to one that it shows then, as the machine settles by that answer;
-- and through that very run it goes
abbrev pub SettlingsAreRuns : {D : Type 0} → Ghosts D → Type 0
SettlingsAreRuns {D} d = (old new : World D d) (answer : Result ℕ Refusal) (state : State) → Shows (shown_of d.shown old) state
    → Settled (λ (world : World D d). parts_of world)
    (λ (before : World D d) (event : Event) (reply : Outcome) (after : World D d). Happens (shown_of d.shown before) event reply (shown_of d.shown after)) old answer new
    → (last : State) × (settles : Settles state answer last) × Shows (shown_of d.shown new) last
    × GoesThroughAll state (shown_of d.shown old) last (ran_in state answer last settles) (shown_of d.shown new)
