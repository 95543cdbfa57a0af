-- How a test begins: a world at power-on, and events that happen in it.
use Rattle.std.specs.Prelude.{◌≡◌, List, [], ◌∷◌, ◌++◌}
use Rattle.iom_machine.specs.declared.event.Event.{Event}
use Rattle.iom_machine.specs.declared.outcome.Outcome.{Outcome}
use Rattle.iom_world.specs.Happens.{Happens}
use Rattle.iom_world.specs.PowerOn.{BeginsAt}
use Rattle.iom_virtio_blk.specs.declared.disk.Disk.{Ghosts}
use Rattle.iom_world.specs.declared.world.World.{World}
use Rattle.iom_world.specs.Shown.{shown_of}
use Rattle.iom_litmus_world.specs.declared.opening.Opening.{Opening}
use Rattle.iom_litmus_world.specs.Places.{Tested, place_of, AreListed}

-- the events, one after another
pub data GoesThrough {D : Type 0} {d : Ghosts D} (first : World D d) : List Event → World D d → Type 0 where
  Nothing : GoesThrough first [] first
  Then : (events : List Event) (old new : World D d) (event : Event) (outcome : Outcome) → GoesThrough first events old
      → Happens (shown_of d.shown old) event outcome (shown_of d.shown new)
      → GoesThrough first (events ++ event ∷ []) new

-- the world has gone through the events of the opening, from power-on, with no disk
pub record HasOpened {D : Type 0} {d : Ghosts D} (opening : Opening) (world : World D d) : Type 0 where
  pub first : World D d
  pub begins : BeginsAt opening.frames opening.levels [] (shown_of d.shown first)
  pub through : GoesThrough first opening.events world

abbrev pub Opens : {D : Type 0} → Ghosts D → Opening → Tested → Type 0
Opens {D} d opening tested = (world : World D d) × HasOpened opening world × (tested.place ≡ place_of world) × AreListed tested
