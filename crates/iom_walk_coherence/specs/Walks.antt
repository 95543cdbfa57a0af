-- Walks that take several events, as plain values, beside what iom_coherence has of a world.
use Rattle.std.specs.Prelude.{ℕ, List, []}
use Rattle.iom_coherence.specs.Scene.{Scene}

-- where the next load of a walk is
pub data Standing : Type 0 where
  -- in the device directory
  InDirectory : Standing
  -- in a table of the device's, which the driver wrote
  InTables : Standing
  -- in a table that the guest wrote, which lies in this frame
  InGuestTable : (frame : ℕ) → Standing

-- a request whose walk is under way: some loads are made, others aren't yet
pub record Walk : Type 0 where
  -- whose request it is
  pub device : ℕ
  -- where its next load is
  pub standing : Standing

-- the walk of the device that stands there
abbrev pub walk_at : ℕ → Standing → Walk
walk_at device standing = record { device = device; standing = standing }

-- a walk that begins anew: its next load is in the directory
abbrev pub begun_anew : Walk → Walk
begun_anew walk = record walk { standing = InDirectory }

-- All of it, between two events.
pub record SteppedScene : Type 0 where
  -- commands, tickets, copies, messages and accesses
  pub scene : Scene
  -- the walks that are under way
  pub walks : List Walk

-- the scene, with no walk under way
abbrev pub without_walks : Scene → SteppedScene
without_walks scene = record { scene = scene; walks = [] }
