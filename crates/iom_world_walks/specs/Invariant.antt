-- What stays true of a world in which requests are under way, whatever happens.
use Rattle.std.specs.Prelude.{ℕ, List}
use Rattle.iom_walk_coherence.specs.Walks.{Walk}
use Rattle.iom_walks.specs.Walks.{WalkRow}
use Rattle.iom_world_effects.specs.Invariant.{InvariantWith}
use Rattle.iom_world_effects.specs.Parts.{Parts}
use Rattle.iom_world_walks.specs.Standing.{RowsStand}

-- with some walks under way all is true of its parts that is true of a world, and each request that is under way stands somewhere, as one of those walks
abbrev pub SteppedInvariant : Parts → List WalkRow → ℕ → Type 0
SteppedInvariant parts rows events = (walks : List Walk) × InvariantWith walks parts events × RowsStand parts.driver parts.memory walks rows
