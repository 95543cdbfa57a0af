-- A walk that has made no load yet makes three at most.
use Rattle.std.proofs.Common.{sym, subst}
use Rattle.iom_walk_loads.proofs.BoundLemmas.{locating_ends}
use Rattle.iom_walk_loads.specs.Loads.{EndsWithin}
use Rattle.iom_walk_stops.proofs.directory.end_of_directory.Goals as goal

pub end_from-requires : goal.end_from-requires
end_from-requires g c = subst (EndsWithin 3) (sym c.in-GoesOn.ensures) (locating_ends c.args.ddtp c.args.id)
