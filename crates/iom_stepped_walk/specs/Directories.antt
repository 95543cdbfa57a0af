-- What remains of a walk through the directory that stands in a page.
use Rattle.std.specs.Prelude.{◌≡◌, ℕ, List, Result}
use Rattle.iom_base.specs.declared.cause.Cause.{Cause}
use Rattle.iom_device_dir.specs.declared.context.Context.{Context}
use Rattle.iom_walk_loads.specs.Loads.{Walk, Ends, after_load}
use Rattle.iom_walk_loads.specs.Directory.{directory_walk}
use Rattle.iom_stepped_walk.specs.declared.directory.DirectoryWalk.{DirectoryWalk}
use Rattle.iom_stepped_walk.specs.declared.directory.Locating.{Locating}
use Rattle.iom_stepped_walk.specs.declared.directory.Locating.TheVariants.{GoesOn, Ended}

-- THE REST of a walk that stands there
abbrev pub directory_rest : DirectoryWalk → Walk (Result Context Cause)
directory_rest walk = directory_walk walk.level walk.page.number walk.id

-- THE REST of a walk after a load
abbrev pub still_locating : Locating → Walk (Result Context Cause)
still_locating (GoesOn walk) = directory_rest walk
still_locating (Ended answer) = Ends answer

-- ONE LOAD of this memory makes this of a walk that stands there
abbrev pub IsOneLoadOf : List (List ℕ) → DirectoryWalk → Locating → Type 0
IsOneLoadOf memory walk locating = still_locating locating ≡ after_load memory (directory_rest walk)
