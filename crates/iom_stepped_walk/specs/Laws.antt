-- What is true of each walk that stands between two of its loads.
use Rattle.std.specs.Prelude.{◌≡◌, ℕ, ◌<◌, Option, Result}
use Rattle.iom_base.specs.declared.cause.Cause.{Cause}
use Rattle.iom_device_dir.specs.declared.context.Context.{Context}
use Rattle.iom_walk_loads.specs.Loads.{Walk, ReadsEntry, ReadsContext}
use Rattle.iom_stepped_walk.specs.Directories.{directory_rest}
use Rattle.iom_stepped_walk.specs.Positions.{rest_of}
use Rattle.iom_stepped_walk.specs.Steps.{TableAnswer}
use Rattle.iom_stepped_walk.specs.declared.directory.DirectoryWalk.{DirectoryWalk}
use Rattle.iom_stepped_walk.specs.declared.tables.TableWalk.{TableWalk}

-- what remains of a walk of tables begins with the load of an entry
abbrev pub TableWalksLoad : Type 0
TableWalksLoad = (frames : ℕ) (walk : TableWalk) → (address : ℕ) × (rest : Option ℕ → Walk TableAnswer) × (rest_of frames walk ≡ ReadsEntry address rest)

-- what remains of a walk through the directory begins with the load of a context in a page of level 0, and of an entry in any other
abbrev pub DirectoryWalksLoad : Type 0
DirectoryWalksLoad = (walk : DirectoryWalk)
    → (walk.level ≡ 0 → (address : ℕ) × (rest : Result Context Cause → Walk (Result Context Cause)) × (directory_rest walk ≡ ReadsContext address rest))
    × (0 < walk.level → (address : ℕ) × (rest : Option ℕ → Walk (Result Context Cause)) × (directory_rest walk ≡ ReadsEntry address rest))
