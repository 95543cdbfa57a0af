-- A walk that stands somewhere has a load to make.
use Rattle.std.proofs.Common.{◌≡◌, ℕ, zero, suc, ◌<◌, Option, Result, refl, arith}
use Rattle.iom_base.specs.declared.cause.Cause.{Cause}
use Rattle.iom_device_dir.specs.declared.context.Context.{Context}
use Rattle.iom_walk_loads.specs.Directory.{directory_walk}
use Rattle.iom_walk_loads.specs.Loads.{ReadsContext, ReadsEntry, Walk}
use Rattle.iom_stepped_walk.specs.Laws.{DirectoryWalksLoad, TableWalksLoad}
use Rattle.iom_stepped_walk.specs.declared.tables.TableWalk.TheVariants.{InFirstStage, InSecondStage, InGuestTable, ToGuestEntry, ToGuestPage}

pub table_walks_load : TableWalksLoad
table_walks_load frames (InFirstStage asked place) = (_, _, refl)
table_walks_load frames (InSecondStage asked place) = (_, _, refl)
table_walks_load frames (ToGuestEntry both entry place) = (_, _, refl)
table_walks_load frames (InGuestTable both entry frame) = (_, _, refl)
table_walks_load frames (ToGuestPage both page place) = (_, _, refl)

contexts : (level page id : ℕ) → level ≡ 0
    → (address : ℕ) × (rest : Result Context Cause → Walk (Result Context Cause)) × (directory_walk level page id ≡ ReadsContext address rest)
contexts zero page id is = (_, _, refl)
contexts (suc level) page id is = absurd (omega (arith, is))

entries : (level page id : ℕ) → 0 < level
    → (address : ℕ) × (rest : Option ℕ → Walk (Result Context Cause)) × (directory_walk level page id ≡ ReadsEntry address rest)
entries zero page id some = absurd (omega (arith, some))
entries (suc level) page id some = (_, _, refl)

pub directory_walks_load : DirectoryWalksLoad
directory_walks_load walk = (contexts walk.level walk.page.number walk.id, entries walk.level walk.page.number walk.id)
