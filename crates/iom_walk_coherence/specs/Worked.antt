-- Worked lists of transitions. They show that these definitions let happen what they are about, and what they are for.
use Rattle.std.specs.Prelude.{◌≡◌, true, false, List, [], ◌∷◌, None}
use Rattle.iom_ledger.specs.History.{held_at, confirms}
use Rattle.iom_base.specs.declared.device_kind.DeviceKind.TheVariants.{Raw}
use Rattle.iom_base.specs.declared.mode.Mode.TheVariants.{Both}
use Rattle.iom_base.specs.declared.size.Size.TheVariants.{Sv48}
use Rattle.iom_coherence.specs.Queue.{WholeSpace}
use Rattle.iom_coherence.specs.Scene.{Scene}
use Rattle.iom_coherence.specs.Transitions.{Transition, Plug, Attach, Grant, Release, Detach, Confirm, KeepContext, FetchIotinval, FetchIodir, TakeSnapshot, CompleteFence, OccurInTurn}
use Rattle.iom_coherence.specs.Laws.{scene_at_power_on}
use Rattle.iom_coherence.specs.Worked.{both_rights}
use Rattle.iom_walk_coherence.specs.Walks.{InDirectory, InTables, InGuestTable, SteppedScene, walk_at, without_walks}
use Rattle.iom_walk_coherence.specs.Faithful.{AreFaithfulWalks}
use Rattle.iom_walk_coherence.specs.Transitions.{SteppedTransition, OfScene, BeginWalk, GoOn, EndWalk, SteppedInTurn}
use Rattle.iom_walk_coherence.specs.Laws.{StandsIn}

-- A walk stands in a guest's table that is released, and begins anew before the ticket is confirmed.

-- A device is attached in both stages, and granted guest page 0. A walk of it makes its loads in the directory and in the tables of the second stage, and comes to
-- the guest's table there. Then the page is released.
abbrev pub stale_walk : List SteppedTransition
stale_walk =
    OfScene (Plug 2 Raw) ∷ OfScene (Attach 2 (Both Sv48) false) ∷ OfScene (Grant 2 0 5 both_rights)
    ∷ BeginWalk 2 InDirectory ∷ OfScene (KeepContext 2) ∷ GoOn 2 InDirectory InTables ∷ GoOn 2 InTables (InGuestTable 5)
    ∷ OfScene (Release 2 0) ∷ []

-- the device holds nothing there, and its walk is about to load from the frame
abbrev pub IsStaleWalk : SteppedScene → Type 0
IsStaleWalk stepped = (held_at stepped.scene.history 2 0 ≡ None) × StandsIn stepped 2 (InGuestTable 5)

-- The command of the release is fetched, and the walk begins anew.
abbrev pub fetch_of_release : List SteppedTransition
fetch_of_release = OfScene (FetchIotinval 2 WholeSpace) ∷ []

-- the ticket isn't confirmed yet, and the walk, of which there is no other, stands in the directory
abbrev pub IsBegunAnew : SteppedScene → Type 0
IsBegunAnew stepped = (confirms stepped.scene.history 1 ≡ false) × (stepped.walks ≡ walk_at 2 InDirectory ∷ [])

-- The fence is done, and a poll sees it; the walk goes on from its beginning, and ends.
abbrev pub its_end : List SteppedTransition
its_end =
    OfScene (TakeSnapshot 1) ∷ OfScene (CompleteFence 1) ∷ OfScene (Confirm 1)
    ∷ GoOn 2 InDirectory InTables ∷ EndWalk ∷ []

-- a stale walk can occur, and then its end
abbrev pub StaleWalksOccur : Type 0
StaleWalksOccur = (stale anew after : SteppedScene)
    × SteppedInTurn (without_walks scene_at_power_on) stale_walk stale × IsStaleWalk stale
    × SteppedInTurn stale fetch_of_release anew × IsBegunAnew anew
    × SteppedInTurn anew its_end after × (confirms after.scene.history 1 ≡ true) × (after.walks ≡ [])

-- What fails where walks don't begin anew.

-- A device is attached and a walk of it comes to its tables. Then the device is detached.
abbrev pub walk_of_leaving : List SteppedTransition
walk_of_leaving =
    OfScene (Plug 2 Raw) ∷ OfScene (Attach 2 (Both Sv48) false)
    ∷ BeginWalk 2 InDirectory ∷ GoOn 2 InDirectory InTables ∷ OfScene (Detach 2) ∷ []

-- these can occur from power-on, and then the commands be fetched; were the walks left where they are, they would be faithful no more
abbrev pub FailsWhereWalksStay : List SteppedTransition → List Transition → Type 0
FailsWhereWalksStay transitions fetches = (stepped : SteppedScene) × (after : Scene)
    × SteppedInTurn (without_walks scene_at_power_on) transitions stepped × OccurInTurn stepped.scene fetches after
    × ¬ AreFaithfulWalks after stepped.walks

-- So it is of a walk in the tables of a device that leaves, and of one in a guest's table that is released.
abbrev pub WalksMustBeginAnew : Type 0
WalksMustBeginAnew =
    FailsWhereWalksStay walk_of_leaving (FetchIodir 2 ∷ FetchIotinval 2 WholeSpace ∷ [])
    × FailsWhereWalksStay stale_walk (FetchIotinval 2 WholeSpace ∷ [])
