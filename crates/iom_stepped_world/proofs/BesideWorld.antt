-- What is under way stays beside a world, by the event.
use Rattle.std.proofs.Common.{ℕ, List, refl}
use Rattle.iom_hardware.proofs.BlockThere.{able_there, there_able}
use Rattle.iom_machine.specs.declared.event.Event.{Event}
use Rattle.iom_machine.specs.declared.event.Event.TheVariants as events
use Rattle.iom_machine.specs.declared.outcome.Outcome.{Outcome}
use Rattle.iom_stepped_board.specs.Beside.{AreBeside}
use Rattle.iom_stepped_board.proofs.BesideLemmas.{given_up_beside}
use Rattle.iom_stepped_hardware.specs.Beside.{AskStill}
use Rattle.iom_stepped_refinement.specs.Laws.{LeavesRows}
use Rattle.iom_stepped_world.specs.Others.{LeavesWalks}
use Rattle.iom_stepped_world.specs.Sound.{AreBesideWorld}
use Rattle.iom_stepped_world.proofs.Around.{rows_stay}
use Rattle.iom_stepped_world.proofs.BesideEvents.{asking_after, board_left, board_made}
use Rattle.iom_stepped_world.proofs.OtherLemmas.{IsOther, gives_nothing, left_other}
use Rattle.iom_virtio_blk.specs.DiskStates.{DiskState}
use Rattle.iom_virtio_blk.specs.declared.disk.Disk.{Ghosts}
use Rattle.iom_walks.specs.Calls.{given_up}
use Rattle.iom_walks.specs.Walks.{WalkRow, row_of}
use Rattle.iom_world.specs.Happens.{Happens}
use Rattle.iom_world.specs.OnHardware.{hardware_of}
use Rattle.iom_world.specs.Shown.{disks_of, inside_of, parts_of, shown_of}
use Rattle.iom_world.specs.declared.world.World.{World}
use Rattle.iom_world.proofs.IommuStays.{LeavesFlights}
use Rattle.iom_world.proofs.OfHardware.{hardware_invariant}

module _ {D : Type 0} {d : Ghosts D} (shown : D → DiskState) (old new : World D d) (rows : List WalkRow) (event : Event) (answered : Outcome) (beside : AreBesideWorld shown old rows)
    (happens : Happens (shown_of shown old) event answered (shown_of shown new)) where
  -- what block devices ask for
  pub asking_left : (new_rows : List WalkRow) → IsOther event → LeavesRows (parts_of old) event answered rows new_rows
      → AskStill (parts_of new).devices (inside_of shown new).blocks new_rows
  asking_left new_rows other leaves =
      asking_after (disks_of old) (shown_of shown old) (shown_of shown new) rows new_rows event answered other old.invariants.known beside
      (λ id able none. there_able shown old.hardware (hardware_invariant old) id able none) (λ id block at. able_there shown new.hardware (hardware_invariant new) id block at) happens.effect happens.blocks leaves

  -- the board
  pub board_kept : LeavesFlights event → AreBeside (hardware_of (parts_of new)) rows
  board_kept leaves = board_left (disks_of old) (parts_of old) (parts_of new) rows event answered leaves old.invariants.known new.invariants.known beside.board happens.effect

  -- what is under way of one device is given up
  pub beside_given_up : (id : ℕ) → IsOther event → LeavesFlights event → LeavesRows (parts_of old) event answered rows (given_up rows (row_of rows id))
      → AreBesideWorld shown new (given_up rows (row_of rows id))
  beside_given_up id other leaves left = record {
    board = given_up_beside (hardware_of (parts_of new)) rows id (board_kept leaves);
    asking = asking_left (given_up rows (row_of rows id)) other left;
  }

  -- all stays
  pub beside_same : IsOther event → LeavesFlights event → LeavesRows (parts_of old) event answered rows rows → AreBesideWorld shown new rows
  beside_same other leaves left = record { board = board_kept leaves; asking = asking_left rows other left }

pub beside_left : {D : Type 0} {d : Ghosts D} (shown : D → DiskState) (old new : World D d) (rows : List WalkRow) (event : Event) (answered : Outcome) → LeavesWalks event → AreBesideWorld shown old rows
    → Happens (shown_of shown old) event answered (shown_of shown new) → AreBesideWorld shown new rows
beside_left shown old new rows event answered leaves beside happens = record {
  board = by event leaves happens;
  asking = asking_left shown old new rows event answered beside happens rows (left_other event leaves)
      (rows_stay (parts_of old) event answered rows rows refl (gives_nothing (parts_of old) event answered leaves));
}
  where
    by : (event : Event) → LeavesWalks event → Happens (shown_of shown old) event answered (shown_of shown new) → AreBeside (hardware_of (parts_of new)) rows
    by (events.Plug id what) none happened = absurd none
    by (events.Detach id) none happened = absurd none
    by (events.Reset id) none happened = absurd none
    by (events.Revive id) none happened = absurd none
    by (events.Queue id size descriptors available used) none happened = absurd none
    by events.Fetch none happened = absurd none
    by (events.Read id address len) none happened = absurd none
    by (events.Write id address bytes) none happened = absurd none
    by (events.ReadTranslated id address len) none happened = absurd none
    by (events.WriteTranslated id address bytes) none happened = absurd none
    by (events.ReadThroughCache id address len) none happened = absurd none
    by (events.WriteThroughCache id address bytes) none happened = absurd none
    by (events.Step id) none happened = absurd none
    by (events.Commit id) left happened = board_made (parts_of old) (parts_of new) rows id answered beside.board happened.effect
    by its left happened = board_kept shown old new rows its answered beside happened tt
