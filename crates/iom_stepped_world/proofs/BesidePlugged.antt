-- A device is plugged in beside what is under way.
use Rattle.std.proofs.Common.{◌≡◌, ℕ, Bool, true, List, refl, sym, subst}
use Rattle.iom_base.specs.DeviceKinds.{disk_of}
use Rattle.iom_base.specs.Disks.{without_disk}
use Rattle.iom_base.specs.declared.device_kind.NewDevice.{NewDevice}
use Rattle.iom_board.specs.Plugging.{StandsBehindOthers}
use Rattle.iom_machine.specs.declared.event.Event.{Event}
use Rattle.iom_machine.specs.declared.event.Event.TheVariants as events
use Rattle.iom_machine.specs.declared.outcome.Outcome.{Outcome}
use Rattle.iom_machine.specs.declared.outcome.Outcome.TheVariants as outcome
use Rattle.iom_stepped_board.proofs.SoundEvents.{plugged_beside, walk_added}
use Rattle.iom_stepped_hardware.proofs.AskLaws.{plugged_asks}
use Rattle.iom_stepped_machine.specs.Machine.{Answer, Whole}
use Rattle.iom_stepped_world.specs.Happens.{Does}
use Rattle.iom_stepped_world.specs.Others.{Plugs}
use Rattle.iom_stepped_world.specs.Shown.{stepped_of}
use Rattle.iom_stepped_world.specs.Sound.{AreBesideWorld}
use Rattle.iom_stepped_world.proofs.Around.{rows_stay}
use Rattle.iom_stepped_world.proofs.BesideWorld.{asking_left}
use Rattle.iom_stepped_world.proofs.OtherLemmas.{other_does}
use Rattle.iom_stepped_world.proofs.PluggedLemmas.{board_unplugged, plugs_inside, rows_added, stands_behind}
use Rattle.iom_virtio_blk.specs.DiskStates.{DiskState}
use Rattle.iom_virtio_blk.specs.declared.disk.Disk.{Ghosts}
use Rattle.iom_walks.specs.Calls.{Adds}
use Rattle.iom_walks.specs.Walks.{WalkRow}
use Rattle.iom_world.specs.Happens.{Happens}
use Rattle.iom_world.specs.OnHardware.{hardware_of}
use Rattle.iom_world.specs.Shown.{disks_of, inside_of, parts_of, shown_of}
use Rattle.iom_world.specs.declared.world.World.{World}
use Rattle.iom_world.proofs.OfHardware.{hardware_sound}

module _ {D : Type 0} {d : Ghosts D} (shown : D → DiskState) (old new : World D d) (rows : List WalkRow) where
  -- IT IS DONE
  module _ (new_rows : List WalkRow) (id : ℕ) (what : NewDevice) (added : Bool) (beside : AreBesideWorld shown old rows)
      (happens : Happens (shown_of shown old) (events.Plug id what) outcome.Done (shown_of shown new)) (adds : Adds rows id added new_rows) where
    stands : StandsBehindOthers (disks_of old) (hardware_of (parts_of old)) id what (hardware_of (parts_of new)) (without_disk (disk_of what) (disks_of old))
    stands = stands_behind (disks_of old) (parts_of old) (parts_of new) id what old.invariants.known happens.effect

    is_added : Adds rows id true new_rows
    is_added =
        walk_added (disks_of old) (hardware_of (parts_of old)) (hardware_of (parts_of new)) rows new_rows old.hardware.board.events id what (without_disk (disk_of what) (disks_of old)) added
        (hardware_sound (parts_of old) old.hardware.board.events old.invariants) beside.board stands adds

    does_plug : Does (stepped_of shown old rows) (Whole (events.Plug id what)) (Answer outcome.Done) (stepped_of shown new new_rows)
    does_plug =
        other_does (stepped_of shown old rows) (stepped_of shown new new_rows) (events.Plug id what) outcome.Done
        (record { before = old.invariants; after = new.invariants; counted = happens.events }) tt happens
        (rows_added (parts_of old) (events.Plug id what) outcome.Done rows new_rows id is_added (λ device gives. gives)) (λ why is. cc)

    beside_plug : AreBesideWorld shown new new_rows
    beside_plug = record {
      board = plugged_beside (disks_of old) (hardware_of (parts_of old)) (hardware_of (parts_of new)) rows new_rows id what (without_disk (disk_of what) (disks_of old)) beside.board stands is_added;
      asking = plugged_asks (disks_of old) (without_disk (disk_of what) (disks_of old)) (hardware_of (parts_of old)) (hardware_of (parts_of new)) (inside_of shown old) (inside_of shown new) rows new_rows id what
          beside.asking stands (plugs_inside what (inside_of shown old) (inside_of shown new) id happens.blocks) is_added;
    }

  pub plugged_does : (new_rows : List WalkRow) (event : Event) (answered : Outcome) (id : ℕ) (added : Bool) → Plugs event id → answered ≡ outcome.Done → AreBesideWorld shown old rows
      → Happens (shown_of shown old) event answered (shown_of shown new) → Adds rows id added new_rows → Does (stepped_of shown old rows) (Whole event) (Answer answered) (stepped_of shown new new_rows)
  plugged_does new_rows (events.Plug device what) answered id added own done beside happens adds =
      subst (λ (o : Outcome). Does (stepped_of shown old rows) (Whole (events.Plug device what)) (Answer o) (stepped_of shown new new_rows)) (sym done)
      (does_plug new_rows device what added beside (subst (λ (o : Outcome). Happens (shown_of shown old) (events.Plug device what) o (shown_of shown new)) done happens)
      (subst (λ (n : ℕ). Adds rows n added new_rows) (sym own) adds))
  plugged_does new_rows _ answered id added never done beside happens adds = absurd never

  pub beside_plugged : (new_rows : List WalkRow) (event : Event) (answered : Outcome) (id : ℕ) (added : Bool) → Plugs event id → answered ≡ outcome.Done → AreBesideWorld shown old rows
      → Happens (shown_of shown old) event answered (shown_of shown new) → Adds rows id added new_rows → AreBesideWorld shown new new_rows
  beside_plugged new_rows (events.Plug device what) answered id added own done beside happens adds =
      beside_plug new_rows device what added beside (subst (λ (o : Outcome). Happens (shown_of shown old) (events.Plug device what) o (shown_of shown new)) done happens)
      (subst (λ (n : ℕ). Adds rows n added new_rows) (sym own) adds)
  beside_plugged new_rows _ answered id added never done beside happens adds = absurd never

  -- IT ISN'T
  pub unplugged_does : (event : Event) (answered : Outcome) (id : ℕ) → Plugs event id → Happens (shown_of shown old) event answered (shown_of shown new)
      → Does (stepped_of shown old rows) (Whole event) (Answer answered) (stepped_of shown new rows)
  unplugged_does (events.Plug device what) answered id own happens =
      other_does (stepped_of shown old rows) (stepped_of shown new rows) (events.Plug device what) answered (record { before = old.invariants; after = new.invariants; counted = happens.events }) tt happens
      (rows_stay (parts_of old) (events.Plug device what) answered rows rows refl (λ other gives. gives)) (λ why is. refl)
  unplugged_does _ answered id never happens = absurd never

  pub beside_unplugged : (event : Event) (answered : Outcome) (id : ℕ) → Plugs event id → (answered ≡ outcome.Done → ⊥) → AreBesideWorld shown old rows
      → Happens (shown_of shown old) event answered (shown_of shown new) → AreBesideWorld shown new rows
  beside_unplugged (events.Plug device what) answered id own not_done beside happens = record {
    board = board_unplugged (disks_of old) (parts_of old) (parts_of new) rows device what answered not_done beside.board happens.effect;
    asking = asking_left shown old new rows (events.Plug device what) answered beside happens rows tt
        (rows_stay (parts_of old) (events.Plug device what) answered rows rows refl (λ other gives. gives));
  }
  beside_unplugged _ answered id never not_done beside happens = absurd never
