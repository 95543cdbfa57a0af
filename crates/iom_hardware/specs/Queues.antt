-- The queue of a block device is set (virtio 1.2, section 3.1.1): what the board sees of it.
use Rattle.std.specs.Prelude.{◌≡◌, ◌⊎◌, ℕ, Result, Ok, Err}
use Rattle.iom_base.specs.DeviceKinds.{is_block_device}
use Rattle.iom_base.specs.declared.refusal.Refusal.{Refusal}
use Rattle.iom_base.specs.declared.refusal.Refusal.TheVariants.{BadQueue}
use Rattle.iom_board.specs.BoardParts.{BoardParts}
use Rattle.iom_board.specs.ByDevice.{FindsNoDevice, FindsWrongKind}
use Rattle.iom_device.specs.Caches.{IsAble}
use Rattle.iom_device.specs.Calls.{with_reset}
use Rattle.iom_virtqueue.specs.declared.layout.Layout.{Layout}
use Rattle.iom_virtqueue.specs.Layouts.{IsLayout}

-- the queue may lie so: a device that has a cache begins with an empty one, and a new epoch
pub record SetsLayout (old : BoardParts) (id : ℕ) (layout : Layout) (answer : Result (Unit {0}) Refusal) (new : BoardParts) : Type 0 where
  pub able : IsAble is_block_device old.devices id
  pub lies : IsLayout layout
  pub answered : answer ≡ Ok tt
  pub cleared : new ≡ record old { devices = with_reset old.devices id }

-- it can't
pub record HasBadQueue (old : BoardParts) (id : ℕ) (layout : Layout) (answer : Result (Unit {0}) Refusal) (new : BoardParts) : Type 0 where
  pub able : IsAble is_block_device old.devices id
  pub cannot : ¬ IsLayout layout
  pub answered : answer ≡ Err BadQueue
  pub same : new ≡ old

-- THE QUEUE OF A BLOCK DEVICE IS SET
abbrev pub SetsQueue : BoardParts → ℕ → Layout → Result (Unit {0}) Refusal → BoardParts → Type 0
SetsQueue old id layout answer new =
    FindsNoDevice old id answer new ⊎ FindsWrongKind is_block_device old id answer new ⊎ HasBadQueue old id layout answer new ⊎ SetsLayout old id layout answer new
