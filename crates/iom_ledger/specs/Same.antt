-- When two ledgers are equal: how much room their lists have is no matter.
use Rattle.std.specs.Prelude.{◌≡◌, ℕ, List, map}
use Rattle.iom_ledger.specs.declared.device_list.DevicePages.{DevicePages}
use Rattle.iom_ledger.specs.declared.device_list.Devices.{Devices}
use Rattle.iom_ledger.specs.declared.frame_rows.FrameRows.{FrameRows}
use Rattle.iom_ledger.specs.declared.page_row.PageRow.{PageRow}
use Rattle.iom_ledger.specs.declared.ledger.Ledger.{Ledger}

-- a device, with its pages and their rows in the order in which they are kept
abbrev pub rows_of_device : DevicePages → ℕ × List (ℕ × PageRow)
rows_of_device kept = (kept.device, kept.pages.entries)

-- the devices in the order in which they are kept, each with its pages
abbrev pub rows_of_devices : Devices → List (ℕ × List (ℕ × PageRow))
rows_of_devices devices = map rows_of_device devices.list.items

-- each frame has the same row, and the same frames are free
pub record IsSameFrameRows (one other : FrameRows) : Type 0 where
  pub rows : one.rows.items ≡ other.rows.items
  pub free : one.free ≡ other.free

-- the two have the same rows in the same order, and the same releases that aren't confirmed
pub record IsSameLedger (one other : Ledger) : Type 0 where
  pub devices : rows_of_devices one.devices ≡ rows_of_devices other.devices
  pub frames : IsSameFrameRows one.frames other.frames
  pub pending : one.pending.items ≡ other.pending.items
  pub ascending : one.ascending ≡ other.ascending
