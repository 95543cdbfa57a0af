-- What the layers below promise, of which a step of the world makes use.
-- For the calls inside this crate alone; no public contract cites these.
use Rattle.std.specs.Prelude.{◌^◌, ◌<◌}
use Rattle.iom_directory_build.specs.Laws.{LawfulEnds}
use Rattle.iom_driver.specs.Laws.{ReadyStays, ReadyAfterRecord}
use Rattle.iom_page_table.specs.Laws.{WalkReachesLeaf, WalkFaultsElse}
use Rattle.iom_page_table.specs.GuestLaws.{GuestWalkReachesLeaf, GuestLeaves, GuestWalkFaultsElse, GuestTablesFault}
use Rattle.iom_machine.specs.declared.event.Event.{Event}
use Rattle.iom_machine.specs.declared.event.Event.TheVariants.{Read, Write}
use Rattle.iom_stage_walk.specs.Laws.{OneEnd, OneEndSecond, WritesAsReadsSecond, WritesAsReadsBoth, GuestFramesAreLed}

pub record LawsBelow : Type 0 where
  pub ends : LawfulEnds
  pub reaches : WalkReachesLeaf
  pub faults : WalkFaultsElse
  pub one_end : OneEnd
  pub guest_reaches : GuestWalkReachesLeaf
  pub guest_leaves : GuestLeaves
  pub guest_faults : GuestWalkFaultsElse
  pub guest_tables : GuestTablesFault
  pub one_end_second : OneEndSecond
  pub as_reads_second : WritesAsReadsSecond
  pub as_reads_both : WritesAsReadsBoth
  pub led : GuestFramesAreLed
  pub unchanged : ReadyStays
  pub reported : ReadyAfterRecord

-- the address that a device names is one of 64 bits
abbrev pub AddressFits : Event → Type 0
AddressFits (Read device address len) = address < 2 ^ 64
AddressFits (Write device address bytes) = address < 2 ^ 64
AddressFits _ = Unit {0}
