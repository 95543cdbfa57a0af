-- What the command at the head of the queue waits for (IOMMU specification, section 3.1, "Command-Queue (CQ)", and 3.1.2, "IOMMU Command-queue Fence commands").
use Rattle.std.specs.Prelude.{◌≡◌, ◌-◌, ◌≤◌, ℕ, Bool, false, true, Option, Some, None, slice_get, if◌then◌else◌}
use Rattle.iom_base.specs.declared.access.AccessKind.{AccessKind}
use Rattle.iom_base.specs.declared.access.AccessKind.TheVariants.{Read, Write}
use Rattle.iom_command_queue.specs.declared.command.Command.{Command}
use Rattle.iom_command_queue.specs.declared.command.Command.TheVariants.{IotinvalVma, IotinvalGvma, IofenceC, IodirInvalDdt, AtsInval}
use Rattle.iom_command_queue.specs.declared.entry.QueueEntry.{QueueEntry}
use Rattle.iom_command_queue.specs.declared.entry.QueueEntry.TheVariants as stands
use Rattle.iom_board.specs.declared.board.Board.{Board}
use Rattle.iom_inflight.specs.declared.made.MadeAt.{MadeAt}
use Rattle.iom_inflight.specs.Flights.{row_of, oldest_in, oldest_number_in, accepted_in, count_in}
use Rattle.iom_iommu.specs.Fetches.{head_entry, are_full, counted_in}
use Rattle.iom_iommu.specs.Parts.{registers_of, slots_of, flights_of}
use Rattle.iom_machine.specs.declared.outcome.CommandName.{CommandName}
use Rattle.iom_machine.specs.declared.outcome.CommandName.TheVariants as named
use Rattle.iom_registers.specs.Queues.{is_processing_commands}
use Rattle.iom_explain.specs.declared.head.AwaitedAccess.{AwaitedAccess}
use Rattle.iom_explain.specs.declared.head.HeadWait.{HeadWait}
use Rattle.iom_explain.specs.declared.head.HeadWait.TheVariants.{Stopped, Empty, Unreadable, Request, Access, NoSlot, Next}

abbrev pub name_of : Command → CommandName
name_of (IotinvalVma gscid pscid page) = named.IotinvalVma
name_of (IotinvalGvma gscid page) = named.IotinvalGvma
name_of (IofenceC store wsi pr pw) = named.IofenceC
name_of (IodirInvalDdt device) = named.IodirInvalDdt
name_of (AtsInval device range) = named.AtsInval

-- whether a fence with PR and PW waits for accesses of the kind
abbrev pub is_waited_for : AccessKind → Bool → Bool → Bool
is_waited_for Read pr pw = pr
is_waited_for Write pr pw = pw

-- The oldest access of the device is in flight, was accepted up to this number, and a fence with PR and PW waits for its kind. It has this number among those
-- of its device.
pub record IsAwaited (hardware : Board) (pr pw : Bool) (before : ℕ) (access : AwaitedAccess) : Type 0 where
  pub place : ℕ
  pub made : MadeAt
  pub oldest : oldest_in (row_of (flights_of hardware.iommu).rows access.device) ≡ Some made
  pub numbered : oldest_number_in (row_of (flights_of hardware.iommu).rows access.device) ≡ Some place
  pub earlier : place ≤ before
  pub kind : is_waited_for made.kind pr pw ≡ true
  pub number : access.number ≡ accepted_in (row_of (flights_of hardware.iommu).rows access.device) - (count_in (row_of (flights_of hardware.iommu).rows access.device) - 1)

-- what a fence at the head waits for: the request that has been open longest; where none is, an access that was accepted before it counted, if it names one
abbrev pub FenceWaits : Board → Bool → Bool → HeadWait → Type 0
FenceWaits hardware pr pw (Request device serial) = slice_get (slots_of hardware.iommu).open_slots 0 ≡ Some (record { serial = serial; device = device })
FenceWaits hardware pr pw (Access access) = (slice_get (slots_of hardware.iommu).open_slots 0 ≡ None) × IsAwaited hardware pr pw (counted_in hardware.iommu) access
FenceWaits hardware pr pw (Next name) = (slice_get (slots_of hardware.iommu).open_slots 0 ≡ None) × (name ≡ named.IofenceC)
FenceWaits hardware pr pw Stopped = ⊥
FenceWaits hardware pr pw Empty = ⊥
FenceWaits hardware pr pw Unreadable = ⊥
FenceWaits hardware pr pw NoSlot = ⊥

-- ATS.INVAL waits while as many requests are open as may be
abbrev pub RequestWaits : Board → HeadWait → Type 0
RequestWaits hardware wait = wait ≡ (if are_full (slots_of hardware.iommu) then NoSlot else Next named.AtsInval)

-- what the command at the head waits for; an invalidation of translations or contexts for nothing
abbrev pub CommandWaits : Board → Command → HeadWait → Type 0
CommandWaits hardware (IofenceC store wsi pr pw) wait = FenceWaits hardware pr pw wait
CommandWaits hardware (AtsInval device range) wait = RequestWaits hardware wait
CommandWaits hardware (IotinvalVma gscid pscid page) wait = wait ≡ Next named.IotinvalVma
CommandWaits hardware (IotinvalGvma gscid page) wait = wait ≡ Next named.IotinvalGvma
CommandWaits hardware (IodirInvalDdt device) wait = wait ≡ Next named.IodirInvalDdt

-- by whether commands are processed, and what stands at the head
abbrev pub HeadWaits : Board → Bool → Option QueueEntry → HeadWait → Type 0
HeadWaits hardware false entry wait = wait ≡ Stopped
HeadWaits hardware true None wait = wait ≡ Empty
HeadWaits hardware true (Some stands.Outside) wait = wait ≡ Unreadable
HeadWaits hardware true (Some (stands.Illegal reason)) wait = wait ≡ Unreadable
HeadWaits hardware true (Some (stands.Command command)) wait = CommandWaits hardware command wait

-- WHAT THE COMMAND QUEUE STANDS AT
abbrev pub IsHeadWait : Board → HeadWait → Type 0
IsHeadWait hardware wait =
    HeadWaits hardware (is_processing_commands (registers_of hardware.iommu)) (head_entry hardware.memory (registers_of hardware.iommu)) wait
