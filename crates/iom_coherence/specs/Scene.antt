-- What lies between the grants and memory, as plain values: commands, tickets, copies of what was granted, messages, and accesses in flight.
use Rattle.std.specs.Prelude.{ℕ, Bool, List, Option}
use Rattle.iom_base.specs.declared.access.AccessKind.{AccessKind}
use Rattle.iom_ledger.specs.History.{History, Pair}
use Rattle.iom_machine.specs.declared.state.Attachment.{Attachment}
use Rattle.iom_base.specs.declared.device_kind.DeviceKind.{DeviceKind}
use Rattle.iom_coherence.specs.Queue.{Extent, QueuedCommand}

-- what somebody remembers of a page of a device
pub record Copy : Type 0 where
  -- whose page it is
  pub device : ℕ
  -- the page, by its number
  pub page : ℕ
  -- the frame, and the right to it
  pub pair : Pair

-- an access that was accepted and isn't made yet
pub record AccessInFlight : Type 0 where
  -- whose access it is
  pub device : ℕ
  -- the frame on which it was accepted
  pub frame : ℕ
  -- a read or a write
  pub kind : AccessKind
  -- its place in the order of acceptance, over all devices, from 1
  pub number : ℕ

-- a ticket that isn't confirmed
pub record PendingTicket : Type 0 where
  -- its number
  pub ticket : ℕ
  -- the number of the fence that it waits for
  pub fence : ℕ

-- what the fence at the head of the queue found when no slot was open
pub record FenceSnapshot : Type 0 where
  -- the number of that fence
  pub fence : ℕ
  -- how many accesses were accepted by then; the fence waits for these
  pub accepted : ℕ

-- an invalidation that a device is asked for: what a slot holds while it is open
pub record Invalidation : Type 0 where
  -- its serial, which is given once
  pub serial : ℕ
  -- the device
  pub device : ℕ

-- A message between the IOMMU and a device with a cache (PCI Express Base Specification, chapter 10). An answer that refuses is no copy, and has no place
-- here.
pub data AtsMessage : Type 0 where
  -- a Translation Request of the device, in its epoch
  Question : (device epoch page : ℕ) → AtsMessage
  -- the Translation Completion for a question of that epoch
  Answer : (epoch : ℕ) (copy : Copy) → AtsMessage
  -- an Invalidate Request on its way to the device
  InvalidateRequest : (invalidation : Invalidation) (extent : Extent) → AtsMessage
  -- an Invalidate Completion, with the device that sent it
  InvalidateCompletion : (invalidation : Invalidation) → AtsMessage

-- All of it, between two events.
pub record Scene : Type 0 where
  -- what happened to the grants, the newest entry first
  pub history : History
  -- the commands between head and tail of the queue, the oldest first
  pub waiting : List QueuedCommand
  -- the completion word: the number of the last fence that is done
  pub completed : ℕ
  -- the number of the last fence that was queued
  pub last_fence : ℕ
  -- the tickets that aren't confirmed, the oldest first
  pub pending : List PendingTicket
  -- the last ticket that was given
  pub given : ℕ
  -- the last ticket that was confirmed
  pub confirmed : ℕ
  -- what the fence at the head waits for, once it was fetched while no slot was open
  pub fence_snapshot : Option FenceSnapshot
  -- a fence has timed out (cmd_to), and no command is fetched until a restart
  pub is_stopped : Bool
  -- how many accesses were accepted, over all devices
  pub accepted : ℕ
  -- the accesses that were accepted and aren't made yet
  pub in_flight : List AccessInFlight
  -- what the device is, if one is plugged in with this id
  pub kind_of : ℕ → Option DeviceKind
  -- how the device is attached; detached where there is none
  pub attachment_of : ℕ → Attachment
  -- the devices whose context is in the context cache
  pub contexts : List ℕ
  -- what is in the translation cache
  pub translations : List Copy
  -- what is in the caches of the devices
  pub entries : List Copy
  -- the epoch of the device's cache
  pub epoch_of : ℕ → ℕ
  -- the messages under way
  pub messages : List AtsMessage
  -- the invalidations whose slot is open
  pub slots : List Invalidation
  -- the last serial that was given
  pub last_serial : ℕ
