-- What a ticket waits for: the fence that was queued behind its invalidation, and the poll behind that.
use Rattle.std.specs.Prelude.{◌≡◌, ◌≤◌, ℕ, Bool, false, Some, slice_get}
use Rattle.iom_command_queue.specs.declared.command.Command.TheVariants.{IofenceC}
use Rattle.iom_command_queue.specs.declared.command.FenceStore.{FenceStore}
use Rattle.iom_command_queue.specs.declared.entry.QueueEntry.TheVariants as stands
use Rattle.iom_command_queue.specs.Waiting.{commands_in}
use Rattle.iom_driver.specs.Layout.{completion_address}
use Rattle.iom_driver.specs.Looks.{awaited_fence}
use Rattle.iom_driver.specs.StateOf.{state_of}
use Rattle.iom_iommu.specs.Parts.{registers_of}
use Rattle.iom_phys_mem.specs.Words.{word_at}
use Rattle.iom_registers.specs.Queues.{is_processing_commands}
use Rattle.iom_virtio_blk.specs.declared.disk.Disk.{Ghosts}
use Rattle.iom_world.specs.declared.world.World.{World}
use Rattle.iom_explain.specs.declared.tickets.TicketWait.{TicketWait}
use Rattle.iom_explain.specs.declared.tickets.TicketWait.TheVariants.{NextPoll, Restart, Queued}
use Rattle.iom_explain.specs.Waits.{IsHeadWait}

-- the completion word isn't below the fence's number: it is done
pub record IsDone {D : Type 0} {d : Ghosts D} (world : World D d) (fence : ℕ) : Type 0 where
  pub word : ℕ
  pub read : word_at 4 world.hardware.board.memory (completion_address world.driver.frames) ≡ Some word
  pub reached : fence ≤ word

-- the fence that stores this number stands at this place of the commands that wait, the head's at 0
pub record StandsAt {D : Type 0} {d : Ghosts D} (world : World D d) (fence place : ℕ) : Type 0 where
  pub store : FenceStore
  pub wsi : Bool
  pub pr : Bool
  pub pw : Bool
  pub there : slice_get (commands_in world.hardware.board.memory (registers_of world.hardware.board.iommu)) place ≡ Some (stands.Command (IofenceC (Some store) wsi pr pw))
  pub stores : store.data ≡ fence

-- what the fence waits for
abbrev pub FenceAwaits : {D : Type 0} {d : Ghosts D} → World D d → ℕ → TicketWait → Type 0
FenceAwaits world fence NextPoll = IsDone world fence
FenceAwaits world fence Restart = is_processing_commands (registers_of world.hardware.board.iommu) ≡ false
FenceAwaits world fence (Queued before head) = StandsAt world fence before × IsHeadWait world.hardware.board head

-- WHAT A TICKET WAITS FOR that was given and isn't confirmed
pub record IsTicketWait {D : Type 0} {d : Ghosts D} (world : World D d) (ticket : ℕ) (wait : TicketWait) : Type 0 where
  pub fence : ℕ
  pub awaited : awaited_fence (state_of world.driver) ticket ≡ Some fence
  pub waits : FenceAwaits world fence wait
