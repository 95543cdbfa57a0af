-- What waits in a world, as far as copies go: the commands between head and tail of the ring, and the tickets that aren't confirmed.
-- For the facts that a world carries alone; no public contract cites these.
use Rattle.std.specs.Prelude.{◌≡◌, ℕ, zero, suc, ◌+◌, List, [], ◌∷◌, length, Option, Some, None, Contains, ⊤}
use Rattle.std.specs.Option.{option_map_or}
use Rattle.iom_command_queue.specs.declared.command.Command.{Command as Commanded}
use Rattle.iom_command_queue.specs.declared.command.Command.TheVariants.{IotinvalVma, IotinvalGvma, IofenceC, IodirInvalDdt, AtsInval}
use Rattle.iom_command_queue.specs.declared.entry.QueueEntry.{QueueEntry}
use Rattle.iom_command_queue.specs.declared.entry.QueueEntry.TheVariants.{Command}
use Rattle.iom_coherence.specs.Queue.{Extent, OnePage, WholeSpace, QueuedCommand, DropTranslations, DropContext, Invalidate, Fence}
use Rattle.iom_coherence.specs.Scene.{PendingTicket}
use Rattle.iom_driver.specs.Appends.{fence}
use Rattle.iom_driver.specs.Layout.{completion_address}
use Rattle.iom_phys_mem.specs.Words.{word_at}
use Rattle.iom_world_effects.specs.Messages.{range_of}
use Rattle.iom_world_effects.specs.Traffic.{extent_of_range}
use Rattle.iom_tlb.specs.declared.space.Space.{Space}
use Rattle.iom_tlb.specs.declared.space.Space.TheVariants as space

-- the number that the last fence that was done stored
abbrev pub completed_in : List (List ℕ) → ℕ
completed_in memory = option_map_or (λ word. word) (word_at 4 memory (completion_address (length memory))) 0

-- the invalidation with which the driver drops translations of an address space: of a page, or all
abbrev pub invalidation_in : Space → Option ℕ → Commanded
invalidation_in (space.First pscid) page = IotinvalVma None (Some pscid) page
invalidation_in (space.Second gscid) page = IotinvalGvma (Some gscid) page
invalidation_in (space.Both gscid pscid) page = IotinvalGvma (Some gscid) page

-- the page that is named, or all
abbrev pub extent_of : Option ℕ → Extent
extent_of None = WholeSpace
extent_of (Some page) = OnePage page

-- which pages of the address space it is about. In both stages the page that it names is a guest physical one, and all go
abbrev pub extent_in : Space → Option ℕ → Extent
extent_in (space.First pscid) page = extent_of page
extent_in (space.Second gscid) page = extent_of page
extent_in (space.Both gscid pscid) page = WholeSpace

-- an invalidation of translations is one of the device's: it is about the device's address space
pub record IsInvalidation (space_of : ℕ → Option Space) (device : ℕ) (extent : Extent) (command : Commanded) : Type 0 where
  pub space : Space
  pub page : Option ℕ
  pub own : space_of device ≡ Some space
  pub named : command ≡ invalidation_in space page
  pub about : extent ≡ extent_in space page

-- what stands in the ring is this command of the driver's, whose fences store their numbers at this address, where devices have these address spaces
abbrev pub IsQueuedAs : ℕ → (ℕ → Option Space) → QueueEntry → QueuedCommand → Type 0
IsQueuedAs address space_of (Command (IotinvalVma gscid pscid page)) (DropTranslations device extent) = IsInvalidation space_of device extent (IotinvalVma gscid pscid page)
IsQueuedAs address space_of (Command (IotinvalGvma gscid page)) (DropTranslations device extent) = IsInvalidation space_of device extent (IotinvalGvma gscid page)
IsQueuedAs address space_of (Command (IofenceC store wsi pr pw)) (Fence number) = IofenceC store wsi pr pw ≡ fence address number
IsQueuedAs address space_of (Command (IodirInvalDdt (Some id))) (DropContext device) = id ≡ device
IsQueuedAs address space_of (Command (AtsInval id range)) (Invalidate device extent) = (id ≡ device) × (extent ≡ extent_of_range (range_of range))
IsQueuedAs address space_of _ _ = ⊥

-- what stands in the ring are these, one by one
abbrev pub AreQueuedAs : ℕ → (ℕ → Option Space) → List QueueEntry → List QueuedCommand → Type 0
AreQueuedAs address space_of [] [] = ⊤
AreQueuedAs address space_of (entry ∷ entries) (queued ∷ later) = IsQueuedAs address space_of entry queued × AreQueuedAs address space_of entries later
AreQueuedAs address space_of _ _ = ⊥

-- what is queued to drop the device's translations stands in front of the fence of this number
abbrev pub ComeBefore : ℕ → ℕ → List QueuedCommand → Type 0
ComeBefore device fence [] = ⊤
ComeBefore device fence (DropTranslations d extent ∷ later) = (d ≡ device → Contains later (Fence fence)) × ComeBefore device fence later
ComeBefore device fence (DropContext d ∷ later) = ComeBefore device fence later
ComeBefore device fence (Invalidate d extent ∷ later) = ComeBefore device fence later
ComeBefore device fence (Fence number ∷ later) = ComeBefore device fence later

-- the tickets after the first number, so many, each waiting for its fence
abbrev pub pending_after : (ℕ → ℕ) → ℕ → ℕ → List PendingTicket
pending_after fence_of first zero = []
pending_after fence_of first (suc n) = record { ticket = first + 1; fence = fence_of (first + 1) } ∷ pending_after fence_of (first + 1) n
