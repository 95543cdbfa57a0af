-- THE ORDER OF A REQUEST'S ACCESSES (virtio 1.2, section 2.7, "Split Virtqueues", and section 5.2.6, "Device Operation").
use Rattle.std.specs.Prelude.{◌≡◌, ℕ, ◌+◌, ◌⊎◌, Bool, true, false, List, [], ◌∷◌, slice_get, Option, Some, None}
use Rattle.iom_virtqueue.specs.declared.phase.Phase.{Phase}
use Rattle.iom_virtqueue.specs.declared.phase.Phase.TheVariants.{AvailableIndex, RingEntry, Table, Served, UsedElement, UsedIndex, Faulted}
use Rattle.iom_virtio_blk.specs.declared.front.Front.{Front}
use Rattle.iom_virtio_blk.specs.declared.serving.Job.{Job}
use Rattle.iom_virtio_blk.specs.declared.serving.Job.TheVariants.{Header, Reading, Writing, Ending}
use Rattle.iom_virtio_blk.specs.declared.want.WantedAccess.{WantedAccess}
use Rattle.iom_virtio_blk.specs.declared.step.Step.TheVariants.{Finished, Wants}
use Rattle.iom_virtio_blk.specs.Steps.{Device, BlockDeviceSteps}

-- what an access is for
pub data Purpose : Type 0 where
  avail_idx : Purpose
  ring_entry : Purpose
  descriptor : Purpose
  header : Purpose
  sectors : Purpose
  status : Purpose
  used_element : Purpose
  used_idx : Purpose

-- the avail idx and the entry of the avail ring are read, then the descriptors of the chain; then the request's header is read, its data is read or written,
-- and its status is written; then the element of the used ring and the used idx are written
abbrev pub order_of_accesses : List Purpose
order_of_accesses = avail_idx ∷ ring_entry ∷ descriptor ∷ header ∷ sectors ∷ status ∷ used_element ∷ used_idx ∷ []

-- which of these may take several accesses: a chain has some descriptors, and what lies in some buffers, or across pages, is moved in pieces, data also
-- sector by sector
abbrev pub takes_some : Purpose → Bool
takes_some avail_idx = false
takes_some ring_entry = false
takes_some descriptor = true
takes_some header = true
takes_some sectors = true
takes_some status = false
takes_some used_element = true
takes_some used_idx = false

-- what comes after it: the next in the order; more of the same; or, where no data is moved, the status after the header
abbrev pub Follows : Purpose → Purpose → Type 0
Follows old new =
    ((k : ℕ) × (slice_get order_of_accesses k ≡ Some old) × (slice_get order_of_accesses (k + 1) ≡ Some new))
    ⊎ (((new ≡ old) × (takes_some old ≡ true)) ⊎ ((old ≡ header) × (new ≡ status)))

-- what the access is for that a device wants, by what its queue does, and while a chain is served by what is done for the request
abbrev pub purpose_at : Job → Purpose
purpose_at Header = header
purpose_at Reading = sectors
purpose_at Writing = sectors
purpose_at (Ending end) = status

abbrev pub purpose_in : Phase → Job → Option Purpose
purpose_in AvailableIndex job = Some avail_idx
purpose_in RingEntry job = Some ring_entry
purpose_in (Table index) job = Some descriptor
purpose_in Served job = Some (purpose_at job)
purpose_in (UsedElement done) job = Some used_element
purpose_in UsedIndex job = Some used_idx
purpose_in Faulted job = None

abbrev pub purpose_of : Front → Option Purpose
purpose_of b = purpose_in b.queue.phase b.serving.job

-- a step that goes on to another access goes on in this order
abbrev pub StepsFollowOrder : Type 0
StepsFollowOrder =
    (old new : Device) (want : WantedAccess) (purpose : Purpose) → BlockDeviceSteps old (Wants want) new → old.front.is_made ≡ true → purpose_of old.front ≡ Some purpose
    → (next : Purpose) × (purpose_of new.front ≡ Some next) × Follows purpose next

-- a request is finished by the last access of it, and the first of the next one is wanted then
abbrev pub FinishesLast : Type 0
FinishesLast =
    (old new : Device) (head len : ℕ) → BlockDeviceSteps old (Finished head len) new → (purpose_of old.front ≡ Some used_idx) × (purpose_of new.front ≡ Some avail_idx)
