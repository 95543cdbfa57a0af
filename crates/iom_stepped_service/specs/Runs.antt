-- A request that begins, and all its loads with nothing else between them, beside one that is served in one event (RISC-V IOMMU specification, section 2.3, "Process to
-- translate an IOVA").
use Rattle.std.specs.Prelude.{◌≡◌, ℕ, zero, suc, List, None}
use Rattle.iom_base.specs.declared.access.Access.{Access}
use Rattle.iom_iommu.specs.OwnIommu.{Iommu}
use Rattle.iom_iommu.specs.Parts.{IsAdded}
use Rattle.iom_iommu.specs.Requests.{AnswersRequest}
use Rattle.iom_iommu.specs.Stepped.{BeginsRequest, LoadsNext}
use Rattle.iom_iommu.specs.declared.begun.Begun.TheVariants.{Answered, Walking}
use Rattle.iom_iommu.specs.declared.begun.Load.TheVariants.{Loaded, Ended}
use Rattle.iom_iommu.specs.declared.reply.Reply.{Reply}
use Rattle.iom_walks.specs.Walks.{WalkRow, under_way_of}

-- ALL LOADS of the device's request that is under way, with nothing else between them: so many go on, and one more ends it with this reply
abbrev pub LoadsToEnd : ℕ → List (List ℕ) → Iommu → List WalkRow → ℕ → Reply → List (List ℕ) → Iommu → List WalkRow → Type 0
LoadsToEnd zero memory old rows id reply new_memory new new_rows = LoadsNext memory old rows id (Ended reply) new_memory new new_rows
LoadsToEnd (suc more) memory old rows id reply new_memory new new_rows =
    (next : Iommu) × (next_rows : List WalkRow) × LoadsNext memory old rows id Loaded memory next next_rows
    × LoadsToEnd more memory next next_rows id reply new_memory new new_rows

-- what is under way of each device is what was
abbrev pub SameUnderWay : List WalkRow → List WalkRow → Type 0
SameUnderWay old new = (other : ℕ) → under_way_of new other ≡ under_way_of old other

-- A REQUEST IS THE RUN OF ITS LOADS: where it begins, and all its loads are made before anything else, it is answered as one that is served in one event, and leaves
-- memory, both caches, accesses in flight, registers and fault queue as that does; and nothing of it is under way
abbrev pub RunsAreRequests : Type 0
RunsAreRequests = (memory new_memory : List (List ℕ)) (old begun new : Iommu) (rows begun_rows new_rows : List WalkRow) (id : ℕ) (access : Access) (more : ℕ) (reply : Reply)
    → IsAdded old id → BeginsRequest memory old rows id access Walking memory begun begun_rows
    → LoadsToEnd more memory begun begun_rows id reply new_memory new new_rows
    → AnswersRequest memory old id access reply new_memory new × SameUnderWay rows new_rows

-- so does one that needs no load, and one that is refused at once, where nothing else of its device is under way
abbrev pub AnswersAreRequests : Type 0
AnswersAreRequests = (memory new_memory : List (List ℕ)) (old new : Iommu) (rows new_rows : List WalkRow) (id : ℕ) (access : Access) (reply : Reply)
    → IsAdded old id → under_way_of rows id ≡ None → BeginsRequest memory old rows id access (Answered reply) new_memory new new_rows
    → AnswersRequest memory old id access reply new_memory new × (new_rows ≡ rows)
