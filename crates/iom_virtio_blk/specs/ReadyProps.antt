-- What holds of a device between two calls has one proof at most.
use Rattle.std.specs.Prelude.{◌≡◌, ℕ, List, length, None}
use Rattle.std.specs.Coded.{Coded-set, coded_ℕ, coded_bool, coded_option, le_prop}
use Rattle.iom_virtqueue.specs.Accesses.{Access, nothing, reads, writes, AreOf}
use Rattle.iom_virtqueue.specs.Chains.{Chain}
use Rattle.iom_virtio_blk.specs.declared.front.Front.{Front}
use Rattle.iom_virtio_blk.specs.declared.serving.Serving.{Serving}
use Rattle.iom_virtio_blk.specs.declared.serving.Job.{Job}
use Rattle.iom_virtio_blk.specs.declared.serving.Job.TheVariants.{Header, Reading, Writing, Ending}
use Rattle.iom_virtio_blk.specs.declared.request.RequestStatus.TheVariants.{Ok, IoError, Unsupported}
use Rattle.iom_virtio_blk.specs.Serving.{IsUnderWayIn}
use Rattle.iom_virtio_blk.specs.Blocks.{IsBetweenCalls, wanted_by}

number_prop : (x y : ℕ) → IsProp (x ≡ y)
number_prop x y = Coded-set coded_ℕ x y

AreOf-prop : (bytes : List ℕ) (access : Access) → IsProp (AreOf bytes access)
AreOf-prop bytes nothing = hlevel
AreOf-prop bytes (reads address len) = number_prop (length bytes) len
AreOf-prop bytes (writes address written) = number_prop (length bytes) 0

IsUnderWayIn-prop : (job : Job) (s : Serving) (chain : Chain) → IsProp (IsUnderWayIn job s chain)
IsUnderWayIn-prop Header s chain = hlevel (le_prop, number_prop)
IsUnderWayIn-prop Reading s chain = hlevel (le_prop, number_prop)
IsUnderWayIn-prop Writing s chain = hlevel (le_prop, number_prop)
IsUnderWayIn-prop (Ending Ok) s chain = hlevel (le_prop, number_prop)
IsUnderWayIn-prop (Ending IoError) s chain = hlevel (le_prop, number_prop)
IsUnderWayIn-prop (Ending Unsupported) s chain = hlevel (le_prop, number_prop)

pub IsReady-prop : (b : Front) → IsProp (IsBetweenCalls b)
IsReady-prop b =
    let under_way = IsUnderWayIn-prop b.serving.job b.serving b.queue.chain in
    let bytes = AreOf-prop b.got.items (wanted_by b) in
    let waits = Coded-set (coded_option coded_ℕ) b.waits None in
    let asked = Coded-set (coded_option coded_ℕ) b.asked None in
    let made = Coded-set coded_bool b.is_made in
    hlevel (under_way, bytes, waits, asked, made)
