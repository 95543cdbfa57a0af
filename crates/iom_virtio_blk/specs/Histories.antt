-- What the disk of a device holds, told by the requests that the device served (virtio 1.2, section 5.2.6).
use Rattle.std.specs.Prelude.{◌≡◌, ℕ, ◌+◌, ◌-◌, ◌*◌, ◌/◌, ◌%◌, ◌<◌, ◌≤◌, ◌⊎◌, Bool, true, false, List, [], ◌∷◌, ◌++◌, length, take, drop, slice_get, Option, Some, None}
use Rattle.iom_virtqueue.specs.declared.phase.Phase.{Phase}
use Rattle.iom_virtqueue.specs.declared.phase.Phase.TheVariants.{Served}
use Rattle.iom_virtio_blk.specs.declared.stage.Stage.TheVariants.{DriverOk}
use Rattle.iom_virtio_blk.specs.declared.request.RequestStatus.TheVariants as status
use Rattle.iom_virtio_blk.specs.declared.serving.Serving.{Serving}
use Rattle.iom_virtio_blk.specs.declared.serving.Job.{Job}
use Rattle.iom_virtio_blk.specs.declared.serving.Job.TheVariants.{Header, Reading, Writing, Ending}
use Rattle.iom_virtio_blk.specs.Disks.{DidRead, IsThere}
use Rattle.iom_virtio_blk.specs.DiskStates.{DiskState}
use Rattle.iom_virtio_blk.specs.Steps.{Device}

-- what happened to a disk: it was put in as it is; an OUT gave these bytes of data, in order from a first sector on, and each sector that is
-- complete was written; an OUT gave these bytes, and the write of its last sector failed
pub data Entry : Type 0 where
  inserted : List (List ℕ) → Entry
  gave : ℕ → List ℕ → Entry
  failed : ℕ → List ℕ → Entry

-- the data has the sector complete, and with these bytes
abbrev pub Gives : ℕ → List ℕ → ℕ → List ℕ → Type 0
Gives first «data» n bytes = (first ≤ n) × (512 * (n - first) + 512 ≤ length «data») × (bytes ≡ take 512 (drop (512 * (n - first)) «data»))

-- the data doesn't have the sector
abbrev pub IsApart : ℕ → List ℕ → ℕ → Type 0
IsApart first «data» n = (n < first) ⊎ (length «data» < 512 * (n - first) + 512)

-- the sector may hold these bytes after this history, whose newest entry is first: the last OUT that has it decides, and one that failed may
abbrev pub MayHold : List Entry → ℕ → List ℕ → Type 0
MayHold [] n bytes = Unit {0}
MayHold (inserted map ∷ earlier) n bytes = slice_get map n ≡ Some bytes
MayHold (gave first «data» ∷ earlier) n bytes = Gives first «data» n bytes ⊎ (IsApart first «data» n × MayHold earlier n bytes)
MayHold (failed first «data» ∷ earlier) n bytes = Gives first «data» n bytes ⊎ MayHold earlier n bytes

-- the sectors are the fold of the history
abbrev pub IsDisk : List Entry → List (List ℕ) → Type 0
IsDisk history map = (n : ℕ) (bytes : List ℕ) → slice_get map n ≡ Some bytes → MayHold history n bytes

-- and so is the disk, if there is one
abbrev pub IsMap : List Entry → Option DiskState → Type 0
IsMap history None = Unit {0}
IsMap history (Some disk) = IsDisk history disk.sectors

-- the newest entry is the OUT in work, with the data that was read of it so far
abbrev pub Gave : Serving → List Entry → Type 0
Gave s [] = ⊥
Gave s (inserted map ∷ earlier) = ⊥
Gave s (gave first «data» ∷ earlier) = (first ≡ s.sector) × (s.read ≡ 16 + length «data»)
Gave s (failed first «data» ∷ earlier) = ⊥

-- the buffer begins with the bytes of the sector that isn't complete
abbrev pub IsIncompleteSector : List ℕ → List Entry → Type 0
IsIncompleteSector buffer [] = Unit {0}
IsIncompleteSector buffer (inserted map ∷ earlier) = Unit {0}
IsIncompleteSector buffer (gave first «data» ∷ earlier) = take (length «data» % 512) buffer ≡ drop (length «data» - length «data» % 512) «data»
IsIncompleteSector buffer (failed first «data» ∷ earlier) = Unit {0}

-- what holds of the request in work: the buffer of an IN holds the sector of the disk that is being written to memory; an OUT is the newest entry,
-- when it ended OK with all of its data
abbrev pub InWork : Job → Serving → List ℕ → List Entry → Option DiskState → Type 0
InWork Header s buffer history disk = Unit {0}
InWork Reading s buffer history disk = DidRead disk (s.sector + s.wrote / 512) buffer
InWork Writing s buffer history disk = IsThere disk × Gave s history × IsIncompleteSector buffer history
InWork (Ending status.Ok) s buffer history disk = 16 < s.read → IsThere disk × Gave s history
InWork (Ending end) s buffer history disk = Unit {0}

-- the device's disk is told by the history
pub record TellsDisk (history : List Entry) (device : Device) : Type 0 where
  pub map : IsMap history device.disk
  pub work : device.front.stage ≡ DriverOk → device.front.queue.phase ≡ Served
      → InWork device.front.serving.job device.front.serving device.front.buffer history device.disk

-- the newest entry with more data
abbrev pub with_more : List ℕ → List Entry → List Entry
with_more got [] = []
with_more got (inserted map ∷ earlier) = inserted map ∷ earlier
with_more got (gave first «data» ∷ earlier) = gave first («data» ++ got) ∷ earlier
with_more got (failed first «data» ∷ earlier) = failed first «data» ∷ earlier

-- the newest entry with more data, the last of which wasn't written
abbrev pub with_failure : List ℕ → List Entry → List Entry
with_failure got [] = []
with_failure got (inserted map ∷ earlier) = inserted map ∷ earlier
with_failure got (gave first «data» ∷ earlier) = failed first («data» ++ got) ∷ earlier
with_failure got (failed first «data» ∷ earlier) = failed first «data» ∷ earlier

-- the history after a request used the bytes of its access, by what it did then and does now: an OUT begins once its header was read, its data grows
-- by the bytes that came, and it fails where the disk failed
abbrev pub recorded : Job → Job → ℕ → List ℕ → List Entry → List Entry
recorded Header Header sector got history = history
recorded Header Reading sector got history = history
recorded Header Writing sector got history = gave sector [] ∷ history
recorded Header (Ending end) sector got history = history
recorded Reading job sector got history = history
recorded Writing Header sector got history = history
recorded Writing Reading sector got history = history
recorded Writing Writing sector got history = with_more got history
recorded Writing (Ending status.Ok) sector got history = with_more got history
recorded Writing (Ending end) sector got history = with_failure got history
recorded (Ending end) job sector got history = history

abbrev pub recorded_in : Phase → Device → Device → List Entry → List Entry
recorded_in Served old new history = recorded old.front.serving.job new.front.serving.job new.front.serving.sector old.front.got.items history
recorded_in phase old new history = history

-- the history after a step
abbrev pub history_after : Bool → Device → Device → List Entry → List Entry
history_after false old new history = history
history_after true old new history = recorded_in old.front.queue.phase old new history

-- a history that tells the disk before goes on to one that tells it afterwards
abbrev pub KeepsTelling : Device → Device → Type 0
KeepsTelling old new = (history : List Entry) → TellsDisk history old → TellsDisk (history_after old.front.is_made old new history) new
