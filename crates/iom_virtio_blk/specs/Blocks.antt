-- A block device, all but its disk, between two calls.
use Rattle.std.specs.Prelude.{◌≡◌, ◌≢◌, ◌⊎◌, ℕ, ◌+◌, ◌-◌, ◌%◌, Bool, true, false, List, ◌++◌, length, take, drop, Option, Some, None}
use Rattle.iom_virtqueue.specs.declared.phase.Phase.{Phase}
use Rattle.iom_virtqueue.specs.declared.phase.Phase.TheVariants.{Served, UsedElement, Faulted}
use Rattle.iom_virtqueue.specs.Descriptors.{number_at}
use Rattle.iom_virtqueue.specs.Accesses.{Access, AreOf}
use Rattle.iom_virtqueue.specs.Queues.{QueueState, wanted, fresh_queue}
use Rattle.iom_virtio_blk.specs.declared.front.Front.{Front}
use Rattle.iom_virtio_blk.specs.declared.stage.Stage.{Stage}
use Rattle.iom_virtio_blk.specs.declared.stage.Stage.TheVariants.{Reset, FeaturesOk, DriverOk, NeedsReset}
use Rattle.iom_virtqueue.specs.declared.layout.Layout.{Layout}
use Rattle.iom_virtio_blk.specs.declared.step.Call.{Call}
use Rattle.iom_virtio_blk.specs.declared.step.Reply.{Reply}
use Rattle.iom_virtio_blk.specs.declared.step.Reply.TheVariants.{Accepted, Busy, Asked, Fault}
use Rattle.iom_virtio_blk.specs.declared.request.Plan.{Plan}
use Rattle.iom_virtio_blk.specs.declared.serving.Serving.{Serving}
use Rattle.iom_virtio_blk.specs.declared.serving.Job.{Job}
use Rattle.iom_virtio_blk.specs.declared.serving.Job.TheVariants.{Header, Reading, Writing, Ending}
use Rattle.iom_virtio_blk.specs.Requests.{plan_of}
use Rattle.iom_virtio_blk.specs.Serving.{access_in, piece_in, piece_len, data_out, data_in, with_header, call_with_header, with_written, call_with_written, with_data, call_with_data, IsUnderWay}

-- which access the device wants: the queue's, or while a chain is served that of the request
abbrev pub wants_in : Phase → Front → Access
wants_in Served b = access_in b.serving b.buffer b.queue.chain
wants_in phase b = wanted b.queue

abbrev pub wanted_by : Front → Access
wanted_by b = wants_in b.queue.phase b

-- no access is under way, none was made, and no page is asked for
pub record IsQuiet (b : Front) : Type 0 where
  pub waits : b.waits ≡ None
  pub made : b.is_made ≡ false
  pub asked : b.asked ≡ None

-- what holds of a device between two calls
pub record IsBetweenCalls (b : Front) : Type 0 where
  pub running : b.stage ≡ DriverOk → b.queue.phase ≢ Faulted
  pub quiet : b.stage ≢ DriverOk → IsQuiet b
  pub serving : b.queue.phase ≡ Served → IsUnderWay b.serving b.queue.chain
  pub made : b.is_made ≡ true → (b.waits ≡ None) × AreOf b.got.items (wanted_by b)

-- the device works, and wants an access that it hasn't begun
pub record IsAsking (b : Front) : Type 0 where
  pub stage : b.stage ≡ DriverOk
  pub waits : b.waits ≡ None
  pub made : b.is_made ≡ false

-- the access was made, and its bytes aren't used yet
pub record IsTaking (b : Front) : Type 0 where
  pub stage : b.stage ≡ DriverOk
  pub waits : b.waits ≡ None
  pub made : b.is_made ≡ true

-- the device takes these bytes as those of the access that it waits for
pub record TakesBytes (old : Front) (bytes : List ℕ) (new : Front) : Type 0 where
  pub got : new.got.items ≡ bytes
  pub rest : new ≡ record old { is_made = true; waits = None; got = new.got }

-- the device gives up the access that it began, and what it had in work
abbrev pub given_up : Stage → Front → Front
given_up stage b = record b { stage = stage; is_made = false; waits = None; asked = None }

-- a fault: the device is to be reset
abbrev pub down : Front → Front
down b = given_up NeedsReset b

-- the access that it waits for was made, and gave these bytes: it takes them, or is to be reset where they aren't as many as it wants
abbrev pub EndsWaiting : Front → List ℕ → Front → Type 0
EndsWaiting old bytes new = (AreOf bytes (wanted_by old) × TakesBytes old bytes new) ⊎ ((¬ AreOf bytes (wanted_by old)) × (new ≡ down old))

-- what became of the access that it wants: it is this one of its accesses; it is to be tried again, perhaps with a page that was asked for and that
-- is remembered until then; it was refused
abbrev pub replied : Reply → Front → Front
replied (Accepted number) b = record b { waits = Some number; asked = None }
replied Busy b = b
replied (Asked page) b = record b { asked = Some page }
replied Fault b = down b

-- the device once the driver took features, where it may: it was reset, and these can be taken
abbrev pub negotiated : Stage → Option Bool → Front → Option Front
negotiated Reset (Some flush) b = Some (record b { stage = FeaturesOk; flush = flush })
negotiated Reset None b = None
negotiated FeaturesOk flush b = None
negotiated DriverOk flush b = None
negotiated NeedsReset flush b = None

-- the device once its queue is set, where it may be: its features are settled
abbrev pub with_queue : Stage → Layout → Front → Option Front
with_queue Reset layout b = None
with_queue FeaturesOk layout b = Some (record b { stage = DriverOk; queue = fresh_queue layout })
with_queue DriverOk layout b = None
with_queue NeedsReset layout b = None

-- the bytes, where those from the offset on are replaced by these
abbrev pub overlaid : List ℕ → ℕ → List ℕ → List ℕ
overlaid bytes offset replacement = take offset bytes ++ replacement ++ drop (offset + length replacement) bytes

-- what the buffer holds with the bytes that came: the header, or a sector for the disk
abbrev pub buffer_in : Job → Front → List ℕ
buffer_in Header b = overlaid b.buffer b.serving.read b.got.items
buffer_in Reading b = b.buffer
buffer_in Writing b = overlaid b.buffer ((b.serving.read - 16) % 512) b.got.items
buffer_in (Ending end) b = b.buffer

abbrev pub buffer_after : Front → List ℕ
buffer_after b = buffer_in b.serving.job b

-- a header: le32 type, le32 reserved, le64 sector
abbrev pub request_kind : List ℕ → ℕ
request_kind header = number_at 4 0 header

abbrev pub sector_in : List ℕ → ℕ
sector_in header = number_at 8 8 header

-- what the header in the buffer asks for, of a disk of so many sectors
abbrev pub planned : Front → Option ℕ → Plan
planned b sectors = plan_of (request_kind (buffer_in Header b)) (sector_in (buffer_in Header b)) (data_out b.queue.chain) (data_in b.queue.chain) sectors b.flush

-- the request after the access was made, if the call of the disk that follows goes well
abbrev pub serving_in : Job → Front → Option ℕ → Serving
serving_in Header b sectors = with_header b.serving (length b.got.items) (planned b sectors) (sector_in (buffer_in Header b)) b.queue.chain
serving_in Reading b sectors = with_written b.serving (piece_len (piece_in Reading b.serving b.queue.chain)) b.queue.chain
serving_in Writing b sectors = with_data b.serving (length b.got.items) b.queue.chain
serving_in (Ending end) b sectors = b.serving

-- the call of the disk that follows
abbrev pub call_in : Job → Front → Option ℕ → Option Call
call_in Header b sectors = call_with_header b.serving (length b.got.items) (planned b sectors) (sector_in (buffer_in Header b)) b.queue.chain
call_in Reading b sectors = call_with_written b.serving (piece_len (piece_in Reading b.serving b.queue.chain)) b.queue.chain
call_in Writing b sectors = call_with_data b.serving (length b.got.items)
call_in (Ending end) b sectors = None

abbrev pub call_after : Front → Option ℕ → Option Call
call_after b sectors = call_in b.serving.job b sectors

-- the queue once the status is written: the used element comes next, with the bytes of data and the status (as many as were written, wherever they
-- lie: the standard asks that at least so many bytes from the first writable one on were written, so a driver mustn't read more into it where a
-- request failed)
abbrev pub queue_in : Job → Front → QueueState
queue_in (Ending end) b = record b.queue { phase = UsedElement 0; written = b.serving.wrote + 1 }
queue_in job b = b.queue

-- the device after the access for the request was made, but for the call of its disk
abbrev pub after_served : Front → Option ℕ → Front
after_served b sectors = record b { is_made = false; buffer = buffer_after b; serving = serving_in b.serving.job b sectors; queue = queue_in b.serving.job b }
