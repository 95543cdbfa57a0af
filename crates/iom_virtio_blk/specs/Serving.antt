-- How a block device goes through a request's buffers (virtio 1.2, section 5.2.6: header, data, status).
use Rattle.std.specs.Prelude.{◌≡◌, ℕ, ◌+◌, ◌-◌, ◌/◌, ◌%◌, ◌<◌, ◌≤◌, ◌^◌, ◌==◌, nat_le, if◌then◌else◌, List, [], ◌∷◌, take, drop, Option, Some, None}
use Rattle.iom_virtqueue.specs.declared.spans.Piece.{Piece}
use Rattle.iom_virtqueue.specs.Chains.{Chain, byte_count}
use Rattle.iom_virtqueue.specs.Spans.{piece_of}
use Rattle.iom_virtqueue.specs.Accesses.{Access, nothing, reads, writes}
use Rattle.iom_virtio_blk.specs.declared.request.Plan.{Plan}
use Rattle.iom_virtio_blk.specs.declared.request.Plan.TheVariants as plan
use Rattle.iom_virtio_blk.specs.declared.request.RequestStatus.TheVariants as status
use Rattle.iom_virtio_blk.specs.declared.step.Call.{Call}
use Rattle.iom_virtio_blk.specs.declared.step.Call.TheVariants as call
use Rattle.iom_virtio_blk.specs.declared.serving.Serving.{Serving}
use Rattle.iom_virtio_blk.specs.declared.serving.Job.{Job}
use Rattle.iom_virtio_blk.specs.declared.serving.Job.TheVariants.{Header, Reading, Writing, Ending}
use Rattle.iom_virtio_blk.specs.Requests.{status_byte}

-- a request of which nothing was read
abbrev pub unread : Serving
unread = record { job = Header; sector = 0; read = 0; wrote = 0 }

-- the data bytes of a chain: those that are read after the header, and those that are written before the status
abbrev pub data_out : Chain → ℕ
data_out chain = byte_count chain.readable - 16

abbrev pub data_in : Chain → ℕ
data_in chain = byte_count chain.writable - 1

-- where the next bytes lie: the header's 16, the rest of a sector, or the last writable byte
abbrev pub piece_in : Job → Serving → Chain → Option Piece
piece_in Header s chain = piece_of chain.readable s.read (16 - s.read)
piece_in Reading s chain = piece_of chain.writable s.wrote (512 - s.wrote % 512)
piece_in Writing s chain = piece_of chain.readable s.read (512 - (s.read - 16) % 512)
piece_in (Ending status) s chain = piece_of chain.writable (byte_count chain.writable - 1) 1

-- the access to a piece: what is written is the sector in the buffer, or the status
abbrev pub access_at : Job → Serving → List ℕ → Option Piece → Access
access_at job s buffer None = nothing
access_at Header s buffer (Some piece) = reads piece.address piece.len
access_at Reading s buffer (Some piece) = writes piece.address (take piece.len (drop (s.wrote % 512) buffer))
access_at Writing s buffer (Some piece) = reads piece.address piece.len
access_at (Ending status) s buffer (Some piece) = writes piece.address (status_byte status ∷ [])

abbrev pub access_in : Serving → List ℕ → Chain → Access
access_in s buffer chain = access_at s.job s buffer (piece_in s.job s chain)

abbrev pub piece_len : Option Piece → ℕ
piece_len None = 0
piece_len (Some piece) = piece.len

-- what is done after the header, by the plan, if the call of the disk that comes with it goes well; without data an IN or OUT is done
abbrev pub begun_serving : Plan → ℕ → Serving → Chain → Serving
begun_serving plan.ReadDisk sector s chain = record s { sector = sector; job = (if data_in chain == 0 then Ending status.Ok else Reading) }
begun_serving plan.WriteDisk sector s chain = record s { sector = sector; job = (if data_out chain == 0 then Ending status.Ok else Writing) }
begun_serving plan.FlushDisk sector s chain = record s { sector = sector; job = Ending status.Ok }
begun_serving (plan.End end) sector s chain = record s { sector = sector; job = Ending end }

-- the call of the disk that comes with it: an IN reads its first sector before it writes anything to memory
abbrev pub disk_call_of : Plan → ℕ → Chain → Option Call
disk_call_of plan.ReadDisk sector chain = if data_in chain == 0 then None else Some (call.Read sector)
disk_call_of plan.WriteDisk sector chain = None
disk_call_of plan.FlushDisk sector chain = Some call.Flush
disk_call_of (plan.End end) sector chain = None

-- more of the header was read
abbrev pub with_header : Serving → ℕ → Plan → ℕ → Chain → Serving
with_header s len plan sector chain =
    if s.read + len == 16 then begun_serving plan sector (record s { read = s.read + len }) chain else record s { read = s.read + len }

abbrev pub call_with_header : Serving → ℕ → Plan → ℕ → Chain → Option Call
call_with_header s len plan sector chain = if s.read + len == 16 then disk_call_of plan sector chain else None

-- more data was written to memory: once a sector is there the next one is read from the disk
abbrev pub with_written : Serving → ℕ → Chain → Serving
with_written s len chain = record s { wrote = s.wrote + len; job = (if nat_le (data_in chain) (s.wrote + len) then Ending status.Ok else Reading) }

abbrev pub call_with_written : Serving → ℕ → Chain → Option Call
call_with_written s len chain =
    if nat_le (data_in chain) (s.wrote + len) then None
    else (if (s.wrote + len) % 512 == 0 then Some (call.Read (s.sector + (s.wrote + len) / 512)) else None)

-- more data was read from memory: a sector that is complete is written to the disk
abbrev pub with_data : Serving → ℕ → Chain → Serving
with_data s len chain = record s { read = s.read + len; job = (if nat_le (byte_count chain.readable) (s.read + len) then Ending status.Ok else Writing) }

abbrev pub call_with_data : Serving → ℕ → Option Call
call_with_data s len =
    if (s.read + len - 16) % 512 == 0 then Some (call.Write (s.sector + ((s.read + len - 16) / 512 - 1))) else None

-- what holds of a request in work: how far the header and the data can have come; data is whole sectors
abbrev pub IsUnderWayIn : Job → Serving → Chain → Type 0
IsUnderWayIn Header s chain = (s.read < 16) × (s.wrote ≡ 0)
IsUnderWayIn Reading s chain = (s.wrote < data_in chain) × (s.read ≡ 16) × (data_in chain % 512 ≡ 0) × (s.sector + data_in chain / 512 < 2 ^ 64)
IsUnderWayIn Writing s chain = (16 ≤ s.read) × (s.read < byte_count chain.readable) × (s.wrote ≡ 0) × (data_out chain % 512 ≡ 0) × (s.sector + data_out chain / 512 < 2 ^ 64)
IsUnderWayIn (Ending status.Ok) s chain = (s.wrote ≤ data_in chain) × (16 < s.read → s.read ≡ byte_count chain.readable)
IsUnderWayIn (Ending end) s chain = s.wrote ≤ data_in chain

abbrev pub IsUnderWay : Serving → Chain → Type 0
IsUnderWay s chain = IsUnderWayIn s.job s chain
