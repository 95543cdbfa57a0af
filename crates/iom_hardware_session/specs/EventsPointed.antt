-- What a line of devices, hardware or software does to hardware that caches pointers to tables, and to these, by its answer.
use Rattle.std.specs.Prelude.{◌≡◌, ◌⊎◌, ℕ, ◌*◌, ◌<◌, true, List, length, slice_get, Option, Some, None}
use Rattle.iom_base.specs.DeviceKinds.{sends_untranslated}
use Rattle.iom_base.specs.Sizes.{in_flight_limit, page_size}
use Rattle.iom_base.specs.Spans.{FitsInPage}
use Rattle.iom_base.specs.declared.access.AccessKind.{AccessKind}
use Rattle.iom_base.specs.declared.access.AccessKind.TheVariants as asked
use Rattle.iom_base.specs.declared.device_kind.DeviceKind.{DeviceKind}
use Rattle.iom_board.specs.BoardParts.{board_parts, disks_at_hand}
use Rattle.iom_board.specs.declared.board.Board.{Board}
use Rattle.iom_device.specs.Caches.{kind_in}
use Rattle.iom_device_dir.specs.declared.context.Context.{Context}
use Rattle.iom_fabric.specs.declared.fabric.OnLink.{OnLink}
use Rattle.iom_fabric.specs.declared.message.Message.{Message}
use Rattle.iom_fabric.specs.declared.message.Message.TheVariants as sent
use Rattle.iom_hardware.specs.Blocks.{BlocksUnchanged}
use Rattle.iom_hardware_session.specs.Answered.{fetch_in}
use Rattle.iom_hardware_session.specs.Events.{EventEffect}
use Rattle.iom_hardware_session.specs.Shown.{ShownHardware}
use Rattle.iom_hardware_session.specs.declared.answer.Answer.{Answer}
use Rattle.iom_hardware_session.specs.declared.beside.Beside.TheVariants.{Nothing}
use Rattle.iom_inflight.specs.Flights.{count_in, row_of}
use Rattle.iom_iommu.specs.Parts.{flights_of}
use Rattle.iom_iommu.specs.declared.fetched.Fetched.{Fetched}
use Rattle.iom_iommu.specs.declared.fetched.Fetched.TheVariants as fetched
use Rattle.iom_machine.specs.declared.event.Event.{Event}
use Rattle.iom_machine.specs.declared.event.Event.TheVariants.{Read, Write, Deliver}
use Rattle.iom_pointed_board.specs.Roots.{context_found}
use Rattle.iom_pointed_board.specs.Starts.{WalksAhead}
use Rattle.iom_pointers.specs.Pointers.{without_covered}
use Rattle.iom_pointers.specs.declared.features.Features.{Features}
use Rattle.iom_pointers.specs.declared.pointer.Pointer.{Pointer}
use Rattle.iom_stepped_requests.specs.declared.request.Request.{Request}

-- WHICH EVENTS WALK

abbrev pub request_for : (device address : ℕ) → AccessKind → Request
request_for device address kind = record { device = device; asked = record { address = address; kind = kind } }

-- a request of the device for so many bytes from the address on is served: it is of a kind that makes such, its bytes lie in one page, and fewer than eight of its
-- accesses are in flight
pub record IsServed (board : Board) (device address len : ℕ) : Type 0 where
  pub kind : DeviceKind
  pub plugged : kind_in board.devices.items device ≡ Some kind
  pub able : sends_untranslated kind ≡ true
  pub within : FitsInPage address len
  pub room : count_in (row_of (flights_of board.iommu).rows device) < in_flight_limit

-- a question of the device is served: it is plugged in, and has a context with EN_ATS
pub record IsQuestionServed (board : Board) (device : ℕ) : Type 0 where
  pub kind : DeviceKind
  pub plugged : kind_in board.devices.items device ≡ Some kind
  pub context : Context
  pub found : context_found (board_parts board) device ≡ Some context
  pub lets : context.en_ats ≡ true

-- the page that a message asks for, where it is a question
abbrev pub page_asked : Message → Option ℕ
page_asked (sent.Ask epoch page) = Some page
page_asked (sent.Answer epoch page translation) = None
page_asked (sent.InvReq serial range) = None
page_asked (sent.InvDone serial) = None

-- the request of a question of the device for this page
abbrev pub AsksFor : Board → ℕ → Option ℕ → Request → Type 0
AsksFor board device None request = ⊥
AsksFor board device (Some page) request = IsQuestionServed board device × (request ≡ request_for device (page * page_size) asked.Read)

-- THE REQUEST that an event serves: of a device that reads or writes, or of one whose question arrives
abbrev pub IsRequestOf : Board → Event → Request → Type 0
IsRequestOf board (Read device address len) request = IsServed board device address len × (request ≡ request_for device address asked.Read)
IsRequestOf board (Write device address bytes) request = IsServed board device address (length bytes) × (request ≡ request_for device address asked.Write)
IsRequestOf board (Deliver place) request =
    (on : OnLink) × (slice_get board.fabric place ≡ Some on) × AsksFor board on.device (page_asked on.message) request
IsRequestOf board _ request = ⊥

-- the device of a request is plugged in
abbrev pub IsOfPlugged : Board → Request → Type 0
IsOfPlugged board request = (kind : DeviceKind) × (kind_in board.devices.items request.device ≡ Some kind)

-- AHEAD OF THE EVENT its request is walked, if it serves one
abbrev pub GoesAhead : Features → Event → Board → List Pointer → Board → List Pointer → Type 0
GoesAhead features event old pointers new new_pointers =
    ((request : Request) × IsOfPlugged old request × IsRequestOf old event request × WalksAhead features (board_parts old) pointers request (board_parts new) new_pointers)
    ⊎ (((request : Request) → ¬ IsRequestOf old event request) × (board_parts new ≡ board_parts old) × (new_pointers ≡ pointers))

-- what is left of the pointers by a fetch: those that its command doesn't take out
abbrev pub left_by_fetch : Fetched → List Pointer → List Pointer
left_by_fetch (fetched.Did command) pointers = without_covered command pointers
left_by_fetch fetched.Waiting pointers = pointers
left_by_fetch fetched.Empty pointers = pointers
left_by_fetch fetched.Stopped pointers = pointers

abbrev pub left_by : Option Fetched → List Pointer → List Pointer
left_by None pointers = pointers
left_by (Some fetched) pointers = left_by_fetch fetched pointers

-- hardware without what it keeps beside
abbrev pub bare : ShownHardware → ShownHardware
bare hardware = record hardware { beside = Nothing }

-- WHAT AN EVENT DOES TO HARDWARE that caches pointers to tables, or of which walks know leaves of 64 KiB, and to its pointers: its request is walked ahead; then it
-- does what it does to other hardware, and an invalidation takes pointers out
abbrev pub EffectPointed : Features → Event → Answer → ShownHardware → List Pointer → ShownHardware → List Pointer → Type 0
EffectPointed features event answer old pointers new new_pointers =
    (between : ShownHardware) × (between_pointers : List Pointer)
    × GoesAhead features event old.board pointers between.board between_pointers
    × (disks_at_hand between.board ≡ disks_at_hand old.board) × BlocksUnchanged old.inside between.inside
    × EventEffect event answer (bare between) (bare new) × (new_pointers ≡ left_by (fetch_in answer) between_pointers)
