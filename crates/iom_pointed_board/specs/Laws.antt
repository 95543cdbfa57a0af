-- What is proved of requests that are walked ahead.
use Rattle.std.specs.Prelude.{◌≡◌, ℕ, Bool, List, Some}
use Rattle.iom_base.specs.declared.device_kind.DeviceKind.{DeviceKind}
use Rattle.iom_board.specs.BoardParts.{BoardParts}
use Rattle.iom_board.specs.Invariant.{BoardInvariant}
use Rattle.iom_device.specs.Caches.{kind_in}
use Rattle.iom_pointed_board.specs.Starts.{WalksAhead}
use Rattle.iom_pointer_ways.specs.Calls.{DoPointedInTurn, PointedCall}
use Rattle.iom_pointers.specs.declared.features.Features.{Features}
use Rattle.iom_pointers.specs.declared.pointer.Pointer.{Pointer}
use Rattle.iom_stepped_requests.specs.declared.request.Request.{Request}

-- of a device that is plugged in it is some calls of hardware that caches pointers
abbrev pub AheadAreCalls : Type 0
AheadAreCalls = (features : Features) (trusted : ℕ → Bool) (events : ℕ) (old new : BoardParts) (pointers new_pointers : List Pointer) (request : Request) (kind : DeviceKind)
    → kind_in old.devices request.device ≡ Some kind → BoardInvariant old events → WalksAhead features old pointers request new new_pointers
    → (calls : List PointedCall) × DoPointedInTurn features.napot trusted events old pointers calls new new_pointers

-- and what stays true of the board stays so
abbrev pub AheadIsSound : Type 0
AheadIsSound = (features : Features) (events : ℕ) (old new : BoardParts) (pointers new_pointers : List Pointer) (request : Request) → BoardInvariant old events
    → WalksAhead features old pointers request new new_pointers → BoardInvariant new events
