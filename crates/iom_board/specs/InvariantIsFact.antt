-- That a board keeps its invariant is a fact: it has one proof at most, so a struct that has a board can carry it.
-- For such structs alone; no public contract cites these.
use Rattle.std.specs.Prelude.{ℕ, Bool, List, is_some}
use Rattle.std.proofs.Props.{props}
use Rattle.iom_device.specs.Caches.{device_with}
use Rattle.iom_device.specs.declared.device.Device.{Device}
use Rattle.iom_fabric.specs.declared.fabric.OnLink.{OnLink}
use Rattle.iom_fabric.specs.declared.message.Message.{Message}
use Rattle.iom_fabric.specs.declared.message.Message.TheVariants as sent
use Rattle.iom_board.specs.BoardParts.{BoardParts}
use Rattle.iom_board.specs.Invariant.{IsOfPlugged, IsMessageOf, BoardInvariant}

plugged_prop : (is_plugged : Bool) (message : Message) → IsProp (IsOfPlugged is_plugged message)
plugged_prop is_plugged (sent.Ask epoch page) = hlevel props
plugged_prop is_plugged (sent.Answer epoch page translation) = hlevel props
plugged_prop is_plugged (sent.InvReq serial range) = hlevel props
plugged_prop is_plugged (sent.InvDone serial) = hlevel props

message_prop : (devices : List Device) (on : OnLink) → IsProp (IsMessageOf devices on)
message_prop devices on = plugged_prop (is_some (device_with devices on.device)) on.message

pub board_invariant_prop : (parts : BoardParts) (events : ℕ) → IsProp (BoardInvariant parts events)
board_invariant_prop parts events = hlevel (props, message_prop)
