-- A message is of no epoch to come.
use Rattle.std.specs.Prelude.{ℕ, ◌≤◌, ⊤}
use Rattle.iom_device.specs.Caches.{epoch_in}
use Rattle.iom_fabric.specs.declared.fabric.OnLink.{OnLink}
use Rattle.iom_fabric.specs.declared.message.Message.{Message}
use Rattle.iom_fabric.specs.declared.message.Message.TheVariants.{Ask, Answer, InvReq, InvDone}
use Rattle.iom_board.specs.BoardParts.{BoardParts}

-- its epoch isn't above this one
abbrev pub IsBy : ℕ → Message → Type 0
IsBy now (Ask epoch page) = epoch ≤ now
IsBy now (Answer epoch page translation) = epoch ≤ now
IsBy now (InvReq serial range) = ⊤
IsBy now (InvDone serial) = ⊤

abbrev pub IsTimelyMessage : BoardParts → OnLink → Type 0
IsTimelyMessage parts on = IsBy (epoch_in parts.devices on.device) on.message
