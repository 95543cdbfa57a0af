-- What is sent between the IOMMU and the devices with caches of their own (PCI Express Base Specification, chapter 10, "Address Translation Services"),
-- and what becomes of it on the way.
use Rattle.std.specs.Prelude.{◌≡◌, ◌⊎◌, ℕ, nat_lt, List, [], ◌∷◌, ◌++◌, length, remove, slice_get, is_some, if◌then◌else◌}
use Rattle.iom_command_queue.specs.declared.command.AtsRange.{AtsRange}
use Rattle.iom_command_queue.specs.declared.command.AtsRange.TheVariants as named
use Rattle.iom_command_queue.specs.declared.command.Command.{Command}
use Rattle.iom_command_queue.specs.declared.command.Command.TheVariants.{IotinvalVma, IotinvalGvma, IofenceC, IodirInvalDdt, AtsInval}
use Rattle.iom_fabric.specs.declared.fabric.OnLink.{OnLink}
use Rattle.iom_fabric.specs.declared.fabric.Repeat.{Repeat}
use Rattle.iom_fabric.specs.declared.fabric.Repeat.TheVariants as repeat
use Rattle.iom_fabric.specs.declared.message.Message.{Message}
use Rattle.iom_fabric.specs.declared.message.Message.TheVariants.{Ask, InvReq, InvDone}
use Rattle.iom_fabric.specs.declared.message.Range.{Range}
use Rattle.iom_fabric.specs.declared.message.Range.TheVariants as ranges
use Rattle.iom_fabric.specs.Messages.{repeated, repeat_answer}
use Rattle.iom_iommu.specs.declared.fetched.Fetched.{Fetched}
use Rattle.iom_iommu.specs.declared.fetched.Fetched.TheVariants.{Did, Waiting, Empty, Stopped}
use Rattle.iom_machine.specs.declared.outcome.Outcome.{Outcome}
use Rattle.iom_machine.specs.declared.outcome.Outcome.TheVariants as outcome
use Rattle.iom_base.specs.DeviceKinds.{asks_questions, forges}
use Rattle.iom_device.specs.Caches.{IsAble, epoch_in}
use Rattle.iom_world_effects.specs.Parts.{Parts}
use Rattle.iom_world_effects.specs.Unable.{IsUnknown, IsUnable}

-- a message is sent on a device's link: it goes last, or is lost where 64 are under way
abbrev pub with_sent : List OnLink → ℕ → Message → List OnLink
with_sent fabric device message =
    if nat_lt (length fabric) 64 then fabric ++ (record { device = device; message = message }) ∷ [] else fabric

-- what a command asks a device to drop, as the request to it says
abbrev pub range_of : AtsRange → Range
range_of (named.Page page) = ranges.Page page
range_of named.Everything = ranges.Everything

-- the request to invalidate that a command is, with the number that it was given, is sent to its device (Invalidate Request, section 10.3.1)
abbrev pub with_request : Command → ℕ → List OnLink → List OnLink
with_request (AtsInval device range) serial fabric = with_sent fabric device (InvReq serial (range_of range))
with_request (IotinvalVma gscid pscid page) serial fabric = fabric
with_request (IotinvalGvma gscid page) serial fabric = fabric
with_request (IofenceC store wsi pr pw) serial fabric = fabric
with_request (IodirInvalDdt device) serial fabric = fabric

-- what a fetch sends, by the number of the last request
abbrev pub with_fetched : Fetched → ℕ → List OnLink → List OnLink
with_fetched (Did command) last fabric = with_request command last fabric
with_fetched Waiting last fabric = fabric
with_fetched Empty last fabric = fabric
with_fetched Stopped last fabric = fabric

-- what is told of a message that is sent
abbrev pub outcome_of_sent : List OnLink → Outcome
outcome_of_sent fabric = if nat_lt (length fabric) 64 then outcome.Sent else outcome.Lost

-- a device sends a message, and nothing else changes
pub record SendsOnLink (old : Parts) (id : ℕ) (message : Message) (reply : Outcome) (new : Parts) : Type 0 where
  pub reply_is : reply ≡ outcome_of_sent old.fabric
  pub sent : new ≡ record old { fabric = with_sent old.fabric id message }

-- A DEVICE ASKS for the translation of a page, in the epoch of its cache (Translation Request, section 10.2)
abbrev pub AsksQuestion : Parts → ℕ → ℕ → Outcome → Parts → Type 0
AsksQuestion old id page reply new =
    IsUnknown old id reply new ⊎ IsUnable asks_questions old id reply new
    ⊎ (IsAble asks_questions old.devices id × SendsOnLink old id (Ask (epoch_in old.devices id) page) reply new)

-- A DEVICE SAYS that it completed a request, whether it was asked or not (Invalidate Completion, section 10.3.2)
abbrev pub ForgesCompletion : Parts → ℕ → ℕ → Outcome → Parts → Type 0
ForgesCompletion old id serial reply new =
    IsUnknown old id reply new ⊎ IsUnable forges old id reply new
    ⊎ (IsAble forges old.devices id × SendsOnLink old id (InvDone serial) reply new)

-- A MESSAGE IS LOST, if there is one at the place
pub record DropsMessage (old : Parts) (place : ℕ) (reply : Outcome) (new : Parts) : Type 0 where
  pub reply_is : reply ≡ (if is_some (slice_get old.fabric place) then outcome.Dropped else outcome.NoMessage)
  pub dropped : new ≡ record old { fabric = remove old.fabric place }

-- what is told of a message that is repeated
abbrev pub outcome_of_repeat : Repeat → Outcome
outcome_of_repeat repeat.Repeated = outcome.Repeated
outcome_of_repeat repeat.Lost = outcome.Lost
outcome_of_repeat repeat.Nothing = outcome.NoMessage

-- A MESSAGE IS REPEATED, if there is one at the place, and room for it
pub record RepeatsMessage (old : Parts) (place : ℕ) (reply : Outcome) (new : Parts) : Type 0 where
  pub reply_is : reply ≡ outcome_of_repeat (repeat_answer old.fabric (slice_get old.fabric place))
  pub repeated : new ≡ record old { fabric = repeated old.fabric (slice_get old.fabric place) }
