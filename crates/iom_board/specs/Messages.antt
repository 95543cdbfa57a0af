-- What is sent between the IOMMU and the devices with caches of their own (PCI Express Base Specification, chapter 10, "Address Translation Services"),
-- and what becomes of it on the way.
use Rattle.std.specs.Prelude.{◌≡◌, ℕ, Bool, nat_lt, List, [], ◌∷◌, ◌++◌, length, remove, slice_get, Option, None, Some, is_some, Result, if◌then◌else◌}
use Rattle.iom_base.specs.DeviceKinds.{forges, asks_questions}
use Rattle.iom_base.specs.declared.refusal.Refusal.{Refusal}
use Rattle.iom_command_queue.specs.declared.command.AtsRange.{AtsRange}
use Rattle.iom_command_queue.specs.declared.command.AtsRange.TheVariants as named
use Rattle.iom_command_queue.specs.declared.command.Command.{Command}
use Rattle.iom_command_queue.specs.declared.command.Command.TheVariants.{IotinvalVma, IotinvalGvma, IofenceC, IodirInvalDdt, AtsInval}
use Rattle.iom_device.specs.Caches.{epoch_in}
use Rattle.iom_fabric.specs.declared.fabric.OnLink.{OnLink}
use Rattle.iom_fabric.specs.declared.fabric.Repeat.{Repeat}
use Rattle.iom_fabric.specs.declared.message.Message.{Message}
use Rattle.iom_fabric.specs.declared.message.Message.TheVariants.{Ask, InvReq, InvDone}
use Rattle.iom_fabric.specs.declared.message.Range.{Range}
use Rattle.iom_fabric.specs.declared.message.Range.TheVariants as ranges
use Rattle.iom_fabric.specs.Messages.{repeated, repeat_answer}
use Rattle.iom_iommu.specs.declared.fetched.Fetched.{Fetched}
use Rattle.iom_iommu.specs.declared.fetched.Fetched.TheVariants.{Did, Waiting, Empty, Stopped}
use Rattle.iom_board.specs.ByDevice.{ByDevice}
use Rattle.iom_board.specs.BoardParts.{BoardParts}

-- the messages after one is sent on a device's link: it goes last, or is lost where 64 are under way
abbrev pub with_message : List OnLink → ℕ → Message → List OnLink
with_message fabric device message = if nat_lt (length fabric) 64 then fabric ++ record { device = device; message = message } ∷ [] else fabric

-- what a command asks a device to drop
abbrev pub named_range : AtsRange → Range
named_range (named.Page page) = ranges.Page page
named_range named.Everything = ranges.Everything

-- the request to invalidate that a command is, with the number that it was given, is sent to its device (Invalidate Request, section 10.3.1)
abbrev pub with_invalidation : Command → ℕ → List OnLink → List OnLink
with_invalidation (AtsInval device range) serial fabric = with_message fabric device (InvReq serial (named_range range))
with_invalidation (IotinvalVma gscid pscid page) serial fabric = fabric
with_invalidation (IotinvalGvma gscid page) serial fabric = fabric
with_invalidation (IofenceC store wsi pr pw) serial fabric = fabric
with_invalidation (IodirInvalDdt device) serial fabric = fabric

-- what a fetch sends, by the number of the last request
abbrev pub with_opened : Fetched → ℕ → List OnLink → List OnLink
with_opened (Did command) last fabric = with_invalidation command last fabric
with_opened Waiting last fabric = fabric
with_opened Empty last fabric = fabric
with_opened Stopped last fabric = fabric

-- a device sends a message: false where it is lost, and nothing else changes
pub record SendsMessage (id : ℕ) (message : Message) (old : BoardParts) (is_sent : Bool) (new : BoardParts) : Type 0 where
  pub room : is_sent ≡ nat_lt (length old.fabric) 64
  pub sent : new ≡ record old { fabric = with_message old.fabric id message }

-- A DEVICE ASKS for the translation of a page, in the epoch of its cache (Translation Request, section 10.2)
abbrev pub AsksTranslation : BoardParts → ℕ → ℕ → Result Bool Refusal → BoardParts → Type 0
AsksTranslation old id page answer new =
    ByDevice asks_questions (λ old is_sent new. SendsMessage id (Ask (epoch_in old.devices id) page) old is_sent new) old id answer new

-- A DEVICE SAYS that it completed a request, whether it was asked or not (Invalidate Completion, section 10.3.2)
abbrev pub ClaimsCompletion : BoardParts → ℕ → ℕ → Result Bool Refusal → BoardParts → Type 0
ClaimsCompletion old id serial answer new = ByDevice forges (SendsMessage id (InvDone serial)) old id answer new

-- A MESSAGE IS LOST, if there is one at the place
pub record LosesMessage (old : BoardParts) (place : ℕ) (found : Bool) (new : BoardParts) : Type 0 where
  pub answered : found ≡ is_some (slice_get old.fabric place)
  pub lost : new ≡ record old { fabric = remove old.fabric place }

-- A MESSAGE IS REPEATED, if there is one at the place, and room for it
pub record CopiesMessage (old : BoardParts) (place : ℕ) (repeat : Repeat) (new : BoardParts) : Type 0 where
  pub answered : repeat ≡ repeat_answer old.fabric (slice_get old.fabric place)
  pub copied : new ≡ record old { fabric = repeated old.fabric (slice_get old.fabric place) }
