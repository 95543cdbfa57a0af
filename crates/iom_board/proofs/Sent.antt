-- Messages under way, where one is sent, lost or repeated.
use Rattle.std.proofs.Common.{zero, suc, ◌≡◌, ℕ, Bool, true, false, is_some, nat_lt, List, [], ◌∷◌, ◌++◌, length, remove, slice_get, Option, None, Some, refl, ap, subst, if◌then◌else◌}
use Rattle.std.specs.Bool.{OnTrue, OnFalse}
use Rattle.std.specs.List.{All}
use Rattle.std.proofs.lemmas.List.Elements.{All-append, All-take, All-drop, All-push}
use Rattle.std.proofs.lemmas.Option.{get_or_from_slice_get, slice_get_within}
use Rattle.iom_command_queue.specs.declared.command.Command.TheVariants.{IotinvalVma, IotinvalGvma, IofenceC, IodirInvalDdt, AtsInval}
use Rattle.iom_device.specs.declared.device.Device.{Device}
use Rattle.iom_device.specs.Caches.{device_with}
use Rattle.iom_fabric.specs.declared.fabric.OnLink.{OnLink}
use Rattle.iom_fabric.specs.declared.message.Message.{Message}
use Rattle.iom_fabric.specs.declared.message.Message.TheVariants as sent
use Rattle.iom_fabric.specs.Messages.{repeated}
use Rattle.iom_iommu.specs.declared.fetched.Fetched.{Fetched}
use Rattle.iom_iommu.specs.declared.fetched.Fetched.TheVariants.{Did, Waiting, Empty, Stopped}
use Rattle.iom_board.specs.Messages.{with_message, with_opened, named_range}
use Rattle.iom_board.specs.Invariant.{IsOfPlugged, IsMessageOf}

-- what a fabric sends
pub sent_as : (fabric after : List OnLink) (device : ℕ) (message : Message) (result : Bool) → result ≡ nat_lt (length fabric) 64
    → OnTrue result (after ≡ fabric ++ (record { device = device; message = message }) ∷ []) → OnFalse result (after ≡ fabric) → after ≡ with_message fabric device message
sent_as fabric after device message result is sent lost =
    subst (λ (b : Bool). after ≡ (if b then fabric ++ (record { device = device; message = message }) ∷ [] else fabric)) is (by result sent lost)
  where
    by : (b : Bool) → OnTrue b (after ≡ fabric ++ (record { device = device; message = message }) ∷ []) → OnFalse b (after ≡ fabric)
        → after ≡ (if b then fabric ++ (record { device = device; message = message }) ∷ [] else fabric)
    by true put lose = put
    by false put lose = lose

-- one more is sent, which the device may send
pub messages_sent : (devices : List Device) (fabric : List OnLink) (id : ℕ) (message : Message) → All (IsMessageOf devices) fabric → IsOfPlugged (is_some (device_with devices id)) message
    → All (IsMessageOf devices) (with_message fabric id message)
messages_sent devices fabric id message all own = by (nat_lt (length fabric) 64)
  where
    by : (b : Bool) → All (IsMessageOf devices) (if b then fabric ++ (record { device = id; message = message }) ∷ [] else fabric)
    by false = all
    by true = All-push (IsMessageOf devices) fabric (record { device = id; message = message }) all own

-- one is taken out
pub messages_left : (devices : List Device) (fabric : List OnLink) (place : ℕ) → All (IsMessageOf devices) fabric → All (IsMessageOf devices) (remove fabric place)
messages_left devices fabric place all =
    All-append (IsMessageOf devices) _ _ (All-take (IsMessageOf devices) place fabric all) (All-drop (IsMessageOf devices) (suc place) fabric all)

pub removed_none : {X : Type 0} (xs : List X) (place : ℕ) → slice_get xs place ≡ None → remove xs place ≡ xs
removed_none [] zero at = refl
removed_none [] (suc place) at = refl
removed_none (x ∷ xs) zero at = cc
removed_none (x ∷ xs) (suc place) at = ap (λ l. x ∷ l) (removed_none xs place at)

pub message_at : (devices : List Device) (fabric : List OnLink) (place : ℕ) (on : OnLink) → slice_get fabric place ≡ Some on → All (IsMessageOf devices) fabric → IsMessageOf devices on
message_at devices fabric place on at all =
    subst (IsMessageOf devices) (get_or_from_slice_get fabric place on on at) (all place on (slice_get_within fabric place on at))

-- one is repeated
pub messages_repeated : (devices : List Device) (fabric : List OnLink) (place : ℕ) (found : Option OnLink) → slice_get fabric place ≡ found → All (IsMessageOf devices) fabric
    → All (IsMessageOf devices) (repeated fabric found)
messages_repeated devices fabric place None at all = all
messages_repeated devices fabric place (Some on) at all = by (nat_lt (length fabric) 64)
  where
    by : (b : Bool) → All (IsMessageOf devices) (if b then fabric ++ on ∷ [] else fabric)
    by false = all
    by true = All-push (IsMessageOf devices) fabric on all (message_at devices fabric place on at all)

-- a fetch sends a request to invalidate, or nothing
pub messages_opened : (devices : List Device) (fabric : List OnLink) (fetched : Fetched) (last : ℕ) → All (IsMessageOf devices) fabric → All (IsMessageOf devices) (with_opened fetched last fabric)
messages_opened devices fabric (Did (AtsInval device range)) last all = messages_sent devices fabric device (sent.InvReq last (named_range range)) all tt
messages_opened devices fabric (Did (IotinvalVma gscid pscid page)) last all = all
messages_opened devices fabric (Did (IotinvalGvma gscid page)) last all = all
messages_opened devices fabric (Did (IofenceC store wsi pr pw)) last all = all
messages_opened devices fabric (Did (IodirInvalDdt device)) last all = all
messages_opened devices fabric Waiting last all = all
messages_opened devices fabric Empty last all = all
messages_opened devices fabric Stopped last all = all
