-- Messages under way, where one more is sent.
use Rattle.std.proofs.Common.{◌≡◌, ◌⊎◌, ◌∙◌, inl, inr, ℕ, Bool, true, false, is_some, nat_lt, List, [], ◌∷◌, ◌++◌, length, Contains, sym, subst, ap, if◌then◌else◌}
use Rattle.std.proofs.lemmas.Grind.{flat_map-append}
use Rattle.std.proofs.lemmas.List.{append-nil}
use Rattle.std.specs.Bool.{OnTrue, OnFalse}
use Rattle.std.specs.List.{All}
use Rattle.std.proofs.lemmas.List.Elements.{All-push, Contains-append_cases}
use Rattle.iom_coherence.specs.Scene.{AtsMessage, InvalidateRequest}
use Rattle.iom_coherence.proofs.ListLemmas.{in_none, cons_cases}
use Rattle.iom_fabric.specs.declared.fabric.OnLink.{OnLink}
use Rattle.iom_fabric.specs.declared.message.Message.{Message}
use Rattle.iom_fabric.specs.declared.message.Message.TheVariants as sent
use Rattle.iom_fabric.specs.declared.message.Range.{Range}
use Rattle.iom_world_effects.specs.Messages.{with_sent}
use Rattle.iom_world_effects.specs.Traffic.{message_on, messages_in, invalidation_by, extent_of_range}
use Rattle.iom_device.specs.declared.device.Device.{Device}
use Rattle.iom_device.specs.Caches.{device_with}
use Rattle.iom_world_effects.specs.Invariant.{IsAsked, HasAsker}

pub messages_pushed : (fabric : List OnLink) (one : OnLink) → messages_in (fabric ++ one ∷ []) ≡ messages_in fabric ++ message_on one.device one.message
messages_pushed fabric one =
    flat_map-append (λ (on : OnLink). message_on on.device on.message) fabric (one ∷ []) ∙ ap (λ l. messages_in fabric ++ l) (append-nil (message_on one.device one.message))

-- a message that is under way then was, or is the one that is sent
pub sent_cases : (fabric : List OnLink) (device : ℕ) (message : Message) (x : AtsMessage) → Contains (messages_in (with_sent fabric device message)) x
    → Contains (message_on device message) x ⊎ Contains (messages_in fabric) x
sent_cases fabric device message x there = by (nat_lt (length fabric) 64) there
  where
    by : (b : Bool) → Contains (messages_in (if b then fabric ++ (record { device = device; message = message }) ∷ [] else fabric)) x
        → Contains (message_on device message) x ⊎ Contains (messages_in fabric) x
    by false there = inr there
    by true there =
        elim (Contains-append_cases (messages_in fabric) (message_on device message) x
        (subst (λ l. Contains l x) (messages_pushed fabric (record { device = device; message = message })) there)) [
          | inl before ↦ inr before
          | inr new ↦ inl new
        ]

-- a list of one has that alone
pub the_one : {X : Type 0} (x y : X) → Contains (x ∷ []) y → y ≡ x
the_one x y there = elim (cons_cases x [] y there) [ inl same ↦ sym same | inr none ↦ absurd (in_none y none) ]

-- a request to invalidate is sent
pub requested : (fabric : List OnLink) (device serial : ℕ) (range : Range) (x : AtsMessage) → Contains (messages_in (with_sent fabric device (sent.InvReq serial range))) x
    → (x ≡ InvalidateRequest (invalidation_by serial device) (extent_of_range range)) ⊎ Contains (messages_in fabric) x
requested fabric device serial range x there = elim (sent_cases fabric device (sent.InvReq serial range) x there) [
  | inl new ↦ inl (the_one (InvalidateRequest (invalidation_by serial device) (extent_of_range range)) x new)
  | inr before ↦ inr before
]

-- a question that is sent is one of a device that is plugged in
pub askers_sent : (devices : List Device) (fabric : List OnLink) (id : ℕ) (message : Message) → All (HasAsker devices) fabric → IsAsked (is_some (device_with devices id)) message
    → All (HasAsker devices) (with_sent fabric id message)
askers_sent devices fabric id message askers own = by (nat_lt (length fabric) 64)
  where
    by : (b : Bool) → All (HasAsker devices) (if b then fabric ++ (record { device = id; message = message }) ∷ [] else fabric)
    by false = askers
    by true = All-push (HasAsker devices) fabric (record { device = id; message = message }) askers own

-- what a fabric sends
pub sent_as : (fabric after : List OnLink) (device : ℕ) (message : Message) (result : Bool) → result ≡ nat_lt (length fabric) 64
    → OnTrue result (after ≡ fabric ++ (record { device = device; message = message }) ∷ []) → OnFalse result (after ≡ fabric) → after ≡ with_sent fabric device message
sent_as fabric after device message result is sent lost = subst (λ (b : Bool). after ≡ (if b then fabric ++ (record { device = device; message = message }) ∷ [] else fabric)) is (by result sent lost)
  where
    by : (b : Bool) → OnTrue b (after ≡ fabric ++ (record { device = device; message = message }) ∷ []) → OnFalse b (after ≡ fabric)
        → after ≡ (if b then fabric ++ (record { device = device; message = message }) ∷ [] else fabric)
    by true put lose = put
    by false put lose = lose
