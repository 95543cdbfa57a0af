-- What stays true of a world where a message is sent, lost or repeated.
use Rattle.std.proofs.Common.{zero, suc, ◌≡◌, ◌^◌, ◌<◌, ◌∙◌, inl, inr, ℕ, Bool, true, false, nat_lt, is_some, List, [], ◌∷◌, ◌++◌, length, Contains, remove, slice_get, Option, None, Some, refl, sym, ap, subst, arith, if◌then◌else◌}
use Rattle.std.specs.List.{All}
use Rattle.std.specs.Option.{option_map}
use Rattle.std.proofs.lemmas.Bool.{false≢true}
use Rattle.std.proofs.lemmas.List.Elements.{All-append, All-take, All-drop, All-push, Contains-append_cases, Contains-append_left, Contains-append_right}
use Rattle.std.proofs.lemmas.Option.{get_or_from_slice_get, slice_get_within}
use Rattle.iom_walk_coherence.specs.Walks.{Walk}
use Rattle.iom_coherence.specs.Attachments.{may_forge}
use Rattle.iom_coherence.specs.Deliveries.{MayBeSent}
use Rattle.iom_coherence.specs.Scene.{AtsMessage, Question, InvalidateCompletion, Scene}
use Rattle.iom_fabric.specs.declared.fabric.OnLink.{OnLink}
use Rattle.iom_fabric.specs.declared.message.Message.{Message}
use Rattle.iom_fabric.specs.declared.message.Message.TheVariants as sent
use Rattle.iom_fabric.specs.Messages.{repeated}
use Rattle.iom_machine.specs.declared.outcome.Outcome.{Outcome}
use Rattle.iom_base.specs.declared.device_kind.DeviceKind.{DeviceKind}
use Rattle.iom_base.specs.declared.device_kind.DeviceKind.TheVariants.{Raw, Ats, Block, CachedBlock}
use Rattle.iom_base.specs.DeviceKinds.{forges}
use Rattle.iom_device.specs.declared.device.Device.{Device}
use Rattle.iom_device.specs.Caches.{device_with, kind_in, epoch_in}
use Rattle.iom_world_effects.specs.Messages.{with_sent, AsksQuestion, ForgesCompletion, DropsMessage, RepeatsMessage}
use Rattle.iom_world_effects.specs.Parts.{Parts}
use Rattle.iom_world_effects.specs.Read.{values_of}
use Rattle.iom_world_effects.specs.Scenes.{IsSceneOf}
use Rattle.iom_world_effects.specs.Invariant.{InvariantWith, HasAsker, IsAsked}
use Rattle.iom_world_effects.specs.Traffic.{Traffic, message_on, messages_in, invalidation_by}
use Rattle.iom_world_effects.proofs.MessageLemmas.{messages_pushed, sent_cases, the_one, askers_sent}
use Rattle.iom_world_effects.proofs.MessageScenes.{messages_as}
use Rattle.iom_world_effects.proofs.TrafficSound.{carried_sound}

-- what is left of the messages was under way
pub left_among : (fabric : List OnLink) (place : ℕ) (x : AtsMessage) → Contains (messages_in (remove fabric place)) x → Contains (messages_in fabric) x
left_among [] zero x there = there
left_among [] (suc place) x there = there
left_among (on ∷ others) zero x there = Contains-append_right (message_on on.device on.message) (messages_in others) x there
left_among (on ∷ others) (suc place) x there =
    elim (Contains-append_cases (message_on on.device on.message) (messages_in (remove others place)) x there) [
      | inl here ↦ Contains-append_left (message_on on.device on.message) (messages_in others) x here
      | inr later ↦ Contains-append_right (message_on on.device on.message) (messages_in others) x (left_among others place x later)
    ]

-- what a message at a place says is under way
pub there_at : (fabric : List OnLink) (place : ℕ) (on : OnLink) (x : AtsMessage) → slice_get fabric place ≡ Some on → Contains (message_on on.device on.message) x → Contains (messages_in fabric) x
there_at [] place on x at says = cc
there_at (first ∷ others) zero on x at says =
    let same : first ≡ on = cc in
    Contains-append_left (message_on first.device first.message) (messages_in others) x (subst (λ (o : OnLink). Contains (message_on o.device o.message) x) (sym same) says)
there_at (first ∷ others) (suc place) on x at says =
    Contains-append_right (message_on first.device first.message) (messages_in others) x (there_at others place on x at says)

-- who asks is plugged in, of what is left, and of a copy
pub askers_left : (devices : List Device) (fabric : List OnLink) (place : ℕ) → All (HasAsker devices) fabric → All (HasAsker devices) (remove fabric place)
askers_left devices fabric place askers =
    All-append (HasAsker devices) _ _ (All-take (HasAsker devices) place fabric askers) (All-drop (HasAsker devices) (suc place) fabric askers)

pub asker_at : (devices : List Device) (fabric : List OnLink) (place : ℕ) (on : OnLink) → slice_get fabric place ≡ Some on → All (HasAsker devices) fabric → HasAsker devices on
asker_at devices fabric place on at askers =
    subst (HasAsker devices) (get_or_from_slice_get fabric place on on at) (askers place on (slice_get_within fabric place on at))

-- A MESSAGE IS LOST
pub dropped_sound : {walks : List Walk} (old : Parts) (events place : ℕ) → InvariantWith walks old events → InvariantWith walks (record old { fabric = remove old.fabric place }) events
dropped_sound old events place invariants =
    carried_sound old (remove old.fabric place) events invariants (askers_left old.devices old.fabric place invariants.known.askers)
    (λ scene shows facts message there. inr (messages_as (values_of old) scene message shows (left_among old.fabric place message there)))

pub keeps_dropped : {walks : List Walk} (old new : Parts) (events place : ℕ) (reply : Outcome) → InvariantWith walks old events → DropsMessage old place reply new → InvariantWith walks new events
keeps_dropped {walks = walks} old new events place reply invariants drops = subst (λ parts. InvariantWith walks parts events) (sym drops.dropped) (dropped_sound old events place invariants)

-- A MESSAGE IS SENT, that its device may send
pub sent_sound : {walks : List Walk} (old : Parts) (events id : ℕ) (message : Message) → InvariantWith walks old events → IsAsked (is_some (device_with old.devices id)) message
    → ((scene : Scene) → IsSceneOf (values_of old) scene → (x : AtsMessage) → Contains (message_on id message) x → MayBeSent scene x)
    → InvariantWith walks (record old { fabric = with_sent old.fabric id message }) events
sent_sound old events id message invariants asked may =
    carried_sound old (with_sent old.fabric id message) events invariants (askers_sent old.devices old.fabric id message invariants.known.askers asked)
    (λ scene shows facts x there. elim (sent_cases old.fabric id message x there) [
      | inl new ↦ inl (may scene shows x new)
      | inr before ↦ inr (messages_as (values_of old) scene x shows before)
    ])

-- A MESSAGE IS REPEATED
copied_sound : {walks : List Walk} (old : Parts) (events place : ℕ) (at : Option OnLink) → slice_get old.fabric place ≡ at → InvariantWith walks old events → InvariantWith walks (record old { fabric = repeated old.fabric at }) events
copied_sound old events place None at invariants = invariants
copied_sound {walks = walks} old events place (Some on) at invariants = by (nat_lt (length old.fabric) 64)
  where
    own : (k : ℕ) → slice_get old.fabric k ≡ Some on → HasAsker old.devices on
    own k found = asker_at old.devices old.fabric k on found invariants.known.askers

    pushed : (message : AtsMessage) → Contains (messages_in (old.fabric ++ on ∷ [])) message → Contains (messages_in old.fabric) message
    pushed message there = elim (Contains-append_cases (messages_in old.fabric) (message_on on.device on.message) message (subst (λ l. Contains l message) (messages_pushed old.fabric on) there)) [
      | inl before ↦ before
      | inr copy ↦ there_at old.fabric place on message at copy
    ]

    by : (b : Bool) → InvariantWith walks (record old { fabric = if b then old.fabric ++ on ∷ [] else old.fabric }) events
    by false = invariants
    by true =
        carried_sound old (old.fabric ++ on ∷ []) events invariants (All-push (HasAsker old.devices) old.fabric on invariants.known.askers (own place at))
        (λ scene shows facts message there. inr (messages_as (values_of old) scene message shows (pushed message there)))

pub repeated_sound : {walks : List Walk} (old : Parts) (events place : ℕ) → InvariantWith walks old events → InvariantWith walks (record old { fabric = repeated old.fabric (slice_get old.fabric place) }) events
repeated_sound old events place invariants = copied_sound old events place (slice_get old.fabric place) refl invariants

pub keeps_repeated : {walks : List Walk} (old new : Parts) (events place : ℕ) (reply : Outcome) → InvariantWith walks old events → RepeatsMessage old place reply new → InvariantWith walks new events
keeps_repeated {walks = walks} old new events place reply invariants repeats =
    subst (λ parts. InvariantWith walks parts events) (sym repeats.repeated) (repeated_sound old events place invariants)

-- A DEVICE ASKS
present : (devices : List Device) (id : ℕ) (kind : DeviceKind) → kind_in devices id ≡ Some kind → is_some (device_with devices id) ≡ true
present devices id kind at = by (device_with devices id) refl at
  where
    by : (found : Option Device) → device_with devices id ≡ found → option_map (λ (device : Device). device.kind) found ≡ Some kind → is_some (device_with devices id) ≡ true
    by None is none = cc
    by (Some device) is at = ap is_some is

pub question_sound : {walks : List Walk} (old : Parts) (events id page : ℕ) → InvariantWith walks old events → page < 2 ^ 52 → is_some (device_with old.devices id) ≡ true
    → InvariantWith walks (record old { fabric = with_sent old.fabric id (sent.Ask (epoch_in old.devices id) page) }) events
question_sound old events id page invariants fits there =
    sent_sound old events id (sent.Ask (epoch_in old.devices id) page) invariants (there, fits)
    (λ scene shows x mine.
    subst (MayBeSent scene) (sym (the_one (Question id (epoch_in old.devices id) page) x mine))
    (λ honest. let same : scene.epoch_of id ≡ epoch_in old.devices id = ap (λ (t : Traffic). t.epoch_of id) shows.traffic in omega (arith, same)))

pub keeps_question : {walks : List Walk} (old new : Parts) (events id page : ℕ) (reply : Outcome) → InvariantWith walks old events → page < 2 ^ 52 → AsksQuestion old id page reply new → InvariantWith walks new events
keeps_question {walks = walks} old new events id page reply invariants fits asks = elim asks [
  | inl unknown ↦ subst (λ parts. InvariantWith walks parts events) (sym unknown.same) invariants
  | inr (inl unable) ↦ subst (λ parts. InvariantWith walks parts events) (sym unable.same) invariants
  | inr (inr (able, sends)) ↦
      subst (λ parts. InvariantWith walks parts events) (sym sends.sent) (question_sound old events id page invariants fits (present old.devices id able.0 able.1))
]

-- A DEVICE SAYS that a request is done
may_forge_is : (kind : DeviceKind) → forges kind ≡ true → may_forge (Some kind) ≡ true
may_forge_is Raw forges = refl
may_forge_is Ats forges = absurd (false≢true forges)
may_forge_is Block forges = absurd (false≢true forges)
may_forge_is CachedBlock forges = absurd (false≢true forges)

pub keeps_forged : {walks : List Walk} (old new : Parts) (events id serial : ℕ) (reply : Outcome) → InvariantWith walks old events → ForgesCompletion old id serial reply new → InvariantWith walks new events
keeps_forged {walks = walks} old new events id serial reply invariants asks = elim asks [
  | inl unknown ↦ subst (λ parts. InvariantWith walks parts events) (sym unknown.same) invariants
  | inr (inl unable) ↦ subst (λ parts. InvariantWith walks parts events) (sym unable.same) invariants
  | inr (inr (able, sends)) ↦
      subst (λ parts. InvariantWith walks parts events) (sym sends.sent)
      (sent_sound old events id (sent.InvDone serial) invariants tt
      (λ scene shows x there.
      subst (MayBeSent scene) (sym (the_one (InvalidateCompletion (invalidation_by serial id)) x there))
      (ap may_forge (shows.kinds id ∙ able.1) ∙ may_forge_is able.0 able.2)))
]
