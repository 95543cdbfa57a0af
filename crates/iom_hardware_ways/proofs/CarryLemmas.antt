-- Calls that carry messages, or change nothing that a way goes by: a message is lost, repeated, sent; a fence is given up.
use Rattle.std.proofs.Common.{◌≡◌, ◌⊎◌, ◌∙◌, inl, inr, ℕ, Bool, true, false, nat_lt, List, [], ◌∷◌, ◌++◌, map, length, remove, slice_get, Contains, Option, Some, None, Result, Ok, refl, ap, subst, arith, if◌then◌else◌}
use Rattle.std.proofs.lemmas.List.Elements.{Contains-push_cases}
use Rattle.iom_base.specs.declared.device_kind.DeviceKind.{DeviceKind}
use Rattle.iom_base.specs.declared.refusal.Refusal.{Refusal}
use Rattle.iom_base.specs.DeviceKinds.{asks_questions, forges}
use Rattle.iom_device.specs.Caches.{IsAble, epoch_in}
use Rattle.iom_fabric.specs.declared.fabric.OnLink.{OnLink}
use Rattle.iom_fabric.specs.declared.fabric.Repeat.{Repeat}
use Rattle.iom_fabric.specs.declared.message.Message.{Message as Sent}
use Rattle.iom_fabric.specs.declared.message.Message.TheVariants as sent
use Rattle.iom_fabric.specs.Messages.{repeated}
use Rattle.iom_board.specs.ByDevice.{ByDevice}
use Rattle.iom_board.specs.Commits.{GivesUpFence}
use Rattle.iom_board.specs.BoardParts.{BoardParts}
use Rattle.iom_board.specs.Messages.{with_message, SendsMessage, AsksTranslation, ClaimsCompletion, LosesMessage, CopiesMessage}
use Rattle.iom_iommu.specs.Parts.{registers_of, contexts_of, translations_of, flights_of}
use Rattle.iom_registers.specs.Queues.{with_cmd_to}
use Rattle.iom_reach.specs.Transitions.{CarryMessages, IsSendable}
use Rattle.iom_reach.specs.Scene.{Message}
use Rattle.iom_hardware_ways.specs.Calls.{AsksAtStep}
use Rattle.iom_hardware_ways.specs.Scenes.{said_on, message_of, scene_of}
use Rattle.iom_hardware_ways.proofs.ListLemmas.{remove_among, map_among, map_cases, contains_map, get_contains}
use Rattle.iom_hardware_ways.proofs.SceneParts.{scene_is}
use Rattle.iom_hardware_ways.proofs.Turns.{Comes, nothing, one}

-- a device that isn't there, or is of another kind, changes nothing
pub by_device : {A : Type 0} (trusted : ℕ → Bool) (can : DeviceKind → Bool) (Call : BoardParts → A → BoardParts → Type 0) (old : BoardParts) (id : ℕ)
    (answer : Result A Refusal) (new : BoardParts) → ByDevice can Call old id answer new
    → ((given : A) → IsAble can old.devices id → answer ≡ Ok given → Call old given new → Comes (scene_of trusted old) (scene_of trusted new))
    → Comes (scene_of trusted old) (scene_of trusted new)
by_device trusted can Call old id answer new (inl absent) effect = nothing (scene_of trusted old) (scene_of trusted new) (ap (scene_of trusted) absent.same)
by_device trusted can Call old id answer new (inr (inl other)) effect = nothing (scene_of trusted old) (scene_of trusted new) (ap (scene_of trusted) other.same)
by_device trusted can Call old id answer new (inr (inr so)) effect = effect so.given so.able so.answered so.call

-- other messages are under way
pub carried : (trusted : ℕ → Bool) (old new : BoardParts) (fabric : List OnLink) → new ≡ record old { fabric = fabric }
    → ((message : Message) → Contains (map message_of fabric) message → IsSendable (scene_of trusted old) message ⊎ Contains (map message_of old.fabric) message)
    → Comes (scene_of trusted old) (scene_of trusted new)
carried trusted old new fabric is from =
    one CarryMessages tt (scene_of trusted old) (scene_of trusted new) (map message_of fabric, from, ap (scene_of trusted) is)

pub lost : (trusted : ℕ → Bool) (old : BoardParts) (place : ℕ) (found : Bool) (new : BoardParts) → LosesMessage old place found new
    → Comes (scene_of trusted old) (scene_of trusted new)
lost trusted old place found new loses = carried trusted old new (remove old.fabric place) loses.lost
    (λ message there. inr (map_among message_of (remove old.fabric place) old.fabric (remove_among old.fabric place) message there))

repeated_among : (fabric : List OnLink) (found : Option OnLink) → ((on : OnLink) → found ≡ Some on → Contains fabric on)
    → (on : OnLink) → Contains (repeated fabric found) on → Contains fabric on
repeated_among fabric None there on c = c
repeated_among fabric (Some own) there on c = by (nat_lt (length fabric) 64) c
  where
    by : (b : Bool) → Contains (if b then fabric ++ own ∷ [] else fabric) on → Contains fabric on
    by false among = among
    by true among = elim (Contains-push_cases fabric own on among) [
      | inl before ↦ before
      | inr same ↦ subst (Contains fabric) same (there own refl)
    ]

pub repeats : (trusted : ℕ → Bool) (old : BoardParts) (place : ℕ) (repeat : Repeat) (new : BoardParts) → CopiesMessage old place repeat new
    → Comes (scene_of trusted old) (scene_of trusted new)
repeats trusted old place what new copies = carried trusted old new (repeated old.fabric (slice_get old.fabric place)) copies.copied
    (λ message there. inr (map_among message_of (repeated old.fabric (slice_get old.fabric place)) old.fabric
    (repeated_among old.fabric (slice_get old.fabric place) (λ on at. get_contains old.fabric place on at)) message there))

-- one more message, where there is room
pub sent_cases : (fabric : List OnLink) (device : ℕ) (says : Sent) (message : Message) → Contains (map message_of (with_message fabric device says)) message
    → (said_on device says ≡ message) ⊎ Contains (map message_of fabric) message
sent_cases fabric device says message c = by (nat_lt (length fabric) 64) c
  where
    by : (b : Bool) → Contains (map message_of (if b then fabric ++ record { device = device; message = says } ∷ [] else fabric)) message
        → (said_on device says ≡ message) ⊎ Contains (map message_of fabric) message
    by false among = inr among
    by true among =
        let own : OnLink = record { device = device; message = says } in
        let (on, there, is) = map_cases message_of (fabric ++ own ∷ []) message among in
        elim (Contains-push_cases fabric own on there) [
          | inl before ↦ inr (subst (Contains (map message_of fabric)) is (contains_map message_of fabric on before))
          | inr same ↦ inl (ap message_of same ∙ is)
        ]

sends : (trusted : ℕ → Bool) (id : ℕ) (says : Sent) (old : BoardParts) (is_sent : Bool) (new : BoardParts) → SendsMessage id says old is_sent new
    → IsSendable (scene_of trusted old) (said_on id says) → Comes (scene_of trusted old) (scene_of trusted new)
sends trusted id says old is_sent new call may = carried trusted old new (with_message old.fabric id says) call.sent
    (λ message there. elim (sent_cases old.fabric id says message there) [
      | inl same ↦ inl (subst (IsSendable (scene_of trusted old)) same may)
      | inr before ↦ inr before
    ])

pub asks : (trusted : ℕ → Bool) (old : BoardParts) (id page : ℕ) (answer : Result Bool Refusal) (new : BoardParts) → AsksTranslation old id page answer new
    → Comes (scene_of trusted old) (scene_of trusted new)
asks trusted old id page answer new call =
    by_device trusted asks_questions (λ old is_sent new. SendsMessage id (sent.Ask (epoch_in old.devices id) page) old is_sent new) old id answer new call
    (λ is_sent able reply effect. sends trusted id (sent.Ask (epoch_in old.devices id) page) old is_sent new effect (λ caches. omega arith))

-- a block device asks at a step
pub asks_at_step : (trusted : ℕ → Bool) (old : BoardParts) (id page : ℕ) (new : BoardParts) → AsksAtStep old id page new → Comes (scene_of trusted old) (scene_of trusted new)
asks_at_step trusted old id page new asks =
    sends trusted id (sent.Ask (epoch_in old.devices id) page) old (nat_lt (length old.fabric) 64) new (record { room = refl; sent = asks.asked }) (λ caches. omega arith)

pub forged : (trusted : ℕ → Bool) (old : BoardParts) (id serial : ℕ) (answer : Result Bool Refusal) (new : BoardParts) → ClaimsCompletion old id serial answer new
    → Comes (scene_of trusted old) (scene_of trusted new)
forged trusted old id serial answer new call =
    by_device trusted forges (SendsMessage id (sent.InvDone serial)) old id answer new call
    (λ is_sent able reply effect. sends trusted id (sent.InvDone serial) old is_sent new effect tt)

-- a fence that is given up leaves commands, tables and caches as they are
pub gives_up : (trusted : ℕ → Bool) (old : BoardParts) (has_effect : Bool) (new : BoardParts) → GivesUpFence old has_effect new
    → Comes (scene_of trusted old) (scene_of trusted new)
gives_up trusted old true new call =
    let is = call.call.1 in
    nothing (scene_of trusted old) (scene_of trusted new)
    (scene_is trusted new old.memory (with_cmd_to (registers_of old.iommu)) (contexts_of old.iommu) (translations_of old.iommu) (flights_of old.iommu).rows old.devices old.fabric
    call.memory (ap (λ i. registers_of i) is) (ap (λ i. contexts_of i) is) (ap (λ i. translations_of i) is) (ap (λ i. (flights_of i).rows) is) call.devices call.fabric)
gives_up trusted old false new call =
    nothing (scene_of trusted old) (scene_of trusted new)
    (scene_is trusted new old.memory (registers_of old.iommu) (contexts_of old.iommu) (translations_of old.iommu) (flights_of old.iommu).rows old.devices old.fabric
    call.memory (ap (λ i. registers_of i) call.call.1) (ap (λ i. contexts_of i) call.call.1) (ap (λ i. translations_of i) call.call.1)
    (ap (λ i. (flights_of i).rows) call.call.1) call.devices call.fabric)
