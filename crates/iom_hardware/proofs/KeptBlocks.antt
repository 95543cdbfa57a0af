-- Which block devices a board knows, after each of its calls.
use Rattle.std.proofs.Common.{◌≡◌, ◌∙◌, inl, inr, ℕ, Bool, true, false, List, Option, Some, None, slice_get, remove, Result, Ok, Err, ap}
use Rattle.std.specs.Option.{option_map_or}
use Rattle.iom_base.specs.declared.access.Access.{Access}
use Rattle.iom_base.specs.declared.device_kind.DeviceKind.{DeviceKind}
use Rattle.iom_base.specs.DeviceKinds.{has_cache, is_block_device}
use Rattle.iom_base.specs.declared.refusal.Refusal.{Refusal}
use Rattle.iom_board.specs.BoardParts.{BoardParts}
use Rattle.iom_board.specs.ByDevice.{ByDevice}
use Rattle.iom_board.specs.Commits.{CommitsOldestAccess, ResetsAnyDevice}
use Rattle.iom_board.specs.declared.answers.CacheReply.{CacheReply}
use Rattle.iom_board.specs.declared.answers.CacheReply.TheVariants.{Miss, Replied}
use Rattle.iom_board.specs.declared.answers.Delivered.{Delivered}
use Rattle.iom_board.specs.declared.answers.Delivered.TheVariants as delivered
use Rattle.iom_board.specs.Deliveries.{DeliversAtPlace, MessageArrives, MessageArrivesIfAny}
use Rattle.iom_board.specs.Messages.{AsksTranslation, ClaimsCompletion, CopiesMessage, LosesMessage, SendsMessage}
use Rattle.iom_board.specs.Requests.{RequestsAccess, RequestsTranslatedAccess}
use Rattle.iom_board.specs.ThroughCache.{GoesByCache, GoesByCachedFrame, RequestsAccessThroughCache, frame_in_cache}
use Rattle.iom_device.specs.Caches.{cache_of, epoch_in, kind_in}
use Rattle.iom_device.specs.Calls.{reset_of}
use Rattle.iom_fabric.specs.declared.fabric.OnLink.{OnLink}
use Rattle.iom_fabric.specs.declared.fabric.Repeat.{Repeat}
use Rattle.iom_fabric.specs.declared.message.Message.{Message}
use Rattle.iom_fabric.specs.declared.message.Message.TheVariants as sent
use Rattle.iom_inflight.specs.declared.made.MadeAt.{MadeAt}
use Rattle.iom_iommu.specs.declared.reply.Reply.{Reply}
use Rattle.iom_hardware.specs.Agreement.{known_blocks}
use Rattle.iom_hardware.specs.Steps.{AsksIfMissed, Begins, GoesBy}
use Rattle.iom_hardware.specs.declared.steps.Stepped.{Stepped}
use Rattle.iom_hardware.proofs.KnownBlocks.{known_cache}

-- the same block devices are known
abbrev pub KeepsKnown : BoardParts → BoardParts → Type 0
KeepsKnown old new = known_blocks new.devices ≡ known_blocks old.devices

same_parts : (old new : BoardParts) → new ≡ old → KeepsKnown old new
same_parts old new same = ap (λ (parts : BoardParts). known_blocks parts.devices) same

by_device : {A : Type 0} (can : DeviceKind → Bool) (Call : BoardParts → A → BoardParts → Type 0) (old new : BoardParts) (id : ℕ) (answer : Result A Refusal)
    → ((given : A) → Call old given new → KeepsKnown old new) → ByDevice can Call old id answer new → KeepsKnown old new
by_device can Call old new id answer keeps (inl none) = same_parts old new none.same
by_device can Call old new id answer keeps (inr (inl wrong)) = same_parts old new wrong.same
by_device can Call old new id answer keeps (inr (inr effect)) = keeps effect.given effect.call

pub committed : (old new : BoardParts) (id : ℕ) (answer : Result (Option MadeAt) Refusal) → CommitsOldestAccess old id answer new → KeepsKnown old new
committed old new id answer commits = by_device _ _ old new id answer (λ given makes. ap known_blocks makes.devices) commits

pub was_reset : (old new : BoardParts) (id : ℕ) (answer : Result (Unit {0}) Refusal) → ResetsAnyDevice old id answer new → KeepsKnown old new
was_reset old new id answer resets =
    by_device _ _ old new id answer
    (λ given clears. ap (λ (parts : BoardParts). known_blocks parts.devices) clears.cleared ∙ known_cache old.devices id (reset_of (cache_of old.devices id))) resets

pub requested : (can : DeviceKind → Bool) (old new : BoardParts) (id : ℕ) (access : Access) (answer : Result Reply Refusal) → RequestsAccess can old id access answer new → KeepsKnown old new
requested can old new id access answer requests = by_device _ _ old new id answer (λ given replies. ap known_blocks replies.devices) requests

pub translated : (old new : BoardParts) (id : ℕ) (access : Access) (answer : Result Reply Refusal) → RequestsTranslatedAccess old id access answer new → KeepsKnown old new
translated old new id access answer requests = by_device _ _ old new id answer (λ given replies. ap known_blocks replies.devices) requests

found : (frame : Option ℕ) (old new : BoardParts) (id : ℕ) (access : Access) (reply : CacheReply) → GoesByCachedFrame frame id access old reply new → new.devices ≡ old.devices
found None old new id access Miss same = ap (λ (parts : BoardParts). parts.devices) same
found None old new id access (Replied reply) never = absurd never
found (Some frame) old new id access Miss never = absurd never
found (Some frame) old new id access (Replied reply) replies = replies.devices

-- an access through a device's own cache leaves the devices
pub cached_devices : (can : DeviceKind → Bool) (old new : BoardParts) (id : ℕ) (access : Access) (answer : Result CacheReply Refusal) → RequestsAccessThroughCache can old id access answer new
    → new.devices ≡ old.devices
cached_devices can old new id access answer (inl none) = ap (λ (parts : BoardParts). parts.devices) none.same
cached_devices can old new id access answer (inr (inl wrong)) = ap (λ (parts : BoardParts). parts.devices) wrong.same
cached_devices can old new id access answer (inr (inr effect)) = by effect.given effect.call
  where
    by : (reply : CacheReply) → GoesByCache id access old reply new → new.devices ≡ old.devices
    by reply (inl (outside, is, same)) = ap (λ (parts : BoardParts). parts.devices) same
    by reply (inr (inl (within, full, is, same))) = ap (λ (parts : BoardParts). parts.devices) same
    by reply (inr (inr (within, room, finds))) = found (frame_in_cache old id access) old new id access reply finds

pub cached : (can : DeviceKind → Bool) (old new : BoardParts) (id : ℕ) (access : Access) (answer : Result CacheReply Refusal) → RequestsAccessThroughCache can old id access answer new
    → KeepsKnown old new
cached can old new id access answer requests = ap known_blocks (cached_devices can old new id access answer requests)

asked : (first : Result CacheReply Refusal) (old new : BoardParts) (id : ℕ) (access : Access) (answer : Result Stepped Refusal) → AsksIfMissed first old id access answer new → KeepsKnown old new
asked (Ok Miss) old new id access answer asks = ap (λ (parts : BoardParts). known_blocks parts.devices) asks.1
asked (Ok (Replied reply)) old new id access answer asks = same_parts old new asks.1
asked (Err why) old new id access answer asks = same_parts old new asks.1

goes : (through : Bool) (old new : BoardParts) (id : ℕ) (access : Access) (answer : Result Stepped Refusal) → GoesBy through old id access answer new → KeepsKnown old new
goes false old new id access answer untranslated = requested is_block_device old new id access untranslated.given untranslated.requests
goes true old new id access answer through =
    asked through.first through.between new id access answer through.asks ∙ cached is_block_device old through.between id access through.first through.tries

pub begun : (old new : BoardParts) (id : ℕ) (access : Access) (answer : Result Stepped Refusal) → Begins old id access answer new → KeepsKnown old new
begun old new id access answer begins = goes (option_map_or has_cache (kind_in old.devices id) false) old new id access answer begins

arrived : (message : Message) (old new : BoardParts) (id : ℕ) (others : List OnLink) (is : Delivered) → MessageArrives message old id others is new → KeepsKnown old new
arrived (sent.Ask epoch page) old new id others (delivered.Answered answer) asks = ap known_blocks asks.devices
arrived (sent.Answer epoch page answer) old new id others is takes =
    ap (λ (parts : BoardParts). known_blocks parts.devices) takes.rest ∙ known_cache old.devices id takes.after
arrived (sent.InvReq serial range) old new id others (delivered.Invalidated named) (is, (done, after, obeys, rest)) =
    ap (λ (parts : BoardParts). known_blocks parts.devices) rest ∙ known_cache old.devices id after
arrived (sent.InvReq serial range) old new id others delivered.Ignored (after, obeys, rest) =
    ap (λ (parts : BoardParts). known_blocks parts.devices) rest ∙ known_cache old.devices id after
arrived (sent.InvDone serial) old new id others (delivered.Closed named) (is, takes) = ap known_blocks takes.devices
arrived (sent.InvDone serial) old new id others (delivered.NotClosed named) (is, takes) = ap known_blocks takes.devices
arrived (sent.Ask epoch page) old new id others delivered.NoMessage never = absurd never
arrived (sent.Ask epoch page) old new id others (delivered.Taken taking) never = absurd never
arrived (sent.Ask epoch page) old new id others delivered.Ignored never = absurd never
arrived (sent.Ask epoch page) old new id others (delivered.Invalidated serial) never = absurd never
arrived (sent.Ask epoch page) old new id others (delivered.Closed serial) never = absurd never
arrived (sent.Ask epoch page) old new id others (delivered.NotClosed serial) never = absurd never
arrived (sent.InvReq serial range) old new id others delivered.NoMessage never = absurd never
arrived (sent.InvReq serial range) old new id others (delivered.Answered answer) never = absurd never
arrived (sent.InvReq serial range) old new id others (delivered.Taken taking) never = absurd never
arrived (sent.InvReq serial range) old new id others (delivered.Closed other) never = absurd never
arrived (sent.InvReq serial range) old new id others (delivered.NotClosed other) never = absurd never
arrived (sent.InvDone serial) old new id others delivered.NoMessage never = absurd never
arrived (sent.InvDone serial) old new id others (delivered.Answered answer) never = absurd never
arrived (sent.InvDone serial) old new id others (delivered.Taken taking) never = absurd never
arrived (sent.InvDone serial) old new id others delivered.Ignored never = absurd never
arrived (sent.InvDone serial) old new id others (delivered.Invalidated other) never = absurd never

pub was_delivered : (old new : BoardParts) (place : ℕ) (is : Delivered) → DeliversAtPlace old place is new → KeepsKnown old new
was_delivered old new place is delivers = by (slice_get old.fabric place) delivers
  where
    by : (on : Option OnLink) → MessageArrivesIfAny on old (remove old.fabric place) is new → KeepsKnown old new
    by None (none, same) = same_parts old new same
    by (Some on) arrives = arrived on.message old new on.device (remove old.fabric place) is arrives

sends : (id : ℕ) (message : Message) (old new : BoardParts) (is_sent : Bool) → SendsMessage id message old is_sent new → KeepsKnown old new
sends id message old new is_sent call = ap (λ (parts : BoardParts). known_blocks parts.devices) call.sent

pub question : (old new : BoardParts) (id page : ℕ) (answer : Result Bool Refusal) → AsksTranslation old id page answer new → KeepsKnown old new
question old new id page answer asks =
    by_device _ _ old new id answer (λ given call. sends id (sent.Ask (epoch_in old.devices id) page) old new given call) asks

pub forged : (old new : BoardParts) (id serial : ℕ) (answer : Result Bool Refusal) → ClaimsCompletion old id serial answer new → KeepsKnown old new
forged old new id serial answer claims = by_device _ _ old new id answer (λ given call. sends id (sent.InvDone serial) old new given call) claims

pub lost : (old new : BoardParts) (place : ℕ) (was : Bool) → LosesMessage old place was new → KeepsKnown old new
lost old new place was loses = ap (λ (parts : BoardParts). known_blocks parts.devices) loses.lost

pub copied : (old new : BoardParts) (place : ℕ) (became : Repeat) → CopiesMessage old place became new → KeepsKnown old new
copied old new place became copies = ap (λ (parts : BoardParts). known_blocks parts.devices) copies.copied
