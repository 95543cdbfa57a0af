-- What stays true of a board when a message arrives.
use Rattle.std.proofs.Common.{◌≡◌, ◌+◌, ◌≤◌, ◌∙◌, ℕ, Bool, true, false, is_some, List, length, Option, None, Some, refl, sym, ap, subst, arith}
use Rattle.std.specs.List.{All}
use Rattle.iom_ats_cache.specs.Cache.{Cache}
use Rattle.iom_ats_cache.specs.Calls.{TakesAnswer}
use Rattle.iom_ats_cache.specs.declared.taken.Taken.{Taken as HowTaken}
use Rattle.iom_ats_cache.specs.declared.taken.Taken.TheVariants as taken
use Rattle.iom_device.specs.Caches.{cache_of, device_with, epoch_of}
use Rattle.iom_device.specs.Calls.{Obeys}
use Rattle.iom_fabric.specs.declared.fabric.OnLink.{OnLink}
use Rattle.iom_fabric.specs.declared.message.Message.{Message}
use Rattle.iom_fabric.specs.declared.message.Message.TheVariants as sent
use Rattle.iom_fabric.specs.declared.message.Range.{Range}
use Rattle.iom_fabric.specs.declared.message.Translation.{Translation}
use Rattle.iom_fabric.specs.declared.message.Translation.TheVariants as reply
use Rattle.iom_iommu.specs.Parts.{flights_of, slots_of, frames_of}
use Rattle.iom_board.specs.Deliveries.{TakesReply, TakesCompletion, MessageArrives, with_delivery}
use Rattle.iom_board.specs.BoardParts.{BoardParts}
use Rattle.iom_board.specs.Messages.{with_message}
use Rattle.iom_iommu.specs.OwnIommu.{Iommu}
use Rattle.iom_board.specs.Invariant.{flight_ids, IsOfPlugged, IsMessageOf, BoardInvariant}
use Rattle.iom_board.specs.declared.answers.Delivered.{Delivered}
use Rattle.iom_board.specs.declared.answers.Delivered.TheVariants.{Answered, Taken, Ignored, Invalidated, Closed, NotClosed}
use Rattle.iom_board.proofs.DeviceLists.{ids_set, epochs_set, caches_kept}
use Rattle.iom_board.proofs.Sent.{messages_sent}
use Rattle.iom_board.proofs.SoundReplies.{asked_kept}
use Rattle.iom_board.proofs.SoundThen.{sound_then, iommu_kept, devices_kept}

-- an answer begins no epoch
epoch_kept : (cache : Cache) (epoch page : ℕ) (answer : Translation) (taking : HowTaken) (kept : Cache) → TakesAnswer cache epoch page answer taking kept → kept.epoch ≡ cache.epoch
epoch_kept cache epoch page answer taken.Stale kept (other, same) = ap (λ (c : Cache). c.epoch) same
epoch_kept cache epoch page (reply.Refused cause) taken.Refused kept (own, same) = ap (λ (c : Cache). c.epoch) same
epoch_kept cache epoch page (reply.Page frame rights) taken.Refused kept never = absurd never
epoch_kept cache epoch page (reply.Page frame rights) taken.Kept kept (own, is) = ap (λ (c : Cache). c.epoch) is
epoch_kept cache epoch page (reply.Refused cause) taken.Kept kept never = absurd never

reply_keeps : (found : Option Cache) (epoch page : ℕ) (answer : Translation) (delivered : Delivered) (after : Option Cache) → TakesReply found epoch page answer delivered after
    → (is_some after ≡ is_some found) × (epoch_of after ≡ epoch_of found)
reply_keeps None epoch page answer Ignored after is = (ap is_some is, ap epoch_of is)
reply_keeps None epoch page answer _ after never = absurd never
reply_keeps (Some cache) epoch page answer (Taken taking) after (kept, takes, is) = (ap is_some is, ap epoch_of is ∙ epoch_kept cache epoch page answer taking kept takes)
reply_keeps (Some cache) epoch page answer _ after never = absurd never

-- a request to invalidate begins one
obeys_keeps : (found : Option Cache) (serial : ℕ) (range : Range) (says : Option Message) (after : Option Cache) → Obeys found serial range says after → is_some after ≡ is_some found
obeys_keeps None serial range None after is = ap is_some is
obeys_keeps None serial range (Some done) after never = absurd never
obeys_keeps (Some cache) serial range None after never = absurd never
obeys_keeps (Some cache) serial range (Some done) after (left, effect, is) = ap is_some is

obeys_low : (found : Option Cache) (serial : ℕ) (range : Range) (says : Option Message) (after : Option Cache) (events : ℕ) → Obeys found serial range says after → epoch_of found ≤ events
    → epoch_of after ≤ events + 1
obeys_low None serial range None after events is low = let e : epoch_of after ≡ 0 = ap epoch_of is in omega (arith, e)
obeys_low None serial range (Some done) after events never low = absurd never
obeys_low (Some cache) serial range None after events never low = absurd never
obeys_low (Some cache) serial range (Some done) after events (left, effect, is) low =
    let e : epoch_of after ≡ cache.epoch + 1 = ap epoch_of is ∙ ap (λ (c : Cache). c.epoch) effect.left in omega (arith, e, low)

-- its word names no page
obeys_says : (found : Option Cache) (serial : ℕ) (range : Range) (done : Message) (after : Option Cache) (plugged : Bool) → Obeys found serial range (Some done) after → IsOfPlugged plugged done
obeys_says None serial range done after plugged never = absurd never
obeys_says (Some cache) serial range done after plugged (left, effect, is) = subst (IsOfPlugged plugged) (sym effect.done) tt

-- one device has another cache, and there are other messages
delivery_sound : (old : BoardParts) (events device : ℕ) (cache : Option Cache) (fabric : List OnLink) → BoardInvariant old events → All (IsMessageOf old.devices) fabric
    → is_some cache ≡ is_some (cache_of old.devices device) → epoch_of cache ≤ events + 1 → BoardInvariant (with_delivery old device cache fabric) (events + 1)
delivery_sound old events device cache fabric invariants messages same low =
    sound_then old (with_delivery old device cache fabric) events invariants refl (iommu_kept old old.iommu events invariants refl refl refl)
    (record {
      ids = ids_set old.devices device cache;
      caches = caches_kept old.devices device cache invariants.caches same;
      epochs = λ d. epochs_set old.devices device cache (events + 1) d low (let own = invariants.epochs d in omega (arith, own));
    })
    messages

-- the IOMMU is told that a request is completed
completed_sound : (old new : BoardParts) (events device serial : ℕ) (others : List OnLink) (closed : Bool) → BoardInvariant old events → All (IsMessageOf old.devices) others
    → TakesCompletion old device serial others closed new → BoardInvariant new (events + 1)
completed_sound old new events device serial others closed invariants left takes =
    sound_then old new events invariants (ap (λ m. length m) takes.memory)
    (record {
      frames = ap (λ (i : Iommu). frames_of i) takes.call.left;
      rows = ap (λ (i : Iommu). flight_ids (flights_of i).rows) takes.call.left;
      accepted = subst (λ (i : Iommu). (flights_of i).so_far ≤ events + 1) (sym takes.call.left) (let low = invariants.accepted in omega (arith, low));
      serials = subst (λ (i : Iommu). (slots_of i).last ≤ events + 1) (sym takes.call.left) (let low = invariants.serials in omega (arith, low));
    })
    (devices_kept old new.devices events invariants takes.devices)
    (subst (All (IsMessageOf old.devices)) (sym takes.fabric) left)

-- A MESSAGE ARRIVES
pub arrives_sound : (old new : BoardParts) (events device : ℕ) (message : Message) (others : List OnLink) (delivered : Delivered) → BoardInvariant old events → All (IsMessageOf old.devices) others
    → length new.memory ≡ length old.memory → MessageArrives message old device others delivered new → BoardInvariant new (events + 1)
arrives_sound old new events device (sent.Ask epoch page) others (Answered answer) invariants left memory asks =
    sound_then old new events invariants memory (asked_kept old new.memory new.iommu events device page answer invariants asks.call) (devices_kept old new.devices events invariants asks.devices)
    (subst (All (IsMessageOf old.devices)) (sym asks.fabric) (messages_sent old.devices others device (sent.Answer epoch page answer) left tt))
arrives_sound old new events device (sent.Ask epoch page) others _ invariants left memory never = absurd never
arrives_sound old new events device (sent.Answer epoch page answer) others delivered invariants left memory takes =
    let keeps = reply_keeps (cache_of old.devices device) epoch page answer delivered takes.after takes.cache in
    let low : epoch_of (cache_of old.devices device) ≤ events = invariants.epochs device in
    subst (λ parts. BoardInvariant parts (events + 1)) (sym takes.rest)
    (delivery_sound old events device takes.after others invariants left keeps.0 (subst (λ n. n ≤ events + 1) (sym keeps.1) (omega (arith, low))))
arrives_sound old new events device (sent.InvReq serial range) others (Invalidated named) invariants left memory (same, (done, after, obeys, is)) =
    subst (λ parts. BoardInvariant parts (events + 1)) (sym is)
    (delivery_sound old events device after (with_message others device done) invariants
    (messages_sent old.devices others device done left (obeys_says (cache_of old.devices device) serial range done after (is_some (device_with old.devices device)) obeys))
    (obeys_keeps (cache_of old.devices device) serial range (Some done) after obeys) (obeys_low (cache_of old.devices device) serial range (Some done) after events obeys (invariants.epochs device)))
arrives_sound old new events device (sent.InvReq serial range) others Ignored invariants left memory (after, obeys, is) =
    subst (λ parts. BoardInvariant parts (events + 1)) (sym is)
    (delivery_sound old events device after others invariants left
    (obeys_keeps (cache_of old.devices device) serial range None after obeys) (obeys_low (cache_of old.devices device) serial range None after events obeys (invariants.epochs device)))
arrives_sound old new events device (sent.InvReq serial range) others _ invariants left memory never = absurd never
arrives_sound old new events device (sent.InvDone serial) others (Closed named) invariants left memory (same, takes) = completed_sound old new events device serial others true invariants left takes
arrives_sound old new events device (sent.InvDone serial) others (NotClosed named) invariants left memory (same, takes) = completed_sound old new events device serial others false invariants left takes
arrives_sound old new events device (sent.InvDone serial) others _ invariants left memory never = absurd never
