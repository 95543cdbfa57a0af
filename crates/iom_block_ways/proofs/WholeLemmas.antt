-- What a block device does at a line of its own is a call of hardware, or nothing at the board.
use Rattle.std.proofs.Common.{◌≡◌, ◌∙◌, inl, inr, ℕ, Bool, true, false, Option, None, Some, Result, Ok, Err, refl, sym, ap, subst}
use Rattle.std.specs.Option.{option_map_or}
use Rattle.iom_base.specs.Accesses.{page_of}
use Rattle.iom_base.specs.DeviceKinds.{has_cache, is_any_kind, is_block_device}
use Rattle.iom_base.specs.declared.access.Access.{Access}
use Rattle.iom_base.specs.declared.refusal.Refusal.{Refusal}
use Rattle.iom_block_devices.specs.Changes.{block_with, ChangesIfThere}
use Rattle.iom_block_devices.specs.Shown.{ShownBlock, ShownBlocks}
use Rattle.iom_board.specs.BoardParts.{BoardParts}
use Rattle.iom_board.specs.Commits.{ResetsAnyDevice}
use Rattle.iom_board.specs.Messages.{with_message}
use Rattle.iom_board.specs.ThroughCache.{GoesByCache, GoesByCachedFrame, RequestsAccessThroughCache, frame_in_cache}
use Rattle.iom_board.specs.declared.answers.CacheReply.{CacheReply}
use Rattle.iom_board.specs.declared.answers.CacheReply.TheVariants.{Miss, Replied}
use Rattle.iom_board.specs.declared.sender.Sender.TheVariants.{Step}
use Rattle.iom_device.specs.Caches.{IsAble, epoch_in, kind_in}
use Rattle.iom_fabric.specs.declared.message.Message.TheVariants.{Ask}
use Rattle.iom_hardware.specs.Queues.{SetsQueue, SetsLayout}
use Rattle.iom_hardware.specs.Status.{FindsNoBlock}
use Rattle.iom_hardware.specs.Steps.{AsksIfMissed, GoesBy, Ends, TakesOneStep, TakesStep, IsRefusedIfNone}
use Rattle.iom_hardware.specs.declared.steps.Stepped.{Stepped}
use Rattle.iom_hardware_ways.specs.Calls.{HardwareCall, HarmlessEffect}
use Rattle.iom_hardware_ways.specs.Calls as call
use Rattle.iom_virtio_blk.specs.declared.step.Step.{Step as Taken}
use Rattle.iom_virtio_blk.specs.declared.step.Step.TheVariants as step
use Rattle.iom_virtio_blk.specs.Steps.{Device}
use Rattle.iom_virtqueue.specs.declared.layout.Layout.{Layout}
use Rattle.iom_block_ways.specs.Calls.{MakesNone, UnchangedOrCalls}

-- an access that misses in the device's cache leaves the board
missed_by : (frame : Option ℕ) (old new : BoardParts) (id : ℕ) (access : Access) (reply : CacheReply) → reply ≡ Miss → GoesByCachedFrame frame id access old reply new → new ≡ old
missed_by None old new id access Miss is same = same
missed_by None old new id access (Replied given) is never = absurd never
missed_by (Some frame) old new id access Miss is never = absurd never
missed_by (Some frame) old new id access (Replied given) is replies = absurd (cc)

missed : (old new : BoardParts) (id : ℕ) (access : Access) → RequestsAccessThroughCache is_block_device old id access (Ok Miss) new → new ≡ old
missed old new id access (inl none) = none.same
missed old new id access (inr (inl wrong)) = wrong.same
missed old new id access (inr (inr effect)) = by effect.given (given effect.given effect.answered) effect.call
  where
    given : (reply : CacheReply) → ◌≡◌ {A = Result CacheReply Refusal} (Ok Miss) (Ok reply) → reply ≡ Miss
    given reply is = cc

    by : (reply : CacheReply) → reply ≡ Miss → GoesByCache id access old reply new → new ≡ old
    by reply is (inl (outside, response, same)) = same
    by reply is (inr (inl (within, full, response, same))) = same
    by reply is (inr (inr (within, room, finds))) = missed_by (frame_in_cache old id access) old new id access reply is finds

-- it goes through the device's cache, or where that misses the device asks
through : (first : Result CacheReply Refusal) (old between new : BoardParts) (id : ℕ) (access : Access) (answer : Result Stepped Refusal)
    → IsAble is_block_device old.devices id → RequestsAccessThroughCache is_block_device old id access first between → AsksIfMissed first between id access answer new
    → UnchangedOrCalls old new
through (Ok Miss) old between new id access answer able tries asks = inr (
  call.AskAtStep id (page_of access),
  record { able = able; asked = asks.1 ∙ ap (λ (p : BoardParts). record p { fabric = with_message p.fabric id (Ask (epoch_in p.devices id) (page_of access)) }) (missed old between id access tries) },
  tt,
)
through (Ok (Replied given)) old between new id access answer able tries asks = inr (
  call.ThroughCache Step id access (Ok (Replied given)),
  subst (λ (p : BoardParts). RequestsAccessThroughCache is_block_device old id access (Ok (Replied given)) p) (sym asks.1) tries,
  tt,
)
through (Err why) old between new id access answer able tries asks = inr (
  call.ThroughCache Step id access (Err why),
  subst (λ (p : BoardParts). RequestsAccessThroughCache is_block_device old id access (Err why) p) (sym asks.1) tries,
  tt,
)

goes : (caches : Bool) (old new : BoardParts) (id : ℕ) (access : Access) (answer : Result Stepped Refusal) → IsAble is_block_device old.devices id
    → GoesBy caches old id access answer new → UnchangedOrCalls old new
goes false old new id access answer able untranslated = inr (call.Request Step id access untranslated.given, untranslated.requests, tt)
goes true old new id access answer able cached = through cached.first old cached.between new id access answer able cached.tries cached.asks

ended : (taken : Taken) (old new : BoardParts) (id : ℕ) (between after : Device) (answer : Result Stepped Refusal) → IsAble is_block_device old.devices id
    → Ends taken old id between answer new after → UnchangedOrCalls old new
ended step.Idle old new id between after answer able ends = inl ends.same
ended step.Waiting old new id between after answer able ends = inl ends.same
ended step.Down old new id between after answer able ends = inl ends.same
ended (step.Chain fault) old new id between after answer able ends = inl ends.same
ended (step.Finished head len) old new id between after answer able ends = inl ends.same
ended (step.Wants want) old new id between after answer able begins =
    goes (option_map_or has_cache (kind_in old.devices id) false) old new id begins.access answer able begins.begun

-- no block device has the id
no_block : (old new : BoardParts) (id : ℕ) (answer : Result Stepped Refusal) → FindsNoBlock old id answer new → new ≡ old
no_block old new id answer (inl none) = none.same
no_block old new id answer (inr wrong) = wrong.same

-- A STEP
pub step_calls : (old new : BoardParts) (before after : ShownBlocks) (id : ℕ) (answer : Result Stepped Refusal) → TakesStep old before id answer new after
    → IsRefusedIfNone (block_with before.blocks id) old id answer new → UnchangedOrCalls old new
step_calls old new before after id answer takes refused = by (block_with before.blocks id) takes.0 refused
  where
    by : (found : Option ShownBlock) → ChangesIfThere found (TakesOneStep old id answer new) before.blocks id after.blocks → IsRefusedIfNone found old id answer new
        → UnchangedOrCalls old new
    by None unchanged none = inl (no_block old new id answer none)
    by (Some block) (now, one, is) able = ended one.taken old new id one.between now answer able one.ends

-- where a queue is set the device is reset
pub resets : (old new : BoardParts) (id : ℕ) (layout : Layout) (answer : Result (Unit {0}) Refusal) → SetsLayout old id layout answer new → ResetsAnyDevice old id (Ok tt) new
resets old new id layout answer sets = inr (inr (record { able = any sets.able; given = tt; answered = refl; call = record { cleared = sets.cleared } }))
  where
    any : IsAble is_block_device old.devices id → IsAble is_any_kind old.devices id
    any (kind, there, able) = (kind, there, refl)

-- A QUEUE THAT IS SET resets the device
pub queue_calls : (old new : BoardParts) (id : ℕ) (layout : Layout) (answer : Result (Unit {0}) Refusal) → SetsQueue old id layout answer new → UnchangedOrCalls old new
queue_calls old new id layout answer (inl none) = inl none.same
queue_calls old new id layout answer (inr (inl wrong)) = inl wrong.same
queue_calls old new id layout answer (inr (inr (inl bad))) = inl bad.same
queue_calls old new id layout answer (inr (inr (inr sets))) = inr (call.Reset id (Ok tt), resets old new id layout answer sets, tt)

-- A CALL THAT MAKES NO ACCESS is harmless, whoever is trusted
pub harmless : (trusted : ℕ → Bool) (done : HardwareCall) (old : BoardParts) → MakesNone done → HarmlessEffect trusted done old
harmless trusted (call.Commit id answer) old none = absurd none
harmless trusted (call.Request sender id access answer) old none = tt
harmless trusted (call.Translated id access answer) old none = tt
harmless trusted (call.ThroughCache sender id access answer) old none = tt
harmless trusted (call.Ask id page answer) old none = tt
harmless trusted (call.AskAtStep id page) old none = tt
harmless trusted (call.Forge id serial answer) old none = tt
harmless trusted (call.Fetch fetched) old none = tt
harmless trusted (call.Timeout has_effect) old none = tt
harmless trusted (call.Deliver place delivered) old none = tt
harmless trusted (call.Drop place found) old none = tt
harmless trusted (call.Repeat place again) old none = tt
harmless trusted (call.Reset id answer) old none = tt
