-- What an event makes of one block device: a part of its life.
use Rattle.std.proofs.Common.{◌≡◌, ◌≢◌, ◌⊎◌, inl, inr, ℕ, ◌==◌, Bool, true, false, List, [], ◌∷◌, Option, Some, None, if◌then◌else◌, refl, sym, ap, ◌∙◌, subst, append-nil}
use Rattle.std.specs.Prelude.{slice_get}
use Rattle.std.proofs.lemmas.Bool.{eq-eqb, ne_eqb, true≢false}
use Rattle.iom_base.specs.declared.access.Access.{Access}
use Rattle.iom_fabric.specs.declared.fabric.OnLink.{OnLink}
use Rattle.iom_inflight.specs.Flights.{row_of}
use Rattle.iom_iommu.specs.Parts.{flights_of}
use Rattle.iom_iommu.specs.declared.reply.Reply.{Reply as Answer}
use Rattle.iom_iommu.specs.declared.reply.Reply.TheVariants as answer
use Rattle.iom_machine.specs.declared.event.Event.{Event}
use Rattle.iom_machine.specs.declared.event.Event.TheVariants as events
use Rattle.iom_machine.specs.declared.outcome.BlockStep.TheVariants as rest
use Rattle.iom_machine.specs.declared.outcome.Outcome.{Outcome}
use Rattle.iom_machine.specs.declared.outcome.Outcome.TheVariants as outcome
use Rattle.iom_base.specs.declared.device_kind.DeviceKind.{DeviceKind}
use Rattle.iom_base.specs.DeviceKinds.{disk_of}
use Rattle.iom_device.specs.Caches.{kind_in}
use Rattle.iom_coherence.specs.Attachments.{caches_translations}
use Rattle.iom_world_effects.specs.BlockDevices.{GoesToMemory, AsksIfMissed}
use Rattle.iom_world_effects.specs.Parts.{Parts}
use Rattle.iom_world_effects.specs.Requests.{outcome_of_reply}
use Rattle.iom_world_effects.specs.ThroughCache.{DeviceAsksThroughCache, cached_frame, FindsFrame}
use Rattle.iom_virtio_blk.specs.declared.step.Step.{Step}
use Rattle.iom_virtio_blk.specs.declared.step.Step.TheVariants as step
use Rattle.iom_virtio_blk.specs.Steps.{Device, BlockDeviceSteps}
use Rattle.iom_virtqueue.specs.declared.layout.Layout.{Layout}
use Rattle.iom_virtqueue.specs.Layouts.{layout_of}
use Rattle.iom_block_devices.specs.Changes as devices
use Rattle.iom_block_devices.specs.Changes.{block_with, Changes, HasDisk, IsGivenUp, IsReset, SetsUp}
use Rattle.iom_block_devices.specs.Shown.{ShownBlock, ShownBlocks}
use Rattle.iom_block_devices.proofs.BlockChanges.{as_device, there_before, IsChanged, one_changes}
use Rattle.iom_hardware.specs.Blocks.{BringsRefusal, HearsAnswer, HearsOldest, BlocksUnchanged, oldest_number, refused_page}
use Rattle.iom_world.specs.Blocks.{CommitsOf, DeliversTo, EffectOnBlocks, EndsStep, InsertsIntoBlock, LeavesBlock, PlugsBlock, ResetsBlock, SetsQueueOf, StepsOnce, reply_of}
use Rattle.iom_world.specs.Shown.{Shown}
use Rattle.iom_block_life.specs.Lives.{Turn, Turns, Taken, Lives, entry_in, finished_at, TakesStep, HearsMade, HearsReply, HearsRefusal, ChangesDisk, taken_at}
use Rattle.iom_block_life.specs.Runs.{ends_life, finished_in, head_in, went_on, entry_by, taken_in}

-- the device with the id goes on with its life, takes these entries, and finishes the requests with these heads
pub record GoesOn (id : ℕ) (old : Device) (new : List ShownBlock) (taken : List Taken) (heads : List ℕ) : Type 0 where
  pub block : ShownBlock
  pub there : block_with new id ≡ Some block
  pub turns : List Turn
  pub lives : Lives old turns taken heads block.device

-- it is as it was
pub same_on : (id : ℕ) (new : List ShownBlock) (block : ShownBlock) → block_with new id ≡ Some block → GoesOn id block.device new [] []
same_on id new block there = record { block = block; there = there; turns = []; lives = (refl, refl, refl) }

stay_on : (id : ℕ) (old new : ShownBlocks) (block : ShownBlock) → block_with old.blocks id ≡ Some block → BlocksUnchanged old new → GoesOn id block.device new.blocks [] []
stay_on id old new block there same = same_on id new.blocks block (ap (λ (inside : ShownBlocks). block_with inside.blocks id) same ∙ there)

-- a call that finishes nothing
one_turn : (old new : Device) (turn : Turn) → taken_at old turn ≡ [] → finished_at turn ≡ []
    → Turns old turn new → Lives old (turn ∷ []) [] [] new
one_turn old new turn none_taken none_finished happens =
    (new, [], [], happens, sym (append-nil (taken_at old turn) ∙ none_taken), sym (append-nil (finished_at turn) ∙ none_finished), (refl, refl, refl))

turn_on : (id : ℕ) (new : List ShownBlock) (block : ShownBlock) (after : Device) (turn : Turn) → block_with new id ≡ Some (as_device block after)
    → taken_at block.device turn ≡ [] → finished_at turn ≡ [] → Turns block.device turn after → GoesOn id block.device new [] []
turn_on id new block after turn there none_taken none_finished happens = record {
  block = as_device block after;
  there = there;
  turns = turn ∷ [];
  lives = one_turn block.device after turn none_taken none_finished happens;
}

-- one of the devices changes by such a call, or by one that would end its life
called : (How : Device → Device → Type 0) (old new : ShownBlocks) (id other : ℕ) (block : ShownBlock) → block_with old.blocks id ≡ Some block → Changes How old other new
    → (IsChanged How new.blocks id other block → GoesOn id block.device new.blocks [] []) → GoesOn id block.device new.blocks [] []
called How old new id other block there changes when = by (one_changes How old.blocks new.blocks id other block there changes.0)
  where
    by : ((other ≢ id) × (block_with new.blocks id ≡ Some block)) ⊎ IsChanged How new.blocks id other block → GoesOn id block.device new.blocks [] []
    by (inl unchanged) = same_on id new.blocks block unchanged.1
    by (inr changed) = when changed

kept_alive : (How : Device → Device → Type 0) (new : List ShownBlock) (id other : ℕ) (block : ShownBlock) → (id == other) ≡ false
    → IsChanged How new id other block → GoesOn id block.device new [] []
kept_alive How new id other block alive changed = absurd (true≢false (sym (eq-eqb id other (sym changed.same)) ∙ alive))

-- a step that is told what became of its access went on to it
answered : (given : Outcome) (a : Answer) → given ≡ outcome_of_reply a → went_on given ≡ true
answered given (answer.Accepted number) is = ap went_on is
answered given answer.Busy is = ap went_on is
answered given answer.BadSpan is = ap went_on is
answered given (answer.Fault cause) is = ap went_on is

frame_found : (frame : Option ℕ) (old : Parts) (id : ℕ) (access : Access) (given : Outcome) (new : Parts) → FindsFrame frame old id access given new → went_on given ≡ true
frame_found None old id access given new found = ap went_on found.0
frame_found (Some frame) old id access given new found = answered given found.reply found.reply_is

through_cache : (can : DeviceKind → Bool) (old : Parts) (id : ℕ) (access : Access) (given : Outcome) (new : Parts) → DeviceAsksThroughCache can old id access given new → went_on given ≡ true
through_cache can old id access given new (inl unknown) = ap went_on unknown.reply_is
through_cache can old id access given new (inr (inl unable)) = ap went_on unable.reply_is
through_cache can old id access given new (inr (inr (able, inl bad))) = ap went_on bad.1
through_cache can old id access given new (inr (inr (able, inr (inl full)))) = ap went_on full.2
through_cache can old id access given new (inr (inr (able, inr (inr finds)))) = frame_found (cached_frame old id access) old id access given new finds.2

missed : (first : Outcome) (old : Parts) (id : ℕ) (access : Access) (given : Outcome) (new : Parts) → went_on first ≡ true → AsksIfMissed first old id access given new
    → went_on given ≡ true
missed outcome.Miss old id access given new none asks = ap went_on asks.0
missed first old id access given new none asks = ap went_on asks.0 ∙ none

pub to_memory : (has_cache : Bool) (old : Parts) (id : ℕ) (access : Access) (given : Outcome) (new : Parts) → GoesToMemory has_cache old id access given new → went_on given ≡ true
to_memory false old id access given new (inl unknown) = ap went_on unknown.reply_is
to_memory false old id access given new (inr (inl unable)) = ap went_on unable.reply_is
to_memory false old id access given new (inr (inr (able, replied))) = answered given replied.reply replied.reply_is
to_memory true old id access given new goes =
    missed goes.first goes.between id access given new (through_cache _ old id access goes.first goes.between goes.tries) goes.asks

-- such a step finishes no request
none_finished : (given : Outcome) → went_on given ≡ true → finished_in given ≡ []
none_finished (outcome.Stepped rest.Idle) goes = refl
none_finished (outcome.Stepped rest.Waiting) goes = refl
none_finished (outcome.Stepped rest.Asked) goes = refl
none_finished (outcome.Stepped (rest.Chain fault)) goes = refl
none_finished (outcome.Stepped (rest.Finished head len)) goes = absurd (true≢false (sym goes))
none_finished (outcome.Stepped rest.Down) goes = refl
none_finished given goes = refl

-- a step of the device
record LivesOn (before after : Device) (taken : List Taken) (heads : List ℕ) : Type 0 where
  turns : List Turn
  lives : Lives before turns taken heads after

-- the entry that it took, by whether it went on
abbrev entry_at : Bool → Device → List Taken
entry_at true before = entry_in before.front.is_made before.front.queue.phase before.front
entry_at false before = []

-- a step that begins no access
ends_step : (before between after : Device) (outcome : Step) (given : Outcome) → taken_at before (TakesStep outcome) ≡ [] → finished_in given ≡ finished_at (TakesStep outcome)
    → went_on given ≡ false → Turns before (TakesStep outcome) between → after ≡ between → LivesOn before after (entry_at (went_on given) before) (finished_in given)
ends_step before between after outcome given none heads stands happens same =
    subst (λ (c : Bool). LivesOn before after (entry_at c before) (finished_in given)) (sym stands)
    (record {
      turns = TakesStep outcome ∷ [];
      lives = (
        between,
        [],
        [],
        happens,
        sym (append-nil (taken_at before (TakesStep outcome)) ∙ none),
        heads ∙ sym (append-nil (finished_at (TakesStep outcome))),
        (refl, refl, same),
      );
    })

steps : (old new : Parts) (id : ℕ) (given : Outcome) (before after : Device) → StepsOnce old id given new before after
    → LivesOn before after (entry_at (went_on given) before) (finished_in given)
steps old new id given before after once = by once.taken once.steps once.ends
  where
    by : (taken : Step) → BlockDeviceSteps before taken once.between → EndsStep taken old id once.between given new after
        → LivesOn before after (entry_at (went_on given) before) (finished_in given)
    by step.Idle happens ends = ends_step before once.between after step.Idle given refl (ap finished_in ends.0) (ap went_on ends.0) happens ends.2
    by step.Waiting happens ends = ends_step before once.between after step.Waiting given refl (ap finished_in ends.0) (ap went_on ends.0) happens ends.2
    by step.Down happens ends = ends_step before once.between after step.Down given refl (ap finished_in ends.0) (ap went_on ends.0) happens ends.2
    by (step.Chain fault) happens ends = ends_step before once.between after (step.Chain fault) given refl (ap finished_in ends.0) (ap went_on ends.0) happens ends.2
    by (step.Finished head len) happens ends =
        ends_step before once.between after (step.Finished head len) given refl (ap finished_in ends.0) (ap went_on ends.0) happens ends.2
    by (step.Wants want) happens begins =
        let goes = to_memory (caches_translations (kind_in old.devices id)) old id begins.access given new begins.begun in
        subst (λ (c : Bool). LivesOn before after (entry_at c before) (finished_in given)) (sym goes)
        (record {
          turns = TakesStep (step.Wants want) ∷ HearsReply (reply_of begins.access given) ∷ [];
          lives = (
            once.between,
            [],
            [],
            happens,
            sym (append-nil (taken_at before (TakesStep (step.Wants want)))),
            none_finished given goes,
            (after, [], [], ap (λ d. d.front) begins.hears, refl, refl, (refl, refl, refl)),
          );
        })

step_on : (id other : ℕ) (old new : Shown) (given : Outcome) (block : ShownBlock) → block_with old.inside.blocks id ≡ Some block
    → Changes (StepsOnce old.parts other given new.parts) old.inside other new.inside
    → GoesOn id block.device new.inside.blocks (taken_in id old (events.Step other) given) (head_in id (events.Step other) given)
step_on id other old new given block there changes =
    by (one_changes (StepsOnce old.parts other given new.parts) old.inside.blocks new.inside.blocks id other block there changes.0)
  where
    entry : List Taken
    entry = entry_by (went_on given) (block_with old.inside.blocks id)

    as_told : (c : Bool) → (id == other) ≡ c → GoesOn id block.device new.inside.blocks (if c then entry else []) (if c then finished_in given else [])
        → GoesOn id block.device new.inside.blocks (taken_in id old (events.Step other) given) (head_in id (events.Step other) given)
    as_told c is on = subst (λ (b : Bool). GoesOn id block.device new.inside.blocks (if b then entry else []) (if b then finished_in given else [])) (sym is) on

    same_entry : (c : Bool) → entry_by c (Some block) ≡ entry_at c block.device
    same_entry true = refl
    same_entry false = refl

    by : ((other ≢ id) × (block_with new.inside.blocks id ≡ Some block)) ⊎ IsChanged (StepsOnce old.parts other given new.parts) new.inside.blocks id other block
        → GoesOn id block.device new.inside.blocks (taken_in id old (events.Step other) given) (head_in id (events.Step other) given)
    by (inl (differ, unchanged)) = as_told false (ne_eqb id other (λ same. differ (sym same))) (same_on id new.inside.blocks block unchanged)
    by (inr changed) =
        let on = steps old.parts new.parts other given block.device changed.after changed.changed in
        as_told true (eq-eqb id other (sym changed.same))
        (record {
          block = as_device block changed.after;
          there = changed.there;
          turns = on.turns;
          lives =
              subst (λ (t : List Taken). Lives block.device on.turns t (finished_in given) changed.after)
              (sym (ap (λ (o : Option ShownBlock). entry_by (went_on given) o) there ∙ same_entry (went_on given))) on.lives;
        })

-- the other events

plugs : (number : Option ℕ) (id other : ℕ) (old new : ShownBlocks) (given : Outcome) (block : ShownBlock) → block_with old.blocks id ≡ Some block
    → PlugsBlock number old other given new → GoesOn id block.device new.blocks [] []
plugs None id other old new given block there same = stay_on id old new block there same
plugs (Some number) id other old new outcome.Done block there plugged =
    same_on id new.blocks block (ap (λ blocks. block_with blocks id) plugged.behind ∙ there_before old.blocks _ id block there)
plugs (Some number) id other old new given block there same = stay_on id old new block there same

inserts : (number id other : ℕ) (old new : ShownBlocks) (given : Outcome) (block : ShownBlock) → block_with old.blocks id ≡ Some block → InsertsIntoBlock number old other given new
    → GoesOn id block.device new.blocks [] []
inserts number id other old new outcome.Done block there put =
    by (one_changes (HasDisk put.disk) old.blocks new.blocks id other block there put.changed)
  where
    by : ((other ≢ id) × (block_with new.blocks id ≡ Some block)) ⊎ IsChanged (HasDisk put.disk) new.blocks id other block → GoesOn id block.device new.blocks [] []
    by (inl unchanged) = same_on id new.blocks block unchanged.1
    by (inr changed) = turn_on id new.blocks block changed.after ChangesDisk changed.there refl refl (ap (λ d. d.front) changed.changed.1)
inserts number id other old new given block there same = stay_on id old new block there same

leaves : (id other : ℕ) (old new : ShownBlocks) (given : Outcome) (block : ShownBlock) → block_with old.blocks id ≡ Some block → ends_life id (events.Detach other) given ≡ false → LeavesBlock old other given new
    → GoesOn id block.device new.blocks [] []
leaves id other old new (outcome.Ticket ticket) block there alive changes =
    called IsGivenUp old new id other block there changes (kept_alive IsGivenUp new.blocks id other block alive)
leaves id other old new given block there alive same = stay_on id old new block there same

resets : (id other : ℕ) (old new : ShownBlocks) (given : Outcome) (block : ShownBlock) → block_with old.blocks id ≡ Some block → ends_life id (events.Reset other) given ≡ false → ResetsBlock old other given new
    → GoesOn id block.device new.blocks [] []
resets id other old new outcome.Done block there alive changes =
    called IsReset old new id other block there changes (kept_alive IsReset new.blocks id other block alive)
resets id other old new given block there alive same = stay_on id old new block there same

queues : (layout : Layout) (id other : ℕ) (old new : ShownBlocks) (given : Outcome) (block : ShownBlock) → block_with old.blocks id ≡ Some block
    → ends_life id (events.Reset other) given ≡ false
    → SetsQueueOf layout old other given new → GoesOn id block.device new.blocks [] []
queues layout id other old new outcome.Done block there alive changes =
    called (SetsUp layout) old new id other block there changes (kept_alive (SetsUp layout) new.blocks id other block alive)
queues layout id other old new given block there alive same = stay_on id old new block there same

hears_made : (number : ℕ) (bytes : List ℕ) (old new : Device) → devices.HearsMade number bytes old new → Turns old (HearsMade number bytes) new
hears_made number bytes old new (inl own) = (λ is. own.1, λ differs. absurd (differs own.0))
hears_made number bytes old new (inr other) = (λ is. absurd (other.0 is), λ differs. ap (λ d. d.front) other.1)

hears_oldest : (number : Option ℕ) (bytes : List ℕ) (id other : ℕ) (old new : ShownBlocks) (block : ShownBlock) → block_with old.blocks id ≡ Some block
    → HearsOldest number bytes old other new → GoesOn id block.device new.blocks [] []
hears_oldest None bytes id other old new block there same = stay_on id old new block there same
hears_oldest (Some number) bytes id other old new block there changes =
    called (devices.HearsMade number bytes) old new id other block there changes
    (λ changed. turn_on id new.blocks block changed.after (HearsMade number bytes) changed.there refl refl
    (hears_made number bytes block.device changed.after changed.changed))

commits : (number : Option ℕ) (id other : ℕ) (old new : ShownBlocks) (given : Outcome) (block : ShownBlock) → block_with old.blocks id ≡ Some block → CommitsOf number old other given new
    → GoesOn id block.device new.blocks [] []
commits number id other old new (outcome.Read bytes) block there changes = hears_oldest number bytes.items id other old new block there changes
commits number id other old new (outcome.Wrote count) block there changes = hears_oldest number [] id other old new block there changes
commits number id other old new given block there same = stay_on id old new block there same

hears_refusal : (page : ℕ) (old new : Device) → devices.HearsRefusal page old new → Turns old (HearsRefusal page) new
hears_refusal page old new (inl own) = (λ is. ap (λ d. d.front) own.1, λ differs. absurd (differs own.0))
hears_refusal page old new (inr other) = (λ is. absurd (other.0 is), λ differs. ap (λ d. d.front) other.1)

hears_answer : (page : Option ℕ) (id other : ℕ) (old new : ShownBlocks) (block : ShownBlock) → block_with old.blocks id ≡ Some block → HearsAnswer page old other new
    → GoesOn id block.device new.blocks [] []
hears_answer None id other old new block there same = stay_on id old new block there same
hears_answer (Some page) id other old new block there changes =
    called (devices.HearsRefusal page) old new id other block there changes
    (λ changed. turn_on id new.blocks block changed.after (HearsRefusal page) changed.there refl refl (hears_refusal page block.device changed.after changed.changed))

brings : (on : Option OnLink) (id : ℕ) (old new : ShownBlocks) (block : ShownBlock) → block_with old.blocks id ≡ Some block → BringsRefusal on old new → GoesOn id block.device new.blocks [] []
brings None id old new block there same = stay_on id old new block there same
brings (Some on) id old new block there heard = hears_answer (refused_page on.message) id on.device old new block there heard

delivers : (on : Option OnLink) (id : ℕ) (old new : ShownBlocks) (given : Outcome) (block : ShownBlock) → block_with old.blocks id ≡ Some block → DeliversTo on old given new
    → GoesOn id block.device new.blocks [] []
delivers on id old new outcome.AnswerRefused block there brought = brings on id old new block there brought
delivers on id old new given block there same = stay_on id old new block there same

-- any event
pub event_on : (id : ℕ) (old new : Shown) (event : Event) (given : Outcome) (block : ShownBlock) → block_with old.inside.blocks id ≡ Some block → ends_life id event given ≡ false
    → EffectOnBlocks old event given new → GoesOn id block.device new.inside.blocks (taken_in id old event given) (head_in id event given)
event_on id old new (events.Plug other what) given block there alive effect = plugs (disk_of what) id other old.inside new.inside given block there effect
event_on id old new (events.Medium other number) given block there alive effect = inserts number id other old.inside new.inside given block there effect
event_on id old new (events.Detach other) given block there alive effect = leaves id other old.inside new.inside given block there alive effect
event_on id old new (events.Revive other) given block there alive effect = resets id other old.inside new.inside given block there alive effect
event_on id old new (events.Reset other) given block there alive effect = resets id other old.inside new.inside given block there alive effect
event_on id old new (events.Queue other size descriptors available used) given block there alive effect =
    queues (layout_of size descriptors available used) id other old.inside new.inside given block there alive effect
event_on id old new (events.Commit other) given block there alive effect = commits (oldest_number (row_of (flights_of old.parts.iommu).rows other)) id other old.inside new.inside given block there effect
event_on id old new (events.Deliver place) given block there alive effect = delivers (slice_get old.parts.fabric place) id old.inside new.inside given block there effect
event_on id old new (events.Step other) given block there alive effect = step_on id other old new given block there effect.1
event_on id old new (events.Status other) given block there alive effect = stay_on id old.inside new.inside block there effect.2
event_on id old new event given block there alive effect = stay_on id old.inside new.inside block there effect
