-- What a block device writes into its used ring goes on with the events of a run.
use Rattle.std.proofs.Common.{◌≡◌, ◌≢◌, ◌⊎◌, inl, inr, ℕ, ◌==◌, Bool, true, false, List, [], ◌∷◌, ◌++◌, Option, Some, None, if◌then◌else◌, refl, sym, ap, ◌∙◌, subst, append-nil, append_assoc}
use Rattle.std.specs.Prelude.{slice_get}
use Rattle.std.proofs.lemmas.Bool.{eq-eqb, ne_eqb, true≢false}
use Rattle.iom_coherence.specs.Attachments.{caches_translations}
use Rattle.iom_world_effects.specs.Parts.{Parts}
use Rattle.iom_device.specs.Caches.{kind_in}
use Rattle.iom_fabric.specs.declared.fabric.OnLink.{OnLink}
use Rattle.iom_inflight.specs.Flights.{row_of}
use Rattle.iom_iommu.specs.Parts.{flights_of}
use Rattle.iom_machine.specs.declared.event.Event.{Event}
use Rattle.iom_machine.specs.declared.event.Event.TheVariants as events
use Rattle.iom_machine.specs.declared.outcome.BlockStep.TheVariants as rest
use Rattle.iom_machine.specs.declared.outcome.Outcome.{Outcome}
use Rattle.iom_machine.specs.declared.outcome.Outcome.TheVariants as outcome
use Rattle.iom_machine.specs.declared.outcome.Trace.{Trace}
use Rattle.iom_machine.specs.declared.state.State.{State}
use Rattle.iom_base.specs.DeviceKinds.{disk_of}
use Rattle.iom_machine.specs.Machine.{Run}
use Rattle.iom_virtio_blk.specs.declared.step.Step.{Step}
use Rattle.iom_virtio_blk.specs.declared.step.Step.TheVariants as step
use Rattle.iom_virtio_blk.specs.Elements.{Byte, Done, IsWithin, Writes, begun, bytes_from, count_after, done_at, element_of, elements_from, wrote_at, wrote_by}
use Rattle.iom_virtio_blk.specs.Steps.{Device, BlockDeviceSteps}
use Rattle.iom_virtio_blk.proofs.ElementLemmas.{steps_write}
use Rattle.iom_virtqueue.specs.declared.layout.Layout.{Layout}
use Rattle.iom_virtqueue.specs.Layouts.{layout_of}
use Rattle.iom_virtqueue.specs.Queues.{QueueState, more_finished}
use Rattle.iom_block_devices.specs.Changes.{block_with, Changes, HasDisk, HearsMade, HearsRefusal, IsGivenUp, IsReset, SetsUp}
use Rattle.iom_block_devices.specs.Shown.{ShownBlock, ShownBlocks}
use Rattle.iom_block_devices.proofs.BlockChanges.{as_device, there_before, IsChanged, one_changes}
use Rattle.iom_hardware.specs.Blocks.{BringsRefusal, HearsAnswer, HearsOldest, BlocksUnchanged, oldest_number, refused_page}
use Rattle.iom_world.specs.Blocks.{CommitsOf, DeliversTo, EffectOnBlocks, EndsStep, InsertsIntoBlock, LeavesBlock, PlugsBlock, ResetsBlock, SetsQueueOf, StepsOnce}
use Rattle.iom_world.specs.Runs.{GoesThrough}
use Rattle.iom_world.specs.Shown.{Shown}
use Rattle.iom_block_life.specs.Lives.{HasFreshQueue}
use Rattle.iom_block_life.specs.Runs.{LivesThrough, ends_life, went_on}
use Rattle.iom_block_life.specs.UsedRings.{bytes_by, bytes_in, done_by_device, done_in, requests_in, wrote_when}
use Rattle.iom_block_life.proofs.EventLives.{to_memory}
use Rattle.iom_block_life.proofs.StoryLemmas.{ends, hears_made, hears_refusal}

-- the elements of some requests, and of more
elements-append : (layout : Layout) (count : ℕ) (first more : List Done)
    → elements_from layout count (first ++ more) ≡ elements_from layout count first ++ elements_from layout (count_after count first) more
elements-append layout count [] more = refl
elements-append layout count (done ∷ first) more =
    ap (λ (rest : List Byte). bytes_from layout count 0 (element_of done) ++ rest) (elements-append layout (more_finished count) first more)
    ∙ sym (append_assoc (bytes_from layout count 0 (element_of done)) (elements_from layout (more_finished count) first)
    (elements_from layout (count_after (more_finished count) first) more))

count-append : (count : ℕ) (first more : List Done) → count_after count (first ++ more) ≡ count_after (count_after count first) more
count-append count [] more = refl
count-append count (done ∷ first) more = count-append (more_finished count) first more

-- what is written, and what is written then
joined : (old mid new : QueueState) (wrote more : List Byte) (done later : List Done) → Writes old mid wrote done → Writes mid new more later
    → Writes old new (wrote ++ more) (done ++ later)
joined old mid new wrote more done later one two = record {
  layout = two.layout ∙ one.layout;
  count = two.count ∙ ap (λ n. count_after n later) one.count ∙ sym (count-append old.finished done later);
  bytes =
      sym (append_assoc (begun old) wrote more)
      ∙ ap (λ l. l ++ more) one.bytes
      ∙ append_assoc (elements_from old.layout old.finished done) (begun mid) more
      ∙ ap (λ l. elements_from old.layout old.finished done ++ l) (two.bytes ∙ ap (λ l. l ++ begun new) goes_on)
      ∙ sym (append_assoc (elements_from old.layout old.finished done) (elements_from old.layout (count_after old.finished done) later) (begun new))
      ∙ ap (λ l. l ++ begun new) (sym (elements-append old.layout old.finished done later));
  within = two.within;
}
  where
    goes_on : elements_from mid.layout mid.finished later ≡ elements_from old.layout (count_after old.finished done) later
    goes_on = ap (λ (l : Layout). elements_from l mid.finished later) one.layout ∙ ap (λ n. elements_from old.layout n later) one.count

kept : (old new : QueueState) → new ≡ old → IsWithin old → Writes old new [] []
kept old new same within = subst (λ (q : QueueState). Writes old q [] []) (sym same)
    (record { layout = refl; count = refl; bytes = append-nil (begun old); within = within })

-- the device with the id is there, and wrote this meanwhile
pub record WritesOn (id : ℕ) (old : QueueState) (new : List ShownBlock) (wrote : List Byte) (done : List Done) : Type 0 where
  pub block : ShownBlock
  pub there : block_with new id ≡ Some block
  pub writes : Writes old block.device.front.queue wrote done

-- a device that is there
record Has (id : ℕ) (old : ShownBlocks) (block : ShownBlock) : Type 0 where
  there : block_with old.blocks id ≡ Some block
  within : IsWithin block.device.front.queue

same_on : (id : ℕ) (old : ShownBlocks) (new : List ShownBlock) (block : ShownBlock) → Has id old block → block_with new id ≡ Some block
    → WritesOn id block.device.front.queue new [] []
same_on id old new block has there =
    record { block = block; there = there; writes = kept block.device.front.queue block.device.front.queue refl has.within }

stay_on : (id : ℕ) (old new : ShownBlocks) (block : ShownBlock) → Has id old block → BlocksUnchanged old new → WritesOn id block.device.front.queue new.blocks [] []
stay_on id old new block has same = same_on id old new.blocks block has (ap (λ (inside : ShownBlocks). block_with inside.blocks id) same ∙ has.there)

-- one of the devices changes, and this one's queue stays, or is that of another life
changes_on : (How : Device → Device → Type 0) (id other : ℕ) (old new : ShownBlocks) (block : ShownBlock) → Has id old block
    → (id ≡ other → (after : Device) → How block.device after → after.front.queue ≡ block.device.front.queue) → Changes How old other new
    → WritesOn id block.device.front.queue new.blocks [] []
changes_on How id other old new block has unchanged changes = by (one_changes How old.blocks new.blocks id other block has.there changes.0)
  where
    by : ((other ≢ id) × (block_with new.blocks id ≡ Some block)) ⊎ IsChanged How new.blocks id other block → WritesOn id block.device.front.queue new.blocks [] []
    by (inl same) = same_on id old new.blocks block has same.1
    by (inr changed) = record {
      block = as_device block changed.after;
      there = changed.there;
      writes = kept block.device.front.queue changed.after.front.queue (unchanged (sym changed.same) changed.after changed.changed) has.within;
    }

-- an event that would end the life of this device is one of another
alive : {P : Type 0} (id other : ℕ) → (id == other) ≡ false → id ≡ other → P
alive id other lives same = absurd (true≢false (sym (eq-eqb id other same) ∙ lives))

-- a step

abbrev wrote_if : Bool → Device → List Byte
wrote_if true d = wrote_by d.front.is_made d.front.queue
wrote_if false d = []

as_told : (old between after : QueueState) (wrote told_wrote : List Byte) (done told_done : List Done) → Writes old between wrote done
    → after ≡ between → told_wrote ≡ wrote → told_done ≡ done → Writes old after told_wrote told_done
as_told old between after wrote told_wrote done told_done writes same is ended =
    subst (λ (q : QueueState). Writes old q told_wrote told_done) (sym same)
    (subst (λ (w : List Byte). Writes old between w told_done) (sym is) (subst (λ (d : List Done). Writes old between wrote d) (sym ended) writes))

went_not : (reply shown : Outcome) (before : Device) → reply ≡ shown → went_on shown ≡ false → wrote_if (went_on reply) before ≡ []
went_not reply shown before is none = ap (λ (c : Bool). wrote_if c before) (ap went_on is ∙ none)

-- one that went on finished nothing
none_done : (reply : Outcome) → went_on reply ≡ true → done_in reply ≡ []
none_done (outcome.Stepped rest.Idle) goes = refl
none_done (outcome.Stepped rest.Waiting) goes = refl
none_done (outcome.Stepped rest.Asked) goes = refl
none_done (outcome.Stepped (rest.Chain fault)) goes = refl
none_done (outcome.Stepped (rest.Finished head len)) goes = absurd (true≢false (sym goes))
none_done (outcome.Stepped rest.Down) goes = refl
none_done reply goes = refl

step_writes : (old new : Parts) (id : ℕ) (reply : Outcome) (before after : Device) → StepsOnce old id reply new before after → IsWithin before.front.queue
    → Writes before.front.queue after.front.queue (wrote_if (went_on reply) before) (done_in reply)
step_writes old new id reply before after once within = by once.taken once.steps once.ends
  where
    as_shown : (taken : Step) (shown : Outcome) → BlockDeviceSteps before taken once.between → EndsStep taken old id once.between reply new after → reply ≡ shown
        → went_on shown ≡ false → wrote_at before taken ≡ [] → done_in shown ≡ done_at taken
        → Writes before.front.queue after.front.queue (wrote_if (went_on reply) before) (done_in reply)
    as_shown taken shown steps end is none wrote done =
        as_told before.front.queue once.between.front.queue after.front.queue (wrote_at before taken) (wrote_if (went_on reply) before) (done_at taken) (done_in reply)
        (steps_write before once.between taken steps within) (ends taken old new id reply once.between after end).queue
        (went_not reply shown before is none ∙ sym wrote) (ap done_in is ∙ done)

    by : (taken : Step) → BlockDeviceSteps before taken once.between → EndsStep taken old id once.between reply new after
        → Writes before.front.queue after.front.queue (wrote_if (went_on reply) before) (done_in reply)
    by step.Idle steps end = as_shown step.Idle (outcome.Stepped rest.Idle) steps end end.0 refl refl refl
    by step.Waiting steps end = as_shown step.Waiting (outcome.Stepped rest.Waiting) steps end end.0 refl refl refl
    by step.Down steps end = as_shown step.Down (outcome.Stepped rest.Down) steps end end.0 refl refl refl
    by (step.Chain fault) steps end = as_shown (step.Chain fault) (outcome.Stepped (rest.Chain fault)) steps end end.0 refl refl refl
    by (step.Finished head len) steps end = as_shown (step.Finished head len) (outcome.Stepped (rest.Finished head len)) steps end end.0 refl refl refl
    by (step.Wants want) steps begins =
        let goes = to_memory (caches_translations (kind_in old.devices id)) old id begins.access reply new begins.begun in
        as_told before.front.queue once.between.front.queue after.front.queue (wrote_at before (step.Wants want)) (wrote_if (went_on reply) before) [] (done_in reply)
        (steps_write before once.between (step.Wants want) steps within) (ends (step.Wants want) old new id reply once.between after begins).queue
        (ap (λ (c : Bool). wrote_if c before) goes) (none_done reply goes)

steps_on : (id other : ℕ) (old new : Shown) (reply : Outcome) (block : ShownBlock) → Has id old.inside block
    → Changes (StepsOnce old.parts other reply new.parts) old.inside other new.inside
    → WritesOn id block.device.front.queue new.inside.blocks (bytes_by id old (events.Step other) reply) (done_by_device id (events.Step other) reply)
steps_on id other old new reply block has changes =
    by (one_changes (StepsOnce old.parts other reply new.parts) old.inside.blocks new.inside.blocks id other block has.there changes.0)
  where
    wrote : List Byte
    wrote = wrote_when (went_on reply) (block_with old.inside.blocks id)

    as_is : (c : Bool) → (id == other) ≡ c → WritesOn id block.device.front.queue new.inside.blocks (if c then wrote else []) (if c then done_in reply else [])
        → WritesOn id block.device.front.queue new.inside.blocks (bytes_by id old (events.Step other) reply) (done_by_device id (events.Step other) reply)
    as_is c is on = subst (λ (b : Bool). WritesOn id block.device.front.queue new.inside.blocks (if b then wrote else []) (if b then done_in reply else [])) (sym is) on

    same_bytes : (c : Bool) → wrote_when c (Some block) ≡ wrote_if c block.device
    same_bytes true = refl
    same_bytes false = refl

    by : ((other ≢ id) × (block_with new.inside.blocks id ≡ Some block)) ⊎ IsChanged (StepsOnce old.parts other reply new.parts) new.inside.blocks id other block
        → WritesOn id block.device.front.queue new.inside.blocks (bytes_by id old (events.Step other) reply) (done_by_device id (events.Step other) reply)
    by (inl (differ, unchanged)) = as_is false (ne_eqb id other (λ same. differ (sym same))) (same_on id old.inside new.inside.blocks block has unchanged)
    by (inr changed) = as_is true (eq-eqb id other (sym changed.same))
        (record {
          block = as_device block changed.after;
          there = changed.there;
          writes =
              subst (λ (w : List Byte). Writes block.device.front.queue changed.after.front.queue w (done_in reply))
              (sym (ap (λ (o : Option ShownBlock). wrote_when (went_on reply) o) has.there ∙ same_bytes (went_on reply)))
              (step_writes old.parts new.parts other reply block.device changed.after changed.changed has.within);
        })

-- the other events

plugs : (number : Option ℕ) (id other : ℕ) (old new : ShownBlocks) (reply : Outcome) (block : ShownBlock) → Has id old block → PlugsBlock number old other reply new
    → WritesOn id block.device.front.queue new.blocks [] []
plugs None id other old new reply block has same = stay_on id old new block has same
plugs (Some number) id other old new outcome.Done block has plugged =
    same_on id old new.blocks block has (ap (λ blocks. block_with blocks id) plugged.behind ∙ there_before old.blocks _ id block has.there)
plugs (Some number) id other old new reply block has same = stay_on id old new block has same

inserts : (number id other : ℕ) (old new : ShownBlocks) (reply : Outcome) (block : ShownBlock) → Has id old block → InsertsIntoBlock number old other reply new
    → WritesOn id block.device.front.queue new.blocks [] []
inserts number id other old new outcome.Done block has put = by (one_changes (HasDisk put.disk) old.blocks new.blocks id other block has.there put.changed)
  where
    by : ((other ≢ id) × (block_with new.blocks id ≡ Some block)) ⊎ IsChanged (HasDisk put.disk) new.blocks id other block
        → WritesOn id block.device.front.queue new.blocks [] []
    by (inl same) = same_on id old new.blocks block has same.1
    by (inr changed) = record {
      block = as_device block changed.after;
      there = changed.there;
      writes = kept block.device.front.queue changed.after.front.queue (ap (λ (d : Device). d.front.queue) changed.changed.1) has.within;
    }
inserts number id other old new reply block has same = stay_on id old new block has same

leaves : (id other : ℕ) (old new : ShownBlocks) (reply : Outcome) (block : ShownBlock) → Has id old block → ends_life id (events.Detach other) reply ≡ false
    → LeavesBlock old other reply new → WritesOn id block.device.front.queue new.blocks [] []
leaves id other old new (outcome.Ticket ticket) block has lives changes =
    changes_on IsGivenUp id other old new block has (λ same after how. alive id other lives same) changes
leaves id other old new reply block has lives same = stay_on id old new block has same

resets : (id other : ℕ) (old new : ShownBlocks) (reply : Outcome) (block : ShownBlock) → Has id old block → ends_life id (events.Reset other) reply ≡ false
    → ResetsBlock old other reply new → WritesOn id block.device.front.queue new.blocks [] []
resets id other old new outcome.Done block has lives changes =
    changes_on IsReset id other old new block has (λ same after how. alive id other lives same) changes
resets id other old new reply block has lives same = stay_on id old new block has same

queues : (layout : Layout) (id other : ℕ) (old new : ShownBlocks) (reply : Outcome) (block : ShownBlock) → Has id old block → ends_life id (events.Reset other) reply ≡ false
    → SetsQueueOf layout old other reply new → WritesOn id block.device.front.queue new.blocks [] []
queues layout id other old new outcome.Done block has lives changes =
    changes_on (SetsUp layout) id other old new block has (λ same after how. alive id other lives same) changes
queues layout id other old new reply block has lives same = stay_on id old new block has same

hears_oldest : (number : Option ℕ) (bytes : List ℕ) (id other : ℕ) (old new : ShownBlocks) (block : ShownBlock) → Has id old block → HearsOldest number bytes old other new
    → WritesOn id block.device.front.queue new.blocks [] []
hears_oldest None bytes id other old new block has same = stay_on id old new block has same
hears_oldest (Some number) bytes id other old new block has changes =
    changes_on (HearsMade number bytes) id other old new block has (λ same after how. (hears_made number bytes block.device after how).queue) changes

commits : (number : Option ℕ) (id other : ℕ) (old new : ShownBlocks) (reply : Outcome) (block : ShownBlock) → Has id old block → CommitsOf number old other reply new
    → WritesOn id block.device.front.queue new.blocks [] []
commits number id other old new (outcome.Read bytes) block has changes = hears_oldest number bytes.items id other old new block has changes
commits number id other old new (outcome.Wrote count) block has changes = hears_oldest number [] id other old new block has changes
commits number id other old new reply block has same = stay_on id old new block has same

hears_answer : (page : Option ℕ) (id other : ℕ) (old new : ShownBlocks) (block : ShownBlock) → Has id old block → HearsAnswer page old other new
    → WritesOn id block.device.front.queue new.blocks [] []
hears_answer None id other old new block has same = stay_on id old new block has same
hears_answer (Some page) id other old new block has changes =
    changes_on (HearsRefusal page) id other old new block has (λ same after how. (hears_refusal page block.device after how).queue) changes

brings : (on : Option OnLink) (id : ℕ) (old new : ShownBlocks) (block : ShownBlock) → Has id old block → BringsRefusal on old new
    → WritesOn id block.device.front.queue new.blocks [] []
brings None id old new block has same = stay_on id old new block has same
brings (Some on) id old new block has heard = hears_answer (refused_page on.message) id on.device old new block has heard

delivers : (on : Option OnLink) (id : ℕ) (old new : ShownBlocks) (reply : Outcome) (block : ShownBlock) → Has id old block → DeliversTo on old reply new
    → WritesOn id block.device.front.queue new.blocks [] []
delivers on id old new outcome.AnswerRefused block has brought = brings on id old new block has brought
delivers on id old new reply block has same = stay_on id old new block has same

-- any event
event_on : (id : ℕ) (old new : Shown) (event : Event) (reply : Outcome) (block : ShownBlock) → Has id old.inside block → ends_life id event reply ≡ false
    → EffectOnBlocks old event reply new → WritesOn id block.device.front.queue new.inside.blocks (bytes_by id old event reply) (done_by_device id event reply)
event_on id old new (events.Plug other what) reply block has lives effect = plugs (disk_of what) id other old.inside new.inside reply block has effect
event_on id old new (events.Medium other number) reply block has lives effect = inserts number id other old.inside new.inside reply block has effect
event_on id old new (events.Detach other) reply block has lives effect = leaves id other old.inside new.inside reply block has lives effect
event_on id old new (events.Revive other) reply block has lives effect = resets id other old.inside new.inside reply block has lives effect
event_on id old new (events.Reset other) reply block has lives effect = resets id other old.inside new.inside reply block has lives effect
event_on id old new (events.Queue other size descriptors available used) reply block has lives effect =
    queues (layout_of size descriptors available used) id other old.inside new.inside reply block has lives effect
event_on id old new (events.Commit other) reply block has lives effect = commits (oldest_number (row_of (flights_of old.parts.iommu).rows other)) id other old.inside new.inside reply block has effect
event_on id old new (events.Deliver place) reply block has lives effect = delivers (slice_get old.parts.fabric place) id old.inside new.inside reply block has effect
event_on id old new (events.Step other) reply block has lives effect = steps_on id other old new reply block has effect.1
event_on id old new (events.Status other) reply block has lives effect = stay_on id old.inside new.inside block has effect.2
event_on id old new event reply block has lives effect = stay_on id old.inside new.inside block has effect

-- all events, one after another
runs_on : (events : List Event) (outcomes : List Outcome) (traces : List (Option Trace)) (state last : State) (run : Run state events outcomes last) (old new : Shown)
    (id : ℕ) (block : ShownBlock) (through : GoesThrough state old events outcomes traces last run new) → Has id old.inside block → LivesThrough id events outcomes
    → WritesOn id block.device.front.queue new.inside.blocks (bytes_in id state old events outcomes traces last run new through) (requests_in id events outcomes)
runs_on [] [] [] state last run old new id block through has lives =
    same_on id old.inside new.inside.blocks block has (ap (λ shown. block_with shown.inside.blocks id) through.1 ∙ has.there)
runs_on [] [] (trace ∷ traces) state last run old new id block through has lives = absurd through
runs_on [] (reply ∷ outcomes) traces state last run old new id block through has lives = absurd through
runs_on (event ∷ events) [] traces state last run old new id block through has lives = absurd through
runs_on (event ∷ events) (reply ∷ outcomes) [] state last run old new id block through has lives = absurd through
runs_on (event ∷ events) (reply ∷ outcomes) (trace ∷ traces) state last (next, step, rest) old new id block (shows, mid, happens, counts, later) has (lives, others) =
    let one = event_on id old mid event reply block has lives happens.blocks in
    let more = runs_on events outcomes traces next last rest mid new id one.block later (record { there = one.there; within = one.writes.within }) others in
    record {
      block = more.block;
      there = more.there;
      writes =
          joined block.device.front.queue one.block.device.front.queue more.block.device.front.queue (bytes_by id old event reply)
          (bytes_in id next mid events outcomes traces last rest new later) (done_by_device id event reply) (requests_in id events outcomes) one.writes more.writes;
    }

pub runs_write : (state last : State) (old new : Shown) (events : List Event) (outcomes : List Outcome) (traces : List (Option Trace)) (run : Run state events outcomes last)
    (id : ℕ) (layout : Layout) (block : ShownBlock) (through : GoesThrough state old events outcomes traces last run new)
    → block_with old.inside.blocks id ≡ Some block → HasFreshQueue layout block.device → LivesThrough id events outcomes
    → (after : ShownBlock) × (block_with new.inside.blocks id ≡ Some after)
    × (bytes_in id state old events outcomes traces last run new through ≡ elements_from layout 0 (requests_in id events outcomes) ++ begun after.device.front.queue)
runs_write state last old new events outcomes traces run id layout block through there fresh lives =
    let within : IsWithin block.device.front.queue = subst (λ (q : QueueState). IsWithin q) (sym fresh.queue) tt in
    let on = runs_on events outcomes traces state last run old new id block through (record { there = there; within = within }) lives in (
      on.block,
      on.there,
      ap (λ l. l ++ bytes_in id state old events outcomes traces last run new through) (sym (ap begun fresh.queue))
          ∙ on.writes.bytes
          ∙ ap (λ (q : QueueState). elements_from q.layout q.finished (requests_in id events outcomes) ++ begun on.block.device.front.queue) fresh.queue,
    )
