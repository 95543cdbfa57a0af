-- The story of a device's disk goes on with the events of a run.
use Rattle.std.proofs.Common.{◌≡◌, ◌≢◌, ◌⊎◌, inl, inr, ℕ, ◌==◌, Bool, true, false, List, [], ◌∷◌, ◌++◌, Option, Some, None, if◌then◌else◌, refl, sym, ap, ◌∙◌, subst}
use Rattle.std.specs.Prelude.{find, slice_get}
use Rattle.std.proofs.lemmas.Bool.{eq-eqb, ne_eqb}
use Rattle.iom_fabric.specs.declared.fabric.OnLink.{OnLink}
use Rattle.iom_inflight.specs.Flights.{row_of}
use Rattle.iom_iommu.specs.Parts.{flights_of}
use Rattle.iom_machine.specs.declared.event.Event.{Event}
use Rattle.iom_machine.specs.declared.event.Event.TheVariants as events
use Rattle.iom_machine.specs.declared.outcome.Outcome.{Outcome}
use Rattle.iom_machine.specs.declared.outcome.Outcome.TheVariants as outcome
use Rattle.iom_machine.specs.declared.outcome.Trace.{Trace}
use Rattle.iom_base.specs.declared.device_kind.NewDevice.{NewDevice}
use Rattle.iom_machine.specs.declared.state.State.{State}
use Rattle.iom_base.specs.DeviceKinds.{disk_of}
use Rattle.iom_machine.specs.Machine.{Run}
use Rattle.iom_virtio_blk.specs.DiskStates.{DiskState}
use Rattle.iom_virtio_blk.specs.Steps.{Device}
use Rattle.iom_virtqueue.specs.declared.layout.Layout.{Layout}
use Rattle.iom_virtqueue.specs.Layouts.{layout_of}
use Rattle.iom_block_devices.specs.Changes.{block_with, Changes, ChangesOne, HasDisk, HearsMade, HearsRefusal, IsDiskTaken, IsGivenUp, IsPluggedIn, IsReset, SetsUp}
use Rattle.iom_block_devices.specs.Numbered.{ShownDisk}
use Rattle.iom_block_devices.specs.Shown.{ShownBlock, ShownBlocks}
use Rattle.iom_block_devices.proofs.BlockChanges.{as_device, there_before, IsChanged, one_changes}
use Rattle.iom_hardware.specs.Blocks.{BringsRefusal, HearsAnswer, HearsOldest, BlocksUnchanged, oldest_number, refused_page}
use Rattle.iom_world.specs.Blocks.{CommitsOf, DeliversTo, EffectOnBlocks, InsertsIntoBlock, LeavesBlock, PlugsBlock, ResetsBlock, SetsQueueOf, StepsOnce}
use Rattle.iom_world.specs.Happens.{Happens}
use Rattle.iom_world.specs.Runs.{GoesThrough}
use Rattle.iom_world.specs.Shown.{Shown}
use Rattle.iom_block_life.specs.Stories.{Story, Tells, begins, ended, goes_on, put_in, story_after, story_in}
use Rattle.iom_block_life.proofs.StoryLemmas.{hears_made, hears_refusal, is_left, is_new, is_reset, put, sets_up, steps_once, tells_still}

-- the device with the id is there, and this is the story of its disk
pub record IsTold (id : ℕ) (new : List ShownBlock) (story : Story) : Type 0 where
  pub block : ShownBlock
  pub there : block_with new id ≡ Some block
  pub tells : Tells story block.device

-- a device that has this story
record Has (id : ℕ) (old : ShownBlocks) (block : ShownBlock) (story : Story) : Type 0 where
  there : block_with old.blocks id ≡ Some block
  tells : Tells story block.device

stay_told : (id : ℕ) (old new : ShownBlocks) (block : ShownBlock) (story : Story) → Has id old block story → BlocksUnchanged old new → IsTold id new.blocks story
stay_told id old new block story has same =
    record { block = block; there = ap (λ (inside : ShownBlocks). block_with inside.blocks id) same ∙ has.there; tells = has.tells }

-- one of the devices changes, and the story stays
changes_told : (How : Device → Device → Type 0) (id other : ℕ) (old new : ShownBlocks) (block : ShownBlock) (story : Story) → Has id old block story
    → ((after : Device) → How block.device after → Tells story after) → Changes How old other new → IsTold id new.blocks story
changes_told How id other old new block story has keeps changes = by (one_changes How old.blocks new.blocks id other block has.there changes.0)
  where
    by : ((other ≢ id) × (block_with new.blocks id ≡ Some block)) ⊎ IsChanged How new.blocks id other block → IsTold id new.blocks story
    by (inl unchanged) = record { block = block; there = unchanged.1; tells = has.tells }
    by (inr changed) = record { block = as_device block changed.after; there = changed.there; tells = keeps changed.after changed.changed }

-- one of the devices changes, and the story goes on where it is this one
switches : (How : Device → Device → Type 0) (id other : ℕ) (old : ShownBlocks) (new : List ShownBlock) (block : ShownBlock) (story later : Story) → Has id old block story
    → ((after : Device) → How block.device after → block_with new id ≡ Some (as_device block after) → Tells later after)
    → ChangesOne How old.blocks other new → IsTold id new (if id == other then later else story)
switches How id other old new block story later has goes changes = by (one_changes How old.blocks new id other block has.there changes)
  where
    as_is : (c : Bool) → (id == other) ≡ c → IsTold id new (if c then later else story) → IsTold id new (if id == other then later else story)
    as_is c is reply = subst (λ (b : Bool). IsTold id new (if b then later else story)) (sym is) reply

    by : ((other ≢ id) × (block_with new id ≡ Some block)) ⊎ IsChanged How new id other block → IsTold id new (if id == other then later else story)
    by (inl (differ, unchanged)) =
        as_is false (ne_eqb id other (λ same. differ (sym same))) (record { block = block; there = unchanged; tells = has.tells })
    by (inr changed) = as_is true (eq-eqb id other (sym changed.same))
        (record { block = as_device block changed.after; there = changed.there; tells = goes changed.after changed.changed changed.there })

-- the events

plugs : (number : Option ℕ) (id other : ℕ) (old new : ShownBlocks) (reply : Outcome) (block : ShownBlock) (story : Story) → Has id old block story
    → PlugsBlock number old other reply new → IsTold id new.blocks story
plugs None id other old new reply block story has same = stay_told id old new block story has same
plugs (Some number) id other old new outcome.Done block story has plugged = record {
  block = block;
  there = ap (λ blocks. block_with blocks id) plugged.behind ∙ there_before old.blocks _ id block has.there;
  tells = has.tells;
}
plugs (Some number) id other old new reply block story has same = stay_told id old new block story has same

inserts : (number id other : ℕ) (old new : Shown) (reply : Outcome) (block : ShownBlock) (story : Story) → Has id old.inside block story
    → InsertsIntoBlock number old.inside other reply new.inside → IsTold id new.inside.blocks (story_after id old (events.Medium other number) reply new story)
inserts number id other old new outcome.Done block story has is =
    switches (HasDisk is.disk) id other old.inside new.inside.blocks block story
    (put_in (find (λ (one : ShownDisk). one.number == number) old.inside.at_hand) story) has
    (λ after had there. subst (λ (o : Option ShownDisk). Tells (put_in o story) after) (sym is.taken.held) (put is.disk story block.device after had has.tells))
    is.changed
inserts number id other old new reply block story has same = stay_told id old.inside new.inside block story has same

leaves : (id other : ℕ) (old new : Shown) (reply : Outcome) (block : ShownBlock) (story : Story) → Has id old.inside block story
    → LeavesBlock old.inside other reply new.inside → IsTold id new.inside.blocks (story_after id old (events.Detach other) reply new story)
leaves id other old new (outcome.Ticket ticket) block story has changes =
    switches IsGivenUp id other old.inside new.inside.blocks block story ended has (λ after left there. is_left block.device after left) changes.0
leaves id other old new reply block story has same = stay_told id old.inside new.inside block story has same

resets : (id other : ℕ) (old new : ShownBlocks) (reply : Outcome) (block : ShownBlock) (story : Story) → Has id old block story → ResetsBlock old other reply new
    → IsTold id new.blocks story
resets id other old new outcome.Done block story has changes =
    changes_told IsReset id other old new block story has (λ after how. is_reset story block.device after how has.tells) changes
resets id other old new reply block story has same = stay_told id old new block story has same

queues : (layout : Layout) (id other : ℕ) (old new : ShownBlocks) (reply : Outcome) (block : ShownBlock) (story : Story) → Has id old block story
    → SetsQueueOf layout old other reply new → IsTold id new.blocks story
queues layout id other old new outcome.Done block story has changes =
    changes_told (SetsUp layout) id other old new block story has (λ after how. sets_up layout story block.device after how has.tells) changes
queues layout id other old new reply block story has same = stay_told id old new block story has same

hears_oldest : (number : Option ℕ) (bytes : List ℕ) (id other : ℕ) (old new : ShownBlocks) (block : ShownBlock) (story : Story) → Has id old block story
    → HearsOldest number bytes old other new → IsTold id new.blocks story
hears_oldest None bytes id other old new block story has same = stay_told id old new block story has same
hears_oldest (Some number) bytes id other old new block story has changes =
    changes_told (HearsMade number bytes) id other old new block story has
    (λ after how. tells_still story block.device after (hears_made number bytes block.device after how) has.tells) changes

commits : (number : Option ℕ) (id other : ℕ) (old new : ShownBlocks) (reply : Outcome) (block : ShownBlock) (story : Story) → Has id old block story → CommitsOf number old other reply new
    → IsTold id new.blocks story
commits number id other old new (outcome.Read bytes) block story has changes = hears_oldest number bytes.items id other old new block story has changes
commits number id other old new (outcome.Wrote count) block story has changes = hears_oldest number [] id other old new block story has changes
commits number id other old new reply block story has same = stay_told id old new block story has same

hears_answer : (page : Option ℕ) (id other : ℕ) (old new : ShownBlocks) (block : ShownBlock) (story : Story) → Has id old block story → HearsAnswer page old other new
    → IsTold id new.blocks story
hears_answer None id other old new block story has same = stay_told id old new block story has same
hears_answer (Some page) id other old new block story has changes =
    changes_told (HearsRefusal page) id other old new block story has
    (λ after how. tells_still story block.device after (hears_refusal page block.device after how) has.tells) changes

brings : (on : Option OnLink) (id : ℕ) (old new : ShownBlocks) (block : ShownBlock) (story : Story) → Has id old block story → BringsRefusal on old new
    → IsTold id new.blocks story
brings None id old new block story has same = stay_told id old new block story has same
brings (Some on) id old new block story has heard = hears_answer (refused_page on.message) id on.device old new block story has heard

delivers : (on : Option OnLink) (id : ℕ) (old new : ShownBlocks) (reply : Outcome) (block : ShownBlock) (story : Story) → Has id old block story → DeliversTo on old reply new
    → IsTold id new.blocks story
delivers on id old new outcome.AnswerRefused block story has brought = brings on id old new block story has brought
delivers on id old new reply block story has same = stay_told id old new block story has same

goes_between : (before after : ShownBlock) (o n : Option ShownBlock) (story : Story) → o ≡ Some before → n ≡ Some after
    → Tells (goes_on (Some before) (Some after) story) after.device → Tells (goes_on o n story) after.device
goes_between before after o n story was is tells =
    subst (λ (b : Option ShownBlock). Tells (goes_on b n story) after.device) (sym was)
    (subst (λ (a : Option ShownBlock). Tells (goes_on (Some before) a story) after.device) (sym is) tells)

steps : (id other : ℕ) (old new : Shown) (reply : Outcome) (block : ShownBlock) (story : Story) → Has id old.inside block story
    → Changes (StepsOnce old.parts other reply new.parts) old.inside other new.inside
    → IsTold id new.inside.blocks (story_after id old (events.Step other) reply new story)
steps id other old new reply block story has changes =
    switches (StepsOnce old.parts other reply new.parts) id other old.inside new.inside.blocks block story
    (goes_on (block_with old.inside.blocks id) (block_with new.inside.blocks id) story) has
    (λ after once there. goes_between block (as_device block after) (block_with old.inside.blocks id) (block_with new.inside.blocks id) story has.there there
    (steps_once story old.parts new.parts other reply block.device after once has.tells))
    changes.0

-- any event
event_told : (id : ℕ) (old new : Shown) (event : Event) (reply : Outcome) (block : ShownBlock) (story : Story) → Has id old.inside block story → EffectOnBlocks old event reply new
    → IsTold id new.inside.blocks (story_after id old event reply new story)
event_told id old new (events.Plug other what) reply block story has effect = plugs (disk_of what) id other old.inside new.inside reply block story has effect
event_told id old new (events.Medium other number) reply block story has effect = inserts number id other old new reply block story has effect
event_told id old new (events.Detach other) reply block story has effect = leaves id other old new reply block story has effect
event_told id old new (events.Revive other) reply block story has effect = resets id other old.inside new.inside reply block story has effect
event_told id old new (events.Reset other) reply block story has effect = resets id other old.inside new.inside reply block story has effect
event_told id old new (events.Queue other size descriptors available used) reply block story has effect =
    queues (layout_of size descriptors available used) id other old.inside new.inside reply block story has effect
event_told id old new (events.Commit other) reply block story has effect = commits (oldest_number (row_of (flights_of old.parts.iommu).rows other)) id other old.inside new.inside reply block story has effect
event_told id old new (events.Deliver place) reply block story has effect = delivers (slice_get old.parts.fabric place) id old.inside new.inside reply block story has effect
event_told id old new (events.Step other) reply block story has effect = steps id other old new reply block story has effect.1
event_told id old new (events.Status other) reply block story has effect = stay_told id old.inside new.inside block story has effect.2
event_told id old new event reply block story has effect = stay_told id old.inside new.inside block story has effect

-- all events, one after another
runs_on : (events : List Event) (outcomes : List Outcome) (traces : List (Option Trace)) (state last : State) (run : Run state events outcomes last) (old new : Shown)
    (id : ℕ) (story : Story) (block : ShownBlock) (through : GoesThrough state old events outcomes traces last run new) → Has id old.inside block story
    → IsTold id new.inside.blocks (story_in id state old events outcomes traces last run new through story)
runs_on [] [] [] state last run old new id story block through has =
    record { block = block; there = ap (λ shown. block_with shown.inside.blocks id) through.1 ∙ has.there; tells = has.tells }
runs_on [] [] (trace ∷ traces) state last run old new id story block through has = absurd through
runs_on [] (reply ∷ outcomes) traces state last run old new id story block through has = absurd through
runs_on (event ∷ events) [] traces state last run old new id story block through has = absurd through
runs_on (event ∷ events) (reply ∷ outcomes) [] state last run old new id story block through has = absurd through
runs_on (event ∷ events) (reply ∷ outcomes) (trace ∷ traces) state last (next, step, rest) old new id story block (shows, mid, happens, counts, later) has =
    let one = event_told id old mid event reply block story has happens.blocks in
    runs_on events outcomes traces next last rest mid new id (story_after id old event reply mid story) one.block later (record { there = one.there; tells = one.tells })

pub runs_tell : (state last : State) (old new : Shown) (events : List Event) (outcomes : List Outcome) (traces : List (Option Trace)) (run : Run state events outcomes last)
    (id : ℕ) (story : Story) (block : ShownBlock) (through : GoesThrough state old events outcomes traces last run new)
    → block_with old.inside.blocks id ≡ Some block → Tells story block.device
    → (after : ShownBlock) × (block_with new.inside.blocks id ≡ Some after)
    × Tells (story_in id state old events outcomes traces last run new through story) after.device
runs_tell state last old new events outcomes traces run id story block through there tells =
    let on = runs_on events outcomes traces state last run old new id story block through (record { there = there; tells = tells }) in
    (on.block, on.there, on.tells)

-- one that comes behind the others, none of which has its id
there_behind : (blocks : List ShownBlock) (id : ℕ) (one : ShownBlock) → one.id ≡ id → block_with blocks id ≡ None → block_with (blocks ++ one ∷ []) id ≡ Some one
there_behind [] id one own none = ap (λ c. if c then Some one else None) (eq-eqb one.id id own)
there_behind (first ∷ others) id one own none = by (first.id == id) refl (there_behind others id one own)
  where
    IsNone : Option ShownBlock → Type 0
    IsNone None = Unit {0}
    IsNone (Some b) = ⊥

    by : (c : Bool) → (first.id == id) ≡ c → (block_with others id ≡ None → block_with (others ++ one ∷ []) id ≡ Some one)
        → block_with ((first ∷ others) ++ one ∷ []) id ≡ Some one
    by true e more = absurd (subst IsNone (sym none ∙ ap (λ c. if c then Some first else block_with others id) e) tt)
    by false e more =
        ap (λ c. if c then Some first else block_with (others ++ one ∷ []) id) e
        ∙ more (sym (ap (λ c. if c then Some first else block_with others id) e) ∙ none)

pub plugs_begin : (old new : Shown) (id number : ℕ) (what : NewDevice)
    → Happens old (events.Plug id what) outcome.Done new → disk_of what ≡ Some number → block_with old.inside.blocks id ≡ None
    → (disk : DiskState) × IsDiskTaken number old.inside.at_hand disk new.inside.at_hand
    × (after : ShownBlock) × (block_with new.inside.blocks id ≡ Some after) × Tells (begins disk) after.device
plugs_begin old new id number what happens is none = by (subst (λ (n : Option ℕ). PlugsBlock n old.inside id outcome.Done new.inside) is happens.blocks)
  where
    by : IsPluggedIn number id old.inside.blocks old.inside.at_hand new.inside.blocks new.inside.at_hand
        → (disk : DiskState) × IsDiskTaken number old.inside.at_hand disk new.inside.at_hand
        × (after : ShownBlock) × (block_with new.inside.blocks id ≡ Some after) × Tells (begins disk) after.device
    by plugged = (
      plugged.disk,
      plugged.taken,
      record { id = id; device = plugged.after },
      ap (λ blocks. block_with blocks id) plugged.behind ∙ there_behind old.inside.blocks id (record { id = id; device = plugged.after }) refl none,
      is_new plugged.disk plugged.after plugged.is_new,
    )
