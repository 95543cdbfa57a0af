-- What the events of a run make of one block device, one after another.
use Rattle.std.proofs.Common.{◌≡◌, ◌≢◌, ◌⊎◌, inl, inr, ℕ, List, [], ◌∷◌, ◌++◌, Option, Some, None, refl, sym, ap, ◌∙◌, subst, append_assoc}
use Rattle.iom_machine.specs.declared.event.Event.{Event}
use Rattle.iom_machine.specs.declared.event.Event.TheVariants as events
use Rattle.iom_machine.specs.declared.outcome.Outcome.{Outcome}
use Rattle.iom_machine.specs.declared.outcome.Outcome.TheVariants as outcome
use Rattle.iom_machine.specs.declared.outcome.Trace.{Trace}
use Rattle.iom_machine.specs.declared.state.State.{State}
use Rattle.iom_machine.specs.Machine.{Run}
use Rattle.iom_virtqueue.specs.declared.layout.Layout.{Layout}
use Rattle.iom_virtio_blk.specs.Steps.{Device}
use Rattle.iom_virtqueue.specs.Layouts.{IsLayout, layout_of}
use Rattle.iom_virtqueue.specs.Queues.{QueueState, fresh_queue}
use Rattle.iom_virtio_blk.specs.declared.front.Front.{Front}
use Rattle.iom_virtio_blk.specs.declared.stage.Stage.{Stage}
use Rattle.iom_virtio_blk.specs.declared.stage.Stage.TheVariants.{Reset, FeaturesOk}
use Rattle.iom_virtio_blk.specs.Blocks.{with_queue}
use Rattle.iom_block_devices.specs.Changes.{block_with, SetsUp}
use Rattle.iom_block_devices.specs.Shown.{ShownBlock}
use Rattle.iom_block_devices.proofs.BlockChanges.{as_device, IsChanged, one_changes}
use Rattle.iom_world_effects.specs.Parts.{Parts}
use Rattle.iom_world_effects.specs.BlockDevices.{SetsBlockQueue}
use Rattle.iom_world.specs.Happens.{Happens}
use Rattle.iom_world.specs.Runs.{GoesThrough}
use Rattle.iom_world.specs.Shown.{Shown}
use Rattle.iom_block_life.specs.Lives.{Turn, Taken, Lives, taken_at, finished_at, HasFreshQueue, UsesEachOnce}
use Rattle.iom_block_life.specs.Runs.{LivesThrough, heads_in, entries_taken}
use Rattle.iom_block_life.proofs.EventLives.{GoesOn, same_on, event_on}
use Rattle.iom_block_life.proofs.LifeLemmas.{uses_each_once}

-- one part of a life, and the next
lives_append : (first later : List Turn) (old mid new : Device) (taken more : List Taken) (finished ends : List ℕ)
    → Lives old first taken finished mid → Lives mid later more ends new → Lives old (first ++ later) (taken ++ more) (finished ++ ends) new
lives_append [] later old mid new taken more finished ends (none_taken, none_finished, same) lives =
    subst (λ (t : List Taken). Lives old later (t ++ more) (finished ++ ends) new) (sym none_taken)
    (subst (λ (f : List ℕ). Lives old later more (f ++ ends) new) (sym none_finished) (subst (λ (d : Device). Lives d later more ends new) same lives))
lives_append (turn ∷ first) later old mid new taken more finished ends (next, took, done, happens, is_taken, is_finished, rest) lives = (
  next,
  took ++ more,
  done ++ ends,
  happens,
  ap (λ t. t ++ more) is_taken ∙ append_assoc (taken_at old turn) took more,
  ap (λ f. f ++ ends) is_finished ∙ append_assoc (finished_at turn) done ends,
  lives_append first later next mid new took more done ends rest lives,
)

runs_on : (events : List Event) (outcomes : List Outcome) (traces : List (Option Trace)) (state last : State) (run : Run state events outcomes last) (old new : Shown)
    (id : ℕ) (block : ShownBlock) (through : GoesThrough state old events outcomes traces last run new) → block_with old.inside.blocks id ≡ Some block
    → LivesThrough id events outcomes → GoesOn id block.device new.inside.blocks (entries_taken id state old events outcomes traces last run new through) (heads_in id events outcomes)
runs_on [] [] [] state last run old new id block through there alive =
    same_on id new.inside.blocks block (ap (λ shown. block_with shown.inside.blocks id) through.1 ∙ there)
runs_on [] [] (trace ∷ traces) state last run old new id block through there alive = absurd through
runs_on [] (reply ∷ outcomes) traces state last run old new id block through there alive = absurd through
runs_on (event ∷ events) [] traces state last run old new id block through there alive = absurd through
runs_on (event ∷ events) (reply ∷ outcomes) [] state last run old new id block through there alive = absurd through
runs_on (event ∷ events) (reply ∷ outcomes) (trace ∷ traces) state last (next, step, rest) old new id block (shows, mid, happens, counts, later) there (lives, alive) =
    let one = event_on id old mid event reply block there lives happens.blocks in
    let more = runs_on events outcomes traces next last rest mid new id one.block later one.there alive in
    record {
      block = more.block;
      there = more.there;
      turns = one.turns ++ more.turns;
      lives = lives_append one.turns more.turns block.device one.block.device more.block.device _ _ _ _ one.lives more.lives;
    }

pub runs_use : (state last : State) (old new : Shown) (events : List Event) (outcomes : List Outcome) (traces : List (Option Trace)) (run : Run state events outcomes last)
    (id : ℕ) (layout : Layout) (block : ShownBlock) (through : GoesThrough state old events outcomes traces last run new)
    → block_with old.inside.blocks id ≡ Some block → HasFreshQueue layout block.device → LivesThrough id events outcomes
    → (after : ShownBlock) × (block_with new.inside.blocks id ≡ Some after)
    × UsesEachOnce layout (entries_taken id state old events outcomes traces last run new through) (heads_in id events outcomes) after.device
runs_use state last old new events outcomes traces run id layout block through there fresh alive =
    let on = runs_on events outcomes traces state last run old new id block through there alive in
    (on.block, on.there, uses_each_once layout block.device on.block.device on.turns _ (heads_in id events outcomes) fresh on.lives)

abbrev stage_or : Option Front → Stage
stage_or None = Reset
stage_or (Some b) = b.stage

abbrev queue_or : QueueState → Option Front → QueueState
queue_or other None = other
queue_or other (Some b) = b.queue

queued : (layout : Layout) (old new : Device) → (set : SetsUp layout old new) → with_queue FeaturesOk layout set.between ≡ Some new.front
queued layout old new set =
    let settled : set.between.stage ≡ FeaturesOk = sym (ap stage_or set.features) in
    subst (λ (s : Stage). with_queue s layout set.between ≡ Some new.front) settled set.queue

pub queue_set : (layout : Layout) (old new : Device) → SetsUp layout old new → new.front.queue ≡ fresh_queue layout
queue_set layout old new set = sym (ap (queue_or (fresh_queue layout)) (queued layout old new set))

set_fresh : (layout : Layout) (old new : Device) → IsLayout layout → SetsUp layout old new → HasFreshQueue layout new
set_fresh layout old new lawful set =
    record { stage = sym (ap stage_or (queued layout old new set)); lawful = lawful; queue = queue_set layout old new set }

-- what is done isn't refused
abbrev IsDone : Outcome → Type 0
IsDone outcome.Done = Unit {0}
IsDone reply = ⊥

lies_lawfully : (old new : Parts) (id : ℕ) (layout : Layout) → SetsBlockQueue old id layout outcome.Done new → IsLayout layout
lies_lawfully old new id layout (inl unknown) = absurd (subst IsDone unknown.reply_is tt)
lies_lawfully old new id layout (inr (inl unable)) = absurd (subst IsDone unable.reply_is tt)
lies_lawfully old new id layout (inr (inr (able, inl lawful))) = lawful.0
lies_lawfully old new id layout (inr (inr (able, inr refused))) = absurd (subst IsDone refused.1 tt)

pub queues_begin : (old new : Shown) (id size descriptors available used : ℕ) (block : ShownBlock)
    → Happens old (events.Queue id size descriptors available used) outcome.Done new → block_with old.inside.blocks id ≡ Some block
    → (after : ShownBlock) × (block_with new.inside.blocks id ≡ Some after) × HasFreshQueue (layout_of size descriptors available used) after.device
queues_begin old new id size descriptors available used block happens there =
    by (one_changes (SetsUp layout) old.inside.blocks new.inside.blocks id id block there happens.blocks.0)
  where
    layout : Layout
    layout = layout_of size descriptors available used

    by : ((id ≢ id) × (block_with new.inside.blocks id ≡ Some block)) ⊎ IsChanged (SetsUp layout) new.inside.blocks id id block
        → (after : ShownBlock) × (block_with new.inside.blocks id ≡ Some after) × HasFreshQueue layout after.device
    by (inl (differ, unchanged)) = absurd (differ refl)
    by (inr changed) = (
      as_device block changed.after,
      changed.there,
      set_fresh layout block.device changed.after
          (lies_lawfully old.parts new.parts id layout happens.effect) changed.changed,
    )
