-- The story of a device's disk goes on with what happens to the device.
use Rattle.std.proofs.Common.{◌≡◌, inl, inr, ℕ, Bool, true, false, List, Option, refl, sym, ap, ◌∙◌, subst}
use Rattle.iom_machine.specs.declared.outcome.Outcome.{Outcome}
use Rattle.iom_virtqueue.specs.declared.layout.Layout.{Layout}
use Rattle.iom_virtqueue.specs.declared.phase.Phase.{Phase}
use Rattle.iom_virtqueue.specs.declared.phase.Phase.TheVariants.{AvailableIndex, RingEntry, Table, Served, UsedElement, UsedIndex, Faulted}
use Rattle.iom_virtqueue.specs.Queues.{QueueState}
use Rattle.iom_virtio_blk.specs.declared.front.Front.{Front}
use Rattle.iom_virtio_blk.specs.declared.serving.Serving.{Serving}
use Rattle.iom_virtio_blk.specs.declared.stage.Stage.{Stage}
use Rattle.iom_virtio_blk.specs.declared.stage.Stage.TheVariants.{Reset, DriverOk, NeedsReset}
use Rattle.iom_virtio_blk.specs.declared.step.Reply.{Reply}
use Rattle.iom_virtio_blk.specs.declared.step.Reply.TheVariants.{Accepted, Busy, Asked, Fault}
use Rattle.iom_virtio_blk.specs.declared.step.Step.{Step}
use Rattle.iom_virtio_blk.specs.declared.step.Step.TheVariants as step
use Rattle.iom_virtio_blk.specs.Blocks.{EndsWaiting, TakesBytes, down, replied}
use Rattle.iom_virtio_blk.specs.Disks.{name_in}
use Rattle.iom_virtio_blk.specs.DiskStates.{DiskState}
use Rattle.iom_virtio_blk.specs.Histories.{Entry, IsMap, TellsDisk, recorded, recorded_in, history_after}
use Rattle.iom_virtio_blk.specs.Steps.{Device, device}
use Rattle.iom_virtio_blk.proofs.DiskStays.{name_stays}
use Rattle.iom_virtio_blk.proofs.StepLemmas.{tells_inserted, tells_kept}
use Rattle.iom_world_effects.specs.Parts.{Parts}
use Rattle.iom_block_devices.specs.Changes.{HasDisk, HearsMade, HearsRefusal, IsGivenUp, IsNew, IsReset, SetsUp}
use Rattle.iom_world.specs.Blocks.{EndsStep, StepsOnce}
use Rattle.iom_block_life.specs.Stories.{Story, Tells, begins, ended}
use Rattle.iom_block_life.proofs.RunLives.{queue_set}

-- a device that is reset or stopped doesn't work
reset_rests : (stage : Stage) → stage ≡ Reset → stage ≡ DriverOk → ⊥
reset_rests stage is works = by (sym is ∙ works) where
  by : Reset ≡ DriverOk → ⊥
  by e = cc

down_rests : (stage : Stage) → stage ≡ NeedsReset → stage ≡ DriverOk → ⊥
down_rests stage is works = by (sym is ∙ works) where
  by : NeedsReset ≡ DriverOk → ⊥
  by e = cc

-- what of a device its story looks at stays
pub record Unchanged (old new : Device) : Type 0 where
  pub queue : new.front.queue ≡ old.front.queue
  pub serving : new.front.serving ≡ old.front.serving
  pub buffer : new.front.buffer ≡ old.front.buffer
  pub stage : new.front.stage ≡ DriverOk → old.front.stage ≡ DriverOk
  pub disk : new.disk ≡ old.disk

history_stays : (history : List Entry) (old new : Device) → Unchanged old new → TellsDisk history old → TellsDisk history new
history_stays history old new unchanged tells =
    subst (λ (disk : Option DiskState). TellsDisk history (device new.front disk)) (sym unchanged.disk)
    (tells_kept history old.front new.front old.disk unchanged.queue unchanged.serving unchanged.buffer unchanged.stage tells)

pub tells_still : (story : Story) (old new : Device) → Unchanged old new → Tells story old → Tells story new
tells_still story old new unchanged tells =
    record { disk = ap name_in unchanged.disk ∙ tells.disk; history = history_stays story.history old new unchanged tells.history }

same_device : (old new : Device) → new ≡ old → Unchanged old new
same_device old new same = record {
  queue = ap (λ (d : Device). d.front.queue) same;
  serving = ap (λ (d : Device). d.front.serving) same;
  buffer = ap (λ (d : Device). d.front.buffer) same;
  stage = λ works. sym (ap (λ (d : Device). d.front.stage) same) ∙ works;
  disk = ap (λ (d : Device). d.disk) same;
}

stopped : (old new : Device) → new.front ≡ down old.front → new.disk ≡ old.disk → Unchanged old new
stopped old new is disk = record {
  queue = ap (λ (f : Front). f.queue) is;
  serving = ap (λ (f : Front). f.serving) is;
  buffer = ap (λ (f : Front). f.buffer) is;
  stage = λ works. absurd (down_rests new.front.stage (ap (λ (f : Front). f.stage) is) works);
  disk = disk;
}

-- a device that doesn't work, with its disk or without
rests : (story : Story) (old new : Device) → (new.front.stage ≡ DriverOk → ⊥) → new.disk ≡ old.disk → Tells story old → Tells story new
rests story old new never disk tells = record {
  disk = ap name_in disk ∙ tells.disk;
  history = record {
    map = subst (λ (d : Option DiskState). IsMap story.history d) (sym disk) tells.history.map;
    work = λ works served. absurd (never works);
  };
}

pub is_reset : (story : Story) (old new : Device) → IsReset old new → Tells story old → Tells story new
is_reset story old new is tells =
    rests story old new (λ works. reset_rests new.front.stage (ap (λ (d : Device). d.front.stage) is) works) (ap (λ (d : Device). d.disk) is) tells

pub is_left : (old new : Device) → IsGivenUp old new → Tells ended new
is_left old new is = subst (λ (d : Device). Tells ended d) (sym is)
    (record { disk = refl; history = record { map = tt; work = λ works served. absurd (reset_rests Reset refl works) } })

-- a queue that was just set serves nothing
pub sets_up : (layout : Layout) (story : Story) (old new : Device) → SetsUp layout old new → Tells story old → Tells story new
sets_up layout story old new set tells = record {
  disk = ap name_in set.disk ∙ tells.disk;
  history = record {
    map = subst (λ (d : Option DiskState). IsMap story.history d) (sym set.disk) tells.history.map;
    work = λ works served. absurd (reads_index (sym (ap (λ (q : QueueState). q.phase) (queue_set layout old new set)) ∙ served));
  };
} where
  reads_index : AvailableIndex ≡ Served → ⊥
  reads_index e = cc

took : (old new : Device) (bytes : List ℕ) → TakesBytes old.front bytes new.front → new.disk ≡ old.disk → Unchanged old new
took old new bytes is disk = record {
  queue = ap (λ (f : Front). f.queue) is.rest;
  serving = ap (λ (f : Front). f.serving) is.rest;
  buffer = ap (λ (f : Front). f.buffer) is.rest;
  stage = λ works. sym (ap (λ (f : Front). f.stage) is.rest) ∙ works;
  disk = disk;
}

ends_waiting : (old new : Device) (bytes : List ℕ) → EndsWaiting old.front bytes new.front → new.disk ≡ old.disk → Unchanged old new
ends_waiting old new bytes (inl is) disk = took old new bytes is.1 disk
ends_waiting old new bytes (inr lost) disk = stopped old new lost.1 disk

pub hears_made : (number : ℕ) (bytes : List ℕ) (old new : Device) → HearsMade number bytes old new → Unchanged old new
hears_made number bytes old new (inl own) = ends_waiting old new bytes own.1 own.2
hears_made number bytes old new (inr other) = same_device old new other.1

pub hears_refusal : (page : ℕ) (old new : Device) → HearsRefusal page old new → Unchanged old new
hears_refusal page old new (inl own) = stopped old new (ap (λ (d : Device). d.front) own.1) (ap (λ (d : Device). d.disk) own.1)
hears_refusal page old new (inr other) = same_device old new other.1

-- a disk that is put in
pub put : (disk : DiskState) (story : Story) (old new : Device) → HasDisk disk old new → Tells story old → Tells (begins disk) new
put disk story old new (none, is) tells = subst (λ (d : Device). Tells (begins disk) d) (sym is) (record {
  disk = refl;
  history = tells_inserted story.history old.front disk (subst (λ (d : Option DiskState). TellsDisk story.history (device old.front d)) none tells.history);
})

pub is_new : (disk : DiskState) (new : Device) → IsNew disk new → Tells (begins disk) new
is_new disk new is = record {
  disk = ap name_in is.has;
  history = record {
    map = subst (λ (d : Option DiskState). IsMap (begins disk).history d) (sym is.has) (λ n bytes at. at);
    work = λ works served. absurd (reset_rests new.front.stage is.stage works);
  };
}

-- a step, and what the device is told of the access that it wants

told_reply : (reply : Reply) (old new : Device) → new ≡ device (replied reply old.front) old.disk → Unchanged old new
told_reply (Accepted number) old new is = record {
  queue = ap (λ (d : Device). d.front.queue) is;
  serving = ap (λ (d : Device). d.front.serving) is;
  buffer = ap (λ (d : Device). d.front.buffer) is;
  stage = λ works. sym (ap (λ (d : Device). d.front.stage) is) ∙ works;
  disk = ap (λ (d : Device). d.disk) is;
}
told_reply Busy old new is = same_device old new is
told_reply (Asked page) old new is = record {
  queue = ap (λ (d : Device). d.front.queue) is;
  serving = ap (λ (d : Device). d.front.serving) is;
  buffer = ap (λ (d : Device). d.front.buffer) is;
  stage = λ works. sym (ap (λ (d : Device). d.front.stage) is) ∙ works;
  disk = ap (λ (d : Device). d.disk) is;
}
told_reply Fault old new is = stopped old new (ap (λ (d : Device). d.front) is) (ap (λ (d : Device). d.disk) is)

pub ends : (taken : Step) (old new : Parts) (id : ℕ) (recorded : Outcome) (between after : Device) → EndsStep taken old id between recorded new after → Unchanged between after
ends step.Idle old new id recorded between after end = same_device between after end.2
ends step.Waiting old new id recorded between after end = same_device between after end.2
ends step.Down old new id recorded between after end = same_device between after end.2
ends (step.Chain fault) old new id recorded between after end = same_device between after end.2
ends (step.Finished head len) old new id recorded between after end = same_device between after end.2
ends (step.Wants want) old new id recorded between after begun = told_reply _ between after begun.hears

-- the history looks at what is served alone
same_told : (phase : Phase) (old between after : Device) (history : List Entry) → after.front.serving ≡ between.front.serving
    → recorded_in phase old between history ≡ recorded_in phase old after history
same_told AvailableIndex old between after history same = refl
same_told RingEntry old between after history same = refl
same_told (Table index) old between after history same = refl
same_told Served old between after history same =
    ap (λ (s : Serving). recorded old.front.serving.job s.job s.sector old.front.got.items history) (sym same)
same_told (UsedElement done) old between after history same = refl
same_told UsedIndex old between after history same = refl
same_told Faulted old between after history same = refl

same_history : (made : Bool) (old between after : Device) (history : List Entry) → after.front.serving ≡ between.front.serving
    → history_after made old between history ≡ history_after made old after history
same_history false old between after history same = refl
same_history true old between after history same = same_told old.front.queue.phase old between after history same

pub steps_once : (story : Story) (old new : Parts) (id : ℕ) (recorded : Outcome) (before after : Device) → StepsOnce old id recorded new before after → Tells story before
    → Tells (record { disk = story.disk; history = history_after before.front.is_made before after story.history }) after
steps_once story old new id recorded before after once tells =
    let unchanged = ends once.taken old new id recorded once.between after once.ends in
    record {
      disk = ap name_in unchanged.disk ∙ name_stays once.taken before once.between once.steps ∙ tells.disk;
      history =
          subst (λ (h : List Entry). TellsDisk h after) (same_history before.front.is_made before once.between after story.history unchanged.serving)
          (history_stays (history_after before.front.is_made before once.between story.history) once.between after unchanged (once.tells story.history tells.history));
    }
