-- A block device waits only while its own access is in flight: so after each event, where it was so before.
use Rattle.std.proofs.Common.{◌≡◌, ◌≢◌, ◌∙◌, ◌⊎◌, ◌++◌, inl, inr, ℕ, Bool, List, [], ◌∷◌, Option, Some, None, option_map, slice_get, refl, sym, ap, subst}
use Rattle.std.proofs.lemmas.Bool.{cases_eq}
use Rattle.std.proofs.lemmas.Bool.Decides.{eqb_tells}
use Rattle.iom_base.specs.declared.access.Access.{Access}
use Rattle.iom_base.specs.declared.access.AcceptedAccess.{AcceptedAccess}
use Rattle.iom_base.specs.declared.access.AccessKind.{AccessKind}
use Rattle.iom_base.specs.declared.access.AccessKind.TheVariants.{Read, Write}
use Rattle.iom_base.specs.DeviceKinds.{disk_of}
use Rattle.iom_fabric.specs.declared.fabric.OnLink.{OnLink}
use Rattle.iom_inflight.specs.Calls.{IsMade, MakesOldestInFlight}
use Rattle.iom_inflight.specs.Flights.{FlightRow, row_of}
use Rattle.iom_inflight.specs.declared.made.MadeAt.{MadeAt}
use Rattle.iom_iommu.specs.Parts.{flights_of}
use Rattle.iom_machine.specs.declared.event.Event.{Event}
use Rattle.iom_machine.specs.declared.event.Event.TheVariants as events
use Rattle.iom_machine.specs.declared.outcome.BlockStep.TheVariants as rest
use Rattle.iom_machine.specs.declared.outcome.Outcome.{Outcome}
use Rattle.iom_machine.specs.declared.outcome.Outcome.TheVariants as outcome
use Rattle.iom_virtio_blk.specs.declared.front.Front.{Front}
use Rattle.iom_virtio_blk.specs.declared.stage.Stage.{Stage}
use Rattle.iom_virtio_blk.specs.declared.stage.Stage.TheVariants.{Reset, FeaturesOk, DriverOk, NeedsReset}
use Rattle.iom_virtio_blk.specs.declared.step.Reply.{Reply}
use Rattle.iom_virtio_blk.specs.declared.step.Reply.TheVariants as reply
use Rattle.iom_virtio_blk.specs.declared.step.Step.{Step}
use Rattle.iom_virtio_blk.specs.declared.step.Step.TheVariants as step
use Rattle.iom_virtio_blk.specs.Blocks.{EndsWaiting, negotiated, replied, wanted_by, wants_in, with_queue, given_up}
use Rattle.iom_virtio_blk.specs.Features.{offered, flush_of}
use Rattle.iom_virtio_blk.specs.Steps.{Device, BlockDeviceSteps}
use Rattle.iom_virtio_blk.specs.DiskStates.{DiskState}
use Rattle.iom_virtqueue.specs.declared.layout.Layout.{Layout}
use Rattle.iom_virtqueue.specs.declared.phase.Phase.{Phase}
use Rattle.iom_virtqueue.specs.declared.phase.Phase.TheVariants.{Served}
use Rattle.iom_virtqueue.specs.Layouts.{layout_of}
use Rattle.iom_virtqueue.specs.Queues.{fresh_queue}
use Rattle.iom_world_effects.specs.Commits.{CommitsAccess, TellsKind, TellsMade}
use Rattle.iom_world_effects.specs.Parts.{Parts}
use Rattle.iom_block_devices.specs.Changes.{block_with, ChangesIfThere, ChangesOne, Changes, HasDisk, IsGivenUp, IsPluggedIn, IsPutIn, IsReset, SetsUp, HearsMade, HearsRefusal}
use Rattle.iom_block_devices.specs.Shown.{ShownBlock, ShownBlocks}
use Rattle.iom_block_devices.specs.Wanted.{wanted_access}
use Rattle.iom_hardware.specs.Blocks.{BringsRefusal, HearsAnswer, HearsOldest, BlocksUnchanged, oldest_number, refused_page}
use Rattle.iom_world.specs.Blocks.{reply_of, CommitsOf, DeliversTo, IfDone, PlugsBlock, InsertsIntoBlock, LeavesBlock, ResetsBlock, SetsQueueOf, StepsOnce, EndsStep, BeginsWantedAccess}
use Rattle.iom_world.specs.Waiting.{in_flight_as, IsOwnAccess, WaitsFor, WaitsInFlight}
use Rattle.iom_world.specs.Happens.{Happens}
use Rattle.iom_world.specs.Shown.{Shown}
use Rattle.iom_world.specs.EachWaits.{front_of, EachWaitsInFlight}
use Rattle.iom_world.proofs.BegunLemmas.{accepted_as_wanted}
use Rattle.iom_block_devices.proofs.BlockChanges.{other_stays, there_still}
use Rattle.iom_world.proofs.FlightEvents.{Keeps, keeps_all}
use Rattle.iom_world.proofs.NumberLemmas.{KeepsNumbers, keeps_later, same_numbers}

-- the row of a device
abbrev row_in : Parts → ℕ → Option FlightRow
row_in parts id = row_of (flights_of parts.iommu).rows id

-- WHERE WHAT IT WAITS FOR STAYS in flight, it may wait on
keeps_for : (number : Option ℕ) (front : Front) (old new : Option FlightRow)
    → ((n : ℕ) (own : AcceptedAccess) → number ≡ Some n → in_flight_as old n ≡ Some own → in_flight_as new n ≡ Some own) → WaitsFor number front old → WaitsFor number front new
keeps_for None front old new keeps waits = tt
keeps_for (Some number) front old new keeps waits = by (in_flight_as old number) refl waits
  where
    by : (found : Option AcceptedAccess) → in_flight_as old number ≡ found → IsOwnAccess found (wanted_access (wanted_by front))
        → IsOwnAccess (in_flight_as new number) (wanted_access (wanted_by front))
    by None at own = absurd own
    by (Some own) at is = subst (λ (f : Option AcceptedAccess). IsOwnAccess f (wanted_access (wanted_by front))) (sym (keeps number own refl at)) is

pub keeps_waiting : (front : Option Front) (old new : Option FlightRow) → KeepsNumbers old new → WaitsInFlight front old → WaitsInFlight front new
keeps_waiting None old new keeps waits = tt
keeps_waiting (Some front) old new keeps waits = keeps_for front.waits front old new (λ n own is at. keeps n own at) waits

-- and one that waits for nothing does
at_rest : (front : Front) (row : Option FlightRow) → front.waits ≡ None → WaitsInFlight (Some front) row
at_rest front row none = subst (λ (n : Option ℕ). WaitsFor n front row) (sym none) tt

-- ONE OF THE DEVICES CHANGES
abbrev pub front_in : Option ShownBlock → Option Front
front_in found = option_map (λ (block : ShownBlock). block.device.front) found

record FrontChanges (How : Device → Device → Type 0) (old new : List ShownBlock) (other id : ℕ) : Type 0 where
  same : other ≡ id
  block : ShownBlock
  there : block_with old id ≡ Some block
  after : Device
  changed : How block.device after
  front : front_of new id ≡ Some after.front

-- the device with the id is as it was, since another changed or there is none; or it is the one
changed_front : (How : Device → Device → Type 0) (old new : List ShownBlock) (other id : ℕ) → ChangesOne How old other new
    → (((other ≢ id) ⊎ (front_of old id ≡ None)) × (front_of new id ≡ front_of old id)) ⊎ FrontChanges How old new other id
changed_front How old new other id changes = by (cases_eq other id)
  where
    here : (found : Option ShownBlock) → block_with old id ≡ found → other ≡ id → ChangesIfThere found How old id new
        → (((other ≢ id) ⊎ (front_of old id ≡ None)) × (front_of new id ≡ front_of old id)) ⊎ FrontChanges How old new other id
    here None none same is = inl (inr (ap front_in none), ap (λ (blocks : List ShownBlock). front_of blocks id) is)
    here (Some block) there same (after, how, is) = inr (record {
      same = same;
      block = block;
      there = there;
      after = after;
      changed = how;
      front = ap front_in (ap (λ (blocks : List ShownBlock). block_with blocks id) is ∙ there_still old id after block there);
    })

    elsewhere : (found : Option ShownBlock) → other ≢ id → ChangesIfThere found How old other new → front_of new id ≡ front_of old id
    elsewhere None differ is = ap (λ (blocks : List ShownBlock). front_of blocks id) is
    elsewhere (Some found) differ (after, how, is) = ap front_in (ap (λ (blocks : List ShownBlock). block_with blocks id) is ∙ other_stays old id other after differ)

    by : (other ≡ id) ⊎ (other ≡ id → ⊥) → (((other ≢ id) ⊎ (front_of old id ≡ None)) × (front_of new id ≡ front_of old id)) ⊎ FrontChanges How old new other id
    by (inl same) = here (block_with old id) refl same (subst (λ (n : ℕ). ChangesOne How old n new) same changes)
    by (inr differ) = inl (inl differ, elsewhere (block_with old other) differ changes)

-- THE CHANGES by which a device keeps what it waits for, or waits for nothing
abbrev pub IsQuietChange : (Device → Device → Type 0) → Type 0
IsQuietChange How = (before after : Device) → How before after → (after.front ≡ before.front) ⊎ (after.front.waits ≡ None)

pub quiet_disk : (disk : DiskState) → IsQuietChange (HasDisk disk)
quiet_disk disk before after has = inl (ap (λ d. d.front) has.1)

pub quiet_leave : IsQuietChange IsGivenUp
quiet_leave before after is = inr (ap (λ d. d.front.waits) is)

pub quiet_reset : IsQuietChange IsReset
quiet_reset before after is = inr (ap (λ d. d.front.waits) is)

agreed : (flush : Option Bool) (b between : Front) → negotiated Reset flush b ≡ Some between → between.waits ≡ b.waits
agreed None b between is = cc
agreed (Some flush) b between is = let same : record b { stage = FeaturesOk; flush = flush } ≡ between = cc in ap (λ (f : Front). f.waits) (sym same)

queued : (stage : Stage) (layout : Layout) (between after : Front) → with_queue stage layout between ≡ Some after → after.waits ≡ between.waits
queued Reset layout between after is = cc
queued FeaturesOk layout between after is =
    let same : record between { stage = DriverOk; queue = fresh_queue layout } ≡ after = cc in ap (λ (f : Front). f.waits) (sym same)
queued DriverOk layout between after is = cc
queued NeedsReset layout between after is = cc

pub quiet_queue : (layout : Layout) → IsQuietChange (SetsUp layout)
quiet_queue layout before after is =
    inr (queued is.between.stage layout is.between after.front is.queue ∙ agreed (flush_of offered) (given_up Reset before.front) is.between is.features)

pub quiet_refusal : (page : ℕ) → IsQuietChange (HearsRefusal page)
quiet_refusal page before after (inl (asked, is)) = inr (ap (λ d. d.front.waits) is)
quiet_refusal page before after (inr (never, is)) = inl (ap (λ d. d.front) is)

module _ (old new : Shown) (each : EachWaitsInFlight old) where
  -- the device is as it was
  kept : (id : ℕ) → KeepsNumbers (row_in old.parts id) (row_in new.parts id) → front_of new.inside.blocks id ≡ front_of old.inside.blocks id
      → WaitsInFlight (front_of new.inside.blocks id) (row_in new.parts id)
  kept id keeps same =
      subst (λ (f : Option Front). WaitsInFlight f (row_in new.parts id)) (sym same)
      (keeps_waiting (front_of old.inside.blocks id) (row_in old.parts id) (row_in new.parts id) keeps (each id))

  -- it is this one
  becomes : (id : ℕ) (front : Front) → front_of new.inside.blocks id ≡ Some front → WaitsInFlight (Some front) (row_in new.parts id)
      → WaitsInFlight (front_of new.inside.blocks id) (row_in new.parts id)
  becomes id front is waits = subst (λ (f : Option Front). WaitsInFlight f (row_in new.parts id)) (sym is) waits

  -- what it waited for before
  waited : (id : ℕ) (block : ShownBlock) → block_with old.inside.blocks id ≡ Some block → WaitsInFlight (Some block.device.front) (row_in old.parts id)
  waited id block there = subst (λ (f : Option Front). WaitsInFlight f (row_in old.parts id)) (ap front_in there) (each id)

  module _ (keeps : Keeps old.parts new.parts) where
    after_stay : BlocksUnchanged old.inside new.inside → EachWaitsInFlight new
    after_stay stay id = kept id (keeps id) (ap (λ (blocks : List ShownBlock). front_of blocks id) (ap (λ (inside : ShownBlocks). inside.blocks) stay))

    -- one of them is as it was, or waits for nothing
    pub after_changes : (How : Device → Device → Type 0) (other : ℕ) → IsQuietChange How → ChangesOne How old.inside.blocks other new.inside.blocks → EachWaitsInFlight new
    after_changes How other quiet changes id = by (changed_front How old.inside.blocks new.inside.blocks other id changes)
      where
        rests : (is : FrontChanges How old.inside.blocks new.inside.blocks other id) → (is.after.front ≡ is.block.device.front) ⊎ (is.after.front.waits ≡ None)
            → WaitsInFlight (front_of new.inside.blocks id) (row_in new.parts id)
        rests is (inl same) = kept id (keeps id) (is.front ∙ ap (λ (f : Front). Some f) same ∙ sym (ap front_in is.there))
        rests is (inr none) = becomes id is.after.front is.front (at_rest is.after.front (row_in new.parts id) none)

        by : (((other ≢ id) ⊎ (front_of old.inside.blocks id ≡ None)) × (front_of new.inside.blocks id ≡ front_of old.inside.blocks id)) ⊎ FrontChanges How old.inside.blocks new.inside.blocks other id
            → WaitsInFlight (front_of new.inside.blocks id) (row_in new.parts id)
        by (inl unchanged) = kept id (keeps id) unchanged.1
        by (inr is) = rests is (quiet is.block.device is.after is.changed)

    -- A PLUG
    pub after_plug : (one : ShownBlock) → one.device.front.waits ≡ None → new.inside.blocks ≡ old.inside.blocks ++ one ∷ [] → EachWaitsInFlight new
    after_plug one none is id = by (behind old.inside.blocks)
      where
        behind : (blocks : List ShownBlock) → (front_of (blocks ++ one ∷ []) id ≡ front_of blocks id) ⊎ (front_of (blocks ++ one ∷ []) id ≡ Some one.device.front)
        behind [] = elim (eqb_tells one.id id) [ inl e ↦ inr (rw e.0 refl) | inr ne ↦ inl (rw ne.0 refl) ]
        behind (first ∷ others) = elim (eqb_tells first.id id) [ inl e ↦ inl (rw e.0 refl) | inr ne ↦ rw ne.0 (behind others) ]

        by : (front_of (old.inside.blocks ++ one ∷ []) id ≡ front_of old.inside.blocks id) ⊎ (front_of (old.inside.blocks ++ one ∷ []) id ≡ Some one.device.front)
            → WaitsInFlight (front_of new.inside.blocks id) (row_in new.parts id)
        by (inl same) = kept id (keeps id) (ap (λ (blocks : List ShownBlock). front_of blocks id) is ∙ same)
        by (inr own) =
            becomes id one.device.front (ap (λ (blocks : List ShownBlock). front_of blocks id) is ∙ own) (at_rest one.device.front (row_in new.parts id) none)

    -- where the event is told as done
    if_done : (answer : Outcome) (HappensToThem : Type 0) → (HappensToThem → EachWaitsInFlight new) → IfDone answer HappensToThem old.inside new.inside → EachWaitsInFlight new
    if_done outcome.Done HappensToThem leads happens = leads happens
    if_done answer HappensToThem leads stay = after_stay stay

    plugs : (number : Option ℕ) (id : ℕ) (answer : Outcome) → PlugsBlock number old.inside id answer new.inside → EachWaitsInFlight new
    plugs None id answer stay = after_stay stay
    plugs (Some number) id answer plugged =
        if_done answer (IsPluggedIn number id old.inside.blocks old.inside.at_hand new.inside.blocks new.inside.at_hand)
        (λ is. after_plug (record { id = id; device = is.after }) is.is_new.quiet.waits is.behind) plugged

    inserts : (number id : ℕ) (answer : Outcome) → InsertsIntoBlock number old.inside id answer new.inside → EachWaitsInFlight new
    inserts number id answer put =
        if_done answer (IsPutIn number id old.inside.blocks old.inside.at_hand new.inside.blocks new.inside.at_hand) (λ is. after_changes (HasDisk is.disk) id (quiet_disk is.disk) is.changed) put

    leaves : (id : ℕ) (answer : Outcome) → LeavesBlock old.inside id answer new.inside → EachWaitsInFlight new
    leaves id (outcome.Ticket ticket) changes = after_changes IsGivenUp id quiet_leave changes.0
    leaves id answer stay = after_stay stay

    resets : (id : ℕ) (answer : Outcome) → ResetsBlock old.inside id answer new.inside → EachWaitsInFlight new
    resets id answer changes = if_done answer (Changes IsReset old.inside id new.inside) (λ is. after_changes IsReset id quiet_reset is.0) changes

    queues : (layout : Layout) (id : ℕ) (answer : Outcome) → SetsQueueOf layout old.inside id answer new.inside → EachWaitsInFlight new
    queues layout id answer changes = if_done answer (Changes (SetsUp layout) old.inside id new.inside) (λ is. after_changes (SetsUp layout) id (quiet_queue layout) is.0) changes

    hears : (page : Option ℕ) (id : ℕ) → HearsAnswer page old.inside id new.inside → EachWaitsInFlight new
    hears None id stay = after_stay stay
    hears (Some page) id changes = after_changes (HearsRefusal page) id (quiet_refusal page) changes.0

    brings : (on : Option OnLink) → BringsRefusal on old.inside new.inside → EachWaitsInFlight new
    brings None stay = after_stay stay
    brings (Some on) heard = hears (refused_page on.message) on.device heard

    delivers : (place : ℕ) (answer : Outcome) → DeliversTo (slice_get old.parts.fabric place) old.inside answer new.inside → EachWaitsInFlight new
    delivers place outcome.AnswerRefused brought = brings (slice_get old.parts.fabric place) brought
    delivers place answer stay = after_stay stay

-- A STEP
wanted_stays : (b : Front) (waits asked : Option ℕ) → wanted_by (record b { waits = waits; asked = asked }) ≡ wanted_by b
wanted_stays b waits asked = by b.queue.phase
  where
    by : (phase : Phase) → wants_in phase (record b { waits = waits; asked = asked }) ≡ wants_in phase b
    by Served = refl
    by phase = refl

only_accepted : (access : Access) (answer : Outcome) (number : ℕ) → reply_of access answer ≡ reply.Accepted number → answer ≡ outcome.Accepted number
only_accepted access (outcome.Accepted other) number is = let same : other ≡ number = cc in ap (λ (n : ℕ). outcome.Accepted n) same
only_accepted access outcome.Busy number is = cc
only_accepted access (outcome.Stepped rest.Asked) number is = cc
only_accepted access answer number is = cc

module _ (old new : Parts) (id : ℕ) (answer : Outcome) (before after : Device) (keeps : KeepsNumbers (row_in old id) (row_in new id))
    (waits : WaitsInFlight (Some before.front) (row_in old id)) where
  -- it goes on as it was
  unchanged : after.front ≡ before.front → WaitsInFlight (Some after.front) (row_in new id)
  unchanged same =
      subst (λ (f : Front). WaitsInFlight (Some f) (row_in new id)) (sym same) (keeps_waiting (Some before.front) (row_in old id) (row_in new id) keeps waits)

  begins : (between : Device) → between.front.waits ≡ None → BeginsWantedAccess old id between answer new after → WaitsInFlight (Some after.front) (row_in new id)
  begins between none is = by (reply_of is.access answer) refl
    where
      heard : (r : Reply) → reply_of is.access answer ≡ r → after.front ≡ replied r between.front
      heard r same = ap (λ d. d.front) is.hears ∙ ap (λ (x : Reply). replied x between.front) same

      accepted : (number : ℕ) → reply_of is.access answer ≡ reply.Accepted number → WaitsInFlight (Some (replied (reply.Accepted number) between.front)) (row_in new id)
      accepted number same =
          let own = accepted_as_wanted old new id is.access answer number (only_accepted is.access answer number same) is.begun in
          subst (λ (a : Option Access). IsOwnAccess (in_flight_as (row_in new id) number) a)
          (sym (ap wanted_access (wanted_stays between.front (Some number) None) ∙ is.named))
          (subst (λ (o : Option AcceptedAccess). IsOwnAccess o (Some is.access)) (sym own.1) own.2)

      by : (r : Reply) → reply_of is.access answer ≡ r → WaitsInFlight (Some after.front) (row_in new id)
      by (reply.Accepted number) same = subst (λ (f : Front). WaitsInFlight (Some f) (row_in new id)) (sym (heard (reply.Accepted number) same)) (accepted number same)
      by reply.Busy same = at_rest after.front (row_in new id) (ap (λ (f : Front). f.waits) (heard reply.Busy same) ∙ none)
      by (reply.Asked page) same = at_rest after.front (row_in new id) (ap (λ (f : Front). f.waits) (heard (reply.Asked page) same) ∙ none)
      by reply.Fault same = at_rest after.front (row_in new id) (ap (λ (f : Front). f.waits) (heard reply.Fault same))

  steps : StepsOnce old id answer new before after → WaitsInFlight (Some after.front) (row_in new id)
  steps once = by once.taken once.steps once.ends
    where
      by : (taken : Step) → BlockDeviceSteps before taken once.between → EndsStep taken old id once.between answer new after → WaitsInFlight (Some after.front) (row_in new id)
      by step.Idle (inl rests) ends = unchanged (ap (λ d. d.front) (ends.2 ∙ rests.2))
      by step.Idle (inr (counts, takes)) ends =
          at_rest after.front (row_in new id) (ap (λ d. d.front.waits) ends.2 ∙ ap (λ (f : Front). f.waits) takes.2 ∙ counts.0.waits)
      by step.Waiting happens ends = unchanged (ap (λ d. d.front) (ends.2 ∙ happens.2))
      by step.Down happens ends = unchanged (ap (λ d. d.front) (ends.2 ∙ happens.1))
      by (step.Chain fault) happens ends = at_rest after.front (row_in new id) (ap (λ d. d.front.waits) ends.2 ∙ ap (λ (f : Front). f.waits) happens.4)
      by (step.Finished head len) (taking, phase, own, long, takes) ends =
          at_rest after.front (row_in new id) (ap (λ d. d.front.waits) ends.2 ∙ ap (λ (f : Front). f.waits) takes.2 ∙ taking.waits)
      by (step.Wants want) happens ends = begins once.between happens.2.waits ends

pub after_step : (old new : Shown) (id : ℕ) (answer : Outcome) → Keeps old.parts new.parts
    → Changes (StepsOnce old.parts id answer new.parts) old.inside id new.inside → EachWaitsInFlight old → EachWaitsInFlight new
after_step old new other answer keeps changes each id =
    by (changed_front (StepsOnce old.parts other answer new.parts) old.inside.blocks new.inside.blocks other id changes.0)
  where
    by : (((other ≢ id) ⊎ (front_of old.inside.blocks id ≡ None)) × (front_of new.inside.blocks id ≡ front_of old.inside.blocks id))
        ⊎ FrontChanges (StepsOnce old.parts other answer new.parts) old.inside.blocks new.inside.blocks other id
        → WaitsInFlight (front_of new.inside.blocks id) (row_in new.parts id)
    by (inl same) = kept old new each id (keeps id) same.1
    by (inr is) =
        becomes old new each id is.after.front is.front
        (steps old.parts new.parts id answer is.block.device is.after (keeps id) (waited old new each id is.block is.there)
        (subst (λ (n : ℕ). StepsOnce old.parts n answer new.parts is.block.device is.after) is.same is.changed))

-- A COMMIT
waits_no_more : (old new : Front) (bytes : List ℕ) → EndsWaiting old bytes new → new.waits ≡ None
waits_no_more old new bytes (inl takes) = ap (λ (f : Front). f.waits) takes.1.rest
waits_no_more old new bytes (inr down) = ap (λ (f : Front). f.waits) down.1

module _ (old new : Shown) (id : ℕ) (each : EachWaitsInFlight old) where
  -- nothing was made
  nothing_made : flights_of new.parts.iommu ≡ flights_of old.parts.iommu → BlocksUnchanged old.inside new.inside → EachWaitsInFlight new
  nothing_made same stay = after_stay old new each (same_numbers (flights_of old.parts.iommu) (flights_of new.parts.iommu) same) stay

  -- the oldest was, and its device heard of it
  module _ (made : MadeAt) (is : IsMade old.parts.memory (flights_of old.parts.iommu) id made new.parts.memory (flights_of new.parts.iommu)) where
    later : (other number : ℕ) (own : AcceptedAccess) → (other ≡ id → oldest_number (row_in old.parts id) ≢ Some number)
        → in_flight_as (row_in old.parts other) number ≡ Some own → in_flight_as (row_in new.parts other) number ≡ Some own
    later = keeps_later (flights_of old.parts.iommu) (flights_of new.parts.iommu) id is.row is.oldest is.later is.stands is.waiting is.after

    heard : (number : ℕ) (bytes : List ℕ) → oldest_number (row_in old.parts id) ≡ Some number → Changes (HearsMade number bytes) old.inside id new.inside → EachWaitsInFlight new
    heard number bytes oldest changes other = by (changed_front (HearsMade number bytes) old.inside.blocks new.inside.blocks id other changes.0)
      where
        waits_on : (front : Front) → front.waits ≢ Some number → id ≡ other → WaitsInFlight (Some front) (row_in old.parts other)
            → WaitsInFlight (Some front) (row_in new.parts other)
        waits_on front never same waits =
            keeps_for front.waits front (row_in old.parts other) (row_in new.parts other)
            (λ n own waiting at. later other n own (λ e first. never (waiting ∙ sym first ∙ oldest)) at) waits

        hears_it : (hears : FrontChanges (HearsMade number bytes) old.inside.blocks new.inside.blocks id other) → HearsMade number bytes hears.block.device hears.after
            → WaitsInFlight (front_of new.inside.blocks other) (row_in new.parts other)
        hears_it hears (inl own) = becomes old new each other hears.after.front hears.front (at_rest hears.after.front (row_in new.parts other) (waits_no_more hears.block.device.front hears.after.front bytes own.1))
        hears_it hears (inr (never, same)) =
            becomes old new each other hears.after.front hears.front
            (subst (λ (d : Device). WaitsInFlight (Some d.front) (row_in new.parts other)) (sym same)
            (waits_on hears.block.device.front never hears.same (waited old new each other hears.block hears.there)))

        elsewhere : ((id ≢ other) ⊎ (front_of old.inside.blocks other ≡ None)) → front_of new.inside.blocks other ≡ front_of old.inside.blocks other
            → WaitsInFlight (front_of new.inside.blocks other) (row_in new.parts other)
        elsewhere (inl differ) same = kept old new each other (λ n own at. later other n own (λ e. absurd (differ (sym e))) at) same
        elsewhere (inr none) same = subst (λ (f : Option Front). WaitsInFlight f (row_in new.parts other)) (sym (same ∙ none)) tt

        by : (((id ≢ other) ⊎ (front_of old.inside.blocks other ≡ None)) × (front_of new.inside.blocks other ≡ front_of old.inside.blocks other)) ⊎ FrontChanges (HearsMade number bytes) old.inside.blocks new.inside.blocks id other
            → WaitsInFlight (front_of new.inside.blocks other) (row_in new.parts other)
        by (inl same) = elsewhere same.0 same.1
        by (inr hears) = hears_it hears hears.changed

    oldest_heard : (number : Option ℕ) (bytes : List ℕ) → oldest_number (row_in old.parts id) ≡ number → HearsOldest number bytes old.inside id new.inside → EachWaitsInFlight new
    oldest_heard None bytes none stay = absurd (apart (sym none ∙ first))
      where
        first : oldest_number (row_in old.parts id) ≡ oldest_number (Some (record is.row { waiting = is.oldest ∷ is.later }))
        first = rw (is.stands, is.waiting) refl

        apart : None ≡ oldest_number (Some (record is.row { waiting = is.oldest ∷ is.later })) → ⊥
        apart same = cc
    oldest_heard (Some number) bytes some changes = heard number bytes some changes

    told_kind : (kind : AccessKind) (answer : Outcome) → TellsKind old.parts.memory made kind answer → CommitsOf (oldest_number (row_in old.parts id)) old.inside id answer new.inside → EachWaitsInFlight new
    told_kind Read answer tells commits =
        let bytes = tells.reply_is in
        oldest_heard (oldest_number (row_in old.parts id)) bytes.0.items refl (subst (λ (t : Outcome). CommitsOf (oldest_number (row_in old.parts id)) old.inside id t new.inside) bytes.1 commits)
    told_kind Write answer tells commits =
        oldest_heard (oldest_number (row_in old.parts id)) [] refl (subst (λ (t : Outcome). CommitsOf (oldest_number (row_in old.parts id)) old.inside id t new.inside) tells commits)

  told_made : (made : Option MadeAt) (answer : Outcome) → TellsMade old.parts.memory made answer
      → MakesOldestInFlight old.parts.memory (flights_of old.parts.iommu) id made new.parts.memory (flights_of new.parts.iommu)
      → CommitsOf (oldest_number (row_in old.parts id)) old.inside id answer new.inside → EachWaitsInFlight new
  told_made None answer tells makes commits = nothing_made makes.2 (subst (λ (t : Outcome). CommitsOf (oldest_number (row_in old.parts id)) old.inside id t new.inside) tells commits)
  told_made (Some made) answer tells makes commits = told_kind made makes made.kind answer tells commits

  after_commit : (answer : Outcome) → CommitsAccess old.parts id answer new.parts → CommitsOf (oldest_number (row_in old.parts id)) old.inside id answer new.inside → EachWaitsInFlight new
  after_commit answer (inl unknown) commits =
      nothing_made (ap (λ (p : Parts). flights_of p.iommu) unknown.same) (subst (λ (t : Outcome). CommitsOf (oldest_number (row_in old.parts id)) old.inside id t new.inside) unknown.reply_is commits)
  after_commit answer (inr makes) commits = told_made makes.made answer makes.reply_is makes.call.makes commits

-- ANY EVENT
pub each_after : (old new : Shown) (event : Event) (answer : Outcome) → Happens old event answer new → EachWaitsInFlight old → EachWaitsInFlight new
each_after old new (events.Commit id) answer happens each = after_commit old new id each answer happens.effect happens.blocks
each_after old new (events.Plug id what) answer happens each =
    plugs old new each (keeps_all old.disks old.parts new.parts (events.Plug id what) answer tt happens.effect) (disk_of what) id answer happens.blocks
each_after old new (events.Medium id number) answer happens each =
    inserts old new each (keeps_all old.disks old.parts new.parts (events.Medium id number) answer tt happens.effect) number id answer happens.blocks
each_after old new (events.Detach id) answer happens each =
    leaves old new each (keeps_all old.disks old.parts new.parts (events.Detach id) answer tt happens.effect) id answer happens.blocks
each_after old new (events.Revive id) answer happens each =
    resets old new each (keeps_all old.disks old.parts new.parts (events.Revive id) answer tt happens.effect) id answer happens.blocks
each_after old new (events.Reset id) answer happens each =
    resets old new each (keeps_all old.disks old.parts new.parts (events.Reset id) answer tt happens.effect) id answer happens.blocks
each_after old new (events.Queue id size descriptors available used) answer happens each =
    queues old new each (keeps_all old.disks old.parts new.parts (events.Queue id size descriptors available used) answer tt happens.effect)
    (layout_of size descriptors available used) id answer happens.blocks
each_after old new (events.Deliver place) answer happens each =
    delivers old new each (keeps_all old.disks old.parts new.parts (events.Deliver place) answer tt happens.effect) place answer happens.blocks
each_after old new (events.Step id) answer happens each =
    after_step old new id answer (keeps_all old.disks old.parts new.parts (events.Step id) answer tt happens.effect) happens.blocks.1 each
each_after old new (events.Status id) answer happens each =
    after_stay old new each (keeps_all old.disks old.parts new.parts (events.Status id) answer tt happens.effect) happens.blocks.2
each_after old new event answer happens each =
    after_stay old new each (keeps_all old.disks old.parts new.parts event answer tt happens.effect) happens.blocks

-- where there are no block devices, none waits
pub no_blocks_wait : (shown : Shown) → shown.inside.blocks ≡ [] → EachWaitsInFlight shown
no_blocks_wait shown none id =
    subst (λ (f : Option Front). WaitsInFlight f (row_in shown.parts id)) (sym (ap (λ (blocks : List ShownBlock). front_of blocks id) none)) tt
