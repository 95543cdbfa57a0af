-- A step of a block device does what its event is to do.
use Rattle.std.proofs.Common.{◌≡◌, ◌+◌, ◌∙◌, inl, inr, ℕ, Bool, true, false, List, Option, None, Some, is_some, IsSome, Result, Ok, Err, ap, refl, sym, subst}
use Rattle.iom_base.specs.DeviceKinds.{is_block_device}
use Rattle.iom_base.specs.declared.device_kind.DeviceKind.{DeviceKind}
use Rattle.iom_base.specs.declared.device_kind.DeviceKind.TheVariants.{Raw, Ats, Block, CachedBlock}
use Rattle.iom_base.specs.declared.refusal.Refusal.{Refusal}
use Rattle.iom_block_devices.specs.Changes.{ChangesIfThere, block_with}
use Rattle.iom_block_devices.specs.Shown.{ShownBlock}
use Rattle.iom_device.specs.Caches.{IsAble, kind_in}
use Rattle.iom_device.specs.declared.device.Device.{Device as Plugged}
use Rattle.iom_driver.specs.StateOf.{state_of}
use Rattle.iom_driver.specs.declared.driver.Driver.{Driver}
use Rattle.iom_hardware.specs.Steps.{IsRefusedIfNone}
use Rattle.iom_hardware.specs.declared.steps.Stepped.{Stepped}
use Rattle.iom_hardware.specs.declared.steps.Stepped.TheVariants as stepped
use Rattle.iom_iommu.specs.Parts.{frames_of}
use Rattle.iom_iommu.specs.declared.begun.Begun.{Begun}
use Rattle.iom_iommu.specs.declared.begun.Begun.TheVariants as begun
use Rattle.iom_iommu.specs.declared.reply.Reply.TheVariants as reply
use Rattle.iom_machine.specs.declared.event.Event.TheVariants as events
use Rattle.iom_machine.specs.declared.outcome.BlockStep.{BlockStep}
use Rattle.iom_machine.specs.declared.outcome.BlockStep.TheVariants as rest
use Rattle.iom_machine.specs.declared.outcome.Outcome.{Outcome}
use Rattle.iom_machine.specs.declared.outcome.Outcome.TheVariants as outcome
use Rattle.iom_stepped_hardware.specs.Beside.{AreBesideHardware}
use Rattle.iom_stepped_hardware.specs.Steps.{BeginsWanted, Ends, Rests, TakesOneStep, TakesStepBeside, TakesStepBy, TakesStepUnless, TakesWholeStep, began, took, walks_itself}
use Rattle.iom_stepped_hardware.specs.declared.steps.StepOutcome.{StepOutcome}
use Rattle.iom_stepped_hardware.specs.declared.steps.StepOutcome.TheVariants as step
use Rattle.iom_stepped_machine.specs.Machine.{Answer, SteppedOutcome, Whole, walks_at_steps}
use Rattle.iom_stepped_refinement.specs.Effect.{SteppedEffect}
use Rattle.iom_stepped_refinement.specs.Laws.{AsksAsEver}
use Rattle.iom_stepped_refinement.specs.Runs.{WalksKeepFacts}
use Rattle.iom_stepped_refinement.specs.Shows.{told_at_begin}
use Rattle.iom_stepped_world.specs.Happens.{Does, StaysIfRefused}
use Rattle.iom_stepped_world.specs.Shown.{SteppedShown}
use Rattle.iom_stepped_world.specs.Told.{told_step}
use Rattle.iom_stepped_world.proofs.Around.{Around, disks_left, leads, not_refused, nothing_changed, rows_stay}
use Rattle.iom_stepped_world.proofs.BegunLemmas.{begun_frames, begun_keeps}
use Rattle.iom_stepped_world.proofs.FramesStay.{same_frames, step_frames}
use Rattle.iom_world_refinement.proofs.EventLemmas.{below_counted, sound_counted}
use Rattle.std.proofs.lemmas.Bool.{false≢true}
use Rattle.iom_base.specs.declared.refusal.Refusal.TheVariants.{NoSuchDevice, WrongKind}
use Rattle.iom_iommu.specs.Stepped.{BeginsRequest}
use Rattle.iom_stepped_board.specs.Requests.{BeginsBeside}
use Rattle.iom_stepped_hardware.proofs.WholeSteps.{block_kind, idle_of, none_walking}
use Rattle.iom_world.specs.Blocks.{RefusedIfNone, TakesStepOf}
use Rattle.iom_virtio_blk.specs.Steps.{Device}
use Rattle.iom_virtio_blk.specs.declared.step.Step.{Step}
use Rattle.iom_virtio_blk.specs.declared.step.Step.TheVariants as blk
use Rattle.iom_walks.specs.Walks.{UnderWay, WalkRow, under_way_in, under_way_of, row_of}
use Rattle.iom_world.specs.OnHardware.{hardware_of, outcome_of_step, outcome_unless}
use Rattle.iom_world.proofs.InParts.{same_parts}
use Rattle.iom_world.proofs.StepInParts.{step_in_parts}
use Rattle.iom_world.proofs.StepKeeps.{keeps_stepped}
use Rattle.iom_world_effects.proofs.DriverLemmas.{DriverInvariant}
use Rattle.iom_world_effects.specs.Below.{LawsBelow}
use Rattle.iom_world_effects.specs.BlockDevices.{IsRest, TakesBlockStep}
use Rattle.iom_world_effects.specs.Invariant.{PartsInvariant}
use Rattle.iom_world_walks.specs.Invariant.{SteppedInvariant}
use Rattle.iom_world_walks.specs.Laws.{BeginsKeepInvariant}

-- what is under way of a device stands in its row
pub row_with : (rows : List WalkRow) (id : ℕ) (own : UnderWay) → under_way_of rows id ≡ Some own → (row : WalkRow) × (row_of rows id ≡ Some row) × (row.under_way ≡ Some own)
row_with rows id own is = by (row_of rows id) refl is
  where
    by : (found : Option WalkRow) → row_of rows id ≡ found → under_way_in found ≡ Some own → (row : WalkRow) × (row_of rows id ≡ Some row) × (row.under_way ≡ Some own)
    by None at none = cc
    by (Some row) at has = (row, at, has)

-- a step that is one event is told as ever
told_took : (given : Result Stepped Refusal) → told_step (took given) ≡ Answer (outcome_unless outcome_of_step given)
told_took (Ok taken) = refl
told_took (Err why) = refl

module _ (laws : LawsBelow) (begins : BeginsKeepInvariant) (facts : WalksKeepFacts) (driver : Driver) (old new : SteppedShown) (id : ℕ) (is : old.world.parts.driver ≡ state_of driver)
    (own : DriverInvariant old.world.parts.driver) (held : PartsInvariant old.world.parts old.world.events)
    (invariant : ∥ SteppedInvariant old.world.parts old.rows old.world.events ∥₁)
    (beside : AreBesideHardware (hardware_of old.world.parts) old.world.inside.blocks old.rows) (stays : new.world.parts.driver ≡ old.world.parts.driver)
    (there : IsAble is_block_device old.world.parts.devices id → block_with old.world.inside.blocks id ≡ None → ⊥) where
  abbrev devices : List Plugged
  devices = old.world.parts.devices

  abbrev Effect : SteppedOutcome → Type 0
  Effect outcome = SteppedEffect old.world.disks old.world.parts old.rows (Whole (events.Step id)) outcome new.world.parts new.rows

  -- the effect; a refusal changes nothing; what is true of the parts; and the frames
  abbrev All : Result StepOutcome Refusal → Type 0
  All answer =
      Effect (told_step answer) × StaysIfRefused (told_step answer) old new × PartsInvariant new.world.parts (old.world.events + 1) × (frames_of new.world.parts.iommu ≡ frames_of old.world.parts.iommu)

  counted : PartsInvariant old.world.parts (old.world.events + 1)
  counted = sound_counted old.world.parts old.world.events held

  same_keeps : new.world.parts ≡ old.world.parts → PartsInvariant new.world.parts (old.world.events + 1)
  same_keeps same = subst (λ p. PartsInvariant p (old.world.events + 1)) (sym same) counted

  -- A STEP THAT IS ONE EVENT
  whole : (answer : Result StepOutcome Refusal) → walks_itself (kind_in devices id) ≡ false
      → TakesWholeStep (hardware_of old.world.parts) old.rows old.world.inside id answer (hardware_of new.world.parts) new.rows new.world.inside → All answer
  whole answer not_itself so =
      subst All (sym so.answered)
      (subst (λ o. Effect o × StaysIfRefused o old new × PartsInvariant new.world.parts (old.world.events + 1) × (frames_of new.world.parts.iommu ≡ frames_of old.world.parts.iommu)) (sym (told_took so.given)) (
        inr (inr (record {
          happens = record {
            answered = outcome_unless outcome_of_step so.given;
            told = refl;
            effect = both.0;
            asks = asks (block_with old.world.inside.blocks id) refl so.refused;
            leaves = rows_stay old.world.parts (events.Step id) _ old.rows new.rows so.walks (λ other gives. gives);
          };
          no_walk = λ able. absurd (not_able able.0 able.2 (subst (λ k. walks_itself k ≡ false) able.1 not_itself));
        })),
        stays_whole (block_with old.world.inside.blocks id) both.1.0,
        keeps_stepped laws driver old.world.parts new.world.parts (old.world.events + 1) id (outcome_unless outcome_of_step so.given) counted own is
            (below_counted old.world.parts old.world.events held) both.0,
        step_frames old.world.parts new.world.parts id (outcome_unless outcome_of_step so.given) both.0,
      ))
    where
      both : TakesBlockStep old.world.parts id (outcome_unless outcome_of_step so.given) new.world.parts
          × TakesStepOf old.world.parts old.world.inside id (outcome_unless outcome_of_step so.given) new.world.parts new.world.inside
      both = step_in_parts old.world.parts new.world.parts stays old.world.inside new.world.inside id so.given so.refused so.steps

      not_able : (kind : DeviceKind) → walks_at_steps kind ≡ true → walks_itself (Some kind) ≡ false → ⊥
      not_able Raw can cannot = cc
      not_able Ats can cannot = cc
      not_able Block can cannot = cc
      not_able CachedBlock can cannot = cc

      asks : (found : Option ShownBlock) → block_with old.world.inside.blocks id ≡ found → IsRefusedIfNone found (hardware_of old.world.parts) id so.given (hardware_of new.world.parts)
          → AsksAsEver old.world.parts old.rows (events.Step id) (outcome_unless outcome_of_step so.given)
      asks None at (inl none) = inr (inl (NoSuchDevice, ap (outcome_unless outcome_of_step) none.answered))
      asks None at (inr wrong) = inr (inl (WrongKind, ap (outcome_unless outcome_of_step) wrong.answered))
      asks (Some block) at able =
          inl (λ other asker.
          let same : id ≡ other = cc in
          subst (λ n. under_way_of old.rows n ≡ None) same (idle_of (hardware_of old.world.parts) old.world.inside.blocks old.rows id block beside.asking at not_itself))

      stays_whole : (found : Option ShownBlock) → RefusedIfNone found old.world.parts id (outcome_unless outcome_of_step so.given) new.world.parts
          → StaysIfRefused (Answer (outcome_unless outcome_of_step so.given)) old new
      stays_whole None (inl unknown) = nothing_changed old new (Answer (outcome_unless outcome_of_step so.given)) unknown.same so.walks
      stays_whole None (inr unable) = nothing_changed old new (Answer (outcome_unless outcome_of_step so.given)) unable.same so.walks
      stays_whole (Some block) none = not_refused old new (outcome_unless outcome_of_step so.given) none

  -- IT BEGINS NO ACCESS
  rested : (kept : Stepped) (tells : BlockStep) (answer : Result StepOutcome Refusal) (between after : Device) → outcome_of_step kept ≡ outcome.Stepped tells → IsRest tells
      → IsAble is_block_device devices id → under_way_of old.rows id ≡ None
      → Rests kept (hardware_of old.world.parts) old.rows between answer (hardware_of new.world.parts) new.rows after → All answer
  rested kept tells answer between after told is_rest able idle rests =
      let same = same_parts old.world.parts new.world.parts rests.same stays in
      subst All (sym rests.answered) (
        inr (inr (record {
          happens = record {
            answered = outcome.Stepped tells;
            told = ap (λ (o : Outcome). Answer o) told;
            effect = inr (tells, is_rest, inr (inr (able, refl, same)));
            asks = inl (λ other asker. let at : id ≡ other = cc in subst (λ n. under_way_of old.rows n ≡ None) at idle);
            leaves = rows_stay old.world.parts (events.Step id) _ old.rows new.rows rests.walks (λ other gives. gives);
          };
          no_walk = λ walks. (tells, refl);
        })),
        nothing_changed old new (told_step (Ok (step.Took kept))) same rests.walks,
        same_keeps same,
        same_frames old.world.parts new.world.parts same,
      )

  -- IT BEGINS THE ACCESS THAT IT WANTS
  wanted : (answer : Result StepOutcome Refusal) (between after : Device) → kind_in devices id ≡ Some Block → under_way_of old.rows id ≡ None
      → BeginsWanted (hardware_of old.world.parts) old.rows id between answer (hardware_of new.world.parts) new.rows after → All answer
  wanted answer between after kind idle wants = elim wants.any.begins.by_device [
    | inl none ↦ let both : ◌≡◌ {A = Option DeviceKind} (Some Block) None = sym kind ∙ none.absent in cc
    | inr (inl wrong) ↦
        let both : ◌≡◌ {A = Option DeviceKind} (Some Block) (Some wrong.kind) = sym kind ∙ wrong.there in
        let is : Block ≡ wrong.kind = cc in
        absurd (false≢true (sym wrong.cannot ∙ ap is_block_device (sym is)))
    | inr (inr does) ↦ subst All (sym (wants.answered ∙ ap began does.answered)) (by does.given does.call.call (begins_so does.given does.call))
  ]
    where
      none_some : (u : Option UnderWay) → u ≡ None → IsSome u → ⊥
      none_some None none some = cc
      none_some (Some it) none some = cc

      keeps : PartsInvariant new.world.parts (old.world.events + 1)
      keeps = begun_keeps is_block_device begins facts driver old.world.parts new.world.parts old.world.events id old.rows new.rows wants.any.access wants.given is invariant stays wants.any.fits wants.any.begins

      frames : frames_of new.world.parts.iommu ≡ frames_of old.world.parts.iommu
      frames = begun_frames is_block_device old.world.parts new.world.parts id old.rows new.rows wants.any.access wants.given stays wants.any.begins

      begins_so : (given : Begun) → BeginsBeside old.rows id wants.any.access new.rows (hardware_of old.world.parts) given (hardware_of new.world.parts) → Effect (told_at_begin given)
      begins_so given call = inl (
        wants.any.access,
        record {
          asks = record { kind = Block; there = kind; can = (refl, wants.any.wants) };
          fits = wants.any.fits;
          alone = idle;
          begun = given;
          told = refl;
          call = call.call;
          stays = record { driver = stays; devices = call.devices; fabric = call.fabric };
        },
      )

      by : (given : Begun) → BeginsRequest old.world.parts.memory old.world.parts.iommu old.rows id wants.any.access given new.world.parts.memory new.world.parts.iommu new.rows → Effect (told_at_begin given)
          → All (began (Ok given))
      by (begun.Answered reply.BadSpan) call effect = (effect, tt, keeps, frames)
      by (begun.Answered reply.Busy) call effect = (effect, tt, keeps, frames)
      by (begun.Answered (reply.Accepted number)) call effect = (effect, tt, keeps, frames)
      by (begun.Answered (reply.Fault cause)) call effect = (effect, tt, keeps, frames)
      by begun.Walking call effect = (effect, tt, keeps, frames)
      by begun.Occupied call effect = absurd (none_some (under_way_of old.rows id) idle call.2)

  -- THE STEP of a block device whose loads are made one by one
  own_step : (answer : Result StepOutcome Refusal) (walking : Bool) → is_some (under_way_of old.rows id) ≡ walking → kind_in devices id ≡ Some Block
      → TakesStepUnless walking (hardware_of old.world.parts) old.rows old.world.inside id answer (hardware_of new.world.parts) new.rows new.world.inside → All answer
  own_step answer true walking kind waits =
      let same = same_parts old.world.parts new.world.parts waits.same stays in
      subst All (sym waits.answered) (
        inr (inl (record { able = (Block, kind, refl); under_way = walking; told = refl; same = (same, waits.walks) })),
        tt,
        same_keeps same,
        same_frames old.world.parts new.world.parts same,
      )
  own_step answer false idle kind takes = by (block_with old.world.inside.blocks id) refl takes.0
    where
      able : IsAble is_block_device devices id
      able = (Block, kind, refl)

      none : under_way_of old.rows id ≡ None
      none = none_walking (under_way_of old.rows id) idle

      ends : (taken : Step) (between after : Device) → Ends taken (hardware_of old.world.parts) old.rows id between answer (hardware_of new.world.parts) new.rows after → All answer
      ends blk.Idle between after is = rested stepped.Idle rest.Idle answer between after refl tt able none is
      ends blk.Waiting between after is = rested stepped.Waiting rest.Waiting answer between after refl tt able none is
      ends blk.Down between after is = rested stepped.Down rest.Down answer between after refl tt able none is
      ends (blk.Chain fault) between after is = rested (stepped.Chain fault) (rest.Chain fault) answer between after refl tt able none is
      ends (blk.Finished head len) between after is = rested (stepped.Finished head len) (rest.Finished head len) answer between after refl tt able none is
      ends (blk.Wants want) between after is = wanted answer between after kind none is

      by : (found : Option ShownBlock) → block_with old.world.inside.blocks id ≡ found
          → ChangesIfThere found (TakesOneStep (hardware_of old.world.parts) old.rows id answer (hardware_of new.world.parts) new.rows) old.world.inside.blocks id new.world.inside.blocks → All answer
      by None at same = absurd (there able at)
      by (Some block) at (after, one, is_after) = ends one.taken one.between after one.ends

  pub steps_well : (answer : Result StepOutcome Refusal) → TakesStepBeside (hardware_of old.world.parts) old.rows old.world.inside id answer (hardware_of new.world.parts) new.rows new.world.inside → All answer
  steps_well answer takes = by (walks_itself (kind_in devices id)) refl takes
    where
      by : (itself : Bool) → walks_itself (kind_in devices id) ≡ itself
          → TakesStepBy itself (hardware_of old.world.parts) old.rows old.world.inside id answer (hardware_of new.world.parts) new.rows new.world.inside → All answer
      by true at steps = own_step answer (is_some (under_way_of old.rows id)) refl (block_kind (kind_in devices id) at) steps
      by false at steps = whole answer at steps

  -- THE STEP does what its event is to do
  pub step_does : (answer : Result StepOutcome Refusal) → Around old new → new.world.disks ≡ old.world.disks
      → TakesStepBeside (hardware_of old.world.parts) old.rows old.world.inside id answer (hardware_of new.world.parts) new.rows new.world.inside → Does old (Whole (events.Step id)) (told_step answer) new
  step_does answer around disks takes =
      let all = steps_well answer takes in
      record {
        leads = leads old new (Whole (events.Step id)) (told_step answer) around tt all.0 (disks ∙ sym (disks_left (events.Step id) (told_step answer) old.world.disks tt)) all.3;
        inside = record { taken = answer; answered = refl; steps = takes };
        refused = all.1;
      }
