-- What a block device's step does on hardware is what its event does to the parts of a world, whose driver stays.
use Rattle.std.specs.Option.{option_map_or}
use Rattle.std.proofs.Common.{◌≡◌, ◌⊎◌, ◌∙◌, inl, inr, ℕ, Bool, true, false, Option, None, Some, Result, Ok, Err, refl, sym, ap, subst}
use Rattle.iom_base.specs.declared.access.Access.{Access}
use Rattle.iom_base.specs.DeviceKinds.{has_cache, is_block_device}
use Rattle.iom_base.specs.declared.refusal.Refusal.{Refusal}
use Rattle.iom_block_devices.specs.Changes.{block_with, ChangesIfThere}
use Rattle.iom_block_devices.specs.Shown.{ShownBlock, ShownBlocks}
use Rattle.iom_board.specs.BoardParts.{BoardParts}
use Rattle.iom_board.specs.declared.answers.CacheReply.{CacheReply}
use Rattle.iom_board.specs.declared.answers.CacheReply.TheVariants.{Miss, Replied}
use Rattle.iom_device.specs.Caches.{IsAble, kind_in}
use Rattle.iom_hardware.specs.declared.steps.Stepped.{Stepped}
use Rattle.iom_hardware.specs.declared.steps.Stepped.TheVariants.{Began, Asked, Idle, Waiting, Down, Chain, Finished}
use Rattle.iom_hardware.specs.Status.{FindsNoBlock}
use Rattle.iom_hardware.specs.Steps.{Begins, Ends, GoesBy, IsRefusedIfNone, Rests, TakesOneStep, TakesStep, began, reply_to}
use Rattle.iom_hardware.specs.Steps as hardware
use Rattle.iom_iommu.specs.declared.reply.Reply.{Reply}
use Rattle.iom_iommu.specs.declared.reply.Reply.TheVariants as iommu
use Rattle.iom_machine.specs.declared.outcome.BlockStep.{BlockStep}
use Rattle.iom_machine.specs.declared.outcome.BlockStep.TheVariants as rest
use Rattle.iom_machine.specs.declared.outcome.Outcome.{Outcome}
use Rattle.iom_machine.specs.declared.outcome.Outcome.TheVariants as outcome
use Rattle.iom_virtio_blk.specs.declared.step.Step.{Step}
use Rattle.iom_virtio_blk.specs.declared.step.Step.TheVariants as step
use Rattle.iom_virtio_blk.specs.Blocks.{replied}
use Rattle.iom_virtio_blk.specs.Steps.{Device, device}
use Rattle.iom_world_effects.specs.BlockDevices.{AsksIfMissed, BeginsAccess, GoesToMemory, IsRest, TakesBlockStep}
use Rattle.iom_world_effects.specs.Parts.{Parts}
use Rattle.iom_world_effects.specs.Requests.{AsksAccess, outcome_of_reply}
use Rattle.iom_world_effects.specs.Unable.{IsUnknown, IsUnable}
use Rattle.iom_world_effects.proofs.PresentLemmas.{kind_absent}
use Rattle.iom_world.specs.Blocks.{EndsStep, RefusedIfNone, StepsOnce, TakesStepOf, reply_of}
use Rattle.iom_world.specs.OnHardware.{outcome_of_cache_reply, hardware_of, outcome_of_step, outcome_unless}
use Rattle.iom_world.proofs.InParts.{asked_in_parts, cached_in_parts, parts_with, same_parts}
use Rattle.iom_world.proofs.NeverRefused.{step_not_refused}

-- as parts, with the driver that they have
abbrev with_hardware : Parts → BoardParts → Parts
with_hardware old board = record { memory = board.memory; iommu = board.iommu; driver = old.driver; devices = board.devices; fabric = board.fabric }

-- what is told of an access is what its device is told
began_told : (given : Result Reply Refusal) → outcome_unless outcome_of_step (began given) ≡ outcome_unless outcome_of_reply given
began_told (Ok reply) = refl
began_told (Err why) = refl

reply_told : (access : Access) (answer : Result Stepped Refusal) → reply_of access (outcome_unless outcome_of_step answer) ≡ reply_to access answer
reply_told access (Ok (Began (iommu.Accepted number))) = refl
reply_told access (Ok (Began iommu.Busy)) = refl
reply_told access (Ok (Began iommu.BadSpan)) = refl
reply_told access (Ok (Began (iommu.Fault cause))) = refl
reply_told access (Ok Asked) = refl
reply_told access (Ok Idle) = refl
reply_told access (Ok Waiting) = refl
reply_told access (Ok Down) = refl
reply_told access (Ok (Chain fault)) = refl
reply_told access (Ok (Finished head len)) = refl
reply_told access (Err why) = refl

-- where there is no block device with the id
pub no_block_in_parts : {A : Type 0} (old new : Parts) (driver : new.driver ≡ old.driver) (told_as : A → Outcome) (id : ℕ) (answer : Result A Refusal) → FindsNoBlock (hardware_of old) id answer (hardware_of new)
    → IsUnknown old id (outcome_unless told_as answer) new ⊎ IsUnable is_block_device old id (outcome_unless told_as answer) new
no_block_in_parts old new driver told_as id answer (inl none) =
    inl (record { absent = kind_absent old.devices id none.absent; reply_is = ap (outcome_unless told_as) none.answered; same = same_parts old new none.same driver })
no_block_in_parts old new driver told_as id answer (inr wrong) =
    inr (record { kind = wrong.kind; there = wrong.there; cannot = wrong.cannot; reply_is = ap (outcome_unless told_as) wrong.answered; same = same_parts old new wrong.same driver })

module _ (old new : Parts) (driver : new.driver ≡ old.driver) where
  asks : (first : Result CacheReply Refusal) (between : Parts) (id : ℕ) (access : Access) (answer : Result Stepped Refusal) → between.driver ≡ old.driver
      → hardware.AsksIfMissed first (hardware_of between) id access answer (hardware_of new)
      → AsksIfMissed (outcome_unless outcome_of_cache_reply first) between id access (outcome_unless outcome_of_step answer) new
  asks (Ok Miss) between id access answer kept asked =
      (ap (outcome_unless outcome_of_step) asked.0, parts_with between new _ asked.1 (driver ∙ sym kept))
  asks (Ok (Replied (iommu.Accepted number))) between id access answer kept asked = (ap (outcome_unless outcome_of_step) asked.0, same_parts between new asked.1 (driver ∙ sym kept))
  asks (Ok (Replied iommu.Busy)) between id access answer kept asked = (ap (outcome_unless outcome_of_step) asked.0, same_parts between new asked.1 (driver ∙ sym kept))
  asks (Ok (Replied iommu.BadSpan)) between id access answer kept asked = (ap (outcome_unless outcome_of_step) asked.0, same_parts between new asked.1 (driver ∙ sym kept))
  asks (Ok (Replied (iommu.Fault cause))) between id access answer kept asked = (ap (outcome_unless outcome_of_step) asked.0, same_parts between new asked.1 (driver ∙ sym kept))
  asks (Err why) between id access answer kept asked = (ap (outcome_unless outcome_of_step) asked.0, same_parts between new asked.1 (driver ∙ sym kept))

  goes : (through : Bool) (id : ℕ) (access : Access) (answer : Result Stepped Refusal) → GoesBy through (hardware_of old) id access answer (hardware_of new)
      → GoesToMemory through old id access (outcome_unless outcome_of_step answer) new
  goes false id access answer untranslated =
      subst (λ (reply : Outcome). AsksAccess is_block_device old id access reply new) (sym (ap (outcome_unless outcome_of_step) untranslated.answered ∙ began_told untranslated.given))
      (asked_in_parts old new driver is_block_device id access untranslated.given untranslated.requests)
  goes true id access answer through =
      let between = with_hardware old through.between in
      record {
        first = outcome_unless outcome_of_cache_reply through.first;
        between = between;
        tries = cached_in_parts old between refl is_block_device id access through.first through.tries;
        asks = asks through.first between id access answer refl through.asks;
      }

  begun : (id : ℕ) (access : Access) (answer : Result Stepped Refusal) → Begins (hardware_of old) id access answer (hardware_of new) → BeginsAccess old id access (outcome_unless outcome_of_step answer) new
  begun id access answer begins = goes (option_map_or has_cache (kind_in old.devices id) false) id access answer begins

  rests : (kept : Stepped) (between after : Device) (answer : Result Stepped Refusal) → Rests kept (hardware_of old) between answer (hardware_of new) after
      → (outcome_unless outcome_of_step answer ≡ outcome_of_step kept) × (new ≡ old) × (after ≡ between)
  rests kept between after answer is = (ap (outcome_unless outcome_of_step) is.answered, same_parts old new is.same driver, is.settled)

  ends : (taken : Step) (id : ℕ) (between after : Device) (answer : Result Stepped Refusal) → Ends taken (hardware_of old) id between answer (hardware_of new) after
      → EndsStep taken old id between (outcome_unless outcome_of_step answer) new after
  ends step.Idle id between after answer is = rests Idle between after answer is
  ends step.Waiting id between after answer is = rests Waiting between after answer is
  ends step.Down id between after answer is = rests Down between after answer is
  ends (step.Chain fault) id between after answer is = rests (Chain fault) between after answer is
  ends (step.Finished head len) id between after answer is = rests (Finished head len) between after answer is
  ends (step.Wants want) id between after answer is = record {
    access = is.access;
    named = is.named;
    begun = begun id is.access answer is.begun;
    hears = is.hears ∙ ap (λ r. device (replied r between.front) between.disk) (sym (reply_told is.access answer));
  }

  -- the device takes its step
  once : (id : ℕ) (answer : Result Stepped Refusal) (before after : Device) → TakesOneStep (hardware_of old) id answer (hardware_of new) before after
      → StepsOnce old id (outcome_unless outcome_of_step answer) new before after
  once id answer before after takes =
      record { taken = takes.taken; between = takes.between; steps = takes.steps; tells = takes.tells; ends = ends takes.taken id takes.between after answer takes.ends }

  -- and what the world sees of that is a step of its own choice
  rested : (kept : BlockStep) (id : ℕ) (reply : Outcome) → IsRest kept → IsAble is_block_device old.devices id → reply ≡ outcome.Stepped kept → new ≡ old → TakesBlockStep old id reply new
  rested kept id reply is able reply_is same = inr (kept, is, inr (inr (able, reply_is, same)))

  chosen : (taken : Step) (id : ℕ) (between after : Device) (answer : Result Stepped Refusal) → IsAble is_block_device old.devices id → Ends taken (hardware_of old) id between answer (hardware_of new) after
      → TakesBlockStep old id (outcome_unless outcome_of_step answer) new
  chosen step.Idle id between after answer able is = let it = rests Idle between after answer is in rested rest.Idle id _ tt able it.0 it.1
  chosen step.Waiting id between after answer able is = let it = rests Waiting between after answer is in rested rest.Waiting id _ tt able it.0 it.1
  chosen step.Down id between after answer able is = let it = rests Down between after answer is in rested rest.Down id _ tt able it.0 it.1
  chosen (step.Chain fault) id between after answer able is = let it = rests (Chain fault) between after answer is in rested (rest.Chain fault) id _ tt able it.0 it.1
  chosen (step.Finished head len) id between after answer able is =
      let it = rests (Finished head len) between after answer is in rested (rest.Finished head len) id _ tt able it.0 it.1
  chosen (step.Wants want) id between after answer able is = inl (is.access, is.fits, is.wants, begun id is.access answer is.begun)

  -- A STEP, whether there is a block device with the id or none
  pub step_in_parts : (before after : ShownBlocks) (id : ℕ) (answer : Result Stepped Refusal) → IsRefusedIfNone (block_with before.blocks id) (hardware_of old) id answer (hardware_of new)
      → TakesStep (hardware_of old) before id answer (hardware_of new) after
      → TakesBlockStep old id (outcome_unless outcome_of_step answer) new × TakesStepOf old before id (outcome_unless outcome_of_step answer) new after
  step_in_parts before after id answer refused takes = by (block_with before.blocks id) refused takes.0
    where
      by : (found : Option ShownBlock) → IsRefusedIfNone found (hardware_of old) id answer (hardware_of new)
          → ChangesIfThere found (TakesOneStep (hardware_of old) id answer (hardware_of new)) before.blocks id after.blocks
          → TakesBlockStep old id (outcome_unless outcome_of_step answer) new
          × (RefusedIfNone found old id (outcome_unless outcome_of_step answer) new × (ChangesIfThere found (StepsOnce old id (outcome_unless outcome_of_step answer) new) before.blocks id after.blocks × (after.at_hand ≡ before.at_hand)))
      by None none same =
          let refuses = no_block_in_parts old new driver outcome_of_step id answer none in
          (unchosen refuses, (refuses, (same, takes.1)))
        where
          unchosen : IsUnknown old id (outcome_unless outcome_of_step answer) new ⊎ IsUnable is_block_device old id (outcome_unless outcome_of_step answer) new → TakesBlockStep old id (outcome_unless outcome_of_step answer) new
          unchosen (inl unknown) = inr (rest.Idle, tt, inl unknown)
          unchosen (inr unable) = inr (rest.Idle, tt, inr (inl unable))
      by (Some block) able (device, step, is) =
          let whole = once id answer block.device device step in (
            chosen step.taken id step.between device answer able step.ends,
            (step_not_refused old new id (outcome_unless outcome_of_step answer) block.device device able whole, ((device, whole, is), takes.1)),
          )
