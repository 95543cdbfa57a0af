-- A block device that is there is never refused: neither its step, whatever access that begins, nor its status.
use Rattle.std.proofs.Common.{◌≡◌, ◌∙◌, ◌⊎◌, inl, inr, ℕ, Bool, true, false, Option, Some, None, sym, ap, subst}
use Rattle.std.proofs.lemmas.Bool.{false≢true}
use Rattle.iom_base.specs.declared.access.Access.{Access}
use Rattle.iom_world_effects.specs.BlockDevices.{AsksIfMissed, GoesThroughCache, GoesToMemory}
use Rattle.iom_world_effects.specs.Parts.{Parts}
use Rattle.iom_world_effects.specs.Requests.{AsksAccess, outcome_of_reply}
use Rattle.iom_world_effects.specs.ThroughCache.{DeviceAsksThroughCache, FindsFrame, TriesCache, cached_frame}
use Rattle.iom_world_effects.specs.Unable.{IsUnknown, IsUnable}
use Rattle.iom_world_effects.proofs.PresentLemmas.{kind_present}
use Rattle.iom_coherence.specs.Attachments.{caches_translations}
use Rattle.iom_device.specs.Caches.{IsAble, kind_in}
use Rattle.iom_iommu.specs.declared.reply.Reply.{Reply}
use Rattle.iom_iommu.specs.declared.reply.Reply.TheVariants as replies
use Rattle.iom_machine.specs.declared.outcome.BlockStep.TheVariants as rest
use Rattle.iom_machine.specs.declared.outcome.Outcome.{Outcome}
use Rattle.iom_machine.specs.declared.outcome.Outcome.TheVariants as outcome
use Rattle.iom_base.specs.declared.device_kind.DeviceKind.{DeviceKind}
use Rattle.iom_base.specs.DeviceKinds.{is_block_device}
use Rattle.iom_virtio_blk.specs.declared.step.Step.{Step}
use Rattle.iom_virtio_blk.specs.declared.step.Step.TheVariants as step
use Rattle.iom_virtio_blk.specs.Steps.{Device}
use Rattle.iom_world.specs.Blocks.{EndsStep, IsNoRefusal, StepsOnce}

-- what is told is what that is
pub reply_is : (same answered : Outcome) → answered ≡ same → IsNoRefusal same → IsNoRefusal answered
reply_is same answered is never = subst (λ (o : Outcome). IsNoRefusal o) (sym is) never

-- a block device that is there isn't one that isn't there, nor of another kind
excluded : (old new : Parts) (id : ℕ) (answered : Outcome) → IsAble is_block_device old.devices id → IsUnknown old id answered new ⊎ IsUnable is_block_device old id answered new → ⊥
excluded old new id answered able (inl unknown) =
    let there = kind_present old.devices id able.0 able.1 in unknown.absent there.0 there.1 there.2
excluded old new id answered able (inr unable) =
    false≢true (sym unable.cannot ∙ ap is_block_device (sym (the_same able.0 unable.kind (sym able.1 ∙ unable.there))) ∙ able.2)
  where
    the_same : (x y : DeviceKind) → Some x ≡ Some y → x ≡ y
    the_same x y both = cc

replied : (reply : Reply) → IsNoRefusal (outcome_of_reply reply)
replied (replies.Accepted number) = tt
replied replies.Busy = tt
replied replies.BadSpan = tt
replied (replies.Fault cause) = tt

-- an access that goes to the IOMMU
asks : (old new : Parts) (id : ℕ) (access : Access) (answered : Outcome) → IsAble is_block_device old.devices id → AsksAccess is_block_device old id access answered new → IsNoRefusal answered
asks old new id access answered able (inl unknown) = absurd (excluded old new id answered able (inl unknown))
asks old new id access answered able (inr (inl unable)) = absurd (excluded old new id answered able (inr unable))
asks old new id access answered able (inr (inr (is, answer))) = reply_is (outcome_of_reply answer.reply) answered answer.reply_is (replied answer.reply)

-- what comes of the device's own cache first, and what is told of it
after_reply : (between new : Parts) (id : ℕ) (access : Access) (first answered : Outcome) (reply : Reply) → first ≡ outcome_of_reply reply → AsksIfMissed first between id access answered new → IsNoRefusal answered
after_reply between new id access first answered reply is missed = by reply (subst (λ (o : Outcome). AsksIfMissed o between id access answered new) is missed)
  where
    by : (reply : Reply) → AsksIfMissed (outcome_of_reply reply) between id access answered new → IsNoRefusal answered
    by (replies.Accepted number) now = reply_is (outcome.Accepted number) answered now.0 tt
    by replies.Busy now = reply_is outcome.Busy answered now.0 tt
    by replies.BadSpan now = reply_is outcome.BadSpan answered now.0 tt
    by (replies.Fault cause) now = reply_is (outcome.Fault cause) answered now.0 tt

found : (cached : Option ℕ) (old between new : Parts) (id : ℕ) (access : Access) (first answered : Outcome) → FindsFrame cached old id access first between
    → AsksIfMissed first between id access answered new → IsNoRefusal answered
found None old between new id access first answered finds missed =
    reply_is (outcome.Stepped rest.Asked) answered (subst (λ (o : Outcome). AsksIfMissed o between id access answered new) finds.0 missed).0 tt
found (Some frame) old between new id access first answered finds missed = after_reply between new id access first answered finds.reply finds.reply_is missed

tried : (old between new : Parts) (id : ℕ) (access : Access) (first answered : Outcome) → TriesCache old id access first between → AsksIfMissed first between id access answered new → IsNoRefusal answered
tried old between new id access first answered (inl (leaves, is, same)) missed = after_reply between new id access first answered replies.BadSpan is missed
tried old between new id access first answered (inr (inl (within, full, is, same))) missed = after_reply between new id access first answered replies.Busy is missed
tried old between new id access first answered (inr (inr (within, room, finds))) missed = found (cached_frame old id access) old between new id access first answered finds missed

-- an access through the device's own cache
goes : (old new : Parts) (id : ℕ) (access : Access) (answered : Outcome) → IsAble is_block_device old.devices id → GoesThroughCache old id access answered new → IsNoRefusal answered
goes old new id access answered able through = by through.tries
  where
    by : DeviceAsksThroughCache is_block_device old id access through.first through.between → IsNoRefusal answered
    by (inl unknown) = absurd (excluded old through.between id through.first able (inl unknown))
    by (inr (inl unable)) = absurd (excluded old through.between id through.first able (inr unable))
    by (inr (inr (is, tries))) = tried old through.between new id access through.first answered tries through.asks

begun : (has_cache : Bool) (old new : Parts) (id : ℕ) (access : Access) (answered : Outcome) → IsAble is_block_device old.devices id → GoesToMemory has_cache old id access answered new → IsNoRefusal answered
begun false old new id access answered able memory = asks old new id access answered able memory
begun true old new id access answered able memory = goes old new id access answered able memory

-- A STEP of a block device
pub step_not_refused : (old new : Parts) (id : ℕ) (answered : Outcome) (before after : Device) → IsAble is_block_device old.devices id → StepsOnce old id answered new before after → IsNoRefusal answered
step_not_refused old new id answered before after able steps = by steps.taken steps.ends
  where
    by : (taken : Step) → EndsStep taken old id steps.between answered new after → IsNoRefusal answered
    by step.Idle ends = reply_is (outcome.Stepped rest.Idle) answered ends.0 tt
    by step.Waiting ends = reply_is (outcome.Stepped rest.Waiting) answered ends.0 tt
    by step.Down ends = reply_is (outcome.Stepped rest.Down) answered ends.0 tt
    by (step.Chain fault) ends = reply_is (outcome.Stepped (rest.Chain fault)) answered ends.0 tt
    by (step.Finished head len) ends = reply_is (outcome.Stepped (rest.Finished head len)) answered ends.0 tt
    by (step.Wants want) ends = begun (caches_translations (kind_in old.devices id)) old new id ends.access answered able ends.begun
