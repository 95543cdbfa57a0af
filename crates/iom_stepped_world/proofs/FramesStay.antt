-- A request leaves the IOMMU for as many frames.
use Rattle.std.proofs.Common.{◌≡◌, ◌∙◌, inl, inr, ℕ, Bool, true, false, List, Option, None, Some, Result, ap}
use Rattle.iom_base.specs.DeviceKinds.{is_block_device}
use Rattle.iom_base.specs.Accesses.{at_frame}
use Rattle.iom_base.specs.declared.access.Access.{Access}
use Rattle.iom_base.specs.declared.device_kind.DeviceKind.{DeviceKind}
use Rattle.iom_coherence.specs.Attachments.{caches_translations}
use Rattle.iom_device.specs.Caches.{kind_in}
use Rattle.iom_fault_queue.specs.declared.transaction.Transaction.{Transaction}
use Rattle.iom_iommu.specs.OwnIommu.{Iommu}
use Rattle.iom_iommu.specs.Parts.{frames_of}
use Rattle.iom_iommu.specs.Requests.{Answers}
use Rattle.iom_iommu.specs.declared.reply.Reply.{Reply}
use Rattle.iom_iommu.specs.declared.reply.Reply.TheVariants as reply
use Rattle.iom_machine.specs.declared.outcome.Outcome.{Outcome}
use Rattle.iom_machine.specs.declared.outcome.Outcome.TheVariants as outcome
use Rattle.iom_stage_walk.specs.declared.walked.WalkFault.{WalkFault}
use Rattle.iom_tlb.specs.Content.{Translations}
use Rattle.iom_tlb.specs.declared.trans_cache.Translation.{Translation}
use Rattle.iom_world_effects.specs.BlockDevices.{AsksIfMissed, GoesToMemory, TakesBlockStep}
use Rattle.iom_world_effects.specs.Parts.{Parts}
use Rattle.iom_world_effects.specs.Requests.{AsksAccess, AsksTranslated}
use Rattle.iom_world_effects.specs.ThroughCache.{DeviceAsksThroughCache, FindsFrame, TriesCache, cached_frame}

pub same_frames : (old new : Parts) → new ≡ old → frames_of new.iommu ≡ frames_of old.iommu
same_frames old new same = ap (λ (p : Parts). frames_of p.iommu) same

answered : (Served : Result Translation WalkFault → Translations → Type 0) (transaction : Transaction) (memory memory' : List (List ℕ)) (old new : Iommu) (id : ℕ) (access : Access) (given : Reply)
    → Answers Served transaction memory old id access given memory' new → frames_of new ≡ frames_of old
answered Served transaction memory memory' old new id access reply.BadSpan answers = ap frames_of answers.1
answered Served transaction memory memory' old new id access reply.Busy answers = ap frames_of answers.2
answered Served transaction memory memory' old new id access (reply.Accepted number) answers = ap (λ parts. parts.frames) answers.0.rest
answered Served transaction memory memory' old new id access (reply.Fault cause) refuses = ap (λ parts. parts.frames) refuses.rest

asked : (can : DeviceKind → Bool) (old new : Parts) (id : ℕ) (access : Access) (given : Outcome) → AsksAccess can old id access given new → frames_of new.iommu ≡ frames_of old.iommu
asked can old new id access given (inl unknown) = same_frames old new unknown.same
asked can old new id access given (inr (inl unable)) = same_frames old new unable.same
asked can old new id access given (inr (inr (able, replied))) = answered _ _ old.memory new.memory old.iommu new.iommu id access replied.reply replied.call

pub translated_frames : (old new : Parts) (id : ℕ) (access : Access) (given : Outcome) → AsksTranslated old id access given new → frames_of new.iommu ≡ frames_of old.iommu
translated_frames old new id access given (inl unknown) = same_frames old new unknown.same
translated_frames old new id access given (inr (inl unable)) = same_frames old new unable.same
translated_frames old new id access given (inr (inr (able, replied))) = answered _ _ old.memory new.memory old.iommu new.iommu id access replied.reply replied.call

found : (frame : Option ℕ) (old new : Parts) (id : ℕ) (access : Access) (given : Outcome) → FindsFrame frame old id access given new → frames_of new.iommu ≡ frames_of old.iommu
found None old new id access given finds = same_frames old new finds.1
found (Some frame) old new id access given replied = answered _ _ old.memory new.memory old.iommu new.iommu id (at_frame frame access) replied.reply replied.call

tried : (old new : Parts) (id : ℕ) (access : Access) (given : Outcome) → TriesCache old id access given new → frames_of new.iommu ≡ frames_of old.iommu
tried old new id access given (inl bad) = same_frames old new bad.2
tried old new id access given (inr (inl full)) = same_frames old new full.3
tried old new id access given (inr (inr finds)) = found (cached_frame old id access) old new id access given finds.2

pub cached_frames : (can : DeviceKind → Bool) (old new : Parts) (id : ℕ) (access : Access) (given : Outcome) → DeviceAsksThroughCache can old id access given new → frames_of new.iommu ≡ frames_of old.iommu
cached_frames can old new id access given (inl unknown) = same_frames old new unknown.same
cached_frames can old new id access given (inr (inl unable)) = same_frames old new unable.same
cached_frames can old new id access given (inr (inr (able, tries))) = tried old new id access given tries

missed : (first : Outcome) (mid new : Parts) (id : ℕ) (access : Access) (given : Outcome) → AsksIfMissed first mid id access given new → frames_of new.iommu ≡ frames_of mid.iommu
missed outcome.Miss mid new id access given asks = ap (λ (p : Parts). frames_of p.iommu) asks.1
missed first mid new id access given asks = same_frames mid new asks.1

to_memory : (has_cache : Bool) (old new : Parts) (id : ℕ) (access : Access) (given : Outcome) → GoesToMemory has_cache old id access given new → frames_of new.iommu ≡ frames_of old.iommu
to_memory false old new id access given asks = asked is_block_device old new id access given asks
to_memory true old new id access given goes =
    missed goes.first goes.between new id access given goes.asks ∙ cached_frames is_block_device old goes.between id access goes.first goes.tries

pub step_frames : (old new : Parts) (id : ℕ) (given : Outcome) → TakesBlockStep old id given new → frames_of new.iommu ≡ frames_of old.iommu
step_frames old new id given (inl wants) = to_memory (caches_translations (kind_in old.devices id)) old new id wants.0 given wants.3
step_frames old new id given (inr (step, is, inl unknown)) = same_frames old new unknown.same
step_frames old new id given (inr (step, is, inr (inl unable))) = same_frames old new unable.same
step_frames old new id given (inr (step, is, inr (inr rests))) = same_frames old new rests.2
