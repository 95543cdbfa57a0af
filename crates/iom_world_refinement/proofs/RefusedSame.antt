-- A refusal changes nothing, whatever the event.
use Rattle.std.proofs.Common.{◌≡◌, ◌⊎◌, ◌∙◌, inl, inr, ℕ, Bool, true, false, List, Option, Some, None, sym, subst, if◌then◌else◌}
use Rattle.arrayvec.specs.ArrayVec.{ArrayVec}
use Rattle.iom_base.specs.declared.access.Access.{Access}
use Rattle.iom_base.specs.declared.access.AccessKind.{AccessKind}
use Rattle.iom_base.specs.declared.access.AccessKind.TheVariants.{Read, Write}
use Rattle.iom_base.specs.Accesses.{read_of, write_of}
use Rattle.iom_inflight.specs.declared.made.MadeAt.{MadeAt}
use Rattle.iom_iommu.specs.declared.reply.Reply.{Reply}
use Rattle.iom_iommu.specs.declared.reply.Reply.TheVariants.{Accepted, Busy, BadSpan, Fault}
use Rattle.iom_base.specs.declared.refusal.Refusal.{Refusal}
use Rattle.iom_machine.specs.declared.event.Event.{Event}
use Rattle.iom_machine.specs.declared.event.Event.TheVariants as events
use Rattle.iom_machine.specs.declared.outcome.BlockStep.{BlockStep}
use Rattle.iom_machine.specs.declared.outcome.BlockStep.TheVariants.{Asked}
use Rattle.iom_machine.specs.declared.outcome.Outcome.{Outcome}
use Rattle.iom_machine.specs.declared.outcome.Outcome.TheVariants as outcome
use Rattle.iom_world_effects.specs.Commits.{CommitsAccess, TellsMade, TellsKind}
use Rattle.iom_world_effects.specs.Effect.{Effect}
use Rattle.iom_world_effects.specs.Unchanged.{AreSame, SameIfRefused}
use Rattle.iom_world_effects.specs.Parts.{Parts}
use Rattle.iom_world_effects.specs.Processor.{PokesBytes, StoresIfAny}
use Rattle.iom_fabric.specs.declared.message.Message.TheVariants as sent
use Rattle.iom_iommu.specs.Requests.{AnswersRequest}
use Rattle.iom_iommu.specs.Translated.{AnswersTranslated}
use Rattle.iom_base.specs.declared.device_kind.DeviceKind.{DeviceKind}
use Rattle.iom_base.specs.DeviceKinds.{sends_untranslated, sends_through_cache, forges, asks_questions, is_block_device}
use Rattle.iom_virtqueue.specs.declared.layout.Layout.{Layout}
use Rattle.iom_virtqueue.specs.Layouts.{layout_of}
use Rattle.iom_coherence.specs.Attachments.{caches_translations}
use Rattle.iom_world_effects.specs.BlockDevices.{InsertsMedium, SetsBlockQueue, AsksIfMissed, GoesToMemory, TakesBlockStep, TellsBlockStatus}
use Rattle.iom_device.specs.Caches.{IsAble, epoch_in, kind_in}
use Rattle.iom_iommu.specs.OwnIommu.{Iommu}
use Rattle.iom_world_effects.specs.Requests.{AsksAccess, AsksTranslated, IsReplied, outcome_of_reply}
use Rattle.iom_world_effects.specs.ThroughCache.{DeviceAsksThroughCache, TriesCache, FindsFrame, cached_frame}
use Rattle.iom_world_effects.specs.Recovery.{TimesOutFence}
use Rattle.iom_world_effects.specs.Unable.{IsUnknown, IsUnable}
use Rattle.iom_world_effects.proofs.CallRefused.{same_of, same_parts, plug_refused, attach_refused, grant_refused, release_refused, detach_refused, fetch_refused, poll_refused}
use Rattle.iom_world_refinement.proofs.DeliverStep.{delivered_refused}
use Rattle.iom_world_refinement.proofs.MessageSteps.{sends_refused, dropped_refused, repeated_refused}
use Rattle.iom_world_refinement.proofs.QuarantineStep.{quarantine_refused}
use Rattle.iom_world_invariant.proofs.ReportKeeps.{taken_refused}
use Rattle.iom_world_invariant.proofs.ResetKeeps.{reset_refused}
use Rattle.iom_world_refinement.proofs.RestartStep.{restart_refused}
use Rattle.iom_world_refinement.proofs.RevivalStep.{revival_refused}

-- a reply isn't told as refused
never_answered : (reply : Reply) (given : Outcome) (why : Refusal) → given ≡ outcome_of_reply reply → given ≡ outcome.Refused why → ⊥
never_answered (Accepted number) given why is refused = cc
never_answered Busy given why is refused = cc
never_answered BadSpan given why is refused = cc
never_answered (Fault cause) given why is refused = cc

abbrev RepliesIfAble : (DeviceKind → Bool) → (Reply → List (List ℕ) → Iommu → Type 0) → Parts → ℕ → Outcome → Parts → Type 0
RepliesIfAble can Call old id given new = IsUnknown old id given new ⊎ IsUnable can old id given new ⊎ (IsAble can old.devices id × IsReplied Call old given new)

replied_refused : (can : DeviceKind → Bool) (Call : Reply → List (List ℕ) → Iommu → Type 0) (old new : Parts) (id : ℕ) (given : Outcome) → RepliesIfAble can Call old id given new → SameIfRefused given old new
replied_refused can Call old new id given asks why refused = elim asks [
  | inl unknown ↦ same_parts old new unknown.same
  | inr (inl unable) ↦ same_parts old new unable.same
  | inr (inr answered) ↦ absurd (never_answered answered.1.reply given why answered.1.reply_is refused)
]

asked_refused : (can : DeviceKind → Bool) (old new : Parts) (id : ℕ) (access : Access) (given : Outcome) → AsksAccess can old id access given new → SameIfRefused given old new
asked_refused can old new id access given asks = replied_refused can (AnswersRequest old.memory old.iommu id access) old new id given asks

translated_refused : (old new : Parts) (id : ℕ) (access : Access) (given : Outcome) → AsksTranslated old id access given new → SameIfRefused given old new
translated_refused old new id access given asks = replied_refused forges (AnswersTranslated old.memory old.iommu id access) old new id given asks

-- nor is an access through a cache, but where the device can't have one
not_missed : (given : Outcome) (why : Refusal) → given ≡ outcome.Miss → given ≡ outcome.Refused why → ⊥
not_missed given why is refused = cc

not_far : (given : Outcome) (why : Refusal) → given ≡ outcome.BadSpan → given ≡ outcome.Refused why → ⊥
not_far given why is refused = cc

not_busy : (given : Outcome) (why : Refusal) → given ≡ outcome.Busy → given ≡ outcome.Refused why → ⊥
not_busy given why is refused = cc

found_refused : (found : Option ℕ) (old new : Parts) (id : ℕ) (access : Access) (given : Outcome) (why : Refusal) → FindsFrame found old id access given new → given ≡ outcome.Refused why → ⊥
found_refused None old new id access given why finds refused = not_missed given why finds.0 refused
found_refused (Some frame) old new id access given why replied refused = never_answered replied.reply given why replied.reply_is refused

tries_refused : (old new : Parts) (id : ℕ) (access : Access) (given : Outcome) (why : Refusal) → TriesCache old id access given new → given ≡ outcome.Refused why → ⊥
tries_refused old new id access given why (inl far) refused = not_far given why far.1 refused
tries_refused old new id access given why (inr (inl full)) refused = not_busy given why full.2 refused
tries_refused old new id access given why (inr (inr finds)) refused = found_refused (cached_frame old id access) old new id access given why finds.2 refused

through_cache_refused : (can : DeviceKind → Bool) (old new : Parts) (id : ℕ) (access : Access) (given : Outcome) → DeviceAsksThroughCache can old id access given new → SameIfRefused given old new
through_cache_refused can old new id access given (inl unknown) why refused = same_parts old new unknown.same
through_cache_refused can old new id access given (inr (inl unable)) why refused = same_parts old new unable.same
through_cache_refused can old new id access given (inr (inr tried)) why refused = absurd (tries_refused old new id access given why tried.1 refused)

-- nor is what is told of an access that was made
not_a_read : (given : Outcome) (held : ArrayVec ℕ) (why : Refusal) → given ≡ outcome.Read held → given ≡ outcome.Refused why → ⊥
not_a_read given held why is other = cc

not_a_write : (given : Outcome) (len : ℕ) (why : Refusal) → given ≡ outcome.Wrote len → given ≡ outcome.Refused why → ⊥
not_a_write given len why is other = cc

not_nothing : (given : Outcome) (why : Refusal) → given ≡ outcome.NothingInFlight → given ≡ outcome.Refused why → ⊥
not_nothing given why is other = cc

never_made : (memory : List (List ℕ)) (made : Option MadeAt) (given : Outcome) (why : Refusal) → TellsMade memory made given → given ≡ outcome.Refused why → ⊥
never_made memory None given why tells refused = not_nothing given why tells refused
never_made memory (Some made) given why tells refused = by made.kind tells
  where
    by : (kind : AccessKind) → TellsKind memory made kind given → ⊥
    by Read gives = not_a_read given gives.reply_is.0 why gives.reply_is.1 refused
    by Write is = not_a_write given made.len why is refused

pub committed_refused : (old new : Parts) (id : ℕ) (given : Outcome) → CommitsAccess old id given new → SameIfRefused given old new
committed_refused old new id given commits why refused = elim commits [
  | inl unknown ↦ same_parts old new unknown.same
  | inr makes ↦ absurd (never_made old.memory makes.made given why makes.reply_is refused)
]

pub poked_refused : (old new : Parts) (address : ℕ) (bytes : List ℕ) (given : Outcome) → PokesBytes old address bytes given new → SameIfRefused given old new
poked_refused old new address bytes given pokes why refused =
    let same = subst (λ t. StoresIfAny old address bytes t new.memory) refused pokes.memory in
    same_of old new same.2 pokes.iommu pokes.devices pokes.fabric pokes.driver

-- a timeout is never refused
timeout_refused : (old new : Parts) (given : Outcome) → TimesOutFence old given new → SameIfRefused given old new
timeout_refused old new given effect why is = absurd (never effect.answer (sym effect.reply_is ∙ is))
  where
    never : (answer : Bool) → (if answer then outcome.TimedOut else outcome.NoEffect) ≡ outcome.Refused why → ⊥
    never true same = cc
    never false same = cc

-- what block devices do is refused only where nothing is done
not_done : (given : Outcome) (why : Refusal) → given ≡ outcome.Done → given ≡ outcome.Refused why → ⊥
not_done given why is refused = cc

not_stepped : (given : Outcome) (step : BlockStep) (why : Refusal) → given ≡ outcome.Stepped step → given ≡ outcome.Refused why → ⊥
not_stepped given step why is refused = cc

medium_refused : (disks : List ℕ) (old new : Parts) (id disk : ℕ) (given : Outcome) → InsertsMedium disks old id disk given new → SameIfRefused given old new
medium_refused disks old new id disk given (inl unknown) why refused = same_parts old new unknown.same
medium_refused disks old new id disk given (inr (inl unable)) why refused = same_parts old new unable.same
medium_refused disks old new id disk given (inr (inr (device, is, inl puts))) why refused = absurd (not_done given why puts.1 refused)
medium_refused disks old new id disk given (inr (inr (device, is, inr refuses))) why refused = same_parts old new refuses.2

queue_refused : (old new : Parts) (id : ℕ) (layout : Layout) (given : Outcome) → SetsBlockQueue old id layout given new → SameIfRefused given old new
queue_refused old new id layout given (inl unknown) why refused = same_parts old new unknown.same
queue_refused old new id layout given (inr (inl unable)) why refused = same_parts old new unable.same
queue_refused old new id layout given (inr (inr (able, inl sets))) why refused = absurd (not_done given why sets.1 refused)
queue_refused old new id layout given (inr (inr (able, inr refuses))) why refused = same_parts old new refuses.2

-- an access that is refused leaves the parts, and isn't told as a miss
missed_refused : (first : Outcome) (old between new : Parts) (id : ℕ) (access : Access) (given : Outcome) → AsksIfMissed first between id access given new → SameIfRefused first old between
    → SameIfRefused given old new
missed_refused outcome.Miss old between new id access given asks same why refused = absurd (not_stepped given Asked why asks.0 refused)
missed_refused _ old between new id access given asks same why refused = subst (λ (parts : Parts). AreSame old parts) (sym asks.1) (same why (sym asks.0 ∙ refused))

begins_refused : (has_cache : Bool) (old new : Parts) (id : ℕ) (access : Access) (given : Outcome) → GoesToMemory has_cache old id access given new → SameIfRefused given old new
begins_refused false old new id access given asks = asked_refused is_block_device old new id access given asks
begins_refused true old new id access given goes =
    missed_refused goes.first old goes.between new id access given goes.asks (through_cache_refused is_block_device old goes.between id access goes.first goes.tries)

step_refused : (old new : Parts) (id : ℕ) (given : Outcome) → TakesBlockStep old id given new → SameIfRefused given old new
step_refused old new id given (inl (access, fits, may, begins)) why refused = begins_refused (caches_translations (kind_in old.devices id)) old new id access given begins why refused
step_refused old new id given (inr (step, rest, inl unknown)) why refused = same_parts old new unknown.same
step_refused old new id given (inr (step, rest, inr (inl unable))) why refused = same_parts old new unable.same
step_refused old new id given (inr (step, rest, inr (inr (able, is, same)))) why refused = same_parts old new same

status_refused : (old new : Parts) (id status : ℕ) (given : Outcome) → TellsBlockStatus old id status given new → SameIfRefused given old new
status_refused old new id status given (inl unknown) why refused = same_parts old new unknown.same
status_refused old new id status given (inr (inl unable)) why refused = same_parts old new unable.same
status_refused old new id status given (inr (inr (able, is, same))) why refused = same_parts old new same

-- EACH EVENT
pub refused_same : (disks : List ℕ) (old new : Parts) (event : Event) (given : Outcome) → Effect disks old event given new → SameIfRefused given old new
refused_same disks old new (events.Plug id what) given effect = plug_refused disks old new id what given effect
refused_same disks old new (events.Attach id mode ats) given effect = attach_refused old new id mode ats given effect
refused_same disks old new (events.Grant id page frame rights) given effect = grant_refused old new id page frame rights given effect
refused_same disks old new (events.Release id page) given effect = release_refused old new id page given effect
refused_same disks old new (events.Detach id) given effect = detach_refused old new id given effect
refused_same disks old new (events.Quarantine id) given effect = quarantine_refused old new id given effect
refused_same disks old new (events.Revive id) given effect = revival_refused old new id given effect
refused_same disks old new events.Restart given effect = restart_refused old new given effect
refused_same disks old new events.Timeout given effect = timeout_refused old new given effect
refused_same disks old new (events.Reset id) given effect = reset_refused old new id given effect
refused_same disks old new events.Fetch given effect = fetch_refused old new given effect
refused_same disks old new events.Poll given effect = poll_refused old new given effect
refused_same disks old new events.Faults given effect = taken_refused old new given effect
refused_same disks old new (events.Read id address len) given effect = asked_refused sends_untranslated old new id (read_of address len) given effect
refused_same disks old new (events.Write id address bytes) given effect = asked_refused sends_untranslated old new id (write_of address bytes) given effect
refused_same disks old new (events.Commit id) given effect = committed_refused old new id given effect
refused_same disks old new (events.Poke address bytes) given effect = poked_refused old new address bytes given effect
refused_same disks old new (events.Peek address len) given effect = λ why refused. same_parts old new effect.1
refused_same disks old new (events.Free frame) given effect = λ why refused. same_parts old new effect.1
refused_same disks old new (events.ReadTranslated id address len) given effect = translated_refused old new id (read_of address len) given effect
refused_same disks old new (events.WriteTranslated id address bytes) given effect = translated_refused old new id (write_of address bytes) given effect
refused_same disks old new (events.ReadThroughCache id address len) given effect = through_cache_refused sends_through_cache old new id (read_of address len) given effect
refused_same disks old new (events.WriteThroughCache id address bytes) given effect = through_cache_refused sends_through_cache old new id (write_of address bytes) given effect
refused_same disks old new (events.Ask id page) given effect = sends_refused asks_questions old new id (sent.Ask (epoch_in old.devices id) page) given effect
refused_same disks old new (events.Forge id serial) given effect = sends_refused forges old new id (sent.InvDone serial) given effect
refused_same disks old new (events.Deliver place) given effect = delivered_refused old new place given effect
refused_same disks old new (events.Drop place) given effect = dropped_refused old new place given effect
refused_same disks old new (events.Repeat place) given effect = repeated_refused old new place given effect
refused_same disks old new (events.Medium id disk) given effect = medium_refused disks old new id disk given effect
refused_same disks old new (events.Queue id size descriptors available used) given effect = queue_refused old new id (layout_of size descriptors available used) given effect
refused_same disks old new (events.Step id) given effect = step_refused old new id given effect
refused_same disks old new (events.Status id) given effect = status_refused old new id effect.0 given effect.1
