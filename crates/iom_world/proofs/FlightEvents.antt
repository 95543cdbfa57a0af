-- What each event leaves of the accesses in flight: each keeps its number, but the one that a commit makes.
use Rattle.std.proofs.Common.{◌≡◌, ◌∙◌, ◌+◌, inl, inr, ℕ, Bool, true, false, List, [], ◌∷◌, length, Option, Some, None, Result, Ok, Err, slice_get, remove, ap}
use Rattle.iom_base.specs.declared.access.Access.{Access}
use Rattle.iom_base.specs.Accesses.{at_frame, read_of, write_of}
use Rattle.iom_base.specs.DeviceKinds.{is_block_device}
use Rattle.iom_base.specs.declared.device_kind.DeviceKind.{DeviceKind}
use Rattle.iom_base.specs.Modes.{size_in}
use Rattle.iom_base.specs.declared.refusal.Refusal.{Refusal}
use Rattle.iom_command_queue.specs.declared.command.Command.{Command}
use Rattle.iom_command_queue.specs.declared.entry.QueueEntry.{QueueEntry}
use Rattle.iom_command_queue.specs.declared.entry.QueueEntry.TheVariants as stands
use Rattle.iom_coherence.specs.Attachments.{caches_translations}
use Rattle.iom_device.specs.Caches.{kind_in}
use Rattle.iom_directory_build.specs.Pages.{root_level}
use Rattle.iom_directory_build.specs.Written.{without_context}
use Rattle.iom_driver.specs.declared.answers.Ticket.{Ticket}
use Rattle.iom_driver.specs.Appends.{AppendsAll, detach_commands, release_commands}
use Rattle.iom_driver.specs.Calls.{AnswersRelease}
use Rattle.iom_driver.specs.Fences.{last_fence}
use Rattle.iom_driver.specs.Layout.{completion_address, directory_frame}
use Rattle.iom_driver.specs.Leaving.{DetachEffect}
use Rattle.iom_driver.specs.Quarantines.{AnswersQuarantine, all_unmapped}
use Rattle.iom_driver.specs.Reports.{AnswersFaults}
use Rattle.iom_driver.specs.Restarts.{AnswersRestart, restart_commands, turned_off_and_on}
use Rattle.iom_driver.specs.State.{DriverState}
use Rattle.iom_fabric.specs.declared.fabric.OnLink.{OnLink}
use Rattle.iom_fabric.specs.declared.message.Message.{Message}
use Rattle.iom_fabric.specs.declared.message.Message.TheVariants as sent
use Rattle.iom_fabric.specs.declared.message.Translation.{Translation}
use Rattle.iom_fabric.specs.declared.message.Translation.TheVariants as translation
use Rattle.iom_fault_queue.specs.Fields.{Fields}
use Rattle.iom_fault_queue.specs.declared.transaction.Transaction.{Transaction}
use Rattle.iom_iommu.specs.declared.fetched.Fetched.{Fetched}
use Rattle.iom_iommu.specs.declared.fetched.Fetched.TheVariants.{Did, Waiting, Empty, Stopped}
use Rattle.iom_iommu.specs.declared.reply.Reply.{Reply}
use Rattle.iom_iommu.specs.declared.reply.Reply.TheVariants as reply
use Rattle.iom_iommu.specs.Effects.{FetchesByAnswer, StopsAtEntry, StopsFetching}
use Rattle.iom_iommu.specs.Fetches.{head_entry}
use Rattle.iom_iommu.specs.OwnIommu.{Iommu}
use Rattle.iom_iommu.specs.Parts.{flights_of, mmio, registers_of}
use Rattle.iom_iommu.specs.Questions.{AnswersQuestion}
use Rattle.iom_iommu.specs.Requests.{Answers}
use Rattle.iom_iommu.specs.Timeouts.{TimesFenceOut}
use Rattle.iom_iommu.proofs.ByAnswer.{by_answer}
use Rattle.iom_machine.specs.declared.event.Event.{Event}
use Rattle.iom_machine.specs.declared.event.Event.TheVariants as events
use Rattle.iom_machine.specs.declared.outcome.Outcome.{Outcome}
use Rattle.iom_machine.specs.declared.outcome.Outcome.TheVariants as outcome
use Rattle.iom_page_table.specs.FirstTables.{unmapped}
use Rattle.iom_registers.specs.Queues.{is_processing_commands}
use Rattle.iom_stage_walk.specs.declared.walked.WalkFault.{WalkFault}
use Rattle.iom_tlb.specs.Content.{Translations}
use Rattle.iom_tlb.specs.declared.trans_cache.Translation.{Translation as Cached}
use Rattle.iom_world_effects.specs.BlockDevices.{AsksIfMissed, BeginsAccess, GoesToMemory, InsertsMedium, TakesBlockStep}
use Rattle.iom_world_effects.specs.Deliveries.{Arrives, ArrivesIfAny}
use Rattle.iom_world_effects.specs.Effect.{AddsRow, Effect}
use Rattle.iom_world_effects.specs.Parts.{Parts}
use Rattle.iom_world_effects.specs.Requests.{AsksAccess, AsksTranslated}
use Rattle.iom_world_effects.specs.ThroughCache.{DeviceAsksThroughCache, FindsFrame, TriesCache, cached_frame}
use Rattle.iom_world.proofs.IommuStays.{flights_left}
use Rattle.iom_world.proofs.NumberLemmas.{KeepsAllNumbers, same_numbers, keeps_accepted, keeps_added}

-- between parts
abbrev pub Keeps : Parts → Parts → Type 0
Keeps old new = KeepsAllNumbers (flights_of old.iommu) (flights_of new.iommu)

same_iommu : (old new : Parts) → new.iommu ≡ old.iommu → Keeps old new
same_iommu old new same = same_numbers (flights_of old.iommu) (flights_of new.iommu) (ap flights_of same)

pub same_parts : (old new : Parts) → new ≡ old → Keeps old new
same_parts old new same = same_iommu old new (ap (λ (p : Parts). p.iommu) same)

-- A REQUEST is accepted, or nothing is
answered : (Served : Result Cached WalkFault → Translations → Type 0) (transaction : Transaction) (memory memory' : List (List ℕ)) (old new : Iommu) (id : ℕ) (access : Access) (given : Reply)
    → Answers Served transaction memory old id access given memory' new → KeepsAllNumbers (flights_of old) (flights_of new)
answered Served transaction memory memory' old new id access reply.BadSpan answers = same_numbers (flights_of old) (flights_of new) (ap flights_of answers.1)
answered Served transaction memory memory' old new id access reply.Busy answers = same_numbers (flights_of old) (flights_of new) (ap flights_of answers.2)
answered Served transaction memory memory' old new id access (reply.Accepted number) answers =
    keeps_accepted (flights_of old) (flights_of new) id (record { access = access; frame = answers.0.frame }) number answers.0.accepted
answered Served transaction memory memory' old new id access (reply.Fault cause) refuses = same_numbers (flights_of old) (flights_of new) (ap (λ parts. parts.flights) refuses.rest)

asked : (can : DeviceKind → Bool) (old new : Parts) (id : ℕ) (access : Access) (given : Outcome) → AsksAccess can old id access given new → Keeps old new
asked can old new id access given (inl unknown) = same_parts old new unknown.same
asked can old new id access given (inr (inl unable)) = same_parts old new unable.same
asked can old new id access given (inr (inr (able, replied))) = answered _ _ old.memory new.memory old.iommu new.iommu id access replied.reply replied.call

translated : (old new : Parts) (id : ℕ) (access : Access) (given : Outcome) → AsksTranslated old id access given new → Keeps old new
translated old new id access given (inl unknown) = same_parts old new unknown.same
translated old new id access given (inr (inl unable)) = same_parts old new unable.same
translated old new id access given (inr (inr (able, replied))) = answered _ _ old.memory new.memory old.iommu new.iommu id access replied.reply replied.call

found : (frame : Option ℕ) (old new : Parts) (id : ℕ) (access : Access) (given : Outcome) → FindsFrame frame old id access given new → Keeps old new
found None old new id access given finds = same_parts old new finds.1
found (Some frame) old new id access given replied = answered _ _ old.memory new.memory old.iommu new.iommu id (at_frame frame access) replied.reply replied.call

tried : (old new : Parts) (id : ℕ) (access : Access) (given : Outcome) → TriesCache old id access given new → Keeps old new
tried old new id access given (inl bad) = same_parts old new bad.2
tried old new id access given (inr (inl full)) = same_parts old new full.3
tried old new id access given (inr (inr finds)) = found (cached_frame old id access) old new id access given finds.2

through_cache : (can : DeviceKind → Bool) (old new : Parts) (id : ℕ) (access : Access) (given : Outcome) → DeviceAsksThroughCache can old id access given new → Keeps old new
through_cache can old new id access given (inl unknown) = same_parts old new unknown.same
through_cache can old new id access given (inr (inl unable)) = same_parts old new unable.same
through_cache can old new id access given (inr (inr (able, tries))) = tried old new id access given tries

-- A BLOCK DEVICE'S STEP
missed : (first : Outcome) (old mid new : Parts) (id : ℕ) (access : Access) (given : Outcome) → Keeps old mid → AsksIfMissed first mid id access given new → Keeps old new
missed outcome.Miss old mid new id access given keeps asks = λ other number own at.
    same_iommu mid new (ap (λ (p : Parts). p.iommu) asks.1) other number own (keeps other number own at)
missed first old mid new id access given keeps asks = λ other number own at. same_parts mid new asks.1 other number own (keeps other number own at)

to_memory : (has_cache : Bool) (old new : Parts) (id : ℕ) (access : Access) (given : Outcome) → GoesToMemory has_cache old id access given new → Keeps old new
to_memory false old new id access given asks = asked is_block_device old new id access given asks
to_memory true old new id access given goes =
    missed goes.first old goes.between new id access given (through_cache is_block_device old goes.between id access goes.first goes.tries) goes.asks

begun : (old new : Parts) (id : ℕ) (access : Access) (given : Outcome) → BeginsAccess old id access given new → Keeps old new
begun old new id access given begins = to_memory (caches_translations (kind_in old.devices id)) old new id access given begins

stepped : (old new : Parts) (id : ℕ) (given : Outcome) → TakesBlockStep old id given new → Keeps old new
stepped old new id given (inl wants) = begun old new id wants.0 given wants.3
stepped old new id given (inr (step, is, inl unknown)) = same_parts old new unknown.same
stepped old new id given (inr (step, is, inr (inl unable))) = same_parts old new unable.same
stepped old new id given (inr (step, is, inr (inr rests))) = same_parts old new rests.2

-- A DEVICE IS PLUGGED IN
added : (answer : Result (Unit {0}) Refusal) (old new : Iommu) (id : ℕ) → AddsRow answer old id new → KeepsAllNumbers (flights_of old) (flights_of new)
added (Ok done) old new id adds = keeps_added (flights_of old) (flights_of new) id adds.flights.2
added (Err why) old new id same = same_numbers (flights_of old) (flights_of new) (ap flights_of same)

-- THE EVENT is no commit
abbrev pub MakesNothing : Event → Type 0
MakesNothing (events.Commit id) = ⊥
MakesNothing event = Unit {0}

pub keeps_all : (disks : List ℕ) (old new : Parts) (event : Event) (given : Outcome) → MakesNothing event → Effect disks old event given new → Keeps old new
keeps_all disks old new (events.Plug id what) given none (inl lacks) = same_parts old new lacks.same
keeps_all disks old new (events.Plug id what) given none (inr plugs) = added plugs.answer old.iommu new.iommu id plugs.row
keeps_all disks old new (events.Read id address len) given none effect = asked _ old new id (read_of address len) given effect
keeps_all disks old new (events.Write id address bytes) given none effect = asked _ old new id (write_of address bytes) given effect
keeps_all disks old new (events.Commit id) given none effect = absurd none
keeps_all disks old new (events.ReadTranslated id address len) given none effect = translated old new id (read_of address len) given effect
keeps_all disks old new (events.WriteTranslated id address bytes) given none effect = translated old new id (write_of address bytes) given effect
keeps_all disks old new (events.ReadThroughCache id address len) given none effect = through_cache _ old new id (read_of address len) given effect
keeps_all disks old new (events.WriteThroughCache id address bytes) given none effect = through_cache _ old new id (write_of address bytes) given effect
keeps_all disks old new (events.Step id) given none effect = stepped old new id given effect
keeps_all disks old new event given none effect =
    same_numbers (flights_of old.iommu) (flights_of new.iommu) (ap (λ kept. kept.0) (flights_left disks old new event given tt effect))
