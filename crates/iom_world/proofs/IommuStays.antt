-- What each event leaves of the IOMMU: the accesses in flight, and for how many frames it is.
use Rattle.std.proofs.Common.{◌≡◌, ◌∙◌, ◌+◌, inl, inr, ℕ, Bool, true, false, List, [], ◌∷◌, length, Option, Some, None, Result, Ok, Err, slice_get, remove, refl, ap}
use Rattle.iom_base.specs.declared.access.Access.{Access}
use Rattle.iom_base.specs.Accesses.{at_frame, read_of, write_of}
use Rattle.iom_base.specs.DeviceKinds.{is_block_device}
use Rattle.iom_base.specs.declared.device_kind.DeviceKind.{DeviceKind}
use Rattle.iom_base.specs.Modes.{size_in}
use Rattle.iom_base.specs.declared.refusal.Refusal.{Refusal}
use Rattle.iom_command_queue.specs.declared.command.Command.{Command}
use Rattle.iom_command_queue.specs.declared.entry.QueueEntry.{QueueEntry}
use Rattle.iom_command_queue.specs.declared.entry.QueueEntry.TheVariants as stands
use Rattle.iom_coherence.specs.Attachments.{caches_translations}
use Rattle.iom_device.specs.Caches.{kind_in}
use Rattle.iom_directory_build.specs.Pages.{root_level}
use Rattle.iom_directory_build.specs.Written.{without_context}
use Rattle.iom_driver.specs.declared.answers.Ticket.{Ticket}
use Rattle.iom_driver.specs.Appends.{AppendsAll, detach_commands, release_commands}
use Rattle.iom_driver.specs.Calls.{AnswersRelease}
use Rattle.iom_driver.specs.Fences.{last_fence}
use Rattle.iom_driver.specs.Layout.{completion_address, directory_frame}
use Rattle.iom_driver.specs.Leaving.{DetachEffect}
use Rattle.iom_driver.specs.Quarantines.{AnswersQuarantine, all_unmapped}
use Rattle.iom_driver.specs.Reports.{AnswersFaults}
use Rattle.iom_driver.specs.Restarts.{AnswersRestart, restart_commands, turned_off_and_on}
use Rattle.iom_driver.specs.State.{DriverState}
use Rattle.iom_fabric.specs.declared.fabric.OnLink.{OnLink}
use Rattle.iom_fabric.specs.declared.message.Message.{Message}
use Rattle.iom_fabric.specs.declared.message.Message.TheVariants as sent
use Rattle.iom_fabric.specs.declared.message.Translation.{Translation}
use Rattle.iom_fabric.specs.declared.message.Translation.TheVariants as translation
use Rattle.iom_fault_queue.specs.Fields.{Fields}
use Rattle.iom_fault_queue.specs.declared.transaction.Transaction.{Transaction}
use Rattle.iom_iommu.specs.declared.fetched.Fetched.{Fetched}
use Rattle.iom_iommu.specs.declared.fetched.Fetched.TheVariants.{Did, Waiting, Empty, Stopped}
use Rattle.iom_iommu.specs.declared.reply.Reply.{Reply}
use Rattle.iom_iommu.specs.declared.reply.Reply.TheVariants as reply
use Rattle.iom_iommu.specs.Effects.{FetchesByAnswer, StopsAtEntry, StopsFetching}
use Rattle.iom_iommu.specs.Fetches.{head_entry}
use Rattle.iom_iommu.specs.OwnIommu.{Iommu}
use Rattle.iom_inflight.specs.Flights.{Flights}
use Rattle.iom_iommu.specs.Parts.{flights_of, frames_of, mmio, registers_of}
use Rattle.iom_iommu.specs.Questions.{AnswersQuestion}
use Rattle.iom_iommu.specs.Requests.{Answers}
use Rattle.iom_iommu.specs.Timeouts.{TimesFenceOut}
use Rattle.iom_iommu.proofs.ByAnswer.{by_answer}
use Rattle.iom_machine.specs.declared.event.Event.{Event}
use Rattle.iom_machine.specs.declared.event.Event.TheVariants as events
use Rattle.iom_machine.specs.declared.outcome.Outcome.{Outcome}
use Rattle.iom_machine.specs.declared.outcome.Outcome.TheVariants as outcome
use Rattle.iom_page_table.specs.FirstTables.{unmapped}
use Rattle.iom_registers.specs.Queues.{is_processing_commands}
use Rattle.iom_stage_walk.specs.declared.walked.WalkFault.{WalkFault}
use Rattle.iom_tlb.specs.Content.{Translations}
use Rattle.iom_tlb.specs.declared.trans_cache.Translation.{Translation as Cached}
use Rattle.iom_world_effects.specs.BlockDevices.{AsksIfMissed, BeginsAccess, GoesToMemory, InsertsMedium, TakesBlockStep}
use Rattle.iom_world_effects.specs.Deliveries.{Arrives, ArrivesIfAny}
use Rattle.iom_world_effects.specs.Effect.{AddsRow, Effect}
use Rattle.iom_world_effects.specs.Parts.{Parts}
use Rattle.iom_world_effects.specs.Requests.{AsksAccess, AsksTranslated}
use Rattle.iom_world_effects.specs.ThroughCache.{DeviceAsksThroughCache, FindsFrame, TriesCache, cached_frame}

-- what stays
abbrev pub kept : Iommu → Flights × ℕ
kept iommu = (flights_of iommu, frames_of iommu)

pub both : (old new : Iommu) → flights_of new ≡ flights_of old → frames_of new ≡ frames_of old → kept new ≡ kept old
both old new flights frames = ap (λ f. (f, frames_of new)) flights ∙ ap (λ n. (flights_of old, n)) frames

parts_kept : (old new : Parts) → new ≡ old → kept new.iommu ≡ kept old.iommu
parts_kept old new same = ap (λ (p : Parts). kept p.iommu) same

-- COMMANDS that are appended write registers alone
kept_appended : (commands : List Command) (memory memory' : List (List ℕ)) (io io' : Iommu) → AppendsAll mmio memory io commands memory' io' → kept io' ≡ kept io
kept_appended [] memory memory' io io' all = ap kept all.1
kept_appended (command ∷ later) memory memory' io io' (mid, between, first, rest) =
    kept_appended later mid memory' between io' rest ∙ ap (λ (i : Iommu). kept i) first.rung

released : (d d' : DriverState) (memory memory' : List (List ℕ)) (io io' : Iommu) (id page : ℕ) (answer : Result Ticket Refusal)
    → AnswersRelease mmio d memory io id page answer d' memory' io' → kept io' ≡ kept io
released d d' memory memory' io io' id page (Ok ticket) (none, queues) =
    kept_appended (release_commands id queues.stage page (completion_address (length memory)) (last_fence d + 1)) (unmapped (size_in queues.stage.mode) memory queues.stage.root page) memory' io io'
    queues.queued
released d d' memory memory' io io' id page (Err why) refused = ap kept refused.3

detached : (d d' : DriverState) (memory memory' : List (List ℕ)) (io io' : Iommu) (id : ℕ) (answer : Result Ticket Refusal)
    → DetachEffect mmio d memory io id answer d' memory' io' → kept io' ≡ kept io
detached d d' memory memory' io io' id (Ok ticket) queues =
    kept_appended (detach_commands id queues.stage (completion_address (length memory)) (last_fence d + 1))
    (without_context memory (root_level d.levels) (directory_frame (length memory)) id) memory' io io' queues.queued
detached d d' memory memory' io io' id (Err why) same = ap kept same.2

quarantined : (d d' : DriverState) (memory memory' : List (List ℕ)) (io io' : Iommu) (id : ℕ) (answer : Result Ticket Refusal)
    → AnswersQuarantine mmio d memory io id answer d' memory' io' → kept io' ≡ kept io
quarantined d d' memory memory' io io' id (Ok ticket) (none, queues) =
    kept_appended (detach_commands id queues.stage (completion_address (length memory)) (last_fence d + 1))
    (all_unmapped (size_in queues.stage.mode) (without_context memory (root_level d.levels) (directory_frame (length memory)) id) queues.stage.root queues.pages) memory' io io' queues.queued
quarantined d d' memory memory' io io' id (Err why) refused = ap kept refused.3

restarted : (d d' : DriverState) (memory memory' : List (List ℕ)) (io io' : Iommu) (answer : Result (Unit {0}) Refusal)
    → AnswersRestart mmio d memory io answer d' memory' io' → kept io' ≡ kept io
restarted d d' memory memory' io io' (Ok done) (none, queues) =
    kept_appended (restart_commands d.devices (completion_address (length memory)) (last_fence d + 1)) memory memory' (turned_off_and_on mmio io) io' queues.queued
restarted d d' memory memory' io io' (Err why) refused = ap kept refused.3

reported : (d : DriverState) (memory : List (List ℕ)) (io io' : Iommu) (answer : Result (Option Fields) Refusal) → AnswersFaults mmio d memory io answer io' → kept io' ≡ kept io
reported d memory io io' (Ok (Some fields)) (none, (takes, list)) = ap kept takes.1
reported d memory io io' (Ok None) (none, (empty, is)) = ap kept is
reported d memory io io' (Err why) (refused, is) = ap kept is

-- A FETCH and a timeout
stopped_at : (memory : List (List ℕ)) (entry : Option QueueEntry) (old new : Iommu) → StopsAtEntry memory entry old new → kept new ≡ kept old
stopped_at memory None old new stops = absurd stops
stopped_at memory (Some stands.Outside) old new is = ap kept is
stopped_at memory (Some (stands.Illegal reason)) old new is = ap kept is
stopped_at memory (Some (stands.Command command)) old new stops = ap kept stops.2

stopped : (processing : Bool) (memory : List (List ℕ)) (old new : Iommu) → StopsFetching processing memory old new → kept new ≡ kept old
stopped false memory old new same = ap kept same
stopped true memory old new stops = stopped_at memory (head_entry memory (registers_of old)) old new stops

fetched : (memory memory' : List (List ℕ)) (old new : Iommu) (answer : Fetched) → FetchesByAnswer memory old answer memory' new → kept new ≡ kept old
fetched memory memory' old new (Did command) fetches = both old new fetches.5.flights fetches.5.frames
fetched memory memory' old new Waiting fetches = ap kept fetches.3
fetched memory memory' old new Empty fetches = ap kept fetches.3
fetched memory memory' old new Stopped fetches = stopped (is_processing_commands (registers_of old)) memory old new fetches.0

timed_out : (old new : Iommu) (answer : Bool) → TimesFenceOut old answer new → kept new ≡ kept old
timed_out old new true call = ap kept call.1
timed_out old new false call = ap kept call.1

-- A MESSAGE arrives
question : (old new : Parts) (device page : ℕ) (answer : Translation) → AnswersQuestion old.memory old.iommu device page answer new.memory new.iommu → kept new.iommu ≡ kept old.iommu
question old new device page (translation.Page frame rights) answers = ap (λ parts. (parts.flights, parts.frames)) answers.0.rest
question old new device page (translation.Refused cause) refuses = ap (λ parts. (parts.flights, parts.frames)) refuses.rest

arrived : (message : Message) (old new : Parts) (device : ℕ) (others : List OnLink) (given : Outcome) → Arrives message old device others given new → kept new.iommu ≡ kept old.iommu
arrived (sent.Ask epoch page) old new device others given answers = question old new device page answers.answer answers.call
arrived (sent.Answer epoch page answer) old new device others given takes = ap (λ (p : Parts). kept p.iommu) takes.rest
arrived (sent.InvReq serial range) old new device others given obeys = ap (λ (p : Parts). kept p.iommu) obeys.rest
arrived (sent.InvDone serial) old new device others given hears = ap kept hears.call.left

delivered : (on : Option OnLink) (old new : Parts) (others : List OnLink) (given : Outcome) → ArrivesIfAny on old others given new → kept new.iommu ≡ kept old.iommu
delivered None old new others given none = parts_kept old new none.1
delivered (Some on) old new others given arrives = arrived on.message old new on.device others given arrives

-- a disk is put in
inserted : (disks : List ℕ) (old new : Parts) (id disk : ℕ) (given : Outcome) → InsertsMedium disks old id disk given new → kept new.iommu ≡ kept old.iommu
inserted disks old new id disk given (inl unknown) = parts_kept old new unknown.same
inserted disks old new id disk given (inr (inl unable)) = parts_kept old new unable.same
inserted disks old new id disk given (inr (inr (device, is, inl puts))) = ap (λ (p : Parts). kept p.iommu) puts.2
inserted disks old new id disk given (inr (inr (device, is, inr refused))) = parts_kept old new refused.2

-- EACH OF THESE EVENTS leaves the accesses in flight
abbrev pub LeavesFlights : Event → Type 0
LeavesFlights (events.Plug id what) = ⊥
LeavesFlights (events.Commit id) = ⊥
LeavesFlights (events.Read id address len) = ⊥
LeavesFlights (events.Write id address bytes) = ⊥
LeavesFlights (events.ReadTranslated id address len) = ⊥
LeavesFlights (events.WriteTranslated id address bytes) = ⊥
LeavesFlights (events.ReadThroughCache id address len) = ⊥
LeavesFlights (events.WriteThroughCache id address bytes) = ⊥
LeavesFlights (events.Step id) = ⊥
LeavesFlights event = Unit {0}

pub flights_left : (disks : List ℕ) (old new : Parts) (event : Event) (given : Outcome) → LeavesFlights event → Effect disks old event given new → kept new.iommu ≡ kept old.iommu
flights_left disks old new (events.Medium id disk) given leaves effect = inserted disks old new id disk given effect
flights_left disks old new (events.Attach id mode ats) given leaves effect = ap kept effect.iommu
flights_left disks old new (events.Grant id page frame rights) given leaves effect = ap kept effect.iommu
flights_left disks old new (events.Release id page) given leaves effect = released old.driver new.driver old.memory new.memory old.iommu new.iommu id page effect.answer effect.call
flights_left disks old new (events.Detach id) given leaves effect = detached old.driver new.driver old.memory new.memory old.iommu new.iommu id effect.answer effect.call.effect
flights_left disks old new (events.Quarantine id) given leaves effect = quarantined old.driver new.driver old.memory new.memory old.iommu new.iommu id effect.answer effect.call
flights_left disks old new (events.Revive id) given leaves effect = ap kept effect.iommu
flights_left disks old new events.Restart given leaves effect = restarted old.driver new.driver old.memory new.memory old.iommu new.iommu effect.answer effect.call
flights_left disks old new events.Fetch given leaves effect =
    fetched old.memory new.memory old.iommu new.iommu effect.answer (by_answer old.memory new.memory old.iommu new.iommu effect.answer effect.call)
flights_left disks old new events.Timeout given leaves effect = timed_out old.iommu new.iommu effect.answer effect.call
flights_left disks old new events.Poll given leaves effect = ap kept effect.iommu
flights_left disks old new events.Faults given leaves effect = reported old.driver old.memory old.iommu new.iommu effect.answer effect.call
flights_left disks old new (events.Ask id page) given leaves (inl unknown) = parts_kept old new unknown.same
flights_left disks old new (events.Ask id page) given leaves (inr (inl unable)) = parts_kept old new unable.same
flights_left disks old new (events.Ask id page) given leaves (inr (inr sends)) = ap (λ (p : Parts). kept p.iommu) sends.1.sent
flights_left disks old new (events.Forge id serial) given leaves (inl unknown) = parts_kept old new unknown.same
flights_left disks old new (events.Forge id serial) given leaves (inr (inl unable)) = parts_kept old new unable.same
flights_left disks old new (events.Forge id serial) given leaves (inr (inr sends)) = ap (λ (p : Parts). kept p.iommu) sends.1.sent
flights_left disks old new (events.Deliver place) given leaves effect = delivered (slice_get old.fabric place) old new (remove old.fabric place) given effect
flights_left disks old new (events.Drop place) given leaves effect = ap (λ (p : Parts). kept p.iommu) effect.dropped
flights_left disks old new (events.Repeat place) given leaves effect = ap (λ (p : Parts). kept p.iommu) effect.repeated
flights_left disks old new (events.Reset id) given leaves (inl unknown) = parts_kept old new unknown.same
flights_left disks old new (events.Reset id) given leaves (inr resets) = ap (λ (p : Parts). kept p.iommu) resets.2
flights_left disks old new (events.Queue id size descriptors available used) given leaves (inl unknown) = parts_kept old new unknown.same
flights_left disks old new (events.Queue id size descriptors available used) given leaves (inr (inl unable)) = parts_kept old new unable.same
flights_left disks old new (events.Queue id size descriptors available used) given leaves (inr (inr (able, inl sets))) = ap (λ (p : Parts). kept p.iommu) sets.2
flights_left disks old new (events.Queue id size descriptors available used) given leaves (inr (inr (able, inr refused))) = parts_kept old new refused.2
flights_left disks old new (events.Status id) given leaves (status, inl unknown) = parts_kept old new unknown.same
flights_left disks old new (events.Status id) given leaves (status, inr (inl unable)) = parts_kept old new unable.same
flights_left disks old new (events.Status id) given leaves (status, inr (inr tells)) = parts_kept old new tells.2
flights_left disks old new (events.Poke address bytes) given leaves effect = ap kept effect.iommu
flights_left disks old new (events.Peek address len) given leaves effect = parts_kept old new effect.1
flights_left disks old new (events.Free frame) given leaves effect = parts_kept old new effect.1
flights_left disks old new (events.Plug id what) given leaves effect = absurd leaves
flights_left disks old new (events.Commit id) given leaves effect = absurd leaves
flights_left disks old new (events.Read id address len) given leaves effect = absurd leaves
flights_left disks old new (events.Write id address bytes) given leaves effect = absurd leaves
flights_left disks old new (events.ReadTranslated id address len) given leaves effect = absurd leaves
flights_left disks old new (events.WriteTranslated id address bytes) given leaves effect = absurd leaves
flights_left disks old new (events.ReadThroughCache id address len) given leaves effect = absurd leaves
flights_left disks old new (events.WriteThroughCache id address bytes) given leaves effect = absurd leaves
flights_left disks old new (events.Step id) given leaves effect = absurd leaves
