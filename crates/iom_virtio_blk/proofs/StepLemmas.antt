-- How the history of a disk goes on with a step of its device.
use Rattle.std.proofs.Common.{◌≡◌, ◌≢◌, ◌∙◌, ℕ, ◌==◌, ◌&&◌, inl, inr, cond, Bool, true, false, List, [], ◌∷◌, length, Option, Some, None, IsSome, refl, sym, ap, subst, arith}
use Rattle.std.proofs.lemmas.Grind.{common_steps}
use Rattle.iom_virtqueue.specs.declared.phase.Phase.{Phase}
use Rattle.iom_virtqueue.specs.declared.phase.Phase.TheVariants.{AvailableIndex, RingEntry, Table, Served, UsedElement, UsedIndex, Faulted}
use Rattle.iom_virtio_blk.specs.declared.front.Front.{Front}
use Rattle.iom_virtio_blk.specs.declared.request.Plan.TheVariants.{WriteDisk, FlushDisk, End}
use Rattle.iom_virtio_blk.specs.declared.request.RequestStatus.{RequestStatus}
use Rattle.iom_virtio_blk.specs.declared.request.RequestStatus.TheVariants.{Ok, IoError, Unsupported}
use Rattle.iom_virtqueue.specs.Queues.{QueueState, after}
use Rattle.iom_virtio_blk.specs.declared.serving.Serving.{Serving}
use Rattle.iom_virtio_blk.specs.declared.serving.Job.{Job}
use Rattle.iom_virtio_blk.specs.declared.serving.Job.TheVariants.{Header, Reading, Writing, Ending}
use Rattle.iom_virtio_blk.specs.declared.stage.Stage.{Stage}
use Rattle.iom_virtio_blk.specs.declared.stage.Stage.TheVariants.{Reset, FeaturesOk, DriverOk, NeedsReset}
use Rattle.iom_virtio_blk.specs.declared.step.Step.{Step}
use Rattle.iom_virtio_blk.specs.declared.step.Step.TheVariants.{Idle, Waiting, Down, Chain, Finished, Wants}
use Rattle.iom_virtio_blk.specs.Disks.{sector_count, IsThere}
use Rattle.iom_virtio_blk.specs.DiskStates.{DiskState}
use Rattle.iom_virtio_blk.specs.Requests.{plan_of}
use Rattle.iom_virtio_blk.specs.Serving.{unread, piece_in, piece_len, data_in, data_out, IsUnderWayIn}
use Rattle.iom_virtio_blk.specs.Blocks.{IsBetweenCalls, IsTaking, planned, request_kind, sector_in, buffer_in, serving_in, call_in, queue_in}
use Rattle.iom_virtio_blk.specs.Steps.{Device, device, Calls, settled, ServesWithDisk, TakesQueue, UsesIn, GoesOnIn, serving_from, BlockDeviceSteps}
use Rattle.iom_virtio_blk.specs.Histories.{Entry, gave, failed, inserted, IsMap, InWork, TellsDisk, recorded, recorded_in, history_after}
use Rattle.iom_virtio_blk.proofs.AccessLemmas.{IsData, data_came, piece-few}
use Rattle.iom_virtio_blk.proofs.ToldLemmas.{Goes, IsGiving, header-goes, reading-goes, data-goes}

-- an OUT is begun only where there is a disk
plan-there : (kind sector readable writable : ℕ) (disk : Option DiskState) (flush : Bool) → plan_of kind sector readable writable (sector_count disk) flush ≡ WriteDisk → IsThere disk
plan-there kind sector readable writable (Some disk) flush e = tt
plan-there kind sector readable writable None flush e = by (kind == 0) (kind == 1) (kind == 4 && flush) e where
  by : (a b c : Bool) → cond a (End IoError) (cond b (End IoError) (cond c FlushDisk (End Unsupported))) ≡ WriteDisk → IsThere None
  by true b c e = cc
  by false true c e = cc
  by false false true e = cc
  by false false false e = cc

-- what is known of a request in work where it isn't ending
under_way : (b : Front) (job : Job) → IsBetweenCalls b → b.queue.phase ≡ Served → b.serving.job ≡ job → IsUnderWayIn job b.serving b.queue.chain
under_way b job ready phase e = subst (λ (j : Job). IsUnderWayIn j b.serving b.queue.chain) e (ready.serving phase)

header-case : (b : Front) (disk new : Option DiskState) (history : List Entry) (done : Bool) (now : List ℕ) → IsBetweenCalls b → b.queue.phase ≡ Served → b.serving.job ≡ Header → IsMap history disk
    → Calls (call_in Header b (sector_count disk)) done disk (buffer_in Header b) new now → Goes Header b.got.items history new (settled done (serving_in Header b (sector_count disk))) now
header-case b disk new history done now ready phase job map calls =
    header-goes (planned b (sector_count disk)) done (sector_in (buffer_in Header b)) b.serving b.queue.chain b.got.items (buffer_in Header b) now history disk new job (under_way b Header ready phase job).1
    (plan-there (request_kind (buffer_in Header b)) (sector_in (buffer_in Header b)) (data_out b.queue.chain) (data_in b.queue.chain) disk b.flush) map calls

reading-case : (b : Front) (disk new : Option DiskState) (history : List Entry) (done : Bool) (now : List ℕ) → IsBetweenCalls b → b.queue.phase ≡ Served → b.serving.job ≡ Reading → IsMap history disk
    → InWork Reading b.serving b.buffer history disk
    → Calls (call_in Reading b (sector_count disk)) done disk (buffer_in Reading b) new now → Goes Reading b.got.items history new (settled done (serving_in Reading b (sector_count disk))) now
reading-case b disk new history done now ready phase job map work calls =
    reading-goes done (piece_len (piece_in Reading b.serving b.queue.chain)) b.serving b.queue.chain b.got.items b.buffer now history disk new (under_way b Reading ready phase job).1
    (piece-few b.serving b.queue.chain) map work calls

writing-case : (b : Front) (disk new : Option DiskState) (history : List Entry) (done : Bool) (now : List ℕ) → IsBetweenCalls b → IsTaking b → b.queue.phase ≡ Served → length b.buffer ≡ 512 → b.serving.job ≡ Writing
    → IsMap history disk → InWork Writing b.serving b.buffer history disk
    → Calls (call_in Writing b (sector_count disk)) done disk (buffer_in Writing b) new now → Goes Writing b.got.items history new (settled done (serving_in Writing b (sector_count disk))) now
writing-case b disk new [] done now ready taking phase full job map work calls = absurd work.1
writing-case b disk new (inserted m ∷ earlier) done now ready taking phase full job map work calls = absurd work.1
writing-case b disk new (failed first xs ∷ earlier) done now ready taking phase full job map work calls = absurd work.1
writing-case b disk new (gave first xs ∷ earlier) done now ready taking phase full job map work calls =
    let came : IsData b = data_came b (ready.made taking.made).1 phase job in
    let giving : IsGiving first xs b.got.items b.buffer (buffer_in Writing b) b.serving = record {
      sector = work.1.0;
      read = work.1.1;
      full = full;
      few = came.few;
      some = came.some;
      rest = work.2;
      kept_is = refl;
    } in
    data-goes done b.serving b.queue.chain first xs b.got.items b.buffer (buffer_in Writing b) now earlier disk new giving work.0 map calls

-- a device that serves a request used the bytes of its access
served-agrees : (history : List Entry) (old new : Device) → IsBetweenCalls old.front → IsTaking old.front → old.front.queue.phase ≡ Served → length old.front.buffer ≡ 512 → ServesWithDisk old new
    → TellsDisk history old → TellsDisk (recorded old.front.serving.job new.front.serving.job new.front.serving.sector old.front.got.items history) new
served-agrees history old new ready taking phase full serves agrees = by old.front.serving.job refl where
  goes : (job : Job) → old.front.serving.job ≡ job → Goes job old.front.got.items history new.disk (settled serves.0 (serving_in job old.front (sector_count old.disk))) new.front.buffer
      → TellsDisk (recorded old.front.serving.job new.front.serving.job new.front.serving.sector old.front.got.items history) new
  goes job e g = there same where
    same : new.front.serving ≡ settled serves.0 (serving_in job old.front (sector_count old.disk))
    same = ap (λ (f : Front). f.serving) serves.2 ∙ ap (λ (j : Job). settled serves.0 (serving_in j old.front (sector_count old.disk))) e

    there : new.front.serving ≡ settled serves.0 (serving_in job old.front (sector_count old.disk)) → TellsDisk (recorded old.front.serving.job new.front.serving.job new.front.serving.sector old.front.got.items history) new
    there same =
        let now : Goes job old.front.got.items history new.disk new.front.serving new.front.buffer = subst (λ (t : Serving). Goes job old.front.got.items history new.disk t new.front.buffer) (sym same) g in
        let here : Goes old.front.serving.job old.front.got.items history new.disk new.front.serving new.front.buffer = subst (λ (j : Job). Goes j old.front.got.items history new.disk new.front.serving new.front.buffer) (sym e) now in
        record { map = here.map; work = λ stage served. here.work }

  calls : (job : Job) → old.front.serving.job ≡ job → Calls (call_in job old.front (sector_count old.disk)) serves.0 old.disk (buffer_in job old.front) new.disk new.front.buffer
  calls job e = subst (λ (j : Job). Calls (call_in j old.front (sector_count old.disk)) serves.0 old.disk (buffer_in j old.front) new.disk new.front.buffer) e serves.1

  work : (job : Job) → old.front.serving.job ≡ job → InWork job old.front.serving old.front.buffer history old.disk
  work job e = subst (λ (j : Job). InWork j old.front.serving old.front.buffer history old.disk) e (agrees.work taking.stage phase)

  ended : (end : RequestStatus) → old.front.serving.job ≡ Ending end → (done : Bool) → Calls None done old.disk old.front.buffer new.disk new.front.buffer
      → TellsDisk (recorded old.front.serving.job new.front.serving.job new.front.serving.sector old.front.got.items history) new
  ended end e false c = absurd c
  ended end e true c = rw e (record { map = rw c.0 agrees.map; work = λ stage served. absurd (later (sym moved ∙ served)) }) where
    moved : new.front.queue.phase ≡ UsedElement 0
    moved = ap (λ (f : Front). f.queue.phase) serves.2 ∙ ap (λ (j : Job). let q : QueueState = queue_in j old.front in q.phase) e

    later : UsedElement 0 ≡ Served → ⊥
    later x = cc

  by : (job : Job) → old.front.serving.job ≡ job → TellsDisk (recorded old.front.serving.job new.front.serving.job new.front.serving.sector old.front.got.items history) new
  by Header e = goes Header e (header-case old.front old.disk new.disk history serves.0 new.front.buffer ready phase e agrees.map (calls Header e))
  by Reading e = goes Reading e (reading-case old.front old.disk new.disk history serves.0 new.front.buffer ready phase e agrees.map (work Reading e) (calls Reading e))
  by Writing e = goes Writing e (writing-case old.front old.disk new.disk history serves.0 new.front.buffer ready taking phase full e agrees.map (work Writing e) (calls Writing e))
  by (Ending end) e = ended end e serves.0 (calls (Ending end) e)

-- a chain that is served now is served from its first byte on
fresh : (p : Phase) (s : Serving) → p ≡ Served → serving_from p s ≡ unread
fresh p s e = ap (λ (q : Phase). serving_from q s) e

-- a device that reads its queue, or writes into it, used the bytes of its access
queue-agrees : (history : List Entry) (old new : Device) → TakesQueue old new → TellsDisk history old → TellsDisk history new
queue-agrees history old new takes agrees = record { map = rw takes.1 agrees.map; work = work } where
  serving : new.front.serving ≡ serving_from (after old.front.queue old.front.got.items).phase old.front.serving
  serving = ap (λ (f : Front). f.serving) takes.2

  phase : new.front.queue.phase ≡ (after old.front.queue old.front.got.items).phase
  phase = ap (λ (f : Front). f.queue.phase) takes.2

  work : new.front.stage ≡ DriverOk → new.front.queue.phase ≡ Served → InWork new.front.serving.job new.front.serving new.front.buffer history new.disk
  work stage served =
      let opens : new.front.serving ≡ unread = serving ∙ fresh (after old.front.queue old.front.got.items).phase old.front.serving (sym phase ∙ served) in
      subst (λ (s : Serving). InWork s.job s new.front.buffer history new.disk) (sym opens) tt

-- the history of a device that doesn't serve a request
other-reply : (history : List Entry) (old new : Device) → old.front.queue.phase ≢ Served → recorded_in old.front.queue.phase old new history ≡ history
other-reply history old new other = by old.front.queue.phase refl where
  by : (p : Phase) → old.front.queue.phase ≡ p → recorded_in p old new history ≡ history
  by AvailableIndex e = refl
  by RingEntry e = refl
  by (Table index) e = refl
  by Served e = absurd (other e)
  by (UsedElement done) e = refl
  by UsedIndex e = refl
  by Faulted e = refl

-- a device whose access wasn't made
unmade : (history : List Entry) (old new : Device) → old.front.is_made ≡ false → TellsDisk history new → TellsDisk (history_after old.front.is_made old new history) new
unmade history old new none agrees = subst (λ (m : Bool). TellsDisk (history_after m old new history) new) (sym none) agrees

made : (history : List Entry) (old new : Device) → old.front.is_made ≡ true → TellsDisk (recorded_in old.front.queue.phase old new history) new → TellsDisk (history_after old.front.is_made old new history) new
made history old new is agrees = subst (λ (m : Bool). TellsDisk (history_after m old new history) new) (sym is) agrees

unserved : (history : List Entry) (old new : Device) → old.front.is_made ≡ true → old.front.queue.phase ≢ Served → TellsDisk history new → TellsDisk (history_after old.front.is_made old new history) new
unserved history old new is other agrees = made history old new is (subst (λ h. TellsDisk h new) (sym (other-reply history old new other)) agrees)

same-device : (history : List Entry) (old new : Device) → new ≡ old → TellsDisk history old → TellsDisk history new
same-device history old new same agrees = subst (λ (d : Device). TellsDisk history d) (sym same) agrees

not_both : (old : Device) → IsBetweenCalls old.front → IsSome old.front.waits → (m : Bool) → old.front.is_made ≡ m → m ≡ false
not_both old ready some false e = refl
not_both old ready some true e = absurd (neither old.front.waits some (ready.made e).0) where
  neither : (w : Option ℕ) → IsSome w → w ≡ None → ⊥
  neither None s e = grind (arith, common_steps)
  neither (Some n) s e = cc

-- only a device that works has an access that was made
is_taking : (b : Front) → IsBetweenCalls b → b.is_made ≡ true → IsTaking b
is_taking b ready is = record { stage = by b.stage refl; waits = (ready.made is).0; made = is } where
  idle : b.is_made ≡ false → b.stage ≡ DriverOk
  idle e = cc

  by : (stage : Stage) → b.stage ≡ stage → stage ≡ DriverOk
  by DriverOk e = refl
  by Reset e = sym e ∙ idle (ready.quiet (λ works. cc)).made
  by FeaturesOk e = sym e ∙ idle (ready.quiet (λ works. cc)).made
  by NeedsReset e = sym e ∙ idle (ready.quiet (λ works. cc)).made

goes-agrees : (history : List Entry) (old new : Device) → IsBetweenCalls old.front → length old.front.buffer ≡ 512 → (m : Bool) → old.front.is_made ≡ m → (m ≡ true → IsTaking old.front) → GoesOnIn m old new
    → TellsDisk history old → TellsDisk (history_after m old new history) new
goes-agrees history old new ready full false e taking goes agrees = same-device history old new goes agrees
goes-agrees history old new ready full true e taking goes agrees = by old.front.queue.phase refl goes where
  by : (p : Phase) → old.front.queue.phase ≡ p → UsesIn p old new → TellsDisk (recorded_in p old new history) new
  by AvailableIndex e takes = queue-agrees history old new takes agrees
  by RingEntry e takes = queue-agrees history old new takes agrees
  by (Table index) e takes = queue-agrees history old new takes agrees
  by Served e serves = served-agrees history old new ready (taking refl) e full serves agrees
  by (UsedElement done) e takes = queue-agrees history old new takes agrees
  by UsedIndex e takes = queue-agrees history old new takes agrees
  by Faulted e takes = queue-agrees history old new takes agrees

-- the history goes on with each step
pub steps-agrees : (history : List Entry) (old : Device) (result : Step) (new : Device) → IsBetweenCalls old.front → length old.front.buffer ≡ 512 → BlockDeviceSteps old result new
    → TellsDisk history old → TellsDisk (history_after old.front.is_made old new history) new
steps-agrees history old Down new ready full steps agrees =
    unmade history old new (ready.quiet (λ e. stops (sym steps.0 ∙ e))).made (same-device history old new steps.1 agrees) where
      stops : NeedsReset ≡ DriverOk → ⊥
      stops e = cc
steps-agrees history old Idle new ready full steps agrees = elim steps [
  | inl unchanged ↦ unmade history old new (ready.quiet unchanged.0).made (same-device history old new unchanged.2 agrees)
  | inr counts ↦ unserved history old new counts.0.0.made (λ e. reads_index (sym counts.0.1 ∙ e)) (queue-agrees history old new counts.1 agrees)
] where
  reads_index : AvailableIndex ≡ Served → ⊥
  reads_index e = cc
steps-agrees history old Waiting new ready full steps agrees =
    unmade history old new (not_both old ready steps.1 old.front.is_made refl) (same-device history old new steps.2 agrees)
steps-agrees history old (Chain fault) new ready full steps agrees =
    unserved history old new steps.0.made steps.1 (record { map = rw steps.3 agrees.map; work = λ stage served. absurd (stops (sym stopped ∙ stage)) }) where
      stopped : new.front.stage ≡ NeedsReset
      stopped = ap (λ (f : Front). f.stage) steps.4

      stops : NeedsReset ≡ DriverOk → ⊥
      stops e = cc
steps-agrees history old (Finished head len) new ready full steps agrees =
    unserved history old new steps.0.made (λ e. writes_index (sym steps.1 ∙ e)) (queue-agrees history old new steps.4 agrees) where
      writes_index : UsedIndex ≡ Served → ⊥
      writes_index e = cc
steps-agrees history old (Wants want) new ready full steps agrees = goes-agrees history old new ready full old.front.is_made refl (is_taking old.front ready) steps.4 agrees

-- the same, where both devices are known from the histories that tell them
pub told_by_step : (history after : List Entry) (old new : Device) → TellsDisk history old → (result : Step) → IsBetweenCalls old.front → length old.front.buffer ≡ 512
    → after ≡ history_after old.front.is_made old new history → BlockDeviceSteps old result new → TellsDisk after new
told_by_step history after old new agrees result ready full is steps = subst (λ h. TellsDisk h new) (sym is) (steps-agrees history old result new ready full steps agrees)

-- a disk that is put in begins a history: without one before it no OUT was in work, and no IN
pub tells_inserted : (history : List Entry) (front : Front) (disk : DiskState) → TellsDisk history (device front None) → TellsDisk (inserted disk.sectors ∷ []) (device front (Some disk))
tells_inserted history front disk tells = record { map = λ n bytes at. at; work = λ stage served. by front.serving.job (tells.work stage served) } where
  by : (job : Job) → InWork job front.serving front.buffer history None → InWork job front.serving front.buffer (inserted disk.sectors ∷ []) (Some disk)
  by Header work = tt
  by Reading work = absurd work
  by Writing work = absurd work.0
  by (Ending Ok) work = λ lt. absurd (work lt).0
  by (Ending IoError) work = tt
  by (Ending Unsupported) work = tt

-- a device that keeps its queue, its request and its buffer, and stays at work or stops, is told by the same history
pub tells_kept : (history : List Entry) (old new : Front) (disk : Option DiskState) → new.queue ≡ old.queue → new.serving ≡ old.serving → new.buffer ≡ old.buffer → (new.stage ≡ DriverOk → old.stage ≡ DriverOk)
    → TellsDisk history (device old disk) → TellsDisk history (device new disk)
tells_kept history old new disk queue serving buffer stage tells = record { map = tells.map; work = work } where
  work : new.stage ≡ DriverOk → new.queue.phase ≡ Served → InWork new.serving.job new.serving new.buffer history disk
  work works served = rw (serving, buffer) (tells.work (stage works) (subst (λ (q : QueueState). q.phase ≡ Served) queue served))
