-- What a turn does to a device that works, and to one that is to be reset.
use Rattle.std.proofs.Common.{◌≡◌, ◌≢◌, ◌⊎◌, inl, inr, ℕ, ◌+◌, ◌%◌, ◌<◌, ◌==◌, Bool, true, false, List, [], ◌∷◌, Option, Some, None, if◌then◌else◌, refl, sym, ap, ◌∙◌, subst}
use Rattle.std.proofs.lemmas.Bool.{cases_eq}
use Rattle.iom_virtqueue.specs.declared.phase.Phase.{Phase}
use Rattle.iom_virtqueue.specs.declared.phase.Phase.TheVariants.{AvailableIndex, RingEntry, Table, Served, UsedElement, UsedIndex, Faulted}
use Rattle.iom_virtqueue.specs.Descriptors.{number_at, descriptor_of, next_of}
use Rattle.iom_virtqueue.specs.declared.layout.Layout.{Layout}
use Rattle.iom_virtqueue.specs.Accesses.{reads}
use Rattle.iom_virtqueue.specs.Queues.{QueueState, ring_entry, wanted_in, after, after_in, after_fault, chain_fault_of, goes_on_at, new_requests, element_piece}
use Rattle.iom_virtio_blk.specs.declared.front.Front.{Front}
use Rattle.iom_virtio_blk.specs.declared.serving.Job.{Job}
use Rattle.iom_virtio_blk.specs.declared.serving.Job.TheVariants.{Header, Reading, Writing, Ending}
use Rattle.iom_virtio_blk.specs.declared.stage.Stage.{Stage}
use Rattle.iom_virtio_blk.specs.declared.stage.Stage.TheVariants.{Reset, FeaturesOk, DriverOk, NeedsReset}
use Rattle.iom_virtio_blk.specs.declared.step.Reply.{Reply}
use Rattle.iom_virtio_blk.specs.declared.step.Reply.TheVariants.{Accepted, Busy, Asked, Fault}
use Rattle.iom_virtio_blk.specs.declared.step.Step.{Step}
use Rattle.iom_virtio_blk.specs.declared.step.Step.TheVariants.{Idle, Waiting, Down, Chain, Finished, Wants}
use Rattle.iom_virtio_blk.specs.Blocks.{IsTaking, EndsWaiting, TakesBytes, wants_in, wanted_by, replied, down, queue_in}
use Rattle.iom_virtio_blk.specs.Steps.{Device, BlockDeviceSteps, GoesOnIn, UsesIn, TakesQueue, ServesWithDisk}
use Rattle.iom_block_life.specs.Lives.{Turn, Turns, Taken, entry_in, taken_at, finished_at}
use Rattle.iom_block_life.specs.Lives.{TakesStep, HearsMade, HearsReply, HearsRefusal, ChangesDisk}
use Rattle.iom_block_life.proofs.QueueTurns.{in_work, in_work_in, invariants, GoesOn, unchanged, takes, finishes}

-- a device whose queue lies so works, and counts modulo 2^16
pub record Works (layout : Layout) (d : Device) : Type 0 where
  pub stage : d.front.stage ≡ DriverOk
  pub lies : d.front.queue.layout ≡ layout
  pub power : 256 % layout.size ≡ 0
  pub small : d.front.queue.finished < 65536
  pub invariants : d.front.queue.phase ≢ Faulted

-- it is to be reset, and takes and finishes nothing
pub record Stops (old new : Device) (taken : List Taken) (finished : List ℕ) : Type 0 where
  pub stage : new.front.stage ≡ NeedsReset
  pub none_taken : taken ≡ []
  pub none_finished : finished ≡ []
  pub counted : new.front.queue.finished ≡ old.front.queue.finished

-- it goes on to work, or stops
abbrev pub Follows : Layout → Device → Device → List Taken → List ℕ → Type 0
Follows layout old new taken finished = (GoesOn layout old.front.queue new.front.queue taken finished × (new.front.stage ≡ DriverOk)) ⊎ Stops old new taken finished

abbrev IsWorking : Stage → Type 0
IsWorking Reset = Unit {0}
IsWorking FeaturesOk = Unit {0}
IsWorking DriverOk = Unit {0}
IsWorking NeedsReset = ⊥

pub not_both : (stage : Stage) → stage ≡ DriverOk → stage ≡ NeedsReset → ⊥
not_both stage works stops = subst IsWorking (sym works ∙ stops) tt

-- the queue is as it was, and the device still works
pub stands : (layout : Layout) (old new : Device) → Works layout old → new.front.queue ≡ old.front.queue → new.front.stage ≡ old.front.stage → Follows layout old new [] []
stands layout old new works queue stage =
    inl (unchanged layout old.front.queue new.front.queue works.lies works.small (ap (λ q. q.layout) queue) (ap (λ q. q.finished) queue) (ap in_work queue) (λ fault. works.invariants (sym (ap (λ q. q.phase) queue) ∙ fault)), stage ∙ works.stage)

-- what the bytes of an access make of the queue, by what it does
abbrev OnTaking : Layout → Front → QueueState → Phase → Type 0
OnTaking layout b q AvailableIndex = GoesOn layout b.queue q (entry_in true AvailableIndex b) []
OnTaking layout b q RingEntry = GoesOn layout b.queue q (entry_in true RingEntry b) []
OnTaking layout b q (Table index) = GoesOn layout b.queue q (entry_in true (Table index) b) []
OnTaking layout b q Served = Unit {0}
OnTaking layout b q (UsedElement done) = GoesOn layout b.queue q (entry_in true (UsedElement done) b) []
OnTaking layout b q UsedIndex = GoesOn layout b.queue q [] (b.queue.head ∷ [])
OnTaking layout b q Faulted = Unit {0}

none_there : (c : Bool) (head : ℕ) → in_work_in (if c then AvailableIndex else RingEntry) head ≡ []
none_there true head = refl
none_there false head = refl

one_there : (next : Option ℕ) (head : ℕ) → in_work_in (goes_on_at next) head ≡ head ∷ []
one_there None head = refl
one_there (Some index) head = refl

one_still : (c : Bool) (done head : ℕ) → in_work_in (if c then UsedIndex else UsedElement done) head ≡ head ∷ []
one_still true done head = refl
one_still false done head = refl

none_sound : (c : Bool) → (if c then AvailableIndex else RingEntry) ≢ Faulted
none_sound true = invariants AvailableIndex tt
none_sound false = invariants RingEntry tt

one_sound : (next : Option ℕ) → goes_on_at next ≢ Faulted
one_sound None = invariants Served tt
one_sound (Some index) = invariants (Table index) tt

still_sound : (c : Bool) (done : ℕ) → (if c then UsedIndex else UsedElement done) ≢ Faulted
still_sound true done = invariants UsedIndex tt
still_sound false done = invariants (UsedElement done) tt

work_at : (q : QueueState) (phase : Phase) → q.phase ≡ phase → in_work q ≡ in_work_in phase q.head
work_at q phase is = ap (λ p. in_work_in p q.head) is

-- what it reads there
wanted_is : (b : Front) → b.queue.phase ≡ RingEntry → wanted_by b ≡ reads (ring_entry b.queue) 2
wanted_is b is = ap (λ phase. wants_in phase b) is ∙ ap (λ phase. wanted_in phase b.queue) is

taking : (layout : Layout) (d : Device) → Works layout d → (phase : Phase) → d.front.queue.phase ≡ phase
    → OnTaking layout d.front (after_in phase d.front.queue d.front.got.items) phase
taking layout d works AvailableIndex is =
    let q = d.front.queue in
    unchanged layout q _ works.lies works.small refl refl
    (none_there (new_requests (number_at 2 0 d.front.got.items) q.finished == 0) q.head ∙ sym (work_at q AvailableIndex is))
    (none_sound (new_requests (number_at 2 0 d.front.got.items) q.finished == 0))
taking layout d works RingEntry is =
    takes layout d.front.queue _ (number_at 2 0 d.front.got.items) (wanted_by d.front) works.lies works.small refl refl (work_at d.front.queue RingEntry is) refl (invariants _ tt)
    (wanted_is d.front is)
taking layout d works (Table index) is =
    let q = d.front.queue in
    unchanged layout q _ works.lies works.small refl refl (one_there (next_of (descriptor_of d.front.got.items)) q.head ∙ sym (work_at q (Table index) is))
    (one_sound (next_of (descriptor_of d.front.got.items)))
taking layout d works Served is = tt
taking layout d works (UsedElement done) is =
    let q = d.front.queue in
    unchanged layout q _ works.lies works.small refl refl
    (one_still (done + element_piece q done == 8) (done + element_piece q done) q.head ∙ sym (work_at q (UsedElement done) is))
    (still_sound (done + element_piece q done == 8) (done + element_piece q done))
taking layout d works UsedIndex is =
    finishes layout d.front.queue _ works.lies works.power works.small refl refl (work_at d.front.queue UsedIndex is) refl (invariants _ tt)
taking layout d works Faulted is = tt

-- the queue after its access, by what it did
after_at : (q : QueueState) (bytes : List ℕ) (phase : Phase) → q.phase ≡ phase → chain_fault_of q bytes ≡ None → after q bytes ≡ after_in phase q bytes
after_at q bytes phase is fine = ap (λ fault. after_fault fault q bytes) fine ∙ ap (λ p. after_in p q bytes) is

queue_then : (old new : Device) (phase : Phase) → old.front.queue.phase ≡ phase → TakesQueue old new
    → new.front.queue ≡ after_in phase old.front.queue old.front.got.items
queue_then old new phase is moved = ap (λ b. b.queue) moved.2 ∙ after_at old.front.queue old.front.got.items phase is moved.0

moves : (layout : Layout) (old new : Device) → Works layout old → (phase : Phase) → old.front.queue.phase ≡ phase → TakesQueue old new → OnTaking layout old.front new.front.queue phase
moves layout old new works phase is moved =
    subst (λ (q : QueueState). OnTaking layout old.front q phase) (sym (queue_then old new phase is moved)) (taking layout old works phase is)

stage_then : (layout : Layout) (old new : Device) → Works layout old → TakesQueue old new → new.front.stage ≡ DriverOk
stage_then layout old new works moved = ap (λ b. b.stage) moved.2 ∙ works.stage

served_work : (job : Job) (b : Front) → b.queue.phase ≡ Served → in_work (queue_in job b) ≡ in_work b.queue
served_work Header b is = refl
served_work Reading b is = refl
served_work Writing b is = refl
served_work (Ending end) b is = sym (work_at b.queue Served is)

served_layout : (job : Job) (b : Front) → ((queue_in job b).layout ≡ b.queue.layout) × ((queue_in job b).finished ≡ b.queue.finished)
served_layout Header b = (refl, refl)
served_layout Reading b = (refl, refl)
served_layout Writing b = (refl, refl)
served_layout (Ending end) b = (refl, refl)

served_sound : (job : Job) (b : Front) → b.queue.phase ≢ Faulted → (queue_in job b).phase ≢ Faulted
served_sound Header b is = is
served_sound Reading b is = is
served_sound Writing b is = is
served_sound (Ending end) b is = invariants (UsedElement 0) tt

serves : (layout : Layout) (old new : Device) → Works layout old → old.front.queue.phase ≡ Served → ServesWithDisk old new → Follows layout old new [] []
serves layout old new works is (done, called, front) =
    let job = old.front.serving.job in
    let queue : new.front.queue ≡ queue_in job old.front = ap (λ b. b.queue) front in
    let same = served_layout job old.front in
    inl (
      unchanged layout old.front.queue new.front.queue works.lies works.small (ap (λ q. q.layout) queue ∙ same.0) (ap (λ q. q.finished) queue ∙ same.1)
          (ap in_work queue ∙ served_work job old.front is)
          (λ fault. served_sound job old.front works.invariants (sym (ap (λ q. q.phase) queue) ∙ fault)),
      ap (λ b. b.stage) front ∙ works.stage,
    )

-- the device goes on to another access, with the bytes of the last one
uses : (layout : Layout) (old new : Device) → Works layout old → (new.front.queue.phase ≢ AvailableIndex) → (phase : Phase) → old.front.queue.phase ≡ phase
    → UsesIn phase old new → Follows layout old new (entry_in true phase old.front) []
uses layout old new works moved AvailableIndex is used = inl (moves layout old new works AvailableIndex is used, stage_then layout old new works used)
uses layout old new works moved RingEntry is used = inl (moves layout old new works RingEntry is used, stage_then layout old new works used)
uses layout old new works moved (Table index) is used = inl (moves layout old new works (Table index) is used, stage_then layout old new works used)
uses layout old new works moved Served is used = serves layout old new works is used
uses layout old new works moved (UsedElement done) is used = inl (moves layout old new works (UsedElement done) is used, stage_then layout old new works used)
uses layout old new works moved UsedIndex is used = absurd (moved (ap (λ q. q.phase) (queue_then old new UsedIndex is used)))
uses layout old new works moved Faulted is used = absurd (works.invariants is)

goes_on : (layout : Layout) (old new : Device) → Works layout old → (old.front.is_made ≡ true → new.front.queue.phase ≢ AvailableIndex)
    → (made : Bool) → old.front.is_made ≡ made → GoesOnIn made old new → Follows layout old new (entry_in made old.front.queue.phase old.front) []
goes_on layout old new works moved false is same = stands layout old new works (ap (λ d. d.front.queue) same) (ap (λ d. d.front.stage) same)
goes_on layout old new works moved true is used = uses layout old new works (moved is) old.front.queue.phase refl used

pub steps_on : (layout : Layout) (old new : Device) → Works layout old → (outcome : Step) → BlockDeviceSteps old outcome new
    → Follows layout old new (taken_at old (TakesStep outcome)) (finished_at (TakesStep outcome))
steps_on layout old new works Down happens = absurd (not_both old.front.stage works.stage happens.0)
steps_on layout old new works Idle (inl happens) = absurd (happens.0 works.stage)
steps_on layout old new works Idle (inr happens) =
    inl (moves layout old new works AvailableIndex happens.0.1 happens.1, stage_then layout old new works happens.1)
steps_on layout old new works Waiting happens = stands layout old new works (ap (λ d. d.front.queue) happens.2) (ap (λ d. d.front.stage) happens.2)
steps_on layout old new works (Chain fault) happens = inr (record {
  stage = ap (λ b. b.stage) happens.4;
  none_taken = refl;
  none_finished = refl;
  counted = ap (λ b. b.queue.finished) happens.4 ∙ ap (λ f. (after_fault f old.front.queue old.front.got.items).finished) happens.2;
})
steps_on layout old new works (Finished head len) happens = inl (
  subst (λ (h : ℕ). GoesOn layout old.front.queue new.front.queue [] (h ∷ [])) (sym happens.2) (moves layout old new works UsedIndex happens.1 happens.4),
  stage_then layout old new works happens.4,
)
steps_on layout old new works (Wants want) happens = goes_on layout old new works happens.3 old.front.is_made refl happens.4

-- the device is as it was, or down
stays_or_stops : (layout : Layout) (old new : Device) → Works layout old → (new.front ≡ old.front) ⊎ (new.front ≡ down old.front) → Follows layout old new [] []
stays_or_stops layout old new works (inl same) = stands layout old new works (ap (λ b. b.queue) same) (ap (λ b. b.stage) same)
stays_or_stops layout old new works (inr ended) =
    inr (record { stage = ap (λ b. b.stage) ended; none_taken = refl; none_finished = refl; counted = ap (λ b. b.queue.finished) ended })

is_it : (held : Option ℕ) (number : ℕ) → (held ≡ Some number) ⊎ (held ≢ Some number)
is_it None number = inr (λ same. apart same)
  where
    IsThere : Option ℕ → Type 0
    IsThere None = Unit {0}
    IsThere (Some n) = ⊥

    apart : None ≡ Some number → ⊥
    apart same = subst IsThere same tt
is_it (Some held) number = by (cases_eq held number)
  where
    number_or : Option ℕ → ℕ
    number_or None = 0
    number_or (Some n) = n

    by : (held ≡ number) ⊎ (held ≡ number → ⊥) → (Some held ≡ Some number) ⊎ (Some held ≢ Some number)
    by (inl same) = inl (ap Some same)
    by (inr differ) = inr (λ same. differ (ap number_or same))

heard : (layout : Layout) (old new : Device) (bytes : List ℕ) → Works layout old → EndsWaiting old.front bytes new.front → Follows layout old new [] []
heard layout old new bytes works (inl took) =
    let kept : TakesBytes old.front bytes new.front = took.1 in
    stands layout old new works (ap (λ b. b.queue) kept.rest) (ap (λ b. b.stage) kept.rest)
heard layout old new bytes works (inr lost) = stays_or_stops layout old new works (inr lost.1)

replied_on : (layout : Layout) (old new : Device) → Works layout old → (reply : Reply) → new.front ≡ replied reply old.front → Follows layout old new [] []
replied_on layout old new works (Accepted number) is = stands layout old new works (ap (λ b. b.queue) is) (ap (λ b. b.stage) is)
replied_on layout old new works Busy is = stays_or_stops layout old new works (inl is)
replied_on layout old new works (Asked page) is = stands layout old new works (ap (λ b. b.queue) is) (ap (λ b. b.stage) is)
replied_on layout old new works Fault is = stays_or_stops layout old new works (inr is)

pub turns_on : (layout : Layout) (old new : Device) → Works layout old → (turn : Turn) → Turns old turn new
    → Follows layout old new (taken_at old turn) (finished_at turn)
turns_on layout old new works (TakesStep outcome) happens = steps_on layout old new works outcome happens
turns_on layout old new works (HearsMade number bytes) happens = by (is_it old.front.waits number)
  where
    by : (old.front.waits ≡ Some number) ⊎ (old.front.waits ≢ Some number) → Follows layout old new [] []
    by (inl its) = heard layout old new bytes works (happens.0 its)
    by (inr other) = stays_or_stops layout old new works (inl (happens.1 other))
turns_on layout old new works (HearsReply reply) happens = replied_on layout old new works reply happens
turns_on layout old new works (HearsRefusal page) happens = by (is_it old.front.asked page)
  where
    by : (old.front.asked ≡ Some page) ⊎ (old.front.asked ≢ Some page) → Follows layout old new [] []
    by (inl its) = stays_or_stops layout old new works (inr (happens.0 its))
    by (inr other) = stays_or_stops layout old new works (inl (happens.1 other))
turns_on layout old new works ChangesDisk happens = stays_or_stops layout old new works (inl happens)

-- a device that is to be reset

still : (old new : Device) → old.front.stage ≡ NeedsReset → new.front.queue ≡ old.front.queue → new.front.stage ≡ old.front.stage → Stops old new [] []
still old new down queue stage =
    record { stage = stage ∙ down; none_taken = refl; none_finished = refl; counted = ap (λ q. q.finished) queue }

not_taking : (b : Front) → b.stage ≡ NeedsReset → IsTaking b → ⊥
not_taking b is taking = not_both b.stage taking.stage is

uses_keep : (old new : Device) (phase : Phase) → UsesIn phase old new → new.front.stage ≡ old.front.stage
uses_keep old new AvailableIndex used = ap (λ b. b.stage) used.2
uses_keep old new RingEntry used = ap (λ b. b.stage) used.2
uses_keep old new (Table index) used = ap (λ b. b.stage) used.2
uses_keep old new Served (done, called, front) = ap (λ b. b.stage) front
uses_keep old new (UsedElement done) used = ap (λ b. b.stage) used.2
uses_keep old new UsedIndex used = ap (λ b. b.stage) used.2
uses_keep old new Faulted used = ap (λ b. b.stage) used.2

keeps_stage : (old new : Device) (made : Bool) → GoesOnIn made old new → new.front.stage ≡ old.front.stage
keeps_stage old new false same = ap (λ d. d.front.stage) same
keeps_stage old new true used = uses_keep old new old.front.queue.phase used

stopped_steps : (old new : Device) → old.front.stage ≡ NeedsReset → (outcome : Step) → BlockDeviceSteps old outcome new
    → Stops old new (taken_at old (TakesStep outcome)) (finished_at (TakesStep outcome))
stopped_steps old new is Down happens = still old new is (ap (λ d. d.front.queue) happens.1) (ap (λ d. d.front.stage) happens.1)
stopped_steps old new is Idle (inl happens) = absurd (happens.1 is)
stopped_steps old new is Idle (inr happens) = absurd (not_taking old.front is happens.0.0)
stopped_steps old new is Waiting happens = absurd (not_both old.front.stage happens.0 is)
stopped_steps old new is (Chain fault) happens = absurd (not_taking old.front is happens.0)
stopped_steps old new is (Finished head len) happens = absurd (not_taking old.front is happens.0)
stopped_steps old new is (Wants want) happens =
    absurd (not_both new.front.stage happens.2.stage (keeps_stage old new old.front.is_made happens.4 ∙ is))

same_or_down : (old new : Device) → old.front.stage ≡ NeedsReset → (new.front ≡ old.front) ⊎ (new.front ≡ down old.front) → Stops old new [] []
same_or_down old new is (inl same) = still old new is (ap (λ b. b.queue) same) (ap (λ b. b.stage) same)
same_or_down old new is (inr ended) =
    record { stage = ap (λ b. b.stage) ended; none_taken = refl; none_finished = refl; counted = ap (λ b. b.queue.finished) ended }

stopped_hears : (old new : Device) (bytes : List ℕ) → old.front.stage ≡ NeedsReset → EndsWaiting old.front bytes new.front → Stops old new [] []
stopped_hears old new bytes is (inl took) =
    let kept : TakesBytes old.front bytes new.front = took.1 in
    still old new is (ap (λ b. b.queue) kept.rest) (ap (λ b. b.stage) kept.rest)
stopped_hears old new bytes is (inr lost) = same_or_down old new is (inr lost.1)

stopped_replied : (old new : Device) → old.front.stage ≡ NeedsReset → (reply : Reply) → new.front ≡ replied reply old.front → Stops old new [] []
stopped_replied old new is (Accepted number) same = still old new is (ap (λ b. b.queue) same) (ap (λ b. b.stage) same)
stopped_replied old new is Busy same = same_or_down old new is (inl same)
stopped_replied old new is (Asked page) same = still old new is (ap (λ b. b.queue) same) (ap (λ b. b.stage) same)
stopped_replied old new is Fault same = same_or_down old new is (inr same)

pub stopped_turns : (old new : Device) → old.front.stage ≡ NeedsReset → (turn : Turn) → Turns old turn new
    → Stops old new (taken_at old turn) (finished_at turn)
stopped_turns old new is (TakesStep outcome) happens = stopped_steps old new is outcome happens
stopped_turns old new is (HearsMade number bytes) happens = by (is_it old.front.waits number)
  where
    by : (old.front.waits ≡ Some number) ⊎ (old.front.waits ≢ Some number) → Stops old new [] []
    by (inl its) = stopped_hears old new bytes is (happens.0 its)
    by (inr other) = same_or_down old new is (inl (happens.1 other))
stopped_turns old new is (HearsReply reply) happens = stopped_replied old new is reply happens
stopped_turns old new is (HearsRefusal page) happens = by (is_it old.front.asked page)
  where
    by : (old.front.asked ≡ Some page) ⊎ (old.front.asked ≢ Some page) → Stops old new [] []
    by (inl its) = same_or_down old new is (inr (happens.0 its))
    by (inr other) = same_or_down old new is (inl (happens.1 other))
stopped_turns old new is ChangesDisk happens = same_or_down old new is (inl happens)
