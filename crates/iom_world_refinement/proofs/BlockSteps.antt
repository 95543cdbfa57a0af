-- What happens to a block device is a lawful step of the ledger machine: a disk is put in, a queue is set, a step is taken, a status is told.
use Rattle.std.proofs.Common.{◌≡◌, ◌≢◌, ◌^◌, ◌<◌, ◌==◌, ◌∙◌, inl, inr, ℕ, Bool, true, false, find, List, Option, None, Some, MatchOption, refl, sym, ap, subst}
use Rattle.std.specs.Option.{option_map, option_map_or}
use Rattle.std.proofs.lemmas.Bool.{false≢true}
use Rattle.iom_walk_coherence.specs.Walks.{Walk}
use Rattle.iom_base.specs.declared.access.Access.{Access}
use Rattle.iom_base.specs.Accesses.{page_of, MayWant}
use Rattle.iom_coherence.specs.Attachments.{caches_translations}
use Rattle.iom_fabric.specs.declared.message.Message.TheVariants as sent
use Rattle.iom_iommu.specs.Parts.{flights_of}
use Rattle.iom_base.specs.declared.refusal.Refusal.{Refusal}
use Rattle.iom_base.specs.declared.refusal.Refusal.TheVariants.{NoSuchDevice, WrongKind, BadMedium, BadQueue}
use Rattle.iom_machine.specs.declared.outcome.BlockStep.{BlockStep}
use Rattle.iom_machine.specs.declared.outcome.BlockStep.TheVariants.{Idle, Waiting, Asked, Chain, Finished, Down}
use Rattle.iom_machine.specs.declared.outcome.Outcome.{Outcome}
use Rattle.iom_machine.specs.declared.outcome.Outcome.TheVariants as outcome
use Rattle.iom_machine.specs.declared.state.Device as machine
use Rattle.iom_base.specs.declared.device_kind.DeviceKind.{DeviceKind}
use Rattle.iom_machine.specs.declared.state.State.{State}
use Rattle.iom_machine.specs.BlockDevices.{Inserts, MaySet, IsStatus, MayBe, IsAnswered, TakesStep, with_disk}
use Rattle.iom_machine.specs.Devices.{device_of, replaced_device}
use Rattle.iom_base.specs.Disks.{is_among}
use Rattle.iom_base.specs.DeviceKinds.{is_block_device, has_cache}
use Rattle.iom_machine.specs.Machine.{Acts, IfItCan, InsertsDisk, Steps}
use Rattle.iom_machine.specs.Machine as machine_steps
use Rattle.iom_machine.specs.Requests.{MayAnswer, state_after}
use Rattle.iom_machine.specs.ThroughCache.{MayAnswerThroughCache, state_after_cached}
use Rattle.iom_virtqueue.specs.declared.layout.Layout.{Layout}
use Rattle.iom_device.specs.declared.device.Device.{Device}
use Rattle.iom_world_effects.specs.BlockDevices.{InsertsMedium, PutsDiskIn, SetsBlockQueue, AsksIfMissed, GoesToMemory, BeginsAccess, IsRest, Rests, TellsBlockStatus}
use Rattle.iom_device.specs.Caches.{device_with, kind_in, epoch_in, with_has_disk}
use Rattle.iom_world_effects.specs.Devices.{shown_device, shown_devices}
use Rattle.iom_world_effects.specs.Messages.{with_sent}
use Rattle.iom_world_effects.specs.Parts.{Parts}
use Rattle.iom_world_effects.specs.Shows.{PartsShow}
use Rattle.iom_world_effects.specs.Invariant.{InvariantWith}
use Rattle.iom_world_effects.proofs.DiskPlaces.{replaced_has}
use Rattle.iom_world_effects.proofs.DriverLemmas.{DriverInvariant}
use Rattle.iom_world_refinement.proofs.EventLemmas.{no_access}
use Rattle.iom_world_refinement.proofs.MessageSteps.{shows_fabric}
use Rattle.iom_world_effects.proofs.PartsLemmas.{StaysReported}
use Rattle.iom_world_effects.proofs.PresentLemmas.{kind_present}
use Rattle.iom_world_refinement.proofs.ReasonLemmas.{kind_shown}
use Rattle.iom_world_invariant.proofs.RequestStep.{acts_at, acts_unable, acts_absent, kind_found, request_step, shows_same}
use Rattle.iom_world_invariant.proofs.ResetKeeps.{shows_reset}
use Rattle.iom_world_effects.proofs.RowPlaces.{IsFound, shown_of, present_found}
use Rattle.iom_world_effects.proofs.ServedLemmas.{ServiceLaws}
use Rattle.iom_world_refinement.proofs.ThroughCacheStep.{GoesAs, through_cache_step}

-- the device that is found is the one with the id
the_device : (old : Parts) (id : ℕ) (device : Device) → (is : IsFound old.driver.devices (flights_of old.iommu).rows old.devices id) → device_with old.devices id ≡ Some device → is.device ≡ device
the_device old id device is there = same is.device device (sym is.found ∙ there)
  where
    same : (x y : Device) → Some x ≡ Some y → x ≡ y
    same x y both = cc

found_with : (old : Parts) (id : ℕ) (device : Device) → device_with old.devices id ≡ Some device → IsFound old.driver.devices (flights_of old.iommu).rows old.devices id
found_with old id device there =
    present_found old.driver.devices (flights_of old.iommu).rows old.devices id (kind_present old.devices id device.kind (ap (option_map (λ (d : Device). d.kind)) there))

-- what the kind of the device that is found can
found_can : (old : Parts) (id : ℕ) (kind : DeviceKind) (b : Bool) → (is : IsFound old.driver.devices (flights_of old.iommu).rows old.devices id) → kind_in old.devices id ≡ Some kind → is_block_device kind ≡ b
    → is_block_device is.device.kind ≡ b
found_can old id kind b is there can = ap is_block_device (kind_found old.driver.devices (flights_of old.iommu).rows old.devices id kind is there) ∙ can

found_kind : (old : Parts) (id : ℕ) (kind : DeviceKind) → kind_in old.devices id ≡ Some kind → IsFound old.driver.devices (flights_of old.iommu).rows old.devices id
found_kind old id kind there = present_found old.driver.devices (flights_of old.iommu).rows old.devices id (kind_present old.devices id kind there)

-- A DISK IS PUT IN

shows_disk : (old new : Parts) (id disk : ℕ) (state : State) → PartsShow old state → (is : IsFound old.driver.devices (flights_of old.iommu).rows old.devices id)
    → new ≡ record old { devices = with_has_disk old.devices id true } → PartsShow new (with_disk disk state (shown_device old.driver.devices (flights_of old.iommu).rows is.device))
shows_disk old new id disk state shows is same =
    let known = old.driver.devices in
    let rows = (flights_of old.iommu).rows in
    let now : machine.Device = record (shown_device known rows is.device) { has_disk = true } in
    subst (λ parts. PartsShow parts (with_disk disk state (shown_device known rows is.device))) (sym same) (record {
      ledger = shows.ledger;
      frames = shows.frames;
      devices = ap (λ (ds : List machine.Device). replaced_device ds is.device.id now) shows.devices
          ∙ ap (λ (n : ℕ). replaced_device (shown_devices known rows old.devices) n now) is.own
          ∙ replaced_has known rows old.devices id true is.device is.found;
      given = shows.given;
      confirmed = shows.confirmed;
      all_earlier = shows.all_earlier;
      none_later = shows.none_later;
      levels = shows.levels;
      limits = shows.limits;
    })

abbrev Inserted : (disk : ℕ) → State → Outcome → State → machine.Device → Type 0
Inserted disk state reply next device = Inserts disk state device reply next

puts_step : (disks : List ℕ) (old new : Parts) (id disk : ℕ) (reply : Outcome) (device : Device) → device_with old.devices id ≡ Some device → is_block_device device.kind ≡ true
    → PutsDiskIn disks old device id disk reply new → (state : State) → PartsShow old state → state.disks ≡ disks
    → (next : State) × InsertsDisk disk state id reply next × PartsShow new next
puts_step disks old new id disk reply device there able (inl (may, is_told, same)) state shows at_hand =
    let is = found_with old id device there in
    let it = the_device old id device is there in
    let next = with_disk disk state (shown_device old.driver.devices (flights_of old.iommu).rows is.device) in (
      next,
      subst (λ t. InsertsDisk disk state id t next) (sym is_told)
          (acts_at is_block_device (Inserted disk state outcome.Done next) old state id outcome.Done next shows.devices is (ap (λ (d : Device). is_block_device d.kind) it ∙ able)
          ((ap (λ (d : Device). d.has_disk) it ∙ may.0, ap (λ (ds : List ℕ). is_among ds disk) at_hand ∙ may.1), refl)),
      shows_disk old new id disk state shows is same,
    )
puts_step disks old new id disk reply device there able (inr (cannot, is_told, same)) state shows at_hand =
    let is = found_with old id device there in
    let it = the_device old id device is there in (
      state,
      subst (λ t. InsertsDisk disk state id t state) (sym is_told)
          (acts_at is_block_device (Inserted disk state (outcome.Refused BadMedium) state) old state id (outcome.Refused BadMedium) state shows.devices is (ap (λ (d : Device). is_block_device d.kind) it ∙ able)
          (((λ may. cannot (sym (ap (λ (d : Device). d.has_disk) it) ∙ may.0, sym (ap (λ (ds : List ℕ). is_among ds disk) at_hand) ∙ may.1)), refl), refl)),
      shows_same old new state same shows,
    )

pub medium_step : (disks : List ℕ) (old new : Parts) (id disk : ℕ) (reply : Outcome) → InsertsMedium disks old id disk reply new → (state : State) → PartsShow old state → state.disks ≡ disks
    → (next : State) × InsertsDisk disk state id reply next × PartsShow new next
medium_step disks old new id disk reply (inl unknown) state shows at_hand =
    (state, acts_absent is_block_device (Inserted disk state reply state) old state id reply shows.devices unknown.absent unknown.reply_is, shows_same old new state unknown.same shows)
medium_step disks old new id disk reply (inr (inl unable)) state shows at_hand =
    let is = found_kind old id unable.kind unable.there in (
      state,
      acts_unable is_block_device (Inserted disk state reply state) old state id reply shows.devices is (found_can old id unable.kind false is unable.there unable.cannot) unable.reply_is,
      shows_same old new state unable.same shows,
    )
medium_step disks old new id disk reply (inr (inr (device, is, puts))) state shows at_hand = puts_step disks old new id disk reply device is.there is.able puts state shows at_hand

-- WHAT CHANGES NOTHING that the machine knows

-- a queue is set
abbrev IsSet : Layout → State → Outcome → machine.Device → Type 0
IsSet layout state reply device = MaySet layout reply × (state ≡ state)

pub queue_step : (old new : Parts) (id : ℕ) (layout : Layout) (reply : Outcome) → SetsBlockQueue old id layout reply new → (state : State) → PartsShow old state
    → machine_steps.SetsQueue layout state id reply state × PartsShow new state
queue_step old new id layout reply (inl unknown) state shows =
    (acts_absent is_block_device (IsSet layout state reply) old state id reply shows.devices unknown.absent unknown.reply_is, shows_same old new state unknown.same shows)
queue_step old new id layout reply (inr (inl unable)) state shows =
    let is = found_kind old id unable.kind unable.there in (
      acts_unable is_block_device (IsSet layout state reply) old state id reply shows.devices is (found_can old id unable.kind false is unable.there unable.cannot) unable.reply_is,
      shows_same old new state unable.same shows,
    )
queue_step old new id layout reply (inr (inr (able, inl (lies, is_told, same)))) state shows =
    let is = found_kind old id able.0 able.1 in (
      subst (λ t. machine_steps.SetsQueue layout state id t state) (sym is_told)
          (acts_at is_block_device (IsSet layout state outcome.Done) old state id outcome.Done state shows.devices is (found_can old id able.0 true is able.1 able.2) (lies, refl)),
      shows_reset old new id state same shows,
    )
queue_step old new id layout reply (inr (inr (able, inr (bad, is_told, same)))) state shows =
    let is = found_kind old id able.0 able.1 in (
      subst (λ t. machine_steps.SetsQueue layout state id t state) (sym is_told)
          (acts_at is_block_device (IsSet layout state (outcome.Refused BadQueue)) old state id (outcome.Refused BadQueue) state shows.devices is (found_can old id able.0 true is able.1 able.2) ((bad, refl), refl)),
      shows_same old new state same shows,
    )

-- a status is told
abbrev Told : State → Outcome → machine.Device → Type 0
Told state reply device = IsStatus reply × (state ≡ state)

pub status_step : (old new : Parts) (id status : ℕ) (reply : Outcome) → TellsBlockStatus old id status reply new → (state : State) → PartsShow old state
    → machine_steps.TellsStatus state id reply state × PartsShow new state
status_step old new id status reply (inl unknown) state shows =
    (acts_absent is_block_device (Told state reply) old state id reply shows.devices unknown.absent unknown.reply_is, shows_same old new state unknown.same shows)
status_step old new id status reply (inr (inl unable)) state shows =
    let is = found_kind old id unable.kind unable.there in (
      acts_unable is_block_device (Told state reply) old state id reply shows.devices is (found_can old id unable.kind false is unable.there unable.cannot) unable.reply_is,
      shows_same old new state unable.same shows,
    )
status_step old new id status reply (inr (inr (able, is_told, same))) state shows =
    let is = found_kind old id able.0 able.1 in (
      subst (λ t. machine_steps.TellsStatus state id t state) (sym is_told)
          (acts_at is_block_device (Told state (outcome.Status status)) old state id (outcome.Status status) state shows.devices is (found_can old id able.0 true is able.1 able.2) (tt, refl)),
      shows_same old new state same shows,
    )

-- a step began no access
abbrev Taken : Access → ℕ → State → Outcome → State → machine.Device → Type 0
Taken access frame state reply next device = TakesStep state device access frame reply next

may_rest : (state : State) (device : machine.Device) (access : Access) (step : BlockStep) → IsRest step → MayBe state device access step
may_rest state device access Idle rest = tt
may_rest state device access Waiting rest = tt
may_rest state device access Asked rest = absurd rest
may_rest state device access (Chain fault) rest = tt
may_rest state device access (Finished head len) rest = tt
may_rest state device access Down rest = tt

pub rest_step : (old new : Parts) (id : ℕ) (step : BlockStep) (reply : Outcome) → IsRest step → Rests old id step reply new → (state : State) → PartsShow old state
    → Steps no_access 0 state id reply state × PartsShow new state
rest_step old new id step reply rest (inl unknown) state shows =
    (acts_absent is_block_device (Taken no_access 0 state reply state) old state id reply shows.devices unknown.absent unknown.reply_is, shows_same old new state unknown.same shows)
rest_step old new id step reply rest (inr (inl unable)) state shows =
    let is = found_kind old id unable.kind unable.there in (
      acts_unable is_block_device (Taken no_access 0 state reply state) old state id reply shows.devices is (found_can old id unable.kind false is unable.there unable.cannot) unable.reply_is,
      shows_same old new state unable.same shows,
    )
rest_step old new id step reply rest (inr (inr (able, is_told, same))) state shows =
    let is = found_kind old id able.0 able.1 in (
      subst (λ t. Steps no_access 0 state id t state) (sym is_told)
          (acts_at is_block_device (Taken no_access 0 state (outcome.Stepped step) state) old state id (outcome.Stepped step) state shows.devices is (found_can old id able.0 true is able.1 able.2)
          (may_rest state (shown_device old.driver.devices (flights_of old.iommu).rows is.device) no_access step rest, refl)),
      shows_same old new state same shows,
    )

-- A STEP BEGINS AN ACCESS

-- what a device does that is able is another such act, where it is one of each device that is found, and a refusal is the same refusal
acts_so : (can : DeviceKind → Bool) (P Q : machine.Device → Type 0) (old new : State) (id : ℕ) (reply reply' : Outcome)
    → ((device : machine.Device) → device_of old id ≡ Some device → P device → Q device) → ((why : Refusal) → reply ≡ outcome.Refused why → reply' ≡ outcome.Refused why)
    → Acts can P old id reply new → Acts can Q old id reply' new
acts_so can P Q old new id reply reply' able refused acts = by (device_of old id) refl acts
  where
    can_so : (b : Bool) (device : machine.Device) → device_of old id ≡ Some device → IfItCan b (P device) old reply new → IfItCan b (Q device) old reply' new
    can_so true device at act = able device at act
    can_so false device at (is, same) = (refused WrongKind is, same)

    by : (found : Option machine.Device) → device_of old id ≡ found
        → MatchOption found ((reply ≡ outcome.Refused NoSuchDevice) × (new ≡ old)) (λ device. IfItCan (can device.kind) (P device) old reply new)
        → MatchOption found ((reply' ≡ outcome.Refused NoSuchDevice) × (new ≡ old)) (λ device. IfItCan (can device.kind) (Q device) old reply' new)
    by None at (is, same) = (refused NoSuchDevice is, same)
    by (Some device) at act = can_so (can device.kind) device at act

-- whether the machine's device has a cache
has_its_cache : (old : Parts) (state : State) (id : ℕ) (b : Bool) → PartsShow old state → caches_translations (kind_in old.devices id) ≡ b
    → (device : machine.Device) → device_of state id ≡ Some device → has_cache device.kind ≡ b
has_its_cache old state id b shows is device at =
    let known = old.driver.devices in
    let rows = (flights_of old.iommu).rows in
    let there : shown_of known rows old.devices id ≡ Some device = ap (λ (ds : List machine.Device). find (λ (d : machine.Device). d.id == id) ds) (sym shows.devices) ∙ at in
    sym (ap (λ (o : Option machine.Device). option_map_or (λ (d : machine.Device). has_cache d.kind) o false) there) ∙ kind_shown known rows old.devices id ∙ is

-- what a request may be answered is what a step may be, of a device without a cache
plain_so : (state next : State) (device : machine.Device) (access : Access) (frame : ℕ) (reply : Outcome) → MayWant access → has_cache device.kind ≡ false
    → MayAnswer state device access frame reply × (next ≡ state_after state device access frame reply) → TakesStep state device access frame reply next
plain_so state next device access frame (outcome.Accepted number) may plain answer =
    (may, subst (λ b. IsAnswered b state device access frame (outcome.Accepted number) next) (sym plain) answer)
plain_so state next device access frame outcome.Busy may plain answer = (may, subst (λ b. IsAnswered b state device access frame outcome.Busy next) (sym plain) answer)
plain_so state next device access frame (outcome.Fault cause) may plain answer = (may, subst (λ b. IsAnswered b state device access frame (outcome.Fault cause) next) (sym plain) answer)
plain_so state next device access frame outcome.BadSpan may plain answer = absurd (answer.0 may.0)
plain_so state next device access frame _ may plain answer = absurd answer.0

-- and through its cache, of one with a cache, but where it misses
cached_so : (state next : State) (device : machine.Device) (access : Access) (frame : ℕ) (reply : Outcome) → MayWant access → has_cache device.kind ≡ true → reply ≢ outcome.Miss
    → MayAnswerThroughCache state device access frame reply × (next ≡ state_after_cached state device access frame reply) → TakesStep state device access frame reply next
cached_so state next device access frame (outcome.Accepted number) may has hits answer =
    (may, subst (λ b. IsAnswered b state device access frame (outcome.Accepted number) next) (sym has) answer)
cached_so state next device access frame outcome.Busy may has hits answer = (may, subst (λ b. IsAnswered b state device access frame outcome.Busy next) (sym has) answer)
cached_so state next device access frame (outcome.Fault cause) may has hits answer = (may, subst (λ b. IsAnswered b state device access frame (outcome.Fault cause) next) (sym has) answer)
cached_so state next device access frame outcome.BadSpan may has hits answer = absurd (answer.0 may.0)
cached_so state next device access frame outcome.Miss may has hits answer = absurd (hits refl)
cached_so state next device access frame _ may has hits answer = absurd answer.0

-- what it leads to: the machine may answer so, on some frame, and shows the parts then
abbrev Leads : State → ℕ → Access → Outcome → Parts → Type 0
Leads state id access reply new = (frame : ℕ) × (next : State) × Steps access frame state id reply next × PartsShow new next

-- whether a miss is told
abbrev is_miss : Outcome → Bool
is_miss outcome.Miss = true
is_miss _ = false

miss_is : (first : Outcome) → is_miss first ≡ true → first ≡ outcome.Miss
miss_is outcome.Miss is = refl
miss_is _ is = absurd (false≢true is)

hits : (first : Outcome) (between new : Parts) (id : ℕ) (access : Access) (reply : Outcome) → is_miss first ≡ false → AsksIfMissed first between id access reply new → (reply ≡ first) × (new ≡ between)
hits outcome.Miss between new id access reply none asks = absurd (false≢true (sym none))
hits _ between new id access reply none asks = asks

-- what is told of a hit
hit_step : (first : Outcome) (old between new : Parts) (id : ℕ) (access : Access) (reply : Outcome) → MayWant access → first ≢ outcome.Miss → reply ≡ first → new ≡ between
    → (state : State) → PartsShow old state → caches_translations (kind_in old.devices id) ≡ true
    → (frame : ℕ) (next : State) → GoesAs is_block_device frame state id access first next → PartsShow between next → Leads state id access reply new
hit_step first old between new id access reply may hit is_told same state shows has frame next goes shown = (
  frame,
  next,
  subst (λ t. Steps access frame state id t next) (sym is_told)
      (acts_so is_block_device (λ device. MayAnswerThroughCache state device access frame first × (next ≡ state_after_cached state device access frame first)) (Taken access frame state first next)
      state next id first first
      (λ device at answer. cached_so state next device access frame first may (has_its_cache old state id true shows has device at) hit answer)
      (λ why is. is) goes),
  subst (λ parts. PartsShow parts next) (sym same) shown,
)

-- a miss leaves the machine's state
miss_stays : (state next : State) (id : ℕ) (access : Access) (frame : ℕ) → GoesAs is_block_device frame state id access outcome.Miss next → next ≡ state
miss_stays state next id access frame goes = by (device_of state id) goes
  where
    can : (b : Bool) (P : Type 0) → (P → next ≡ state) → IfItCan b P state outcome.Miss next → next ≡ state
    can true P same act = same act
    can false P same (is, kept) = kept

    by : (found : Option machine.Device)
        → MatchOption found ((outcome.Miss ≡ outcome.Refused NoSuchDevice) × (next ≡ state))
        (λ device. IfItCan (is_block_device device.kind) (MayAnswerThroughCache state device access frame outcome.Miss × (next ≡ state_after_cached state device access frame outcome.Miss)) state outcome.Miss next)
        → next ≡ state
    by None (is, same) = same
    by (Some device) act =
        can (is_block_device device.kind) (MayAnswerThroughCache state device access frame outcome.Miss × (next ≡ state_after_cached state device access frame outcome.Miss)) (λ answer. answer.1) act

not_refused : (why : Refusal) → outcome.Miss ≡ outcome.Refused why → ⊥
not_refused why is = cc

-- and is told as a question
miss_step : (old between new : Parts) (id : ℕ) (access : Access) (reply : Outcome) → AsksIfMissed outcome.Miss between id access reply new
    → (state : State) → PartsShow old state → caches_translations (kind_in old.devices id) ≡ true
    → (frame : ℕ) (next : State) → GoesAs is_block_device frame state id access outcome.Miss next → PartsShow between next → Leads state id access reply new
miss_step old between new id access reply asks state shows has frame next goes shown =
    let unchanged = miss_stays state next id access frame goes in (
      frame,
      next,
      subst (λ t. Steps access frame state id t next) (sym asks.0)
          (acts_so is_block_device (λ device. MayAnswerThroughCache state device access frame outcome.Miss × (next ≡ state_after_cached state device access frame outcome.Miss))
          (Taken access frame state (outcome.Stepped Asked) next) state next id outcome.Miss (outcome.Stepped Asked)
          (λ device at answer. ((has_its_cache old state id true shows has device at, answer.0), unchanged))
          (λ why is. absurd (not_refused why is)) goes),
      shows_fabric between new (with_sent between.fabric id (sent.Ask (epoch_in between.devices id) (page_of access))) next asks.1 shown,
    )

-- AN ACCESS that a step wants
pub begin_step : {walks : List Walk} → ServiceLaws → (old new : Parts) (events id : ℕ) (access : Access) (reply : Outcome) → InvariantWith walks old events → DriverInvariant old.driver → StaysReported old.driver
    → access.address < 2 ^ 64 → MayWant access → BeginsAccess old id access reply new → (state : State) → PartsShow old state → Leads state id access reply new
begin_step laws old new events id access reply invariants own reported fits may begins state shows = by (caches_translations (kind_in old.devices id)) refl begins
  where
    by_first : (first : Outcome) (between : Parts) → caches_translations (kind_in old.devices id) ≡ true → AsksIfMissed first between id access reply new
        → (frame : ℕ) (next : State) → GoesAs is_block_device frame state id access first next → PartsShow between next
        → (b : Bool) → is_miss first ≡ b → Leads state id access reply new
    by_first first between has asks frame next goes shown true is =
        let miss = miss_is first is in
        miss_step old between new id access reply (subst (λ t. AsksIfMissed t between id access reply new) miss asks) state shows has frame next
        (subst (λ t. GoesAs is_block_device frame state id access t next) miss goes) shown
    by_first first between has asks frame next goes shown false none =
        let both = hits first between new id access reply none asks in
        hit_step first old between new id access reply may (λ same. false≢true (sym none ∙ ap is_miss same)) both.0 both.1 state shows has frame next goes shown

    by : (b : Bool) → caches_translations (kind_in old.devices id) ≡ b → GoesToMemory b old id access reply new → Leads state id access reply new
    by false plain asks =
        let step = request_step is_block_device laws old new events id access reply invariants own reported fits asks state shows in (
          step.0,
          step.1,
          acts_so is_block_device (λ device. MayAnswer state device access step.0 reply × (step.1 ≡ state_after state device access step.0 reply)) (Taken access step.0 state reply step.1) state step.1 id reply reply
              (λ device at answer. plain_so state step.1 device access step.0 reply may (has_its_cache old state id false shows plain device at) answer)
              (λ why is. is) step.2,
          step.3,
        )
    by true has goes =
        let step = through_cache_step is_block_device laws old goes.between events id access goes.first invariants own reported goes.tries state shows in
        by_first goes.first goes.between has goes.asks step.0 step.1 step.2 step.3 (is_miss goes.first) refl
