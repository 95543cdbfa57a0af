-- What is under way stays beside a world, whatever happens there.
use Rattle.std.proofs.Common.{◌≡◌, ◌≢◌, ◌∙◌, ◌==◌, ◌++◌, ◌∷◌, [], inl, inr, ℕ, Bool, true, false, List, Option, None, Some, is_some, slice_get, remove, ap, refl, sym, subst, if◌then◌else◌}
use Rattle.std.specs.Option.{option_map_or}
use Rattle.std.proofs.lemmas.Bool.Decides.{eqb_tells}
use Rattle.iom_ats_cache.specs.Cache.{Cache}
use Rattle.iom_base.specs.DeviceKinds.{disk_of, is_block_device}
use Rattle.iom_base.specs.declared.device_kind.DeviceKind.{DeviceKind}
use Rattle.iom_base.specs.declared.device_kind.DeviceKind.TheVariants.{Block}
use Rattle.iom_block_devices.specs.Changes.{Changes, ChangesOne, HasDisk, HearsMade, HearsRefusal, IsGivenUp, IsReset, SetsUp, block_with}
use Rattle.iom_block_devices.specs.Shown.{ShownBlock, ShownBlocks}
use Rattle.iom_device.specs.Caches.{IsAble, cache_of, kind_in}
use Rattle.iom_block_devices.specs.Wanted.{wanted_access}
use Rattle.iom_board.specs.Invariant.{device_ids, flight_ids}
use Rattle.iom_device.specs.declared.device.Device.{Device}
use Rattle.iom_fabric.specs.declared.fabric.OnLink.{OnLink}
use Rattle.iom_fabric.specs.declared.message.Message.{Message}
use Rattle.iom_fabric.specs.declared.message.Message.TheVariants as sent
use Rattle.iom_fabric.specs.declared.message.Translation.{Translation}
use Rattle.iom_hardware.specs.Blocks.{BlocksUnchanged, HearsAnswer, HearsOldest, oldest_number, refused_page}
use Rattle.iom_inflight.specs.Flights.{Flights, row_of as flight_row}
use Rattle.iom_iommu.specs.Parts.{flights_of}
use Rattle.iom_machine.specs.declared.event.Event.{Event}
use Rattle.iom_machine.specs.declared.event.Event.TheVariants as events
use Rattle.iom_machine.specs.declared.outcome.Outcome.{Outcome}
use Rattle.iom_machine.specs.declared.outcome.Outcome.TheVariants as outcome
use Rattle.iom_stepped_board.specs.Beside.{AreBeside, walk_ids}
use Rattle.iom_stepped_board.proofs.BesideLemmas.{first_same, made_beside, stays}
use Rattle.iom_stepped_hardware.specs.Beside.{AreBesideHardware, AskStill, AsksStill}
use Rattle.iom_stepped_hardware.proofs.AskLaws.{cached_kind, was_there}
use Rattle.iom_stepped_hardware.proofs.AskLemmas.{others_stay}
use Rattle.iom_stepped_refinement.proofs.KindsStay.{KindsStay, kinds_stay}
use Rattle.iom_stepped_refinement.specs.Laws.{LeavesRows}
use Rattle.iom_stepped_world.proofs.OtherLemmas.{IsOther}
use Rattle.iom_virtio_blk.specs.Blocks.{IsAsking, wanted_by}
use Rattle.iom_virtio_blk.specs.Steps.{Device as BlockDevice}
use Rattle.iom_virtqueue.specs.Layouts.{layout_of}
use Rattle.iom_walks.specs.Walks.{UnderWay, WalkRow, row_of, under_way_in, under_way_of}
use Rattle.iom_world.specs.Blocks.{CommitsOf, DeliversTo, EffectOnBlocks, IfDone, InsertsIntoBlock, LeavesBlock, PlugsBlock}
use Rattle.iom_world.specs.OnHardware.{hardware_of}
use Rattle.iom_world.specs.Shown.{Shown}
use Rattle.iom_world.proofs.IommuStays.{LeavesFlights, flights_left}
use Rattle.iom_world_effects.specs.Commits.{CommitsAccess}
use Rattle.iom_world_effects.specs.Deliveries.{Arrives, ArrivesIfAny, TakesInto}
use Rattle.iom_world_effects.specs.Effect.{Effect}
use Rattle.iom_world_effects.specs.Invariant.{AreKnown}
use Rattle.iom_world_effects.specs.Parts.{Parts}
use Rattle.iom_world_walks.specs.Events.{GivesUp}

-- THE BLOCK DEVICE THAT ASKS asks still: it was there, and what it wants is as it was
pub record AskedBefore (old : List ShownBlock) (id : ℕ) (now : ShownBlock) : Type 0 where
  pub was : ShownBlock
  pub there : block_with old id ≡ Some was
  pub front : IsAsking was.device.front → now.device.front ≡ was.device.front

stayed : (old new : ShownBlocks) (id : ℕ) (now : ShownBlock) → block_with new.blocks id ≡ Some now → BlocksUnchanged old new → AskedBefore old.blocks id now
stayed old new id now at same = record { was = now; there = sym (ap (λ (b : ShownBlocks). block_with b.blocks id) same) ∙ at; front = λ asks. refl }

-- where another changes
other_changed : (How : BlockDevice → BlockDevice → Type 0) (old new : ShownBlocks) (device id : ℕ) (now : ShownBlock) → block_with new.blocks id ≡ Some now → Changes How old device new → device ≢ id
    → AskedBefore old.blocks id now
other_changed How old new device id now at changes ne =
    record { was = now; there = sym (others_stay How old.blocks new.blocks device changes.0 id (λ is. ne (sym is))) ∙ at; front = λ asks. refl }

-- or any, but not what it wants
changed_asks : (How : BlockDevice → BlockDevice → Type 0) (old new : ShownBlocks) (device id : ℕ) (now : ShownBlock) → block_with new.blocks id ≡ Some now → ChangesOne How old.blocks device new.blocks
    → ((before after : BlockDevice) → IsAsking before.front → How before after → after.front ≡ before.front) → AskedBefore old.blocks id now
changed_asks How old new device id now at changes keeps = elim (eqb_tells device id) [
  | inl e ↦
      let own = subst (λ n. ChangesOne How old.blocks n new.blocks) e.1 changes in
      let was = was_there How old.blocks new.blocks id now own at in
      record { was = was.block; there = was.there; front = λ asks. keeps was.block.device now.device asks was.changed }
  | inr ne ↦ record { was = now; there = sym (others_stay How old.blocks new.blocks device changes id (λ is. ne.1 (sym is))) ∙ at; front = λ asks. refl }
]

-- one that is done gives up, or leaves them
done_or_stays : (How : BlockDevice → BlockDevice → Type 0) (old new : ShownBlocks) (device id : ℕ) (now : ShownBlock) (answered : Outcome) → block_with new.blocks id ≡ Some now
    → (answered ≡ outcome.Done → device ≢ id) → IfDone answered (Changes How old device new) old new → AskedBefore old.blocks id now
done_or_stays How old new device id now outcome.Done at keeps changes = other_changed How old new device id now at changes (keeps refl)
done_or_stays How old new device id now _ at keeps same = stayed old new id now at same

heard : (number : Option ℕ) (bytes : List ℕ) (old new : ShownBlocks) (device id : ℕ) (now : ShownBlock) → block_with new.blocks id ≡ Some now → HearsOldest number bytes old device new → AskedBefore old.blocks id now
heard None bytes old new device id now at same = stayed old new id now at same
heard (Some number) bytes old new device id now at hears = changed_asks (HearsMade number bytes) old new device id now at hears.0 keeps
  where
    keeps : (before after : BlockDevice) → IsAsking before.front → HearsMade number bytes before after → after.front ≡ before.front
    keeps before after asks (inl (waits, ends, rest)) = let both : ◌≡◌ {A = Option ℕ} None (Some number) = sym asks.waits ∙ waits in cc
    keeps before after asks (inr (others, is)) = ap (λ (d : BlockDevice). d.front) is

committed : (number : Option ℕ) (old new : ShownBlocks) (device id : ℕ) (now : ShownBlock) (answered : Outcome) → block_with new.blocks id ≡ Some now → CommitsOf number old device answered new
    → AskedBefore old.blocks id now
committed number old new device id now (outcome.Read bytes) at hears = heard number bytes.items old new device id now at hears
committed number old new device id now (outcome.Wrote count) at hears = heard number [] old new device id now at hears
committed number old new device id now _ at same = stayed old new id now at same

-- A MESSAGE: a device without a cache hears of no answer
abbrev HearsOf : OnLink → ℕ → Outcome → Type 0
HearsOf on id answered = (answered ≡ outcome.AnswerRefused) × (on.device ≡ id)

no_cache_hears : (cache : Option Cache) (epoch page : ℕ) (answer : Translation) (answered : Outcome) (after : Option Cache) → cache ≡ None → TakesInto cache epoch page answer answered after
    → answered ≡ outcome.AnswerRefused → ⊥
no_cache_hears None epoch page answer answered after none (is, same) refused = let both : outcome.Ignored ≡ outcome.AnswerRefused = sym is ∙ refused in cc
no_cache_hears (Some cache) epoch page answer answered after none takes refused = cc

not_heard : (old new : Parts) (on : OnLink) (others : List OnLink) (id : ℕ) (answered : Outcome) → cache_of old.devices id ≡ None → Arrives on.message old on.device others answered new → answered ≡ outcome.AnswerRefused
    → is_some (refused_page on.message) ≡ true → on.device ≢ id
not_heard old new on others id answered none arrives refused brings is = by on.message refl arrives
  where
    by : (message : Message) → on.message ≡ message → Arrives message old on.device others answered new → ⊥
    by (sent.Ask epoch page) at asks = let both : ◌≡◌ {A = Bool} false true = ap (λ m. is_some (refused_page m)) (sym at) ∙ brings in cc
    by (sent.InvReq serial range) at asks = let both : ◌≡◌ {A = Bool} false true = ap (λ m. is_some (refused_page m)) (sym at) ∙ brings in cc
    by (sent.InvDone serial) at asks = let both : ◌≡◌ {A = Bool} false true = ap (λ m. is_some (refused_page m)) (sym at) ∙ brings in cc
    by (sent.Answer epoch page answer) at takes =
        no_cache_hears (cache_of old.devices on.device) epoch page answer answered takes.after (subst (λ n. cache_of old.devices n ≡ None) (sym is) none) takes.cache refused

-- A DEVICE IS PLUGGED IN behind the others
append_has : (blocks : List ShownBlock) (last : ShownBlock) (id : ℕ) (was : ShownBlock) → block_with blocks id ≡ Some was → block_with (blocks ++ last ∷ []) id ≡ Some was
append_has [] last id was at = cc
append_has (first ∷ others) last id was at = by (first.id == id) at (append_has others last id was)
  where
    by : (b : Bool) → (if b then Some first else block_with others id) ≡ Some was → (block_with others id ≡ Some was → block_with (others ++ last ∷ []) id ≡ Some was)
        → (if b then Some first else block_with (others ++ last ∷ []) id) ≡ Some was
    by true here later = here
    by false here later = later here

plugged : (number : Option ℕ) (old new : ShownBlocks) (device id : ℕ) (now was : ShownBlock) (answered : Outcome) → block_with new.blocks id ≡ Some now → block_with old.blocks id ≡ Some was
    → PlugsBlock number old device answered new → AskedBefore old.blocks id now
plugged None old new device id now was answered at there same = stayed old new id now at same
plugged (Some number) old new device id now was outcome.Done at there is =
    let still = ap (λ (bs : List ShownBlock). block_with bs id) is.behind ∙ append_has old.blocks (record { id = device; device = is.after }) id was there in
    let both : ◌≡◌ {A = Option ShownBlock} (Some was) (Some now) = sym still ∙ at in
    let same : was ≡ now = cc in
    record { was = was; there = there; front = λ asks. ap (λ (b : ShownBlock). b.device.front) (sym same) }
plugged (Some number) old new device id now was _ at there same = stayed old new id now at same

-- A DISK IS PUT IN
put_in : (number : ℕ) (old new : ShownBlocks) (device id : ℕ) (now : ShownBlock) (answered : Outcome) → block_with new.blocks id ≡ Some now → InsertsIntoBlock number old device answered new → AskedBefore old.blocks id now
put_in number old new device id now outcome.Done at is = changed_asks (HasDisk is.disk) old new device id now at is.changed (λ before after asks has. ap (λ (d : BlockDevice). d.front) has.1)
put_in number old new device id now _ at same = stayed old new id now at same

-- AN ANSWER THAT GIVES NOTHING
answered_none : (page : Option ℕ) (old new : ShownBlocks) (device id : ℕ) (now : ShownBlock) → block_with new.blocks id ≡ Some now → (is_some page ≡ true → device ≢ id) → HearsAnswer page old device new
    → AskedBefore old.blocks id now
answered_none None old new device id now at keeps same = stayed old new id now at same
answered_none (Some page) old new device id now at keeps changes = other_changed (HearsRefusal page) old new device id now at changes (keeps refl)

brought : (on : Option OnLink) (old new : Shown) (others : List OnLink) (id : ℕ) (now : ShownBlock) (answered : Outcome) → block_with new.inside.blocks id ≡ Some now → cache_of old.parts.devices id ≡ None
    → ArrivesIfAny on old.parts others answered new.parts → DeliversTo on old.inside answered new.inside → AskedBefore old.inside.blocks id now
brought None old new others id now outcome.AnswerRefused at none arrives same = stayed old.inside new.inside id now at same
brought (Some on) old new others id now outcome.AnswerRefused at none arrives hears =
    answered_none (refused_page on.message) old.inside new.inside on.device id now at (λ brings. not_heard old.parts new.parts on others id outcome.AnswerRefused none arrives refl brings) hears
brought on old new others id now _ at none arrives same = stayed old.inside new.inside id now at same

-- IT LEAVES
left : (old new : Shown) (device id : ℕ) (now : ShownBlock) (answered : Outcome) → block_with new.inside.blocks id ≡ Some now → kind_in old.parts.devices id ≡ Some Block
    → (GivesUp old.parts (events.Detach device) answered id → ⊥) → LeavesBlock old.inside device answered new.inside → AskedBefore old.inside.blocks id now
left old new device id now (outcome.Ticket ticket) at kind keeps changes = other_changed IsGivenUp old.inside new.inside device id now at changes
    (λ is. keeps (sym is, (ticket, refl), subst (λ n. option_map_or is_block_device (kind_in old.parts.devices n) false ≡ true) (sym is) (ap (λ k. option_map_or is_block_device k false) kind)))
left old new device id now _ at kind keeps same = stayed old.inside new.inside id now at same

asked_before : (disks : List ℕ) (old new : Shown) (event : Event) (answered : Outcome) (id : ℕ) (now was : ShownBlock) → IsOther event → cache_of old.parts.devices id ≡ None
    → kind_in old.parts.devices id ≡ Some Block → block_with old.inside.blocks id ≡ Some was → block_with new.inside.blocks id ≡ Some now → (GivesUp old.parts event answered id → ⊥)
    → Effect disks old.parts event answered new.parts → EffectOnBlocks old event answered new → AskedBefore old.inside.blocks id now
asked_before disks old new (events.Plug device what) answered id now was other none kind there at keeps effect blocks =
    plugged (disk_of what) old.inside new.inside device id now was answered at there blocks
asked_before disks old new (events.Medium device number) answered id now was other none kind there at keeps effect blocks = put_in number old.inside new.inside device id now answered at blocks
asked_before disks old new (events.Detach device) answered id now was other none kind there at keeps effect blocks = left old new device id now answered at kind keeps blocks
asked_before disks old new (events.Revive device) answered id now was other none kind there at keeps effect blocks =
    done_or_stays IsReset old.inside new.inside device id now answered at (λ done is. keeps (sym is, done)) blocks
asked_before disks old new (events.Reset device) answered id now was other none kind there at keeps effect blocks =
    done_or_stays IsReset old.inside new.inside device id now answered at (λ done is. keeps (sym is, done)) blocks
asked_before disks old new (events.Queue device size descriptors available used) answered id now was other none kind there at keeps effect blocks =
    done_or_stays (SetsUp (layout_of size descriptors available used)) old.inside new.inside device id now answered at (λ done is. keeps (sym is, done)) blocks
asked_before disks old new (events.Commit device) answered id now was other none kind there at keeps effect blocks =
    committed (oldest_number (flight_row (flights_of old.parts.iommu).rows device)) old.inside new.inside device id now answered at blocks
asked_before disks old new (events.Deliver place) answered id now was other none kind there at keeps effect blocks =
    brought (slice_get old.parts.fabric place) old new (remove old.parts.fabric place) id now answered at none effect blocks
asked_before disks old new (events.Status device) answered id now was other none kind there at keeps effect blocks = stayed old.inside new.inside id now at blocks.2
asked_before disks old new (events.Read device address len) answered id now was other none kind there at keeps effect blocks = absurd other
asked_before disks old new (events.Write device address bytes) answered id now was other none kind there at keeps effect blocks = absurd other
asked_before disks old new (events.ReadTranslated device address len) answered id now was other none kind there at keeps effect blocks = absurd other
asked_before disks old new (events.WriteTranslated device address bytes) answered id now was other none kind there at keeps effect blocks = absurd other
asked_before disks old new (events.ReadThroughCache device address len) answered id now was other none kind there at keeps effect blocks = absurd other
asked_before disks old new (events.WriteThroughCache device address bytes) answered id now was other none kind there at keeps effect blocks = absurd other
asked_before disks old new (events.Step device) answered id now was other none kind there at keeps effect blocks = absurd other
asked_before disks old new events.Fetch answered id now was other none kind there at keeps effect blocks = absurd other
asked_before disks old new _ answered id now was other none kind there at keeps effect blocks = stayed old.inside new.inside id now at blocks

-- a device of which a request is under way is there
pub device_there : (rows : List WalkRow) (devices : List Device) (id : ℕ) (row : WalkRow) → walk_ids rows ≡ device_ids devices → row_of rows id ≡ Some row → (kind : DeviceKind) × (kind_in devices id ≡ Some kind)
device_there [] devices id row same here = cc
device_there (first ∷ rows) [] id row same here = cc
device_there (first ∷ rows) (device ∷ others) id row same here =
    let both = first_same first.device device.id (walk_ids rows) (device_ids others) same in
    elim (eqb_tells first.device id) [
      | inl e ↦ (device.kind, rw (ap (λ n. n == id) (sym both.0) ∙ e.0) refl)
      | inr ne ↦
          let later = device_there rows others id row both.1 (rw ne.0 at here) in
          (later.0, rw (ap (λ n. n == id) (sym both.0) ∙ ne.0) later.1)
    ]

-- ALL ASK STILL
pub asking_after : (disks : List ℕ) (old new : Shown) (rows new_rows : List WalkRow) (event : Event) (answered : Outcome) → IsOther event → AreKnown old.parts
    → AreBesideHardware (hardware_of old.parts) old.inside.blocks rows
    → ((id : ℕ) → IsAble is_block_device old.parts.devices id → block_with old.inside.blocks id ≡ None → ⊥)
    → ((id : ℕ) (block : ShownBlock) → block_with new.inside.blocks id ≡ Some block → IsAble is_block_device new.parts.devices id)
    → Effect disks old.parts event answered new.parts → EffectOnBlocks old event answered new → LeavesRows old.parts event answered rows new_rows
    → AskStill new.parts.devices new.inside.blocks new_rows
asking_after disks old new rows new_rows event answered other known beside there able effect blocks leaves id now row own at has walks =
    elim (leaves.left id keeps) [
      | inl same ↦ from (sym same ∙ has)
      | inr idle ↦ absurd (none_some (under_way_of new_rows id) idle.1 under_way)
    ]
  where
    none_some : (u : Option UnderWay) → u ≡ None → u ≡ Some own → ⊥
    none_some u none some = let both : ◌≡◌ {A = Option UnderWay} None (Some own) = sym none ∙ some in cc

    under_way : under_way_of new_rows id ≡ Some own
    under_way = ap under_way_in has ∙ walks

    keeps : GivesUp old.parts event answered id → ⊥
    keeps gives = none_some (under_way_of new_rows id) (leaves.gone id gives) under_way

    from : row_of rows id ≡ Some row → AsksStill (kind_in new.parts.devices id) now.device.front row own
    from had = by (block_with old.inside.blocks id) refl
      where
        kinds : KindsStay old.parts.devices new.parts.devices
        kinds = kinds_stay disks old.parts new.parts event answered effect

        here : (kind : DeviceKind) × (kind_in old.parts.devices id ≡ Some kind)
        here = device_there rows old.parts.devices id row beside.board.ids had

        is_block : is_block_device here.0 ≡ true
        is_block =
            let so = able id now at in
            let both : ◌≡◌ {A = Option DeviceKind} (Some so.0) (Some here.0) = sym so.1 ∙ kinds id here.0 here.1 in
            let same : so.0 ≡ here.0 = cc in
            ap is_block_device (sym same) ∙ so.2

        by : (found : Option ShownBlock) → block_with old.inside.blocks id ≡ found → AsksStill (kind_in new.parts.devices id) now.device.front row own
        by None absent = absurd (there id (here.0, here.1, is_block) absent)
        by (Some was) before =
            let asked = beside.asking id was row own before had walks in
            let so = asked_before disks old new event answered id now was other (cached_kind old.parts.devices id known.caches asked.kind) asked.kind before at keeps effect blocks in
            let both : ◌≡◌ {A = Option ShownBlock} (Some so.was) (Some was) = sym so.there ∙ before in
            let same : so.was ≡ was = cc in
            let front : now.device.front ≡ was.device.front = so.front (subst (λ (b : ShownBlock). IsAsking b.device.front) (sym same) asked.asking) ∙ ap (λ (b : ShownBlock). b.device.front) same in
            record {
              kind = kinds id Block asked.kind;
              asking = subst IsAsking (sym front) asked.asking;
              wants = ap (λ f. wanted_access (wanted_by f)) front ∙ asked.wants;
            }

-- THE BOARD, where no access in flight comes or goes
pub board_left : (disks : List ℕ) (old new : Parts) (rows : List WalkRow) (event : Event) (answered : Outcome) → LeavesFlights event → AreKnown old → AreKnown new → AreBeside (hardware_of old) rows
    → Effect disks old event answered new → AreBeside (hardware_of new) rows
board_left disks old new rows event answered leaves knew knows beside effect =
    let flights : flights_of new.iommu ≡ flights_of old.iommu = ap (λ kept. kept.0) (flights_left disks old new event answered leaves effect) in
    stays (hardware_of old) (hardware_of new) rows beside (sym knows.iommu ∙ ap (λ (f : Flights). flight_ids f.rows) flights ∙ knew.iommu) flights

-- and where one is made
pub board_made : (old new : Parts) (rows : List WalkRow) (id : ℕ) (answered : Outcome) → AreBeside (hardware_of old) rows → CommitsAccess old id answered new → AreBeside (hardware_of new) rows
board_made old new rows id answered beside (inl unknown) = subst (λ (p : Parts). AreBeside (hardware_of p) rows) (sym unknown.same) beside
board_made old new rows id answered beside (inr makes) =
    made_beside (hardware_of old) (hardware_of new) rows id makes.made old.memory new.memory beside (ap device_ids makes.devices) makes.call.makes
