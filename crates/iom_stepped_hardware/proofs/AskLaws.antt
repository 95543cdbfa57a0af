-- Block devices ask still for what is under way, when an access is made, a disk is put in, a message arrives, or a device is plugged in.
use Rattle.std.proofs.Common.{◌≡◌, ◌≢◌, ◌==◌, ◌∙◌, ◌++◌, ◌∷◌, [], inl, inr, ℕ, Bool, true, false, List, Option, None, Some, is_some, Result, Ok, Err, remove, slice_get, refl, sym, ap, subst, arith, if◌then◌else◌, IfOk}
use Rattle.std.specs.Option.{IfSome}
use Rattle.std.proofs.lemmas.Bool.Decides.{eqb_tells}
use Rattle.std.proofs.lemmas.List.Elements.{All-get_or, All-drop}
use Rattle.iom_ats_cache.specs.Cache.{Cache}
use Rattle.iom_ats_cache.specs.declared.taken.Taken.{Taken}
use Rattle.iom_ats_cache.specs.declared.taken.Taken.TheVariants as taken
use Rattle.iom_base.specs.DeviceKinds.{disk_of}
use Rattle.iom_base.specs.declared.access.AccessKind.{AccessKind}
use Rattle.iom_base.specs.declared.access.AccessKind.TheVariants.{Read, Write}
use Rattle.iom_base.specs.declared.device_kind.DeviceKind.{DeviceKind}
use Rattle.iom_base.specs.declared.device_kind.DeviceKind.TheVariants.{Block}
use Rattle.iom_base.specs.declared.device_kind.NewDevice.{NewDevice}
use Rattle.iom_base.specs.declared.refusal.Refusal.{Refusal}
use Rattle.iom_block_devices.specs.Changes.{ChangesIfThere, ChangesOne, HasDisk, HearsMade, HearsRefusal, block_with}
use Rattle.iom_block_devices.specs.Shown.{ShownBlock, ShownBlocks}
use Rattle.iom_block_devices.proofs.BlockChanges.{as_device, there_still}
use Rattle.iom_board.specs.BoardParts.{BoardParts}
use Rattle.iom_board.specs.Commits.{CommitsOldestAccess, StandWhereMade}
use Rattle.iom_board.specs.Deliveries.{DeliversAtPlace, MessageArrives, MessageArrivesIfAny, TakesReply}
use Rattle.iom_board.specs.Plugging.{PutsDiskIntoDevice, StandsBehindOthers, newly_plugged}
use Rattle.iom_board.specs.declared.answers.Delivered.{Delivered}
use Rattle.iom_board.specs.declared.answers.Delivered.TheVariants as delivered
use Rattle.iom_device.specs.Caches.{HasItsCache, HaveTheirCaches, cache_of, kind_in}
use Rattle.iom_device.specs.declared.device.Device.{Device}
use Rattle.iom_fabric.specs.declared.fabric.OnLink.{OnLink}
use Rattle.iom_fabric.specs.declared.message.Message.{Message}
use Rattle.iom_fabric.specs.declared.message.Message.TheVariants as sent
use Rattle.iom_hardware.specs.Blocks.{DeliversInside, DeliversWhere, GaveBytes, HearsAnswer, HearsIfMade, HearsOldest, PlugsInside, PutsDiskInside, counts, refused_page}
use Rattle.iom_inflight.specs.declared.made.MadeAt.{MadeAt}
use Rattle.iom_virtio_blk.specs.Steps.{Device as BlockDevice}
use Rattle.iom_walks.specs.Calls.{Adds}
use Rattle.iom_walks.specs.Walks.{UnderWay, WalkRow, new_row, row_of}
use Rattle.iom_walks.proofs.Rows.{row_of_append_other, row_of_new}
use Rattle.iom_stepped_board.proofs.SoundEvents.{commit_beside}
use Rattle.iom_stepped_hardware.specs.Beside.{AreBesideHardware, AskStill, AsksStill}
use Rattle.iom_stepped_hardware.proofs.AskLemmas.{asks_by, asks_same, others_stay}
use Rattle.iom_stepped_hardware.proofs.SameKinds.{kind_append, kind_has, kind_set}

-- a block device that is there after a change was there, and changed so
pub record WasThere (How : BlockDevice → BlockDevice → Type 0) (old : List ShownBlock) (id : ℕ) (now : ShownBlock) : Type 0 where
  pub block : ShownBlock
  pub there : block_with old id ≡ Some block
  pub changed : How block.device now.device

pub was_there : (How : BlockDevice → BlockDevice → Type 0) (old new : List ShownBlock) (id : ℕ) (now : ShownBlock) → ChangesOne How old id new → block_with new id ≡ Some now → WasThere How old id now
was_there How old new id now changes there = by (block_with old id) refl changes
  where
    by : (found : Option ShownBlock) → block_with old id ≡ found → ChangesIfThere found How old id new → WasThere How old id now
    by None at same =
        let both : ◌≡◌ {A = Option ShownBlock} None (Some now) = sym at ∙ sym (ap (λ (blocks : List ShownBlock). block_with blocks id) same) ∙ there in
        cc
    by (Some block) at (after, how, is) =
        let both : ◌≡◌ {A = Option ShownBlock} (Some (as_device block after)) (Some now) =
        sym (ap (λ (blocks : List ShownBlock). block_with blocks id) is ∙ there_still old id after block at) ∙ there in
        let same : as_device block after ≡ now = cc in
        record { block = block; there = at; changed = subst (λ (b : ShownBlock). How block.device b.device) same how }

-- A BLOCK DEVICE CHANGES that asks still where it asked
changed_asks : (How : BlockDevice → BlockDevice → Type 0) (devices now : List Device) (old new : List ShownBlock) (rows : List WalkRow) (id : ℕ) → AskStill devices old rows
    → ((other : ℕ) → kind_in now other ≡ kind_in devices other) → ChangesOne How old id new
    → ((block after : ShownBlock) (row : WalkRow) (under_way : UnderWay) → How block.device after.device → AsksStill (kind_in devices id) block.device.front row under_way
    → AsksStill (kind_in devices id) after.device.front row under_way) → AskStill now new rows
changed_asks How devices now old new rows id still kinds changes keeps =
    asks_by devices now old new rows rows id still (λ other ne. kinds other) (others_stay How old new id changes) (λ other ne. refl)
    (λ block row under_way there has is.
    let was = was_there How old new id block changes there in
    subst (λ kind. AsksStill kind block.device.front row under_way) (sym (kinds id))
    (keeps was.block block row under_way was.changed (still id was.block row under_way was.there has is)))

-- AN ACCESS IS MADE
made_devices : (old new : BoardParts) (id : ℕ) (answer : Result (Option MadeAt) Refusal) → CommitsOldestAccess old id answer new → new.devices ≡ old.devices
made_devices old new id answer (inl none) = ap (λ (parts : BoardParts). parts.devices) none.same
made_devices old new id answer (inr (inl wrong)) = ap (λ (parts : BoardParts). parts.devices) wrong.same
made_devices old new id answer (inr (inr does)) = does.call.devices

heard_asks_still : (devices now : List Device) (before after : ShownBlocks) (rows : List WalkRow) (id : ℕ) (number : Option ℕ) (bytes : List ℕ) → AskStill devices before.blocks rows
    → now ≡ devices → HearsOldest number bytes before id after → AskStill now after.blocks rows
heard_asks_still devices now before after rows id None bytes still same hears =
    asks_same devices now before.blocks after.blocks rows rows still same (ap (λ (b : ShownBlocks). b.blocks) hears) refl
heard_asks_still devices now before after rows id (Some number) bytes still same hears =
    changed_asks (HearsMade number bytes) devices now before.blocks after.blocks rows id still (λ other. ap (λ ds. kind_in ds other) same) hears.0 keeps
  where
    keeps : (block after : ShownBlock) (row : WalkRow) (under_way : UnderWay) → HearsMade number bytes block.device after.device → AsksStill (kind_in devices id) block.device.front row under_way
        → AsksStill (kind_in devices id) after.device.front row under_way
    keeps block after row under_way (inl (waits, ends, rest)) asks = let both : ◌≡◌ {A = Option ℕ} None (Some number) = sym asks.asking.waits ∙ waits in cc
    keeps block after row under_way (inr (others, is)) asks = subst (λ (d : BlockDevice). AsksStill (kind_in devices id) d.front row under_way) (sym is) asks

committed_asks : (devices now : List Device) (before after : ShownBlocks) (rows : List WalkRow) (id : ℕ) (answer : Result (Option MadeAt) Refusal) (number : Option ℕ)
    (memory : List (List ℕ)) (bytes : List ℕ) → AskStill devices before.blocks rows → now ≡ devices → HearsIfMade answer number memory before id after
    → IfOk answer (λ made. IfSome made (λ (one : MadeAt). StandWhereMade memory one bytes)) → AskStill now after.blocks rows
committed_asks devices now before after rows id (Err why) number memory bytes still same hears stands =
    asks_same devices now before.blocks after.blocks rows rows still same (ap (λ (b : ShownBlocks). b.blocks) hears) refl
committed_asks devices now before after rows id (Ok None) number memory bytes still same hears stands =
    asks_same devices now before.blocks after.blocks rows rows still same (ap (λ (b : ShownBlocks). b.blocks) hears) refl
committed_asks devices now before after rows id (Ok (Some made)) number memory bytes still same hears stands = by made.kind refl
  where
    by : (kind : AccessKind) → made.kind ≡ kind → AskStill now after.blocks rows
    by Read is = heard_asks_still devices now before after rows id number bytes still same (hears bytes (subst (λ (k : AccessKind). GaveBytes k memory made bytes) (sym is) stands))
    by Write is = heard_asks_still devices now before after rows id number [] still same (hears [] (subst (λ (k : AccessKind). GaveBytes k memory made []) (sym is) refl))

-- A DISK IS PUT IN
pub medium_asks : (disks left : List ℕ) (old new : BoardParts) (before after : ShownBlocks) (rows : List WalkRow) (id disk : ℕ) (answer : Result (Unit {0}) Refusal)
    → AskStill old.devices before.blocks rows → PutsDiskIntoDevice disks old id disk answer new left → PutsDiskInside disk before id answer after → AskStill new.devices after.blocks rows
medium_asks disks left old new before after rows id disk answer still puts inside = elim puts [
  | inl none ↦ refused none.0.answered none.0.same
  | inr (inl wrong) ↦ refused wrong.0.answered wrong.0.same
  | inr (inr (inl cannot)) ↦ refused cannot.answered cannot.same
  | inr (inr (inr takes)) ↦
      let put = subst (λ (a : Result (Unit {0}) Refusal). PutsDiskInside disk before id a after) takes.answered inside in
      changed_asks (HasDisk put.disk) old.devices new.devices before.blocks after.blocks rows id still
      (λ other. ap (λ (parts : BoardParts). kind_in parts.devices other) takes.put ∙ kind_has old.devices id true other) put.changed
      (λ block now row under_way changed asks. subst (λ (d : BlockDevice). AsksStill (kind_in old.devices id) d.front row under_way) (sym changed.1) asks)
]
  where
    refused : {why : Refusal} → answer ≡ Err why → new ≡ old → AskStill new.devices after.blocks rows
    refused {why = why} is same =
        asks_same old.devices new.devices before.blocks after.blocks rows rows still (ap (λ (parts : BoardParts). parts.devices) same)
        (ap (λ (b : ShownBlocks). b.blocks) (subst (λ (a : Result (Unit {0}) Refusal). PutsDiskInside disk before id a after) is inside)) refl

-- A MESSAGE ARRIVES: the devices are what they were
arrived_kinds : (message : Message) (old new : BoardParts) (id : ℕ) (others : List OnLink) (is : Delivered) → MessageArrives message old id others is new → (other : ℕ)
    → kind_in new.devices other ≡ kind_in old.devices other
arrived_kinds (sent.Ask epoch page) old new id others (delivered.Answered answer) asks other = ap (λ ds. kind_in ds other) asks.devices
arrived_kinds (sent.Ask epoch page) old new id others _ never other = absurd never
arrived_kinds (sent.Answer epoch page answer) old new id others is takes other =
    ap (λ (parts : BoardParts). kind_in parts.devices other) takes.rest ∙ kind_set old.devices id takes.after other
arrived_kinds (sent.InvReq serial range) old new id others (delivered.Invalidated named) (is, (done, after, obeys, rest)) other =
    ap (λ (parts : BoardParts). kind_in parts.devices other) rest ∙ kind_set old.devices id after other
arrived_kinds (sent.InvReq serial range) old new id others delivered.Ignored (after, obeys, rest) other =
    ap (λ (parts : BoardParts). kind_in parts.devices other) rest ∙ kind_set old.devices id after other
arrived_kinds (sent.InvReq serial range) old new id others _ never other = absurd never
arrived_kinds (sent.InvDone serial) old new id others (delivered.Closed named) (is, takes) other = ap (λ ds. kind_in ds other) takes.devices
arrived_kinds (sent.InvDone serial) old new id others (delivered.NotClosed named) (is, takes) other = ap (λ ds. kind_in ds other) takes.devices
arrived_kinds (sent.InvDone serial) old new id others _ never other = absurd never

-- a device with a cache is no block device without one
pub cached_kind : (devices : List Device) (id : ℕ) → HaveTheirCaches devices → kind_in devices id ≡ Some Block → cache_of devices id ≡ None
cached_kind [] id own is = cc
cached_kind (first ∷ others) id own is = elim (eqb_tells first.id id) [
  | inl e ↦
      let here : ◌≡◌ {A = Option DeviceKind} (Some first.kind) (Some Block) = rw e.0 at is in
      let kind : first.kind ≡ Block = cc in
      let has : HasItsCache first = All-get_or HasItsCache (first ∷ others) 0 first (omega arith) own in
      rw e.0 (none_of first.cache (rw kind at has))
  | inr ne ↦
      let later : kind_in others id ≡ Some Block = rw ne.0 at is in
      rw ne.0 (cached_kind others id (All-drop HasItsCache 1 (first ∷ others) own) later)
]
  where
    none_of : (cache : Option Cache) → is_some cache ≡ false → cache ≡ None
    none_of None none = refl
    none_of (Some cache) none = cc

-- an answer that counts comes to a device with a cache
taken_cache : (message : Message) (old new : BoardParts) (id : ℕ) (others : List OnLink) (taking : Taken) → MessageArrives message old id others (delivered.Taken taking) new
    → cache_of old.devices id ≡ None → ⊥
taken_cache (sent.Ask epoch page) old new id others taking never none = absurd never
taken_cache (sent.InvReq serial range) old new id others taking never none = absurd never
taken_cache (sent.InvDone serial) old new id others taking never none = absurd never
taken_cache (sent.Answer epoch page answer) old new id others taking takes none = by (cache_of old.devices id) none takes.cache
  where
    by : (cache : Option Cache) → cache ≡ None → TakesReply cache epoch page answer (delivered.Taken taking) takes.after → ⊥
    by None same never = absurd never
    by (Some cache) same took = cc

-- nobody hears of a message but where that is an answer that counts
heard_asks : (devices now : List Device) (before after : ShownBlocks) (rows : List WalkRow) (on : OnLink) → AskStill devices before.blocks rows
    → ((other : ℕ) → kind_in now other ≡ kind_in devices other) → (kind_in devices on.device ≡ Some Block → ⊥) → (page : Option ℕ) → HearsAnswer page before on.device after
    → AskStill now after.blocks rows
heard_asks devices now before after rows on still kinds no_block None same =
    asks_by devices now before.blocks after.blocks rows rows on.device still (λ other ne. kinds other) (λ other ne. ap (λ (b : ShownBlocks). block_with b.blocks other) same) (λ other ne. refl)
    (λ block row under_way there has is.
    absurd (no_block (still on.device block row under_way (sym (ap (λ (b : ShownBlocks). block_with b.blocks on.device) same) ∙ there) has is).kind))
heard_asks devices now before after rows on still kinds no_block (Some page) hears =
    asks_by devices now before.blocks after.blocks rows rows on.device still (λ other ne. kinds other) (others_stay (HearsRefusal page) before.blocks after.blocks on.device hears.0) (λ other ne. refl)
    (λ block row under_way there has is.
    let was = was_there (HearsRefusal page) before.blocks after.blocks on.device block hears.0 there in
    absurd (no_block (still on.device was.block row under_way was.there has is).kind))

-- where nobody hears
unheard_asks : (devices now : List Device) (before after : ShownBlocks) (rows : List WalkRow) → AskStill devices before.blocks rows → ((other : ℕ) → kind_in now other ≡ kind_in devices other)
    → after ≡ before → AskStill now after.blocks rows
unheard_asks devices now before after rows still kinds same id block row under_way there has is =
    subst (λ kind. AsksStill kind block.device.front row under_way) (sym (kinds id))
    (still id block row under_way (sym (ap (λ (b : ShownBlocks). block_with b.blocks id) same) ∙ there) has is)

pub delivered_asks : (old new : BoardParts) (before after : ShownBlocks) (rows : List WalkRow) (place : ℕ) (is : Delivered) → HaveTheirCaches old.devices → AskStill old.devices before.blocks rows
    → DeliversAtPlace old place is new → DeliversInside (slice_get old.fabric place) is before after → AskStill new.devices after.blocks rows
delivered_asks old new before after rows place is caches still delivers inside = any (slice_get old.fabric place) delivers inside
  where
    come : (on : OnLink) (what : Delivered) → MessageArrives on.message old on.device (remove old.fabric place) what new → DeliversWhere (counts what) (Some on) before after
        → AskStill new.devices after.blocks rows
    come on (delivered.Taken taken.Refused) arrives heard =
        heard_asks old.devices new.devices before after rows on still (arrived_kinds on.message old new on.device (remove old.fabric place) (delivered.Taken taken.Refused) arrives)
        (λ block. taken_cache on.message old new on.device (remove old.fabric place) taken.Refused arrives (cached_kind old.devices on.device caches block)) (refused_page on.message) heard
    come on (delivered.Taken taken.Stale) arrives same =
        unheard_asks old.devices new.devices before after rows still (arrived_kinds on.message old new on.device (remove old.fabric place) (delivered.Taken taken.Stale) arrives) same
    come on (delivered.Taken taken.Kept) arrives same =
        unheard_asks old.devices new.devices before after rows still (arrived_kinds on.message old new on.device (remove old.fabric place) (delivered.Taken taken.Kept) arrives) same
    come on (delivered.Answered answer) arrives same =
        unheard_asks old.devices new.devices before after rows still (arrived_kinds on.message old new on.device (remove old.fabric place) (delivered.Answered answer) arrives) same
    come on delivered.Ignored arrives same =
        unheard_asks old.devices new.devices before after rows still (arrived_kinds on.message old new on.device (remove old.fabric place) delivered.Ignored arrives) same
    come on (delivered.Invalidated serial) arrives same =
        unheard_asks old.devices new.devices before after rows still (arrived_kinds on.message old new on.device (remove old.fabric place) (delivered.Invalidated serial) arrives) same
    come on (delivered.Closed serial) arrives same =
        unheard_asks old.devices new.devices before after rows still (arrived_kinds on.message old new on.device (remove old.fabric place) (delivered.Closed serial) arrives) same
    come on (delivered.NotClosed serial) arrives same =
        unheard_asks old.devices new.devices before after rows still (arrived_kinds on.message old new on.device (remove old.fabric place) (delivered.NotClosed serial) arrives) same
    come on delivered.NoMessage arrives same =
        unheard_asks old.devices new.devices before after rows still (arrived_kinds on.message old new on.device (remove old.fabric place) delivered.NoMessage arrives) same

    none : (what : Delivered) → MessageArrivesIfAny None old (remove old.fabric place) what new → DeliversWhere (counts what) None before after → after ≡ before
    none what (absent, same) heard = subst (λ (d : Delivered). DeliversWhere (counts d) None before after) absent heard

    any : (on : Option OnLink) → MessageArrivesIfAny on old (remove old.fabric place) is new → DeliversInside on is before after → AskStill new.devices after.blocks rows
    any None arrives heard = unheard_asks old.devices new.devices before after rows still (λ other. ap (λ (parts : BoardParts). kind_in parts.devices other) arrives.1) (none is arrives heard)
    any (Some on) arrives heard = come on is arrives heard

-- A DEVICE IS PLUGGED IN: nothing of it is under way
block_append_other : (blocks : List ShownBlock) (new : ShownBlock) (other : ℕ) → other ≢ new.id → block_with (blocks ++ new ∷ []) other ≡ block_with blocks other
block_append_other [] new other ne = elim (eqb_tells new.id other) [
  | inl e ↦ absurd (ne (sym e.1))
  | inr differs ↦ rw differs.0 refl
]
block_append_other (first ∷ others) new other ne = by (first.id == other) (block_append_other others new other ne)
  where
    by : (b : Bool) → block_with (others ++ new ∷ []) other ≡ block_with others other
        → ◌≡◌ {A = Option ShownBlock} (if b then Some first else block_with (others ++ new ∷ []) other) (if b then Some first else block_with others other)
    by true rest = refl
    by false rest = rest

pub plugged_asks : (disks left : List ℕ) (old new : BoardParts) (before after : ShownBlocks) (rows new_rows : List WalkRow) (id : ℕ) (what : NewDevice) → AskStill old.devices before.blocks rows
    → StandsBehindOthers disks old id what new left → PlugsInside (disk_of what) before id (Ok tt) after → Adds rows id true new_rows → AskStill new.devices after.blocks new_rows
plugged_asks disks left old new before after rows new_rows id what still stands inside adds =
    asks_by old.devices new.devices before.blocks after.blocks rows new_rows id still
    (λ other ne. ap (λ ds. kind_in ds other) stands.devices ∙ kind_append old.devices (newly_plugged id what) other ne) (others (disk_of what) inside)
    (λ other ne. ap (λ (rs : List WalkRow). row_of rs other) adds.2 ∙ row_of_append_other rows (new_row id) other ne)
    (λ block row under_way there has is.
    let own : row_of new_rows id ≡ Some (new_row id) = ap (λ (rs : List WalkRow). row_of rs id) adds.2 ∙ row_of_new rows (new_row id) adds.0 in
    let both : ◌≡◌ {A = Option WalkRow} (Some (new_row id)) (Some row) = sym own ∙ has in
    let same : new_row id ≡ row = cc in
    let none : ◌≡◌ {A = Option UnderWay} None (Some under_way) = ap (λ (r : WalkRow). r.under_way) same ∙ is in
    cc)
  where
    others : (named : Option ℕ) → PlugsInside named before id (Ok tt) after → (other : ℕ) → other ≢ id → block_with after.blocks other ≡ block_with before.blocks other
    others None same other ne = ap (λ (b : ShownBlocks). block_with b.blocks other) same
    others (Some number) plugged other ne =
        ap (λ (bs : List ShownBlock). block_with bs other) plugged.behind ∙ block_append_other before.blocks (record { id = id; device = plugged.after }) other ne

-- AN ACCESS IS MADE: what is under way stays beside the hardware
pub committed_beside : (old new : BoardParts) (before after : ShownBlocks) (rows : List WalkRow) (id : ℕ) (answer : Result (Option MadeAt) Refusal) (number : Option ℕ) (bytes : List ℕ)
    → AreBesideHardware old before.blocks rows → CommitsOldestAccess old id answer new → HearsIfMade answer number new.memory before id after
    → IfOk answer (λ made. IfSome made (λ (one : MadeAt). StandWhereMade new.memory one bytes)) → AreBesideHardware new after.blocks rows
committed_beside old new before after rows id answer number bytes beside commits hears stands = record {
  board = commit_beside old new rows id answer beside.board commits;
  asking = committed_asks old.devices new.devices before after rows id answer number new.memory bytes beside.asking (made_devices old new id answer commits) hears stands;
}
