-- Block devices ask still for what is under way, when a request begins, a load is made, or a block device takes a step.
use Rattle.std.proofs.Common.{◌≡◌, ◌≢◌, ◌⊎◌, ◌∙◌, inl, inr, ℕ, true, List, Option, None, Some, Result, Ok, Err, OnErr, refl, sym, ap, subst}
use Rattle.std.proofs.lemmas.Bool.{false≢true}
use Rattle.iom_base.specs.DeviceKinds.{is_block_device, sends_untranslated}
use Rattle.iom_base.specs.declared.access.Access.{Access}
use Rattle.iom_base.specs.declared.device_kind.DeviceKind.{DeviceKind}
use Rattle.iom_base.specs.declared.device_kind.DeviceKind.TheVariants.{Raw, Ats, Block, CachedBlock}
use Rattle.iom_base.specs.declared.refusal.Refusal.{Refusal}
use Rattle.iom_block_devices.specs.Changes.{block_with}
use Rattle.iom_block_devices.specs.Shown.{ShownBlock, ShownBlocks}
use Rattle.iom_board.specs.BoardParts.{BoardParts}
use Rattle.iom_device.specs.Caches.{IsAble, kind_in}
use Rattle.iom_iommu.specs.Requests.{access_of}
use Rattle.iom_iommu.specs.Stepped.{BeginsRequest, LoadsNext, request_for}
use Rattle.iom_iommu.specs.declared.begun.Begun.{Begun}
use Rattle.iom_iommu.specs.declared.begun.Begun.TheVariants as begun
use Rattle.iom_iommu.specs.declared.begun.Load.{Load}
use Rattle.iom_iommu.specs.declared.begun.Load.TheVariants as load
use Rattle.iom_iommu.specs.declared.reply.Reply.{Reply}
use Rattle.iom_iommu.specs.declared.reply.Reply.TheVariants as reply
use Rattle.iom_iommu.specs.OwnIommu.{Iommu}
use Rattle.iom_stepped_board.specs.Requests.{BeginsAccessBeside, MakesLoad}
use Rattle.iom_stepped_requests.specs.Serving.{Remaining}
use Rattle.iom_stepped_requests.specs.declared.walk.Serving.TheVariants.{GoesOn}
use Rattle.iom_virtio_blk.specs.Blocks.{IsAsking}
use Rattle.iom_walks.specs.Calls.{StartsWalking, row_going_on, row_walking}
use Rattle.iom_walks.specs.Walks.{UnderWay, WalkRow, idle_row, row_of, with_row}
use Rattle.iom_stepped_requests.specs.declared.walk.RequestWalk.{RequestWalk}
use Rattle.iom_stepped_hardware.specs.Beside.{AskStill}
use Rattle.iom_stepped_hardware.specs.Requests.{HearsLoad, HearsReply}
use Rattle.iom_stepped_hardware.proofs.AskLemmas.{asks_by, asks_same, others_stay, replaced_others, replaced_own}

-- A REQUEST BEGINS: what is under way stays, or it is this one

abbrev pub StartsIf : Begun → List WalkRow → ℕ → Access → List WalkRow → Type 0
StartsIf begun.Walking rows id access new_rows = (remaining : (ℕ → Remaining)) × StartsWalking rows (request_for id access) access.len access.bytes remaining new_rows
StartsIf given rows id access new_rows = new_rows ≡ rows

pub starts_if : (memory now : List (List ℕ)) (old new : Iommu) (rows new_rows : List WalkRow) (id : ℕ) (access : Access) (given : Begun) → BeginsRequest memory old rows id access given now new new_rows
    → StartsIf given rows id access new_rows
starts_if memory now old new rows new_rows id access (begun.Answered reply.BadSpan) begins = begins.1.2
starts_if memory now old new rows new_rows id access (begun.Answered reply.Busy) begins = begins.2.2
starts_if memory now old new rows new_rows id access begun.Occupied begins = begins.3.2
starts_if memory now old new rows new_rows id access begun.Walking begins = (_, begins.1.begun)
starts_if memory now old new rows new_rows id access (begun.Answered (reply.Accepted number)) begins = begins.begun.1
starts_if memory now old new rows new_rows id access (begun.Answered (reply.Fault cause)) begins = begins.begun.1

-- those of the others stay
pub started_others : (given : Begun) (rows new_rows : List WalkRow) (id : ℕ) (access : Access) → StartsIf given rows id access new_rows → (other : ℕ) → other ≢ id
    → row_of new_rows other ≡ row_of rows other
started_others begun.Walking rows new_rows id access (remaining, starts) other ne =
    ap (λ (rs : List WalkRow). row_of rs other) starts.after
    ∙ replaced_others rows id starts.row (row_walking starts.row (request_for id access) access.len access.bytes starts.walk) starts.was_there refl other ne
started_others begun.Occupied rows new_rows id access same other ne = ap (λ (rs : List WalkRow). row_of rs other) same
started_others (begun.Answered reply) rows new_rows id access same other ne = ap (λ (rs : List WalkRow). row_of rs other) same

-- and what is under way of the device is what it asked for
pub started_own : (rows new_rows : List WalkRow) (id : ℕ) (access : Access) → StartsIf begun.Walking rows id access new_rows → (row : WalkRow) (under_way : UnderWay) → row_of new_rows id ≡ Some row
    → row.under_way ≡ Some under_way → access_of under_way.request.asked.address under_way.len under_way.request.asked.kind row.bytes ≡ access
started_own rows new_rows id access (remaining, starts) row under_way has is =
    let own : WalkRow = row_walking starts.row (request_for id access) access.len access.bytes starts.walk in
    let now : row_of new_rows id ≡ Some own = ap (λ (rs : List WalkRow). row_of rs id) starts.after ∙ replaced_own rows id starts.row own starts.was_there refl in
    let both : ◌≡◌ {A = Option WalkRow} (Some own) (Some row) = sym now ∙ has in
    let same : own ≡ row = cc in
    let asked : own.under_way ≡ Some under_way = ap (λ (r : WalkRow). r.under_way) same ∙ is in
    let so : record { request = request_for id access; serving = GoesOn starts.walk; len = access.len } ≡ under_way = cc in
    rw (sym so, sym same) refl

-- a device that isn't a block device
pub begun_asks : (old new : BoardParts) (blocks : List ShownBlock) (rows new_rows : List WalkRow) (id : ℕ) (access : Access) (answer : Result Begun Refusal)
    → ((block : ShownBlock) → block_with blocks id ≡ Some block → IsAble is_block_device old.devices id) → AskStill old.devices blocks rows
    → BeginsAccessBeside sends_untranslated old rows id access answer new new_rows → AskStill new.devices blocks new_rows
begun_asks old new blocks rows new_rows id access answer able still begins = elim begins.by_device [
  | inl none ↦ refused none.answered none.same
  | inr (inl wrong) ↦ refused wrong.answered wrong.same
  | inr (inr does) ↦
      let starts = starts_if old.memory new.memory old.iommu new.iommu rows new_rows id access does.given does.call.call in
      asks_by old.devices new.devices blocks blocks rows new_rows id still (λ other ne. ap (λ ds. kind_in ds other) does.call.devices) (λ other ne. refl)
      (started_others does.given rows new_rows id access starts) (λ block row under_way there has is. absurd (never does.able (able block there)))
]
  where
    refused : {why : Refusal} → answer ≡ Err why → new ≡ old → AskStill new.devices blocks new_rows
    refused {why = why} is same =
        asks_same old.devices new.devices blocks blocks rows new_rows still (ap (λ (parts : BoardParts). parts.devices) same) refl
        (subst (λ (a : Result Begun Refusal). OnErr a (new_rows ≡ rows)) is begins.refused)

    kinds : (kind : DeviceKind) → sends_untranslated kind ≡ true → is_block_device kind ≡ true → ⊥
    kinds Raw sends block = false≢true block
    kinds Ats sends block = false≢true block
    kinds Block sends block = false≢true sends
    kinds CachedBlock sends block = false≢true sends

    never : IsAble sends_untranslated old.devices id → IsAble is_block_device old.devices id → ⊥
    never (kind, at, sends) (other, there, is) =
        let both : ◌≡◌ {A = Option DeviceKind} (Some other) (Some kind) = sym there ∙ at in
        let same : other ≡ kind = cc in
        kinds kind sends (ap is_block_device (sym same) ∙ is)

-- A LOAD IS MADE

-- what is under way of the device goes on, or nothing is
abbrev pub LoadsIf : Load → List WalkRow → ℕ → List WalkRow → Type 0
LoadsIf load.Nothing rows id new_rows = new_rows ≡ rows
LoadsIf load.Loaded rows id new_rows =
    (row : WalkRow) × (under_way : UnderWay) × (walk : RequestWalk) × (row_of rows id ≡ Some row) × (row.under_way ≡ Some under_way) × (new_rows ≡ with_row rows (row_going_on row under_way walk))
LoadsIf (load.Ended reply) rows id new_rows =
    (row : WalkRow) × (under_way : UnderWay) × (row_of rows id ≡ Some row) × (row.under_way ≡ Some under_way) × (new_rows ≡ with_row rows (idle_row row))

pub loads_if : (memory now : List (List ℕ)) (old new : Iommu) (rows new_rows : List WalkRow) (id : ℕ) (made : Load) → LoadsNext memory old rows id made now new new_rows → LoadsIf made rows id new_rows
loads_if memory now old new rows new_rows id load.Nothing loads = loads.1.2
loads_if memory now old new rows new_rows id load.Loaded loads =
    let goes = loads.1.loads in (goes.row, goes.under_way, goes.walk, goes.was_there, goes.walks, goes.after)
loads_if memory now old new rows new_rows id (load.Ended reply) loads =
    let ends = loads.loads in (ends.row, ends.under_way, ends.was_there, ends.walks, ends.after)

going_others : (rows new_rows : List WalkRow) (id : ℕ) (row own : WalkRow) → row_of rows id ≡ Some row → own.device ≡ row.device → new_rows ≡ with_row rows own → (other : ℕ) → other ≢ id
    → row_of new_rows other ≡ row_of rows other
going_others rows new_rows id row own at same is other ne = ap (λ (rs : List WalkRow). row_of rs other) is ∙ replaced_others rows id row own at same other ne

own_is : (rows new_rows : List WalkRow) (id : ℕ) (row own found : WalkRow) → row_of rows id ≡ Some row → own.device ≡ row.device → new_rows ≡ with_row rows own → row_of new_rows id ≡ Some found
    → own ≡ found
own_is rows new_rows id row own found at same is has =
    let both : ◌≡◌ {A = Option WalkRow} (Some own) (Some found) = sym (ap (λ (rs : List WalkRow). row_of rs id) is ∙ replaced_own rows id row own at same) ∙ has in
    cc

pub loaded_asks : (old new : BoardParts) (before after : ShownBlocks) (rows new_rows : List WalkRow) (id : ℕ) (answer : Result Load Refusal) → AskStill old.devices before.blocks rows
    → MakesLoad old rows id answer new new_rows → HearsLoad answer before id after → AskStill new.devices after.blocks new_rows
loaded_asks old new before after rows new_rows id answer still makes hears = elim makes.by_device [
  | inl none ↦ refused none.answered none.same
  | inr (inl wrong) ↦ refused wrong.answered wrong.same
  | inr (inr does) ↦
      by does.given (loads_if old.memory new.memory old.iommu new.iommu rows new_rows id does.given does.call.call)
      (subst (λ (a : Result Load Refusal). HearsLoad a before id after) does.answered hears) does.call.devices
]
  where
    blocks_same : after ≡ before → after.blocks ≡ before.blocks
    blocks_same same = ap (λ (b : ShownBlocks). b.blocks) same

    refused : {why : Refusal} → answer ≡ Err why → new ≡ old → AskStill new.devices after.blocks new_rows
    refused {why = why} is same =
        asks_same old.devices new.devices before.blocks after.blocks rows new_rows still (ap (λ (parts : BoardParts). parts.devices) same)
        (blocks_same (subst (λ (a : Result Load Refusal). HearsLoad a before id after) is hears)) (subst (λ (a : Result Load Refusal). OnErr a (new_rows ≡ rows)) is makes.refused)

    by : (given : Load) → LoadsIf given rows id new_rows → HearsLoad (Ok given) before id after → new.devices ≡ old.devices → AskStill new.devices after.blocks new_rows
    by load.Nothing same heard devices = asks_same old.devices new.devices before.blocks after.blocks rows new_rows still devices (blocks_same heard) same
    by load.Loaded (row, under_way, walk, at, walks, is) heard devices =
        let own : WalkRow = row_going_on row under_way walk in
        asks_by old.devices new.devices before.blocks after.blocks rows new_rows id still (λ other ne. ap (λ ds. kind_in ds other) devices)
        (λ other ne. ap (λ (b : ShownBlocks). block_with b.blocks other) heard) (going_others rows new_rows id row own at refl is)
        (λ block found now there has so.
        let same : own ≡ found = own_is rows new_rows id row own found at refl is has in
        let both : ◌≡◌ {A = Option UnderWay} own.under_way (Some now) = ap (λ (r : WalkRow). r.under_way) same ∙ so in
        let asks = still id block row under_way (sym (ap (λ (b : ShownBlocks). block_with b.blocks id) heard) ∙ there) at walks in
        let goes : (record under_way { serving = GoesOn walk }) ≡ now = cc in
        record {
          kind = ap (λ ds. kind_in ds id) devices ∙ asks.kind;
          asking = asks.asking;
          wants = rw (sym goes, sym same) asks.wants;
        })
    by (load.Ended reply) (row, under_way, at, walks, is) heard devices =
        asks_by old.devices new.devices before.blocks after.blocks rows new_rows id still (λ other ne. ap (λ ds. kind_in ds other) devices)
        (others_stay (HearsReply reply) before.blocks after.blocks id heard.0) (going_others rows new_rows id row (idle_row row) at refl is)
        (λ block found now there has so.
        let same : idle_row row ≡ found = own_is rows new_rows id row (idle_row row) found at refl is has in
        let both : ◌≡◌ {A = Option UnderWay} None (Some now) = ap (λ (r : WalkRow). r.under_way) same ∙ so in
        cc)

-- the block device whose request ends asks for it
pub asking_at_end : (old new : BoardParts) (blocks : List ShownBlock) (rows new_rows : List WalkRow) (id : ℕ) (answer : Result Load Refusal) (reply : Reply) → AskStill old.devices blocks rows
    → MakesLoad old rows id answer new new_rows → answer ≡ Ok (load.Ended reply) → (block : ShownBlock) → block_with blocks id ≡ Some block → IsAsking block.device.front
asking_at_end old new blocks rows new_rows id answer reply still makes is block there = elim makes.by_device [
  | inl none ↦ let both : ◌≡◌ {A = Result Load Refusal} (Err _) (Ok (load.Ended reply)) = sym none.answered ∙ is in cc
  | inr (inl wrong) ↦ let both : ◌≡◌ {A = Result Load Refusal} (Err _) (Ok (load.Ended reply)) = sym wrong.answered ∙ is in cc
  | inr (inr does) ↦
      let both : ◌≡◌ {A = Result Load Refusal} (Ok does.given) (Ok (load.Ended reply)) = sym does.answered ∙ is in
      let same : does.given ≡ load.Ended reply = cc in
      ends (subst (λ (given : Load). LoadsIf given rows id new_rows) same (loads_if old.memory new.memory old.iommu new.iommu rows new_rows id does.given does.call.call))
]
  where
    ends : LoadsIf (load.Ended reply) rows id new_rows → IsAsking block.device.front
    ends (row, under_way, at, walks, after) = (still id block row under_way there at walks).asking

pub loaded_devices : (old new : BoardParts) (rows new_rows : List WalkRow) (id : ℕ) (answer : Result Load Refusal) → MakesLoad old rows id answer new new_rows → new.devices ≡ old.devices
loaded_devices old new rows new_rows id answer makes = elim makes.by_device [
  | inl none ↦ ap (λ (parts : BoardParts). parts.devices) none.same
  | inr (inl wrong) ↦ ap (λ (parts : BoardParts). parts.devices) wrong.same
  | inr (inr does) ↦ does.call.devices
]

-- a load that ends no request is heard by nobody
pub unheard : (blocks : ShownBlocks) (id : ℕ) (made : Load) → (made ≡ load.Loaded) ⊎ (made ≡ load.Nothing) → HearsLoad (Ok made) blocks id blocks
unheard blocks id made (inl is) = subst (λ (l : Load). HearsLoad (Ok l) blocks id blocks) (sym is) refl
unheard blocks id made (inr is) = subst (λ (l : Load). HearsLoad (Ok l) blocks id blocks) (sym is) refl
