-- Block devices ask still for what is under way, by what changes.
use Rattle.std.proofs.Common.{◌≡◌, ◌≢◌, ◌==◌, ◌∙◌, ◌∷◌, [], inl, inr, ℕ, Bool, true, false, List, Option, None, Some, IsSome, is_some, refl, sym, ap, subst}
use Rattle.std.proofs.lemmas.Bool.Decides.{eqb_tells}
use Rattle.iom_block_devices.specs.Changes.{ChangesIfThere, ChangesOne, block_with}
use Rattle.iom_block_devices.specs.Shown.{ShownBlock}
use Rattle.iom_block_devices.proofs.BlockChanges.{other_stays}
use Rattle.iom_device.specs.Caches.{kind_in}
use Rattle.iom_device.specs.declared.device.Device.{Device}
use Rattle.iom_registers.specs.declared.directory.DirectoryPointer.{DirectoryPointer}
use Rattle.iom_stepped_board.proofs.BesideLemmas.{own_walk}
use Rattle.iom_iommu.specs.Requests.{access_of}
use Rattle.iom_iommu.specs.Stepped.{BeginsAnewAfter}
use Rattle.iom_stepped_requests.specs.declared.request.Request.{Request}
use Rattle.iom_virtio_blk.specs.Steps.{Device as BlockDevice}
use Rattle.iom_walks.proofs.Rows.{row_is_own, row_of_other, row_of_own}
use Rattle.iom_walks.specs.Calls.{AllBeginAnew, RowBeginsAnew, WhatBeginsAnew, given_up}
use Rattle.iom_walks.specs.Walks.{UnderWay, WalkRow, idle_row, row_of, under_way_in, under_way_of, with_row}
use Rattle.iom_stepped_hardware.specs.Beside.{AskStill, AsksStill}

-- the device with the id, whatever becomes of it, asks still for what is under way of it
abbrev pub AsksOwn : List Device → List ShownBlock → List WalkRow → ℕ → Type 0
AsksOwn devices blocks rows id =
    (block : ShownBlock) (row : WalkRow) (under_way : UnderWay) → block_with blocks id ≡ Some block → row_of rows id ≡ Some row → row.under_way ≡ Some under_way
    → AsksStill (kind_in devices id) block.device.front row under_way

-- ONE DEVICE CHANGES: of the others all stays
pub asks_by : (devices now : List Device) (blocks after : List ShownBlock) (rows left : List WalkRow) (id : ℕ) → AskStill devices blocks rows
    → ((other : ℕ) → other ≢ id → kind_in now other ≡ kind_in devices other)
    → ((other : ℕ) → other ≢ id → block_with after other ≡ block_with blocks other)
    → ((other : ℕ) → other ≢ id → row_of left other ≡ row_of rows other)
    → AsksOwn now after left id → AskStill now after left
asks_by devices now blocks after rows left id still kinds stay walks own other block row under_way there has is = elim (eqb_tells other id) [
  | inl e ↦
      subst (λ (d : ℕ). AsksStill (kind_in now d) block.device.front row under_way) (sym e.1)
      (own block row under_way (subst (λ (d : ℕ). block_with after d ≡ Some block) e.1 there) (subst (λ (d : ℕ). row_of left d ≡ Some row) e.1 has) is)
  | inr ne ↦
      subst (λ kind. AsksStill kind block.device.front row under_way) (sym (kinds other ne.1))
      (still other block row under_way (sym (stay other ne.1) ∙ there) (sym (walks other ne.1) ∙ has) is)
]

-- a block device changes: the others stay
pub others_stay : (How : BlockDevice → BlockDevice → Type 0) (old new : List ShownBlock) (id : ℕ) → ChangesOne How old id new → (other : ℕ) → other ≢ id
    → block_with new other ≡ block_with old other
others_stay How old new id changes other ne = by (block_with old id) changes
  where
    by : (found : Option ShownBlock) → ChangesIfThere found How old id new → block_with new other ≡ block_with old other
    by None same = ap (λ (blocks : List ShownBlock). block_with blocks other) same
    by (Some block) (after, how, is) = ap (λ (blocks : List ShownBlock). block_with blocks other) is ∙ other_stays old other id after (λ e. ne (sym e))

-- A REQUEST IS GIVEN UP
pub given_up_others : (rows : List WalkRow) (id other : ℕ) → other ≢ id → row_of (given_up rows (row_of rows id)) other ≡ row_of rows other
given_up_others rows id other ne = by (row_of rows id) refl
  where
    by : (found : Option WalkRow) → row_of rows id ≡ found → row_of (given_up rows found) other ≡ row_of rows other
    by None at = refl
    by (Some row) at = row_of_other rows (idle_row row) other (λ e. ne (e ∙ row_is_own rows id row at))

pub given_up_own : (rows : List WalkRow) (id : ℕ) (row : WalkRow) (under_way : UnderWay) → row_of (given_up rows (row_of rows id)) id ≡ Some row → row.under_way ≡ Some under_way → ⊥
given_up_own rows id row under_way has is = by (row_of rows id) refl has
  where
    never : (found : Option UnderWay) → found ≡ None → found ≡ Some under_way → ⊥
    never found none some = let both : ◌≡◌ {A = Option UnderWay} None (Some under_way) = sym none ∙ some in cc

    by : (found : Option WalkRow) → row_of rows id ≡ found → row_of (given_up rows found) id ≡ Some row → ⊥
    by None at has = let both : ◌≡◌ {A = Option WalkRow} None (Some row) = sym at ∙ has in cc
    by (Some own) at has = never (under_way_of (with_row rows (idle_row own)) id) (own_walk rows id own (idle_row own) at refl) (ap under_way_in has ∙ is)

pub given_up_asks : (devices now : List Device) (blocks after : List ShownBlock) (rows : List WalkRow) (id : ℕ) → AskStill devices blocks rows
    → ((other : ℕ) → other ≢ id → kind_in now other ≡ kind_in devices other) → ((other : ℕ) → other ≢ id → block_with after other ≡ block_with blocks other)
    → AskStill now after (given_up rows (row_of rows id))
given_up_asks devices now blocks after rows id still kinds stay =
    asks_by devices now blocks after rows (given_up rows (row_of rows id)) id still kinds stay (given_up_others rows id)
    (λ block row under_way there has is. absurd (given_up_own rows id row under_way has is))

-- DEVICES AND BLOCK DEVICES STAY
pub asks_same : (devices now : List Device) (blocks after : List ShownBlock) (rows left : List WalkRow) → AskStill devices blocks rows → now ≡ devices → after ≡ blocks → left ≡ rows
    → AskStill now after left
asks_same devices now blocks after rows left still kinds stay walks =
    subst (λ (ds : List Device). AskStill ds after left) (sym kinds)
    (subst (λ (bs : List ShownBlock). AskStill devices bs left) (sym stay) (subst (λ (rs : List WalkRow). AskStill devices blocks rs) (sym walks) still))

-- ALL REQUESTS BEGIN ANEW: what was asked for stays
pub record WasUnderWay (rows : List WalkRow) (id : ℕ) (row : WalkRow) (under_way : UnderWay) : Type 0 where
  pub was : WalkRow
  pub before : UnderWay
  pub has : row_of rows id ≡ Some was
  pub is : was.under_way ≡ Some before
  pub bytes : row.bytes ≡ was.bytes
  pub request : under_way.request ≡ before.request
  pub len : under_way.len ≡ before.len

anew_row : (ddtp : DirectoryPointer) (old new : WalkRow) (rows : List WalkRow) (id : ℕ) (under_way : UnderWay) → row_of rows id ≡ Some old → RowBeginsAnew ddtp old new
    → new.under_way ≡ Some under_way → WasUnderWay rows id new under_way
anew_row ddtp old new rows id under_way has anew is = by old.under_way new.under_way refl is anew.under_way
  where
    by : (was now : Option UnderWay) → old.under_way ≡ was → now ≡ Some under_way → WhatBeginsAnew ddtp was now → WasUnderWay rows id new under_way
    by None None stood here begins = cc
    by None (Some some) stood here begins = absurd begins
    by (Some some) None stood here begins = absurd begins
    by (Some was) (Some now) stood here begins =
        let same : now ≡ under_way = cc in
        record {
          was = old;
          before = was;
          has = has;
          is = stood;
          bytes = anew.bytes;
          request = ap (λ (u : UnderWay). u.request) (sym same) ∙ begins.request;
          len = ap (λ (u : UnderWay). u.len) (sym same) ∙ begins.len;
        }

anew_was : (ddtp : DirectoryPointer) (rows new_rows : List WalkRow) (id : ℕ) (row : WalkRow) (under_way : UnderWay) → AllBeginAnew ddtp rows new_rows → row_of new_rows id ≡ Some row
    → row.under_way ≡ Some under_way → WasUnderWay rows id row under_way
anew_was ddtp [] [] id row under_way all has is = cc
anew_was ddtp [] (new ∷ news) id row under_way all has is = absurd all
anew_was ddtp (old ∷ olds) [] id row under_way all has is = absurd all
anew_was ddtp (old ∷ olds) (new ∷ news) id row under_way all has is = elim (eqb_tells old.device id) [
  | inl e ↦
      let here : (new.device == id) ≡ true = ap (λ (d : ℕ). d == id) all.0.device ∙ e.0 in
      let first : ◌≡◌ {A = Option WalkRow} (Some new) (Some row) = rw here at has in
      let same : new ≡ row = cc in
      let was : row_of (old ∷ olds) id ≡ Some old = rw e.0 refl in
      subst (λ (r : WalkRow). WasUnderWay (old ∷ olds) id r under_way) same
      (anew_row ddtp old new (old ∷ olds) id under_way was all.0 (ap (λ (r : WalkRow). r.under_way) same ∙ is))
  | inr ne ↦
      let later : (new.device == id) ≡ false = ap (λ (d : ℕ). d == id) all.0.device ∙ ne.0 in
      let then : row_of news id ≡ Some row = rw later at has in
      let rest = anew_was ddtp olds news id row under_way all.1 then is in
      record { was = rest.was; before = rest.before; has = (rw ne.0 rest.has); is = rest.is; bytes = rest.bytes; request = rest.request; len = rest.len }
]

same_access : (asked before : UnderWay) (bytes was : List ℕ) → asked.request ≡ before.request → asked.len ≡ before.len → bytes ≡ was
    → access_of asked.request.asked.address asked.len asked.request.asked.kind bytes ≡ access_of before.request.asked.address before.len before.request.asked.kind was
same_access asked before bytes was request len same = ap (λ (r : Request). access_of r.asked.address asked.len r.asked.kind bytes) request
    ∙ ap (λ (n : ℕ). access_of before.request.asked.address n before.request.asked.kind bytes) len
    ∙ ap (λ (b : List ℕ). access_of before.request.asked.address before.len before.request.asked.kind b) same

pub anew_asks : (devices : List Device) (blocks : List ShownBlock) (ddtp : DirectoryPointer) (rows new_rows : List WalkRow) → AskStill devices blocks rows → AllBeginAnew ddtp rows new_rows
    → AskStill devices blocks new_rows
anew_asks devices blocks ddtp rows new_rows still all id block row under_way there has is =
    let w = anew_was ddtp rows new_rows id row under_way all has is in
    let before = still id block w.was w.before there w.has w.is in
    record { kind = before.kind; asking = before.asking; wants = before.wants ∙ ap Some (sym (same_access under_way w.before row.bytes w.was.bytes w.request w.len w.bytes)) }

pub fetched_asks : (devices now : List Device) (blocks : List ShownBlock) (ddtp : DirectoryPointer) (rows new_rows : List WalkRow) (anew : Bool) → AskStill devices blocks rows → now ≡ devices
    → BeginsAnewAfter anew ddtp rows new_rows → AskStill now blocks new_rows
fetched_asks devices now blocks ddtp rows new_rows true still same begins =
    subst (λ (ds : List Device). AskStill ds blocks new_rows) (sym same) (anew_asks devices blocks ddtp rows new_rows still begins)
fetched_asks devices now blocks ddtp rows new_rows false still same begins = asks_same devices now blocks blocks rows new_rows still same refl begins

-- A ROW IS REPLACED
pub replaced_others : (rows : List WalkRow) (id : ℕ) (row own : WalkRow) → row_of rows id ≡ Some row → own.device ≡ row.device → (other : ℕ) → other ≢ id
    → row_of (with_row rows own) other ≡ row_of rows other
replaced_others rows id row own at same other ne = row_of_other rows own other (λ e. ne (e ∙ same ∙ row_is_own rows id row at))

pub replaced_own : (rows : List WalkRow) (id : ℕ) (row own : WalkRow) → row_of rows id ≡ Some row → own.device ≡ row.device → row_of (with_row rows own) id ≡ Some own
replaced_own rows id row own at same =
    let is : own.device ≡ id = same ∙ row_is_own rows id row at in
    subst (λ (d : ℕ). row_of (with_row rows own) d ≡ Some own) is (row_of_own rows own (subst (λ (d : ℕ). IsSome (row_of rows d)) (sym is) (ap is_some at)))
