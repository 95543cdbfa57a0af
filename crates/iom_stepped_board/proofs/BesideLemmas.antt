-- What is under way beside a board stays so, by what changes.
use Rattle.std.proofs.Common.{◌≡◌, ◌≢◌, ◌==◌, ◌+◌, ◌<◌, ◌≤◌, ◌∙◌, ◌∷◌, [], inl, inr, ℕ, Bool, true, false, List, length, Option, Some, None, IsSome, is_some, refl, sym, ap, subst, arith, if◌then◌else◌}
use Rattle.std.proofs.lemmas.Bool.{eqb-true, false≢true}
use Rattle.std.proofs.lemmas.Bool.Decides.{eqb_tells}
use Rattle.iom_board.specs.BoardParts.{BoardParts}
use Rattle.iom_board.specs.Invariant.{device_ids}
use Rattle.iom_base.specs.declared.device_kind.DeviceKind.{DeviceKind}
use Rattle.iom_base.specs.declared.refusal.Refusal.{Refusal}
use Rattle.iom_board.specs.Permits.{IsPermitted}
use Rattle.iom_board.proofs.Permitted.{able, there}
use Rattle.iom_device.specs.Caches.{device_with, kind_in}
use Rattle.iom_device.specs.declared.device.Device.{Device}
use Rattle.iom_inflight.specs.Calls.{IsAccepted, MakesOldestInFlight, with_access}
use Rattle.iom_inflight.specs.declared.made.MadeAt.{MadeAt}
use Rattle.iom_inflight.specs.Flights.{Flights, FlightRow, count_in}
use Rattle.iom_inflight.specs.Flights as flights
use Rattle.iom_inflight.proofs.Rows as flight_rows
use Rattle.iom_iommu.specs.Parts.{flights_of}
use Rattle.iom_registers.specs.declared.directory.DirectoryPointer.{DirectoryPointer}
use Rattle.iom_walks.proofs.Rows as walk_rows
use Rattle.iom_walks.specs.Calls.{AllBeginAnew, WhatBeginsAnew, given_up}
use Rattle.iom_walks.specs.Walks.{UnderWay, WalkRow, idle_row, row_of, under_way_in, under_way_of, with_row}
use Rattle.iom_stepped_board.specs.Beside.{AreBeside, walk_ids}

-- a row is replaced by one of the same device
pub ids_with : (rows : List WalkRow) (own : WalkRow) → walk_ids (with_row rows own) ≡ walk_ids rows
ids_with [] own = refl
ids_with (row ∷ rows) own = by (row.device == own.device) refl (ids_with rows own)
  where
    by : (b : Bool) → (row.device == own.device) ≡ b → walk_ids (with_row rows own) ≡ walk_ids rows
        → walk_ids (if b then own ∷ rows else row ∷ with_row rows own) ≡ row.device ∷ walk_ids rows
    by true is rest = ap (λ id. id ∷ walk_ids rows) (sym (eqb-true row.device own.device is))
    by false is rest = ap (λ ids. row.device ∷ ids) rest

pub first_same : (x y : ℕ) (xs ys : List ℕ) → x ∷ xs ≡ y ∷ ys → (x ≡ y) × (xs ≡ ys)
first_same x y xs ys same = (cc, cc)

-- a device that is plugged in has a row
pub has_row : (rows : List WalkRow) (devices : List Device) (id : ℕ) → walk_ids rows ≡ device_ids devices → is_some (device_with devices id) ≡ true → IsSome (row_of rows id)
has_row [] [] id same found = cc
has_row [] (device ∷ others) id same found = cc
has_row (row ∷ rows) [] id same found = cc
has_row (row ∷ rows) (device ∷ others) id same found =
    let both = first_same row.device device.id (walk_ids rows) (device_ids others) same in
    elim (eqb_tells row.device id) [
      | inl here ↦ rw here.0 refl
      | inr other ↦
          let apart : (device.id == id) ≡ false = ap (λ n. n == id) (sym both.0) ∙ other.0 in
          rw other.0 (has_row rows others id both.1 (subst (λ b. is_some (if b then Some device else device_with others id) ≡ true) apart found))
    ]

pub walked : (can : DeviceKind → Bool) (rows : List WalkRow) (devices : List Device) (id : ℕ) (answer : Option Refusal) → walk_ids rows ≡ device_ids devices
    → IsPermitted can (kind_in devices id) answer → answer ≡ None → IsSome (row_of rows id)
walked can rows devices id answer same permitted is = has_row rows devices id same (there can devices id (able can devices id answer permitted is))

-- nothing is under way of a device
pub none_under_way : {X : Type 0} (found : Option UnderWay) → found ≡ None → IsSome found → X
none_under_way found none some = absurd (false≢true (sym (ap is_some none) ∙ some))

-- ONE DEVICE CHANGES: what is under way of others, and their accesses in flight, are as they were
pub beside_by : (old new : BoardParts) (rows new_rows : List WalkRow) (id : ℕ) → AreBeside old rows → device_ids new.devices ≡ device_ids old.devices → walk_ids new_rows ≡ walk_ids rows
    → ((other : ℕ) → other ≢ id → under_way_of new_rows other ≡ under_way_of rows other)
    → ((other : ℕ) → other ≢ id → flights.row_of (flights_of new.iommu).rows other ≡ flights.row_of (flights_of old.iommu).rows other)
    → (IsSome (under_way_of new_rows id) → count_in (flights.row_of (flights_of new.iommu).rows id) < 8) → AreBeside new new_rows
beside_by old new rows new_rows id beside devices ids walks in_flight own = record {
  ids = ids ∙ beside.ids ∙ sym devices;
  room = λ other some. elim (eqb_tells other id) [
    | inl e ↦ subst (λ (d : ℕ). IsSome (under_way_of new_rows d) → count_in (flights.row_of (flights_of new.iommu).rows d) < 8) (sym e.1) own some
    | inr ne ↦
        subst (λ (row : Option FlightRow). count_in row < 8) (sym (in_flight other ne.1)) (beside.room other (subst (λ (found : Option UnderWay). IsSome found) (walks other ne.1) some))
  ];
}

-- accesses in flight stay, and devices in their order
pub stays : (old new : BoardParts) (rows : List WalkRow) → AreBeside old rows → device_ids new.devices ≡ device_ids old.devices → flights_of new.iommu ≡ flights_of old.iommu
    → AreBeside new rows
stays old new rows beside devices same = record {
  ids = beside.ids ∙ sym devices;
  room = λ id some. subst (λ (f : Flights). count_in (flights.row_of f.rows id) < 8) (sym same) (beside.room id some);
}

-- a row is replaced: what is under way of others stays
pub others_walk : (rows : List WalkRow) (id : ℕ) (row own : WalkRow) → row_of rows id ≡ Some row → own.device ≡ row.device → (other : ℕ) → other ≢ id
    → under_way_of (with_row rows own) other ≡ under_way_of rows other
others_walk rows id row own at same other ne =
    ap under_way_in (walk_rows.row_of_other rows own other (λ e. ne (e ∙ same ∙ walk_rows.row_is_own rows id row at)))

-- and of its device is what the row says
pub own_walk : (rows : List WalkRow) (id : ℕ) (row own : WalkRow) → row_of rows id ≡ Some row → own.device ≡ row.device → under_way_of (with_row rows own) id ≡ own.under_way
own_walk rows id row own at same =
    let is : own.device ≡ id = same ∙ walk_rows.row_is_own rows id row at in
    subst (λ (d : ℕ). under_way_of (with_row rows own) d ≡ own.under_way) is
    (ap under_way_in (walk_rows.row_of_own rows own (subst (λ (d : ℕ). IsSome (row_of rows d)) (sym is) (ap is_some at))))

-- an access is accepted: those of others stay
pub others_fly : (old new : Flights) (id : ℕ) (accepted : _) (number : ℕ) → IsAccepted old id accepted number new → (other : ℕ) → other ≢ id
    → flights.row_of new.rows other ≡ flights.row_of old.rows other
others_fly old new id accepted number is other ne =
    ap (λ (f : Flights). flights.row_of f.rows other) is.after
    ∙ flight_rows.row_of_other old.rows (with_access is.row accepted (old.so_far + 1)) other (λ e. ne (e ∙ flight_rows.row_is_own old.rows id is.row is.stands))

-- ALL BEGIN ANEW: the rows stay in their order, and of each device something is under way where something was
pub anew_ids : (ddtp : DirectoryPointer) (rows new_rows : List WalkRow) → AllBeginAnew ddtp rows new_rows → walk_ids new_rows ≡ walk_ids rows
anew_ids ddtp [] [] all = refl
anew_ids ddtp [] (new ∷ news) all = absurd all
anew_ids ddtp (old ∷ olds) [] all = absurd all
anew_ids ddtp (old ∷ olds) (new ∷ news) all = ap (λ (id : ℕ). id ∷ walk_ids news) all.0.device ∙ ap (λ (ids : List ℕ). old.device ∷ ids) (anew_ids ddtp olds news all.1)

was_under_way : (ddtp : DirectoryPointer) (old new : Option UnderWay) → WhatBeginsAnew ddtp old new → IsSome new → IsSome old
was_under_way ddtp None None begins some = some
was_under_way ddtp None (Some new) begins some = absurd begins
was_under_way ddtp (Some old) None begins some = absurd begins
was_under_way ddtp (Some old) (Some new) begins some = refl

pub anew_walks : (ddtp : DirectoryPointer) (rows new_rows : List WalkRow) (id : ℕ) → AllBeginAnew ddtp rows new_rows → IsSome (under_way_of new_rows id) → IsSome (under_way_of rows id)
anew_walks ddtp [] [] id all some = some
anew_walks ddtp [] (new ∷ news) id all some = absurd all
anew_walks ddtp (old ∷ olds) [] id all some = absurd all
anew_walks ddtp (old ∷ olds) (new ∷ news) id all some =
    let same : (new.device == id) ≡ (old.device == id) = ap (λ (d : ℕ). d == id) all.0.device in
    by (old.device == id) (anew_walks ddtp olds news id all.1) (subst (λ (b : Bool). IsSome (under_way_in (if b then Some new else row_of news id))) same some)
  where
    by : (b : Bool) → (IsSome (under_way_of news id) → IsSome (under_way_of olds id)) → IsSome (under_way_in (if b then Some new else row_of news id))
        → IsSome (under_way_in (if b then Some old else row_of olds id))
    by true later here = was_under_way ddtp old.under_way new.under_way all.0.under_way here
    by false later there = later there

-- all begin anew beside a board whose accesses in flight stay
pub anew_beside : (old new : BoardParts) (ddtp : DirectoryPointer) (rows new_rows : List WalkRow) → AreBeside old rows → device_ids new.devices ≡ device_ids old.devices
    → flights_of new.iommu ≡ flights_of old.iommu → AllBeginAnew ddtp rows new_rows → AreBeside new new_rows
anew_beside old new ddtp rows new_rows beside devices same all =
    let still = stays old new rows beside devices same in
    record { ids = anew_ids ddtp rows new_rows all ∙ still.ids; room = λ id some. still.room id (anew_walks ddtp rows new_rows id all some) }

-- A REQUEST IS GIVEN UP
given_up_by : (parts : BoardParts) (rows : List WalkRow) (id : ℕ) (found : Option WalkRow) → row_of rows id ≡ found → AreBeside parts rows → AreBeside parts (given_up rows found)
given_up_by parts rows id None at beside = beside
given_up_by parts rows id (Some row) at beside =
    beside_by parts parts rows (with_row rows (idle_row row)) id beside refl (ids_with rows (idle_row row)) (others_walk rows id row (idle_row row) at refl) (λ other ne. refl)
    (none_under_way (under_way_of (with_row rows (idle_row row)) id) (own_walk rows id row (idle_row row) at refl))

pub given_up_beside : (parts : BoardParts) (rows : List WalkRow) (id : ℕ) → AreBeside parts rows → AreBeside parts (given_up rows (row_of rows id))
given_up_beside parts rows id beside = given_up_by parts rows id (row_of rows id) refl beside

-- AN ACCESS IS MADE: fewer are in flight
fewer : (rows : List FlightRow) (id other : ℕ) (row own : FlightRow) → flights.row_of rows id ≡ Some row → own.device ≡ row.device → length own.waiting ≤ length row.waiting
    → count_in (flights.row_of (flights.with_row rows own) other) ≤ count_in (flights.row_of rows other)
fewer rows id other row own at same few =
    let is : own.device ≡ id = same ∙ flight_rows.row_is_own rows id row at in
    elim (eqb_tells other id) [
      | inl e ↦
          subst (λ (d : ℕ). count_in (flights.row_of (flights.with_row rows own) d) ≤ count_in (flights.row_of rows d)) (is ∙ sym e.1)
          (rw (flight_rows.row_of_own rows own (subst (λ (d : ℕ). IsSome (flights.row_of rows d)) (sym is) (ap is_some at)), subst (λ (d : ℕ). flights.row_of rows d ≡ Some row) (sym is) at) few)
      | inr ne ↦ rw (flight_rows.row_of_other rows own other (λ e. ne.1 (e ∙ is))) (omega arith)
    ]

pub made_beside : (old new : BoardParts) (rows : List WalkRow) (id : ℕ) (made : Option MadeAt) (memory now : List (List ℕ)) → AreBeside old rows → device_ids new.devices ≡ device_ids old.devices
    → MakesOldestInFlight memory (flights_of old.iommu) id made now (flights_of new.iommu) → AreBeside new rows
made_beside old new rows id None memory now beside devices makes = stays old new rows beside devices makes.2
made_beside old new rows id (Some made) memory now beside devices makes =
    let own : FlightRow = record makes.row { waiting = makes.later } in
    let few : length own.waiting ≤ length makes.row.waiting = rw makes.waiting (omega arith) in
    record {
      ids = beside.ids ∙ sym devices;
      room = λ other some.
          let was = beside.room other some in
          let less = fewer (flights_of old.iommu).rows id other makes.row own makes.stands refl few in
          subst (λ (f : Flights). count_in (flights.row_of f.rows other) < 8) (sym makes.after) (omega (arith, was, less));
    }
