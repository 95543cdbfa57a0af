-- What is found of a claim, by what the survey and the rows of claims answer.
use Rattle.std.proofs.Common.{◌≡◌, ◌==◌, ◌∙◌, ◌⊎◌, inl, inr, ℕ, suc, Bool, true, false, List, [], ◌∷◌, slice_get, Contains, Option, None, Some, option_map, refl, sym, ap, subst, arith}
use Rattle.std.proofs.lemmas.Bool.Decides.{eqb_tells}
use Rattle.std.proofs.lemmas.List.Elements.{Contains-append_cases}
use Rattle.iom_base.specs.declared.access.AccessKind.{AccessKind}
use Rattle.iom_base.specs.declared.access.AccessKind.TheVariants.{Read, Write}
use Rattle.iom_device.specs.Caches.{device_with, kind_in}
use Rattle.iom_device.specs.declared.device.Device.{Device}
use Rattle.iom_board.specs.BoardParts.{BoardParts}
use Rattle.iom_board.specs.Invariant.{BoardInvariant, flight_ids, device_ids}
use Rattle.iom_block_devices.specs.Shown.{ShownBlock}
use Rattle.iom_hardware_session.specs.Beside.{WalksAreSound}
use Rattle.iom_hardware_session.specs.Good.{scene_by}
use Rattle.iom_hardware_session.specs.declared.beside.Beside.{Beside}
use Rattle.iom_hardware_session.specs.declared.beside.Beside.TheVariants as beside
use Rattle.iom_pointer_ways.proofs.SceneLemmas.{pointers_add_their_ways}
use Rattle.iom_pointer_ways.specs.Scenes.{pointed_scene}
use Rattle.iom_pointers.specs.declared.pointer.Pointer.{Pointer}
use Rattle.iom_hardware_ways.specs.Formats.{format_of}
use Rattle.iom_hardware_ways.specs.Scenes.{ats_kind, flights_in, scene_of}
use Rattle.iom_inflight.specs.Flights.{FlightRow, row_of}
use Rattle.iom_iommu.specs.Parts.{flights_of}
use Rattle.iom_reach.specs.Scene.{AtsKind, PartialWalk, PendingAccess, reading}
use Rattle.iom_reach.specs.Ways.{Way, Accepted, AnyFrame, ByContext, OnTheWalk}
use Rattle.iom_stepped_board.specs.Beside.{walk_ids}
use Rattle.iom_stepped_ways.specs.Scenes.{access_on, added_of, stepped_scene}
use Rattle.iom_walks.specs.Invariant.{AreWalks}
use Rattle.iom_walks.specs.Walks.{UnderWay, WalkRow, under_way_of}
use Rattle.iom_way_survey.proofs.UnderWayLemmas.{lets_through, part_under_way, under_way_plugged}
use Rattle.iom_way_survey.specs.Walking.{IsLetThrough}

-- what holds of reads and of writes holds of each kind of access
pub both_kinds : (P : AccessKind → Type 0) → P Read → P Write → (kind : AccessKind) → P kind
both_kinds P reads writes Read = reads
both_kinds P reads writes Write = writes

-- nothing is both
pub no_both : (b : Bool) → b ≡ true → b ≡ false → ⊥
no_both true t f = cc
no_both false t f = cc

-- a device that is found by its id stands somewhere
pub stands : (devices : List Device) (id : ℕ) (own : Device) → device_with devices id ≡ Some own → (k : ℕ) × (slice_get devices k ≡ Some own) × (own.id ≡ id)
stands [] id own at = absurd (cc)
stands (first ∷ others) id own at = by (stands others id own) (eqb_tells first.id id)
  where
    by : (device_with others id ≡ Some own → (k : ℕ) × (slice_get others k ≡ Some own) × (own.id ≡ id))
        → (((first.id == id) ≡ true) × (first.id ≡ id)) ⊎ (((first.id == id) ≡ false) × ¬ (first.id ≡ id)) → (k : ℕ) × (slice_get (first ∷ others) k ≡ Some own) × (own.id ≡ id)
    by later (inl e) =
        let same : Some first ≡ Some own = rw e.0 at at in
        (0, same, subst (λ (d : Option Device). is_id d) same e.1)
      where
        is_id : Option Device → Type 0
        is_id None = ⊥
        is_id (Some d) = d.id ≡ id
    by later (inr ne) = let found = later (rw ne.0 at at) in (suc found.0, found.1, found.2)

-- what is plugged in stands somewhere
pub plugged : (devices : List Device) (id : ℕ) (kind : AtsKind) → option_map ats_kind (kind_in devices id) ≡ Some kind → (k : ℕ) × (own : Device) × (slice_get devices k ≡ Some own) × (own.id ≡ id)
plugged devices id kind is = by (device_with devices id) refl is
  where
    by : (found : Option Device) → device_with devices id ≡ found → option_map ats_kind (option_map (λ (device : Device). device.kind) found) ≡ Some kind
        → (k : ℕ) × (own : Device) × (slice_get devices k ≡ Some own) × (own.id ≡ id)
    by None e there = absurd (cc)
    by (Some own) e there = let found = stands devices id own e in (found.0, own, found.1, found.2)

-- a device that has a row of accesses stands somewhere
pub rowed : (rows : List FlightRow) (devices : List Device) (id : ℕ) (row : FlightRow) → flight_ids rows ≡ device_ids devices → row_of rows id ≡ Some row
    → (k : ℕ) × (own : Device) × (slice_get devices k ≡ Some own) × (own.id ≡ id)
rowed [] devices id row same at = absurd (cc)
rowed (first ∷ rows) [] id row same at = absurd (cc)
rowed (first ∷ rows) (device ∷ devices) id row same at = by (rowed rows devices id row (rest same)) (eqb_tells first.device id)
  where
    rest : flight_ids (first ∷ rows) ≡ device_ids (device ∷ devices) → flight_ids rows ≡ device_ids devices
    rest e = cc

    head : flight_ids (first ∷ rows) ≡ device_ids (device ∷ devices) → device.id ≡ first.device
    head e = cc

    by : (row_of rows id ≡ Some row → (k : ℕ) × (own : Device) × (slice_get devices k ≡ Some own) × (own.id ≡ id))
        → (((first.device == id) ≡ true) × (first.device ≡ id)) ⊎ (((first.device == id) ≡ false) × ¬ (first.device ≡ id))
        → (k : ℕ) × (own : Device) × (slice_get (device ∷ devices) k ≡ Some own) × (own.id ≡ id)
    by later (inl e) = (0, device, refl, head same ∙ e.1)
    by later (inr ne) = let found = later (rw ne.0 at at) in (suc found.0, found.1, found.2, found.3)

-- so does one that has an access in flight
pub flying : (rows : List FlightRow) (devices : List Device) (id : ℕ) (access : PendingAccess) → flight_ids rows ≡ device_ids devices
    → Contains (flights_in (row_of rows id)) access → (k : ℕ) × (own : Device) × (slice_get devices k ≡ Some own) × (own.id ≡ id)
flying rows devices id access same inside = by (row_of rows id) refl inside
  where
    by : (found : Option FlightRow) → row_of rows id ≡ found → Contains (flights_in found) access → (k : ℕ) × (own : Device) × (slice_get devices k ≡ Some own) × (own.id ≡ id)
    by None e (k, less, is) = absurd (omega (arith, less))
    by (Some row) e there = rowed rows devices id row same e

-- A device that has a way is plugged in
has_place : (napot : Bool) (trusted : ℕ → Bool) (parts : BoardParts) (events device frame : ℕ) (kind : AccessKind) → BoardInvariant parts events
    → Way (reading (format_of napot) (scene_of trusted parts)) device frame kind
    → (k : ℕ) × (own : Device) × (slice_get parts.devices k ≡ Some own) × (own.id ≡ device)
has_place napot trusted parts events device frame kind invariants (Accepted inside) = flying (flights_of parts.iommu).rows parts.devices device (access_on frame kind) invariants.rows inside
has_place napot trusted parts events device frame kind invariants (AnyFrame (own, is) bare) = plugged parts.devices device own is
has_place napot trusted parts events device frame kind invariants (ByContext context ((own, is), found) through) = plugged parts.devices device own is
has_place napot trusted parts events device frame kind invariants (OnTheWalk space table steps mapping (k, less, at) leads serves) = absurd (omega (arith, less))

-- so is one that has a request under way
under_way_place : (rows : List WalkRow) (devices : List Device) (id : ℕ) (own : UnderWay) → walk_ids rows ≡ device_ids devices → under_way_of rows id ≡ Some own
    → (k : ℕ) × (other : Device) × (slice_get devices k ≡ Some other) × (other.id ≡ id)
under_way_place rows devices id own same is =
    let (plug, found) = under_way_plugged rows devices id own same is in
    let (k, at, named) = stands devices id plug found in
    (k, plug, at, named)

stepped_place : (trusted : ℕ → Bool) (parts : BoardParts) (rows : List WalkRow) (events device frame : ℕ) (kind : AccessKind) → AreWalks rows → walk_ids rows ≡ device_ids parts.devices
    → BoardInvariant parts events → Way (stepped_scene trusted parts rows) device frame kind → (k : ℕ) × (own : Device) × (slice_get parts.devices k ≡ Some own) × (own.id ≡ device)
stepped_place trusted parts rows events device frame kind walks same invariants (Accepted inside) =
    elim (Contains-append_cases (flights_in (row_of (flights_of parts.iommu).rows device)) ((added_of rows).let_through device) (access_on frame kind) inside) [
      | inl flies ↦ flying (flights_of parts.iommu).rows parts.devices device (access_on frame kind) invariants.rows flies
      | inr lets ↦ let_of (under_way_of rows device) refl (lets_through rows walks device frame kind lets)
    ]
  where
    let_of : (found : Option UnderWay) → under_way_of rows device ≡ found → IsLetThrough found kind frame → (k : ℕ) × (own : Device) × (slice_get parts.devices k ≡ Some own) × (own.id ≡ device)
    let_of None is never = absurd never
    let_of (Some own) is lets = under_way_place rows parts.devices device own same is
stepped_place trusted parts rows events device frame kind walks same invariants (AnyFrame (own, is) bare) = plugged parts.devices device own is
stepped_place trusted parts rows events device frame kind walks same invariants (ByContext context ((own, is), found) through) = plugged parts.devices device own is
stepped_place trusted parts rows events device frame kind walks same invariants (OnTheWalk s table steps_to mapping there leads serves) =
    let (other, own, is, (request, context, kept_in, at, part, among, (of_other, serving))) = part_under_way rows walks (record { device = Some device; space = s; table = table; steps_to = steps_to }) there in
    let some : Some device ≡ Some other = ap (λ (w : PartialWalk). w.device) of_other in
    let named : device ≡ other = cc in
    under_way_place rows parts.devices device own same (ap (under_way_of rows) named ∙ is)

-- so is one that has a way by a pointer
pointed_place : (napot : Bool) (trusted : ℕ → Bool) (parts : BoardParts) (pointers : List Pointer) (events device frame : ℕ) (kind : AccessKind) → BoardInvariant parts events
    → Way (pointed_scene napot trusted parts pointers) device frame kind → (k : ℕ) × (own : Device) × (slice_get parts.devices k ≡ Some own) × (own.id ≡ device)
pointed_place napot trusted parts pointers events device frame kind invariants way = elim ((pointers_add_their_ways (reading (format_of napot) (scene_of trusted parts)) pointers device frame kind).0 way) [
  | inl alone ↦ has_place napot trusted parts events device frame kind invariants alone
  | inr (context, ((own, is), found), through) ↦ plugged parts.devices device own is
]

-- of any hardware
pub place_beside : (trusted : ℕ → Bool) (parts : BoardParts) (blocks : List ShownBlock) (own : Beside) (events device frame : ℕ) (kind : AccessKind) → BoardInvariant parts events
    → WalksAreSound parts blocks own → Way (scene_by trusted parts own) device frame kind → (k : ℕ) × (own : Device) × (slice_get parts.devices k ≡ Some own) × (own.id ≡ device)
place_beside trusted parts blocks beside.Nothing events device frame kind invariants sound way = has_place false trusted parts events device frame kind invariants way
place_beside trusted parts blocks (beside.Pointers features pointers) events device frame kind invariants sound way =
    pointed_place features.napot trusted parts pointers events device frame kind invariants way
place_beside trusted parts blocks (beside.UnderWay rows) events device frame kind invariants sound way =
    stepped_place trusted parts rows events device frame kind sound.walks sound.beside.board.ids invariants way

-- one place has one device
pub one_there : (devices : List Device) (k place : ℕ) (own other : Device) → k ≡ place → slice_get devices k ≡ Some own → slice_get devices place ≡ Some other → own ≡ other
one_there devices k place own other same there at = inside (sym there ∙ ap (slice_get devices) same ∙ at)
  where
    inside : Some own ≡ Some other → own ≡ other
    inside e = cc
