-- What the parts of a survey have, put together: it misses nothing of the scene.
use Rattle.std.proofs.Common.{◌≡◌, ◌⊎◌, ◌∙◌, ◌==◌, inl, inr, ℕ, zero, suc, Bool, true, false, List, [], ◌∷◌, length, slice_get, Contains, Option, None, Some, if◌then◌else◌, subst, refl, sym, ap, arith}
use Rattle.std.specs.List.{find}
use Rattle.std.proofs.lemmas.Bool.Decides.{eqb_tells}
use Rattle.iom_base.specs.declared.access.AccessKind.{AccessKind}
use Rattle.iom_device.specs.Caches.{device_with}
use Rattle.iom_device.specs.declared.device.Device.{Device}
use Rattle.iom_board.specs.BoardParts.{BoardParts}
use Rattle.iom_board.specs.Invariant.{device_ids, flight_ids, BoardInvariant}
use Rattle.iom_hardware_ways.specs.Scenes.{flights_in, waiting_places}
use Rattle.iom_hardware_ways.proofs.ListLemmas.{in_none}
use Rattle.iom_inflight.specs.Flights.{FlightRow, row_of}
use Rattle.iom_inflight.specs.Invariant.{AreFlights}
use Rattle.iom_inflight.proofs.Kept.{sound_row}
use Rattle.iom_iommu.specs.Parts.{registers_of, flights_of}
use Rattle.iom_reach.specs.Safe.{IsRead, HasWord}
use Rattle.iom_reach.specs.Scene.{PendingAccess}
use Rattle.iom_reach.specs.Ways.{Way, Accepted, AnyFrame, ByContext, OnTheWalk}
use Rattle.iom_table_survey.specs.Rows.{row_has, GrowsBy}
use Rattle.iom_way_survey.specs.Directories.{DirectoryReads}
use Rattle.iom_way_survey.specs.Found.{WayOf, SomeTable}
use Rattle.iom_way_survey.specs.Queues.{IsFrameAmong, IsWordAmong, IsOfFaults}
use Rattle.iom_way_survey.specs.Surveys.{is_id_among, reach_in, reaches_in_rows, IsReachRow, AreRowsOf, TellsTrust}
use Rattle.iom_way_survey.specs.declared.findings.DeviceReach.{DeviceReach}
use Rattle.std.proofs.lemmas.List.Elements.{Contains-append_cases}
use Rattle.iom_reach.specs.Scene.{PartialWalk}
use Rattle.iom_way_survey.specs.Laws.{ArePlugged}
use Rattle.iom_stepped_ways.specs.Scenes.{access_on, added_of, stepped_scene}
use Rattle.iom_walks.specs.Invariant.{AreWalks}
use Rattle.iom_walks.specs.Walks.{UnderWay, WalkRow, under_way_of}
use Rattle.iom_way_survey.specs.Walking.{IsLetThrough}
use Rattle.iom_way_survey.proofs.UnderWayLemmas.{lets_through, part_under_way}
use Rattle.iom_way_survey.proofs.DirectoryLemmas.{directory_reads, tables_read}
use Rattle.iom_way_survey.proofs.QueueLemmas.{fault_stored}
use Rattle.iom_way_survey.proofs.WayLemmas.{way_of, plugged, device_place, none_is_some}

-- ROWS

-- in lists of one length something stands at the same place
pub same_place : {X Y : Type 0} (xs : List X) (ys : List Y) (k : ℕ) (x : X) → length xs ≡ length ys → slice_get xs k ≡ Some x → (y : Y) × (slice_get ys k ≡ Some y)
same_place [] ys k x long at = absurd (none_is_some x at)
same_place (a ∷ xs) [] k x long at = absurd (omega (arith, long))
same_place (a ∷ xs) (b ∷ ys) zero x long at = (b, refl)
same_place (a ∷ xs) (b ∷ ys) (suc k) x long at = same_place xs ys k x (omega (arith, long)) at

-- the device's row is found by the device's id
row_found : (parts : BoardParts) (under_way : List WalkRow) (trusted : List ℕ) (rows : List DeviceReach) (devices : List Device) (id : ℕ) (plug : Device) → length rows ≡ length devices
    → ((k : ℕ) (row : DeviceReach) (device : Device) → slice_get rows k ≡ Some row → slice_get devices k ≡ Some device → IsReachRow parts under_way trusted row device)
    → device_with devices id ≡ Some plug → (row : DeviceReach) × (find (λ (own : DeviceReach). own.id == id) rows ≡ Some row) × IsReachRow parts under_way trusted row plug
row_found parts under_way trusted rows [] id plug long each found = absurd (none_is_some plug found)
row_found parts under_way trusted [] (device ∷ devices) id plug long each found = absurd (omega (arith, long))
row_found parts under_way trusted (row ∷ rows) (device ∷ devices) id plug long each found =
    let own = each 0 row device refl refl in
    elim (eqb_tells device.id id) [
      | inl is ↦
          let here : Some device ≡ Some plug = rw is.0 at found in
          let same : device ≡ plug = cc in
          let yes' : (row.id == id) ≡ true = ap (λ n. n == id) own.id ∙ is.0 in
          (row, ap (λ (b : Bool). if b then Some row else find (λ (o : DeviceReach). o.id == id) rows) yes', subst (λ (d : Device). IsReachRow parts under_way trusted row d) same own)
      | inr ne ↦
          let other : (row.id == id) ≡ false = ap (λ n. n == id) own.id ∙ ne.0 in
          let (next, at, is) = row_found parts under_way trusted rows devices id plug (omega (arith, long)) (λ k r d. each (suc k) r d) (rw ne.0 at found) in
          (next, ap (λ (b : Bool). if b then Some row else find (λ (o : DeviceReach). o.id == id) rows) other ∙ at, is)
    ]

rows_reach : (parts : BoardParts) (under_way : List WalkRow) (trusted : List ℕ) (rows : List DeviceReach) (id : ℕ) (plug : Device) (kind : AccessKind) (frame : ℕ) → AreRowsOf parts under_way trusted rows
    → device_with parts.devices id ≡ Some plug → WayOf parts under_way plug kind frame → reaches_in_rows rows id kind frame ≡ true
rows_reach parts under_way trusted rows id plug kind frame are found way =
    let (row, at, is) = row_found parts under_way trusted rows parts.devices id plug are.long are.each found in
    ap (λ (o : Option DeviceReach). reach_in o kind frame) at ∙ (is.reach kind).all frame way

pub rows_trust : (parts : BoardParts) (under_way : List WalkRow) (trusted : List ℕ) (rows : List DeviceReach) → AreRowsOf parts under_way trusted rows → TellsTrust (stepped_scene (is_id_among trusted) parts under_way) rows
rows_trust parts under_way trusted rows are k row at =
    let (device, here) = same_place rows parts.devices k row are.long at in
    let is = are.each k row device at here in
    is.is_trusted ∙ ap (is_id_among trusted) (sym is.id)

-- WAYS

-- who has a row of accesses is plugged in
row_plugged : (rows : List FlightRow) (devices : List Device) (id : ℕ) (row : FlightRow) → flight_ids rows ≡ device_ids devices → row_of rows id ≡ Some row
    → (plug : Device) × (device_with devices id ≡ Some plug)
row_plugged [] devices id row same at = absurd (none_is_some row at)
row_plugged (first ∷ others) [] id row same at = absurd (cc)
row_plugged (first ∷ others) (device ∷ devices) id row same at =
    let one : first.device ≡ device.id = cc in
    let rest : flight_ids others ≡ device_ids devices = cc in
    elim (eqb_tells device.id id) [
      | inl is ↦ (device, rw is.0 refl)
      | inr ne ↦
          let other : (first.device == id) ≡ false = ap (λ n. n == id) one ∙ ne.0 in
          let (plug, found) = row_plugged others devices id row rest (rw other at at) in (plug, rw ne.0 found)
    ]

flying : (row : Option FlightRow) (access : PendingAccess) → Contains (flights_in row) access → (own : FlightRow) × (row ≡ Some own)
flying None access there = absurd (in_none access there)
flying (Some own) access there = (own, refl)

way_plugged : (trusted : ℕ → Bool) (parts : BoardParts) (under_way : List WalkRow) (id frame : ℕ) (kind : AccessKind) → AreWalks under_way → ArePlugged parts under_way
    → flight_ids (flights_of parts.iommu).rows ≡ device_ids parts.devices
    → Way (stepped_scene trusted parts under_way) id frame kind → (plug : Device) × (device_with parts.devices id ≡ Some plug)
way_plugged trusted parts under_way id frame kind walks plugs rows (Accepted there) =
    elim (Contains-append_cases (flights_in (row_of (flights_of parts.iommu).rows id)) ((added_of under_way).let_through id) (access_on frame kind) there) [
      | inl flies ↦ let (own, at) = flying (row_of (flights_of parts.iommu).rows id) (access_on frame kind) flies in row_plugged (flights_of parts.iommu).rows parts.devices id own rows at
      | inr lets ↦ let (own, is) = let_of (under_way_of under_way id) (lets_through under_way walks id frame kind lets) in plugs id own is
    ]
  where
    let_of : (found : Option UnderWay) → IsLetThrough found kind frame → (own : UnderWay) × (found ≡ Some own)
    let_of None never = absurd never
    let_of (Some own) is = (own, refl)
way_plugged trusted parts under_way id frame kind walks plugs rows (AnyFrame device bare) = plugged trusted parts under_way walks plugs id device
way_plugged trusted parts under_way id frame kind walks plugs rows (ByContext context may through) = plugged trusted parts under_way walks plugs id may.0
way_plugged trusted parts under_way id frame kind walks plugs rows (OnTheWalk s table steps_to mapping there leads serves) =
    let (other, own, is, (request, context, kept_in, stands, part, among, (same, serves))) = part_under_way under_way walks (record { device = Some id; space = s; table = table; steps_to = steps_to }) there in
    let some : Some id ≡ Some other = ap (λ (w : PartialWalk). w.device) same in
    let named : id ≡ other = cc in
    plugs id own (ap (under_way_of under_way) named ∙ is)

pub ways_reached : (parts : BoardParts) (under_way : List WalkRow) (trusted : List ℕ) (rows : List DeviceReach) (events : ℕ) → AreWalks under_way → ArePlugged parts under_way → BoardInvariant parts events
    → AreFlights (flights_of parts.iommu) → AreRowsOf parts under_way trusted rows
    → (id frame : ℕ) (kind : AccessKind) → Way (stepped_scene (is_id_among trusted) parts under_way) id frame kind → reaches_in_rows rows id kind frame ≡ true
ways_reached parts under_way trusted rows events walks plugs invariants flights are id frame kind way =
    let (plug, found) = way_plugged (is_id_among trusted) parts under_way id frame kind walks plugs invariants.rows way in
    let (k, low, (here, same)) = device_place parts.devices id plug found in
    rows_reach parts under_way trusted rows id plug kind frame are found
    (way_of (is_id_among trusted) parts under_way walks plugs plug frame kind (ap (device_with parts.devices) same ∙ found)
    (λ own at. (sound_row (flights_of parts.iommu).so_far (flights_of parts.iommu).rows plug.id own flights.rows at).few)
    (subst (λ (n : ℕ). Way (stepped_scene (is_id_among trusted) parts under_way) n frame kind) (sym same) way))

-- WHAT IS READ AND STORED

pub all_read : (trusted : ℕ → Bool) (parts : BoardParts) (rows : List WalkRow) → AreWalks rows → ArePlugged parts rows → (none tables directory all : List ℕ) → GrowsBy none tables (SomeTable parts rows)
    → GrowsBy tables directory (DirectoryReads parts rows)
    → GrowsBy directory all (IsFrameAmong (waiting_places (registers_of parts.iommu))) → (frame : ℕ) → IsRead (stepped_scene trusted parts rows) frame → row_has all frame ≡ true
all_read trusted parts rows walks plugs none tables directory all one two three frame (inl table) =
    three.unchanged frame (two.unchanged frame (one.added frame (tables_read trusted parts rows walks plugs frame table)))
all_read trusted parts rows walks plugs none tables directory all one two three frame (inr (inl path)) = three.unchanged frame (two.added frame (directory_reads trusted parts rows walks plugs frame path))
all_read trusted parts rows walks plugs none tables directory all one two three frame (inr (inr (offset, there))) = three.added frame (record { frame = frame; offset = offset }, there, refl)

pub all_stored : (trusted : ℕ → Bool) (parts : BoardParts) (rows : List WalkRow) (none words all : List ℕ) → GrowsBy none words (IsWordAmong parts.memory (waiting_places (registers_of parts.iommu)))
    → GrowsBy words all (IsOfFaults (registers_of parts.iommu)) → (frame : ℕ) → Contains (stepped_scene trusted parts rows).fault_frames frame ⊎ HasWord (stepped_scene trusted parts rows) frame
    → row_has all frame ≡ true
all_stored trusted parts rows none words all one two frame (inl fault) = two.added frame (fault_stored (registers_of parts.iommu) frame fault)
all_stored trusted parts rows none words all one two frame (inr word) = two.unchanged frame (one.added frame word)
