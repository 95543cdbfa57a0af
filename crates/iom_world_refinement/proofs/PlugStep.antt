-- A plug of the driver is one of the ledger machine.
use Rattle.std.proofs.Common.{◌≡◌, ◌==◌, ◌++◌, ◌∙◌, inl, inr, ℕ, Bool, true, false, List, [], ◌∷◌, length, map, nat_le, Option, Some, None, MatchOption, Result, Ok, Err, refl, sym, ap, subst, if◌then◌else◌}
use Rattle.std.specs.Option.{option_map_or}
use Rattle.std.proofs.lemmas.Bool.{false≢true}
use Rattle.iom_walk_coherence.specs.Walks.{Walk}
use Rattle.iom_base.specs.declared.access.AcceptedAccess.{AcceptedAccess}
use Rattle.iom_driver.specs.declared.device.Attachment.TheVariants as attached
use Rattle.iom_driver.specs.declared.device.Device as driver
use Rattle.iom_driver.specs.Calls.{AnswersPlug}
use Rattle.iom_driver.specs.Devices.{has_device, attachment_by_id, detached}
use Rattle.iom_driver.specs.Reasons.{why_not_plug}
use Rattle.iom_driver.specs.State.{DriverState}
use Rattle.iom_driver.proofs.Places.{attachment_plugged}
use Rattle.iom_inflight.specs.Flights.{NumberedAccess, FlightRow, Flights, new_row, row_of}
use Rattle.iom_iommu.specs.OwnIommu.{Iommu}
use Rattle.iom_iommu.specs.Parts.{flights_of}
use Rattle.iom_base.specs.declared.refusal.Refusal.{Refusal}
use Rattle.iom_base.specs.declared.refusal.Refusal.TheVariants.{Memory, AlreadyPlugged, TooManyDevices, BadMedium}
use Rattle.iom_base.specs.Refusals.{first_that_applies, NoneApplies}
use Rattle.iom_machine.specs.declared.outcome.Outcome.{Outcome}
use Rattle.iom_machine.specs.declared.state.Attachment.{Attachment}
use Rattle.iom_machine.specs.declared.state.Device as declared
use Rattle.iom_base.specs.declared.device_kind.NewDevice.{NewDevice}
use Rattle.iom_base.specs.Disks.{is_missing, without_disk}
use Rattle.iom_base.specs.DeviceKinds.{kind_of, disk_of, has_cache}
use Rattle.iom_machine.specs.declared.state.State.{State}
use Rattle.iom_machine.specs.Machine as machine
use Rattle.iom_machine.specs.Machine.{plugged_device}
use Rattle.iom_machine.specs.Refusals as refusals
use Rattle.iom_machine.specs.Refusals.{MayRefusePlug}
use Rattle.iom_device.specs.declared.device.Device.{Device}
use Rattle.iom_world_effects.specs.Devices.{shown_attachment, shown_device, shown_devices, accepted_of, in_flight_of}
use Rattle.iom_world_effects.specs.Answers.{outcome_of_done}
use Rattle.iom_world_effects.specs.Effect.{PlugsDevice, PlugsIn, LacksDisk, AddsRow, new_device, devices_after}
use Rattle.iom_world_effects.specs.Parts.{Parts}
use Rattle.iom_world_effects.specs.Shows.{PartsShow}
use Rattle.iom_world_effects.specs.Invariant.{InvariantWith}
use Rattle.iom_world_refinement.proofs.ReasonLemmas.{plug_first, none_known}
use Rattle.iom_world_effects.proofs.UnchangedLemmas.{shows_same}

-- THE ROWS

-- what is accepted and in flight of a row, if there is one
abbrev accepted_in : Option FlightRow → ℕ
accepted_in found = option_map_or (λ (row : FlightRow). row.accepted) found 0

abbrev waiting_in : Option FlightRow → List AcceptedAccess
waiting_in found = option_map_or (λ (row : FlightRow). map (λ (flight : NumberedAccess). flight.accepted) row.waiting) found []

-- a new row at the end changes nothing of what any device has
accepted_plugged : (rows : List FlightRow) (id other : ℕ) → accepted_of (rows ++ new_row id ∷ []) other ≡ accepted_of rows other
accepted_plugged [] id other = by (id == other)
  where
    by : (b : Bool) → accepted_in (if b then Some (new_row id) else None) ≡ 0
    by true = refl
    by false = refl
accepted_plugged (row ∷ rows) id other = by (row.device == other) (accepted_plugged rows id other)
  where
    by : (b : Bool) → accepted_of (rows ++ new_row id ∷ []) other ≡ accepted_of rows other
        → accepted_in (if b then Some row else row_of (rows ++ new_row id ∷ []) other) ≡ accepted_in (if b then Some row else row_of rows other)
    by true rest = refl
    by false rest = rest

in_flight_plugged : (rows : List FlightRow) (id other : ℕ) → in_flight_of (rows ++ new_row id ∷ []) other ≡ in_flight_of rows other
in_flight_plugged [] id other = by (id == other)
  where
    by : (b : Bool) → waiting_in (if b then Some (new_row id) else None) ≡ []
    by true = refl
    by false = refl
in_flight_plugged (row ∷ rows) id other = by (row.device == other) (in_flight_plugged rows id other)
  where
    by : (b : Bool) → in_flight_of (rows ++ new_row id ∷ []) other ≡ in_flight_of rows other
        → waiting_in (if b then Some row else row_of (rows ++ new_row id ∷ []) other) ≡ waiting_in (if b then Some row else row_of rows other)
    by true rest = refl
    by false rest = rest

-- THE DEVICES

-- a device as the machine has it
abbrev machine_as : Device → Attachment → ℕ → List AcceptedAccess → declared.Device
machine_as device attachment accepted in_flight = record {
  id = device.id;
  kind = device.kind;
  has_disk = device.has_disk;
  attachment = attachment;
  accepted = accepted;
  in_flight = in_flight;
}

-- driver and IOMMU know the same of each device
record AreAlike (known known' : List driver.Device) (rows rows' : List FlightRow) : Type 0 where
  attachment : (id : ℕ) → attachment_by_id known' id ≡ attachment_by_id known id
  accepted : (id : ℕ) → accepted_of rows' id ≡ accepted_of rows id
  in_flight : (id : ℕ) → in_flight_of rows' id ≡ in_flight_of rows id

device_alike : (known known' : List driver.Device) (rows rows' : List FlightRow) (device : Device) → AreAlike known known' rows rows' → shown_device known rows device ≡ shown_device known' rows' device
device_alike known known' rows rows' device same =
    ap (λ how. machine_as device (shown_attachment how) (accepted_of rows device.id) (in_flight_of rows device.id)) (sym (same.attachment device.id))
    ∙ ap (λ n. machine_as device (shown_attachment (attachment_by_id known' device.id)) n (in_flight_of rows device.id)) (sym (same.accepted device.id))
    ∙ ap (λ fs. machine_as device (shown_attachment (attachment_by_id known' device.id)) (accepted_of rows' device.id) fs) (sym (same.in_flight device.id))

-- a device of which driver and IOMMU know nothing is shown as it is plugged in
device_plugged : (known : List driver.Device) (rows : List FlightRow) (id : ℕ) (what : NewDevice) → attachment_by_id known id ≡ attached.Detached → row_of rows id ≡ None
    → plugged_device id what ≡ shown_device known rows (new_device id what)
device_plugged known rows id what none no_row =
    ap (λ how. machine_as (new_device id what) (shown_attachment how) 0 []) (sym none)
    ∙ ap (λ found. machine_as (new_device id what) (shown_attachment (attachment_by_id known id)) (accepted_in found) (waiting_in found)) (sym no_row)

-- the machine's devices have the new one at their end
shown_plugged : (known known' : List driver.Device) (rows rows' : List FlightRow) (devices : List Device) (id : ℕ) (what : NewDevice) → AreAlike known known' rows rows'
    → attachment_by_id known id ≡ attached.Detached → row_of rows id ≡ None
    → shown_devices known rows devices ++ plugged_device id what ∷ [] ≡ shown_devices known' rows' (devices ++ new_device id what ∷ [])
shown_plugged known known' rows rows' [] id what same none no_row =
    ap (λ (d : declared.Device). d ∷ []) (device_plugged known rows id what none no_row ∙ device_alike known known' rows rows' (new_device id what) same)
shown_plugged known known' rows rows' (device ∷ others) id what same none no_row =
    ap (λ (d : declared.Device). d ∷ (shown_devices known rows others ++ plugged_device id what ∷ [])) (device_alike known known' rows rows' device same)
    ∙ ap (λ ds. shown_device known' rows' device ∷ ds) (shown_plugged known known' rows rows' others id what same none no_row)

-- where no reason applies the driver knows no such device
unplugged_then : (there many : Bool) → first_that_applies ((there, AlreadyPlugged) ∷ (many, TooManyDevices) ∷ []) ≡ None → there ≡ false
unplugged_then false many none = refl
unplugged_then true many none = cc

-- the machine's state after it
abbrev plugged_state : State → ℕ → NewDevice → State
plugged_state state id what =
    record state { devices = state.devices ++ plugged_device id what ∷ []; disks = without_disk (disk_of what) state.disks }

shows_plugged : (old new : Parts) (id : ℕ) (what : NewDevice) → NoneApplies (why_not_plug old.driver id) → new.driver ≡ record old.driver { devices = old.driver.devices ++ detached id (has_cache (kind_of what)) ∷ [] }
    → row_of (flights_of old.iommu).rows id ≡ None → (flights_of new.iommu).rows ≡ (flights_of old.iommu).rows ++ new_row id ∷ []
    → new.memory ≡ old.memory → new.devices ≡ old.devices ++ new_device id what ∷ [] → (state : State) → PartsShow old state → PartsShow new (plugged_state state id what)
shows_plugged old new id what none driver no_row row memory devices state shows =
    let d = old.driver in
    let rows = (flights_of old.iommu).rows in
    let unplugged = unplugged_then (has_device d.devices id) (nat_le 16 (length d.devices)) none in
    let plugged = shown_plugged d.devices (d.devices ++ detached id (has_cache (kind_of what)) ∷ []) rows (rows ++ new_row id ∷ []) old.devices id what
    (record { attachment = λ other. attachment_plugged d.devices id (has_cache (kind_of what)) other; accepted = λ other. accepted_plugged rows id other; in_flight = λ other. in_flight_plugged rows id other })
    (none_known d.devices id unplugged) no_row in
    record {
      ledger = rw (ap (λ (x : DriverState). x.ledger) driver) shows.ledger;
      frames = rw (memory, ap (λ (x : DriverState). x.owners) driver) shows.frames;
      devices = rw (devices, row, ap (λ (x : DriverState). x.devices) driver) (ap (λ ds. ds ++ plugged_device id what ∷ []) shows.devices ∙ plugged);
      given = shows.given ∙ sym (ap (λ (x : DriverState). x.given) driver);
      confirmed = shows.confirmed ∙ sym (ap (λ (x : DriverState). x.confirmed) driver);
      all_earlier = rw (ap (λ (x : DriverState). x.confirmed) driver) shows.all_earlier;
      none_later = rw (ap (λ (x : DriverState). x.confirmed) driver) shows.none_later;
      levels = shows.levels ∙ sym (ap (λ (x : DriverState). x.levels) driver);
      limits = shows.limits;
    }

-- the machine's reasons are the driven, and then that the disk isn't at hand
abbrev then_missing : Option Refusal → Bool → Option Refusal
then_missing (Some why) missing = Some why
then_missing None true = Some BadMedium
then_missing None false = None

three_first : (there many missing : Bool)
    → first_that_applies ((there, AlreadyPlugged) ∷ (many, TooManyDevices) ∷ (missing, BadMedium) ∷ []) ≡ then_missing (first_that_applies ((there, AlreadyPlugged) ∷ (many, TooManyDevices) ∷ [])) missing
three_first true many missing = refl
three_first false true missing = refl
three_first false false true = refl
three_first false false false = refl

reasons_first : {walks : List Walk} (old : Parts) (events : ℕ) (state : State) (id : ℕ) (what : NewDevice) → InvariantWith walks old events → PartsShow old state
    → first_that_applies (refusals.plug_reasons state id what) ≡ then_missing (first_that_applies (why_not_plug old.driver id)) (is_missing state.disks (disk_of what))
reasons_first old events state id what invariants shows =
    three_first (refusals.is_plugged state id) (nat_le state.limits.devices (length state.devices)) (is_missing state.disks (disk_of what))
    ∙ ap (λ first. then_missing first (is_missing state.disks (disk_of what))) (plug_first old events state id invariants shows)

-- what the driver refuses the machine refuses, where the disk is at hand, or isn't looked at
refused_so : (driven : Option Refusal) (missing : Bool) (why : Refusal) → (driven ≡ None → missing ≡ false) → MatchOption driven (why ≡ Memory) (λ first. why ≡ first)
    → MatchOption (then_missing driven missing) (MayRefusePlug why) (λ first. why ≡ first)
refused_so (Some first) missing why found is = is
refused_so None true why found is = absurd (false≢true (sym (found refl)))
refused_so None false why found is = subst MayRefusePlug (sym is) tt

-- where one disk is named that isn't at hand
lacks_step : {walks : List Walk} (disks : List ℕ) (old new : Parts) (events id : ℕ) (what : NewDevice) (reply : Outcome) → InvariantWith walks old events → LacksDisk disks old id what reply new
    → (state : State) → PartsShow old state → state.disks ≡ disks → (next : State) × machine.Plugs state id what reply next × PartsShow new next
lacks_step disks old new events id what reply invariants lacks state shows same =
    let missing : is_missing state.disks (disk_of what) ≡ true = ap (λ (ds : List ℕ). is_missing ds (disk_of what)) same ∙ lacks.missing in
    let first : first_that_applies (refusals.plug_reasons state id what) ≡ Some BadMedium =
    reasons_first old events state id what invariants shows ∙ ap (λ (none : Option Refusal). then_missing none (is_missing state.disks (disk_of what))) lacks.admitted ∙ ap (then_missing None) missing in (
      state,
      subst (λ t. machine.Plugs state id what t state) (sym lacks.reply_is) (subst (λ (o : Option Refusal). MatchOption o (MayRefusePlug BadMedium) (λ one. BadMedium ≡ one)) (sym first) refl, refl),
      subst (λ parts. PartsShow parts state) (sym lacks.same) shows,
    )

-- where the driver is told
plugs_step : {walks : List Walk} (disks : List ℕ) (old new : Parts) (events id : ℕ) (what : NewDevice) (reply : Outcome) → InvariantWith walks old events → PlugsIn disks old id what reply new
    → (state : State) → PartsShow old state → state.disks ≡ disks → (next : State) × machine.Plugs state id what reply next × PartsShow new next
plugs_step disks old new events id what reply invariants effect state shows same = by effect.answer effect.reply_is effect.call effect.row effect.devices
  where
    found : NoneApplies (why_not_plug old.driver id) → is_missing state.disks (disk_of what) ≡ false
    found none = ap (λ (ds : List ℕ). is_missing ds (disk_of what)) same ∙ effect.disk none

    by : (answer : Result (Unit {0}) Refusal) → reply ≡ outcome_of_done answer → AnswersPlug old.driver id (has_cache (kind_of what)) answer new.driver → AddsRow answer old.iommu id new.iommu
        → new.devices ≡ devices_after answer old.devices id what → (next : State) × machine.Plugs state id what reply next × PartsShow new next
    by (Ok done) is call row devices = (
      plugged_state state id what,
      subst (λ t. machine.Plugs state id what t (plugged_state state id what)) (sym is) (
        reasons_first old events state id what invariants shows ∙ ap (λ (none : Option Refusal). then_missing none (is_missing state.disks (disk_of what))) call.0 ∙ ap (then_missing None) (found call.0),
        refl,
      ),
      shows_plugged old new id what call.0 call.1 row.flights.0 (ap (λ (f : Flights). f.rows) row.flights.2) effect.memory devices state shows,
    )
    by (Err why) is call row devices = (
      state,
      subst (λ t. machine.Plugs state id what t state) (sym is) (
        subst (λ (o : Option Refusal). MatchOption o (MayRefusePlug why) (λ one. why ≡ one)) (sym (reasons_first old events state id what invariants shows))
            (refused_so (first_that_applies (why_not_plug old.driver id)) (is_missing state.disks (disk_of what)) why found call.0),
        refl,
      ),
      shows_same old new state effect.memory (ap (λ (i : Iommu). flights_of i) row) devices call.1 shows,
    )

pub plug_step : {walks : List Walk} (disks : List ℕ) (old new : Parts) (events id : ℕ) (what : NewDevice) (reply : Outcome) → InvariantWith walks old events → PlugsDevice disks old id what reply new
    → (state : State) → PartsShow old state → state.disks ≡ disks → (next : State) × machine.Plugs state id what reply next × PartsShow new next
plug_step disks old new events id what reply invariants (inl lacks) state shows same = lacks_step disks old new events id what reply invariants lacks state shows same
plug_step disks old new events id what reply invariants (inr effect) state shows same = plugs_step disks old new events id what reply invariants effect state shows same
