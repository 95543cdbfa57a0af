-- A device that is plugged in stands behind the others, as its row does.
use Rattle.std.proofs.Common.{◌≡◌, ◌<◌, ◌∙◌, ◌++◌, ◌∷◌, [], inl, inr, ℕ, Bool, true, false, nat_le, List, length, Option, None, Some, IsSome, Result, Ok, Err, ap, arith, refl, sym, subst}
use Rattle.std.proofs.lemmas.Bool.{leb-true}
use Rattle.iom_base.specs.DeviceKinds.{disk_of, has_cache, is_any_kind, kind_of}
use Rattle.iom_base.specs.Disks.{without_disk}
use Rattle.iom_base.specs.declared.device_kind.DeviceKind.{DeviceKind}
use Rattle.iom_base.specs.declared.device_kind.NewDevice.{NewDevice}
use Rattle.iom_base.specs.declared.refusal.Refusal.{Refusal}
use Rattle.iom_base.specs.declared.refusal.Refusal.TheVariants.{BadMedium}
use Rattle.std.proofs.lemmas.Bool.Decides.{eqb_tells}
use Rattle.iom_block_devices.specs.Shown.{ShownBlocks}
use Rattle.iom_board.specs.Invariant.{device_ids}
use Rattle.iom_board.specs.Permits.{IsPermitted}
use Rattle.iom_board.specs.Plugging.{StandsBehindOthers}
use Rattle.iom_board.proofs.Permitted.{added}
use Rattle.iom_device.specs.Caches.{kind_in}
use Rattle.iom_driver.specs.Calls.{AnswersPlug}
use Rattle.iom_inflight.specs.Flights.{FlightRow, row_of as flight_row}
use Rattle.iom_iommu.specs.Parts.{flights_of}
use Rattle.iom_hardware.specs.Blocks.{PlugsInside}
use Rattle.iom_machine.specs.declared.event.Event.{Event}
use Rattle.iom_machine.specs.declared.outcome.Outcome.{Outcome}
use Rattle.iom_machine.specs.declared.outcome.Outcome.TheVariants as outcome
use Rattle.iom_stepped_board.specs.Beside.{AreBeside}
use Rattle.iom_stepped_board.proofs.BesideLemmas.{stays}
use Rattle.iom_stepped_refinement.specs.Laws.{LeavesRows}
use Rattle.iom_walks.specs.Calls.{Adds}
use Rattle.iom_walks.specs.Walks.{WalkRow, new_row, row_of, under_way_in}
use Rattle.iom_walks.proofs.Rows.{row_of_append_other, row_of_new}
use Rattle.iom_world.specs.Blocks.{PlugsBlock}
use Rattle.iom_world.specs.OnHardware.{hardware_of}
use Rattle.iom_world_effects.proofs.PresentLemmas.{length-rows}
use Rattle.iom_world_effects.specs.Answers.{outcome_of_done}
use Rattle.iom_world_effects.specs.Effect.{AddsRow, PlugsDevice, devices_after}
use Rattle.iom_world_effects.specs.Invariant.{AreKnown}
use Rattle.iom_world_effects.specs.Parts.{Parts}
use Rattle.iom_world_walks.specs.Events.{GivesUp}

-- no device has an id of which there is no row
unknown : (old : Parts) (id : ℕ) → AreKnown old → flight_row (flights_of old.iommu).rows id ≡ None → kind_in old.devices id ≡ None
unknown old id known none = by (kind_in old.devices id) refl
  where
    by : (found : Option DeviceKind) → kind_in old.devices id ≡ found → found ≡ None
    by None is = refl
    by (Some kind) is =
        let there : IsSome (flight_row (flights_of old.iommu).rows id) =
        added is_any_kind (flights_of old.iommu).rows old.devices id None known.iommu (subst (λ k. IsPermitted is_any_kind k None) (sym is) refl) refl in
        let never : IsSome {T = FlightRow} None = subst (λ (r : Option FlightRow). IsSome r) none there in
        cc

pub stands_behind : (disks : List ℕ) (old new : Parts) (id : ℕ) (what : NewDevice) → AreKnown old → PlugsDevice disks old id what outcome.Done new
    → StandsBehindOthers disks (hardware_of old) id what (hardware_of new) (without_disk (disk_of what) disks)
stands_behind disks old new id what known (inl lacks) = let never : ◌≡◌ (outcome.Done) (outcome.Refused BadMedium) = lacks.reply_is in cc
stands_behind disks old new id what known (inr plugs) = by plugs.answer plugs.reply_is plugs.call plugs.row plugs.devices
  where
    is_few : (n : ℕ) → n < 16 → nat_le 16 n ≡ false
    is_few n lt = decide (nat_le 16 n) refl
      where
        decide : (b : Bool) → nat_le 16 n ≡ b → nat_le 16 n ≡ false
        decide false is = is
        decide true is = let many = leb-true 16 n is in absurd (omega (arith, many, lt))

    by : (answer : Result (Unit {0}) Refusal) → outcome.Done ≡ outcome_of_done answer → AnswersPlug old.driver id (has_cache (kind_of what)) answer new.driver → AddsRow answer old.iommu id new.iommu
        → new.devices ≡ devices_after answer old.devices id what → StandsBehindOthers disks (hardware_of old) id what (hardware_of new) (without_disk (disk_of what) disks)
    by (Err why) is call row devices = cc
    by (Ok done) is call row devices =
        let kind = unknown old id known row.flights.0 in
        let few : nat_le 16 (length old.devices) ≡ false = is_few (length old.devices) (subst (λ n. n < 16) (length-rows (flights_of old.iommu).rows old.devices known.iommu) row.flights.1) in
        record {
          admitted = rw (kind, few, plugs.disk call.0) refl;
          row = row;
          devices = devices;
          memory = plugs.memory;
          fabric = plugs.fabric;
          taken = refl;
        }

-- it is done inside the hardware too
pub plugs_inside : (what : NewDevice) (before after : ShownBlocks) (id : ℕ) → PlugsBlock (disk_of what) before id outcome.Done after → PlugsInside (disk_of what) before id (Ok tt) after
plugs_inside what before after id plugs = by (disk_of what) plugs
  where
    by : (number : Option ℕ) → PlugsBlock number before id outcome.Done after → PlugsInside number before id (Ok tt) after
    by None same = same
    by (Some number) is = is

-- the row of a device that is plugged in is idle; the others stay
pub rows_added : (old : Parts) (event : Event) (answered : Outcome) (rows new_rows : List WalkRow) (id : ℕ) → Adds rows id true new_rows → ((device : ℕ) → GivesUp old event answered device → ⊥)
    → LeavesRows old event answered rows new_rows
rows_added old event answered rows new_rows id adds none = record {
  left = λ other keeps. elim (eqb_tells other id) [
    | inl e ↦ inr (ap under_way_in (ap (row_of rows) e.1 ∙ adds.0), ap under_way_in (ap (λ (rs : List WalkRow). row_of rs other) adds.2 ∙ ap (row_of (rows ++ new_row id ∷ [])) e.1 ∙ row_of_new rows (new_row id) adds.0))
    | inr ne ↦ inl (ap (λ (rs : List WalkRow). row_of rs other) adds.2 ∙ row_of_append_other rows (new_row id) other ne.1)
  ];
  gone = λ other gives. absurd (none other gives);
}

-- where it isn't, the board stays
pub board_unplugged : (disks : List ℕ) (old new : Parts) (rows : List WalkRow) (id : ℕ) (what : NewDevice) (answered : Outcome) → (answered ≡ outcome.Done → ⊥) → AreBeside (hardware_of old) rows
    → PlugsDevice disks old id what answered new → AreBeside (hardware_of new) rows
board_unplugged disks old new rows id what answered not_done beside (inl lacks) = subst (λ (p : Parts). AreBeside (hardware_of p) rows) (sym lacks.same) beside
board_unplugged disks old new rows id what answered not_done beside (inr plugs) = by plugs.answer plugs.reply_is plugs.row plugs.devices
  where
    by : (answer : Result (Unit {0}) Refusal) → answered ≡ outcome_of_done answer → AddsRow answer old.iommu id new.iommu → new.devices ≡ devices_after answer old.devices id what
        → AreBeside (hardware_of new) rows
    by (Ok done) is row devices = absurd (not_done is)
    by (Err why) is row devices = stays (hardware_of old) (hardware_of new) rows beside (ap device_ids devices) (ap flights_of row)
