-- A board stays sound whatever software does to its memory and registers.
use Rattle.std.proofs.Common.{◌≡◌, ◌≤◌, ◌∙◌, Bool, true, false, List, [], length, refl, sym, ap, subst, if◌then◌else◌}
use Rattle.std.specs.List.{All}
use Rattle.iom_device.specs.declared.device.Device.{Device}
use Rattle.iom_device.specs.Caches.{epoch_in, HaveTheirCaches}
use Rattle.iom_fabric.specs.declared.fabric.OnLink.{OnLink}
use Rattle.iom_inflight.specs.Flights.{Flights}
use Rattle.iom_iommu.specs.Parts.{registers_of, slots_of}
use Rattle.iom_registers.specs.Queues.{is_command_queue_on}
use Rattle.iom_registers.specs.Table.{written}
use Rattle.iom_board.specs.Software.{SoftwareKeepsInvariant, WritesAreSoftware}
use Rattle.iom_board.specs.Invariant.{device_ids, flight_ids, AreOfOneId, IsMessageOf}

pub software_keeps : SoftwareKeepsInvariant
software_keeps old new events invariants changes = record {
  size = changes.frames ∙ invariants.size ∙ sym changes.size;
  own_ids = subst AreOfOneId (sym changes.devices) invariants.own_ids;
  rows = ap (λ (f : Flights). flight_ids f.rows) changes.flights ∙ invariants.rows ∙ sym (ap device_ids changes.devices);
  caches = subst HaveTheirCaches (sym changes.devices) invariants.caches;
  askers = subst (λ (ds : List Device). All (IsMessageOf ds) new.fabric) (sym changes.devices) (subst (λ (f : List OnLink). All (IsMessageOf old.devices) f) (sym changes.fabric) invariants.askers);
  accepted = subst (λ (f : Flights). f.so_far ≤ events) (sym changes.flights) invariants.accepted;
  serials = subst (λ n. n ≤ events) (sym changes.last) invariants.serials;
  epochs = λ id. subst (λ (ds : List Device). epoch_in ds id ≤ events) (sym changes.devices) (invariants.epochs id);
}

pub writes_are : WritesAreSoftware
writes_are old register value = record {
  size = refl;
  frames = refl;
  flights = refl;
  last = by (is_command_queue_on (written (registers_of old.iommu) register value));
  devices = refl;
  fabric = refl;
}
  where
    by : (on : Bool) → (if on then slots_of old.iommu else (record (slots_of old.iommu) { open_slots = [] })).last ≡ (slots_of old.iommu).last
    by true = refl
    by false = refl
