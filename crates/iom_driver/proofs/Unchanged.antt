-- The tables of devices while other frames change.
use Rattle.std.proofs.Common.{◌≡◌, ◌≢◌, ◌-◌, ◌*◌, ◌≤◌, ◌∙◌, ◌⊎◌, inl, inr, ℕ, Bool, arith, List, length, Option, Some, option_map, slice_get, refl, sym, ap, subst, [], ◌∷◌, ◌++◌}
use Rattle.iom_ledger.specs.declared.ledger.Ledger.{Ledger}
use Rattle.iom_ledger.specs.Shown.{held_in}
use Rattle.iom_page_table.proofs.Unchanged.{unchanged}
use Rattle.iom_page_table.specs.FirstTables.{HasTable}
use Rattle.iom_base.specs.declared.mode.Mode.{Mode}
use Rattle.iom_base.specs.Modes.{size_in}
use Rattle.iom_base.specs.declared.owner.Owner.{Owner}
use Rattle.iom_base.specs.declared.owner.Owner.TheVariants.{OneDevice, System}
use Rattle.iom_registers.specs.declared.registers.Registers.{Registers}
use Rattle.iom_driver.specs.declared.device.Device.{Device}
use Rattle.iom_driver.specs.Devices.{detached, attached_stages, owned_stages}
use Rattle.iom_driver.specs.Directory.{located_for, NamesDirectory}
use Rattle.iom_driver.specs.Laws.{KeepsReserved, KeepsRing}
use Rattle.iom_driver.specs.Layout.{AreFixed, IsLevels, fault_frame, completion_frame, directory_frame}
use Rattle.iom_driver.specs.Ready.{TablesStand, IsRing, IsReady}
use Rattle.iom_driver.specs.State.{DriverState}
use Rattle.iom_driver.specs.Tables.{AreTablesOf, HaveTables, leaf_for}
use Rattle.iom_driver.proofs.Directories.{directory_stay, stands_in, in_stands}
use Rattle.iom_driver.proofs.FaultRings.{fault_ring_stays, same_faults}
use Rattle.iom_driver.proofs.Owners.{Among}
use Rattle.iom_driver.proofs.Modes.{rest, rooted, root_in, table_of, table_in}
use Rattle.iom_driver.proofs.Places.{attachment_plugged}

-- the frames that are the device's stay as they are, owner and bytes, and so does what it holds: its tables do
pub tables_stay : (memory memory' : List (List ℕ)) (owners owners' : List (Option Owner)) (ledger ledger' : Ledger) (id : ℕ) (mode : Mode) (root : ℕ) → AreTablesOf memory owners ledger id mode root
    → ((n : ℕ) → slice_get owners n ≡ Some (Some (OneDevice id)) → (slice_get memory' n ≡ slice_get memory n) × (slice_get owners' n ≡ slice_get owners n))
    → ((page : ℕ) → held_in ledger' id page ≡ held_in ledger id page) → AreTablesOf memory' owners' ledger' id mode root
tables_stay memory memory' owners owners' ledger ledger' id mode root tables kept held =
    let was = rooted mode memory root tables.tree in
    let own = λ (f : ℕ) (at : HasTable (size_in mode) memory root f ⊎ Among f (rest mode root)). tables.own f (table_in mode memory root f at) in
    let same = unchanged (size_in mode) memory memory' root was.tree (λ f at. (kept f (own f (inl at))).0) in
    record {
      tree = root_in mode memory' root record {
        tree = same.tree;
        others = λ f here. (kept f (own f (inr here))).0 ∙ was.others f here;
        apart = λ f at here. was.apart f ((same.tables f).0 at) here;
        aligned = was.aligned;
      };
      own = λ f at. elim (table_of mode memory' root f at) [
        | inl now ↦ let before = own f (inl ((same.tables f).0 now)) in (kept f before).1 ∙ before
        | inr here ↦ (kept f (own f (inr here))).1 ∙ own f (inr here)
      ];
      low = λ page high. held page ∙ tables.low page high;
      leaves = λ page low. same.leaves page ∙ tables.leaves page low ∙ ap (option_map leaf_for) (sym (held page));
    }

-- the same, where the owners and the ledger stay
pub tables_kept : (memory memory' : List (List ℕ)) (owners : List (Option Owner)) (ledger : Ledger) (id : ℕ) (mode : Mode) (root : ℕ) → AreTablesOf memory owners ledger id mode root
    → ((n : ℕ) → slice_get owners n ≡ Some (Some (OneDevice id)) → slice_get memory' n ≡ slice_get memory n) → length memory' ≡ length memory
    → AreTablesOf memory' owners ledger id mode root
tables_kept memory memory' owners ledger id mode root tables kept size =
    tables_stay memory memory' owners owners ledger ledger id mode root tables (λ n own. (kept n own, refl)) (λ page. refl)

-- each frame that is a device's stays as it is, and so does what is held: all tables do
pub all_stay : (memory memory' : List (List ℕ)) (owners : List (Option Owner)) (ledger ledger' : Ledger) (devices : List Device) → HaveTables memory owners ledger devices
    → ((n id : ℕ) → slice_get owners n ≡ Some (Some (OneDevice id)) → slice_get memory' n ≡ slice_get memory n)
    → ((id page : ℕ) → held_in ledger' id page ≡ held_in ledger id page) → HaveTables memory' owners ledger' devices
all_stay memory memory' owners ledger ledger' devices tables kept held id stage at =
    tables_stay memory memory' owners owners ledger ledger' id stage.mode stage.root (tables id stage at) (λ n own. (kept n id own, refl)) (λ page. held id page)

-- a frame of the system's is no device's
pub of_one : (owners : List (Option Owner)) (n m id : ℕ) → slice_get owners n ≡ Some (Some System) → slice_get owners m ≡ Some (Some (OneDevice id)) → m ≢ n
of_one owners n m id system own same =
    let both : ◌≡◌ {A = Option (Option Owner)} (Some (Some (OneDevice id))) (Some (Some System)) = sym own ∙ ap (λ k. slice_get owners k) same ∙ system in cc

-- a driver is ready while others keep its reserved frames, but that of the completion word, and its ring and its directory's place
pub ready_stays : (d : DriverState) (old new : List (List ℕ)) (r s : Registers) → 64 ≤ length old → AreFixed d.owners (length old) → IsLevels d.levels → IsReady d old r → KeepsReserved d old new → KeepsRing r s → IsReady d new s
ready_stays d old new r s many fixed range ready keeps ring = record {
  stand = record {
    size = keeps.size ∙ ready.stand.size;
    tables = all_stay old new d.owners d.ledger d.ledger d.devices ready.stand.tables
        (λ n id own. keeps.bytes n (OneDevice id) own (of_one d.owners (completion_frame (length old)) n id fixed.completion own)) (λ id page. refl);
    directory = λ started.
        stands_in (length old) new d.owners d.devices d.levels keeps.size
        (directory_stay (length old) old new d.owners d.owners d.devices d.devices d.levels range keeps.size
        (λ n own. (keeps.bytes n System own.system own.no_completion, refl)) (λ id. refl) (λ id stage at. at)
        (in_stands (length old) old d.owners d.devices d.levels refl (ready.stand.directory started)));
  };
  ring = λ started.
      let was = ready.ring started in
      record {
        on = ring.on ∙ was.on;
        base = ring.base ∙ was.base ∙ ap (λ n. 4096 * (n - 1)) (sym keeps.size);
        entries = ring.entries ∙ was.entries;
      };
  faults = λ started.
      fault_ring_stays old new r s keeps.size (keeps.bytes (fault_frame (length old)) System fixed.fault (λ same. absurd (omega (arith, many, same))))
      record { on = ring.faults_on; base = ring.faults_base; head = ring.faults_head; tail = ring.faults_tail } (ready.faults started);
  directory = λ started.
      let was = ready.directory started in record { mode = ring.mode ∙ was.mode; root = ring.root ∙ was.root ∙ ap directory_frame (sym keeps.size) };
}

-- a call that starts nothing and leaves how large memory is, and what the IOMMU reported, leaves what the registers name
pub ready_from : (d d' : DriverState) (memory memory' : List (List ℕ)) (r : Registers) → TablesStand d' memory' → length memory' ≡ length memory
    → slice_get memory' (fault_frame (length memory)) ≡ slice_get memory (fault_frame (length memory)) → d'.started ≡ d.started → d'.levels ≡ d.levels
    → IsReady d memory r → IsReady d' memory' r
ready_from d d' memory memory' r stand size unreported started levels ready = record {
  stand = stand;
  ring = λ runs. subst (λ n. IsRing n r) (sym size) (ready.ring (sym started ∙ runs));
  faults = λ runs. fault_ring_stays memory memory' r r size unreported (same_faults r) (ready.faults (sym started ∙ runs));
  directory = λ runs. subst (λ n. NamesDirectory n d'.levels r) (sym size) (subst (λ l. NamesDirectory (length memory) l r) (sym levels) (ready.directory (sym started ∙ runs)));
}

-- and so does one more device that is attached to nothing
pub ready_plugged : (d : DriverState) (memory : List (List ℕ)) (r : Registers) (id : ℕ) (trusted : Bool) → IsReady d memory r
    → IsReady (record d { devices = d.devices ++ detached id trusted ∷ [] }) memory r
ready_plugged d memory r id trusted ready = record {
  stand = record {
    size = ready.stand.size;
    tables = λ other stage at. ready.stand.tables other stage (sym (ap owned_stages (attachment_plugged d.devices id trusted other)) ∙ at);
    directory = λ runs.
        let stands = ready.stand.directory runs in
        record {
          tree = stands.tree;
          own = stands.own;
          contexts = λ other low. stands.contexts other low ∙ ap located_for (sym (ap attached_stages (attachment_plugged d.devices id trusted other)));
          places = λ other stage at low. stands.places other stage (sym (ap owned_stages (attachment_plugged d.devices id trusted other)) ∙ at) low;
        };
  };
  ring = ready.ring;
  faults = ready.faults;
  directory = ready.directory;
}
